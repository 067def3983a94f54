-- Why good exits are all that are: a run that can take a whole stack off goes on by a good exit, or by a reduction that is found.
use Rattle.std.proofs.Common.{◌≡◌, ◌<◌, ◌∙◌, ℕ, zero, suc, Bool, inl, inr, List, [], ◌∷◌, None, Some, arith, refl, sym}
use Rattle.std.proofs.lemmas.Bool.{cases_lt}
use Rattle.lrpar_table_pops.specs.StoredAll.{IsSoundTable}
use Rattle.lrpar_grammar.specs.Grammar.{Grammar, GrammarSymbol, Nonterminal, rule_of, rules_len}
use Rattle.lrpar_table_rows.specs.Graph.{Graph}
use Rattle.lrpar_table_rows.specs.Safe.{GoesBy, IsSafe}
use Rattle.lrpar_table_rows.specs.Table.{FailsPastTokens, IsClosed, Table, action_of, states_len}
use Rattle.lrpar_table_pops.specs.AllGood.{AreAllGoodOver, AreAllIncluded, AreReductionsClosed, HasAllAbove, IsGoodControl, LeadToAll}
use Rattle.lrpar_table_pops.specs.Closed.{AreAllPopsOf, IsBackIn, IsIncluded}
use Rattle.lrpar_table_pops.specs.Growth.{HaveRoomFor, IsStored}
use Rattle.lrpar_table_pops.specs.Pops.{Control, Done, Dropping, Pops, PopsAll, Reading, accepts, drops, ends, goes, reduces, shifts}
use Rattle.lrpar_table_pops.specs.StoredPops.{any_of}
use Rattle.lrpar_table_pops.specs.declared.exits.Exit.{Exit}
use Rattle.lrpar_table_pops.specs.declared.pops.StateExits.{StateExits}
use Rattle.lrpar_table_pops.proofs.ClosedLemmas.{below_placed, run_leaves, token_within}
use Rattle.lrpar_table_pops.proofs.SaturateLemmas.{follows_acts}

-- the start state alone
pub start_all_good : (g : Grammar) (graph : Graph) (table : Table) (s : ℕ) (good : List Exit) → IsStored g good Done → AreAllGoodOver g graph table s [] good
start_all_good g graph table s good has_it (Reading t) left done = absurd left
start_all_good g graph table s good has_it (Dropping p k t) left done = absurd (let none : ⊥ = cc in none)
start_all_good g graph table s good has_it Done left done = has_it

module _ (g : Grammar) (graph : Graph) (table : Table) (sound : IsSoundTable g graph table) where
  safe : IsSafe g graph table
  safe = sound.safe

  closed : IsClosed table
  closed = sound.closed

  past : FailsPastTokens table
  past = sound.tokens

  module _ (states : List StateExits) (all : AreAllPopsOf g table states) (good : List Exit) (reduced : List (List Bool)) (room : HaveRoomFor g reduced) where
    -- a control with a place that is taken
    taken_way : (s : ℕ) (q : Control) → IsBackIn g graph s q → IsIncluded g good reduced q → IsGoodControl g good reduced q
    taken_way s (Reading t) placed h = h
    taken_way s (Dropping p zero t) placed h = (placed.0, h)
    taken_way s (Dropping p (suc left) t) placed h = h
    taken_way s Done placed h = h

    -- a run that takes a stack off
    taken_by : (q : Control) (s : ℕ) (r : Control) → Pops g table q s r → s < states_len table → (below : List ℕ) → AreAllGoodOver g graph table s below good
        → AreReductionsClosed g table states s good reduced → IsBackIn g graph s q → PopsAll g table r below → IsIncluded g good reduced q
    taken_by _ _ _ (drops s p left t) low below over ends_so placed rest = over (Dropping p left t) placed rest
    taken_by _ _ _ (reduces s t p r action pops) low below over ends_so placed rest = absurd placed
    taken_by _ _ _ (goes s p t next q r goto upper pops) low below over ends_so placed rest =
        let within = closed.gotos_within s (rule_of g p) next goto in
        let left = run_leaves g graph table safe closed past (Reading t) next q upper within tt in
        let back = below_placed g graph table safe closed past s next (Nonterminal (rule_of g p)) q low goto left in
        let on = taken_by q s r pops low below over ends_so back rest in
        let follows = all.by_token next t q within (s, rule_of g p, goto) upper in
        let acts = follows_acts g states next t (action_of table next t) q follows in
        let low_token = token_within g graph table safe closed past next t (action_of table next t) refl acts in
        let by_rule : rule_of g p < rules_len g = elim (cases_lt (rule_of g p) table.rules) as (λ _. rule_of g p < rules_len g) [
          | inl under ↦ let same = safe.shape.rules in omega (arith, under, same)
          | inr past_rule ↦ let no : None ≡ Some next = sym (sound.rules s (rule_of g p) past_rule) ∙ goto in absurd (let none : ⊥ = cc in none)
        ] in
        let long = room (rule_of g p) by_rule in
        ends_so (rule_of g p) next t goto q follows (taken_way s q back on) (omega (arith, long, low_token))
    taken_by _ _ _ (shifts s t next u q r action upper pops) low below over ends_so placed rest = absurd placed
    taken_by _ _ _ (accepts s action) low below over ends_so placed rest = absurd placed
    taken_by _ _ _ (ends s) low below over ends_so placed rest = over Done tt rest

    pub reductions_all : (s : ℕ) → s < states_len table → AreReductionsClosed g table states s good reduced → LeadToAll g graph table s good reduced
    reductions_all s low ends_so below over q placed pops = taken_by q s pops.0 pops.1 low below over ends_so placed pops.2

module _ (g : Grammar) (graph : Graph) (table : Table) (sound : IsSoundTable g graph table) where
  -- so the exits of the state above are all
  pub above_all : (s next : ℕ) (x : GrammarSymbol) (below : List ℕ) (good above : List Exit) (reduced : List (List Bool)) → s < states_len table
      → GoesBy table s x next → AreAllIncluded g graph table s below good reduced → HasAllAbove g graph next good reduced above
      → AreAllGoodOver g graph table next (s ∷ below) above
  above_all s next x below good above reduced low by all has_all r left pops =
      has_all r left (all r (below_placed g graph table sound.safe sound.closed sound.tokens s next x r low by left) pops)

  -- and if the top has none of them, no run takes the stack off
  pub stuck_all : (states : List StateExits) → AreAllPopsOf g table states → (s t : ℕ) (below : List ℕ) (good : List Exit) → s < states_len table
      → AreAllGoodOver g graph table s below good → ((r : Control) → IsStored g (any_of states s) r → ¬ (IsStored g good r))
      → ¬ (PopsAll g table (Reading t) (s ∷ below))
  stuck_all states all s t below good low over none pops =
      let left = run_leaves g graph table sound.safe sound.closed sound.tokens (Reading t) s pops.0 pops.1 low tt in
      none pops.0 (all.by_any s t pops.0 low pops.1) (over pops.0 left pops.2)
