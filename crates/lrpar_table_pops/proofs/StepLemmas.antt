-- What follows for a state from the exits of others.
use Rattle.std.proofs.Common.{◌≡◌, ◌≢◌, ◌-◌, ◌∙◌, refl, sym, ap, subst, arith, ℕ, suc, List, Option, Some, None, inl, inr}
use Rattle.std.specs.Prelude.{IsTrue}
use Rattle.lrpar_grammar.specs.Tokens.{has}
use Rattle.lrpar_table_pops.specs.Sets.{HaveNoTokens, RuleTokens, tokens_by}
use Rattle.lrpar_table_pops.specs.declared.exits.Exit.{Exit}
use Rattle.lrpar_table_pops.specs.declared.found.Found.{Found}
use Rattle.lrpar_grammar.specs.Grammar.{Grammar, end_token, prod_len, rule_of}
use Rattle.lrpar_table_rows.specs.Graph.{Graph}
use Rattle.lrpar_table_rows.specs.Safe.{IsSafe}
use Rattle.lrpar_table_rows.specs.Table.{Table, ShiftTo, ReduceBy, Accepts, Fails, FailsPastStates, action_of, goto_of, states_len}
use Rattle.lrpar_table_rows.specs.declared.condition.SafetyCondition.TheVariants.{S7}
use Rattle.std.proofs.lemmas.Bool.{cases_lt}
use Rattle.lrpar_table_pops.specs.Exits.{HasExit, HasNoExit}
use Rattle.lrpar_table_pops.specs.Found.{IsFound, IsOneOf, IsReducedAt, LeadsFrom}
use Rattle.lrpar_table_pops.specs.Pops.{Control, Done, Dropping, Pops, Reading, accepts, drops, ends, goes, reduces, shifts}
use Rattle.lrpar_table_pops.specs.StoredPops.{AcceptsAtEndAlone, ArePopsOf, any_of}
use Rattle.lrpar_table_pops.specs.declared.pops.StateExits.{StateExits}

-- the same number of a production and of a token
pub same_dropping : (p prod left t token : ℕ) → p ≡ prod → t ≡ token → Dropping p left t ≡ Dropping prod left token
same_dropping p prod left t token same_prod same_token =
    ap (λ (n : ℕ). Dropping n left t) same_prod ∙ ap (λ (n : ℕ). Dropping prod left n) same_token

module _ (g : Grammar) (table : Table) (s : ℕ) (at : Option ℕ) where
  -- a run that has accepted takes a state off
  done_pops : (q : Control) (r : Control) → Pops g table q s r → q ≡ Done → r ≡ Done
  done_pops _ _ (drops s p left t) is = absurd (let none : ⊥ = cc in none)
  done_pops _ _ (reduces s t p r action pops) is = absurd (let none : ⊥ = cc in none)
  done_pops _ _ (goes s p t next q r goto upper pops) is = absurd (let none : ⊥ = cc in none)
  done_pops _ _ (shifts s t next u q r action upper pops) is = absurd (let none : ⊥ = cc in none)
  done_pops _ _ (accepts s action) is = refl
  done_pops _ _ (ends s) is = refl

  -- the state shifts the token: each exit of the next state leads on
  pub shift_leads : (t next : ℕ) (pops : List StateExits) → ArePopsOf g table pops → IsOneOf at t → action_of table s t ≡ ShiftTo next
      → (q : Control) → HasExit (any_of pops next) q → LeadsFrom g table s at q
  shift_leads t next pops are one action q has r pop =
      let upper = are.by_any next q has in (t, one, shifts s t next upper.0 q r action upper.1 pop)

  -- the state reduces
  pub reduce_leads : (t p len : ℕ) → IsOneOf at t → action_of table s t ≡ ReduceBy p → len ≡ prod_len g p
      → (q : Control) → q ≡ Dropping p len t → LeadsFrom g table s at q
  reduce_leads t p len one action is q same r pop =
      (t, one, reduces s t p r action (subst (λ (c : Control). Pops g table c s r) (same ∙ ap (λ (n : ℕ). Dropping p n t) is) pop))

  -- the state accepts
  pub accept_leads : (t : ℕ) → AcceptsAtEndAlone g table → IsOneOf at t → action_of table s t ≡ Accepts → (q : Control) → q ≡ Done → LeadsFrom g table s at q
  accept_leads t alone one action q same r pop =
      let end : t ≡ end_token g = alone s t action in
      let here : action_of table s (end_token g) ≡ Accepts = subst (λ (n : ℕ). action_of table s n ≡ Accepts) end action in
      let first : IsOneOf at (end_token g) = subst (IsOneOf at) end one in
      (end_token g, first, subst (Pops g table (Reading (end_token g)) s) (sym (done_pops q r pop same)) (accepts s here))

  -- the goto by a rule that is reduced leads on
  pub goto_leads : (rule t next : ℕ) → IsReducedAt g table s at rule t → goto_of table s rule ≡ Some next
      → (q : Control) → Pops g table (Reading t) next q → LeadsFrom g table s at q
  goto_leads rule t next reduced goto q upper r pop =
      let here : goto_of table s (rule_of g reduced.0) ≡ Some next = ap (goto_of table s) reduced.1 ∙ goto in
      reduced.2 r (goes s reduced.0 t next q r here upper pop)

-- a state on top that reduces by a production with symbols is dropped
pub reduce_pops : (g : Grammar) (table : Table) (next t p len : ℕ) → action_of table next t ≡ ReduceBy p → len ≡ prod_len g p → len ≢ 0
    → (q : Control) → q ≡ Dropping p (len - 1) t → Pops g table (Reading t) next q
reduce_pops g table next t p len action is some q same =
    let one : suc (len - 1) ≡ prod_len g p = omega (arith, is, some) in
    subst (Pops g table (Reading t) next) (sym same)
    (reduces next t p (Dropping p (len - 1) t) action
    (subst (λ (n : ℕ). Pops g table (Dropping p n t) next (Dropping p (len - 1) t)) one (drops next p (len - 1) t)))

-- and one that accepts is left
pub accept_pops : (g : Grammar) (table : Table) (next t : ℕ) → AcceptsAtEndAlone g table → action_of table next t ≡ Accepts
    → (q : Control) → q ≡ Done → Pops g table (Reading t) next q
accept_pops g table next t alone action q same =
    let end : t ≡ end_token g = alone next t action in
    let here : action_of table next (end_token g) ≡ Accepts = subst (λ (n : ℕ). action_of table next n ≡ Accepts) end action in
    subst (λ (n : ℕ). Pops g table (Reading n) next q) (sym end) (subst (Pops g table (Reading (end_token g)) next) (sym same) (accepts next here))

-- what is found is right with other gotos that were followed
pub follow_leads : (g : Grammar) (table : Table) (s : ℕ) (at : Option ℕ) (old new : Found) → new.exits ≡ old.exits → new.reduced ≡ old.reduced
    → IsFound g table s at old → IsFound g table s at new
follow_leads g table s at old new same_exits same_reduced found = record {
  by_exits = λ r h. found.by_exits r (subst (λ (l : List Exit). HasExit l r) same_exits h);
  by_reductions = λ r t h. found.by_reductions r t (subst (λ (v : RuleTokens). IsTrue (has (tokens_by v.items r) t)) same_reduced h);
}

-- nothing is found yet
pub nothing_found : (g : Grammar) (table : Table) (s : ℕ) (at : Option ℕ) (found : Found) → HasNoExit found.exits → HaveNoTokens found.reduced.items
    → IsFound g table s at found
nothing_found g table s at found no_exit no_token = record {
  by_exits = λ r h. absurd (no_exit r h);
  by_reductions = λ r t h. absurd (no_token r t h);
}

-- what is found at one token, and at any
pub found_at : (g : Grammar) (table : Table) (s t : ℕ) (found : Found) (exits : List Exit) → exits ≡ found.exits → IsFound g table s (Some t) found
    → (r : Control) → HasExit exits r → Pops g table (Reading t) s r
found_at g table s t found exits same is r h =
    let pops = is.by_exits r (subst (λ (l : List Exit). HasExit l r) same h) in
    subst (λ (u : ℕ). Pops g table (Reading u) s r) pops.1 pops.2

pub found_at_any : (g : Grammar) (table : Table) (s : ℕ) (found : Found) (exits : List Exit) → exits ≡ found.exits → IsFound g table s None found
    → (r : Control) → HasExit exits r → (t : ℕ) × Pops g table (Reading t) s r
found_at_any g table s found exits same is r h =
    let pops = is.by_exits r (subst (λ (l : List Exit). HasExit l r) same h) in (pops.0, pops.2)

-- a safe table accepts at the end token alone
pub safe_alone : (g : Grammar) (graph : Graph) (table : Table) → IsSafe g graph table → FailsPastStates table → AcceptsAtEndAlone g table
safe_alone g graph table safe past s t action =
    elim (cases_lt s (states_len table)) as (λ _. t ≡ end_token g) [
      | inl low ↦ (safe.each S7 s low t action).0
      | inr high ↦ let no : Fails ≡ Accepts = sym (past s t high) ∙ action in absurd (let none : ⊥ = cc in none)
    ]

-- the same at numbers of the code
pub pops_at : (g : Grammar) (table : Table) (s t state token : ℕ) (exits : List Exit) → state ≡ s → token ≡ t
    → ((r : Control) → HasExit exits r → Pops g table (Reading t) s r) → (r : Control) → HasExit exits r → Pops g table (Reading token) state r
pops_at g table s t state token exits same_state same_token pops r h =
    subst (λ (n : ℕ). Pops g table (Reading token) n r) (sym same_state) (subst (λ (n : ℕ). Pops g table (Reading n) s r) (sym same_token) (pops r h))

pub pops_at_any : (g : Grammar) (table : Table) (s state : ℕ) (exits : List Exit) → state ≡ s
    → ((r : Control) → HasExit exits r → (t : ℕ) × Pops g table (Reading t) s r) → (r : Control) → HasExit exits r → (t : ℕ) × Pops g table (Reading t) state r
pops_at_any g table s state exits same pops r h = subst (λ (n : ℕ). (t : ℕ) × Pops g table (Reading t) n r) (sym same) (pops r h)
