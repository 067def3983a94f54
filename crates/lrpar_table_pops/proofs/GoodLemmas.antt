-- Why exits and reductions are good: a run goes on by a good exit of the state below, or by a reduction that is good already.
use Rattle.std.proofs.Common.{◌≡◌, ◌≢◌, ◌<◌, ◌≤◌, ◌-◌, ◌∙◌, inl, inr, refl, sym, ap, subst, arith, ℕ, suc, Bool, true, List, ◌∷◌, Some}
use Rattle.std.specs.Prelude.{IsTrue}
use Rattle.std.specs.Bool.{OnTrue}
use Rattle.lrpar_grammar.specs.Grammar.{Grammar, end_token, prod_len, rule_of}
use Rattle.lrpar_grammar.specs.Tokens.{HaveCommon, has}
use Rattle.lrpar_table_rows.specs.Table.{Table, ReduceBy, Accepts, action_of, goto_of}
use Rattle.lrpar_table_pops.specs.Exits.{AreTokensAt, HasExit, LeavesIn, control_of}
use Rattle.lrpar_table_pops.specs.Good.{AddsByGoto, AddsTokenBy, AllGoOn, AreGoodReductions, GoesOn, LeadBoth, ReadsOn, SomeGoesOn}
use Rattle.lrpar_table_pops.specs.Pops.{Control, Done, Dropping, Pops, PopsAll, Reading, accepts, drops, ends, goes, reduces}
use Rattle.lrpar_table_pops.specs.Sets.{room_in, tokens_by}
use Rattle.lrpar_table_pops.specs.declared.exits.Exit.{Exit}
use Rattle.lrpar_table_pops.specs.declared.exits.Way.{Way}
use Rattle.lrpar_table_pops.specs.declared.exits.Way.TheVariants.{Acceptance, Reduction}
use Rattle.lrpar_table_pops.proofs.ExitLemmas.{on_true}

-- the exit with one of the tokens
exit_at : (exits : List Exit) (way : Way) (tokens : List Bool) (t : ℕ) → AreTokensAt exits way tokens → IsTrue (has tokens t)
    → HasExit exits (control_of way t)
exit_at exits way tokens t found is =
    (found.0, found.1, (t, subst (λ (bits : List Bool). IsTrue (has bits t)) (sym found.3) is, ap (λ (w : Way). control_of w t) found.2))

-- a state is dropped
pub drops_one : (g : Grammar) (table : Table) (s p symbols t : ℕ) → symbols ≢ 0 → Pops g table (Dropping p symbols t) s (Dropping p (symbols - 1) t)
drops_one g table s p symbols t some =
    let one : suc (symbols - 1) ≡ symbols = omega (arith, some) in
    subst (λ (n : ℕ). Pops g table (Dropping p n t) s (Dropping p (symbols - 1) t)) one (drops s p (symbols - 1) t)

module _ (g : Grammar) (good : List Exit) (reduced : List (List Bool)) where
  -- a run that has accepted
  pub accepted_good : (tokens : List Bool) → AreTokensAt good Acceptance tokens → AllGoOn g good reduced (control_of Acceptance) tokens
  accepted_good tokens found t is table s below over on = (Done, ends s, over Done (exit_at good Acceptance tokens t found is))

  -- a run that drops the state below
  pub dropped_good : (p symbols : ℕ) (tokens : List Bool) → symbols ≢ 0 → AreTokensAt good (Reduction p (symbols - 1)) tokens
      → AllGoOn g good reduced (Dropping p symbols) tokens
  dropped_good p symbols tokens some found t is table s below over on = (
    Dropping p (symbols - 1) t,
    drops_one g table s p symbols t some,
    over (Dropping p (symbols - 1) t) (exit_at good (Reduction p (symbols - 1)) tokens t found is),
  )

  -- a run that reduces on top of the state below
  pub here_good : (p symbols : ℕ) (tokens : List Bool) → symbols ≡ 0 → tokens ≡ tokens_by reduced (rule_of g p)
      → AllGoOn g good reduced (Dropping p symbols) tokens
  here_good p symbols tokens none are t is table s below over on =
      subst (λ (n : ℕ). PopsAll g table (Dropping p n t) (s ∷ below)) (sym none)
      (on (rule_of g p) t (subst (λ (bits : List Bool). IsTrue (has bits t)) are is) p refl)

  -- a lookahead in common
  pub common_good : (way : Way) (tokens others : List Bool) → AllGoOn g good reduced (control_of way) tokens → HaveCommon tokens others
      → SomeGoesOn g good reduced (LeavesIn way others)
  common_good way tokens others all common = (control_of way common.0, (common.0, common.2, refl), all common.0 common.1)

  module _ (table : Table) (next t : ℕ) where
    -- the state above has an exit at the token
    pub pop_reads : (exits : List Exit) → ((r : Control) → HasExit exits r → Pops g table (Reading t) next r) → SomeGoesOn g good reduced (HasExit exits)
        → ReadsOn g table good reduced next t
    pop_reads exits pops some = (some.0, pops some.0 some.1, some.2)

    -- the state above accepts
    pub accept_reads : t ≡ end_token g → action_of table next t ≡ Accepts → GoesOn g good reduced Done → ReadsOn g table good reduced next t
    accept_reads end action on = (
      Done,
      subst (λ (u : ℕ). Pops g table (Reading u) next Done) (sym end) (accepts next (ap (action_of table next) (sym end) ∙ action)),
      on,
    )

    -- the state above reduces, and is dropped
    pub reduce_reads : (p symbols : ℕ) → action_of table next t ≡ ReduceBy p → symbols ≡ prod_len g p → symbols ≢ 0
        → GoesOn g good reduced (Dropping p (symbols - 1) t) → ReadsOn g table good reduced next t
    reduce_reads p symbols action all some on =
        let dropped = drops_one g table next p symbols t some in (
          Dropping p (symbols - 1) t,
          reduces next t p (Dropping p (symbols - 1) t) action
              (subst (λ (n : ℕ). Pops g table (Dropping p n t) next (Dropping p (symbols - 1) t)) all dropped),
          on,
        )

-- a reduction that leads to a good one, or to a good exit, is good
module _ (g : Grammar) (table : Table) (good : List Exit) where
  pub right_added : (rule next token : ℕ) (now new : List (List Bool)) → AddsTokenBy now new rule token → ReadsOn g table good now next token
      → AddsByGoto g table good rule next now new
  right_added rule next token now new adds reads s goto leads below over r t is p of_rule =
      let on : AreGoodReductions g table (s ∷ below) now = leads below over in
      elim (adds r t is) as (λ _. PopsAll g table (Dropping p 0 t) (s ∷ below)) [
        | inl was ↦ on r t was p of_rule
        | inr added ↦
            let rest = reads.2 table s below over on in
            let by : goto_of table s (rule_of g p) ≡ Some next = ap (goto_of table s) (of_rule ∙ added.0) ∙ goto in
            let above : Pops g table (Reading t) next reads.0 = subst (λ (u : ℕ). Pops g table (Reading u) next reads.0) (sym added.1) reads.1 in
            (rest.0, goes s p t next reads.0 rest.0 by above rest.1, rest.2)
      ]

  -- exits that are good on top of a state with good reductions
  pub both_lead : (reduced : List (List Bool)) (above : List Exit) → ((r : Control) → HasExit above r → GoesOn g good reduced r)
      → LeadBoth g table good reduced above
  both_lead reduced above all s leads below over r h = all r h table s below over (leads below over)

-- tokens were added, and `was` says of some only if there is less room
pub record IsAdding (K : List (List Bool) → Type 0) (old now : List (List Bool)) (was : Bool) : Type 0 where
  pub keeps : K now
  pub room : room_in now ≤ room_in old
  pub grown : OnTrue was (room_in now < room_in old)

module _ (K : List (List Bool) → Type 0) (old now new : List (List Bool)) (was : Bool) (adding : IsAdding K old now was) (more : K now → K new) where
  pub adding_grown : room_in new < room_in now → IsAdding K old new true
  adding_grown less = let room = adding.room in let under : room_in new < room_in old = omega (arith, less, room) in record {
    keeps = more adding.keeps;
    room = omega (arith, under);
    grown = under;
  }

  pub adding_on : room_in new ≤ room_in now → IsAdding K old new was
  adding_on less = let room = adding.room in record {
    keeps = more adding.keeps;
    room = omega (arith, less, room);
    grown = on_true was (λ (before : room_in now < room_in old). let under : room_in new < room_in old = omega (arith, less, before) in under) adding.grown;
  }
