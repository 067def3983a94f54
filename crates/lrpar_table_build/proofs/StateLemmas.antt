-- The states of the canonical collection have the rows of a table, and their transitions go along the gotos of their sets.
use Rattle.std.proofs.Common.{◌≡◌, ◌<◌, ℕ, List, [], Option, Some, None, arith, inl, inr, refl, subst, length, nat_eq}
use Rattle.std.specs.Map.{lookup}
use Rattle.std.proofs.lemmas.Bool.{cases_lt}
use Rattle.std.proofs.lemmas.List.{get_or_past}
use Rattle.lrpar_grammar.specs.Grammar.{Grammar, GrammarSymbol, IsWellFormed, Nonterminal, Terminal, end_token, start_prod, tokens_len}
use Rattle.lrpar_table_rows.specs.Graph.{ItemOf, item_at}
use Rattle.lrpar_table_items.specs.Canonical.{AreSame, HasAfterDot, IsTransition, LeadsTo}
use Rattle.lrpar_table_items.specs.Cores.{IsAmong}
use Rattle.lrpar_table_items.specs.ItemSets.{Own}
use Rattle.lrpar_table_items.specs.States.{AreStateRows, AreStates, StateOf, sets_at, state_at}
use Rattle.lrpar_table_build.proofs.MemberLemmas.{member_none}
use Rattle.lrpar_table_build.proofs.ReachedLemmas.{reached_at_end, reached_items, symbol_listed}
use Rattle.lrpar_table_build.proofs.SetLemmas.{leads_same}
use Rattle.lrpar_table_build.proofs.StepLemmas.{AreStatesAlong, IsStepAlong}

-- what a transition says
step_some : (g : Grammar) (len : ℕ) (sets : ℕ → ItemOf → Type 0) (s : ℕ) (symbol : GrammarSymbol) (step : Option ℕ) (next : ℕ)
    → IsTransition g len sets s symbol step → step ≡ Some next → HasAfterDot g sets s symbol × (next < len)
step_some g len sets s symbol None next h is = absurd (cc)
step_some g len sets s symbol (Some other) next h is = let same : other ≡ next = cc in (h.0, subst (λ n. n < len) same h.1)

-- a transition goes along the gotos, of these sets and of others with the same items
step_leads : (g : Grammar) (len : ℕ) (sets others : ℕ → ItemOf → Type 0) → ((s : ℕ) → AreSame (others s) (sets s)) → (s : ℕ) (symbol : GrammarSymbol)
    (step : Option ℕ) → IsTransition g len sets s symbol step → IsStepAlong g sets (LeadsTo g others) s symbol step
step_leads g len sets others same s symbol None h = h
step_leads g len sets others same s symbol (Some next) h = (h.0, leads_same g others sets same s symbol next h.2)

module _ (g : Grammar) (well : IsWellFormed g) (states : List StateOf) (are : AreStates g states) where
  -- there is a state
  pub some_state : 0 < length states
  some_state =
      elim (cases_lt 0 (length states)) as (λ _. 0 < length states) [
        | inl some ↦ some
        | inr none ↦
            let start = item_at (start_prod g) 0 (end_token g) in
            let there = (are.canonical.start start).1 (Own start refl) in
            let empty : state_at states 0 ≡ record { cores = []; gotos = []; shifts = [] } = get_or_past states 0 _ none in
            let among : IsAmong [] start = subst (λ (state : StateOf). IsAmong state.cores start) empty there in
            absurd (member_none among.0 among.1)
      ]

  -- the states have the rows of a table: a symbol after a dot is one of the grammar
  pub state_rows : AreStateRows g states
  state_rows = record {
    cores = are.cores;
    once = are.once;
    gotos_ascend = are.gotos_ascend;
    shifts_ascend = are.shifts_ascend;
    gotos_fit = λ s r next below is.
        let step = step_some g (length states) (sets_at states) s (Nonterminal r) _ next (are.gotos s r below) is in
        ((symbol_listed g well step.0.0.prod step.0.0.dot (Nonterminal r) step.0.2).1, step.1);
    shifts_fit = λ s t next below is.
        let step = step_some g (length states) (sets_at states) s (Terminal t) _ next (are.shifts s t below) is in
        let listed : t < end_token g = symbol_listed g well step.0.0.prod step.0.0.dot (Terminal t) step.0.2 in
        (omega (arith, listed), step.1);
  }

  -- their lookaheads are tokens
  pub states_tokens : (s : ℕ) (x : ItemOf) → s < length states → sets_at states s x → x.token < tokens_len g
  states_tokens s x below there =
      let reached = are.canonical.reached s below in (reached_items g well reached.0 x ((reached.1 x).0 there)).token

  -- their transitions go along the gotos of sets with the same items
  pub states_along : (sets : ℕ → ItemOf → Type 0) → ((s : ℕ) → AreSame (sets s) (sets_at states s)) → AreStatesAlong g states (LeadsTo g sets)
  states_along sets same = record {
    rows = state_rows;
    some = some_state;
    tokens = states_tokens;
    at_end = λ s t below accepts.
        let item = item_at (start_prod g) 1 t in
        let reached = are.canonical.reached s below in reached_at_end g well reached.0 item ((reached.1 item).0 accepts) refl;
    gotos = λ s r below. step_leads g (length states) (sets_at states) sets same s (Nonterminal r) (lookup (nat_eq r) (state_at states s).gotos) (are.gotos s r below);
    shifts = λ s t below. step_leads g (length states) (sets_at states) sets same s (Terminal t) (lookup (nat_eq t) (state_at states s).shifts) (are.shifts s t below);
  }
