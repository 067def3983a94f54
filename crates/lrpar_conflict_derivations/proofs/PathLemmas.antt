-- The states of an access path, and the symbols by which each is reached.
use Rattle.std.proofs.Common.{◌≡◌, ◌<◌, ◌≤◌, ◌∙◌, refl, sym, ap, subst, arith, ℕ, zero, suc, List, [], ◌∷◌, ◌++◌, get_or, length, map, reverse, take}
use Rattle.std.proofs.lemmas.List.{append_assoc, append-nil, get_or-map, get_or_past, length-map, reverse-append}
use Rattle.lrpar_grammar.specs.Grammar.{Grammar, GrammarSymbol, IsWellFormed}
use Rattle.lrpar_table_rows.specs.Graph.{Graph}
use Rattle.lrpar_table_rows.specs.Table.{IsClosed, Table, states_len}
use Rattle.lrpar_table_build.specs.Built.{IsBuilt}
use Rattle.lrpar_table_items.specs.Canonical.{AreSame, LeadsTo, sets_of}
use Rattle.lrpar_table_items.specs.ItemSets.{IsReachedBy}
use Rattle.lrpar_table_build.proofs.SetLemmas.{next_more}
use Rattle.lrpar_table_sentences.specs.AccessStrings.{IsPathTo, StepOf, StepsLead, step_of, steps_of, symbols_in}
use Rattle.lrpar_table_sentences.specs.declared.transitions.Step.{Step}
use Rattle.lrpar_table_sentences.proofs.WalkLemmas.{goes_leads, goes_within}
use Rattle.lrpar_conflict_derivations.specs.Completion.{state_before}

-- a state further
pub path_further : (g : Grammar) (graph : Graph) (s next : ℕ) (x : GrammarSymbol) (front : List GrammarSymbol) → LeadsTo g (sets_of graph) s x next
    → IsPathTo g graph s front → IsPathTo g graph next (front ++ x ∷ [])
path_further g graph s next x front leads path =
    let all : AreSame (sets_of graph next) (IsReachedBy g (x ∷ reverse front)) = λ y. (
      λ h. next_more g (sets_of graph s) (IsReachedBy g (reverse front)) x (λ z has. (path z).0 has) y ((leads y).0 h),
      λ h. (leads y).1 (next_more g (IsReachedBy g (reverse front)) (sets_of graph s) x (λ z has. (path z).1 has) y h),
    ) in
    subst (λ (w : List GrammarSymbol). AreSame (sets_of graph next) (IsReachedBy g w)) (sym (reverse-append front (x ∷ []))) all

take_nothing : (i : ℕ) → take i (symbols_in []) ≡ []
take_nothing zero = refl
take_nothing (suc i) = refl

-- each state of an access path is reached by the symbols before it
module _ (g : Grammar) (graph : Graph) (table : Table) (well : IsWellFormed g) (built : IsBuilt g graph table) (closed : IsClosed table) where
  pub state_reached : (steps : List StepOf) (s last : ℕ) (front : List GrammarSymbol) → s < states_len table → StepsLead table s steps last
      → IsPathTo g graph s front → (i : ℕ) → i ≤ length steps → IsPathTo g graph (state_before steps last i) (front ++ take i (symbols_in steps))
  state_reached [] s last front within lead path i low =
      let none : take i (symbols_in []) ≡ [] = take_nothing i in
      subst (λ (w : List GrammarSymbol). IsPathTo g graph last w) (sym (ap (λ v. front ++ v) none ∙ append-nil front))
      (subst (λ (n : ℕ). IsPathTo g graph n front) lead path)
  state_reached (step ∷ steps) s last front within lead path zero low =
      subst (λ (w : List GrammarSymbol). IsPathTo g graph step.from w) (sym (append-nil front)) (subst (λ (n : ℕ). IsPathTo g graph n front) (sym lead.0) path)
  state_reached (step ∷ steps) s last front within lead path (suc i) low =
      let next = lead.1.0 in
      let leads = goes_leads g graph table well built closed s next step.symbol within lead.1.1 in
      let more = state_reached steps next last (front ++ step.symbol ∷ []) (goes_within g graph table well built closed s next step.symbol lead.1.1) lead.1.2
      (path_further g graph s next step.symbol front leads path) i (omega arith) in
      subst (λ (w : List GrammarSymbol). IsPathTo g graph (state_before steps last i) w) (append_assoc front (step.symbol ∷ []) (take i (symbols_in steps))) more

-- the state before a step of code
pub state_by : {S : Type 0} (index : S → ℕ) (steps : List (Step S)) (i : ℕ) (step : Step S) (last : ℕ) → i < length steps → step ≡ get_or steps i step
    → index step.from.0 ≡ state_before (steps_of index steps) last i
state_by {S} index steps i step last low is =
    let all = steps_of index steps in
    let within : i < length all = let long = length-map steps (step_of index) in omega arith in
    let here = get_or-map (λ (x : StepOf). x.from) all i (step_of index step) last within in
    let there = get_or-map (step_of index) steps i step (step_of index step) low in
    sym (here ∙ ap (λ (x : StepOf). x.from) there ∙ ap (λ (x : Step S). index x.from.0) (sym is))

pub state_past : {S : Type 0} (index : S → ℕ) (steps : List (Step S)) (i : ℕ) (last : ℕ) → length steps ≤ i → last ≡ state_before (steps_of index steps) last i
state_past index steps i last past =
    let all = steps_of index steps in
    let from = map (λ (x : StepOf). x.from) all in
    let far : length from ≤ i = let long = length-map steps (step_of index) in let more = length-map all (λ (x : StepOf). x.from) in omega arith in
    sym (get_or_past from i last far)
