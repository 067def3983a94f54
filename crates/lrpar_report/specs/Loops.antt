-- Rules that lead back to themselves while a parse shifts no token.
use Rattle.std.specs.Prelude.{◌≡◌, ◌<◌, ◌+◌, ◌∷◌, ℕ, Bool, IfSome, List, [], Option, Some, Vec, drop, map, slice_get, take}
use Rattle.std.specs.Bool.{OnTrue}
use Rattle.lrpar_grammar_places.specs.declared.span.RIdx.{RIdx}
use Rattle.lrpar_grammar_places.specs.declared.span.Symbol.{Symbol}
use Rattle.lrpar_grammar.specs.Grammar.{Grammar, GrammarSymbol, Nonterminal, prods_len, rule_of, symbols_of}
use Rattle.lrpar_grammar.specs.Symbols.{symbol_of}
use Rattle.lrpar_grammar.specs.Tree.{Forest, forest_leaves}
use Rattle.lrpar_table_sentences.specs.Choices.{AreShortest, ChoiceOf}
use Rattle.lrpar_table_sentences.specs.Texts.{AreTreesOf}
use Rattle.lrpar_report.specs.declared.loops.LoopKind.{LoopKind}
use Rattle.lrpar_report.specs.declared.loops.LoopKind.TheVariants.{DerivesItself, IsHiddenLeft}
use Rattle.lrpar_report.specs.declared.loops.LoopStep.{LoopStep}

-- a step: a production of a rule, and the place of a symbol on its right side
pub record StepOf : Type 0 where
  pub prod : ℕ
  pub place : ℕ

abbrev pub step_of : {S : Type 0} → (S → ℕ) → LoopStep S → StepOf
step_of index step = record { prod = index step.prod.0; place = step.place }

-- the symbols derive the empty text
abbrev pub DeriveNothing : Grammar → List GrammarSymbol → Type 0
DeriveNothing g symbols = (trees : Forest ℕ) × AreTreesOf g symbols trees × (forest_leaves trees ≡ [])

-- the symbols before this place in a rule derive the empty text
abbrev pub HasNullableFront : Grammar → List GrammarSymbol → ℕ → Type 0
HasNullableFront g symbols place = DeriveNothing g (take place symbols)

-- the symbols before this place and those after it derive the empty text: the rule derives the symbol there alone
abbrev pub IsLoneSymbol : Grammar → List GrammarSymbol → ℕ → Type 0
IsLoneSymbol g symbols place = HasNullableFront g symbols place × DeriveNothing g (drop (place + 1) symbols)

abbrev pub IsLoopSymbol : LoopKind → Grammar → List GrammarSymbol → ℕ → Type 0
IsLoopSymbol DerivesItself g symbols place = IsLoneSymbol g symbols place
IsLoopSymbol IsHiddenLeft g symbols place = HasNullableFront g symbols place

-- a step from one rule to another: `from` has the production, with the rule `to` at that place
pub record IsStep (kind : LoopKind) (g : Grammar) (from : ℕ) (step : StepOf) (to : ℕ) : Type 0 where
  pub prod : step.prod < prods_len g
  pub rule : rule_of g step.prod ≡ from
  pub symbol : slice_get (symbols_of g step.prod) step.place ≡ Some (Nonterminal to)
  pub place : IsLoopSymbol kind g (symbols_of g step.prod) step.place

-- steps from one rule to another, each from the rule to which the step before it leads
abbrev pub Lead : LoopKind → Grammar → ℕ → List StepOf → ℕ → Type 0
Lead kind g from [] to = from ≡ to
Lead kind g from (step ∷ steps) to = (next : ℕ) × IsStep kind g from step next × Lead kind g next steps to

-- there is a first step; for hidden left recursion, something comes before its place
abbrev pub Begins : LoopKind → List StepOf → Type 0
Begins kind [] = ⊥
Begins DerivesItself (step ∷ steps) = Unit {0}
Begins IsHiddenLeft (step ∷ steps) = 0 < step.place

-- A loop: steps from a rule back to it. By a loop of the first kind the rule derives itself alone; by one of the second kind it
-- begins with itself, after what derives nothing.
pub record IsLoop (kind : LoopKind) (g : Grammar) (steps : List StepOf) : Type 0 where
  pub begins : Begins kind steps
  pub leads : (r : ℕ) × Lead kind g r steps r

-- these steps are a loop
abbrev pub IsLoopBy : {S : Type 0} → (S → ℕ) → LoopKind → Grammar → List (LoopStep S) → Type 0
IsLoopBy index kind g steps = IsLoop kind g (map (step_of index) steps)

-- if steps are found, they are a loop
abbrev pub FindsLoop : {S A : Type 0} → (S → ℕ) → LoopKind → Grammar → Option (Vec (LoopStep S) A) → Type 0
FindsLoop index kind g found = IfSome found (λ steps. IsLoopBy index kind g steps.items)

-- the symbol at that place is this rule
abbrev pub IsRuleAt : {S : Type 0} → (S → ℕ) → List (Symbol S) → ℕ → RIdx S → Type 0
IsRuleAt index symbols place rule = slice_get (map (symbol_of index) symbols) place ≡ Some (Nonterminal (index rule.0))

-- the steps lead from the one rule to the other
abbrev pub LeadTo : {S : Type 0} → (S → ℕ) → LoopKind → Grammar → RIdx S → List (LoopStep S) → RIdx S → Type 0
LeadTo index kind g from steps to = Lead kind g (index from.0) (map (step_of index) steps) (index to.0)

-- the step leads from the one rule to the other
abbrev pub IsStepTo : {S : Type 0} → (S → ℕ) → LoopKind → Grammar → RIdx S → LoopStep S → RIdx S → Type 0
IsStepTo index kind g from step to = IsStep kind g (index from.0) (step_of index step) (index to.0)

-- in each grammar of which the choices are kept: if this is true, a step of the kind can lead to the symbol at the place
abbrev pub TellsLoopSymbol : {S : Type 0} → (S → ℕ) → ℕ → List (Option ChoiceOf) → LoopKind → List (Symbol S) → ℕ → Bool → Type 0
TellsLoopSymbol index most choices kind symbols place is = (g : Grammar) → AreShortest g most choices → OnTrue is (IsLoopSymbol kind g (map (symbol_of index) symbols) place)

-- in each grammar of which the choices are kept: if this is true, the symbols derive the empty text
abbrev pub TellsEmpty : {S : Type 0} → (S → ℕ) → ℕ → List (Option ChoiceOf) → List (Symbol S) → Bool → Type 0
TellsEmpty index most choices symbols is = (g : Grammar) → AreShortest g most choices → OnTrue is (DeriveNothing g (map (symbol_of index) symbols))
