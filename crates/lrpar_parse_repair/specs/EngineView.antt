-- The engine of repair sequences, as contracts see it; `index` is the number that a storage number represents, and `parts` gives the
-- parts of a lexeme.
use Rattle.std.specs.Prelude.{◌<◌, ◌+◌, ◌↔◌, ℕ, Bool, List, Option, Result, Vec, Contains, IfOk, IsTrue, length}
use Rattle.lrpar_grammar.specs.Grammar.{Grammar, tokens_len}
use Rattle.lrpar_grammar_places.specs.declared.span.StIdx.{StIdx}
use Rattle.lrpar_grammar_places.specs.declared.span.TIdx.{TIdx}
use Rattle.lrpar_table_rows.specs.Table.{Table}
use Rattle.lrpar_table_stacks.specs.Expected.{AcceptsAtEnd}
use Rattle.lrpar_table_stacks.specs.Overlay.{OverlayReduces, OverlayShifts, Overlaid, overlaid}
use Rattle.lrpar_table_stacks.specs.Stack.{IsStack, states_of}
use Rattle.lrpar_parse_lexemes.specs.Lexemes.{LexemeParts}
use Rattle.lrpar_parse_lexemes.specs.Views.{token_by}
use Rattle.lrpar_parse_repair.specs.Asked.{HaveTokens}
use Rattle.lrpar_parse_repair.specs.Moves.{AreTestsWithin, IsMovedWithin, at_base}
use Rattle.lrpar_parse_repair.specs.PlainSteps.{plain_sequences, plain_step, plain_steps}
use Rattle.lrpar_parse_repair.specs.Sequences.{PlainInsert, PlainShift, PlainStep, AreThoseWith, CanGoOn, IsStepTaken, IsTokenFed, Works}
use Rattle.lrpar_parse_repair.specs.TestWork.{most_listed}
use Rattle.lrpar_parse_repair.specs.declared.engine.Engine.{Engine}
use Rattle.lrpar_parse_repair.specs.declared.repair_step.RepairStep.{RepairStep}

-- each lexeme has a token of the grammar other than the end token
abbrev pub HasTokens : {S X : Type 0} → (S → ℕ) → (X → LexemeParts S) → Engine S X → Type 0
HasTokens index parts engine = HaveTokens (token_by index parts) engine.checked.now.grammar engine.lexemes.now

-- the token is one of the grammar
abbrev pub HasToken : {S X : Type 0} → (S → ℕ) → Engine S X → TIdx S → Type 0
HasToken index engine token = index token.0 < tokens_len engine.checked.now.grammar

-- each stack of the kind suits the grammar and the table
abbrev pub SuitsAll : {S X Y : Type 0} → (Grammar → Table → Y → Type 0) → Engine S X → Type 0
SuitsAll {Y = Y} suits engine = (any : Y) → suits engine.checked.now.grammar engine.checked.now.table any

-- the states are a stack of the table
abbrev pub HasStates : {S X : Type 0} → Engine S X → List ℕ → Type 0
HasStates engine st = IsStack engine.checked.now.table st

-- the states, as they are stored, are a stack of the table
abbrev pub HasStack : {S X : Type 0} → (S → ℕ) → Engine S X → List (StIdx S) → Type 0
HasStack index engine stack = IsStack engine.checked.now.table (states_of index stack)

-- the sequence works from the stack at the place
abbrev pub WorksBy : {S X : Type 0} → (S → ℕ) → (X → LexemeParts S) → Engine S X → List ℕ → ℕ → List PlainStep → Type 0
WorksBy index parts engine st i steps =
    Works (token_by index parts) engine.checked.now.grammar engine.checked.now.table engine.lexemes.now engine.shifts st i steps

-- some sequence of the answer works from the stack at the place
abbrev pub SomeWorksBy : {S X : Type 0} → (S → ℕ) → (X → LexemeParts S) → Engine S X → List ℕ → ℕ → List (List PlainStep) → Type 0
SomeWorksBy index parts engine st i answer = (steps : List PlainStep) × Contains answer steps × WorksBy index parts engine st i steps

-- a parse can go on from the stack at the place
abbrev pub GoesOnFrom : {S X : Type 0} → (S → ℕ) → (X → LexemeParts S) → Engine S X → List ℕ → ℕ → Type 0
GoesOnFrom index parts engine st i =
    CanGoOn (token_by index parts) engine.checked.now.grammar engine.checked.now.table engine.lexemes.now engine.shifts st i

-- the step was taken, or can't be
abbrev pub IsTakenBy : {S X : Type 0} → (S → ℕ) → (X → LexemeParts S) → Engine S X → List ℕ → ℕ → PlainStep → List ℕ → Option ℕ → Type 0
IsTakenBy index parts engine st i step after next =
    IsStepTaken (token_by index parts) engine.checked.now.grammar engine.checked.now.table engine.lexemes.now st i step after next

-- Reductions and shifts make one stack of another, with no more reductions than this number of tokens may cost. `states`, `reduces` and
-- `shifts` are those of the stack's kind.
abbrev pub IsMovedFor : {S X Y : Type 0} → Engine S X → (Y → List ℕ) → (Y → ℕ → ℕ → ℕ → Y → Type 0) → (Y → Y → Type 0) → ℕ → Y → Y → Type 0
IsMovedFor engine states reduces shifts tokens old new =
    IsMovedWithin states reduces shifts engine.checked.now.grammar engine.checked.now.table engine.checked.now.cap tokens old new

-- a test of a sequence makes one overlay of another, with no more reductions than it may cost: the overlay is set back, and then moved
abbrev pub IsTestOf : {S X : Type 0} → Engine S X → List (RepairStep S) → Overlaid → Overlaid → Type 0
IsTestOf engine steps old new =
    IsMovedFor engine overlaid (λ x p r n y. OverlayReduces x n y) OverlayShifts (length steps + engine.shifts) (at_base old) new

-- tests make one overlay of another, with no more reductions than the tests of these sequences may cost from a stack of this height
abbrev pub AreTestsFor : {S X : Type 0} → Engine S X → ℕ → List (List PlainStep) → Overlaid → Overlaid → Type 0
AreTestsFor engine height sequences old new =
    AreTestsWithin engine.checked.now.grammar engine.checked.now.table (most_listed engine.checked.now.cap height engine.shifts sequences) old new

-- what calls return, unless they fail
module _ {S X E : Type 0} (index : S → ℕ) (parts : X → LexemeParts S) where
  -- these are the sequences of the answer that work from the stack at the place, in order
  abbrev pub ListsWorking : {A B : Type 0} → Engine S X → List ℕ → ℕ → Vec (Vec (RepairStep S) A) B → Result (Vec (Vec (RepairStep S) A) B) E → Type 0
  ListsWorking engine st i answer result =
      IfOk result (λ listed. AreThoseWith (WorksBy index parts engine st i) (plain_sequences index answer.items) (plain_sequences index listed.items))

  -- true exactly if some sequence of the answer works from the stack at the place
  abbrev pub TellsSome : {A : Type 0} → Engine S X → List ℕ → ℕ → List (Vec (RepairStep S) A) → Result Bool E → Type 0
  TellsSome engine st i answer result = IfOk result (λ works. IsTrue works ↔ SomeWorksBy index parts engine st i (plain_sequences index answer))

  -- true exactly if the sequence works from the stack at the place
  abbrev pub TellsWorks : Engine S X → List ℕ → ℕ → List (RepairStep S) → Result Bool E → Type 0
  TellsWorks engine st i steps result = IfOk result (λ works. IsTrue works ↔ WorksBy index parts engine st i (plain_steps index steps))

  -- true exactly if a parse can go on from the stack at the place
  abbrev pub TellsGoesOn : Engine S X → List ℕ → ℕ → Result Bool E → Type 0
  TellsGoesOn engine st i result = IfOk result (λ goes_on. IsTrue goes_on ↔ GoesOnFrom index parts engine st i)

  -- the step was taken, or can't be; `states` gives the states of a stack
  abbrev pub TakesStep : {Y : Type 0} → (Y → List ℕ) → Engine S X → ℕ → RepairStep S → Y → Y → Result (Option ℕ) E → Type 0
  TakesStep states engine i step old new result = IfOk result (IsTakenBy index parts engine (states old) i (plain_step index step) (states new))

  -- the token was inserted, or can't be
  abbrev pub Inserts : {Y : Type 0} → (Y → List ℕ) → Engine S X → ℕ → TIdx S → Y → Y → Result (Option ℕ) E → Type 0
  Inserts states engine i token old new result = IfOk result (IsTakenBy index parts engine (states old) i (PlainInsert (index token.0)) (states new))

  -- the lexeme at the place was kept, or can't be
  abbrev pub Shifts : {Y : Type 0} → (Y → List ℕ) → Engine S X → ℕ → Y → Y → Result (Option ℕ) E → Type 0
  Shifts states engine i old new result = IfOk result (IsTakenBy index parts engine (states old) i PlainShift (states new))

-- unless the call fails, the token was fed, or can't be
abbrev pub FeedsToken : {S X E : Type 0} → (S → ℕ) → Engine S X → TIdx S → List ℕ → List ℕ → Result Bool E → Type 0
FeedsToken index engine token st after result =
    IfOk result (IsTokenFed engine.checked.now.grammar engine.checked.now.table (index token.0) st after)

-- unless the call fails, it returns true exactly if the stack accepts, after all reductions at the end token
abbrev pub TellsAccepts : {S X E : Type 0} → Engine S X → List ℕ → Result Bool E → Type 0
TellsAccepts engine st result = IfOk result (λ accepts. IsTrue accepts ↔ AcceptsAtEnd engine.checked.now.grammar engine.checked.now.table st)

-- tests of the sequences make one overlay of another, with no more reductions than they may cost
abbrev pub TestsAnswer : {S X A : Type 0} → (S → ℕ) → Engine S X → List (Vec (RepairStep S) A) → Overlaid → Overlaid → Type 0
TestsAnswer index engine answer old new = AreTestsFor engine (length old.base) (plain_sequences index answer) old new
