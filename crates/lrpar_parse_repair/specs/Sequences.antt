-- Repair sequences, as in Diekmann and Tratt, 'Don't Panic! Better, Fewer, Syntax Errors for LR Parsers': the result of a step from
-- a stack at a place, over any table and any lexemes, and which sequences work there.
use Rattle.std.specs.Prelude.{◌≡◌, ◌<◌, ◌+◌, ◌⊎◌, ℕ, zero, suc, List, [], ◌∷◌, ◌++◌, length, Bool, true, false, Option, Some, None}
use Rattle.lrpar_grammar.specs.Grammar.{Grammar, end_token}
use Rattle.lrpar_table_rows.specs.Table.{Table}
use Rattle.lrpar_table_stacks.specs.Expected.{AcceptsAtEnd}
use Rattle.lrpar_table_stacks.specs.Reduction.{Feeds}
use Rattle.lrpar_table_stacks.specs.Run.{token_at}

-- a step: insert a lexeme of this token before the rest of the input, leave out the next lexeme of the input, or keep it
pub data PlainStep : Type 0 where
  PlainInsert : (token : ℕ) → PlainStep
  PlainDelete : PlainStep
  PlainShift : PlainStep

-- the token was fed, by some reductions; or it can't be fed
abbrev pub IsTokenFed : Grammar → Table → ℕ → List ℕ → List ℕ → Bool → Type 0
IsTokenFed g table t st after true = (prods : List ℕ) × Feeds g table t st prods after
IsTokenFed g table t st after false = (prods next : List ℕ) → ¬ (Feeds g table t st prods next)

module _ {X : Type 0} (token : X → ℕ) (g : Grammar) (table : Table) (lexemes : List X) where
  -- From the stack at place i the step can be taken: with these reductions it leads to the stack `next` at place j. An Insert
  -- feeds its token, which is one of the grammar other than the end token; a Delete leaves lexeme i out; and a Shift feeds the
  -- token of lexeme i.
  abbrev pub StepsTo : List ℕ → ℕ → PlainStep → List ℕ → List ℕ → ℕ → Type 0
  StepsTo st i (PlainInsert t) prods next j = (t < end_token g) × Feeds g table t st prods next × (j ≡ i)
  StepsTo st i PlainDelete prods next j = (i < length lexemes) × (prods ≡ []) × (next ≡ st) × (j ≡ i + 1)
  StepsTo st i PlainShift prods next j = (i < length lexemes) × Feeds g table (token_at token g lexemes i) st prods next × (j ≡ i + 1)

  -- the steps can be taken in turn: with these reductions they lead to the stack `after` at place j
  abbrev pub Replays : List ℕ → ℕ → List PlainStep → List ℕ → List ℕ → ℕ → Type 0
  Replays st i [] prods after j = (prods ≡ []) × (after ≡ st) × (j ≡ i)
  Replays st i (step ∷ steps) prods after j =
      (first next : List ℕ) × (mid : ℕ) × (rest : List ℕ) × StepsTo st i step first next mid × Replays next mid steps rest after j × (prods ≡ first ++ rest)

  -- from the stack at place i this number of lexemes can be fed in turn; or, if fewer are left, all of these can, and then the
  -- stack accepts
  abbrev pub CanGoOn : ℕ → List ℕ → ℕ → Type 0
  CanGoOn zero st i = Unit {0}
  CanGoOn (suc k) st i =
      ((i < length lexemes) × ((prods next : List ℕ) × Feeds g table (token_at token g lexemes i) st prods next × CanGoOn k next (i + 1)))
      ⊎ ((i ≡ length lexemes) × AcceptsAtEnd g table st)

  -- the sequence works from the stack at place i: its steps can be taken in turn, and then k lexemes can be fed
  abbrev pub Works : ℕ → List ℕ → ℕ → List PlainStep → Type 0
  Works k st i [] = CanGoOn k st i
  Works k st i (step ∷ steps) = (prods next : List ℕ) × (j : ℕ) × StepsTo st i step prods next j × Works k next j steps

  -- the step was taken, and led to the stack `after` at the returned place; or it can't be taken
  abbrev pub IsStepTaken : List ℕ → ℕ → PlainStep → List ℕ → Option ℕ → Type 0
  IsStepTaken st i step after (Some j) = (prods : List ℕ) × StepsTo st i step prods after j
  IsStepTaken st i step after None = (prods next : List ℕ) (j : ℕ) → ¬ (StepsTo st i step prods next j)

-- ys are the members of xs that have P, in order, each as often as in xs
abbrev pub AreThoseWith : {A : Type 0} → (A → Type 0) → List A → List A → Type 0
AreThoseWith P [] ys = ys ≡ []
AreThoseWith {A} P (x ∷ xs) ys = (P x × ((zs : List A) × AreThoseWith P xs zs × (ys ≡ x ∷ zs))) ⊎ (¬ (P x) × AreThoseWith P xs ys)
