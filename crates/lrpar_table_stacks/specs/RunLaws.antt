-- Laws of runs without repairs: two runs from one stack and place are the same; at each place a run goes on or ends; and over a
-- table that never sticks a run stops only at an error action. `RunsOneWay`, in Run.antt, is the first of them for the ends of
-- runs.
use Rattle.std.specs.Prelude.{◌≡◌, ◌≢◌, ◌<◌, ◌≤◌, ◌⊎◌, ℕ, List, length, Option}
use Rattle.lrpar_grammar.specs.Grammar.{Grammar, GrammarSymbol, end_token}
use Rattle.lrpar_table_rows.specs.Table.{Table, ShiftTo, Accepts, Fails}
use Rattle.lrpar_table_stacks.specs.Reduction.{top_action}
use Rattle.lrpar_table_stacks.specs.Path.{IsPath, NeverSticks}
use Rattle.lrpar_table_stacks.specs.Run.{Far, FarEnd, Accepted, Stopped, IsStuck, Run, Stop, token_at}

-- two runs from one stack and place have the same stops, consume the same lexemes and make the same reductions
abbrev pub RunsEndOneWay : Type 0 → Type 0
RunsEndOneWay X =
    (token : X → ℕ) (g : Grammar) (table : Table) (lexemes : List X) (st : List ℕ) (i : ℕ)
    (a b : List Stop) (xs ys : Option (List X)) (ps qs : List ℕ)
    → Run token g table lexemes st i a xs ps → Run token g table lexemes st i b ys qs → (a ≡ b) × (xs ≡ ys) × (ps ≡ qs)

-- a settled stack at place i: its top shifts the token of lexeme i, or accepts at the end, or the stack is stuck
abbrev pub Takes : {X : Type 0} → (X → ℕ) → Grammar → Table → List X → List ℕ → ℕ → Type 0
Takes token g table lexemes settled i =
    ((i < length lexemes) × ((next : ℕ) × (top_action table (token_at token g lexemes i) settled ≡ ShiftTo next)))
    ⊎ (((i ≡ length lexemes) × (top_action table (end_token g) settled ≡ Accepts)) ⊎ IsStuck token g table lexemes settled i)

-- at each place a settled stack shifts, accepts or is stuck
abbrev pub RunsGoOnOrEnd : Type 0 → Type 0
RunsGoOnOrEnd X =
    (token : X → ℕ) (g : Grammar) (table : Table) (lexemes : List X) (settled : List ℕ) (i : ℕ)
    → i ≤ length lexemes → Takes token g table lexemes settled i

-- no lexeme has the end token
abbrev pub KeepOffEnd : {X : Type 0} → (X → ℕ) → Grammar → List X → Type 0
KeepOffEnd token g lexemes = (i : ℕ) → i < length lexemes → token_at token g lexemes i ≢ end_token g

-- if a run ends by a stop, the action of its settled stack at the token of that place is an error
abbrev pub EndsByFailing : {X : Type 0} → (X → ℕ) → Grammar → Table → List X → FarEnd → Type 0
EndsByFailing token g table lexemes Accepted = Unit {0}
EndsByFailing token g table lexemes (Stopped stop) = top_action table (token_at token g lexemes stop.place) stop.stack ≡ Fails

-- over a table that never sticks, if no lexeme has the end token, each run from a stack of the table that stops does so at an error
-- action
abbrev pub RunsStopByFailing : Type 0 → Type 0
RunsStopByFailing X =
    (token : X → ℕ) (g : Grammar) (table : Table) (lexemes : List X) (symbols : List GrammarSymbol) (st : List ℕ) (i : ℕ) (ps : List ℕ) (end : FarEnd)
    → NeverSticks g table → KeepOffEnd token g lexemes → IsPath table symbols st → Far token g table lexemes st i ps end
    → EndsByFailing token g table lexemes end
