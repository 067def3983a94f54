-- The states in which a run of a table can stop at an error, if each error may be repaired.
use Rattle.std.specs.Prelude.{◌≡◌, ◌⊎◌, ◌<◌, ◌↔◌, ℕ, Bool, IsTrue, List, [], ◌∷◌, Option, Some, None, length}
use Rattle.std.specs.Option.{option_and_then}
use Rattle.lrpar_grammar.specs.Grammar.{Grammar, GrammarSymbol, Nonterminal, Terminal, rule_of, symbols_of}
use Rattle.lrpar_table_rows.specs.Table.{Table, TableAction, ShiftTo, ReduceBy, Accepts, Fails, action_of, goto_of, states_len}
use Rattle.lrpar_table_check.specs.Checked.{Checked}
use Rattle.lrpar_table_sentences.specs.Reachable.{is_marked}

-- the state to which an action shifts, if it does
abbrev pub shifted_to : TableAction → Option ℕ
shifted_to (ShiftTo next) = Some next
shifted_to (ReduceBy p) = None
shifted_to Accepts = None
shifted_to Fails = None

-- the state to which state s goes by the symbol, if it does
abbrev pub next_by : Table → ℕ → GrammarSymbol → Option ℕ
next_by table s (Terminal t) = shifted_to (action_of table s t)
next_by table s (Nonterminal r) = goto_of table s r

-- the state to which the symbols lead from state s, one after the other, if they do
abbrev pub end_of_path : Table → ℕ → List GrammarSymbol → Option ℕ
end_of_path table s [] = Some s
end_of_path table s (x ∷ xs) = option_and_then (λ next. end_of_path table next xs) (next_by table s x)

-- a run begins in state s, or goes there when it shifts a token
abbrev pub IsEntered : Table → ℕ → Type 0
IsEntered table s = (s ≡ table.start) ⊎ ((from : ℕ) × (t : ℕ) × (action_of table from t ≡ ShiftTo s))

-- over state `below`, a reduction by production p takes a run from state s to state next
abbrev pub Replaces : Grammar → Table → ℕ → ℕ → ℕ → ℕ → Type 0
Replaces g table p below s next =
    (end_of_path table below (symbols_of g p) ≡ Some s) × (goto_of table below (rule_of g p) ≡ Some next)

-- a run can look at token t in state s: it has just come there by a token; or a reduction under this lookahead led there; or a run stopped
-- there, and a repair put this token in place of the one that was next
pub data LooksAt (g : Grammar) (table : Table) : ℕ → ℕ → Type 0 where
  Enters : (s t : ℕ) → IsEntered table s → t < table.tokens → LooksAt g table s t
  Reduces : (p below s next t : ℕ) → LooksAt g table s t → action_of table s t ≡ ReduceBy p → Replaces g table p below s next → LooksAt g table next t
  Repairs : (s t other : ℕ) → LooksAt g table s t → action_of table s t ≡ Fails → other < table.tokens → LooksAt g table s other

-- a run can stop in state s at an error
abbrev pub CanStop : Grammar → Table → ℕ → Type 0
CanStop g table s = (t : ℕ) × LooksAt g table s t × (action_of table s t ≡ Fails)

-- exactly the states in which a run can stop are marked
pub record AreStops (g : Grammar) (table : Table) (marks : List Bool) : Type 0 where
  pub states : length marks ≡ states_len table
  pub exact : (s : ℕ) → IsTrue (is_marked marks s) ↔ CanStop g table s

-- exactly the states of the checked table in which a run can stop are marked
abbrev pub AreStopsOf : Checked → List Bool → Type 0
AreStopsOf checked marks = AreStops checked.grammar checked.table marks

-- over each checked table of which these are the marks, the answer is true exactly if a run can stop in the state
abbrev pub DecidesStop : List Bool → ℕ → Bool → Type 0
DecidesStop marks s answer = (checked : Checked) → AreStopsOf checked marks → IsTrue answer ↔ CanStop checked.grammar checked.table s
