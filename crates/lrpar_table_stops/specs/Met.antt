-- For each state the tokens at which a run is known to look.
use Rattle.std.specs.Prelude.{◌≡◌, ◌<◌, ◌↔◌, ℕ, All, Bool, IsTrue, List, Option, length}
use Rattle.std.specs.Option.{option_map}
use Rattle.lrpar_grammar_places.specs.declared.span.PIdx.{PIdx}
use Rattle.lrpar_grammar_places.specs.declared.span.StIdx.{StIdx}
use Rattle.lrpar_grammar_places.specs.declared.span.TIdx.{TIdx}
use Rattle.lrpar_grammar.specs.Grammar.{Grammar, prods_len}
use Rattle.lrpar_grammar.specs.Tokens.{has}
use Rattle.lrpar_table_first.specs.FirstRows.{row_at, total_missing}
use Rattle.lrpar_table_rows.specs.Table.{Table, ShiftTo, ReduceBy, Fails, action_of, states_len}
use Rattle.lrpar_table_sentences.specs.Reachable.{is_marked}
use Rattle.lrpar_table_stops.specs.ErrorStates.{LooksAt, Replaces}

-- whether a run is known to look at token t in state s
abbrev pub is_met : List (List Bool) → ℕ → ℕ → Bool
is_met sets s t = has (row_at sets s) t

-- fewer tokens are missing in the sets of states than before
abbrev pub MeetsMore : List (List Bool) → List (List Bool) → Type 0
MeetsMore old new = total_missing new < total_missing old

-- there is a set for each state, with room for each token, and each token in it is one at which a run can look there
pub record AreRight (g : Grammar) (table : Table) (sets : List (List Bool)) : Type 0 where
  pub states : length sets ≡ states_len table
  pub tokens : All (λ row. length row ≡ table.tokens) sets
  pub met : (s t : ℕ) → IsTrue (is_met sets s t) → LooksAt g table s t

-- there is room for the token in the set of the state
abbrev pub HasRoomFor : List (List Bool) → ℕ → ℕ → Type 0
HasRoomFor sets s t = (s < length sets) × (t < length (row_at sets s))

-- if a run can look at the token in the state, the sets stay right
abbrev pub StayRightWith : ℕ → ℕ → List (List Bool) → List (List Bool) → Type 0
StayRightWith s t old new = (g : Grammar) (table : Table) → AreRight g table old → LooksAt g table s t → AreRight g table new

-- a run is known to look at each token below `tokens` in state s
abbrev pub MeetsAll : List (List Bool) → ℕ → ℕ → Type 0
MeetsAll sets tokens s = (t : ℕ) → t < tokens → IsTrue (is_met sets s t)

-- a run is known to look at token t in state s, and reduces there by production p
abbrev pub ReducesAt : Table → List (List Bool) → ℕ → ℕ → ℕ → Type 0
ReducesAt table sets p s t = (action_of table s t ≡ ReduceBy p) × IsTrue (is_met sets s t)

-- if a run that looks at the token in the one state reduces by the production, as far as is known, it is known to look at it in the next one
abbrev pub IsReducedTo : {S : Type 0} → (S → ℕ) → Table → List (List Bool) → PIdx S → StIdx S → StIdx S → TIdx S → Type 0
IsReducedTo index table sets prod from next token =
    ReducesAt table sets (index prod.0) (index from.0) (index token.0) → IsTrue (is_met sets (index next.0) (index token.0))

-- where a reduction by production p over state `below` leads at token t is known
abbrev pub IsReducedAt : Grammar → Table → List (List Bool) → ℕ → ℕ → ℕ → Type 0
IsReducedAt g table sets p below t =
    (s next : ℕ) → Replaces g table p below s next → ReducesAt table sets p s t → IsTrue (is_met sets next t)

-- where a reduction by production p over state `below` leads is known
abbrev pub IsReducedOver : Grammar → Table → List (List Bool) → ℕ → ℕ → Type 0
IsReducedOver g table sets p below = (t : ℕ) → t < table.tokens → IsReducedAt g table sets p below t

-- where a reduction by production p leads is known
abbrev pub IsReducedBy : Grammar → Table → List (List Bool) → ℕ → Type 0
IsReducedBy g table sets p = (below : ℕ) → below < states_len table → IsReducedOver g table sets p below

-- where reductions lead is known
abbrev pub AreReduced : Grammar → Table → List (List Bool) → Type 0
AreReduced g table sets = (p : ℕ) → p < prods_len g → IsReducedBy g table sets p

-- at token t, where a shift of state s leads is known, and so is each token that a repair can put in place of it
pub record IsLeftAt (table : Table) (sets : List (List Bool)) (s t : ℕ) : Type 0 where
  pub shifts : (next : ℕ) → action_of table s t ≡ ShiftTo next → MeetsAll sets table.tokens next
  pub repairs : IsTrue (is_met sets s t) → action_of table s t ≡ Fails → MeetsAll sets table.tokens s

-- at each token, where a shift of state s leads is known, and so is each token that a repair can put in its place
abbrev pub IsLeft : Table → List (List Bool) → ℕ → Type 0
IsLeft table sets s = (t : ℕ) → t < table.tokens → IsLeftAt table sets s t

-- of each state, where its shifts lead is known, and what repairs can put in place of tokens
abbrev pub AreLeft : Table → List (List Bool) → Type 0
AreLeft table sets = (s : ℕ) → s < states_len table → IsLeft table sets s

-- nothing follows that isn't known
pub record AreClosed (g : Grammar) (table : Table) (sets : List (List Bool)) : Type 0 where
  pub start : MeetsAll sets table.tokens table.start
  pub reduced : AreReduced g table sets
  pub left : AreLeft table sets

-- a run is known to look at token t in state s, which has no action at it
abbrev pub StopsAt : Table → List (List Bool) → ℕ → ℕ → Type 0
StopsAt table sets s t = (action_of table s t ≡ Fails) × IsTrue (is_met sets s t)

-- a run is known to look at a token in state s, which has no action at it
abbrev pub StopsIn : Table → List (List Bool) → ℕ → Type 0
StopsIn table sets s = (t : ℕ) × (t < table.tokens) × StopsAt table sets s t

-- the state with this number, if there is one
abbrev pub number_in : {S : Type 0} → (S → ℕ) → Option (StIdx S) → Option ℕ
number_in index state = option_map (λ s. index s.0) state

-- exactly the states are marked in which a run is known to stop
pub record MarksStops (table : Table) (sets : List (List Bool)) (marks : List Bool) : Type 0 where
  pub states : length marks ≡ states_len table
  pub exact : (s : ℕ) → s < states_len table → IsTrue (is_marked marks s) ↔ StopsIn table sets s
