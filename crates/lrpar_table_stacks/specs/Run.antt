-- A run without repairs, lexeme by lexeme, over any table and any lexemes: where it ends, and which reductions it makes.
use Rattle.std.specs.Prelude.{◌≡◌, ◌≢◌, ◌<◌, ◌≤◌, ◌+◌, ℕ, List, [], ◌∷◌, ◌++◌, length, drop, slice_get, Option, Some, None}
use Rattle.std.specs.Option.{option_map_or}
use Rattle.lrpar_grammar.specs.Grammar.{Grammar, end_token}
use Rattle.lrpar_table_rows.specs.Table.{Table, ShiftTo, Accepts}
use Rattle.lrpar_table_stacks.specs.Reduction.{Feeds, Settles, top_action}

-- the token of lexeme i; past the last one, the end token
abbrev pub token_at : {X : Type 0} → (X → ℕ) → Grammar → List X → ℕ → ℕ
token_at token g lexemes i = option_map_or token (slice_get lexemes i) (end_token g)

-- a settled stack is stuck at place i: its top doesn't shift the token of lexeme i, or, at the end, doesn't accept
pub record IsStuck {X : Type 0} (token : X → ℕ) (g : Grammar) (table : Table) (lexemes : List X) (settled : List ℕ) (i : ℕ) : Type 0 where
  pub shifts_not : i < length lexemes → (next : ℕ) → top_action table (token_at token g lexemes i) settled ≢ ShiftTo next
  pub accepts_not : i ≡ length lexemes → top_action table (end_token g) settled ≢ Accepts

-- a stop, the error point of a run: a settled stack, and the place of a lexeme, or the place after the last one
pub record Stop : Type 0 where
  pub stack : List ℕ
  pub place : ℕ

-- the stop with this stack at this place
abbrev pub stop_at : List ℕ → ℕ → Stop
stop_at stack place = record { stack = stack; place = place }

-- the end of a run: it accepts, or it stops
pub data FarEnd : Type 0 where
  Accepted : FarEnd
  Stopped : (stop : Stop) → FarEnd

-- from the stack at place i the run feeds the lexemes up to place j, with the reductions `prods`, and comes to another stack
pub data Comes {X : Type 0} (token : X → ℕ) (g : Grammar) (table : Table) (lexemes : List X) : List ℕ → ℕ → List ℕ → List ℕ → ℕ → Type 0 where
  -- no lexeme is fed
  stays : (st : List ℕ) (i : ℕ) → Comes token g table lexemes st i [] st i
  -- lexeme i is fed, and then those from the next one on
  comes_on : (st : List ℕ) (i : ℕ) (ps qs next after : List ℕ) (j : ℕ) → i < length lexemes
      → Feeds g table (token_at token g lexemes i) st ps next → Comes token g table lexemes next (i + 1) qs after j
      → Comes token g table lexemes st i (ps ++ qs) after j

-- from the stack at place i the run goes as far as it can: it makes the reductions `prods`, in this order, and comes to this end
pub data Far {X : Type 0} (token : X → ℕ) (g : Grammar) (table : Table) (lexemes : List X) : List ℕ → ℕ → List ℕ → FarEnd → Type 0 where
  -- lexeme i is fed, and the run goes on at the next one
  goes_on : (st : List ℕ) (i : ℕ) (ps qs next : List ℕ) (end : FarEnd) → i < length lexemes
      → Feeds g table (token_at token g lexemes i) st ps next → Far token g table lexemes next (i + 1) qs end
      → Far token g table lexemes st i (ps ++ qs) end
  -- all lexemes are fed, all reductions are made at the end token, and the top accepts
  accepts : (st : List ℕ) (i : ℕ) (ps settled : List ℕ) → i ≡ length lexemes
      → Settles g table (end_token g) st ps settled → top_action table (end_token g) settled ≡ Accepts
      → Far token g table lexemes st i ps Accepted
  -- all reductions are made at the token of lexeme i, or at the end token, and the stack is stuck
  stops : (st : List ℕ) (i : ℕ) (ps settled : List ℕ) → i ≤ length lexemes
      → Settles g table (token_at token g lexemes i) st ps settled → IsStuck token g table lexemes settled i
      → Far token g table lexemes st i ps (Stopped (record { stack = settled; place = i }))

-- A run from the stack at place i, without repairs: its stops; the lexemes that it consumes, if it accepts; and its
-- reductions.
pub data Run {X : Type 0} (token : X → ℕ) (g : Grammar) (table : Table) (lexemes : List X) : List ℕ → ℕ → List Stop → Option (List X) → List ℕ → Type 0 where
  -- the run accepts, and consumes the lexemes from place i on
  comes_through : (st : List ℕ) (i : ℕ) (prods : List ℕ) → Far token g table lexemes st i prods Accepted
      → Run token g table lexemes st i [] (Some (drop i lexemes)) prods
  -- the run stops, and no repair is listed
  gives_up : (st : List ℕ) (i : ℕ) (prods : List ℕ) (stop : Stop) → Far token g table lexemes st i prods (Stopped stop)
      → Run token g table lexemes st i (stop ∷ []) None prods

-- runs over lexemes of this kind are deterministic: the reductions and the end are determined
abbrev pub RunsOneWay : Type 0 → Type 0
RunsOneWay X =
    (token : X → ℕ) (g : Grammar) (table : Table) (lexemes : List X) (st : List ℕ) (i : ℕ) (ps qs : List ℕ) (a b : FarEnd)
    → Far token g table lexemes st i ps a → Far token g table lexemes st i qs b → (ps ≡ qs) × (a ≡ b)
