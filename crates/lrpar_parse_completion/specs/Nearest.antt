-- The nearest place at which a parse can go on, after some first tokens of a completion are inserted and the lexemes before the place are
-- deleted.
use Rattle.std.specs.Prelude.{◌≡◌, ◌<◌, ◌≤◌, ◌-◌, ℕ, List, [], ◌∷◌, ◌++◌, length, map, replicate, take}
use Rattle.lrpar_grammar.specs.Grammar.{Grammar, end_token}
use Rattle.lrpar_table_rows.specs.Table.{Table}
use Rattle.lrpar_table_stacks.specs.Reduction.{Feeds}
use Rattle.lrpar_parse_repair.specs.Asked.{Asked}
use Rattle.lrpar_parse_repair.specs.Sequences.{PlainStep, PlainInsert, PlainDelete, CanGoOn}

-- the tokens, which are the grammar's but not its end token, are fed in turn, and lead from the stack to the stack `after`
abbrev pub FeedsAll : Grammar → Table → List ℕ → List ℕ → List ℕ → Type 0
FeedsAll g table st [] after = after ≡ st
FeedsAll g table st (t ∷ ts) after = (t < end_token g) × ((prods next : List ℕ) × Feeds g table t st prods next × FeedsAll g table next ts after)

-- the repair that inserts these tokens, and then deletes this number of lexemes
abbrev pub inserts_deletes : List ℕ → ℕ → List PlainStep
inserts_deletes tokens deleted = map (λ t. PlainInsert t) tokens ++ replicate deleted PlainDelete

-- the repair that inserts the first m tokens, and deletes the lexemes from `place` up to place j
abbrev pub repair_at : List ℕ → ℕ → ℕ → ℕ → List PlainStep
repair_at tokens place j m = inserts_deletes (take m tokens) (j - place)

-- after the first m tokens are inserted and the lexemes up to place j are deleted, the parse can go on
abbrev pub GoesOnAt : {X : Type 0} → (X → ℕ) → Asked X → List ℕ → ℕ → ℕ → Type 0
GoesOnAt token at tokens j m =
    (after : List ℕ) × FeedsAll at.checked.grammar at.checked.table at.stack (take m tokens) after
    × CanGoOn token at.checked.grammar at.checked.table at.lexemes at.shifts after j

-- this may be tried at place j: at most `most` tokens, or any number of them at the end of the lexemes
pub record MayBeTried {X : Type 0} (at : Asked X) (most : ℕ) (tokens : List ℕ) (j m : ℕ) : Type 0 where
  pub after_stop : at.place ≤ j
  pub within : j ≤ length at.lexemes
  pub some : m ≤ length tokens
  pub few : j < length at.lexemes → m ≤ most

-- the parse can go on at place j after m tokens; it can at no nearer place that may be tried; and it can't after fewer tokens
pub record IsNearest {X : Type 0} (token : X → ℕ) (at : Asked X) (most : ℕ) (tokens : List ℕ) (j m : ℕ) : Type 0 where
  pub tried : MayBeTried at most tokens j m
  pub goes_on : GoesOnAt token at tokens j m
  pub nearest : (i n : ℕ) → MayBeTried at most tokens i n → i < j → ¬ (GoesOnAt token at tokens i n)
  pub fewest : (n : ℕ) → n < m → ¬ (GoesOnAt token at tokens j n)
