-- Few names for the tokens that are expected.
use Rattle.std.specs.Prelude.{◌≡◌, ◌<◌, ◌↔◌, ℕ, Bool, IsSome, IsTrue, List, All, Contains, Option, MatchOption, length, map, slice_index, take}
use Rattle.std.specs.Borrow.{Bor}
use Rattle.std.specs.List.{list_any}
use Rattle.lrpar_grammar_places.specs.declared.span.RIdx.{RIdx}
use Rattle.lrpar_grammar_places.specs.declared.span.TIdx.{TIdx}
use Rattle.lrpar_grammar.specs.Tokens.{CoversAll, has}
use Rattle.lrpar_table_first.specs.FirstRows.{row_at}
use Rattle.lrpar_names.specs.FirstTokens.{can_begin}
use Rattle.lrpar_names.specs.Names.{NameLists, rule_words}

-- the numbers of rules, and of tokens
abbrev pub rule_numbers : {S : Type 0} → (S → ℕ) → List (RIdx S) → List ℕ
rule_numbers index rules = map (λ rule. index rule.0) rules

abbrev pub token_numbers : {S : Type 0} → (S → ℕ) → List (TIdx S) → List ℕ
token_numbers index tokens = map (λ token. index token.0) tokens

-- whether one of the rules can begin with token t
abbrev pub can_begin_one : List (List Bool) → List ℕ → ℕ → Bool
can_begin_one rows rules t = list_any (λ r. can_begin rows r t) rules

-- rule r has a name for people, it can begin with a token, and each token with which it can begin is wanted
pub record IsNameable (rows : List (List Bool)) (names : NameLists) (Wants : ℕ → Type 0) (r : ℕ) : Type 0 where
  pub named : IsSome (rule_words names r)
  pub some : (t : ℕ) × IsTrue (can_begin rows r t)
  pub only : (t : ℕ) → IsTrue (can_begin rows r t) → Wants t

-- the token is in the set
abbrev pub IsIn : List Bool → ℕ → Type 0
IsIn bits t = IsTrue (has bits t)

-- no rule of the list can begin only with tokens with which rules before it can begin
abbrev pub AreNeeded : List (List Bool) → List ℕ → Type 0
AreNeeded rows rules =
    (i : ℕ) → i < length rules
    → ¬ ((t : ℕ) → IsTrue (can_begin rows (slice_index rules i) t) → IsTrue (can_begin_one rows (take i rules) t))

-- The rules are chosen from those of `order`, and `covered` has the tokens with which they can begin: each rule of `order` that can be
-- named begins with such tokens only.
pub record AreChosen (rows : List (List Bool)) (names : NameLists) (wanted : List Bool) (order rules : List ℕ) (covered : List Bool) : Type 0 where
  pub named : All (λ r. Contains order r × IsNameable rows names (IsIn wanted) r) rules
  pub covers : (t : ℕ) → has covered t ≡ can_begin_one rows rules t
  pub complete : All (λ r. IsNameable rows names (IsIn wanted) r → CoversAll covered (row_at rows r)) order
  pub needed : AreNeeded rows rules

-- the set has the tokens of the list for which it has room
pub record AreTokensBelow (len : ℕ) (tokens : List ℕ) (bits : List Bool) : Type 0 where
  pub room : length bits ≡ len
  pub exact : (t : ℕ) → IsTrue (has bits t) ↔ ((t < len) × Contains tokens t)

-- the tokens with which the rule can begin, if it can be named
abbrev pub FindsNameable : List (List Bool) → NameLists → List Bool → ℕ → Option (Bor (List Bool)) → Type 0
FindsNameable rows names wanted r found =
    MatchOption found (¬ (IsNameable rows names (IsIn wanted) r))
    (λ row. (r < length rows) × (row.now ≡ row_at rows r) × IsNameable rows names (IsIn wanted) r)
