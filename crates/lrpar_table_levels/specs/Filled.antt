-- Slots that are filled from entries, one by one, and those of productions also from their last tokens.
use Rattle.std.specs.Prelude.{◌≡◌, ◌<◌, ◌≤◌, ℕ, List, All, Option, None, length, nat_eq, if◌then◌else◌, Vec}
use Rattle.std.specs.Map.{keys_of, lookup}
use Rattle.std.specs.Option.{is_some, option_and_then, option_or}
use Rattle.lrpar_grammar.specs.Grammar.{Grammar, prods_len, symbols_of}
use Rattle.lrpar_table_precedence.specs.Precedence.{slot_at}
use Rattle.lrpar_table_precedence.specs.declared.precedence.Precedence.{Precedence}
use Rattle.lrpar_table_levels.specs.Levels.{last_token, count_in}

-- the slots have the entries, each number of which is there once
pub record AreFilled (entries : List (ℕ × Precedence)) (slots : List (Option Precedence)) : Type 0 where
  pub found : (n : ℕ) → slot_at slots n ≡ lookup (nat_eq n) entries
  pub once : (n : ℕ) → count_in (keys_of entries) n ≡ (if is_some (slot_at slots n) then 1 else 0)

-- no slot is filled
abbrev pub AreEmpty : List (Option Precedence) → Type 0
AreEmpty slots = (n : ℕ) → slot_at slots n ≡ None

-- there is a slot for each production of the grammar
abbrev pub AreProdSlots : {A : Type 0} → Grammar → Vec (Option Precedence) A → Type 0
AreProdSlots g slots = length slots.items ≡ prods_len g

-- there is a slot for each entry
abbrev pub HasSlotsFor : List (ℕ × Precedence) → List (Option Precedence) → Type 0
HasSlotsFor entries slots = All (λ entry. entry.0 < length slots) entries

-- more than one entry has the number
abbrev pub IsTwiceIn : List (ℕ × Precedence) → ℕ → Type 0
IsTwiceIn entries n = 2 ≤ count_in (keys_of entries) n

-- each production without a precedence got that of its last token, and each other one has what it had
abbrev pub AssignsLast : Grammar → List (Option Precedence) → List (Option Precedence) → List (Option Precedence) → Type 0
AssignsLast g tokens old new =
    (p : ℕ) → p < prods_len g → slot_at new p ≡ option_or (slot_at old p) (option_and_then (slot_at tokens) (last_token (symbols_of g p)))
