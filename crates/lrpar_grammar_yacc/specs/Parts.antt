-- The parts of a `.y` file that a grammar text doesn't have, by their bytes. 37 is `%`, 123 `{`.
use Rattle.std.specs.Prelude.{◌<◌, ◌≤◌, ◌+◌, ◌-◌, ◌==◌, ◌&&◌, not, ℕ, zero, suc, Bool, true, false, List, [], ◌∷◌, drop, length, nat_eq, codes, Option, Some, None, option_map, ◌⊎◌, slice_index, if◌then◌else◌}
use Rattle.std.specs.List.{prefix_len, position_or_len, starts_with}
use Rattle.std.specs.Option.{option_and_then, option_map_or, is_none}
use Rattle.lrpar_grammar_words.specs.declared.words.WordKind.{WordKind}
use Rattle.lrpar_grammar_words.specs.declared.words.WordKind.TheVariants.{Name, Quoted}
use Rattle.lrpar_grammar_words.specs.declared.word_order.Expected.{Expected}
use Rattle.lrpar_grammar_words.specs.declared.word_order.Expected.TheVariants.{Declaration, MoreTokens, RuleColon, NextSymbol, TextEnd}
use Rattle.lrpar_grammar_words.specs.Words.{is_digit, piece_at}
use Rattle.lrpar_grammar_code.specs.declared.code.Run.TheVariants.{Braced, Typed}
use Rattle.lrpar_table_precedence.specs.declared.precedence.AssocKind.TheVariants.{Left, Right, Nonassoc}
use Rattle.lrpar_grammar_yacc.specs.declared.parts.Part.{Part}
use Rattle.lrpar_grammar_yacc.specs.declared.parts.PartKind.{PartKind}
use Rattle.lrpar_grammar_yacc.specs.declared.parts.PartKind.TheVariants.{Level, AvoidInsert, ExpectUnused, Expect, ExpectRr, ActionType, ParseParam, Header, RuleType, Action, Prec, Empty, Programs}
use Rattle.lrpar_grammar_yacc.specs.declared.parts.YaccKind.{YaccKind}
use Rattle.lrpar_grammar_yacc.specs.declared.parts.YaccKind.TheVariants.{Grmtools, Original}
use Rattle.lrpar_grammar_code.specs.Code.{more, run_len}

-- a name or a quoted word
abbrev pub is_name : Option WordKind → Bool
is_name (Some Name) = true
is_name (Some Quoted) = true
is_name _ = false

-- The number of bytes of blanks at the start of s. `skip`: how many bytes of s belong to blanks that begin before it.
abbrev pub blanks_from : ℕ → List ℕ → ℕ
blanks_from skip [] = 0
blanks_from (suc skip) (c ∷ s) = 1 + blanks_from skip s
blanks_from zero (c ∷ s) = option_map_or (λ x. if is_none x.word then 1 + blanks_from (x.len - 1) s else 0) (piece_at (c ∷ s)) 0

-- the number of bytes of blanks at the start of s
abbrev pub blanks_len : List ℕ → ℕ
blanks_len s = blanks_from 0 s

-- The place after the last of the names with which s goes on, with blanks before each; `last` if there is none. `place`: that of s.
-- `skip`: how many bytes of s belong to a name or to blanks that begin before it.
abbrev pub names_from : ℕ → ℕ → ℕ → List ℕ → ℕ
names_from last place skip [] = last
names_from last place (suc skip) (c ∷ s) = names_from last (place + 1) skip s
names_from last place zero (c ∷ s) =
    option_map_or (λ x. if is_name x.word then names_from (place + x.len) (place + 1) (x.len - 1) s
    else (if is_none x.word then names_from last (place + 1) (x.len - 1) s else last)) (piece_at (c ∷ s)) last

-- the number of bytes up to the end of the last of the names with which s begins, with blanks before each
abbrev pub names_len : List ℕ → ℕ
names_len s = names_from 0 0 0 s

-- a part: what it is, the number of bytes before its names, its number or its type, and its length
abbrev pub part : PartKind → ℕ → ℕ → Part
part kind head len = record { kind = kind; head = head; len = len }

-- a sign of that length, and names
abbrev pub names_part : PartKind → ℕ → List ℕ → Part
names_part kind sign s = part kind sign (sign + names_len (drop sign s))

-- a sign of that length, blanks, and digits
abbrev pub number_part : PartKind → ℕ → List ℕ → Part
number_part kind sign s = let head = sign + blanks_len (drop sign s) in part kind head (head + prefix_len is_digit (drop head s))

-- a sign of that length, and the rest of the line
abbrev pub line_part : PartKind → ℕ → List ℕ → Part
line_part kind sign s = part kind sign (sign + position_or_len (λ c. c == 10) (drop sign s))

-- the length of a `{` and of the code up to its `}`
abbrev pub braces_len : List ℕ → Option ℕ
braces_len [] = None
braces_len (c ∷ s) = if c == 123 then more 2 (run_len Braced 0 0 s) else None

-- `%grmtools`, blanks, and braces
abbrev pub header_part : List ℕ → Option Part
header_part s = let head = 9 + blanks_len (drop 9 s) in option_map (λ n. part Header head (head + n)) (braces_len (drop head s))

-- `%prec`, blanks, and a name
abbrev pub prec_part : List ℕ → Option Part
prec_part s =
    let head = 5 + blanks_len (drop 5 s) in
    option_and_then (λ x. if is_name x.word then Some (part Prec head (head + x.len)) else None) (piece_at (drop head s))

-- the files that name one type for all rules
abbrev pub is_original : YaccKind → Bool
is_original Original = true
is_original Grmtools = false

-- a declaration without a list of names
unfoldable pub other_declaration_at : YaccKind → List ℕ → Option Part
other_declaration_at kind s =
    if starts_with nat_eq s (codes "%expect-rr") then Some (number_part ExpectRr 10 s)
    else (if starts_with nat_eq s (codes "%expect") then Some (number_part Expect 7 s)
    else (if starts_with nat_eq s (codes "%parse-param") then Some (line_part ParseParam 12 s)
    else (if starts_with nat_eq s (codes "%actiontype") && is_original kind then Some (line_part ActionType 11 s)
    else (if starts_with nat_eq s (codes "%grmtools") then header_part s else None))))

-- a declaration
unfoldable pub declaration_at : YaccKind → List ℕ → Option Part
declaration_at kind s =
    if starts_with nat_eq s (codes "%left") then Some (names_part (Level Left) 5 s)
    else (if starts_with nat_eq s (codes "%right") then Some (names_part (Level Right) 6 s)
    else (if starts_with nat_eq s (codes "%nonassoc") then Some (names_part (Level Nonassoc) 9 s)
    else (if starts_with nat_eq s (codes "%avoid_insert") then Some (names_part AvoidInsert 13 s)
    else (if starts_with nat_eq s (codes "%expect-unused") then Some (names_part ExpectUnused 14 s)
    else other_declaration_at kind s))))

-- the type of a rule, up to the `:`
unfoldable pub type_at : YaccKind → List ℕ → Option Part
type_at kind s =
    if starts_with nat_eq s (codes "->") && not (is_original kind) then option_map (λ n. part RuleType 2 (2 + n)) (run_len Typed 0 0 (drop 2 s)) else None

-- what an alternative may have beside its symbols
unfoldable pub symbol_at : List ℕ → Option Part
symbol_at s =
    if starts_with nat_eq s (codes "{") then option_map (λ n. part Action 1 n) (braces_len s)
    else (if starts_with nat_eq s (codes "%prec") then prec_part s
    else (if starts_with nat_eq s (codes "%empty") then Some (part Empty 6 6) else None))

-- all that is left
abbrev pub programs_at : List ℕ → Option Part
programs_at [] = None
programs_at (c ∷ s) = Some (part Programs 0 (1 + length s))

-- the part at the start of s, if it is one that may be where words as expected are allowed
unfoldable pub part_at : YaccKind → Expected → List ℕ → Option Part
part_at kind Declaration s = declaration_at kind s
part_at kind MoreTokens s = declaration_at kind s
part_at kind RuleColon s = type_at kind s
part_at kind NextSymbol s = symbol_at s
part_at kind TextEnd s = programs_at s
part_at kind _ s = None

-- n bytes of s end after an ASCII byte or before one, or at the end of s
abbrev pub EndsAtAscii : List ℕ → ℕ → Type 0
EndsAtAscii s n = (slice_index s n < 128) ⊎ ((0 < n) × (slice_index s (n - 1) < 128))

-- a part has at least one byte, and it ends in s between two characters
pub record IsPartWithin (s : List ℕ) (x : Part) : Type 0 where
  pub some : 0 < x.len
  pub body : x.head ≤ x.len
  pub most : x.len ≤ length s
  pub end : EndsAtAscii s x.len
