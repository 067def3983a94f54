-- What a `.y` file declares beside its grammar.
use Rattle.std.specs.Prelude.{◌+◌, ◌-◌, ◌*◌, ◌^◌, ℕ, zero, suc, List, [], ◌∷◌, ◌++◌, drop, map, nat_lt, slice_get, slice_range, unwrap_or, Option, Some, None, option_map, if◌then◌else◌}
use Rattle.std.specs.List.{flat_map}
use Rattle.std.specs.Option.{option_map_or, option_to_list}
use Rattle.lrpar_grammar_places.specs.Span.{Extent}
use Rattle.lrpar_grammar_words.specs.Words.{PlacedWord, piece_at, placed, word_at}
use Rattle.lrpar_grammar_yacc.specs.declared.declarations.Declarations.{Declarations}
use Rattle.lrpar_grammar_yacc.specs.declared.declarations.Level.{Level}
use Rattle.lrpar_grammar_yacc.specs.declared.declarations.Number.{Number}
use Rattle.lrpar_grammar_yacc.specs.declared.declarations.Prec.{Prec}
use Rattle.lrpar_table_precedence.specs.declared.precedence.AssocKind.{AssocKind}
use Rattle.lrpar_grammar_yacc.specs.declared.parts.PartKind.{PartKind}
use Rattle.lrpar_grammar_yacc.specs.declared.parts.PartKind.TheVariants.{Level as LevelPart, AvoidInsert, ExpectUnused, Expect, ExpectRr, Prec as PrecPart}
use Rattle.lrpar_grammar_yacc.specs.declared.parts.YaccKind.{YaccKind}
use Rattle.lrpar_grammar_yacc.specs.declared.text.TextPart.{TextPart}
use Rattle.lrpar_grammar_yacc.specs.Steps.{parts_of}

-- names whose precedence is the same, and what they do beside each other
pub record TextLevel : Type 0 where
  pub kind : AssocKind
  pub names : List PlacedWord

-- a number, and the place of its digits
pub record TextNumber : Type 0 where
  pub number : ℕ
  pub span : Extent

-- a production, and the name that it has its precedence from
pub record TextPrec : Type 0 where
  pub prod : ℕ
  pub name : PlacedWord

-- the levels, the lowest first; the productions with a precedence of their own; the tokens that repairs are to avoid; the names that
-- may be unused; and the numbers of conflicts
pub record TextDeclarations : Type 0 where
  pub levels : List TextLevel
  pub precs : List TextPrec
  pub avoided : List PlacedWord
  pub unused : List PlacedWord
  pub expected : List TextNumber
  pub expected_rr : List TextNumber

-- a level as plain data
abbrev pub level_of : Level → TextLevel
level_of x = record { kind = x.kind; names = map placed x.names.items }

-- a number as plain data
abbrev pub number_as : Number → TextNumber
number_as x = record { number = x.number; span = x.span }

-- a production's precedence as plain data
abbrev pub prec_of : Prec → TextPrec
prec_of x = record { prod = x.prod; name = placed x.name }

-- declarations as plain data
abbrev pub declarations_of : Declarations → TextDeclarations
declarations_of x = record {
  levels = map level_of x.levels.items;
  precs = map prec_of x.precs.items;
  avoided = map placed x.avoided.items;
  unused = map placed x.unused.items;
  expected = map number_as x.expected.items;
  expected_rr = map number_as x.expected_rr.items;
}

-- The words among the first n bytes of s, which is at that place of the text. `skip`: how many bytes of s belong to a word or to
-- blanks that begin before it.
abbrev pub words_from : ℕ → ℕ → ℕ → List ℕ → List PlacedWord
words_from place n skip [] = []
words_from place zero skip (c ∷ s) = []
words_from place (suc n) (suc skip) (c ∷ s) = words_from (place + 1) n skip s
words_from place (suc n) zero (c ∷ s) =
    option_map_or (λ x. option_to_list (option_map (λ kind. word_at place (c ∷ s) kind x.len) x.word) ++ words_from (place + 1) n (x.len - 1) s) (piece_at (c ∷ s)) []

-- the names of a part
abbrev pub names_of : List ℕ → TextPart → List PlacedWord
names_of text x = words_from x.body (x.end - x.body) 0 (drop x.body text)

-- the number that begins with `number` and goes on with these digits, if it is less than 2 ^ 64
abbrev pub number_from : ℕ → List ℕ → Option ℕ
number_from number [] = Some number
number_from number (c ∷ s) =
    let next = number * 10 + (c - 48) in if nat_lt next (2 ^ 64) then number_from next s else None

-- the number with these digits, if there are any and it is less than 2 ^ 64
abbrev pub number_of : List ℕ → Option ℕ
number_of [] = None
number_of (c ∷ s) = number_from 0 (c ∷ s)

-- the digits of a part
abbrev pub digits_of : List ℕ → TextPart → List ℕ
digits_of text x = slice_range text x.body x.end

-- the number of a part; 0 if its digits are no number
abbrev pub number_in : List ℕ → TextPart → TextNumber
number_in text x = record { number = unwrap_or (number_of (digits_of text x)) 0; span = record { start = x.body; end = x.end } }

-- the level that a part declares
abbrev pub levels_in : List ℕ → TextPart → PartKind → List TextLevel
levels_in text x (LevelPart kind) = record { kind = kind; names = names_of text x } ∷ []
levels_in text x _ = []

-- the production whose precedence a part gives
abbrev pub precs_in : List ℕ → TextPart → PartKind → List TextPrec
precs_in text x PrecPart = option_to_list (option_map (λ name. record { prod = x.prod; name = name }) (slice_get (names_of text x) 0))
precs_in text x _ = []

-- the tokens that a part lists, which repairs are to avoid
abbrev pub avoided_in : List ℕ → TextPart → PartKind → List PlacedWord
avoided_in text x AvoidInsert = names_of text x
avoided_in text x _ = []

-- the names that a part lists, which may be unused
abbrev pub unused_in : List ℕ → TextPart → PartKind → List PlacedWord
unused_in text x ExpectUnused = names_of text x
unused_in text x _ = []

-- the number of shift/reduce conflicts that a part gives
abbrev pub expected_in : List ℕ → TextPart → PartKind → List TextNumber
expected_in text x Expect = number_in text x ∷ []
expected_in text x _ = []

-- the number of reduce/reduce conflicts that a part gives
abbrev pub expected_rr_in : List ℕ → TextPart → PartKind → List TextNumber
expected_rr_in text x ExpectRr = number_in text x ∷ []
expected_rr_in text x _ = []

-- no declaration
abbrev pub nothing_declared : TextDeclarations
nothing_declared = record { levels = []; precs = []; avoided = []; unused = []; expected = []; expected_rr = [] }

-- declarations, and what one more part declares
unfoldable pub with_part : List ℕ → TextDeclarations → TextPart → TextDeclarations
with_part text d x = record {
  levels = d.levels ++ levels_in text x x.kind;
  precs = d.precs ++ precs_in text x x.kind;
  avoided = d.avoided ++ avoided_in text x x.kind;
  unused = d.unused ++ unused_in text x x.kind;
  expected = d.expected ++ expected_in text x x.kind;
  expected_rr = d.expected_rr ++ expected_rr_in text x x.kind;
}

-- what parts declare, in their order
abbrev pub declared_by : List ℕ → List TextPart → TextDeclarations
declared_by text parts = record {
  levels = flat_map (λ x. levels_in text x x.kind) parts;
  precs = flat_map (λ x. precs_in text x x.kind) parts;
  avoided = flat_map (λ x. avoided_in text x x.kind) parts;
  unused = flat_map (λ x. unused_in text x x.kind) parts;
  expected = flat_map (λ x. expected_in text x x.kind) parts;
  expected_rr = flat_map (λ x. expected_rr_in text x x.kind) parts;
}

-- what a text declares
abbrev pub declarations : YaccKind → List ℕ → TextDeclarations
declarations kind text = declared_by text (parts_of kind text)
