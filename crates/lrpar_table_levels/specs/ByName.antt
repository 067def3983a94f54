-- The precedences that a `.y` file declares for its grammar, by names. A token has that of its name. A production has that of the
-- name after its `%prec`; without `%prec`, that of its last token.
use Rattle.std.specs.Prelude.{◌≡◌, ◌==◌, ℕ, List, [], Option, bytes_eq, length, map, slice_get, slice_index_or}
use Rattle.std.specs.BTreeMap.{BTreeMap, get_by}
use Rattle.std.specs.Borrow.{Bor}
use Rattle.std.specs.Cmp.Lexicographic.{slice_cmp}
use Rattle.std.specs.Ordering.{nat_cmp}
use Rattle.std.specs.List.{find, flat_map, range_with_len}
use Rattle.std.specs.Map.{lookup}
use Rattle.std.specs.Option.{option_and_then, option_map_or}
use Rattle.lrpar_grammar.specs.Grammar.{Grammar, symbols_of}
use Rattle.lrpar_grammar_yacc.specs.Declares.{TextDeclarations, TextLevel, TextPrec}
use Rattle.lrpar_table_precedence.specs.declared.precedence.AssocKind.TheVariants.{Left}
use Rattle.lrpar_table_precedence.specs.declared.precedence.Precedence.{Precedence}
use Rattle.lrpar_table_levels.specs.Levels.{last_token}

-- level n; out of range, one without names
abbrev pub text_level_at : List TextLevel → ℕ → TextLevel
text_level_at levels n = slice_index_or levels n (record { kind = Left; names = [] })

-- the names of level n, each with the level's precedence
abbrev pub names_at : List TextLevel → ℕ → List (List ℕ × Precedence)
names_at levels n = map (λ w. (w.name, record { level = n; kind = (text_level_at levels n).kind })) (text_level_at levels n).names

-- the names of all levels, each with its precedence
abbrev pub name_entries : List TextLevel → List (List ℕ × Precedence)
name_entries levels = flat_map (names_at levels) (range_with_len 0 (length levels))

-- the precedence of a name, if a level has it
abbrev pub precedence_of_name : List TextLevel → List ℕ → Option Precedence
precedence_of_name levels name = lookup (bytes_eq name) (name_entries levels)

-- the precedence of token t
abbrev pub token_by_name : Grammar → List TextLevel → ℕ → Option Precedence
token_by_name g levels t = option_and_then (λ token. precedence_of_name levels token.name) (slice_get g.tokens t)

-- the first `%prec` of production p
abbrev pub prec_of_prod : List TextPrec → ℕ → Option TextPrec
prec_of_prod precs p = find (λ x. x.prod == p) precs

-- the precedence of production p
abbrev pub prod_by_name : Grammar → TextDeclarations → ℕ → Option Precedence
prod_by_name g d p =
    option_map_or (λ x. precedence_of_name d.levels x.name.name) (prec_of_prod d.precs p)
    (option_and_then (token_by_name g d.levels) (last_token (symbols_of g p)))

-- the precedence of a name in a map
abbrev pub precedence_in : BTreeMap (Bor (List ℕ)) Precedence → List ℕ → Option Precedence
precedence_in names name = get_by (λ k. slice_cmp nat_cmp name k.now) names

-- the map has the precedences of these entries
abbrev pub HasPrecedences : BTreeMap (Bor (List ℕ)) Precedence → List (List ℕ × Precedence) → Type 0
HasPrecedences names entries = (name : List ℕ) → precedence_in names name ≡ lookup (bytes_eq name) entries
