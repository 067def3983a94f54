-- Names of tokens without the quotes of literals.
use Rattle.std.specs.Prelude.{◌≡◌, ◌-◌, ◌==◌, ◌&&◌, ◌||◌, Bool, ℕ, List, length, map, nat_lt, slice_index, slice_range, Vec, if◌then◌else◌}
use Rattle.lrpar_grammar_reader.specs.declared.parts.TokenPart.{TokenPart}
use Rattle.lrpar_grammar_reader.specs.Grammar.{TokenName}
use Rattle.lrpar_grammar_reader.specs.Parts.{token_name_of}

-- a quote
abbrev pub is_quote : ℕ → Bool
is_quote c = (c == 39) || (c == 34)

-- the text begins with a quote, and ends with the same one
abbrev pub is_in_quotes : List ℕ → Bool
is_in_quotes s = nat_lt 1 (length s) && (is_quote (slice_index s 0) && (slice_index s (length s - 1) == slice_index s 0))

-- the text without its quotes, if it has them
abbrev pub unquoted : List ℕ → List ℕ
unquoted s = if is_in_quotes s then slice_range s 1 (length s - 1) else s

-- the token with a name and a printed text that have no quotes
abbrev pub unquoted_token : TokenName → TokenName
unquoted_token t = record { name = unquoted t.name; epp = unquoted t.epp; span = t.span }

-- the token has the name and the printed text of another one, without quotes
abbrev pub HasUnquotedName : TokenPart → TokenPart → Type 0
HasUnquotedName token part = token_name_of part ≡ unquoted_token (token_name_of token)

-- these tokens have the names and printed texts of others, without quotes
abbrev pub HaveUnquotedNames : {A : Type 0} → List TokenPart → Vec TokenPart A → Type 0
HaveUnquotedNames tokens parts = map token_name_of parts.items ≡ map unquoted_token (map token_name_of tokens)
