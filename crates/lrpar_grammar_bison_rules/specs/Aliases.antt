-- Texts that are names of tokens.
use Rattle.std.specs.Prelude.{◌≡◌, ◌&&◌, ◌||◌, ◌++◌, ◌∷◌, [], not, Bool, ℕ, List, Option, option_map, bytes_eq, codes, map, if◌then◌else◌}
use Rattle.std.specs.BTreeMap.{BTreeMap, get_by}
use Rattle.std.specs.Borrow.{Bor}
use Rattle.std.specs.Cmp.Lexicographic.{slice_cmp}
use Rattle.std.specs.List.{find}
use Rattle.std.specs.Option.{is_some}
use Rattle.std.specs.Ordering.{nat_cmp}
use Rattle.lrpar_grammar_bison.specs.declared.words.Word.{Word}
use Rattle.lrpar_grammar_bison.specs.Words.{PlacedWord, placed}
use Rattle.lrpar_grammar_bison_rules.specs.declared.aliases.Alias.{Alias}

-- a token and its text
pub record FileAlias : Type 0 where
  pub token : PlacedWord
  pub text : PlacedWord

-- a token and its text as plain data
abbrev pub alias_of : Alias → FileAlias
alias_of x = record { token = placed x.token; text = placed x.text }

-- the token that has this text, if one does: the first of such
abbrev pub token_with : List FileAlias → List ℕ → Option PlacedWord
token_with aliases text = option_map (λ (x : FileAlias). x.token) (find (λ (x : FileAlias). bytes_eq x.text.name text) aliases)

-- the text in the place of the token, and the token in that of the text
abbrev pub turned : FileAlias → FileAlias
turned x = record { token = x.text; text = x.token }

-- a name of a token that needs no declaration, and has a text of bison's own
abbrev pub is_predefined : List ℕ → Bool
is_predefined name = bytes_eq name (codes "error") || bytes_eq name (codes "YYUNDEF")

-- the text is that of one of these tokens
abbrev pub has_text : List FileAlias → List ℕ → Bool
has_text aliases text = is_some (token_with aliases text)

-- the token has no text of bison's own and none of these, and the text is that of none of these tokens
abbrev pub is_new : List FileAlias → FileAlias → Bool
is_new aliases x = not (is_predefined x.token.name) && (not (has_text aliases x.text.name) && not (has_text (map turned aliases) x.token.name))

-- with one more text, if its token has none yet, and it is no other token's
abbrev pub with_alias : List FileAlias → FileAlias → List FileAlias
with_alias aliases x = if is_new aliases x then aliases ++ x ∷ [] else aliases

-- with some more texts
abbrev pub with_aliases : List FileAlias → List FileAlias → List FileAlias
with_aliases aliases [] = aliases
with_aliases aliases (x ∷ xs) = with_aliases (with_alias aliases x) xs

-- the texts that are names of tokens: each token has one, and each text is that of one token, so of several the first counts
abbrev pub first_aliases : List FileAlias → List FileAlias
first_aliases aliases = with_aliases [] aliases

-- the map gives for each text the token that has it
abbrev pub MapsAliases : BTreeMap (Bor (List ℕ)) Word → List FileAlias → Type 0
MapsAliases found aliases = (q : List ℕ) → option_map placed (get_by (λ k. slice_cmp nat_cmp q k.now) found) ≡ token_with aliases q

-- if one map has the tokens of some texts, and another one their texts, this says whether one more is new to these
abbrev pub IsNewAlias : BTreeMap (Bor (List ℕ)) Word → BTreeMap (Bor (List ℕ)) Word → Alias → Bool → Type 0
IsNewAlias tokens texts x result =
    (aliases : List FileAlias) → MapsAliases tokens aliases → MapsAliases texts (map turned aliases) → result ≡ is_new aliases (alias_of x)
