-- The token of the end of the text. Each grammar has one already, so it is another one only if rules use it.
use Rattle.std.specs.Prelude.{◌≡◌, ◌==◌, ◌&&◌, ◌∷◌, [], not, Bool, ℕ, List, Option, None, bytes_eq, codes, filter, map, option_map}
use Rattle.std.specs.BTreeMap.{BTreeMap}
use Rattle.std.specs.Borrow.{Bor}
use Rattle.std.specs.List.{find}
use Rattle.std.specs.Option.{option_map_or, option_or}
use Rattle.lrpar_grammar_words.specs.Words.{PlacedWord as PlacedTextWord}
use Rattle.lrpar_grammar_bison.specs.declared.words.Word.{Word}
use Rattle.lrpar_grammar_bison.specs.Words.{PlacedWord, placed}
use Rattle.lrpar_grammar_bison_rules.specs.declared.rules.Alternative.{Alternative}
use Rattle.lrpar_grammar_bison_rules.specs.declared.rules.Item.{Item}
use Rattle.lrpar_grammar_bison.specs.Numbers.{token_number}
use Rattle.lrpar_grammar_bison_rules.specs.Aliases.{FileAlias, MapsAliases}
use Rattle.lrpar_grammar_bison_rules.specs.Rules.{FileAlternative, FileItem, FileNumber, Rules, alternative_of, item_of}
use Rattle.lrpar_grammar_bison_parts.specs.Midrules.{is_symbol}
use Rattle.lrpar_grammar_bison_parts.specs.Symbols.{symbol_word}

-- the number of a token is 0
abbrev pub is_zero : List ℕ → Bool
is_zero number = option_map_or (λ n. n == 0) (token_number number) (1 == 0)

-- the name of the token of the end: of the first one that has the number 0, and without such a one `YYEOF`
abbrev pub end_name : List FileNumber → List ℕ
end_name numbers = option_map_or (λ (x : FileNumber). x.token.name) (find (λ (x : FileNumber). is_zero x.number.name) numbers) (codes "YYEOF")

-- the first of these rules with that name
abbrev pub rule_named : List ℕ → List PlacedWord → Option PlacedWord
rule_named name words = find (λ (w : PlacedWord). bytes_eq w.name name) words

-- the part is a symbol, and the token with that name
abbrev pub is_end : List FileAlias → List ℕ → FileItem → Bool
is_end aliases end x = is_symbol x.kind && bytes_eq (symbol_word aliases x.word).name end

-- the first symbol among parts that is the token with that name, by its name or its text
abbrev pub end_among : List FileAlias → List ℕ → List FileItem → Option PlacedWord
end_among aliases end items = option_map (λ (x : FileItem). x.word) (find (is_end aliases end) items)

-- the first symbol of alternatives that is the token with that name
abbrev pub end_in_alternatives : List FileAlias → List ℕ → List FileAlternative → Option PlacedWord
end_in_alternatives aliases end [] = None
end_in_alternatives aliases end (x ∷ xs) = option_or (end_among aliases end x.items) (end_in_alternatives aliases end xs)

-- the first rule that has the name of the token of the end, or else the first symbol that is this token
abbrev pub end_in_rules : Rules → Option PlacedWord
end_in_rules r = option_or (rule_named (end_name r.numbers) r.defined) (end_in_alternatives r.aliases (end_name r.numbers) r.alternatives)

-- the words that haven't this name
abbrev pub without_name : List ℕ → List PlacedTextWord → List PlacedTextWord
without_name name words = filter (λ (w : PlacedTextWord). not (bytes_eq w.name name)) words

-- if the map has some texts, this is the first symbol among the parts that is the token with that name
abbrev pub HasEndAmong : BTreeMap (Bor (List ℕ)) Word → List ℕ → List Item → Option Word → Type 0
HasEndAmong found end items result = (aliases : List FileAlias) → MapsAliases found aliases → option_map placed result ≡ end_among aliases end (map item_of items)

-- if the map has some texts, this is the first symbol of the alternatives that is the token with that name
abbrev pub HasEndInAlternatives : BTreeMap (Bor (List ℕ)) Word → List ℕ → List Alternative → Option Word → Type 0
HasEndInAlternatives found end alternatives result =
    (aliases : List FileAlias) → MapsAliases found aliases → option_map placed result ≡ end_in_alternatives aliases end (map alternative_of alternatives)
