-- The outline of a `.y` file: its declarations and rules as those of a grammar text.
use Rattle.std.specs.Prelude.{◌≡◌, ◌++◌, ◌∷◌, [], Bool, true, false, ℕ, List, drop, filter, length, map, option_map, take, Option, Vec}
use Rattle.std.specs.BTreeMap.{BTreeMap}
use Rattle.std.specs.Borrow.{Bor}
use Rattle.std.specs.List.{flat_map}
use Rattle.std.specs.Option.{option_map_or}
use Rattle.lrpar_grammar_words.specs.declared.outline.Alternative.{Alternative as TextRule}
use Rattle.lrpar_grammar_words.specs.declared.words.Word.{Word as TextWord}
use Rattle.lrpar_grammar_words.specs.Outline.{TextAlternative, TextOutline, alternative_of as text_alternative_of}
use Rattle.lrpar_grammar_words.specs.Words.{PlacedWord as PlacedTextWord, placed as text_placed}
use Rattle.lrpar_grammar_reader.specs.Names.{first_of_each}
use Rattle.lrpar_grammar_bison.specs.declared.words.Word.{Word}
use Rattle.lrpar_grammar_bison.specs.Words.{PlacedWord, placed}
use Rattle.lrpar_grammar_bison_rules.specs.declared.aliases.Alias.{Alias}
use Rattle.lrpar_grammar_bison_rules.specs.declared.rules.Alternative.{Alternative}
use Rattle.lrpar_grammar_bison_rules.specs.declared.rules.FileRules.{FileRules}
use Rattle.lrpar_grammar_bison_rules.specs.declared.word_order.ItemKind.{ItemKind}
use Rattle.lrpar_grammar_bison_rules.specs.declared.word_order.ItemKind.TheVariants.{Symbol, Prec}
use Rattle.lrpar_grammar_bison_rules.specs.Aliases.{FileAlias, MapsAliases, alias_of, is_predefined, token_with, turned}
use Rattle.lrpar_grammar_bison_rules.specs.Rules.{FileAlternative, FileItem, FileRank, Rules, alternative_of, rules_in}
use Rattle.lrpar_grammar_bison_parts.specs.Ends.{end_in_rules, end_name, without_name}
use Rattle.lrpar_grammar_bison_parts.specs.Midrules.{actions_in, actions_of, filled, midrules_from, symbols_in}
use Rattle.lrpar_grammar_bison_parts.specs.Symbols.{symbol_word, text_word}

-- the tokens that have a text, each once
abbrev pub named_tokens : List FileAlias → List PlacedTextWord
named_tokens aliases = first_of_each (map (λ (x : FileAlias). text_word x.token) aliases)

-- the text of a token: the first of several
abbrev pub text_of : List FileAlias → PlacedTextWord → PlacedTextWord
text_of aliases w = option_map_or text_word (token_with (map turned aliases) w.name) w

-- a part of that kind with that name declares a token: the symbol of a `%prec`, or one that needs no declaration
abbrev pub declares : ItemKind → List ℕ → Bool
declares Prec name = true
declares Symbol name = is_predefined name
declares _ name = false

-- the tokens that parts of an alternative declare
abbrev pub declared_among : List FileItem → List PlacedWord
declared_among items = map (λ (i : FileItem). i.word) (filter (λ (i : FileItem). declares i.kind i.word.name) items)

-- the tokens that an alternative declares
abbrev pub declared_in : FileAlternative → List PlacedWord
declared_in x = declared_among x.items

-- the words that declare tokens: those of `%token`, those with a precedence, those of `%prec`, and those that need no declaration
abbrev pub declared_words : Rules → List PlacedTextWord
declared_words r =
    map text_word r.tokens
    ++ (map (symbol_word r.aliases) (map (λ (x : FileRank). x.word) r.ranked) ++ map (symbol_word r.aliases) (flat_map declared_in r.alternatives))

-- the words that declare tokens and the one that uses the token of the end; without such a one, those that don't declare that token
abbrev pub token_words : Rules → Option PlacedWord → List PlacedTextWord
token_words r end =
    option_map_or (λ (w : PlacedWord). declared_words r ++ (symbol_word r.aliases w ∷ [])) end (without_name (end_name r.numbers) (declared_words r))

-- the tokens that have a text, each once; that of the end only if a word uses it
abbrev pub epp_tokens : Rules → Option PlacedWord → List PlacedTextWord
epp_tokens r end = option_map_or (λ (w : PlacedWord). named_tokens r.aliases) end (without_name (end_name r.numbers) (named_tokens r.aliases))

-- the alternative of a rule for an action
abbrev pub midrule_alternative : PlacedTextWord → TextAlternative
midrule_alternative m = record { rule = m; symbols = []; end = m }

-- an alternative, with these rules for its actions
abbrev pub text_alternative : List FileAlias → List PlacedTextWord → FileAlternative → TextAlternative
text_alternative aliases midrules x = record {
  rule = text_word x.rule;
  symbols = filled aliases midrules (symbols_in x.items);
  end = text_word x.end;
}

-- The alternatives, with these rules for the actions among symbols. The rules for the actions of an alternative come before it.
abbrev pub text_alternatives : List FileAlias → List PlacedTextWord → List FileAlternative → List TextAlternative
text_alternatives aliases midrules [] = []
text_alternatives aliases midrules (x ∷ xs) =
    let count = length (actions_in x.items) in
    map midrule_alternative (take count midrules)
    ++ (text_alternative aliases (take count midrules) x ∷ text_alternatives aliases (drop count midrules) xs)

-- the outline of a file, with these rules for the actions among symbols
abbrev pub outline_by : List PlacedTextWord → Rules → TextOutline
outline_by midrules r = record {
  starts = map text_word r.starts;
  declared = token_words r (end_in_rules r);
  epps = epp_tokens r (end_in_rules r);
  epp_texts = map (text_of r.aliases) (epp_tokens r (end_in_rules r));
  defined = map text_word r.defined ++ midrules;
  alternatives = text_alternatives r.aliases midrules r.alternatives;
  symbols = [];
}

-- the rules for the actions among the symbols of a file
abbrev pub midrules_of : Rules → List PlacedTextWord
midrules_of r = midrules_from 1 (actions_of r.alternatives)

-- the outline of a file
abbrev pub file_outline : Rules → TextOutline
file_outline r = outline_by (midrules_of r) r

-- these are the words in a grammar text
abbrev pub AreTextWords : {A : Type 0} → List Word → Vec TextWord A → Type 0
AreTextWords words texts = map text_placed texts.items ≡ map text_word (map placed words)

-- these are the aliases with texts and tokens in the place of each other
abbrev pub AreTurned : {A : Type 0} → List Alias → Vec Alias A → Type 0
AreTurned aliases others = map alias_of others.items ≡ map turned (map alias_of aliases)

-- the words were appended as symbols
abbrev pub AppendsSymbols : {A : Type 0} → BTreeMap (Bor (List ℕ)) Word → Vec TextWord A → Vec TextWord A → List PlacedWord → Type 0
AppendsSymbols found old new words =
    (aliases : List FileAlias) → MapsAliases found aliases → map text_placed new.items ≡ map text_placed old.items ++ map (symbol_word aliases) words

-- these are the tokens that have a text, each once
abbrev pub AreEpps : List Alias → List PlacedTextWord → Type 0
AreEpps aliases names = names ≡ named_tokens (map alias_of aliases)

-- if the map has some tokens in the place of texts, this is the text of the token: the first of several
abbrev pub IsTextOf : BTreeMap (Bor (List ℕ)) Word → TextWord → TextWord → Type 0
IsTextOf found token result =
    (others : List FileAlias) → MapsAliases found others → text_placed result ≡ option_map_or text_word (token_with others token.name.now) (text_placed token)

-- these are the texts of the tokens
abbrev pub AreEppTexts : {A : Type 0} → List Alias → List TextWord → Vec TextWord A → Type 0
AreEppTexts aliases tokens texts = map text_placed texts.items ≡ map (text_of (map alias_of aliases)) (map text_placed tokens)

-- these are the tokens of a file that have a text, if this word uses that of the end
abbrev pub AreEppTokens : {A : Type 0} → FileRules → Option Word → Vec TextWord A → Type 0
AreEppTokens rules end words = map text_placed words.items ≡ epp_tokens (rules_in rules) (option_map placed end)

-- these are the tokens of a file, if this word uses that of the end
abbrev pub AreTokenWords : {A : Type 0} → FileRules → Option Word → Vec TextWord A → Type 0
AreTokenWords rules end words = map text_placed words.items ≡ token_words (rules_in rules) (option_map placed end)

-- these are the words of a file that declare tokens
abbrev pub AreDeclaredWords : {A : Type 0} → FileRules → Vec TextWord A → Type 0
AreDeclaredWords rules words = map text_placed words.items ≡ declared_words (rules_in rules)

-- the alternatives of these rules were appended
abbrev pub AppendsMidrules : {A : Type 0} → Vec TextRule A → Vec TextRule A → List TextWord → Type 0
AppendsMidrules old new midrules =
    map text_alternative_of new.items ≡ map text_alternative_of old.items ++ map midrule_alternative (map text_placed midrules)

-- if the map has some texts, this is the alternative with these rules for its actions
abbrev pub IsTextAlternative : BTreeMap (Bor (List ℕ)) Word → Alternative → List TextWord → TextRule → Type 0
IsTextAlternative found alternative midrules result =
    (aliases : List FileAlias) → MapsAliases found aliases
    → text_alternative_of result ≡ text_alternative aliases (map text_placed midrules) (alternative_of alternative)

-- if the map has some texts, these are the alternatives with these rules for their actions
abbrev pub AreTextAlternatives : {A : Type 0} → BTreeMap (Bor (List ℕ)) Word → List Alternative → List TextWord → Vec TextRule A → Type 0
AreTextAlternatives found alternatives midrules result =
    (aliases : List FileAlias) → MapsAliases found aliases
    → map text_alternative_of result.items ≡ text_alternatives aliases (map text_placed midrules) (map alternative_of alternatives)
