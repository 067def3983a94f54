-- Words of a `.y` file as words of a grammar text.
use Rattle.std.specs.Prelude.{◌≡◌, ℕ, List, map}
use Rattle.std.specs.BTreeMap.{BTreeMap}
use Rattle.std.specs.Borrow.{Bor}
use Rattle.std.specs.Option.{option_map_or}
use Rattle.lrpar_grammar_words.specs.declared.words.Word.{Word as TextWord}
use Rattle.lrpar_grammar_words.specs.declared.words.WordKind.{WordKind as TextKind}
use Rattle.lrpar_grammar_words.specs.declared.words.WordKind.TheVariants.{Name, Quoted}
use Rattle.lrpar_grammar_words.specs.Words.{PlacedWord as PlacedTextWord, placed as text_placed}
use Rattle.lrpar_grammar_bison.specs.declared.words.Word.{Word}
use Rattle.lrpar_grammar_bison.specs.declared.words.WordKind.{WordKind}
use Rattle.lrpar_grammar_bison.specs.declared.words.WordKind.TheVariants.{Character, Text}
use Rattle.lrpar_grammar_bison.specs.Words.{PlacedWord, placed}
use Rattle.lrpar_grammar_bison_rules.specs.declared.aliases.Alias.{Alias}
use Rattle.lrpar_grammar_bison_rules.specs.Aliases.{FileAlias, MapsAliases, alias_of, token_with}

-- the kind of a word in a grammar text: a literal is quoted
abbrev pub text_kind : WordKind → TextKind
text_kind Character = Quoted
text_kind Text = Quoted
text_kind _ = Name

-- a word in a grammar text; a literal keeps its quotes
abbrev pub text_word : PlacedWord → PlacedTextWord
text_word w = record { kind = text_kind w.kind; name = w.name; span = w.span }

-- the token whose text a word is, if there is one; else the word
abbrev pub target : List FileAlias → PlacedWord → PlacedWord
target aliases w = option_map_or (λ (token : PlacedWord). token) (token_with aliases w.name) w

-- a symbol of a rule in a grammar text: the token whose text it is, or itself, at its place
abbrev pub symbol_word : List FileAlias → PlacedWord → PlacedTextWord
symbol_word aliases w = record { kind = text_kind (target aliases w).kind; name = (target aliases w).name; span = w.span }

-- the map has these texts
abbrev pub HasAliases : List Alias → BTreeMap (Bor (List ℕ)) Word → Type 0
HasAliases aliases found = MapsAliases found (map alias_of aliases)

-- if the map has some texts, this is the token whose text the other word is, or that word
abbrev pub HasTarget : BTreeMap (Bor (List ℕ)) Word → Word → Word → Type 0
HasTarget found word result = (aliases : List FileAlias) → MapsAliases found aliases → placed result ≡ target aliases (placed word)

-- if the map has some texts, this is the word as a symbol
abbrev pub IsSymbolWord : BTreeMap (Bor (List ℕ)) Word → Word → TextWord → Type 0
IsSymbolWord found word result = (aliases : List FileAlias) → MapsAliases found aliases → text_placed result ≡ symbol_word aliases (placed word)
