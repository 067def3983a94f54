-- What a messages file means, by its lines.
use Rattle.std.specs.Prelude.{◌≡◌, ◌==◌, ◌||◌, ◌↔◌, ℕ, List, [], ◌∷◌, Contains, Ok, Some, false, if◌then◌else◌, length}
use Rattle.lrpar_grammar.specs.Grammar.{Grammar, GrammarSymbol}
use Rattle.lrpar_names.specs.Entries.{Entry, entry_of}
use Rattle.lrpar_names.specs.Messages.{is_end_sign, read_names, symbol_named}
use Rattle.lrpar_names.specs.Names.{NameLists, words_of}
use Rattle.lrpar_names.specs.Parts.{Part, is_comment, pieces, trimmed, whole}

-- the lines before the first line `%%`, without what is white at their ends
abbrev pub lines_before_end : List Part → List Part
lines_before_end [] = []
lines_before_end (line ∷ lines) = if is_end_sign (trimmed line) then [] else trimmed line ∷ lines_before_end lines

-- the line is `NAME: WORDS`, where NAME is the symbol's name and WORDS are these
pub record GivesName (g : Grammar) (line : Part) (symbol : GrammarSymbol) (words : List ℕ) : Type 0 where
  pub entry : Entry
  pub some : (length line.bytes == 0 || is_comment line) ≡ false
  pub reads : entry_of line ≡ Ok entry
  pub names : symbol_named g entry.name.bytes ≡ Some symbol
  pub says : entry.words.bytes ≡ words

-- one of the lines gives the symbol this name
abbrev pub IsNamedBy : Grammar → List Part → GrammarSymbol → List ℕ → Type 0
IsNamedBy g lines symbol words = (line : Part) × Contains lines line × GivesName g line symbol words

-- The names of a messages file are those that its lines give: a rule or a token has a name exactly if one of the lines gives it that
-- one. So no two lines give one of them different names.
abbrev pub NamesAreThoseOfLines : Type 0
NamesAreThoseOfLines =
    (g : Grammar) (text : List ℕ) (names : NameLists) → read_names g text ≡ Ok names → (symbol : GrammarSymbol) (words : List ℕ)
    → (words_of names symbol ≡ Some words) ↔ IsNamedBy g (lines_before_end (pieces 10 (whole text))) symbol words
