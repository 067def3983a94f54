-- The names of a messages file.
use Rattle.std.specs.Prelude.{◌≡◌, ℕ, ◌-◌, ◌==◌, ◌||◌, Bool, List, [], ◌∷◌, length, Option, Some, None, is_some, position, Result, Ok, Err, codes, bytes_eq, if◌then◌else◌, option_map}
use Rattle.std.specs.List.{find, range_with_len}
use Rattle.lrpar_grammar_places.specs.declared.span.RIdx.{RIdx}
use Rattle.lrpar_grammar_places.specs.declared.span.Symbol.{Symbol}
use Rattle.lrpar_grammar.specs.Grammar.{Grammar, GrammarSymbol, Nonterminal, Terminal, rule_name, rules_len}
use Rattle.lrpar_grammar.specs.Symbols.{symbol_of}
use Rattle.lrpar_names.specs.declared.fault.NamesFault.{NamesFault}
use Rattle.lrpar_names.specs.declared.fault.NamesFault.TheVariants.{Empty, Repeated, Unknown}
use Rattle.lrpar_names.specs.declared.part.Part as code
use Rattle.lrpar_names.specs.Entries.{Entry, entry_of}
use Rattle.lrpar_names.specs.Faults.{◌>>=◌, Keeps}
use Rattle.lrpar_names.specs.Names.{NameLists, no_names, with_words, words_of}
use Rattle.lrpar_names.specs.Parts.{Part, is_comment, pieces, plain, span_of, trimmed, whole}

-- the number of the first rule with this name, but for the added one
abbrev pub rule_named : Grammar → List ℕ → Option ℕ
rule_named g name = find (λ r. bytes_eq (rule_name g r) name) (range_with_len 1 (rules_len g - 1))

-- the number of the first token with this name
abbrev pub token_named : Grammar → List ℕ → Option ℕ
token_named g name = position (λ token. bytes_eq token.name name) g.tokens

abbrev pub rule_or_token : Option ℕ → Option ℕ → Option GrammarSymbol
rule_or_token (Some r) token = Some (Nonterminal r)
rule_or_token None (Some t) = Some (Terminal t)
rule_or_token None None = None

-- the rule with this name, or else the token
abbrev pub symbol_named : Grammar → List ℕ → Option GrammarSymbol
symbol_named g name = rule_or_token (rule_named g name) (token_named g name)

abbrev pub add_words : NameLists → Part → Entry → Option GrammarSymbol → Result NameLists NamesFault
add_words names line entry None = Err (Unknown (span_of entry.name))
add_words names line entry (Some symbol) =
    if is_some (words_of names symbol) then Err (Repeated (span_of entry.name))
    else if length entry.words.bytes == 0 then Err (Empty (span_of line))
    else Ok (with_words names symbol entry.words.bytes)

-- the names after a line: the symbol gets its words; an empty line and a comment say nothing
abbrev pub add_line : Grammar → NameLists → Part → Result NameLists NamesFault
add_line g names line =
    if length line.bytes == 0 || is_comment line then Ok names
    else entry_of line >>= λ entry. add_words names line entry (symbol_named g entry.name.bytes)

-- the line ends the messages file
abbrev pub is_end_sign : Part → Bool
is_end_sign line = bytes_eq line.bytes (codes "%%")

-- the names after these lines up to the first line `%%`
abbrev pub add_lines : Grammar → NameLists → List Part → Result NameLists NamesFault
add_lines g names [] = Ok names
add_lines g names (line ∷ lines) =
    if is_end_sign (trimmed line) then Ok names else add_line g names (trimmed line) >>= λ names. add_lines g names lines

-- the names of a messages file
abbrev pub read_names : Grammar → List ℕ → Result NameLists NamesFault
read_names g text = add_lines g (no_names g) (pieces 10 (whole text))

-- the words of a line were added, or this is its fault; the fault may also be `Memory`
abbrev pub Adds : {T : Type 0} → Grammar → NameLists → code.Part → NameLists → Result T NamesFault → Type 0
Adds g old line new result = Keeps new (add_line g old (plain line)) result

-- this is the symbol with the name, if there is one
abbrev pub FindsSymbol : {S : Type 0} → (S → ℕ) → Grammar → List ℕ → Option (Symbol S) → Type 0
FindsSymbol index g name found = option_map (symbol_of index) found ≡ symbol_named g name

-- this is the first rule with the name, but for the added one, if there is one
abbrev pub FindsRule : {S : Type 0} → (S → ℕ) → Grammar → List ℕ → Option (RIdx S) → Type 0
FindsRule index g name found = option_map (λ rule. index rule.0) found ≡ rule_named g name
