-- Actions among the symbols of an alternative: each is a rule without symbols, as in bison.
use Rattle.std.specs.Prelude.{◌≡◌, ◌+◌, ◌∷◌, ◌++◌, [], Bool, true, false, ℕ, zero, suc, List, Option, None, Some, codes, filter, map, Vec, if◌then◌else◌}
use Rattle.std.specs.BTreeMap.{BTreeMap}
use Rattle.std.specs.Borrow.{Bor}
use Rattle.std.specs.Fmt.{decimal}
use Rattle.std.specs.List.{flat_map}
use Rattle.std.specs.Option.{option_to_list}
use Rattle.lrpar_grammar_words.specs.declared.words.Word.{Word as TextWord}
use Rattle.lrpar_grammar_words.specs.declared.words.WordKind.TheVariants.{Name}
use Rattle.lrpar_grammar_words.specs.Words.{PlacedWord as PlacedTextWord, placed as text_placed}
use Rattle.lrpar_grammar_bison.specs.declared.words.Word.{Word}
use Rattle.lrpar_grammar_bison.specs.Words.{PlacedWord}
use Rattle.lrpar_grammar_bison_rules.specs.declared.rules.Item.{Item}
use Rattle.lrpar_grammar_bison_rules.specs.declared.word_order.ItemKind.{ItemKind}
use Rattle.lrpar_grammar_bison_rules.specs.declared.word_order.ItemKind.TheVariants.{Symbol, Action}
use Rattle.lrpar_grammar_bison_rules.specs.Aliases.{FileAlias, MapsAliases}
use Rattle.lrpar_grammar_bison_rules.specs.Rules.{FileAlternative, FileItem, item_of}
use Rattle.lrpar_grammar_bison_parts.specs.Symbols.{symbol_word}

-- a symbol
abbrev pub is_symbol : ItemKind → Bool
is_symbol Symbol = true
is_symbol _ = false

-- an action
abbrev pub is_action : ItemKind → Bool
is_action Action = true
is_action _ = false

-- an action before such a part isn't the last of its alternative
abbrev pub ends_action : ItemKind → Bool
ends_action Symbol = true
ends_action Action = true
ends_action _ = false

-- the action, if the part is one
abbrev pub action_at : FileItem → Option FileItem
action_at x = if is_action x.kind then Some x else None

-- the word of the part, if it is an action
abbrev pub action_word : Item → Option Word
action_word x = if is_action x.kind then Some x.word else None

-- the symbol, if the part is one
abbrev pub symbol_at : FileItem → List FileItem
symbol_at x = if is_symbol x.kind then x ∷ [] else []

-- the symbols among parts, and the actions that aren't the last of the alternative; `last`: the action before these parts, if it may be
-- the last
abbrev pub symbols_after : Option FileItem → List FileItem → List FileItem
symbols_after last [] = []
symbols_after last (x ∷ xs) =
    if ends_action x.kind then option_to_list last ++ (symbol_at x ++ symbols_after (action_at x) xs) else symbols_after last xs

-- the symbols of an alternative with these parts, and its actions but for the last one
abbrev pub symbols_in : List FileItem → List FileItem
symbols_in items = symbols_after None items

-- the actions of an alternative with these parts, but for the last one
abbrev pub actions_in : List FileItem → List PlacedWord
actions_in items = map (λ (x : FileItem). x.word) (filter (λ (x : FileItem). is_action x.kind) (symbols_in items))

-- the actions of all alternatives, but for the last one of each
abbrev pub actions_of : List FileAlternative → List PlacedWord
actions_of alternatives = flat_map (λ (x : FileAlternative). actions_in x.items) alternatives

-- the name of the rule for the action of that number; bison counts them from 1
abbrev pub midrule_name : ℕ → List ℕ
midrule_name number = codes "$@" ++ decimal number

-- the names of so many rules, the first of which has that number
abbrev pub midrule_names : ℕ → ℕ → List (List ℕ)
midrule_names number zero = []
midrule_names number (suc count) = midrule_name number ∷ midrule_names (number + 1) count

-- the rules for some actions, the first of which has that number
abbrev pub midrules_from : ℕ → List PlacedWord → List PlacedTextWord
midrules_from number [] = []
midrules_from number (w ∷ ws) = record { kind = Name; name = midrule_name number; span = w.span } ∷ midrules_from (number + 1) ws

-- symbols as words of a grammar text, with these rules in place of the actions
abbrev pub filled : List FileAlias → List PlacedTextWord → List FileItem → List PlacedTextWord
filled aliases midrules [] = []
filled aliases [] (x ∷ xs) = symbol_word aliases x.word ∷ filled aliases [] xs
filled aliases (m ∷ ms) (x ∷ xs) =
    if is_action x.kind then m ∷ filled aliases ms xs else symbol_word aliases x.word ∷ filled aliases (m ∷ ms) xs

-- if the map has some texts, these are the symbols of the parts, with these rules in place of the actions
abbrev pub HasFilled : {A : Type 0} → BTreeMap (Bor (List ℕ)) Word → List Item → List TextWord → Vec TextWord A → Type 0
HasFilled found items midrules symbols =
    (aliases : List FileAlias) → MapsAliases found aliases
    → map text_placed symbols.items ≡ filled aliases (map text_placed midrules) (symbols_in (map item_of items))
