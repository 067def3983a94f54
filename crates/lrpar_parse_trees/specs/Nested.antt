-- Trees on one line: the text of a node encloses the texts of its trees.
use Rattle.std.specs.Prelude.{◌∷◌, ◌++◌, if◌then◌else◌, ℕ, Bool, true, false, List, [], bytes_eq, codes, slice_range}
use Rattle.std.specs.Fmt.{decimal}
use Rattle.std.specs.Option.{option_map_or}
use Rattle.lrpar_grammar.specs.Grammar.{Grammar, rule_name, token_name}
use Rattle.lrpar_grammar.specs.Sentence.{LexemeFacts}
use Rattle.lrpar_parse_trees.specs.declared.node.Node.{Node}
use Rattle.lrpar_parse_trees.specs.declared.node.Node.TheOpen.{Node-F}
use Rattle.lrpar_parse_trees.specs.declared.node.Node.TheFolds.{fold-Node}
use Rattle.lrpar_parse_trees.specs.Escapes.{escaped}
use Rattle.lrpar_parse_trees.specs.declared.form.Form.{Form}
use Rattle.lrpar_parse_trees.specs.declared.form.Form.TheVariants.{Brackets, Json}

-- what comes before a tree of a node: its first tree, or another one
abbrev pub gap : Form → Bool → List ℕ
gap Brackets first = codes " "
gap Json true = []
gap Json false = codes ","

-- what comes after the trees of a node
abbrev pub end_of : Form → List ℕ
end_of Brackets = codes " ]"
end_of Json = codes "]}"

-- what comes before the trees of a node in the form with brackets: the name of its rule, and an opening bracket
abbrev pub bracket_rule : List ℕ → List ℕ
bracket_rule name = name ++ codes "["

-- what comes before the trees of a node in JSON: the beginning of an object, with its rule's name, and an opening bracket
abbrev pub json_rule : List ℕ → List ℕ
json_rule name = codes "{\"rule\":\"" ++ escaped name ++ codes "\",\"children\":["

-- what comes before the trees of a node, by the form
abbrev pub rule_front : Form → List ℕ → List ℕ
rule_front Brackets name = bracket_rule name
rule_front Json name = json_rule name

-- the name of a token and a space, if it isn't the text
abbrev pub name_before : List ℕ → List ℕ → List ℕ
name_before name text = if bytes_eq name text then [] else name ++ codes " "

-- a lexeme in the form with brackets: its token's name, if that isn't its text, and its text between double quotes; of one that a repair
-- made, the name and `(inserted)`
abbrev pub bracket_leaf : List ℕ → List ℕ → Bool → List ℕ
bracket_leaf name text false = name_before name text ++ codes "\"" ++ escaped text ++ codes "\""
bracket_leaf name text true = name ++ codes " (inserted)"

-- the member `inserted`, if a repair made the lexeme
abbrev pub json_inserted : Bool → List ℕ
json_inserted faulty = if faulty then codes ",\"inserted\":true" else []

-- the place of a lexeme, and whether a repair made it
abbrev pub json_place : ℕ → ℕ → Bool → List ℕ
json_place start end faulty =
    codes "\",\"start\":" ++ decimal start ++ codes ",\"end\":" ++ decimal end ++ json_inserted faulty ++ codes "}"

-- a lexeme as JSON: its token's name, its text, and its place
abbrev pub json_leaf : List ℕ → List ℕ → ℕ → ℕ → Bool → List ℕ
json_leaf name text start end faulty =
    codes "{\"token\":\"" ++ escaped name ++ codes "\",\"text\":\"" ++ escaped text ++ json_place start end faulty

abbrev pub leaf_text : Form → List ℕ → List ℕ → ℕ → ℕ → Bool → List ℕ
leaf_text Brackets name text start end faulty = bracket_leaf name text faulty
leaf_text Json name text start end faulty = json_leaf name text start end faulty

-- the text of a lexeme of the grammar over the input
abbrev pub lexeme_text : Form → Grammar → List ℕ → LexemeFacts → List ℕ
lexeme_text form g input x =
    leaf_text form (option_map_or (λ name. name) (token_name g x.token) []) (slice_range input x.span.start x.span.end) x.span.start x.span.end x.faulty

-- the texts of trees, each after its separator
abbrev pub joined : Form → Bool → List (List ℕ) → List ℕ
joined form first [] = []
joined form first (text ∷ texts) = gap form first ++ text ++ joined form false texts

-- a node over the texts of its trees
abbrev pub nested_step : {X S : Type 0} → Form → (X → LexemeFacts) → (S → ℕ) → Grammar → List ℕ → Node-F X S (List ℕ) → List ℕ
nested_step form facts index g input (Node-F.Term x) = lexeme_text form g input (facts x)
nested_step form facts index g input (Node-F.Nonterm ridx texts) =
    rule_front form (rule_name g (index ridx.0)) ++ joined form true texts.items ++ end_of form

-- the text of a tree on one line
abbrev pub nested_text : {X S : Type 0} → Form → (X → LexemeFacts) → (S → ℕ) → Grammar → List ℕ → Node X S → List ℕ
nested_text {X = X} {S = S} form facts index g input = fold-Node X S (List ℕ) (nested_step form facts index g input)
