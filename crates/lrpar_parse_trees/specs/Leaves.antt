-- Lexemes and rules as trees print them.
use denote.Ref.{Bor}
use Rattle.std.specs.Prelude.{◌≡◌, ℕ, List, Result, Some, String, slice_range}
use Rattle.lrpar_grammar.specs.Grammar.{Grammar, rule_name, token_name}
use Rattle.lrpar_grammar_places.specs.declared.span.RIdx.{RIdx}
use Rattle.lrpar_parse_lexemes.specs.Strings.{Pushes}
use Rattle.lrpar_parse_lexemes.specs.Lexemes.{LexemeParts}
use Rattle.lrpar_parse_trees.specs.Graph.{leaf_label, leaf_line}
use Rattle.lrpar_parse_trees.specs.Nested.{bracket_leaf, json_leaf, json_place, leaf_text}
use Rattle.lrpar_parse_trees.specs.declared.form.Form.{Form}
use Rattle.lrpar_parse_trees.specs.declared.node_parts.Leaf.{Leaf}

-- the leaf has the name of the lexeme's token
abbrev pub HasNameOf : {S : Type 0} → (S → ℕ) → Grammar → LexemeParts S → Leaf → Type 0
HasNameOf index g x = λ leaf. token_name g (index x.token) ≡ Some leaf.name.now

-- the leaf has the lexeme's part of the input
abbrev pub HasTextOf : {S : Type 0} → List ℕ → LexemeParts S → Leaf → Type 0
HasTextOf input x = λ leaf. leaf.text.now ≡ slice_range input x.span.start x.span.end

-- the leaf starts and ends where the lexeme does
abbrev pub HasPlaceOf : {S : Type 0} → LexemeParts S → Leaf → Type 0
HasPlaceOf x = λ leaf. (leaf.start ≡ x.span.start) × (leaf.end ≡ x.span.end)

-- the leaf is faulty if the lexeme is
abbrev pub IsFaultyAs : {S : Type 0} → LexemeParts S → Leaf → Type 0
IsFaultyAs x = λ leaf. leaf.is_faulty ≡ x.faulty

-- this is the name of the rule
abbrev pub IsNameOf : {S : Type 0} → (S → ℕ) → Grammar → RIdx S → Bor (List ℕ) → Type 0
IsNameOf index g rule = λ name. name.now ≡ rule_name g (index rule.0)

-- if the call succeeded, the lexeme was added, in the form
abbrev pub PushesLeaf : {A T E : Type 0} → Form → Leaf → String A → String A → Result T E → Type 0
PushesLeaf form leaf old new result = Pushes (leaf_text form leaf.name.now leaf.text.now leaf.start leaf.end leaf.is_faulty) old new result

-- if the call succeeded, the lexeme was added in the form with brackets
abbrev pub PushesBracketLeaf : {A T E : Type 0} → Leaf → String A → String A → Result T E → Type 0
PushesBracketLeaf leaf old new result = Pushes (bracket_leaf leaf.name.now leaf.text.now leaf.is_faulty) old new result

-- if the call succeeded, the lexeme was added as JSON
abbrev pub PushesJsonLeaf : {A T E : Type 0} → Leaf → String A → String A → Result T E → Type 0
PushesJsonLeaf leaf old new result = Pushes (json_leaf leaf.name.now leaf.text.now leaf.start leaf.end leaf.is_faulty) old new result

-- if the call succeeded, the lexeme's place was added as JSON, and whether a repair made it
abbrev pub PushesJsonPlace : {A T E : Type 0} → Leaf → String A → String A → Result T E → Type 0
PushesJsonPlace leaf old new result = Pushes (json_place leaf.start leaf.end leaf.is_faulty) old new result

-- if the call succeeded, the lexeme's label in a graph was added
abbrev pub PushesLabel : {A T E : Type 0} → Leaf → String A → String A → Result T E → Type 0
PushesLabel leaf old new result = Pushes (leaf_label leaf.name.now leaf.text.now leaf.is_faulty) old new result

-- if the call succeeded, the lexeme's line in a graph was added, as that of the node of this number
abbrev pub PushesLeafLine : {A T E : Type 0} → ℕ → Leaf → String A → String A → Result T E → Type 0
PushesLeafLine number leaf old new result = Pushes (leaf_line number leaf.name.now leaf.text.now leaf.is_faulty) old new result
