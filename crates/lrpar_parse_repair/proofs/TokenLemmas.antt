-- The tokens of a valid list.
use Rattle.std.proofs.Common.{◌≡◌, ◌<◌, ℕ, List, map, Some, ap, ◌∙◌}
use Rattle.std.specs.List.{slice_get}
use Rattle.std.specs.Option.{option_map}
use Rattle.std.proofs.lemmas.List.{length-map}
use Rattle.std.proofs.lemmas.Option.{slice_get-map, slice_get_within}
use Rattle.lrpar_grammar.specs.Grammar.{Grammar, end_token}
use Rattle.lrpar_grammar.specs.Sentence.{LexemeFacts, IsValidList}

-- a lexeme of a valid list has a token of the grammar, which isn't the end token
pub good_token : {X : Type 0} (facts : X → LexemeFacts) (g : Grammar) (lexemes : List X) (i : ℕ) (x : X) → IsValidList g (map facts lexemes)
    → slice_get lexemes i ≡ Some x → (facts x).token < end_token g
good_token facts g lexemes i x valid is =
    valid.tokens i (facts x) (rw length-map (slice_get_within lexemes i x is)) (slice_get-map facts lexemes i ∙ ap (option_map facts) is)
