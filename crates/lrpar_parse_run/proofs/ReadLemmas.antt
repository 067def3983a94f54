-- The lexeme of an error, read from the list.
use Rattle.std.proofs.Common.{◌≡◌, ℕ, List, MatchOption, None, Option, Some, map, subst, sym}
use Rattle.std.specs.List.{slice_get}
use Rattle.lrpar_grammar.specs.Grammar.{Grammar, end_token}
use Rattle.lrpar_grammar.specs.Sentence.{LexemeFacts}
use Rattle.lrpar_parse_lexemes.specs.Lexemes.{lexeme_past}
use Rattle.lrpar_parse_run.specs.RunAnswer.{IsLexemeAt}

-- the lexeme at a place, and the one past the last
module _ {X : Type 0} (facts : X → LexemeFacts) (g : Grammar) (lexemes : List X) (i : ℕ) (x : X) where
  abbrev At : Option X → Type 0
  At o = MatchOption o (facts x ≡ lexeme_past (end_token g) (map facts lexemes)) (λ y. x ≡ y)

  pub lexeme_there : (y : X) → slice_get lexemes i ≡ Some y → x ≡ y → IsLexemeAt facts g lexemes i x
  lexeme_there y is same = subst (λ (o : Option X). At o) (sym is) same

  pub lexeme_none : slice_get lexemes i ≡ None → facts x ≡ lexeme_past (end_token g) (map facts lexemes) → IsLexemeAt facts g lexemes i x
  lexeme_none is past = subst (λ (o : Option X). At o) (sym is) past
