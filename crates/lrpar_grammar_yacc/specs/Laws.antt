-- What holds of all erasures.
use Rattle.std.specs.Prelude.{◌≡◌, ℕ, List}
use Rattle.lrpar_grammar_words.specs.Outline.{IsOutlineOf, TextOutline}
use Rattle.lrpar_grammar_yacc.specs.declared.parts.YaccKind.{YaccKind}
use Rattle.lrpar_grammar_yacc.specs.Erasure.{erasure}

-- a grammar text is its own erasure
abbrev pub AreOwnErasures : Type 0
AreOwnErasures = (kind : YaccKind) (text : List ℕ) (o : TextOutline) → IsOutlineOf text o → erasure kind text ≡ text
