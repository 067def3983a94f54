-- The kinds of words, and that the list of them has them all.
use Rattle.std.specs.List.{Contains}
use Rattle.std.proofs.Common.{arith, refl}
use Rattle.lrpar_grammar_words.specs.declared.words.WordKind.{WordKind}
use Rattle.lrpar_grammar_words.specs.declared.words.WordKind.TheVariants.{Name, Quoted, StartSign, TokenSign, EppSign, RulesSign, Colon, Bar, Semicolon}
use Rattle.lrpar_grammar_words.specs.declared.words.TheConstants.WordKind.{ALL}

-- each kind is in the list
pub is_among_all : (kind : WordKind) → Contains ALL kind
is_among_all StartSign = (0, omega arith, refl)
is_among_all TokenSign = (1, omega arith, refl)
is_among_all EppSign = (2, omega arith, refl)
is_among_all RulesSign = (3, omega arith, refl)
is_among_all Name = (4, omega arith, refl)
is_among_all Quoted = (5, omega arith, refl)
is_among_all Colon = (6, omega arith, refl)
is_among_all Bar = (7, omega arith, refl)
is_among_all Semicolon = (8, omega arith, refl)
