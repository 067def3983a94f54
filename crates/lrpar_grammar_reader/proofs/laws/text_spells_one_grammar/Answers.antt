use Rattle.lrpar_grammar_reader.proofs.SpellsLemmas.{spells_one}
use Rattle.lrpar_grammar_reader.proofs.laws.text_spells_one_grammar.Goals as goal

pub returns : goal.returns
returns c = spells_one c.text_has_one_outline.ensures
