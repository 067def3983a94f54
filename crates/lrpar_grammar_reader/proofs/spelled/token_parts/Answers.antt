use Rattle.lrpar_grammar_words.specs.Words.{placed}
use Rattle.lrpar_grammar_words.specs.Outline.{outline_of}
use Rattle.lrpar_grammar_reader.specs.Parts.{token_name_of}
use Rattle.lrpar_grammar_reader.specs.Spells.{token_of_word}
use Rattle.lrpar_grammar_reader.proofs.GrowthLemmas.{made_more}
use Rattle.lrpar_grammar_reader.proofs.spelled.token_parts.Goals as goal

pub loop-word-preserved : goal.loop-word-preserved
loop-word-preserved c =
    made_more placed (token_of_word (outline_of c.args.outline.now)) token_name_of _ _ _ c.args.words.now c.loop-word.word-index _ c.loop-word-test.true
    c.in_ok-push.ensures.items c.in_ok-token_part.ensures c.loop-word.invariant
