use Rattle.std.proofs.Common.{map}
use Rattle.lrpar_grammar_words.specs.Words.{placed as text_placed}
use Rattle.lrpar_grammar_bison_parts.proofs.OutlineLemmas.{ranked_more}
use Rattle.lrpar_grammar_bison_parts.proofs.outline.push_ranked.Goals as goal

pub loop-entry-preserved : goal.loop-entry-preserved
loop-entry-preserved c =
    λ aliases maps.
    ranked_more aliases c.loop-entry.words.items c.push.new.self.items (map text_placed c.args.words.now.items) c.symbol_word.result c.args.ranked.now c.loop-entry.entry-index _ c.loop-entry-test.true
    c.in_ok-push.ensures.items (c.symbol_word.ensures aliases maps) (c.loop-entry.invariant aliases maps)
