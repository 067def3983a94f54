use Rattle.std.proofs.Common.{ap}
use Rattle.lrpar_grammar.specs.Symbols.{symbol_of}
use Rattle.lrpar_table_sentences.specs.Choices.{choices_of}
use Rattle.lrpar_table_sentences.specs.Frames.{frames_of}
use Rattle.lrpar_table_sentences.specs.Moves.{moves_in}
use Rattle.lrpar_table_sentences.specs.Starts.{starts_of}
use Rattle.lrpar_table_sentences.proofs.DescendLemmas.{descended}
use Rattle.lrpar_table_sentences.proofs.FrameLemmas.{ok_more}
use Rattle.lrpar_table_sentences.proofs.descend.push_start.Goals as goal

pub returns : goal.returns
returns g c =
    let index = g.StorageT.StorageIndex.index in
    ok_more c.unfold.result _ _
    (descended c.args.grm.now (choices_of index c.args.choices.now) (starts_of index c.args.starts.now) (index c.args.first.0) (symbol_of index c.args.symbol)
    (frames_of index c.new-frames.result.items) (frames_of index c.descend.new.frames.items) (moves_in index c.args.out.now.items) (moves_in index c.descend.new.out.items)
    (moves_in index c.unfold.new.out.items) (ap (frames_of index) c.new-frames.ensures.items) c.in_ok-descend.ensures.descends)
    c.unfold.ensures
