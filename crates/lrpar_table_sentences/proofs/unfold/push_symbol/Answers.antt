use Rattle.std.proofs.Common.{ap}
use Rattle.lrpar_grammar.specs.Symbols.{symbol_of}
use Rattle.lrpar_table_sentences.specs.Choices.{choices_of}
use Rattle.lrpar_table_sentences.specs.Frames.{frames_of}
use Rattle.lrpar_table_sentences.specs.Moves.{moves_in}
use Rattle.lrpar_table_sentences.proofs.FrameLemmas.{begun_alone, ok_more}
use Rattle.lrpar_table_sentences.proofs.unfold.push_symbol.Goals as goal

pub returns : goal.returns
returns g c =
    let index = g.StorageT.StorageIndex.index in
    let grm = c.args.grm.now in
    let choices = choices_of index c.args.choices.now in
    let s = symbol_of index c.args.symbol in
    let none = c.new-frames.result.items in
    let frames = frames_of index c.push_begun.new.frames.items in
    let before = moves_in index c.args.out.now.items in
    let middle = moves_in index c.push_begun.new.out.items in
    let after = moves_in index c.unfold.new.out.items in
    let begins = c.in_ok-_derives.ensures.unfolds grm in
    ok_more c.unfold.result _ _
    (begun_alone grm choices s (frames_of index none) frames before middle after c.in_ok-_derives._derives (ap (frames_of index) c.new-frames.ensures.items) begins)
    c.unfold.ensures
