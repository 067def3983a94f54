use Rattle.std.proofs.Common.{◌-◌, ◌^◌, All, vec_len}
use Rattle.lrpar_grammar.specs.Symbols.{symbol_of}
use Rattle.lrpar_table_sentences.specs.Choices.{choices_of}
use Rattle.lrpar_table_sentences.specs.Frames.{IsFrameOf, frames_of}
use Rattle.lrpar_table_sentences.specs.Moves.{moves_in}
use Rattle.lrpar_table_sentences.specs.Starts.{starts_of}
use Rattle.lrpar_table_sentences.proofs.DescendLemmas.{Descending}
use Rattle.lrpar_table_sentences.proofs.descend.descend.Given as goal

abbrev pub invariant-down : goal.invariant-down
invariant-down g l =
    let index = g.StorageT.StorageIndex.index in
    All (IsFrameOf index l.grm) l.frames.items
    × Descending l.grm (choices_of index l.choices) (starts_of index l.starts) (index l.first.0) (symbol_of index l.fn.symbol)
    (frames_of index l.initial.frames.items) (moves_in index l.initial.out.items) (symbol_of index l.symbol) (frames_of index l.frames.items) (moves_in index l.out.items)

-- there is no room for more frames than a list can have
abbrev pub decreases-down : goal.decreases-down
decreases-down g l = 2 ^ 64 - vec_len l.frames
