use Rattle.std.proofs.Common.{◌+◌, ◌-◌, ◌*◌, ◌^◌, All, vec_len}
use Rattle.lrpar_table_sentences.specs.Choices.{choices_of}
use Rattle.lrpar_table_sentences.specs.Frames.{IsFrameOf, frames_of}
use Rattle.lrpar_table_sentences.specs.Moves.{moves_in}
use Rattle.lrpar_table_sentences.proofs.FrameLemmas.{Unfolding}
use Rattle.lrpar_table_sentences.proofs.unfold.unfold.Given as goal

abbrev pub invariant-frames : goal.invariant-frames
invariant-frames g l =
    let index = g.StorageT.StorageIndex.index in
    All (IsFrameOf index l.grm) l.frames.items
    × Unfolding l.grm (choices_of index l.choices) (frames_of index l.initial.frames.items) (moves_in index l.initial.out.items)
    (frames_of index l.frames.items) (moves_in index l.out.items)

-- there is no room for more moves than a list can have, nor for more frames; and a step makes a move or begins a frame
abbrev pub decreases-frames : goal.decreases-frames
decreases-frames g l = 2 * (2 ^ 64 - vec_len l.out) + (2 ^ 64 - vec_len l.frames)
