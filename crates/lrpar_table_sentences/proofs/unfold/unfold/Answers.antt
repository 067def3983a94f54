use Rattle.std.proofs.Common.{◌≡◌, sym, ap, subst, refl, arith, [], Some}
use Rattle.std.proofs.lemmas.List.Elements.{All-pop}
use Rattle.std.specs.List.{All}
use Rattle.lrpar_grammar.specs.Symbols.{symbol_of}
use Rattle.lrpar_table_sentences.specs.Choices.{choices_of}
use Rattle.lrpar_table_sentences.specs.Frames.{IsFrameOf, frames_of}
use Rattle.lrpar_table_sentences.specs.Moves.{moves_in}
use Rattle.lrpar_table_sentences.proofs.FrameLemmas.{Unfolding, frames_known, nothing_in, popped_goes, popped_makes, popped_never, unfolding_ends}
use Rattle.lrpar_table_sentences.proofs.unfold.unfold.Goals as goal

pub frames-preserved-in_ok-push-in-None : goal.frames-preserved-in_ok-push-in-None
frames-preserved-in_ok-push-in-None g c =
    let index = g.StorageT.StorageIndex.index in (
      (All-pop (IsFrameOf index c.args.grm.now) c.frames.frames.items c.pop.new.self.items (Some c.in-Some.frame) c.in-Some.ensures.items c.frames.invariant.0).0,
      popped_makes index c.args.grm.now (choices_of index c.args.choices.now) (frames_of index c.args.frames.now.items) (moves_in index c.args.out.now.items)
          c.frames.frames.items c.pop.new.self.items c.in-Some.frame c.frames.out.items c.in-Some.ensures.items c.frames.invariant.1 c.in-None.ensures.symbol _ _ refl
          c.in_ok-push-in-None.ensures.items,
    )

pub returns-then-not-branch : goal.returns-then-not-branch
returns-then-not-branch g c =
    let index = g.StorageT.StorageIndex.index in
    let grm = c.args.grm.now in
    λ all unfolds.
    absurd (popped_never index grm (choices_of index c.args.choices.now) (frames_of index c.args.frames.now.items) (moves_in index c.args.out.now.items)
    c.frames.frames.items c.pop.new.self.items c.in-Some.frame c.frames.out.items c.in-Some.ensures.items c.frames.invariant.1
    (symbol_of index c.in-Some-symbol_at.symbol) c.in-Some-symbol_at.ensures.symbol _ _ c.push_begun.new.frames.items refl c.in_ok-push-in-Some-symbol_at.ensures.items
    (moves_in index c.push_begun.new.out.items) c.in_ok-push_begun-in-Some-symbol_at.field-0 (c.in_ok-push_begun-in-Some-symbol_at.ensures.unfolds grm)
    c.if-not-branch.true all unfolds)

pub frames-preserved : goal.frames-preserved
frames-preserved g c =
    let index = g.StorageT.StorageIndex.index in
    let grm = c.args.grm.now in
    let left = c.pop.new.self.items in
    let known = All-pop (IsFrameOf index grm) c.frames.frames.items left (Some c.in-Some.frame) c.in-Some.ensures.items c.frames.invariant.0 in
    let put_back = subst (All (IsFrameOf index grm)) (sym c.in_ok-push-in-Some-symbol_at.ensures.items) (frames_known index grm left _ known.0 known.1) in (
      c.in_ok-push_begun-in-Some-symbol_at.ensures.known grm c.requires.right put_back,
      popped_goes index grm (choices_of index c.args.choices.now) (frames_of index c.args.frames.now.items) (moves_in index c.args.out.now.items)
          c.frames.frames.items left c.in-Some.frame c.frames.out.items c.in-Some.ensures.items c.frames.invariant.1
          (symbol_of index c.in-Some-symbol_at.symbol) c.in-Some-symbol_at.ensures.symbol _ _ c.push_begun.new.frames.items refl
          c.in_ok-push-in-Some-symbol_at.ensures.items (moves_in index c.push_begun.new.out.items) c.in_ok-push_begun-in-Some-symbol_at.field-0
          (c.in_ok-push_begun-in-Some-symbol_at.ensures.unfolds grm),
    )

pub returns : goal.returns
returns g c =
    let index = g.StorageT.StorageIndex.index in
    let grm = c.args.grm.now in
    let choices = choices_of index c.args.choices.now in
    let old = frames_of index c.args.frames.now.items in
    let before = moves_in index c.args.out.now.items in
    let moves = moves_in index c.frames.out.items in
    let none : c.frames.frames.items ≡ [] = nothing_in c.frames.frames.items (omega (arith, c.in_default.ensures.cases.0, c.frames.frames.ok.0)) in
    unfolding_ends grm choices old before moves (subst (λ fs. Unfolding grm choices old before fs moves) (ap (frames_of index) none) c.frames.invariant.1)
