use Rattle.std.proofs.Common.{◌≡◌, ◌∷◌}
use Rattle.std.specs.String.{string_bytes}
use Rattle.lrpar_diagnostics.specs.ConflictText.{by_line}
use Rattle.lrpar_diagnostics.proofs.BlockLemmas.{next_group}
use Rattle.lrpar_diagnostics.proofs.ConflictLemmas.{first_follow, others_follow}
use Rattle.lrpar_diagnostics.proofs.source.Source.push_groups.Goals as goal

pub push_on_line-requires : goal.push_on_line-requires
push_on_line-requires c =
    rw c.split_at.ensures.front (first_follow c.args.self.now.lines 0 c.on_first_line.result c.loop-rest.rest.now c.loop-rest.invariant.order)

pub loop-rest-preserved : goal.loop-rest-preserved
loop-rest-preserved c =
    let src = c.args.self.now.lines in
    let rest = c.loop-rest.rest.now in
    let group = c.split_at.result.0.now in
    let others = c.split_at.result.1.now in
    let parted : by_line src rest ≡ group ∷ by_line src others = rw (c.split_at.ensures.front, c.split_at.ensures.back) c.on_first_line.ensures.group in
    record {
      order = rw c.split_at.ensures.back (others_follow src 0 c.on_first_line.result rest c.loop-rest.invariant.order);
      whole = next_group src rest group others (string_bytes c.loop-rest.out) (string_bytes c.push_on_line.new.out) (string_bytes c.push.new.self) c.group_label.result.now _
          parted (c.group_label.ensures src) c.in_ok-push_on_line.ensures c.in_ok-push.ensures.bytes c.loop-rest.invariant.whole;
    }
