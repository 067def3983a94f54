use Rattle.std.proofs.Common.{ap}
use Rattle.lrpar_table_stacks.specs.Overlay.{Overlaid}
use Rattle.lrpar_parse_repair.proofs.engine.Engine.listed.Goals as goal

pub returns : goal.returns
returns g c =
    let base = ap (λ (o : Overlaid). o.base) c.new-states.ensures.made in
    record { listed = rw base at c.retain_working.ensures.listed }
