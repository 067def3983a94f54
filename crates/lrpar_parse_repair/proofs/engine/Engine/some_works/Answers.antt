use Rattle.std.proofs.Common.{ap}
use Rattle.lrpar_table_stacks.specs.Overlay.{Overlaid}
use Rattle.lrpar_parse_repair.proofs.engine.Engine.some_works.Goals as goal

pub returns : goal.returns
returns g c =
    let base = ap (λ (o : Overlaid). o.base) c.new-states.ensures.made in
    record { works = rw base at c.has_working.ensures.works }
