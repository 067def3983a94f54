use Rattle.lrpar_parse_run.proofs.MapLemmas.{map_at}
use Rattle.lrpar_parse_run.proofs.run_stack.Stack.state_at.Goals as goal

pub returns : goal.returns
returns g c =
    let index = g.StorageT.StorageIndex.index in
    rw (← c.self.view_is)
    (map_at (λ x. index x.0) c.self.inside.states.items c.args.at c.index.result.now (rw (← c.self.view_is) at c.requires) c.index.ensures)
