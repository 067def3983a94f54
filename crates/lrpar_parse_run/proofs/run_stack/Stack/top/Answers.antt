use Rattle.std.proofs.Common.{◌≡◌, arith, length}
use Rattle.lrpar_parse_run.proofs.MapLemmas.{map_last}
use Rattle.lrpar_parse_run.proofs.run_stack.Stack.top.Goals as goal

pub returns : goal.returns
returns g c =
    let index = g.StorageT.StorageIndex.index in
    let items = c.self.inside.states.items in
    let many : c.len.result ≡ length items = omega (arith, c.len.ensures) in
    rw (← c.self.view_is)
    (map_last (λ x. index x.0) items c.len.result c.index.result.now (rw (← c.self.view_is) at c.requires) many c.index.ensures)
