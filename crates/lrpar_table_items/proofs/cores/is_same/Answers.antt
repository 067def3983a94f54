use Rattle.std.proofs.Common.{◌≡◌, ap, arith}
use Rattle.lrpar_table_items.specs.Cores.{CoreSet, core_set}
use Rattle.lrpar_table_items.proofs.CoreLemmas.{core_is}
use Rattle.lrpar_table_items.proofs.cores.is_same.Goals as goal

pub returns : goal.returns
returns g c =
    let index = g.StorageT.StorageIndex.index in
    let core = core_set index c.args.core.now in
    let other = core_set index c.args.other.now in
    let prods : core.prod ≡ other.prod = omega (arith, c.from-prod.ensures, c.from-same.ensures) in
    let dots : core.dot ≡ other.dot = omega arith in
    (λ h. core_is core other prods dots (c.is_same.ensures.0 h), λ h. c.is_same.ensures.1 (ap (λ (x : CoreSet). x.tokens) h))
