use Rattle.std.proofs.Common.{[], ◌∷◌, ◌++◌, ◌≡◌, ◌∙◌, ap, subst, map, List, Bool}
use Rattle.std.proofs.lemmas.List.{map-append}
use Rattle.lrpar_table_items.specs.Cores.{core_set}
use Rattle.lrpar_table_items.proofs.closure.push_core.Goals as goal

pub returns : goal.returns
returns g c =
    let index = g.StorageT.StorageIndex.index in
    let old = map (core_set index) c.args.closure.now.items in
    let new = map (core_set index) c.push.new.self.items in
    let is = ap (map (core_set index)) c.in_ok-push.ensures.items ∙ map-append (core_set index) c.args.closure.now.items _ in
    subst (λ (tokens : List Bool). new ≡ old ++ record { prod = index c.args.pidx.0; dot = 0; tokens = tokens } ∷ []) c.in_ok-tokens.ensures is
