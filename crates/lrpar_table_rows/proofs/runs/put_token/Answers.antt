use Rattle.std.proofs.Common.{◌∙◌, ◌++◌, ◌∷◌, [], ap, arith}
use Rattle.lrpar_table_rows.proofs.RunLemmas.{put_same}
use Rattle.lrpar_table_rows.proofs.runs.put_token.Goals as goal

pub index_mut-run-requires : goal.index_mut-run-requires
index_mut-run-requires g c = omega (arith, c.in-Some.ensures.within, c.requires.paired)

pub returns-clause-same : goal.returns-clause-same
returns-clause-same g c =
    let item = c.args.item.now in
    put_same c.args.cores.now c.args.runs.now.items c.in-Some.place (item.0, item.1) c.push.new.self c.index_mut-run.result.now (item.2 ∷ [])
    c.requires.paired c.in-Some.ensures (c.in_ok-push-in-Some.ensures.items ∙ ap (λ v. v.items ++ item.2 ∷ []) c.index_mut-run.ensures.value)
