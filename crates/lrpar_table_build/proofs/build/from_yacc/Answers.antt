use Rattle.std.proofs.lemmas.Result.{IfOk-weaker}
use Rattle.lrpar_table_build.proofs.BuiltLemmas.{built_without, nothing_resolved}
use Rattle.lrpar_table_build.proofs.build.from_yacc.Goals as goal

pub returns-clause-built : goal.returns-clause-built
returns-clause-built g c =
    let built = rw c.none.ensures at c.from_yacc_with.ensures.built in
    IfOk-weaker c.from_yacc_with.result _ _
    (λ made by. built_without c.args.grm.now made.0 made.1 c.start_prod-lemma.ensures.well_formed by) built

pub returns-clause-nothing_resolved : goal.returns-clause-nothing_resolved
returns-clause-nothing_resolved g c =
    let built = rw c.none.ensures at c.from_yacc_with.ensures.built in
    IfOk-weaker c.from_yacc_with.result _ _
    (λ made by. nothing_resolved c.args.grm.now made.0 made.1 c.start_prod-lemma.ensures.well_formed by) built
