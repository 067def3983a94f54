use Rattle.std.proofs.Common.{◌∙◌, ◌++◌, ap, arith}
use Rattle.lrpar_table_rows.specs.Runs.{run_items, tokens_of}
use Rattle.lrpar_table_rows.proofs.RunLemmas.{put_none, put_same}
use Rattle.lrpar_table_rows.proofs.runs.put_run.Goals as goal

pub index_mut-run-requires : goal.index_mut-run-requires
index_mut-run-requires g c = omega (arith, c.in-Some.ensures.within, c.requires.paired)

pub returns-in_ok-extend_from_slice-in-Some-clause-same : goal.returns-in_ok-extend_from_slice-in-Some-clause-same
returns-in_ok-extend_from_slice-in-Some-clause-same g c =
    put_same c.args.cores.now c.args.runs.now.items c.in-Some.place c.args.core c.extend_from_slice.new.self c.index_mut-run.result.now c.args.tokens.now
    c.requires.paired c.in-Some.ensures (c.in_ok-extend_from_slice-in-Some.ensures.items ∙ ap (λ v. v.items ++ c.args.tokens.now) c.index_mut-run.ensures.value)

pub returns-in-None-clause-same : goal.returns-in-None-clause-same
returns-in-None-clause-same g c =
    put_none (run_items c.args.cores.now (tokens_of c.args.runs.now.items)) c.args.core c.args.tokens.now (λ some. c.in-None.ensures (c.requires.known some))
