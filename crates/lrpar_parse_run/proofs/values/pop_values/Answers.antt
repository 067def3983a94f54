use Rattle.std.proofs.Common.{rules}
use Rattle.std.proofs.lemmas.Result.{IfOk-weaker}
use Rattle.lrpar_parse_run.specs.Entries.{Gives}
use Rattle.lrpar_parse_run.proofs.ReversedLemmas.{zip_wider}
use Rattle.lrpar_parse_run.proofs.values.pop_values.Goals as goal

pub returns-clause-values : goal.returns-clause-values
returns-clause-values g c =
    let leaf = λ (x : g.row.LexemeT.Denot) (v : g.row.V.Denot). g.F.Fn.post c.args.fterm.now (x, tt) v in
    IfOk-weaker c.pop_mapped.result _ _ (λ values made. zip_wider _ (Gives leaf) (λ e v h. search rules) _ values.items made) c.pop_mapped.ensures.made
