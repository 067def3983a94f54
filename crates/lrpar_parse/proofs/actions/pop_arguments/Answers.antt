use Rattle.std.proofs.Common.{◌≡◌, rules}
use Rattle.std.proofs.lemmas.Result.{IfOk-weaker}
use Rattle.std.proofs.lemmas.Slice.Zip.{AllZip-map}
use Rattle.lrpar_parse_lexemes.specs.declared.placed.Placed.{Placed}
use Rattle.lrpar_parse_run.proofs.ReversedLemmas.{zip_wider}
use Rattle.lrpar_parse.proofs.actions.pop_arguments.Goals as goal

pub returns-clause-arguments : goal.returns-clause-arguments
returns-clause-arguments g c =
    IfOk-weaker c.pop_mapped.result _ _
    (λ args made. AllZip-map (λ (e : Placed g.row.T.Denot). e.argument) _ args.items
    (zip_wider _ (λ (e : Placed g.row.T.Denot) (v : g.row.T.Denot). v ≡ e.argument) (λ e v h. search rules) _ args.items made))
    c.pop_mapped.ensures.made
