use Rattle.std.proofs.Common.{◌∙◌, [], ◌∷◌, ◌++◌, ap, sym, append_assoc}
use Rattle.std.proofs.lemmas.Result.{on_ok_weaker}
use Rattle.std.specs.String.{string_bytes}
use Rattle.lrpar_grammar.specs.Grammar.{rule_name, rule_span}
use Rattle.lrpar_diagnostics.specs.Location.{place_text}
use Rattle.lrpar_diagnostics.specs.ConflictText.{shown_name, two_reductions}
use Rattle.lrpar_diagnostics.proofs.ConflictLemmas.{place_after}
use Rattle.lrpar_diagnostics.proofs.formatter.SpannedDiagnosticFormatter.push_reduce_reduce_line.Goals as goal

pub returns : goal.returns
returns g c =
    let index = g.StorageT.StorageIndex.index in
    let grm = c.args.grm.now in
    let rule = index c.args.first.0 in
    let f = c.args.self.now in
    let message = two_reductions (rule_name grm rule) (rule_name grm (index c.args.second.0)) (shown_name grm (index c.args.token.0)) in
    let old = string_bytes c.args.out.now in
    let start = (rule_span grm rule).start in
    on_ok_weaker c.push_rule_place.result (λ e. e
    ∙ ap (λ t. t ++ 10 ∷ []) (place_after f old message (string_bytes c.push_two_reductions.new.out) start (rw (sym c.rule_name_str.ensures, sym c.rule_name_str-2.ensures, sym c.shown_name.ensures) c.in_ok-push_two_reductions.ensures))
    ∙ append_assoc old (place_text f message start) (10 ∷ [])) c.push_rule_place.ensures
