use Rattle.std.proofs.Common.{◌∙◌, [], ◌∷◌, ◌++◌, ap, sym, append_assoc}
use Rattle.std.proofs.lemmas.Result.{on_ok_weaker}
use Rattle.std.specs.String.{string_bytes}
use Rattle.lrpar_grammar.specs.Grammar.{rule_name, rule_span}
use Rattle.lrpar_diagnostics.specs.Location.{place_text}
use Rattle.lrpar_diagnostics.specs.ConflictText.{shown_name, shift_or_reduction}
use Rattle.lrpar_diagnostics.proofs.ConflictLemmas.{place_after}
use Rattle.lrpar_diagnostics.proofs.formatter.SpannedDiagnosticFormatter.push_shift_reduce_line.Goals as goal

pub returns : goal.returns
returns g c =
    let index = g.StorageT.StorageIndex.index in
    let grm = c.args.grm.now in
    let rule = index c.args.rule.0 in
    let f = c.args.self.now in
    let message = shift_or_reduction (shown_name grm (index c.args.token.0)) (rule_name grm rule) in
    let old = string_bytes c.args.out.now in
    let start = (rule_span grm rule).start in
    on_ok_weaker c.push_rule_place.result (λ e. e
    ∙ ap (λ t. t ++ 10 ∷ []) (place_after f old message (string_bytes c.push_shift_or_reduction.new.out) start (rw (sym c.shown_name.ensures, sym c.rule_name_str.ensures) c.in_ok-push_shift_or_reduction.ensures))
    ∙ append_assoc old (place_text f message start) (10 ∷ [])) c.push_rule_place.ensures
