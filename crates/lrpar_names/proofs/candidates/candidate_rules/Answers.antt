use Rattle.std.proofs.Common.{◌≡◌, length, map, sym, subst, ◌∙◌, take_at}
use Rattle.std.specs.List.{filter, range_with_len}
use Rattle.std.specs.List.Sorted.{IsStrictlyIncreasing}
use Rattle.std.proofs.lemmas.Result.{IfOk-weaker}
use Rattle.lrpar_grammar.specs.Tokens.{has}
use Rattle.lrpar_table_rows.specs.PlainItems.{core_of}
use Rattle.lrpar_names.specs.Candidates.{AreCandidates, AreMarksOf}
use Rattle.lrpar_names.specs.Choosing.{rule_numbers}
use Rattle.lrpar_names.proofs.CandidateLemmas.{kept_ascend, next_exact}
use Rattle.lrpar_names.proofs.candidates.candidate_rules.Goals as goal

pub returns-clause-exact : goal.returns-clause-exact
returns-clause-exact g c =
    let index = g.StorageT.StorageIndex.index in
    let bits = c.deref.result.now in
    let len : length c.mark_all.new.marks ≡ c.in_ok-marks.marks.len =
    c.mark_all.ensures.room ∙ sym c.rules_len.ensures.len ∙ sym c.in_ok-marks.ensures.len in
    let same : bits ≡ c.mark_all.new.marks = c.deref.ensures.value ∙ take_at c.mark_all.new.marks _ c.in_ok-marks.marks.len len in
    let cores = map (core_of index) c.cores.result.now in
    let marks : AreMarksOf c.args.grm.now cores bits = subst (AreMarksOf c.args.grm.now cores) (sym same) c.mark_all.ensures.marks in
    IfOk-weaker c.marked_rules.result (λ rules. rule_numbers index rules.items ≡ filter (has bits) (range_with_len 0 (length bits)))
    (λ rules. AreCandidates index c.args.grm.now c.args.sgraph.now c.args.state rules.items)
    (λ rules is. next_exact c.args.grm.now c.args.sgraph.now (index c.args.state.0) cores bits (rule_numbers index rules.items) c.cores.ensures.all marks is)
    c.marked_rules.ensures

pub returns-clause-ascending : goal.returns-clause-ascending
returns-clause-ascending g c =
    let index = g.StorageT.StorageIndex.index in
    let bits = c.deref.result.now in
    IfOk-weaker c.marked_rules.result (λ rules. rule_numbers index rules.items ≡ filter (has bits) (range_with_len 0 (length bits)))
    (λ rules. IsStrictlyIncreasing (rule_numbers index rules.items))
    (λ rules is. subst IsStrictlyIncreasing (sym is) (kept_ascend (has bits) (length bits))) c.marked_rules.ensures
