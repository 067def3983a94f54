use Rattle.std.proofs.Common.{◌≡◌, ◌<◌, ◌∙◌, ap, subst, sym, ℕ}
use Rattle.lrpar_grammar.specs.Grammar.{prods_len}
use Rattle.lrpar_table_rows.specs.Table.{ReduceBy, action_of}
use Rattle.lrpar_table_stops.specs.Met.{MarksStops}
use Rattle.lrpar_table_stops.specs.ErrorStates.{AreStops}
use Rattle.lrpar_table_stops.proofs.StopLemmas.{all_stops}
use Rattle.lrpar_table_stops.proofs.stops.ErrorStates.new.Goals as goal

pub returns : goal.returns
returns g c =
    let grm = c.grm-grm.result.now in
    let table = c.stable-stable.result.now in
    let marks = c.in_ok-marks.marks.items in
    let same_grm = c.grm-grm.ensures in
    let same_table = c.stable-stable.ensures.table in
    let known : (s t p : ℕ) → action_of table s t ≡ ReduceBy p → p < prods_len grm =
    λ s t p is. subst (λ x. p < prods_len x) (sym same_grm)
    (c.stable-stable.ensures.checked.safe.shape.reduces s t p (ap (λ x. action_of x s t) (sym same_table) ∙ is)) in
    let are : MarksStops table c.in_ok-sets.sets.items marks = subst (λ sets. MarksStops table sets marks) c.deref.ensures.value c.in_ok-marks.ensures in
    let stops = all_stops grm table c.states_len.ensures.closed c.states_len.ensures.no_action c.tokens_len.ensures.end c.states_len.ensures.no_goto known
    c.in_ok-sets.sets.items c.in_ok-sets.ensures.right c.in_ok-sets.ensures.closed marks are in
    subst (λ x. AreStops x c.args.data.now.table marks) same_grm (subst (λ x. AreStops grm x marks) same_table stops)
