use Rattle.std.proofs.Common.{None, ap, get_or, sym, ◌∙◌}
use Rattle.std.proofs.Math.ListN.{get_or-map}
use Rattle.std.specs.List.{slice_get}
use Rattle.lrpar_grammar.specs.SpelledParts.{index_in_parts}
use Rattle.lrpar_grammar.proofs.SpelledPartsLemmas.{copied_at}
use Rattle.lrpar_grammar.proofs.grammar.spelled_parts.SpelledParts.of_number.Goals as goal

pub returns-in-Some : goal.returns-in-Some
returns-in-Some g c =
    let s = c.self.inside in
    let place = c.in-Some.place in
    let n = c.args.production in
    c.copied.ensures ∙ copied_at _ c.deref.result.now place c.get.result c.get.ensures.lookup.3 c.get.ensures.lookup.1
    ∙ ap (λ xs. slice_get xs place) c.deref.ensures.value ∙ ap (index_in_parts s.places.items) c.in-Some.ensures
    ∙ sym (get_or-map (index_in_parts s.places.items) s.spelled n None) ∙ ap (λ places. get_or places n None) c.self.view_is
