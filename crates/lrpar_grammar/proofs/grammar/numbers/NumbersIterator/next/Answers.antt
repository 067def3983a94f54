use Rattle.std.proofs.Common.{◌≡◌, ◌<◌, ◌∷◌, ◌+◌, ◌-◌, sym, ◌∙◌, arith, rules}
use Rattle.std.specs.List.{range_with_len}
use Rattle.lrpar_grammar_places.proofs.ListLemmas.{range_first}
use Rattle.lrpar_grammar.proofs.grammar.numbers.NumbersIterator.next.Goals as goal

pub returns-clause-steps : goal.returns-clause-steps
returns-clause-steps g c =
    let s = c.self.inside in
    let below : s.next < s.end = omega arith in
    let number : g.I.Numbered.number c.numbered.result ≡ s.next = c.numbered.ensures ∙ c.in_ok-number.ensures.back in
    let left : c.args.self.now ≡ s.next ∷ range_with_len (s.next + 1) (s.end - (s.next + 1)) = sym c.self.view_is ∙ range_first s.next s.end below in
    rw number left

pub returns-clause-goes : goal.returns-clause-goes
returns-clause-goes g c =
    let s = c.self.inside in
    let below : s.next < s.end = omega arith in
    let left : c.args.self.now ≡ s.next ∷ range_with_len (s.next + 1) (s.end - (s.next + 1)) = sym c.self.view_is ∙ range_first s.next s.end below in
    rw left (search rules)
