use Rattle.std.proofs.Common.{◌≡◌, not, length, subst, ◌∙◌, ap}
use Rattle.std.specs.List.{All, filter}
use Rattle.std.specs.List.Sorted.{IsPermutation}
use Rattle.std.proofs.lemmas.List.Sorted.{IsPermutation-map}
use Rattle.lrpar_grammar.specs.Tokens.{has}
use Rattle.lrpar_names.specs.Choosing.{AreChosen, rule_numbers, token_numbers}
use Rattle.lrpar_names.proofs.ChoiceLemmas.{are_apart, cover_expected, keeps_others, leave_none_out, name_candidates}
use Rattle.lrpar_names.proofs.ListLemmas.{map-filter}
use Rattle.lrpar_names.proofs.first_tokens.FirstTokens.choose_names.Goals as goal

pub returns : goal.returns
returns g c =
    let index = g.StorageT.StorageIndex.index in
    let rows = c.args.self.now in
    let names = c.args.names.now in
    let wanted = c.in_ok-wanted.wanted in
    let covered = c.choose_rules.new.covered in
    let expected = token_numbers index c.args.expected.now in
    let candidates = rule_numbers index c.args.candidates.now in
    let order = rule_numbers index c.in_ok-order.order.items in
    let rules = rule_numbers index c.in_ok-rules.rules.items in
    let tokens = token_numbers index c.in_ok-tokens.tokens.items in
    let room : All (λ row. length row ≡ c.self.inside.tokens) rows =
    subst (All (λ row. length row ≡ c.self.inside.tokens)) c.self.view_is c.self.invariant in
    let sorts : IsPermutation candidates order =
    IsPermutation-map (λ r. index r.0) c.args.candidates.now c.in_ok-order.order.items c.in_ok-order.ensures in
    let chosen : AreChosen rows names wanted order rules covered =
    subst (λ sets. AreChosen sets names wanted order rules covered) (c.deref-2.ensures.value ∙ c.self.view_is)
    (subst (λ some. AreChosen c.deref-2.result.now names wanted (rule_numbers index some) rules covered) c.deref-3.ensures.value c.in_ok-rules.ensures) in
    let kept : tokens ≡ filter (λ t. not (has covered t)) expected =
    ap (token_numbers index) c.in_ok-tokens.ensures ∙ map-filter (λ t. index t.0) (λ t. not (has covered t)) c.args.expected.now in
    record {
      cover = cover_expected rows names wanted covered c.self.inside.tokens expected candidates order rules tokens room c.in_ok-wanted.ensures sorts chosen kept;
      candidates = name_candidates rows names wanted covered c.self.inside.tokens expected candidates order rules tokens room c.in_ok-wanted.ensures sorts chosen kept;
      complete = leave_none_out rows names wanted covered c.self.inside.tokens expected candidates order rules tokens room c.in_ok-wanted.ensures sorts chosen kept;
      needed = chosen.needed;
      others = keeps_others rows names wanted covered c.self.inside.tokens expected candidates order rules tokens room c.in_ok-wanted.ensures sorts chosen kept;
      apart = are_apart rows names wanted covered c.self.inside.tokens expected candidates order rules tokens room c.in_ok-wanted.ensures sorts chosen kept;
    }
