use Rattle.std.proofs.Common.{◌≡◌, ◌∷◌, ◌++◌, [], Some, None, get_or, length, map, set, ap, subst, sym, ◌∙◌, arith}
use Rattle.std.proofs.lemmas.List.{get_or_read, length-map, map-append}
use Rattle.lrpar_grammar.specs.SameProds.{found}
use Rattle.lrpar_grammar.specs.Matching.{AreMatched, prods_of, texts_of}
use Rattle.lrpar_grammar.proofs.MatchingLemmas.{found_is, found_some, free_is, matched_more, none_free, not_found_is}
use Rattle.lrpar_grammar.proofs.grammar.matching.Matching.match_text.Goals as goal

pub returns-in_default-clause-misfit : goal.returns-in_default-clause-misfit
returns-in_default-clause-misfit c =
    let m = c.args.self.now in
    not_found_is (prods_of m) (texts_of m) m.first m.next.items m.free.items m.places.items c.requires c.args.numbers.items
    (ap (found m.first) (sym c.as_slice.ensures.value) ∙ sym c.get.ensures.value ∙ sym c.in_default.ensures)

pub index-requires : goal.index-requires
index-requires c =
    let m = c.args.self.now in
    let at : found m.first c.args.numbers.items ≡ Some c.in-Some.first = ap (found m.first) (sym c.as_slice.ensures.value) ∙ sym c.get.ensures.value ∙ sym c.in-Some.ensures in
    let is = found_is (prods_of m) (texts_of m) m.first m.next.items m.free.items m.places.items c.requires c.args.numbers.items c.in-Some.first at in
    omega (arith, is.0, c.requires.free_len)

pub returns-in_default-index-clause-misfit : goal.returns-in_default-index-clause-misfit
returns-in_default-index-clause-misfit c =
    let m = c.args.self.now in
    let numbers = c.args.numbers.items in
    let first = c.in-Some.first in
    let at : found m.first numbers ≡ Some first = ap (found m.first) (sym c.as_slice.ensures.value) ∙ sym c.get.ensures.value ∙ sym c.in-Some.ensures in
    let is = found_is (prods_of m) (texts_of m) m.first m.next.items m.free.items m.places.items c.requires numbers first at in
    let free : get_or m.free.items first None ≡ None = sym (get_or_read m.free.items first c.index.result.now (omega (arith, is.0, c.requires.free_len)) c.index.ensures None) ∙ c.in_default-index.is in (
      found_some (prods_of m) (texts_of m) m.first m.next.items m.free.items m.places.items c.requires numbers first at,
      none_free (prods_of m) (texts_of m) m.first m.next.items m.free.items m.places.items c.requires numbers first at free,
    )

pub index-requires-2 : goal.index-requires-2
index-requires-2 c =
    let m = c.args.self.now in
    let numbers = c.args.numbers.items in
    let first = c.in-Some.first in
    let at : found m.first numbers ≡ Some first = ap (found m.first) (sym c.as_slice.ensures.value) ∙ sym c.get.ensures.value ∙ sym c.in-Some.ensures in
    let is = found_is (prods_of m) (texts_of m) m.first m.next.items m.free.items m.places.items c.requires numbers first at in
    let free : get_or m.free.items first None ≡ Some c.in-Some-index.prod = sym (get_or_read m.free.items first c.index.result.now (omega (arith, is.0, c.requires.free_len)) c.index.ensures None) ∙ c.in-Some-index.is in
    let here = free_is (prods_of m) (texts_of m) m.first m.next.items m.free.items m.places.items c.requires numbers first c.in-Some-index.prod at free in
    omega (arith, here.within, c.requires.next_len)

pub index_mut-requires : goal.index_mut-requires
index_mut-requires c =
    let m = c.args.self.now in
    let at : found m.first c.args.numbers.items ≡ Some c.in-Some.first = ap (found m.first) (sym c.as_slice.ensures.value) ∙ sym c.get.ensures.value ∙ sym c.in-Some.ensures in
    let is = found_is (prods_of m) (texts_of m) m.first m.next.items m.free.items m.places.items c.requires c.args.numbers.items c.in-Some.first at in
    omega (arith, is.0, c.requires.free_len)

pub index_mut-requires-2 : goal.index_mut-requires-2
index_mut-requires-2 c =
    let m = c.args.self.now in
    let numbers = c.args.numbers.items in
    let first = c.in-Some.first in
    let at : found m.first numbers ≡ Some first = ap (found m.first) (sym c.as_slice.ensures.value) ∙ sym c.get.ensures.value ∙ sym c.in-Some.ensures in
    let is = found_is (prods_of m) (texts_of m) m.first m.next.items m.free.items m.places.items c.requires numbers first at in
    let free : get_or m.free.items first None ≡ Some c.in-Some-index.prod = sym (get_or_read m.free.items first c.index.result.now (omega (arith, is.0, c.requires.free_len)) c.index.ensures None) ∙ c.in-Some-index.is in
    let here = free_is (prods_of m) (texts_of m) m.first m.next.items m.free.items m.places.items c.requires numbers first c.in-Some-index.prod at free in
    omega (arith, here.within, c.requires.texts_len)

pub returns-clause-matched : goal.returns-clause-matched
returns-clause-matched c =
    let m = c.args.self.now in
    let prods = prods_of m in
    let texts = texts_of m in
    let numbers = c.args.numbers.items in
    let first = c.in-Some.first in
    let prod = c.in-Some-index.prod in
    let at : found m.first numbers ≡ Some first = ap (found m.first) (sym c.as_slice.ensures.value) ∙ sym c.get.ensures.value ∙ sym c.in-Some.ensures in
    let is = found_is prods texts m.first m.next.items m.free.items m.places.items c.requires numbers first at in
    let free : get_or m.free.items first None ≡ Some prod = sym (get_or_read m.free.items first c.index.result.now (omega (arith, is.0, c.requires.free_len)) c.index.ensures None) ∙ c.in-Some-index.is in
    let here = free_is prods texts m.first m.next.items m.free.items m.places.items c.requires numbers first prod at free in
    let next : get_or m.next.items prod None ≡ c.index-2.result.now = sym (get_or_read m.next.items prod c.index-2.result.now (omega (arith, here.within, c.requires.next_len)) c.index-2.ensures None) in
    let place : length texts ≡ c.len-place.result = length-map m.texts.items (λ x. x.items) ∙ omega (arith, c.len-place.ensures) in
    let pushed : texts ++ numbers ∷ [] ≡ map (λ x. x.items) c.push.new.self.items =
    sym (ap (map (λ x. x.items)) c.in_ok-push.ensures.items ∙ map-append (λ x. x.items) m.texts.items (c.args.numbers ∷ [])) in
    let more = matched_more prods texts m.first m.next.items m.free.items m.places.items c.requires numbers first prod at free in
    subst (λ n. AreMatched prods (map (λ x. x.items) c.push.new.self.items) m.first m.next.items (set m.free.items first c.index-2.result.now) (set m.places.items prod (Some n))) place
    (subst (λ o. AreMatched prods (map (λ x. x.items) c.push.new.self.items) m.first m.next.items (set m.free.items first o) (set m.places.items prod (Some (length texts)))) next
    (subst (λ s. AreMatched prods s m.first m.next.items (set m.free.items first (get_or m.next.items prod None)) (set m.places.items prod (Some (length texts)))) pushed more))
