use Rattle.std.proofs.Common.{◌≡◌, ◌<◌, ◌+◌, ◌++◌, ◌∷◌, [], ℕ, List, Bor, get_or, length, map, take, ap, subst, sym, ◌∙◌, arith}
use Rattle.std.proofs.lemmas.List.{get_or-map, length-map, take_more}
use Rattle.lrpar_grammar.specs.Matching.{prods_of, texts_of}
use Rattle.lrpar_grammar.specs.Spelled.{SpellEach, SpellsNumbers, numbers_at}
use Rattle.lrpar_grammar.specs.SpelledFaults.{IsTextFault}
use Rattle.lrpar_grammar.proofs.ListingLemmas.{spell_push}
use Rattle.lrpar_grammar.proofs.TakeLemmas.{repeated_at, repeated_fault, unknown_at, unknown_fault, unread_at}
use Rattle.lrpar_grammar.proofs.grammar.spelled.match_texts.Goals as goal

pub returns-in_default-clause-fault : goal.returns-in_default-clause-fault
returns-in_default-clause-fault c =
    let n = c.args.names.now in
    let m = c.loop-place.matching in
    let place = c.loop-place.place in
    let refs : List (Bor (List ℕ)) = c.args.texts.now in
    let texts = map (λ text. text.now) refs in
    let bytes = (get_or refs place (record { ref_ptr = (0, 0); now = [] })).now in
    let inside : place < length refs = c.loop-place-test.true in
    let within : place < length texts = omega (arith, length-map refs (λ text. text.now)) in
    let is : bytes ≡ numbers_at texts place = sym (get_or-map (λ text. text.now) refs place (record { ref_ptr = (0, 0); now = [] }) [] inside) in
    let unread = rw c.in_default.is at c.in_ok-numbers.ensures in
    let bad = unread_at n (prods_of m) (texts_of m) m.first m.next.items m.free.items m.places.items c.loop-place.invariant.matched texts place bytes within is c.loop-place.invariant.spell unread in
    subst (λ ps. IsTextFault n ps texts c.unknown.result) c.loop-place.invariant.prods (unknown_fault n (prods_of m) texts bytes place bad c.unknown.result c.unknown.ensures)

pub returns-in-Err-Unknown-clause-fault : goal.returns-in-Err-Unknown-clause-fault
returns-in-Err-Unknown-clause-fault c =
    let n = c.args.names.now in
    let m = c.loop-place.matching in
    let place = c.loop-place.place in
    let refs : List (Bor (List ℕ)) = c.args.texts.now in
    let texts = map (λ text. text.now) refs in
    let bytes = (get_or refs place (record { ref_ptr = (0, 0); now = [] })).now in
    let inside : place < length refs = c.loop-place-test.true in
    let within : place < length texts = omega (arith, length-map refs (λ text. text.now)) in
    let is : bytes ≡ numbers_at texts place = sym (get_or-map (λ text. text.now) refs place (record { ref_ptr = (0, 0); now = [] }) [] inside) in
    let spells : SpellsNumbers n bytes c.in-Some.numbers.items = rw c.in-Some.is at c.in_ok-numbers.ensures in
    let misfit = rw c.in-Err-Unknown.field-0-is at c.in-Err-Unknown.ensures.misfit in
    let bad = unknown_at n (prods_of m) (texts_of m) m.first m.next.items m.free.items m.places.items c.loop-place.invariant.matched texts place bytes within is c.loop-place.invariant.spell c.in-Some.numbers.items spells misfit in
    subst (λ ps. IsTextFault n ps texts c.unknown-in-Err-Unknown.result) c.loop-place.invariant.prods
    (unknown_fault n (prods_of m) texts bytes place bad c.unknown-in-Err-Unknown.result c.unknown-in-Err-Unknown.ensures)

pub returns-in-Err-Repeated-clause-fault : goal.returns-in-Err-Repeated-clause-fault
returns-in-Err-Repeated-clause-fault c =
    let n = c.args.names.now in
    let m = c.loop-place.matching in
    let place = c.loop-place.place in
    let refs : List (Bor (List ℕ)) = c.args.texts.now in
    let texts = map (λ text. text.now) refs in
    let bytes = (get_or refs place (record { ref_ptr = (0, 0); now = [] })).now in
    let inside : place < length refs = c.loop-place-test.true in
    let within : place < length texts = omega (arith, length-map refs (λ text. text.now)) in
    let is : bytes ≡ numbers_at texts place = sym (get_or-map (λ text. text.now) refs place (record { ref_ptr = (0, 0); now = [] }) [] inside) in
    let spells : SpellsNumbers n bytes c.in-Some.numbers.items = rw c.in-Some.is at c.in_ok-numbers.ensures in
    let misfit = rw c.in-Err-Repeated.field-0-is at c.in-Err-Repeated.ensures.misfit in
    let bad = repeated_at n (prods_of m) (texts_of m) m.first m.next.items m.free.items m.places.items c.loop-place.invariant.matched texts place bytes within is c.loop-place.invariant.spell c.in-Some.numbers.items spells misfit in
    subst (λ ps. IsTextFault n ps texts c.repeated.result) c.loop-place.invariant.prods
    (repeated_fault n (prods_of m) texts bytes place bad c.repeated.result c.repeated.ensures)

pub loop-place-preserved : goal.loop-place-preserved
loop-place-preserved c =
    let n = c.args.names.now in
    let m = c.loop-place.matching in
    let place = c.loop-place.place in
    let refs : List (Bor (List ℕ)) = c.args.texts.now in
    let texts = map (λ text. text.now) refs in
    let bytes = (get_or refs place (record { ref_ptr = (0, 0); now = [] })).now in
    let inside : place < length refs = c.loop-place-test.true in
    let within : place < length texts = omega (arith, length-map refs (λ text. text.now)) in
    let is : bytes ≡ numbers_at texts place = sym (get_or-map (λ text. text.now) refs place (record { ref_ptr = (0, 0); now = [] }) [] inside) in
    let spells : SpellsNumbers n bytes c.in-Some.numbers.items = rw c.in-Some.is at c.in_ok-numbers.ensures in
    let pushed = spell_push n (take place texts) (texts_of m) bytes c.in-Some.numbers.items c.loop-place.invariant.spell spells in
    let front : take place texts ++ bytes ∷ [] ≡ take (place + 1) texts = ap (λ b. take place texts ++ b ∷ []) is ∙ sym (take_more texts place [] within) in
    record {
      matched = c.in-Ok.ensures.matched;
      prods = c.in-Ok.ensures.prods ∙ c.loop-place.invariant.prods;
      spell = subst (SpellEach n (take (place + 1) texts)) (sym c.in-Ok.ensures.texts) (subst (λ s. SpellEach n s (texts_of m ++ c.in-Some.numbers.items ∷ [])) front pushed);
    }
