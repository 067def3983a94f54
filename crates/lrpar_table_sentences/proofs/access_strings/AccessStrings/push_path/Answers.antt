use Rattle.std.proofs.Common.{◌≡◌, ◌++◌, ◌∙◌, ap, subst, arith, rules, drop, length, reverse, take}
use Rattle.lrpar_table_sentences.specs.AccessStrings.{GoBack, steps_of, accesses_of}
use Rattle.lrpar_table_sentences.proofs.BackLemmas.{turned}
use Rattle.lrpar_table_sentences.proofs.GrowthLemmas.{whole_back}
use Rattle.lrpar_table_sentences.proofs.access_strings.AccessStrings.push_path.Goals as goal

pub returns : goal.returns
returns g c = λ grm graph table are access at.
    let index = g.StorageT.StorageIndex.index in
    let s = index c.args.s.0 in
    let path = are.paths s access at in
    let is : c.args.self.now ≡ accesses_of index c.deref.result.now = search rules in
    let fact = c.in_ok-push_back.ensures.steps path.0 (subst (λ accesses. GoBack accesses s path.0) is path.1) in
    let old = c.args.out.now.items in
    let out = c.push_back.new.out.items in
    let new = c.reverse_from.new.steps in
    let n = c.len-from.result in
    let back = whole_back out c.deref_mut.result.now new _ c.push_back.new.out.ok.0 c.deref_mut.ensures.value c.reverse_from.auto.steps in
    let made = c.reverse_from.ensures ∙ ap (λ xs. take n xs ++ reverse (drop n xs)) c.deref_mut.ensures.value in
    let count : n ≡ length old = omega (arith, c.len-from.ensures, c.args.out.now.ok.0) in
    (reverse path.0, path.2, ap (steps_of index) back ∙ turned index old out new path.0 n count fact made)
