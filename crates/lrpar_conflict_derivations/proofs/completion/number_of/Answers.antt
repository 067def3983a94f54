use Rattle.std.proofs.Common.{◌≡◌, ◌∙◌, ℕ, inl, inr, sym, ap, subst, arith}
use Rattle.std.proofs.lemmas.Bool.{cases_lt}
use Rattle.lrpar_conflict_derivations.specs.ClosureLinks.{LinkOf, link_at, links_of}
use Rattle.lrpar_conflict_derivations.proofs.LinkLemmas.{differ, link_is}
use Rattle.lrpar_conflict_derivations.proofs.completion.number_of.Goals.{else-from-via-then-from+else-link-asked, else-from-via-else-from}
use Rattle.lrpar_conflict_derivations.proofs.completion.number_of.Goals as goal

pub loop-number-preserved : goal.loop-number-preserved
loop-number-preserved g c =
    let index = g.StorageT.StorageIndex.index in
    let links = links_of index c.args.links.now in
    let n = c.loop-number.number in
    let link = c.index-links-number.result in
    let same = link_is index c.args.links.now n link c.loop-number-test.true c.index-links-number.is in
    λ i low rule asked.
    elim (cases_lt i n) as (λ _. ⊥) [
      | inl early ↦ c.loop-number.invariant i early rule asked
      | inr late ↦
          let here : i ≡ n = omega (arith, late, low) in
          let own_rule : index link.rule.0 ≡ index c.args.rule.0 =
          ap (λ (x : LinkOf). x.rule) same ∙ subst (λ (m : ℕ). (link_at links m).rule ≡ index c.args.rule.0) here rule in
          let own_asked : link.asked ≡ c.args.asked =
          ap (λ (x : LinkOf). x.asked) same ∙ subst (λ (m : ℕ). (link_at links m).asked ≡ c.args.asked) here asked in
          elim c.else-from.branch [
            | else-from-via-then-from+else-link-asked w ↦ differ link.asked c.args.asked w.if-link-asked.false own_asked
            | else-from-via-else-from w ↦ w.if-from.false (c.from.ensures ∙ own_rule ∙ sym c.from-in-loop-number.ensures)
          ]
    ]
