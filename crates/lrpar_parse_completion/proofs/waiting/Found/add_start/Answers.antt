use Rattle.std.proofs.Common.{◌≡◌, ◌∙◌, ℕ, inl, inr, refl, subst, sym}
use Rattle.lrpar_grammar.specs.Grammar.{start_prod}
use Rattle.lrpar_parse_completion.specs.Waiting.{HasRuleAfter, IsOwnCore, links_of}
use Rattle.lrpar_parse_completion.proofs.FoundLemmas.{added_found, counted_more, grows_none}
use Rattle.lrpar_parse_completion.proofs.waiting.Found.add_start.Goals as goal

pub returns-then-from : goal.returns-then-from
returns-then-from g c =
    let index = g.StorageT.StorageIndex.index in
    let d = c.args.checked.now in
    let s = index c.args.state.0 in
    let start = rw c.stable.ensures.table at c.start_state.ensures.start in
    record {
      counted = c.requires.counted;
      grows = λ found. (
        grows_none d.grammar (IsOwnCore d.grammar d.graph d.table s) (links_of index c.args.self.now.links.items) c.args.self.now.marks.items found,
        λ is. absurd (c.if-from.true (c.from.ensures ∙ is ∙ sym (c.from-2.ensures ∙ start))),
      );
    }

pub returns : goal.returns
returns g c =
    let index = g.StorageT.StorageIndex.index in
    let d = c.args.checked.now in
    let grm = d.grammar in
    let s = index c.args.state.0 in
    let own = IsOwnCore grm d.graph d.table s in
    let p = index c.start_prod.result.0 in
    let number : p ≡ start_prod grm = rw c.grm-grm.ensures at c.start_prod.ensures.number in
    let known = rw c.grm-grm.ensures at c.start_prod.ensures.within in
    let added = rw c.grm-grm.ensures at c.in_ok-add.ensures in
    let start = rw c.stable.ensures.table at c.start_state.ensures.start in
    let is : s ≡ d.table.start = sym c.from.ensures ∙ c.if-from.false ∙ c.from-2.ensures ∙ start in
    let before = links_of index c.args.self.now.links.items in
    let after = links_of index c.add.new.self.links.items in
    let marks = c.args.self.now.marks.items in
    let marks_after = c.add.new.self.marks.items in
    record {
      counted = counted_more grm p 0 before after marks marks_after added c.requires.counted;
      grows = λ found.
          let one = added_found grm own p 0 before after marks marks_after known (inl (inr (is, number, refl))) added found in
          (one.0, λ _. subst (λ (q : ℕ). HasRuleAfter grm after q 0) number one.1);
    }
