use Rattle.std.proofs.Common.{◌≡◌, ◌∙◌, ℕ, List, ap, arith, reverse, subst, sym}
use Rattle.lrpar_grammar_places.specs.declared.span.StIdx.{StIdx}
use Rattle.lrpar_table_pops.specs.Searched.{IsStackAt}
use Rattle.lrpar_table_pops.proofs.SearchLemmas.{IsListedTo, at_read, listed_all, listed_more}
use Rattle.lrpar_table_pops.proofs.StuckLemmas.{RestLists, rest_all, rest_more, rest_start}
use Rattle.lrpar_table_pops.proofs.searched.Searched.states.Goals as goal

pub below-init : goal.below-init
below-init g c =
    let index = g.StorageT.StorageIndex.index in
    let stacks = c.args.self.now.stacks.items in
    record {
      within = c.requires.place;
      rest = subst (λ (l : List (StIdx g.row.StorageT.Denot)). RestLists index stacks c.args.place c.args.place l) (sym c.new-states.ensures.items)
          (rest_start index stacks c.args.place);
      listed = subst (λ (l : List (StIdx g.row.StorageT.Denot)). IsListedTo index c.args.checked.now.table stacks c.args.place l) (sym c.new-states.ensures.items)
          (λ stack at. tt);
    }

pub below-smaller : goal.below-smaller
below-smaller g c =
    let stacks = c.args.self.now.stacks.items in
    let stack = c.index-stack.result.now in
    let at : IsStackAt stacks c.below.at stack = at_read stacks c.below.at stack c.below.invariant.within c.index-stack.ensures in
    (c.requires.stacks.on c.below.at stack c.below-test.true at).1

pub below-preserved : goal.below-preserved
below-preserved g c =
    let index = g.StorageT.StorageIndex.index in
    let gr = c.args.checked.now.grammar in
    let table = c.args.checked.now.table in
    let stacks = c.args.self.now.stacks.items in
    let stack = c.index-stack.result.now in
    let at : IsStackAt stacks c.below.at stack = at_read stacks c.below.at stack c.below.invariant.within c.index-stack.ensures in
    let under = (c.requires.stacks.on c.below.at stack c.below-test.true at).1 in
    let low = c.below.invariant.within in
    record {
      within = omega (arith, under, low);
      listed = subst (λ (l : List (StIdx g.row.StorageT.Denot)). IsListedTo index table stacks stack.below l) (sym c.in_ok-push.ensures.items)
          (listed_more index gr table stacks c.requires.stacks c.below.at stack c.below.states.items c.below-test.true at c.below.invariant.listed);
      rest = subst (λ (l : List (StIdx g.row.StorageT.Denot)). RestLists index stacks c.args.place stack.below l) (sym c.in_ok-push.ensures.items)
          (rest_more index stacks c.args.place c.below.at stack c.below.states.items c.below-test.true at c.below.invariant.rest);
    }

pub returns-clause-stack : goal.returns-clause-stack
returns-clause-stack g c =
    let index = g.StorageT.StorageIndex.index in
    let gr = c.args.checked.now.grammar in
    let table = c.args.checked.now.table in
    let stacks = c.args.self.now.stacks.items in
    let first = c.index.result.now in
    let low = c.below.invariant.within in
    let end = c.below-test.false in
    let bottom : c.below.at ≡ 0 = omega (arith, end) in
    let at = at_read stacks 0 first (omega (arith, low)) c.index.ensures in
    let listed = subst (λ (n : ℕ). IsListedTo index table stacks n c.below.states.items) bottom c.below.invariant.listed in
    let turned = c.reverse.ensures.items ∙ ap (λ (l : List (StIdx g.row.StorageT.Denot)). reverse l) c.in_ok-push-2.ensures.items in
    listed_all index gr table stacks c.requires.stacks first c.below.states.items c.reverse.new.self.items at listed turned

pub returns-clause-whole : goal.returns-clause-whole
returns-clause-whole g c =
    let index = g.StorageT.StorageIndex.index in
    let stacks = c.args.self.now.stacks.items in
    let first = c.index.result.now in
    let low = c.below.invariant.within in
    let end = c.below-test.false in
    let bottom : c.below.at ≡ 0 = omega (arith, end) in
    let at = at_read stacks 0 first (omega (arith, low)) c.index.ensures in
    let rest = subst (λ (n : ℕ). RestLists index stacks c.args.place n c.below.states.items) bottom c.below.invariant.rest in
    let turned = c.reverse.ensures.items ∙ ap (λ (l : List (StIdx g.row.StorageT.Denot)). reverse l) c.in_ok-push-2.ensures.items in
    rest_all index stacks c.args.place first c.below.states.items c.reverse.new.self.items at rest turned
