use Rattle.std.proofs.Common.{◌≡◌, ◌<◌, ◌∙◌, ℕ, arith, inl, inr, subst, sym}
use Rattle.std.proofs.lemmas.Bool.{cases_eq}
use Rattle.lrpar_grammar.specs.Grammar.{end_token}
use Rattle.lrpar_table_stacks.specs.Reduction.{Feeds}
use Rattle.lrpar_parse_completion.specs.Reached.{HasReached, all_reached}
use Rattle.lrpar_table_sentences.proofs.FixLemmas.{index_back}
use Rattle.lrpar_parse_completion.proofs.FinderLemmas.{adds_at, adds_both, adds_keep, adds_none}
use Rattle.lrpar_parse_completion.proofs.finder.Finder.add_next.Goals as goal

pub loop-number-init : goal.loop-number-init
loop-number-init g c =
    let index = g.StorageT.StorageIndex.index in
    let d = c.args.self.now.checked.now in
    record {
      adds = adds_none d.grammar d.table (all_reached index c.args.found.now);
      stacks = c.requires.stacks;
      has = λ reached is t prods next low under feeds. absurd (omega (arith, low));
    }

pub loop-number-preserved : goal.loop-number-preserved
loop-number-preserved g c =
    let index = g.StorageT.StorageIndex.index in
    let d = c.args.self.now.checked.now in
    let l = c.loop-number in
    let a = all_reached index c.args.found.now in
    let b = all_reached index l.found in
    let e = all_reached index c.add_next_at.new.found in
    let before = l.invariant in
    let one = c.in_ok-add_next_at.ensures in
    record {
      adds = adds_both d.grammar d.table a b e before.adds one.adds;
      stacks = one.stacks;
      has = λ reached is t prods next low under feeds.
          elim (cases_eq t l.number) as (λ _. HasReached e next) [
            | inl same ↦
                let at = index_back index c.from_index.result c.unwrap.result l.number c.from_index.ensures.back c.unwrap.ensures in
                let is_token : t ≡ index c.unwrap.result = same ∙ sym at in
                let here : Feeds d.grammar d.table (index c.unwrap.result) reached.stack prods next =
                subst (λ (n : ℕ). Feeds d.grammar d.table n reached.stack prods next) is_token feeds in
                one.has reached (adds_at d.grammar d.table a b c.args.place reached before.adds is) prods next
                (subst (λ (n : ℕ). n < end_token d.grammar) is_token under) here
            | inr other ↦ adds_keep d.grammar d.table b e next one.adds (before.has reached is t prods next (omega (arith, low, other)) under feeds)
          ];
    }

pub returns : goal.returns
returns g c =
    let l = c.loop-number in
    let many = rw c.stable.ensures.table at c.tokens_len-number-end.ensures.tokens in
    let shape = c.stable.ensures.checked.safe.shape.tokens in
    record {
      adds = l.invariant.adds;
      stacks = l.invariant.stacks;
      has = λ reached is t prods next low under feeds. l.invariant.has reached is t prods next (omega (arith, low, many, shape, c.loop-number-test.false)) under feeds;
    }
