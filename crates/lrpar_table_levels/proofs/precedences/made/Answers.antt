use Rattle.std.proofs.Common.{◌≡◌, ◌≤◌, ◌∙◌, ap, subst, arith, length, map}
use Rattle.std.proofs.lemmas.List.{with_items_is}
use Rattle.lrpar_table_precedence.specs.Precedence.{slot_at}
use Rattle.lrpar_table_levels.specs.Levels.{level_of, named_of, prod_entries, count_in, token_entries}
use Rattle.lrpar_table_levels.proofs.FilledLemmas.{filled_once}
use Rattle.lrpar_table_levels.proofs.LevelLemmas.{declared_is, error_same, prod_keys}
use Rattle.lrpar_table_levels.proofs.precedences.made.Goals as goal

pub returns-in_err-tokens-clause-refused : goal.returns-in_err-tokens-clause-refused
returns-in_err-tokens-clause-refused g c =
    error_same c.from_residual.result _ c.in_err-tokens.field-0.0 c.from_residual.ensures.1
    (c.in_err-tokens.ensures.refused (map (named_of g.StorageT.StorageIndex.index) c.args.named.now))

pub returns-clause-prods : goal.returns-clause-prods
returns-clause-prods g c = λ p below.
    let index = g.StorageT.StorageIndex.index in
    let len : length c.add_last_tokens.new.prods ≡ c.in_ok-prods.prods.len =
    omega (arith, c.add_last_tokens.auto.prods, c.deref_mut.ensures.len, c.in_ok-prods.prods.ok.0) in
    ap (λ slots. slot_at slots p) (c.from_slots.ensures.prods ∙ with_items_is c.in_ok-prods.prods c.add_last_tokens.new.prods len)
    ∙ declared_is c.args.grm.now (map (level_of index) c.args.levels.now) (map (named_of index) c.args.named.now) c.in_ok-tokens.tokens.items
    c.in_ok-prods.prods.items c.deref.result.now c.deref_mut.result.now c.add_last_tokens.new.prods c.deref.ensures.value c.deref_mut.ensures.value
    c.in_ok-tokens.ensures.filled c.in_ok-prods.ensures.filled p (c.add_last_tokens.ensures p below)

pub returns-clause-once : goal.returns-clause-once
returns-clause-once g c =
    let index = g.StorageT.StorageIndex.index in
    let levels = map (level_of index) c.args.levels.now in
    let named = map (named_of index) c.args.named.now in
    record {
      tokens = filled_once (token_entries levels) c.in_ok-tokens.tokens.items c.in_ok-tokens.ensures.filled;
      prods = λ p.
          subst (λ keys. count_in keys p ≤ 1) (prod_keys levels named)
          (filled_once (prod_entries levels named) c.in_ok-prods.prods.items c.in_ok-prods.ensures.filled p);
    }
