use Rattle.std.proofs.Common.{false, ◌<◌, ◌≡◌, ◌+◌, ◌∷◌, ◌∙◌, sym, ap, subst, arith, length, map}
use Rattle.std.proofs.lemmas.Bool.{OnFalse_at, OnFalse_from, OnTrue_at, OnTrue_from}
use Rattle.std.proofs.lemmas.List.{length-set}
use Rattle.lrpar_grammar.specs.Grammar.{Nonterminal, rules_len}
use Rattle.lrpar_grammar.specs.Symbols.{symbol_of}
use Rattle.lrpar_table_first.specs.FirstRows.{dummy_lookahead}
use Rattle.lrpar_table_first.proofs.GrowthLemmas.{set_wide}
use Rattle.lrpar_table_items.proofs.RestLemmas.{grown_itself, marks_kept, marks_same}
use Rattle.lrpar_table_items.proofs.SpreadLemmas.{spread_to}
use Rattle.lrpar_grammar.specs.declared.token_set.TokenSet.{TokenSet}
use Rattle.lrpar_table_items.proofs.reach.spread_from.Goals as goal

pub returns-in-None-clause-growth : goal.returns-in-None-clause-growth
returns-in-None-clause-growth g c = grown_itself c.args.grm.now c.args.sets.now

pub unite_below-grown-requires : goal.unite_below-grown-requires
unite_below-grown-requires g c =
    let grm = c.args.grm.now in
    let low : c.from-target.result < rules_len grm = rw c.from-target.ensures c.in-Some.ensures.within in
    let wide = set_wide grm c.args.sets.now.brought.items c.from-target.result c.index_mut.result.now low c.requires.sets.room in
    let here = subst (λ (s : TokenSet). length s ≡ dummy_lookahead grm + 1) (sym c.index_mut.ensures.value) wide in
    omega (arith, here, c.tokens_len.ensures.len)

pub add_first_before-requires-clause-after : goal.add_first_before-requires-clause-after
add_first_before-requires-clause-after g c =
    let grm = c.args.grm.now in
    let low : c.from-rule.result < rules_len grm = rw c.from-rule.ensures c.prod_to_rule.ensures.within in
    let wide = set_wide grm c.args.sets.now.brought.items c.from-rule.result c.index.result.now low c.requires.sets.room in
    subst (λ (s : TokenSet). length s ≡ dummy_lookahead grm + 1) (sym c.index.ensures) wide

pub returns-in-Some : goal.returns-in-Some
returns-in-Some g c =
    let index = g.StorageT.StorageIndex.index in
    let grm = c.args.grm.now in
    let sets = c.args.sets.now in
    let rest = map (symbol_of index) c.in-Some.rest.now in
    let grown = c.unite_below-grown.result in
    let target = c.from-target.result in
    let low : target < rules_len grm = rw c.from-target.ensures c.in-Some.ensures.within in
    let marks : target < length sets.waits.items = let count = c.requires.sets.waits in omega (arith, count, low) in
    let to =
    spread_to grm sets.brought.items (index c.args.pidx.0) c.from-rule.result target c.tokens_len.result rest c.requires.prod
    (c.from-rule.ensures ∙ c.prod_to_rule.ensures.rule) (rw (← c.prod_to_rule.ensures.rule) c.prod_to_rule.ensures.within)
    (c.in-Some.ensures.rule ∙ ap (λ n. Nonterminal n ∷ rest) (sym c.from-target.ensures)) low c.tokens_len.ensures.len c.requires.sets.room
    c.index.result.now c.index_mut.result.now c.unite_below-grown.new.self c.index.ensures c.index_mut.ensures.value
    c.add_first_before.new.set c.clear.new.self
    c.clear.ensures.none c.add_first_before.ensures.tokens c.add_first_before.ensures.set c.unite_below-grown.ensures.room c.unite_below-grown.ensures.tokens in
    let same = λ (fell : grown ≡ false). to.same (OnFalse_at fell c.unite_below-grown.ensures.same) in
    let resting = marks_kept sets.waits.items c.mark.new.waits.items target grown _ _ marks c.mark.ensures to.other same in record {
      sets = record {
        firsts = c.requires.sets.firsts;
        room = to.room;
        waits = ap length c.mark.ensures ∙ length-set sets.waits.items target _ ∙ c.requires.sets.waits;
        front = c.add_first_before.ensures.front;
        fresh = c.add_first_before.ensures.set;
      };
      growth = record {
        kept = to.kept;
        sound = to.sound;
        grown = OnTrue_from grown _ (λ e. to.grown (OnTrue_at e c.unite_below-grown.ensures.grown));
        same = OnFalse_from grown _ same;
      };
      resting = resting;
      waits = OnFalse_from grown _ (λ e. c.mark.ensures ∙ marks_same sets.waits.items target grown e);
      closed = λ rests. to.closed (resting _ rests).1;
    }
