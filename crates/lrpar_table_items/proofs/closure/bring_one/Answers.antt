use Rattle.std.proofs.Common.{◌<◌, ◌≡◌, ◌+◌, ◌∷◌, ◌∙◌, sym, ap, subst, arith, length, map}
use Rattle.std.proofs.lemmas.List.{length-set}
use Rattle.lrpar_grammar.specs.Grammar.{Nonterminal, rules_len}
use Rattle.lrpar_grammar.specs.Symbols.{symbol_of}
use Rattle.lrpar_grammar.specs.declared.token_set.TokenSet.{TokenSet}
use Rattle.lrpar_table_items.specs.Cores.{core_set}
use Rattle.lrpar_table_items.specs.Working.{brought_rows}
use Rattle.lrpar_table_first.specs.FirstRows.{dummy_lookahead}
use Rattle.lrpar_table_first.proofs.GrowthLemmas.{set_wide}
use Rattle.lrpar_table_items.proofs.BringLemmas.{bring_exact, bring_other, bring_room, brings_nothing}
use Rattle.lrpar_table_items.proofs.RestLemmas.{resting_mark}
use Rattle.lrpar_table_items.proofs.closure.bring_one.Goals as goal

pub add_first_before-requires-clause-set : goal.add_first_before-requires-clause-set
add_first_before-requires-clause-set g c =
    let grm = c.args.grm.now in
    let low : c.from-target.result < rules_len grm = rw c.from-target.ensures c.in-Some.ensures.within in
    let wide = set_wide grm c.args.sets.now.brought.items c.from-target.result c.index_mut.result.now low c.requires.sets.room in
    subst (λ (s : TokenSet). length s ≡ dummy_lookahead grm + 1) (sym c.index_mut.ensures.value) wide

pub returns-in-Some : goal.returns-in-Some
returns-in-Some g c =
    let index = g.StorageT.StorageIndex.index in
    let grm = c.args.grm.now in
    let sets = c.args.sets.now in
    let core = core_set index c.args.core.now in
    let rest = map (symbol_of index) c.in-Some.rest.now in
    let target = c.from-target.result in
    let low : target < rules_len grm = rw c.from-target.ensures c.in-Some.ensures.within in
    let marks : target < length sets.waits.items = let count = c.requires.sets.waits in omega (arith, count, low) in
    let begins = c.in-Some.ensures.rule ∙ ap (λ n. Nonterminal n ∷ rest) (sym c.from-target.ensures) in
    let brought = sets.brought.items in
    let room = c.requires.sets.room in
    let new = c.add_first_before.new.set in
    let came = c.add_first_before.ensures.tokens in
    let at = c.index_mut.ensures.value in
    let old = c.index_mut.result.now in record {
      sets = record {
        firsts = c.requires.sets.firsts;
        room = bring_room grm brought target low room old new at core rest begins came c.add_first_before.ensures.set;
        waits = length-set sets.waits.items target _ ∙ c.requires.sets.waits;
        front = c.add_first_before.ensures.front;
        fresh = c.requires.sets.fresh;
      };
      exact = bring_exact grm brought target low room old new at core rest begins came;
      resting = resting_mark sets.waits.items target _ _ marks (bring_other grm brought target low room old new at core rest begins came);
    }

pub returns-in-None-clause-exact : goal.returns-in-None-clause-exact
returns-in-None-clause-exact g c =
    brings_nothing c.args.grm.now (core_set g.StorageT.StorageIndex.index c.args.core.now) (brought_rows c.args.sets.now) c.in-None.ensures.rule
