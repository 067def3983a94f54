use Rattle.std.proofs.Common.{◌≡◌, ◌+◌, ◌++◌, ◌∙◌, sym, ap, map, take}
use Rattle.std.proofs.lemmas.Bool.{false≢true}
use Rattle.std.proofs.lemmas.List.{append-nil, take_all}
use Rattle.lrpar_grammar.specs.Grammar.{prods_of}
use Rattle.lrpar_grammar.specs.Symbols.{prod_numbers}
use Rattle.lrpar_grammar_places.proofs.ListLemmas.{map-take_more}
use Rattle.lrpar_grammar_places.proofs.FaultLemmas.{nothing_done}
use Rattle.lrpar_table_items.specs.Cores.{core_set}
use Rattle.lrpar_table_items.proofs.PutLemmas.{all_ahead, front_core, front_cores, front_items, no_items, put_more}
use Rattle.lrpar_table_items.proofs.closure.push_rule.Goals as goal

pub returns-then-not-has_any-clause-items : goal.returns-then-not-has_any-clause-items
returns-then-not-has_any-clause-items g c =
    let index = g.StorageT.StorageIndex.index in
    λ x.
    no_items c.args.grm.now (index c.args.ridx.0) c.args.tokens.now (map (core_set index) c.args.closure.now.items) x
    (λ t some. false≢true (sym c.if-not-has_any.true ∙ c.has_any.ensures.1 (t, some)))

pub returns-then-not-has_any-clause-ahead : goal.returns-then-not-has_any-clause-ahead
returns-then-not-has_any-clause-ahead g c =
    let index = g.StorageT.StorageIndex.index in
    all_ahead c.args.grm.now (index c.args.ridx.0) (map (core_set index) c.args.closure.now.items) c.requires.ahead

pub loop-pidx-init : goal.loop-pidx-init
loop-pidx-init g c = sym (append-nil _)

pub loop-pidx-preserved : goal.loop-pidx-preserved
loop-pidx-preserved g c =
    let index = g.StorageT.StorageIndex.index in
    let prods = c.rule_to_prods-pidx-items.result.now in
    let i = c.loop-pidx.pidx-index in
    let more = map-take_more (λ x. index x.0) prods i c.pidx-item.result c.loop-pidx-test.true c.pidx-item.is in
    put_more (map (core_set index) c.args.closure.now.items) (map (core_set index) c.loop-pidx.closure.items) (map (core_set index) c.push_core.new.closure.items)
    c.args.tokens.now (prod_numbers index (take i prods)) (prod_numbers index (take (i + 1) prods)) (index c.pidx-item.result.0) more
    c.loop-pidx.invariant c.in_ok-push_core.ensures

pub returns : goal.returns
returns g c =
    let index = g.StorageT.StorageIndex.index in
    let grm = c.args.grm.now in
    let r = index c.args.ridx.0 in
    let tokens = c.args.tokens.now in
    let first = map (core_set index) c.args.closure.now.items in
    let prods = c.rule_to_prods-pidx-items.result.now in
    let all = take_all c.loop-pidx.pidx-index prods c.loop-pidx-test.false in
    let is : map (core_set index) c.loop-pidx.closure.items ≡ first ++ map (front_core tokens) (prods_of grm r) =
    c.loop-pidx.invariant ∙ ap (λ xs. first ++ map (front_core tokens) (prod_numbers index xs)) all
    ∙ ap (λ ps. first ++ map (front_core tokens) ps) c.rule_to_prods-pidx-items.ensures in
    let some = c.has_any.ensures.0 c.if-not-has_any.false in
    let cores = front_cores grm r tokens first c.requires.cores c.requires.ahead c.requires.wide some.0 some.1 in
    record {
      items = λ x. rw is (front_items grm r tokens first x);
      cores = rw is cores.0;
      ahead = rw is cores.1;
    }

pub returns-in_err-push_core-clause-items : goal.returns-in_err-push_core-clause-items
returns-in_err-push_core-clause-items g c = nothing_done c.from_residual.result _ _ c.from_residual.ensures.1

pub returns-in_err-push_core-clause-cores : goal.returns-in_err-push_core-clause-cores
returns-in_err-push_core-clause-cores g c = nothing_done c.from_residual.result _ _ c.from_residual.ensures.1

pub returns-in_err-push_core-clause-ahead : goal.returns-in_err-push_core-clause-ahead
returns-in_err-push_core-clause-ahead g c = nothing_done c.from_residual.result _ _ c.from_residual.ensures.1
