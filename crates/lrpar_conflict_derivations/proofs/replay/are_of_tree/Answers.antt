use Rattle.std.proofs.Common.{◌+◌, ◌∷◌, ◌∙◌, [], ℕ, IsTrue, sym, ap, map, subst, take}
use Rattle.std.proofs.lemmas.List.{take_all}
use Rattle.lrpar_grammar.specs.Grammar.{Nonterminal}
use Rattle.lrpar_grammar.specs.Symbols.{symbol_of}
use Rattle.lrpar_grammar_places.proofs.ListLemmas.{map-take_more}
use Rattle.lrpar_table_sentences.specs.Moves.{move_of, moves_in}
use Rattle.lrpar_conflict_derivations.proofs.ReplayLemmas.{HasMade, made_all, made_more, made_none}
use Rattle.lrpar_conflict_derivations.proofs.replay.are_of_tree.Goals as goal

pub loop-step-init : goal.loop-step-init
loop-step-init g c =
    let index = g.StorageT.StorageIndex.index in
    made_none c.args.grm.now (map (symbol_of index) c.new-stack.result.items) (ap (map (symbol_of index)) c.new-stack.ensures.items)

pub loop-step-preserved : goal.loop-step-preserved
loop-step-preserved g c =
    let index = g.StorageT.StorageIndex.index in
    let moves = c.args.moves.now in
    let i = c.loop-step.step-index in
    made_more c.args.grm.now (move_of index c.step-item.result) (map (symbol_of index) c.loop-step.stack.items) (map (symbol_of index) c.replay.new.stack.items)
    (moves_in index (take i moves)) (moves_in index (take (i + 1) moves)) c.loop-step.invariant (c.in_ok-replay.ensures c.if-not-branch.false)
    (map-take_more (move_of index) moves i c.step-item.result c.loop-step-test.true c.step-item.is)

pub returns : goal.returns
returns g c =
    let index = g.StorageT.StorageIndex.index in
    let grm = c.args.grm.now in
    let moves = c.args.moves.now in
    let stack = c.loop-step.stack.items in
    let all = take_all c.loop-step.step-index moves c.loop-step-test.false in
    let has = subst (λ xs. HasMade grm (map (symbol_of index) stack) (moves_in index xs)) all c.loop-step.invariant in
    let alone = λ (is : IsTrue c.is_alone.result).
    ap (map (symbol_of index)) (sym c.deref.ensures.value) ∙ c.is_alone.ensures is
    ∙ ap (λ (n : ℕ). Nonterminal n ∷ []) c.start_rule_idx.ensures.start in
    λ is. made_all grm (map (symbol_of index) stack) (moves_in index moves) has (alone is)
