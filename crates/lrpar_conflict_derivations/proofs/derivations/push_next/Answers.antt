use Rattle.std.proofs.Common.{◌≡◌, ◌+◌, ◌∷◌, ◌++◌, ◌∙◌, ℕ, [], refl, sym, ap, subst, length}
use Rattle.std.proofs.lemmas.List.{length-map, map-append}
use Rattle.lrpar_grammar.specs.Grammar.{Terminal, prod_len, symbols_of}
use Rattle.lrpar_grammar.specs.Symbols.{symbol_of}
use Rattle.lrpar_table_rows.specs.Graph.{HasItem}
use Rattle.lrpar_table_sentences.specs.Moves.{MoveOf, Takes, move_of, moves_in}
use Rattle.lrpar_table_sentences.specs.Texts.{AreTreesOf, HaveTrees}
use Rattle.lrpar_table_sentences.specs.AccessStrings.{symbols_in}
use Rattle.lrpar_table_sentences.specs.declared.moves.Move.TheVariants.{Take}
use Rattle.lrpar_conflict_derivations.specs.Derivation.{Derives}
use Rattle.lrpar_conflict_derivations.specs.Stored.{IsCalledFor}
use Rattle.lrpar_conflict_derivations.proofs.DerivationLemmas.{complete_known, reduce_done, shift_done}
use Rattle.lrpar_conflict_derivations.proofs.ReachLemmas.{core_rest}
use Rattle.lrpar_conflict_derivations.proofs.RestLemmas.{rest_of}
use Rattle.lrpar_conflict_derivations.proofs.derivations.push_next.Goals as goal

pub prod-requires : goal.prod-requires
prod-requires g c =
    let index = g.StorageT.StorageIndex.index in
    let called = subst (λ next. IsCalledFor index c.args.grm.now c.args.graph.now c.args.state c.args.token next) c.in-Make.is c.requires.called in
    complete_known c.args.grm.now c.start_prod-lemma.ensures.well_formed c.args.graph.now c.requires.canonical (index c.args.state.0) (index c.in-Make.prod.0)
    (index c.args.token.0) c.requires.state called.1

pub returns-in-Make-clause-item : goal.returns-in-Make-clause-item
returns-in-Make-clause-item g c =
    let index = g.StorageT.StorageIndex.index in
    let p = index c.in-Make.prod.0 in
    let t = index c.args.token.0 in
    let called = subst (λ next. IsCalledFor index c.args.grm.now c.args.graph.now c.args.state c.args.token next) c.in-Make.is c.requires.called in
    let symbols = c.prod.result.now in
    let dot : length symbols ≡ prod_len c.args.grm.now p = sym (length-map symbols (symbol_of index)) ∙ ap length c.prod.ensures in
    (t, subst (λ (n : ℕ). HasItem c.args.graph.now (index c.args.state.0) p n t) (sym dot) called.1, λ asked. refl)

pub returns-in-Make-clause-begun : goal.returns-in-Make-clause-begun
returns-in-Make-clause-begun g c =
    let index = g.StorageT.StorageIndex.index in
    let grm = c.args.grm.now in
    let p = index c.in-Make.prod.0 in
    let t = index c.args.token.0 in
    let called = subst (λ next. IsCalledFor index c.args.grm.now c.args.graph.now c.args.state c.args.token next) c.in-Make.is c.requires.called in
    let symbols = c.prod.result.now in
    let dot : length symbols ≡ prod_len grm p = sym (length-map symbols (symbol_of index)) ∙ ap length c.prod.ensures in
    let out = moves_in index c.args.out.now.items in
    λ steps all finished.
    subst (λ (next : MoveOf). Derives grm steps t out next all) (sym (ap (move_of index) c.in-Make.is))
    (λ trees fit front. reduce_done grm t (symbols_in steps) p (length symbols) trees fit out all front finished called.0 dot)

pub push_all_moves-requires-clause-some : goal.push_all_moves-requires-clause-some
push_all_moves-requires-clause-some g c =
    let index = g.StorageT.StorageIndex.index in
    let grm = c.args.grm.now in
    let core = c.unwrap-core.result in
    let p = index core.0.0 in
    let found = rw c.unwrap-core.ensures at c.core_before.ensures in
    let rest = rest_of (symbol_of index) (core.1 + 1) c.prod-in-Take.result.now (symbols_of grm p) c.prod-in-Take.ensures in
    subst (HaveTrees grm) (sym rest)
    (core_rest grm c.start_prod-lemma.ensures.well_formed c.requires.each c.args.graph.now c.requires.canonical (index c.args.state.0) p core.1
    (Terminal (index c.args.token.0)) c.requires.state found.0 found.1)

pub returns-in_ok-push_all_moves-in-Take-clause-begun : goal.returns-in_ok-push_all_moves-in-Take-clause-begun
returns-in_ok-push_all_moves-in-Take-clause-begun g c =
    let index = g.StorageT.StorageIndex.index in
    let grm = c.args.grm.now in
    let token = index c.args.token.0 in
    let core = c.unwrap-core.result in
    let p = index core.0.0 in
    let found = rw c.unwrap-core.ensures at c.core_before.ensures in
    let called = subst (λ next. IsCalledFor index grm c.args.graph.now c.args.state c.args.token next) c.in-Take.is c.requires.called in
    let next_is = ap (λ (n : ℕ). Takes n) (sym called.0) ∙ ap (move_of index) (sym c.in-Take.is) in
    let rest = rest_of (symbol_of index) (core.1 + 1) c.prod-in-Take.result.now (symbols_of grm p) c.prod-in-Take.ensures in
    let pushed = c.in_ok-push_all_moves-in-Take.ensures in
    let old = moves_in index c.args.out.now.items in
    let shifted = moves_in index c.push.new.self.items in
    let shift_is : shifted ≡ old ++ Takes token ∷ [] =
    ap (moves_in index) c.in_ok-push-in-Take.ensures.items ∙ map-append (move_of index) c.args.out.now.items (Take c.args.token ∷ []) in
    let fit = subst (λ w. AreTreesOf grm w pushed.0) rest pushed.1.fit in
    λ steps all finished.
    subst (λ (next : MoveOf). Derives grm steps token old next all) next_is
    (λ trees fits front.
    shift_done grm token (symbols_in steps) p core.1 trees fits old all front shifted (moves_in index c.push_all_moves.new.out.items) pushed.0 shift_is pushed.2 fit found.1 finished)
