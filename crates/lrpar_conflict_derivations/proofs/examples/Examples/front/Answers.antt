use Rattle.std.proofs.Common.{◌∙◌, ap, arith, length, map}
use Rattle.lrpar_grammar.specs.Symbols.{symbol_of}
use Rattle.lrpar_table_sentences.specs.AccessStrings.{steps_of, symbols_in}
use Rattle.lrpar_conflict_derivations.specs.Example.{ExamplesOf}
use Rattle.lrpar_conflict_derivations.proofs.FrontLemmas.{front_pushed, symbols_have_trees}
use Rattle.lrpar_conflict_derivations.proofs.examples.Examples.front.Goals as goal

pub push_all_moves-requires-clause-some : goal.push_all_moves-requires-clause-some
push_all_moves-requires-clause-some g c =
    let index = g.StorageT.StorageIndex.index in
    symbols_have_trees index c.args.grm.now c.args.sgraph.now c.args.stable.now 18446744073709551615 c.start_prod-lemma.ensures.well_formed c.requires.built
    c.args.self.now c.requires.made (index c.args.state.0) c.requires.state c.states_len-lemma.ensures.closed c.self.inside.access
    (ap (λ (x : ExamplesOf). x.access) c.self.view_is) _ c.push_path.new.out.items c.new-steps.ensures.items
    (c.in_ok-push_path.ensures c.args.grm.now c.args.sgraph.now c.args.stable.now) (map (symbol_of index) c.deref-2.result.now)
    (ap (map (symbol_of index)) c.deref-2.ensures.value ∙ c.in_ok-symbols.ensures ∙ ap (λ xs. symbols_in (steps_of index xs)) c.deref.ensures.value)

pub returns : goal.returns
returns g c =
    let index = g.StorageT.StorageIndex.index in
    let len = c.len-lemma.ensures in
    let value = ap length c.as_slice-lemma.ensures.value in
    let more = c.as_slice-lemma.ensures.len in
    let fits = c.len-lemma.type_inv in
    front_pushed index c.args.grm.now c.args.sgraph.now c.args.stable.now 18446744073709551615 c.start_prod-lemma.ensures.well_formed c.requires.built
    c.args.self.now c.requires.made (index c.args.state.0) c.requires.state c.states_len-lemma.ensures.closed c.self.inside.access
    (ap (λ (x : ExamplesOf). x.access) c.self.view_is) _ c.push_path.new.out.items c.new-steps.ensures.items
    (c.in_ok-push_path.ensures c.args.grm.now c.args.sgraph.now c.args.stable.now) (map (symbol_of index) c.deref-2.result.now)
    (ap (map (symbol_of index)) c.deref-2.ensures.value ∙ c.in_ok-symbols.ensures ∙ ap (λ xs. symbols_in (steps_of index xs)) c.deref.ensures.value) _
    c.push_all_moves.new.out.items c.new-moves.ensures.items c.in_ok-push_all_moves.ensures (omega (arith, len, value, more, fits))
