use Rattle.std.proofs.Common.{◌≡◌, ◌∙◌, ◌++◌, List, ap, map, subst}
use Rattle.lrpar_grammar.specs.Grammar.{GrammarSymbol}
use Rattle.lrpar_grammar.specs.Symbols.{symbol_of}
use Rattle.lrpar_table_sentences.specs.Moves.{forest_moves, moves_in}
use Rattle.lrpar_table_sentences.specs.Texts.{AreTreesOf}
use Rattle.lrpar_table_sentences.specs.AccessStrings.{steps_of, symbols_in}
use Rattle.lrpar_conflict_derivations.proofs.FrontLemmas.{front_by}
use Rattle.lrpar_conflict_derivations.proofs.validation.path_moves.Goals as goal

pub returns : goal.returns
returns g c =
    let index = g.StorageT.StorageIndex.index in
    let context = c.args.context.now in
    let grm = context.grm.now in
    let steps = steps_of index c.args.steps.now in
    let pushed = c.in_ok-push_sentences.ensures c.if-not-branch.false in
    let symbols : map (symbol_of index) c.deref.result.now ≡ symbols_in steps = ap (map (symbol_of index)) c.deref.ensures.value ∙ c.in_ok-symbols.ensures in
    let items = c.push_sentences.new.out.items in
    let moves : moves_in index items ≡ forest_moves pushed.0 = pushed.2 ∙ ap (λ xs. moves_in index xs ++ forest_moves pushed.0) c.new-moves.ensures.items in
    let fit = subst (λ (w : List GrammarSymbol). AreTreesOf grm w pushed.0) symbols pushed.1 in
    front_by grm context.graph.now context.table.now c.start_prod-lemma.ensures.well_formed c.requires.built c.states_len-lemma.ensures.closed (index c.args.state.0) steps
    (c.lead.ensures c.if-not-lead.false) pushed.0 fit (moves_in index items) moves
