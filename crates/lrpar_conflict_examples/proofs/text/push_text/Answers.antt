use Rattle.std.proofs.Common.{◌++◌, ◌∙◌, ap}
use Rattle.std.specs.String.{string_bytes}
use Rattle.std.proofs.lemmas.Result.{on_ok_weaker}
use Rattle.lrpar_table_sentences.specs.Moves.{moves_in}
use Rattle.lrpar_conflict_derivations.specs.Texts.{token_numbers}
use Rattle.lrpar_conflict_examples.specs.Words.{line_text}
use Rattle.lrpar_conflict_examples.proofs.BeforeLemmas.{before_known, before_len, after_known, rest_is}
use Rattle.lrpar_conflict_examples.proofs.text.push_text.Goals as goal

pub rest_of-requires : goal.rest_of-requires
rest_of-requires g c =
    before_len g.StorageT.StorageIndex.index c.args.grm.now c.args.before.now c.deref.result.now (moves_in g.StorageT.StorageIndex.index c.args.moves.now) c.requires
    (ap (token_numbers g.StorageT.StorageIndex.index) c.deref.ensures.value ∙ c.in_ok-text.ensures)

pub push_line-requires-clause-before : goal.push_line-requires-clause-before
push_line-requires-clause-before g c =
    before_known c.args.grm.now c.start_prod-lemma.ensures.well_formed (token_numbers g.StorageT.StorageIndex.index c.args.before.now)
    (moves_in g.StorageT.StorageIndex.index c.args.moves.now) c.requires

pub push_line-requires-clause-rest : goal.push_line-requires-clause-rest
push_line-requires-clause-rest g c =
    after_known g.StorageT.StorageIndex.index c.args.grm.now c.start_prod-lemma.ensures.well_formed c.args.before.now c.deref.result.now c.rest_of.result.now
    (moves_in g.StorageT.StorageIndex.index c.args.moves.now) c.requires (ap (token_numbers g.StorageT.StorageIndex.index) c.deref.ensures.value ∙ c.in_ok-text.ensures) c.rest_of.ensures

pub returns : goal.returns
returns g c =
    let index = g.StorageT.StorageIndex.index in
    let before = token_numbers index c.args.before.now in
    on_ok_weaker c.push_line.result (λ e tree of_tree. e ∙ ap (λ rest. string_bytes c.args.out.now ++ line_text c.args.grm.now before rest)
    (rest_is index c.args.grm.now c.args.before.now c.deref.result.now c.rest_of.result.now (moves_in index c.args.moves.now) tree of_tree
    (ap (token_numbers index) c.deref.ensures.value ∙ c.in_ok-text.ensures) c.rest_of.ensures)) c.push_line.ensures
