use Rattle.std.proofs.Common.{rules, tests, map}
use Rattle.std.proofs.lemmas.Iterator.{YieldsList-from_slice}
use Rattle.lrpar_parse_lexemes.specs.Repairs.{repair_of}
use Rattle.lrpar_parse_errors.specs.SequenceText.{RepairsFit}
use Rattle.lrpar_parse_errors.specs.StoredSequences.{FitRepairs}
use Rattle.lrpar_parse_errors.proofs.TestLemmas.{each_by_test, repairs_alike}
use Rattle.lrpar_parse_errors.proofs.error_text.sequences_fit.Goals as goal

pub returns : goal.returns
returns g c =
    let index = g.StorageT.StorageIndex.index in
    let parts = g.LexemeT.Lexeme.parts in
    let span = λ (x : g.row.LexemeT.Denot). (parts x).span in
    let input = c.args.input.now in
    each_by_test (RepairsFit span input) (λ sequence. map (repair_of index) sequence.items) (λ sequence. FitRepairs parts input sequence.items)
    (λ sequence. repairs_alike index parts input sequence.items) _ _ c.all.result c.all.ensures.ran
    (YieldsList-from_slice c.args.sequences.now cc) (λ x b q k. search (rules, tests))
