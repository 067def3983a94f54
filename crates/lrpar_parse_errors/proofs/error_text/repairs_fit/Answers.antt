use Rattle.std.proofs.Common.{rules, tests}
use Rattle.std.proofs.lemmas.Iterator.{YieldsList-from_slice}
use Rattle.lrpar_parse_errors.specs.StoredSequences.{FitsRepair}
use Rattle.lrpar_parse_errors.proofs.TestLemmas.{all_in_turn}
use Rattle.lrpar_parse_errors.proofs.error_text.repairs_fit.Goals as goal

pub returns : goal.returns
returns g c =
    all_in_turn (FitsRepair g.LexemeT.Lexeme.parts c.args.input.now) _ _ c.all.result c.all.ensures.ran
    (YieldsList-from_slice c.args.repairs.now cc) (λ x b q k. search (rules, tests))
