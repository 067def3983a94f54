use Rattle.std.proofs.Common.{rules, tests}
use Rattle.std.proofs.lemmas.Iterator.{YieldsList-from_slice}
use Rattle.std.proofs.lemmas.Iterator.Search.{all_from_yields_List}
use Rattle.lrpar_lexer_lrlex.specs.States.{is_in_name}
use Rattle.lrpar_lexer_lrlex.proofs.states.are_in_name.Goals as goal

pub returns : goal.returns
returns c =
    all_from_yields_List is_in_name _ _ c.all.result c.all.ensures.ran (YieldsList-from_slice c.args.bytes.now cc) (λ x b q k. search (rules, tests))
