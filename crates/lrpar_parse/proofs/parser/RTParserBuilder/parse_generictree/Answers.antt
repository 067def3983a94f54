use Rattle.lrpar_parse.proofs.FoldLemmas.{parse_weaker, tree_fold}
use Rattle.lrpar_parse.proofs.parser.RTParserBuilder.parse_generictree.Goals as goal

pub returns : goal.returns
returns g c = record { parse = parse_weaker _ _ _ _ c.parse_to_entry.result (λ t n of. tree_fold _ _ _ t n of.represents) c.parse_to_entry.ensures.parse }
