use Rattle.lrpar_parse.proofs.FoldLemmas.{parse_weaker}
use Rattle.lrpar_parse_flat_trees.proofs.BuiltLemmas.{built_is}
use Rattle.lrpar_parse.proofs.parser.RTParserBuilder.parse_tree.Goals as goal

pub returns : goal.returns
returns g c = record { parse = parse_weaker _ _ _ _ c.parse_to_entry.result (λ t e of. built_is _ _ t e of.represents) c.parse_to_entry.ensures.parse }
