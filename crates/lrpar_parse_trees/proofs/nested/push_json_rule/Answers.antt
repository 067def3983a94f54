use Rattle.std.proofs.Common.{string_bytes, codes}
use Rattle.lrpar_parse_trees.specs.Escapes.{escaped}
use Rattle.lrpar_parse_trees.proofs.NestedLemmas.{added_thrice}
use Rattle.lrpar_parse_trees.proofs.nested.push_json_rule.Goals as goal

pub returns : goal.returns
returns c =
    added_thrice (string_bytes c.args.out.now) (codes "{\"rule\":\"") (escaped c.args.name.now) (codes "\",\"children\":[") _ _ _
    c.in_ok-push_str.ensures.bytes c.in_ok-push_escaped.ensures c.in_ok-push_str-2.ensures.bytes
