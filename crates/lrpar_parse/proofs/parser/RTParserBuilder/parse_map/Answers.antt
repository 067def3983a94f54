use Rattle.lrpar_parse.proofs.FoldLemmas.{has_value_entry, made_fold, parse_mapped}
use Rattle.lrpar_parse.proofs.ParseLemmas.{refusal_as}
use Rattle.lrpar_parse.proofs.parser.RTParserBuilder.parse_map.Goals as goal

pub value_of-requires : goal.value_of-requires
value_of-requires g c =
    has_value_entry _ _ _ _ (λ e suits. suits) (rw c.in-Ok.is at c.parse_to_entry.ensures.parse)

pub returns-in-Ok : goal.returns-in-Ok
returns-in-Ok g c = record {
  parse = parse_mapped _ _ _ _ _ c.in-Ok.entry c.value_of.result c.in-Ok.errors c.value_of.ensures
      (λ t v of. made_fold _ _ _ _ t v of.represents) (rw c.in-Ok.is at c.parse_to_entry.ensures.parse);
}

pub returns : goal.returns
returns g c = record { parse = refusal_as _ _ _ _ _ _ c.in-Err.fault (rw c.in-Err.is at c.parse_to_entry.ensures.parse) }
