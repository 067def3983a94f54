use Rattle.lrpar_grammar_reader.proofs.reader.checked_parts.Goals as goal

pub named_parts-requires : goal.named_parts-requires
named_parts-requires g c = record {
  numbering = c.in_ok-tables.ensures.numbering;
  epps = c.in_ok-tables.ensures.epps;
  once = record { one_start = c.in_ok-refuse_second_start.ensures.ok; one_epp_each = c.in_ok-tables.ensures.distinct };
  rules = c.requires.rules;
  order = c.requires.order;
}

pub returns : goal.returns
returns g c = record { parts = c.named_parts.ensures.parts; err = c.named_parts.ensures.err }
