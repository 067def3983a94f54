use Rattle.std.proofs.Common.{refl}
use Rattle.lrpar_parse.proofs.ParseLemmas.{parse_as, refusal_as}
use Rattle.lrpar_parse.proofs.parser.RTParserBuilder.parse_noaction.Goals as goal

pub returns-in-Ok : goal.returns-in-Ok
returns-in-Ok g c = record { parse = parse_as _ _ _ _ _ _ _ _ refl (λ consumed prods has. tt) (rw c.in-Ok.is at c.parse_to_entry.ensures.parse) }

pub returns-in-Err : goal.returns-in-Err
returns-in-Err g c = record { parse = refusal_as _ _ _ _ _ _ c.in-Err.fault (rw c.in-Err.is at c.parse_to_entry.ensures.parse) }
