use Rattle.std.proofs.Common.{◌∙◌}
use Rattle.lrpar_parse_cpctplus.proofs.search.Search.engine.Goals as goal

pub returns : goal.returns
returns g c = record {
  checked = c.new.ensures.checked ∙ c.data.ensures.data;
  lexemes = c.new.ensures.lexemes ∙ c.lexemes.ensures.lexemes;
  shifts = c.new.ensures.shifts ∙ c.shifts.ensures.shifts;
  tokens = c.shifts.ensures.stop.tokens;
}
