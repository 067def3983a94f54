use Rattle.std.proofs.Common.{sym, arith}
use Rattle.lrpar_grammar_reader.proofs.NamesLemmas.{number_within}
use Rattle.lrpar_grammar_reader.proofs.spelled.token_idx.Goals as goal

pub unwrap-requires : goal.unwrap-requires
unwrap-requires g c = c.from_index.ensures.within.1 (omega (arith, number_within c.args.tokens.now c.args.name.now c.in-Some.number (sym c.in-Some.ensures)))
