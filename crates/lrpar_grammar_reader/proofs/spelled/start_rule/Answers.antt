use Rattle.std.proofs.Common.{refl}
use Rattle.lrpar_grammar_reader.proofs.FaultsLemmas.{known_start}
use Rattle.lrpar_grammar_reader.proofs.spelled.start_rule.Goals as goal

pub rule_idx-requires-clause-known : goal.rule_idx-requires-clause-known
rule_idx-requires-clause-known g c =
    known_start c.args.starts.now c.args.starts.now c.args.tables.now.rules c.in-Some.word.now refl c.in-Some.ensures.value c.requires.known
