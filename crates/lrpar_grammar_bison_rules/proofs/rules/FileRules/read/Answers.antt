use Rattle.std.proofs.Common.{rules}
use Rattle.lrpar_grammar_bison_rules.proofs.OrderLemmas.{text_defined, text_ordered}
use Rattle.lrpar_grammar_bison_rules.proofs.RulesLemmas.{order_fault, read_fault, text_rules}
use Rattle.lrpar_grammar_bison_rules.proofs.rules.FileRules.read.Goals as goal

pub returns-in_err-words-clause-fault : goal.returns-in_err-words-clause-fault
returns-in_err-words-clause-fault c = search (read_fault, rules)

pub returns-clause-fault : goal.returns-clause-fault
returns-clause-fault c = search (order_fault, rules)

pub returns-clause-rules : goal.returns-clause-rules
returns-clause-rules c = search (text_rules, rules)

pub returns-clause-defined : goal.returns-clause-defined
returns-clause-defined c = text_defined c.args.text.now _ (returns-clause-rules c)

pub returns-clause-order : goal.returns-clause-order
returns-clause-order c = text_ordered c.args.text.now _ (returns-clause-rules c)
