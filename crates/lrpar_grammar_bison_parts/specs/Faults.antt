-- Faults of `.y` files, by those of their parts.
use Rattle.lrpar_grammar_bison_rules.specs.declared.rules.RulesFault.{RulesFault}
use Rattle.lrpar_grammar_bison_rules.specs.declared.rules.RulesFault.TheVariants.{Memory as RulesMemory}
use Rattle.lrpar_grammar_reader.specs.declared.parts.GrammarFault.{GrammarFault}
use Rattle.lrpar_grammar_reader.specs.declared.parts.GrammarFault.TheVariants.{Memory as GrammarMemory}
use Rattle.lrpar_grammar_bison_parts.specs.declared.faults.BisonFault.{BisonFault}
use Rattle.lrpar_grammar_bison_parts.specs.declared.faults.BisonFault.TheVariants.{Grammar, Memory, Rules}

-- a fault of reading declarations and rules
abbrev pub of_rules : RulesFault → BisonFault
of_rules RulesMemory = Memory
of_rules fault = Rules fault

-- a fault of the declarations and rules
abbrev pub of_grammar : GrammarFault → BisonFault
of_grammar GrammarMemory = Memory
of_grammar fault = Grammar fault
