-- The searches for patterns, as they are stored.
use Rattle.std.specs.Prelude.{◌≡◌, List, Vec, map}
use Rattle.regex_meta.specs.declared.program.Program.{Program}
use Rattle.lrpar_lexer.specs.Rules.{anchored_of}
use Rattle.lrpar_lexer.specs.declared.matcher.Matcher.{Matcher}
use Rattle.lrpar_lexer.specs.declared.matcher.Matcher.TheVariants.{Text, Search}
use Rattle.lrpar_lexer.specs.declared.rule.LexRule.{LexRule}

-- the program of a search
abbrev pub program_of : Matcher → Program
program_of (Text plain) = plain.program.now
program_of (Search searcher) = searcher.program.now

-- the programs of the searches of a list
abbrev pub programs_in : {A : Type 0} → Vec Matcher A → List Program
programs_in matchers = map program_of matchers.items

-- the searches are those for the patterns of the rules
abbrev pub AreSearchesFor : {S A : Type 0} → List (LexRule S) → Vec Matcher A → Type 0
AreSearchesFor rules matchers = programs_in matchers ≡ map anchored_of rules
