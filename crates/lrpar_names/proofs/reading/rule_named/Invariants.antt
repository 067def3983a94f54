use Rattle.std.proofs.Common.{◌≡◌, ◌-◌}
use Rattle.std.specs.List.{find, range_with_len}
use Rattle.std.specs.Str.{bytes_eq}
use Rattle.lrpar_grammar.specs.Grammar.{rule_name, rules_len}
use Rattle.lrpar_names.specs.Messages.{rule_named}
use Rattle.lrpar_names.proofs.reading.rule_named.Given as goal

-- the first such rule is among those that are left
abbrev pub invariant-rules : goal.invariant-rules
invariant-rules g l =
    find (λ r. bytes_eq (rule_name l.grm r) l.name) (range_with_len l.number (rules_len l.grm - l.number)) ≡ rule_named l.grm l.name
