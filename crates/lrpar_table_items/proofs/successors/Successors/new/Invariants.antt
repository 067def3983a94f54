use Rattle.std.proofs.Common.{◌≡◌, length, map, take}
use Rattle.lrpar_grammar.specs.Grammar.{Nonterminal, Terminal, rules_len, tokens_len}
use Rattle.lrpar_table_items.specs.Cores.{core_set}
use Rattle.lrpar_table_items.specs.Next.{kernel_rows, AreNext}
use Rattle.lrpar_table_items.proofs.successors.Successors.new.Given as goal

-- each kernel has the cores so far with its symbol after the dot, advanced
abbrev pub invariant-loop-core : goal.invariant-loop-core
invariant-loop-core g l =
    let index = g.StorageT.StorageIndex.index in
    let cores = map (core_set index) (take l.core-index l.core-items) in record {
      rules_len : length l.rules.items ≡ rules_len l.grm;
      tokens_len : length l.tokens.items ≡ tokens_len l.grm;
      rules : AreNext l.grm cores Nonterminal (kernel_rows index l.rules.items);
      tokens : AreNext l.grm cores Terminal (kernel_rows index l.tokens.items);
    }
