use Rattle.std.proofs.Common.{◌<◌, ◌≤◌, length}
use Rattle.lrpar_grammar.specs.Grammar.{prod_len, prods_len}
use Rattle.lrpar_table_stacks.specs.Expected.{tokens_of}
use Rattle.lrpar_table_stacks.specs.Stack.{IsStack, states_of}
use Rattle.lrpar_parse_completion.specs.Opening.{CanComplete}
use Rattle.lrpar_parse_completion.proofs.OpenLemmas.{Completing}
use Rattle.lrpar_parse_completion.proofs.completer.Completer.push_completion.Given as goal

-- the state in the place has the core, and what comes after its production completes the stack
abbrev pub invariant-items : goal.invariant-items
invariant-items g l =
    let index = g.StorageT.StorageIndex.index in
    let d = l.self.data.now in
    let st = states_of index l.stack in
    record {
      within : l.place < length st;
      known : index l.prod.0 < prods_len d.grammar;
      dot : l.dot ≤ prod_len d.grammar (index l.prod.0);
      completing : CanComplete d → IsStack d.table st → Completing d st l.place (index l.prod.0) l.dot (tokens_of index l.tokens.items);
    }

abbrev pub decreases-items : goal.decreases-items
decreases-items g l = l.place
