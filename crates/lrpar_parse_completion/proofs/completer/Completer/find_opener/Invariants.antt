use Rattle.std.proofs.Common.{◌≤◌, length, take}
use Rattle.std.specs.List.{Contains}
use Rattle.lrpar_grammar.specs.Grammar.{rule_of}
use Rattle.lrpar_table_stacks.specs.Expected.{tokens_of}
use Rattle.lrpar_parse_completion.specs.Opening.{MustOpen}
use Rattle.lrpar_parse_completion.specs.Waiting.{links_of, rules_in}
use Rattle.lrpar_parse_completion.proofs.OpenLemmas.{Climbs}
use Rattle.lrpar_parse_completion.proofs.completer.Completer.find_opener.Given as goal

-- the way leads from the production's rule to the wanted one, which is in the rest of the list
abbrev pub invariant-links : goal.invariant-links
invariant-links g l =
    let index = g.StorageT.StorageIndex.index in
    let d = l.self.data.now in
    let links = links_of index l.links.items in
    record {
      within : l.place ≤ length links;
      climbs : Climbs d.grammar d.graph d.table (rule_of d.grammar (index l.fn.prod.0)) (index l.wanted.0)
          (tokens_of index l.fn.tokens.items) (tokens_of index l.tokens.items);
      listed : MustOpen d (index l.fn.state.0) (index l.fn.prod.0) → Contains (rules_in (take l.place links)) (index l.wanted.0);
    }

abbrev pub decreases-links : goal.decreases-links
decreases-links g l = l.place
