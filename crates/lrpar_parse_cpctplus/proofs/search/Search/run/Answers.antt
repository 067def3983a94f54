use Rattle.std.proofs.Common.{◌≡◌, ◌∙◌, ◌∷◌, [], ℕ, List, Some, ap, ap₂, arith, length, slice_get, subst, sym}
use Rattle.lrpar_table_shared_stacks.specs.SharedStacks.{stack_at}
use Rattle.lrpar_table_stacks.specs.Stack.{IsStack}
use Rattle.lrpar_parse_lexemes.specs.Views.{token_by}
use Rattle.lrpar_parse_cpctplus.specs.Configurations.{Configured, root_of}
use Rattle.lrpar_parse_cpctplus.specs.Graph.{PlainLink}
use Rattle.lrpar_parse_cpctplus.specs.GraphView.{IsHeld, configured_at, nodes_in, plain_links}
use Rattle.lrpar_parse_cpctplus.specs.SearchRound.{IsRound}
use Rattle.lrpar_parse_cpctplus.specs.declared.graph.Configuration.{Configuration}
use Rattle.lrpar_parse_cpctplus.specs.declared.link.Link.{Link}
use Rattle.lrpar_parse_cpctplus.proofs.DistanceLemmas.{configured}
use Rattle.lrpar_parse_cpctplus.proofs.HeldLemmas.{nodes_len}
use Rattle.lrpar_parse_cpctplus.proofs.KnownLemmas.{round_begins}
use Rattle.lrpar_parse_cpctplus.proofs.NumberLemmas.{single}
use Rattle.lrpar_parse_cpctplus.proofs.search.Search.run.Goals as goal

pub run_rounds-requires-clause-round : goal.run_rounds-requires-clause-round
run_rounds-requires-clause-round g c =
    let index = g.StorageT.StorageIndex.index in
    let token = token_by index g.LexemeT.Lexeme.parts in
    let costs = c.args.self.now.terms.now.costs in
    let at = c.args.self.now.point.now in
    let stacks = c.number.new.self in
    let graph = c.in_ok-graph.graph in
    let is = c.in_ok-graph.ensures in
    let numbered = c.in_ok-stack.ensures.number in
    let root : Configuration = record { stack = c.in_ok-stack.stack; place = c.place-place.result } in
    let there : stack_at stacks.stacks root.stack ≡ at.stack = numbered.means ∙ c.in_ok-stacks.ensures ∙ c.stack.ensures.stack in
    let held : IsHeld at.checked.table (length at.lexemes) stacks.stacks root = record {
      within = numbered.within;
      stack = subst (IsStack at.checked.table) (sym there) c.stack.ensures.stop.stack;
      place = omega (arith, c.place-place.ensures.place, c.place-place.ensures.stop.within);
    } in
    let here : configured_at stacks.stacks root ≡ root_of at = ap₂ configured there c.place-place.ensures.place in
    let nodes : nodes_in stacks.stacks graph.configurations.keys ≡ root_of at ∷ [] =
    ap (λ (l : List Configuration). nodes_in stacks.stacks l) is.configurations ∙ ap (λ (v : Configured). v ∷ []) here in
    let links : plain_links index graph.links.items ≡ [] = ap (λ (l : List (Link g.row.StorageT.Denot)). plain_links index l) is.links in
    let first = round_begins token costs at c.place-place.ensures.stop c.limit-lemma.ensures.costs in
    let second = subst (λ (ls : List PlainLink). IsRound token costs at (root_of at ∷ []) (0 ∷ []) ls) (sym links) first in
    let third = subst (λ (fs : List ℕ). IsRound token costs at (root_of at ∷ []) fs (plain_links index graph.links.items)) (sym is.firsts) second in
    record {
      held = λ i key at_i.
          let one = single root key i (subst (λ (l : List Configuration). slice_get l i ≡ Some key) is.configurations at_i) in
          subst (IsHeld at.checked.table (length at.lexemes) stacks.stacks) one.1 held;
      known = subst (λ (ns : List Configured). IsRound token costs at ns graph.firsts.items (plain_links index graph.links.items)) (sym nodes) third;
    }

pub returns-in-Some : goal.returns-in-Some
returns-in-Some g c =
    let stacks = c.run_rounds.new.stacks.stacks in
    let keys = c.run_rounds.new.graph.configurations.keys in
    record {
      nodes = nodes_in stacks keys;
      count = c.len.ensures.len ∙ sym (nodes_len stacks keys);
      found = rw c.into_links.ensures (rw c.in-Some.is at c.in_ok-endings.ensures);
    }
