-- From what a search finds to what is answered.
use Rattle.std.proofs.Common.{◌≡◌, ℕ, List, [], get_or, length, map, subst, sym, arith}
use Rattle.std.proofs.lemmas.List.Elements.{All-contains_itself}
use Rattle.std.proofs.lemmas.Option.{slice_get_within}
use Rattle.lrpar_parse_lexemes.specs.Lexemes.{LexemeParts}
use Rattle.lrpar_parse_lexemes.specs.Views.{token_by}
use Rattle.lrpar_parse_repair.specs.Asked.{Asked, IsStop}
use Rattle.lrpar_parse_repair.specs.Sequences.{PlainStep}
use Rattle.lrpar_parse_cpctplus.specs.Configurations.{Configured}
use Rattle.lrpar_parse_cpctplus.specs.Costs.{AreCosts}
use Rattle.lrpar_parse_cpctplus.specs.GraphView.{plain_links}
use Rattle.lrpar_parse_cpctplus.specs.LinkView.{AreNumbered, plain_ending, plain_link}
use Rattle.lrpar_parse_cpctplus.specs.Listing.{AreListed, Settings}
use Rattle.lrpar_parse_cpctplus.specs.RoundView.{IsFoundWith, plain_endings}
use Rattle.lrpar_parse_cpctplus.specs.SearchRound.{IsFoundBy, IsNothingFound}
use Rattle.lrpar_parse_cpctplus.specs.declared.link.Linked.{Linked}
use Rattle.lrpar_parse_cpctplus.specs.declared.search.Search.{Search}
use Rattle.lrpar_parse_cpctplus.proofs.FirstLemmas.{image_in}
use Rattle.lrpar_parse_cpctplus.proofs.FoundAtLemmas.{graph_listed, none_found_listed}
use Rattle.lrpar_parse_cpctplus.proofs.GroupLemmas.{AreRankedIn, PlainGraph}
use Rattle.lrpar_parse_cpctplus.proofs.MemberLemmas.{contained, is_in}

-- what a search finds
abbrev pub plain_graph : {S : Type 0} → (S → ℕ) → Linked S → PlainGraph
plain_graph index linked = record {
  len = linked.len;
  links = map (plain_link index) linked.links.items;
  endings = map (plain_ending index) linked.endings.items;
}

module _ {X : Type 0} (token : X → ℕ) (settings : Settings) (at : Asked X) where
  -- the links and the last steps are between the configurations
  found_numbered : {S : Type 0} (index : S → ℕ) (linked : Linked S) (nodes : List Configured) → linked.len ≡ length nodes
      → IsFoundBy token settings.costs at settings.limit nodes (plain_graph index linked).links (plain_graph index linked).endings → AreNumbered linked
  found_numbered index linked nodes len found = record {
    links = λ i d within.
        let link = get_or linked.links.items i d in
        let here = is_in link linked.links.items (All-contains_itself linked.links.items i d within) in
        let there = contained (plain_link index link) (map (plain_link index) linked.links.items) (image_in (plain_link index) linked.links.items link here) in
        let among = (found.graph.exact (plain_link index link)).0 there in
        (omega (arith, len, slice_get_within nodes link.from among.0 among.2), omega (arith, len, slice_get_within nodes link.to among.1 among.3));
    endings = λ i d within.
        let ending = get_or linked.endings.items i d in
        let here = is_in ending linked.endings.items (All-contains_itself linked.endings.items i d within) in
        let there = contained (plain_ending index ending) (map (plain_ending index) linked.endings.items) (image_in (plain_ending index) linked.endings.items ending here) in
        let among = (found.lasts.exact (plain_ending index ending)).0 there in
        omega (arith, len, slice_get_within nodes ending.from among.0 among.2);
  }

  -- what is found is listed
  found_listed : (nodes : List Configured) (graph : PlainGraph) (repairs : List (List PlainStep)) → IsStop token at → AreCosts settings.costs
      → graph.len ≡ length nodes → IsFoundBy token settings.costs at settings.limit nodes graph.links graph.endings
      → AreRankedIn settings graph repairs → AreListed token settings at repairs
  found_listed nodes graph repairs stop each len found ranked =
      graph_listed token settings at found.cost nodes graph repairs
      (record {
        stop = stop;
        costs_of_tokens = each;
        least = found.least;
        len = sym len;
        links = found.graph;
        endings = found.lasts;
        measured = found.measured;
      }) (omega (arith, len, found.within)) ranked

  -- nothing is listed, as nothing is found
  pub nothing_listed : IsNothingFound token settings.costs at settings.limit → AreListed token settings at []
  nothing_listed none = none_found_listed token settings at (λ c found. none c found.least found.within)

-- what is found, for the settings and the error point: the links and the last steps from which repairs are listed
module _ {S X : Type 0} (index : S → ℕ) (parts : X → LexemeParts S) (search : Search S X) (settings : Settings) (at : Asked X) (limit : ℕ) (linked : Linked S)
    (by : search.terms.now ≡ settings) (point : search.point.now ≡ at) (keeps : search.limit ≡ limit) (is : IsFoundWith index parts search linked) where
  found_for : IsFoundBy (token_by index parts) settings.costs at limit is.nodes (plain_graph index linked).links (plain_graph index linked).endings
  found_for =
      let token = token_by index parts in
      let ls = plain_links index linked.links.items in
      let es = plain_endings index linked.endings.items in
      let first = subst (λ (a : Asked X). IsFoundBy token search.terms.now.costs a search.limit is.nodes ls es) point is.found in
      let second = subst (λ (s : Settings). IsFoundBy token s.costs at search.limit is.nodes ls es) by first in
      subst (λ (n : ℕ). IsFoundBy token settings.costs at n is.nodes ls es) keeps second

  pub linked_numbered : AreNumbered linked
  linked_numbered = found_numbered (token_by index parts) (record settings { limit = limit }) at index linked is.nodes is.count found_for

  pub linked_listed : (repairs : List (List PlainStep)) → IsStop (token_by index parts) at → AreCosts settings.costs
      → AreRankedIn settings (plain_graph index linked) repairs → AreListed (token_by index parts) (record settings { limit = limit }) at repairs
  linked_listed repairs stop each ranked =
      found_listed (token_by index parts) (record settings { limit = limit }) at is.nodes (plain_graph index linked) repairs stop each is.count found_for ranked
