-- The search of the program round by round: what is known at the head of a round stays known while its steps are tried, and the level that
-- is added to it grows by them, and then by Shifts, up to the next round or past the limit.
use Rattle.std.proofs.Common.{◌≡◌, ◌<◌, ◌-◌, ◌∙◌, ◌++◌, ◌∷◌, [], ℕ, List, Vec, ap, arith, length, subst, sym}
use Rattle.std.proofs.lemmas.List.{length-map, length_push}
use Rattle.lrpar_table_shared_stacks.specs.SharedStacks.{Extends, Shared}
use Rattle.lrpar_parse_lexemes.specs.Lexemes.{LexemeParts}
use Rattle.lrpar_parse_lexemes.specs.Views.{token_by}
use Rattle.lrpar_parse_repair.specs.Asked.{Asked}
use Rattle.lrpar_parse_repair.specs.Sequences.{PlainStep}
use Rattle.lrpar_parse_cpctplus.specs.Configurations.{Configured}
use Rattle.lrpar_parse_cpctplus.specs.Costs.{AreCosts}
use Rattle.lrpar_parse_cpctplus.specs.Graph.{PlainLink}
use Rattle.lrpar_parse_cpctplus.specs.GraphView.{BeginsLevel, nodes_in, plain_links}
use Rattle.lrpar_parse_cpctplus.specs.LinkView.{plain_ending}
use Rattle.lrpar_parse_cpctplus.specs.RoundView.{AreAttemptsBy, AreDueBy, AreHeldBy, ExceedsBy, GrowsBy, HasNoShifts, IsGrowingBy, IsNextLeast, IsNextRound, IsRoundBy, IsWithinLimit, nodes_of, plain_attempts, plain_endings}
use Rattle.lrpar_parse_cpctplus.specs.SearchRound.{PlainAttempt, Grows, IsAmong, IsRound, IsShiftWithin}
use Rattle.lrpar_parse_cpctplus.specs.declared.graph.Graph.{Graph}
use Rattle.lrpar_parse_cpctplus.specs.declared.link.Ending.{Ending}
use Rattle.lrpar_parse_cpctplus.specs.declared.search.Attempt.{Attempt}
use Rattle.lrpar_parse_cpctplus.specs.declared.search.Search.{Search}
use Rattle.lrpar_parse_cpctplus.proofs.GrowLemmas.{past_limit}
use Rattle.lrpar_parse_cpctplus.proofs.HeldLemmas.{all_held_stay, nodes_len, nodes_stay}
use Rattle.lrpar_parse_cpctplus.proofs.LevelStepLemmas.{due_begins, growing_begins, next_round, next_stays, no_shifts_yet}
use Rattle.lrpar_parse_cpctplus.proofs.SharedLemmas.{level_cost}

-- as many last steps as the list has
pub endings_len : {S A : Type 0} (index : S → ℕ) (endings : Vec (Ending S) A) → endings.len ≡ length (plain_endings index endings.items)
endings_len index endings = omega (arith, endings.ok, length-map endings.items (plain_ending index))

module _ {S X : Type 0} (index : S → ℕ) (parts : X → LexemeParts S) (search : Search S X) where
  -- what is known at the head of a round, after stacks were added
  pub round_stays : (old mid late : Shared) (graph : Graph S) → IsRoundBy index parts search old graph → mid.stacks ≡ old.stacks → Extends mid late
      → IsRoundBy index parts search late graph × (nodes_of late graph ≡ nodes_of old graph)
  round_stays old mid late graph round same extends =
      let at = search.point.now in
      let keys = graph.configurations.keys in
      let held : AreHeldBy search mid graph = rw same round.held in
      let there : nodes_of late graph ≡ nodes_of old graph =
      nodes_stay at.checked.table (length at.lexemes) mid late extends keys held ∙ ap (λ (s : List (List ℕ)). nodes_in s keys) same in (
        record {
          held = all_held_stay at.checked.table (length at.lexemes) mid late extends keys held;
          known = subst (λ (ns : List Configured). IsRound (token_by index parts) search.terms.now.costs at ns graph.firsts.items (plain_links index graph.links.items))
              (sym there) round.known;
        },
        there,
      )

  -- a level that has grown goes on growing, within the limit
  pub still_growing : {first : ℕ} {Done : ℕ → PlainStep → Type 0} {stacks : Shared} {graph : Graph S} {new_stacks : Shared} {new_graph : Graph S}
      → IsGrowingBy index parts search stacks graph first → GrowsBy index parts search first Done stacks graph new_stacks new_graph
      → IsWithinLimit search new_graph → IsGrowingBy index parts search new_stacks new_graph first
  still_growing growing grows within = record {
    held = grows.held;
    known = rw grows.firsts grows.grown.growing;
    within = within;
    least = rw grows.firsts growing.least;
  }

  -- or it exceeds the limit after one step more
  pub exceeds : (first : ℕ) {Done Next : ℕ → PlainStep → Type 0} (stacks : Shared) (graph : Graph S) (mid_stacks : Shared) (mid : Graph S) (new_stacks : Shared)
      (new_graph : Graph S) → IsGrowingBy index parts search stacks graph first → GrowsBy index parts search first Done stacks graph mid_stacks mid
      → GrowsBy index parts search first Next mid_stacks mid new_stacks new_graph → search.limit < length new_graph.configurations.keys
      → ExceedsBy index parts search new_stacks new_graph × (new_graph.firsts ≡ graph.firsts)
  exceeds first stacks graph mid_stacks mid new_stacks new_graph growing grows step more =
      let own = rw grows.firsts at step.grown in (
        record {
          held = step.held;
          past = past_limit (token_by index parts) search.terms.now.costs search.point.now first (length graph.firsts.items - 1) search.limit
              (nodes_of new_stacks new_graph) (plain_links index new_graph.links.items) own.growing growing.least
              (omega (arith, more, nodes_len new_stacks.stacks new_graph.configurations.keys));
        },
        step.firsts ∙ grows.firsts,
      )

  -- a level begins after a round in which no repair was found
  module _ (stacks : Shared) (graph begun : Graph S) (first : ℕ) (attempts : List (Attempt S)) (round : IsRoundBy index parts search stacks graph)
      (are : AreAttemptsBy index parts search stacks graph attempts) (least : IsNextLeast index parts search (length graph.firsts.items))
      (firsts : BeginsLevel graph begun) (configurations : begun.configurations ≡ graph.configurations) (links : begun.links ≡ graph.links)
      (is_first : first ≡ length graph.configurations.keys) where
    abbrev costs : List ℕ
    costs = search.terms.now.costs

    abbrev at : Asked X
    at = search.point.now

    abbrev nodes : List Configured
    nodes = nodes_of stacks graph

    abbrev old_links : List PlainLink
    old_links = plain_links index graph.links.items

    abbrev tried : List PlainAttempt
    tried = plain_attempts index attempts

    count : length nodes ≡ length graph.configurations.keys
    count = nodes_len stacks.stacks graph.configurations.keys

    number : first ≡ length nodes
    number = is_first ∙ sym count

    cost : length begun.firsts.items - 1 ≡ length graph.firsts.items
    cost = ap (λ (fs : List ℕ). length fs - 1) firsts ∙ level_cost graph.firsts.items (length graph.configurations.keys)

    pub level_begins : IsWithinLimit search graph → IsGrowingBy index parts search stacks begun first
    level_begins within = record {
      held = rw configurations round.held;
      known = rw (number, cost, configurations, links) (growing_begins (token_by index parts) costs at nodes graph.firsts.items old_links round.known);
      within = rw configurations within;
      least = rw cost least;
    }

    -- its steps are due
    pub dues_begin : AreDueBy index parts search stacks begun first attempts
    dues_begin = record {
      each = λ x h. rw (number, cost, configurations, links) (due_begins (token_by index parts) costs at nodes graph.firsts.items old_links round.known tried are x h);
      once = are.once;
    }

    -- and after them Shifts, up to the next round
    module _ (mid_stacks : Shared) (mid : Graph S) (grows : GrowsBy index parts search first (IsAmong tried) stacks begun mid_stacks mid) where
      moved : Grows (token_by index parts) costs at (length nodes) (length graph.firsts.items) (IsAmong tried) nodes old_links (nodes_of mid_stacks mid)
          (plain_links index mid.links.items)
      moved = rw (number, cost, configurations, links) at grows.grown

      pub none_yet : HasNoShifts index first mid
      none_yet link h shift =
          rw number (no_shifts_yet (token_by index parts) costs at nodes graph.firsts.items old_links round.known tried are (nodes_of mid_stacks mid)
          (plain_links index mid.links.items) moved link h shift)

      pub round_begins_next : AreCosts costs → (new_stacks : Shared) (new_graph : Graph S)
          → GrowsBy index parts search first (IsShiftWithin first (length new_graph.configurations.keys)) mid_stacks mid new_stacks new_graph
          → IsWithinLimit search new_graph → IsNextRound index parts search stacks graph new_stacks new_graph
      round_begins_next each new_stacks new_graph shifts within =
          let end = nodes_of new_stacks new_graph in
          let end_links = plain_links index new_graph.links.items in
          let mid_cost : length mid.firsts.items - 1 ≡ length graph.firsts.items = rw grows.firsts cost in
          let by = rw (number, mid_cost) at shifts.grown in
          let shifted = subst (λ (n : ℕ). Grows (token_by index parts) costs at (length nodes) (length graph.firsts.items) (IsShiftWithin (length nodes) n)
          (nodes_of mid_stacks mid) (plain_links index mid.links.items) end end_links) (sym (nodes_len new_stacks.stacks new_graph.configurations.keys)) by in
          let later : new_graph.firsts.items ≡ graph.firsts.items ++ length graph.configurations.keys ∷ [] = rw (shifts.firsts, grows.firsts) firsts in
          let same : graph.firsts.items ++ length nodes ∷ [] ≡ new_graph.firsts.items = ap (λ (n : ℕ). graph.firsts.items ++ n ∷ []) count ∙ sym later in
          let next = next_round (token_by index parts) costs at nodes graph.firsts.items old_links round.known tried are (nodes_of mid_stacks mid)
          (plain_links index mid.links.items) moved each least end end_links shifted in
          record {
            round = record { held = shifts.held; known = subst (λ (fs : List ℕ). IsRound (token_by index parts) costs at end fs end_links) same next };
            next = ap (λ (fs : List ℕ). length fs) later ∙ length_push graph.firsts.items (length graph.configurations.keys);
            within = within;
            stay = next_stays (token_by index parts) costs at nodes graph.firsts.items old_links round.known tried are (nodes_of mid_stacks mid)
                (plain_links index mid.links.items) moved each least end end_links shifted;
          }
