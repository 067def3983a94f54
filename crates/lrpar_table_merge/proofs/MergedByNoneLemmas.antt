-- Precedences that decide nothing: a merged table by them is one without precedences, and the other way round.
use Rattle.std.proofs.Common.{◌≡◌, ◌∙◌, refl, sym, ap, subst, inl, inr, ℕ, List, [], Option}
use Rattle.lrpar_grammar.specs.Grammar.{Grammar, GrammarSymbol}
use Rattle.lrpar_table_precedence.specs.Precedence.{PrecedenceLists, no_precedences, resolution_of}
use Rattle.lrpar_table_precedence.specs.declared.precedence.Resolution.{Resolution}
use Rattle.lrpar_table_rows.specs.Graph.{Graph}
use Rattle.lrpar_table_rows.specs.Table.{ConflictLists, ResolvedOf, ShiftTo, Table}
use Rattle.lrpar_table_items.specs.Canonical.{sets_of}
use Rattle.lrpar_table_items.specs.Resolution.{chosen}
use Rattle.lrpar_table_build.specs.Built.{AreResolvedInOrder, shift_reduce_cmp}
use Rattle.lrpar_table_build.specs.BuilderLaws.{AreConflictsBy, AreConflictsOf, AreResolvedBy}
use Rattle.lrpar_table_build.proofs.DecidedLemmas.{first_decided}
use Rattle.lrpar_table_build.proofs.MemberLemmas.{member_none, sorted_none}
use Rattle.lrpar_table_merge.specs.Merged.{ActsAsMerged, Along, IsMergedTable, IsTableOfMerged}
use Rattle.lrpar_table_merge.specs.MergedBy.{ActsAsMergedBy, IsMergedTableBy}
use Rattle.lrpar_table_merge.specs.MergedByLaws.{DecideNothing, MergedByNoneIsMerged}
use Rattle.lrpar_table_merge.proofs.ListLemmas.{empty_list}

-- no precedences decide nothing
pub none_decide : DecideNothing no_precedences
none_decide p t = refl

-- a table whose actions are of one kind is a table with those of another kind, if an action of the one kind is one of the other
table_acting : (g : Grammar) (graph : Graph) (table : Table) (goes : ℕ → GrammarSymbol → ℕ → Type 0) (Acts Others : ℕ → ℕ → Type 0)
    → ((s t : ℕ) → Acts s t → Others s t) → IsTableOfMerged Acts g graph table goes → IsTableOfMerged Others g graph table goes
table_acting g graph table goes Acts Others on is = record {
  states = is.states;
  start = is.start;
  tokens = is.tokens;
  rules = is.rules;
  acts = λ s t within below. on s t (is.acts s t within below);
  gotos = is.gotos;
  no_state = is.no_state;
  no_token = is.no_token;
  no_rule = is.no_rule;
}

module _ (g : Grammar) (lists : PrecedenceLists) (nothing : DecideNothing lists) (graph : Graph) where
  -- a shift that meets a reduction wins
  shift_wins : (p t next : ℕ) → chosen (resolution_of lists p t) next p ≡ ShiftTo next
  shift_wins p t next = ap (λ (o : Option Resolution). chosen o next p) (nothing p t)

  module _ (table : Table) (goes : ℕ → GrammarSymbol → ℕ → Type 0) where
    acts_with : (s t : ℕ) → ActsAsMerged g (sets_of graph) goes table s t → ActsAsMergedBy g lists (sets_of graph) goes table s t
    acts_with s t acts = record {
      meets = λ before p first. let shift = acts.shifts before in (shift.0, shift.1 ∙ sym (shift_wins p t shift.0), shift.2);
      shifts = λ before none. acts.shifts before;
      reduces = acts.reduces;
      accepts = acts.accepts;
      fails = acts.fails;
    }

    acts_without : (s t : ℕ) → ActsAsMergedBy g lists (sets_of graph) goes table s t → ActsAsMerged g (sets_of graph) goes table s t
    acts_without s t acts = record {
      shifts = λ before.
          elim (first_decided g graph s t) [
            | inl first ↦ let met = acts.meets before first.0 first.1 in (met.0, met.1 ∙ shift_wins first.0 t met.0, met.2)
            | inr no_reduction ↦ acts.shifts before no_reduction
          ];
      reduces = acts.reduces;
      accepts = acts.accepts;
      fails = acts.fails;
    }

    pub table_with : IsMergedTable g graph table goes → IsMergedTableBy g lists graph table goes
    table_with is =
        table_acting g graph table goes (ActsAsMerged g (sets_of graph) goes table) (ActsAsMergedBy g lists (sets_of graph) goes table) acts_with is

    table_without : IsMergedTableBy g lists graph table goes → IsMergedTable g graph table goes
    table_without is =
        table_acting g graph table goes (ActsAsMergedBy g lists (sets_of graph) goes table) (ActsAsMerged g (sets_of graph) goes table) acts_without is

  -- all conflicts are listed
  pub conflicts_with : (conflicts : Option ConflictLists) → AreConflictsOf g graph conflicts → AreConflictsBy g lists graph conflicts
  conflicts_with conflicts are = record {
    reduce_reduce = are.reduce_reduce;
    shift_reduce = λ x. (
      λ there. let found = (are.shift_reduce x).0 there in (found.0, found.1, (found.2, nothing x.prod x.token)),
      λ found. (are.shift_reduce x).1 (found.0, found.1, found.2.0),
    );
    some = are.some;
  }

  conflicts_without : (conflicts : Option ConflictLists) → AreConflictsBy g lists graph conflicts → AreConflictsOf g graph conflicts
  conflicts_without conflicts are = record {
    reduce_reduce = are.reduce_reduce;
    shift_reduce = λ x. (
      λ there. let found = (are.shift_reduce x).0 there in (found.0, found.1, found.2.0),
      λ found. (are.shift_reduce x).1 (found.0, found.1, (found.2, nothing x.prod x.token)),
    );
    some = are.some;
  }

  -- and none is resolved
  nothing_resolved : (resolved : List ResolvedOf) → AreResolvedBy g lists graph resolved → resolved ≡ []
  nothing_resolved resolved are =
      empty_list resolved (λ x there.
      let decided = ((are x).0 there).2.1 in
      let undecided = nothing x.conflict.prod x.conflict.token in absurd (cc))

  none_are_resolved : AreResolvedBy g lists graph []
  none_are_resolved x = (
    λ there. absurd (member_none x there),
    λ found. let decided = found.2.1 in let undecided = nothing x.conflict.prod x.conflict.token in absurd (cc),
  )

pub merged_by_none_is_merged : MergedByNoneIsMerged
merged_by_none_is_merged g lists graph table nothing = (
  λ by. (
    record {
      steps = by.steps;
      merged = by.merged;
      resolved = table_without g lists nothing graph table (Along by.steps) by.resolution;
      conflicts = conflicts_without g lists nothing graph table.conflicts by.conflicts;
      in_order = by.in_order;
      accept_alone = by.accept_alone;
    },
    nothing_resolved g lists nothing graph table.resolved by.resolved,
  ),
  λ without.
      let is = without.0 in
      let none : table.resolved ≡ [] = without.1 in
      record {
        steps = is.steps;
        merged = is.merged;
        resolution = table_with g lists nothing graph table (Along is.steps) is.resolved;
        conflicts = conflicts_with g lists nothing graph table.conflicts is.conflicts;
        in_order = is.in_order;
        resolved = subst (AreResolvedBy g lists graph) (sym none) (none_are_resolved g lists nothing graph);
        resolved_in_order = subst AreResolvedInOrder (sym none) (sorted_none (λ (x y : ResolvedOf). shift_reduce_cmp x.conflict y.conflict));
        accept_alone = is.accept_alone;
      },
)
