-- Two derivations that go on with two moves are a counterexample.
use Rattle.std.proofs.Common.{◌≡◌, ◌≢◌, ◌<◌, ◌↔◌, ◌⊎◌, ◌∙◌, refl, sym, ap, subst, inl, arith, ℕ, Bool, true, IsTrue, List, Option, length}
use Rattle.std.specs.List.{Contains}
use Rattle.lrpar_grammar.specs.Grammar.{Grammar}
use Rattle.lrpar_grammar.specs.Tree.{forest_leaves, leaves}
use Rattle.lrpar_table_rows.specs.Graph.{Graph}
use Rattle.lrpar_table_rows.specs.Table.{ReduceReduce, ShiftReduce, Table}
use Rattle.lrpar_table_first.specs.FirstRows.{AreFirsts}
use Rattle.lrpar_table_build.specs.Built.{IsBuilt}
use Rattle.lrpar_table_build.specs.BuilderLaws.{lists_in}
use Rattle.lrpar_table_sentences.specs.Choices.{AreShortest, ChoiceOf}
use Rattle.lrpar_table_sentences.specs.Moves.{MoveOf, Makes, Takes}
use Rattle.lrpar_table_sentences.specs.AccessStrings.{StepOf, symbols_in}
use Rattle.lrpar_conflict_derivations.specs.Example.{AreExamplesFor, ExampleOf, ExamplesOf, IsExample, IsFront, IsLeastTo, IsMadeOf, IsShortestFront, IsTextTo, after_search}
use Rattle.lrpar_conflict_derivations.specs.Completion.{CanComplete}
use Rattle.lrpar_conflict_derivations.specs.Conflict.{ConflictOf, IsConflict, IsExampleOf, between_reductions, with_shift}
use Rattle.lrpar_conflict_derivations.specs.Derivation.{Derives, IsDerivation}
use Rattle.lrpar_conflict_derivations.specs.Texts.{tokens_in}
use Rattle.lrpar_conflict_derivations.proofs.DerivationLemmas.{derivations_differ}
use Rattle.lrpar_conflict_derivations.proofs.TextLemmas.{tokens_of_tree, tokens_of_trees}

pub example_done : (g : Grammar) (graph : Graph) (s token : ℕ) (steps : List StepOf) (front first second : List MoveOf) (one other : MoveOf) (x : ExampleOf)
    → one ≢ other → IsFront g graph s steps front → Derives g steps token front one first → Derives g steps token front other second
    → (flag : Bool) (bound : ℕ) → IsMadeOf front first second flag bound x
    → IsTrue x.shortest ↔ IsLeastTo g graph s (tokens_in front) → (IsTrue x.shortest) ⊎ (IsTrue x.ambiguous) → IsExample g graph s token one other x
example_done g graph s token steps front first second one other x apart lead derives_one derives_other flag bound made short unless =
    let trees = lead.trees in
    let fit = lead.text.fit in
    let before : x.before ≡ forest_leaves trees = made.before ∙ ap tokens_in lead.moves_are ∙ tokens_of_trees trees in
    let a = derives_one trees fit lead.moves_are in
    let b = derives_other trees fit lead.moves_are in
    let text_a : tokens_in first ≡ leaves a.0 = ap tokens_in a.1.moves_are ∙ tokens_of_tree a.0 in
    let text_b : tokens_in second ≡ leaves b.0 = ap tokens_in b.1.moves_are ∙ tokens_of_tree b.0 in record {
      symbols = symbols_in steps;
      trees = trees;
      before = subst (λ (w : List ℕ). IsTextTo g graph s w (symbols_in steps) trees) (sym before) lead.text;
      shortest = subst (λ (w : List ℕ). IsTrue x.shortest ↔ IsLeastTo g graph s w) (sym made.before) short;
      unless = unless;
      tree = a.0;
      first =
          subst (λ (w : List ℕ). IsDerivation g w token trees one x.first a.0) (sym before)
          (subst (λ (ms : List MoveOf). IsDerivation g (forest_leaves trees) token trees one ms a.0) (sym made.first) a.1);
      other_tree = b.0;
      second =
          subst (λ (w : List ℕ). IsDerivation g w token trees other x.second b.0) (sym before)
          (subst (λ (ms : List MoveOf). IsDerivation g (forest_leaves trees) token trees other ms b.0) (sym made.second) b.1);
      different = derivations_differ g (forest_leaves trees) token trees one other first second a.0 b.0 apart a.1 b.1;
      ambiguous = (λ is. sym text_a ∙ made.ambiguous.0 is ∙ text_b, λ equal. made.ambiguous.1 (text_a ∙ equal ∙ sym text_b));
    }

-- the same by a shortest access path
pub plain_done : (g : Grammar) (graph : Graph) (conflict : ConflictOf) (steps : List StepOf) (front first second : List MoveOf) (bound : ℕ) (x : ExampleOf)
    → conflict.one ≢ conflict.other → IsShortestFront g graph conflict.state steps front → Derives g steps conflict.token front conflict.one first
    → Derives g steps conflict.token front conflict.other second → IsMadeOf front first second true bound x → IsExampleOf g graph conflict x
plain_done g graph conflict steps front first second bound x apart lead derives_one derives_other made =
    let is : IsTrue x.shortest = made.shortest in
    example_done g graph conflict.state conflict.token steps front first second conflict.one conflict.other x apart lead.front derives_one derives_other true bound made
    (λ _. lead.least, λ _. is) (inl is)

-- a path's text is a shortest access string if and only if it has as many tokens as that of a shortest access path
pub least_by : (g : Grammar) (graph : Graph) (s : ℕ) (steps short_steps : List StepOf) (front short : List MoveOf) (flag : Bool) → IsFront g graph s steps front
    → IsShortestFront g graph s short_steps short → IsTrue flag ↔ (length (tokens_in front) ≡ length (tokens_in short))
    → IsTrue flag ↔ IsLeastTo g graph s (tokens_in front)
least_by g graph s steps short_steps front short flag lead least as_many =
    let own : length (tokens_in front) ≡ length (forest_leaves lead.trees) =
    ap (λ (xs : List ℕ). length xs) (ap tokens_in lead.moves_are ∙ tokens_of_trees lead.trees) in
    let few : length (tokens_in short) ≡ length (forest_leaves least.front.trees) =
    ap (λ (xs : List ℕ). length xs) (ap tokens_in least.front.moves_are ∙ tokens_of_trees least.front.trees) in (
      λ is path others to fit.
          let equal = as_many.0 is in
          let less = least.least path others to fit in omega (arith, equal, less),
      λ all.
          let less = all (symbols_in short_steps) least.front.trees least.front.text.leads least.front.text.fit in
          let more = least.least (symbols_in steps) lead.trees lead.text.leads lead.text.fit in as_many.1 (omega (arith, own, few, less, more)),
    )

-- a counterexample stays one, whatever a search for a unifying one has tried
pub still_example : (g : Grammar) (graph : Graph) (conflict : ConflictOf) (x : ExampleOf) (tried : ℕ) (complete : Bool) → IsExampleOf g graph conflict x
    → IsExampleOf g graph conflict (after_search x tried complete)
still_example g graph conflict x tried complete is = record {
  symbols = is.symbols;
  trees = is.trees;
  before = is.before;
  shortest = is.shortest;
  unless = is.unless;
  tree = is.tree;
  first = is.first;
  other_tree = is.other_tree;
  second = is.second;
  different = is.different;
  ambiguous = is.ambiguous;
}

-- two productions that differ, and a production and a token
nodes_differ : (p q : ℕ) → p < q → Makes p ≢ Makes q
nodes_differ p q less same = let equal : p ≡ q = cc in omega (arith, less, equal)

node_and_token : (p t : ℕ) → Makes p ≢ Takes t
node_and_token p t same = cc

-- what derivations are completed with is there
pub can_complete : (g : Grammar) (graph : Graph) (table : Table) (most : ℕ) → IsBuilt g graph table → (x : ExamplesOf) → AreExamplesFor g graph table most x
    → (rows : List (List Bool)) (shortest : List (Option ChoiceOf)) → rows ≡ x.firsts → shortest ≡ x.shortest → CanComplete g graph most rows shortest
can_complete g graph table most built x made rows shortest same kept = record {
  firsts = subst (AreFirsts g) (sym same) made.firsts;
  shortest = subst (λ (w : List (Option ChoiceOf)). AreShortest g most w) (sym kept) made.shortest;
  each = made.each;
  canonical = built.canonical;
}

-- conflicts of a built table
pub between_conflict : (g : Grammar) (graph : Graph) (table : Table) → IsBuilt g graph table → (x : ReduceReduce)
    → Contains (lists_in table.conflicts).reduce_reduce x → IsConflict g graph (between_reductions x)
between_conflict g graph table built x member =
    let facts = (built.conflicts.reduce_reduce x).0 member in
    record { state = facts.0; token = facts.1; one = facts.2.0.0; other = facts.2.1; apart = nodes_differ x.first x.second facts.2.2 }

pub shift_conflict : (g : Grammar) (graph : Graph) (table : Table) → IsBuilt g graph table → (x : ShiftReduce)
    → Contains (lists_in table.conflicts).shift_reduce x → IsConflict g graph (with_shift x)
shift_conflict g graph table built x member =
    let facts = (built.conflicts.shift_reduce x).0 member in
    record { state = facts.0; token = facts.1; one = facts.2.1.0; other = (refl, facts.2.0); apart = node_and_token x.prod x.token }
