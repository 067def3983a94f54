-- The trees of runs without errors respect precedences: the tree of a run is the only one with its leaves and its productions.
use Rattle.std.proofs.Common.{◌≡◌, ◌≢◌, ◌∙◌, sym, subst, inl, inr, ℕ, [], List}
use Rattle.std.proofs.lemmas.Bool.{cases_lt}
use Rattle.lrpar_grammar.specs.Grammar.{Grammar, Nonterminal}
use Rattle.lrpar_grammar.specs.Sentence.{LexemeFacts}
use Rattle.lrpar_grammar.specs.Tree.{Branch, Cons, Forest, Leaf, Nil, Tree}
use Rattle.lrpar_table_precedence.specs.Precedence.{PrecedenceLists, resolution_of}
use Rattle.lrpar_table_rows.specs.Graph.{Graph}
use Rattle.lrpar_table_rows.specs.Table.{Fails, ReduceBy, ShiftTo, Table, action_of, states_len}
use Rattle.lrpar_table_rows.specs.declared.condition.SafetyCondition.TheVariants.{S5}
use Rattle.lrpar_table_build.specs.BuilderLaws.{lists_in}
use Rattle.lrpar_table_build.specs.Built.{IsBuiltBy}
use Rattle.lrpar_table_build.specs.KeptApart.{AreKeptApart, ReducesOrFails, ShiftsOrFails}
use Rattle.lrpar_table_build.proofs.KeptApartLemmas.{precedences_keep_apart}
use Rattle.lrpar_table_check.proofs.OneTreeLemmas.{same_tree}
use Rattle.lrpar_parse_repair.specs.Recovery.{Point}
use Rattle.lrpar_parse_repair.specs.Sequences.{PlainStep}
use Rattle.lrpar_parse_precedences.specs.PrecedenceTrees.{EachNode, EachNodeIn, RepairedTreesRespectPrecedences, TreesRespectPrecedences}
use Rattle.lrpar_parse_precedences.proofs.GrownLemmas.{run_is_good}
use Rattle.lrpar_parse_precedences.proofs.RepairLemmas.{repaired_is_good}
use Rattle.lrpar_parse_precedences.proofs.StopLemmas.{stops_unreduced}
use Rattle.lrpar_table_stacks.proofs.PathLemmas.{never_sticks}

-- what follows for each node from what holds of it
module _ {X : Type 0} (H K : ℕ → Forest X → Type 0) (so : (n : ℕ) (children : Forest X) → H n children → K n children) where
  mutual
    each_so : (tree : Tree X) → EachNode H tree → EachNode K tree
    each_so (Leaf x) each = tt
    each_so (Branch n children) each = (so n children each.0, each_so_in children each.1)

    each_so_in : (trees : Forest X) → EachNodeIn H trees → EachNodeIn K trees
    each_so_in Nil each = tt
    each_so_in (Cons t ts) each = (each_so t each.0, each_so_in ts each.1)

-- a state that reduces by p doesn't shift b
no_shift : (precedences : PrecedenceLists) (g : Grammar) (graph : Graph) (table : Table) (p b : ℕ) → IsBuiltBy g precedences graph table
    → AreKeptApart precedences g graph table p b → ReducesOrFails (resolution_of precedences p b) → (lists_in table.conflicts).reduce_reduce ≡ []
    → (s t next : ℕ) → action_of table s t ≡ ReduceBy p → action_of table s b ≢ ShiftTo next
no_shift precedences g graph table p b built apart says none s t next reduces shifts =
    elim (cases_lt s (states_len table)) [
      | inr past ↦ let fails : action_of table s t ≡ Fails = built.resolution.no_state s t past in absurd (cc)
      | inl within ↦ apart.no_shift says none s next (built.safe.each S5 s within t p reduces).1 shifts
    ]

pub trees_respect_precedences : {X : Type 0} → TreesRespectPrecedences X
trees_respect_precedences {X} token precedences g graph table well closed built lexemes tree of_run p q r b ends begins =
    let apart = precedences_keep_apart precedences g graph table well built p q r b ends begins in
    let never = never_sticks g graph table closed built.safe well in
    let LastSays : Type 0 = ReducesOrFails (resolution_of precedences p b) × ((lists_in table.conflicts).reduce_reduce ≡ []) in
    let FirstSays : Type 0 = ShiftsOrFails (resolution_of precedences p b) in
    let good = run_is_good token g table never p q r b ends begins LastSays FirstSays
    (λ says. no_shift precedences g graph table p b built apart says.0 says.1) apart.no_reduction lexemes of_run.prods of_run.run in
    let same = same_tree token g good.tree tree (Nonterminal g.start) good.fits of_run.fits (good.productions_are ∙ sym of_run.productions_are)
    (good.leaves_are ∙ sym of_run.leaves_are) in
    record {
      last = λ says none. subst (EachNode _) same (each_so _ _ (λ n children node. node.0 (says, none)) good.tree good.good);
      first = λ says. subst (EachNode _) same (each_so _ _ (λ n children node. node.1 says) good.tree good.good);
    }

-- for each half, runs with repairs make a tree of which it holds, and that is the only one with its leaves and its productions
pub repaired_trees_respect_precedences : {X : Type 0} (facts : X → LexemeFacts) (allows : Point X → List (List PlainStep) → Type 0)
    → RepairedTreesRespectPrecedences facts allows
repaired_trees_respect_precedences {X} facts allows k precedences g graph table well closed built lexemes tree of_run p q r b ends begins =
    let token : X → ℕ = λ x. (facts x).token in
    let apart = precedences_keep_apart precedences g graph table well built p q r b ends begins in
    let never = never_sticks g graph table closed built.safe well in
    record {
      last = λ says none.
          let good = repaired_is_good facts g table never p q r b ends begins (Unit {0}) ⊥
          (λ _. no_shift precedences g graph table p b built apart says none) (λ silent. absurd silent)
          allows k lexemes (inl (λ silent. silent)) of_run.found of_run.consumed of_run.prods of_run.run in
          let same = same_tree token g good.tree tree (Nonterminal g.start) good.fits of_run.fits
          (good.productions_are ∙ sym of_run.productions_are) (good.leaves_are ∙ sym of_run.leaves_are) in
          subst (EachNode _) same (each_so _ _ (λ n children node. node.0 tt) good.tree good.good);
      first = λ says none each apart_from_end.
          let good = repaired_is_good facts g table never p q r b ends begins ⊥ (Unit {0}) (λ silent. absurd silent) (λ _. apart.no_reduction says)
          allows k lexemes (inr (stops_unreduced g precedences graph table well closed built each none token lexemes apart_from_end))
          of_run.found of_run.consumed of_run.prods of_run.run in
          let same = same_tree token g good.tree tree (Nonterminal g.start) good.fits of_run.fits
          (good.productions_are ∙ sym of_run.productions_are) (good.leaves_are ∙ sym of_run.leaves_are) in
          subst (EachNode _) same (each_so _ _ (λ n children node. node.1 tt) good.tree good.good);
    }
