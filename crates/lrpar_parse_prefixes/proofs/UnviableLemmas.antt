-- Two safe tables of the grammar *sum* that aren't viable. Each sentence begins with 'ID', since each tree of E begins with one of T. A
-- run over either table feeds '+'. So its runs don't keep to sentences, and by the law on viable tables it isn't viable.
use Rattle.std.proofs.Common.{◌≡◌, ◌<◌, ◌^◌, ◌∙◌, refl, sym, ap, arith, rules, ℕ, zero, suc, List, [], ◌∷◌, ◌++◌, Some}
use Rattle.std.proofs.lemmas.Option.{slice_get-get_or}
use Rattle.lrpar_grammar.specs.Grammar.{GrammarSymbol, IsWellFormed, Nonterminal, Terminal, rule_of, symbols_of}
use Rattle.lrpar_grammar.specs.Sum.{sum_grammar}
use Rattle.lrpar_grammar.specs.Tree.{Branch, Cons, Forest, Leaf, Nil, Tree, forest_leaves, leaves}
use Rattle.lrpar_table_rows.specs.Graph.{Graph}
use Rattle.lrpar_table_rows.specs.Safe.{IsSafe}
use Rattle.lrpar_table_rows.specs.Sum.{with_bare_items}
use Rattle.lrpar_table_rows.specs.Table.{IsTable, ReduceBy, ShiftTo, Table, action_of, goto_of}
use Rattle.lrpar_table_rows.proofs.EntryLemmas.{closed}
use Rattle.lrpar_table_rows.proofs.SafeTests.{safe_by_test}
use Rattle.lrpar_table_build.proofs.ReachedLemmas.{symbol_listed}
use Rattle.lrpar_table_stacks.specs.Reduction.{Feeds, IsSettled}
use Rattle.lrpar_table_stacks.specs.Run.{Comes, comes_on, stays}
use Rattle.lrpar_table_sentences.specs.Reachable.{Added, EachReachableHasTree, HasTree, IsReachableRule, OnRight}
use Rattle.lrpar_table_sentences.specs.Texts.{AreTreesOf, IsTreeOf}
use Rattle.lrpar_parse_prefixes.specs.Unviable.{ErrsLate, bare_table, stray_graph, stray_table}
use Rattle.lrpar_parse_prefixes.specs.Viable.{BeginSentence}
use Rattle.lrpar_parse_prefixes.specs.ViableLaws.{KeepsToSentences}
use Rattle.lrpar_parse_prefixes.proofs.ViableLemmas.{viable_tables_keep_to_sentences}

sum_well : IsWellFormed sum_grammar
sum_well = search rules

-- the rules of the grammar are productive
tree_of_t : HasTree sum_grammar 2
tree_of_t = (Branch 2 (Cons (Leaf 1) Nil), (omega arith, refl, (refl, tt)))

tree_of_e : HasTree sum_grammar 1
tree_of_e = (Branch 1 (Cons tree_of_t.0 Nil), (omega arith, refl, (tree_of_t.1, tt)))

tree_of : (r : ℕ) → r < 3 → HasTree sum_grammar r
tree_of zero below = (Branch 3 (Cons tree_of_e.0 Nil), (omega arith, refl, (tree_of_e.1, tt)))
tree_of (suc zero) below = tree_of_e
tree_of (suc (suc zero)) below = tree_of_t
tree_of (suc (suc (suc r))) below = absurd (omega (arith, below))

reachable_within : (r : ℕ) → IsReachableRule sum_grammar r → r < 3
reachable_within _ Added = omega arith
reachable_within _ (OnRight p r known reached on) =
    let at = slice_get-get_or (symbols_of sum_grammar p) on.0 (Nonterminal r) on.1 in
    (symbol_listed sum_grammar sum_well p on.0 (Nonterminal r) (at ∙ ap (λ (s : GrammarSymbol). Some s) on.2)).1

sum_productive : EachReachableHasTree sum_grammar
sum_productive r reached = tree_of r (reachable_within r reached)

-- trees of the right side of a production of T are an 'ID'
term_side : (p : ℕ) (trees : Forest ℕ) → p < 4 → rule_of sum_grammar p ≡ 2 → AreTreesOf sum_grammar (symbols_of sum_grammar p) trees
    → forest_leaves trees ≡ 1 ∷ []
term_side zero trees known by fit = absurd (omega (arith, by))
term_side (suc zero) trees known by fit = absurd (omega (arith, by))
term_side (suc (suc zero)) Nil known by fit = absurd fit
term_side (suc (suc zero)) (Cons (Branch p ts) us) known by fit = absurd fit.0
term_side (suc (suc zero)) (Cons (Leaf x) (Cons u us)) known by fit = absurd fit.1
term_side (suc (suc zero)) (Cons (Leaf x) Nil) known by fit = ap (λ (n : ℕ). n ∷ []) fit.0
term_side (suc (suc (suc zero))) trees known by fit = absurd (omega (arith, by))
term_side (suc (suc (suc (suc p)))) trees known by fit = absurd (omega (arith, known))

-- so trees that begin with one of T begin with 'ID'
forest_first : (w : List GrammarSymbol) (trees : Forest ℕ) → AreTreesOf sum_grammar (Nonterminal 2 ∷ w) trees
    → (rest : List ℕ) × (forest_leaves trees ≡ 1 ∷ rest)
forest_first w Nil fit = absurd fit
forest_first w (Cons (Leaf x) ts) fit = absurd fit.0
forest_first w (Cons (Branch p us) ts) fit =
    (forest_leaves ts, ap (λ (ys : List ℕ). ys ++ forest_leaves ts) (term_side p us fit.0.0 fit.0.1 fit.0.2))

-- and so does each tree of E
sum_first : (tree : Tree ℕ) → IsTreeOf sum_grammar (Nonterminal 1) tree → (rest : List ℕ) × (leaves tree ≡ 1 ∷ rest)
sum_first (Leaf x) fits = absurd fits
sum_first (Branch zero trees) fits = forest_first (Terminal 0 ∷ Nonterminal 1 ∷ []) trees fits.2
sum_first (Branch (suc zero) trees) fits = forest_first [] trees fits.2
sum_first (Branch (suc (suc zero)) trees) fits = let by = fits.1 in absurd (omega (arith, by))
sum_first (Branch (suc (suc (suc zero))) trees) fits = let by = fits.1 in absurd (omega (arith, by))
sum_first (Branch (suc (suc (suc (suc p)))) trees) fits = let known = fits.0 in absurd (omega (arith, known))

same_head : (a b : ℕ) (xs ys : List ℕ) → a ∷ xs ≡ b ∷ ys → a ≡ b
same_head a b xs ys same = cc

no_plus : BeginSentence sum_grammar (0 ∷ []) → ⊥
no_plus begins =
    let first = sum_first begins.1.0 begins.1.1 in
    let same = same_head 1 0 first.0 begins.0 (sym first.1 ∙ begins.1.2) in omega (arith, same)

-- a table whose start state shifts '+' feeds it
feeds_plus : (table : Table) (s : ℕ) → action_of table table.start 0 ≡ ShiftTo s → ¬ (KeepsToSentences (λ (t : ℕ). t) sum_grammar table)
feeds_plus table s shifts keeps =
    let settled : IsSettled table 0 (table.start ∷ []) = λ p reduces. let no : ShiftTo s ≡ ReduceBy p = sym shifts ∙ reduces in absurd (cc) in
    let feeds : Feeds sum_grammar table 0 (table.start ∷ []) [] (table.start ∷ s ∷ []) =
    record { settled = table.start ∷ []; settles = (refl, settled); next = s; shifts = shifts; pushed = refl } in
    let comes : Comes (λ (t : ℕ). t) sum_grammar table (0 ∷ []) (table.start ∷ []) 0 [] (table.start ∷ s ∷ []) 1 =
    comes_on (table.start ∷ []) 0 [] [] (table.start ∷ s ∷ []) (table.start ∷ s ∷ []) 1 (omega arith) feeds (stays (table.start ∷ s ∷ []) 1) in
    no_plus (keeps.fed (0 ∷ []) 1 (table.start ∷ s ∷ []) ([], comes))

-- so if it is safe, it isn't viable
errs_late : (graph : Graph) (table : Table) → IsTable (2 ^ 8) table → IsSafe sum_grammar graph table → action_of table table.start 0 ≡ ShiftTo 6
    → ErrsLate sum_grammar graph table
errs_late graph table is safe shifts =
    let within = closed (2 ^ 8) table is in
    record {
      well = sum_well;
      closed = within;
      safe = safe;
      productive = sum_productive;
      unviable = λ viable.
          feeds_plus table 6 shifts
          (viable_tables_keep_to_sentences (λ (t : ℕ). t) sum_grammar graph table sum_well within safe viable sum_productive);
      late = feeds_plus table 6 shifts;
    }

pub bare_table_errs_late : ErrsLate sum_grammar with_bare_items bare_table
unfolding action_of goto_of
bare_table_errs_late =
    let is : IsTable (2 ^ 8) bare_table = search rules in
    errs_late with_bare_items bare_table is (safe_by_test (2 ^ 8) sum_grammar with_bare_items bare_table is refl refl refl refl) refl

pub stray_table_errs_late : ErrsLate sum_grammar stray_graph stray_table
unfolding action_of goto_of
stray_table_errs_late =
    let is : IsTable (2 ^ 8) stray_table = search rules in
    errs_late stray_graph stray_table is (safe_by_test (2 ^ 8) sum_grammar stray_graph stray_table is refl refl refl refl) refl
