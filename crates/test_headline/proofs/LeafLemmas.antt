-- The leaves of a tree of the program are those of the derivation tree that folds to it; and a run without an error consumes all lexemes.
use Rattle.std.proofs.Common.{rules, ◌≡◌, ◌∙◌, ◌++◌, ℕ, List, [], ◌∷◌, IfOk, MatchOption, None, Option, Result, Some, Vec, ap, drop, length, refl, subst, sym}
use Rattle.std.proofs.lemmas.List.{length-map}
use Rattle.std.specs.List.{AllZip}
use Rattle.lrpar_parse_errors.specs.declared.errors.LexParseError.{LexParseError}
use Rattle.lrpar_parse_errors.specs.declared.errors.LexParseError.TheVariants.{LexError}
use Rattle.lrpar_parse_trees.specs.declared.node.Node.{Node}
use Rattle.lrpar_parse_trees.specs.declared.node.Node.TheFolds.{fold_out-Node, map-Node}
use Rattle.lrpar_parse_trees.specs.declared.node.Node.TheOpen.{Node-F}
use Rattle.lrpar_parse_trees.specs.declared.node.Node.TheVariants.{Term}
use Rattle.lrpar_parse_trees.specs.declared.node.Node.TheViews.{out-Node, the_lemmas}
use Rattle.lrpar_parse_trees.specs.Visits.{Visit, Met, Entered}
use Rattle.lrpar_parse_trees.specs.Walks.{children, layer_children, layer_visit, visit, walk, walk_step, walks}
use Rattle.lrpar_parse_run.specs.Folds.{Folds, ForestFolds}
use Rattle.lrpar_parse_run.specs.Nodes.{IsNonterm, IsTerm}
use Rattle.lrpar_parse_run.specs.RepairAnswer.{IsRepairErrorOf}
use Rattle.lrpar_parse_run.specs.RepairRun.{RepairRun, RepairStop, ends_there, is_repaired, runs_through}
use Rattle.lrpar_parse_run.specs.RunAnswer.{HasValue}
use Rattle.lrpar_parse_run.specs.Subject.{Subject}
use Rattle.lrpar_grammar.specs.Grammar.{Grammar, rule_of}
use Rattle.lrpar_grammar.specs.Sentence.{LexemeFacts}
use Rattle.lrpar_grammar.specs.Tree.{Forest, Tree, Branch, Cons, Leaf, Nil, forest_leaves, leaves}
use Rattle.lrpar_parse.specs.Lexed.{lexemes_of}
use Rattle.lrpar_table_rows.specs.Table.{Table}
use Rattle.lrpar_parse_repair.specs.Recovery.{Point}
use Rattle.lrpar_parse_repair.specs.Sequences.{PlainStep}
use Rattle.lrpar_parse.specs.Parse.{ParsesTo}
use Rattle.lrpar_parse.specs.declared.fault.ParseFault.{ParseFault}
use Rattle.test_headline.proofs.AnswerLemmas.{Goes, by_error, by_run, of_answer}
use Rattle.test_headline.specs.Answered.{OfAnswer}
use Rattle.test_headline.specs.Leaves.{HasLeaves, lexemes_met, node_leaves}

-- one layer of a walk
layer_walk : {X S : Type 0} (layer : Node-F X S (Node X S))
    → walk_step (map-Node X S (Node X S) (List (Visit X S)) walk layer) ≡ layer_visit layer ∷ walks (layer_children layer)
layer_walk (Node-F.Term x) = refl
layer_walk (Node-F.Nonterm ridx nodes) = ap (λ n. Entered ridx.0 n ∷ walks nodes.items) (length-map nodes.items walk)

walk_out : {X S : Type 0} (node : Node X S) → walk node ≡ visit node ∷ walks (children node)
walk_out {X = X} {S = S} node = fold_out-Node X S (List (Visit X S)) walk_step node ∙ layer_walk (out-Node X S node)

-- the lexemes among the visits of one list and then of another
met_append : {X S : Type 0} (vs ws : List (Visit X S)) → lexemes_met (vs ++ ws) ≡ lexemes_met vs ++ lexemes_met ws
met_append [] ws = refl
met_append (Met x ∷ vs) ws = ap (λ l. x ∷ l) (met_append vs ws)
met_append (Entered r n ∷ vs) ws = met_append vs ws

-- a lexeme's node, and a rule's
term_leaves : {X S : Type 0} (node : Node X S) (x : X) → node ≡ Term x → node_leaves node ≡ x ∷ []
term_leaves node x is =
    let here : visit node ≡ Met x = ap visit is ∙ search (rules, the_lemmas) in
    let below : children node ≡ [] = ap children is ∙ search (rules, the_lemmas) in
    let layer : lexemes_met (visit node ∷ walks (children node)) ≡ x ∷ [] = rw (here, below) refl in
    ap lexemes_met (walk_out node) ∙ layer

nonterm_leaves : {X S : Type 0} (index : S → ℕ) (r : ℕ) (nodes : List (Node X S)) (node : Node X S) → IsNonterm index r nodes node
    → node_leaves node ≡ lexemes_met (walks nodes)
nonterm_leaves index r nodes node is =
    let here : visit node ≡ Entered is.ridx.0 (length is.children.items) = ap visit is.is ∙ search (rules, the_lemmas) in
    let below : children node ≡ is.children.items = ap children is.is ∙ search (rules, the_lemmas) in
    let layer : lexemes_met (visit node ∷ walks (children node)) ≡ lexemes_met (walks is.children.items) = rw (here, below) refl in
    ap lexemes_met (walk_out node) ∙ (layer ∙ ap (λ ns. lexemes_met (walks ns)) is.children_are)

-- the leaves of a node are those of a derivation tree that folds to it
module _ {X S : Type 0} (index : S → ℕ) (g : Grammar) where
  mutual
    pub folded_leaves : (tree : Tree X) (node : Node X S) → Folds IsTerm (IsNonterm index) g tree node → node_leaves node ≡ leaves tree
    folded_leaves (Leaf x) node is = term_leaves node x is
    folded_leaves (Branch p children) node (nodes, folds, is) = nonterm_leaves index (rule_of g p) nodes node is ∙ all_leaves children nodes folds

    all_leaves : (forest : Forest X) (nodes : List (Node X S)) → ForestFolds IsTerm (IsNonterm index) g forest nodes → lexemes_met (walks nodes) ≡ forest_leaves forest
    all_leaves Nil [] folds = refl
    all_leaves Nil (node ∷ nodes) folds = absurd folds
    all_leaves (Cons t ts) [] folds = absurd folds
    all_leaves (Cons t ts) (node ∷ nodes) folds =
        let first = folded_leaves t node folds.0 in
        let others = all_leaves ts nodes folds.1 in
        let both : node_leaves node ++ lexemes_met (walks nodes) ≡ leaves t ++ forest_leaves ts = cc in
        met_append (walk node) (walks nodes) ∙ both

-- a run without an error point consumes all lexemes
all_consumed : {X : Type 0} (facts : X → LexemeFacts) (allows : Point X → List (List PlainStep) → Type 0) (k : ℕ) (g : Grammar) (table : Table) (lexemes : List X)
    (st : List ℕ) (i : ℕ) (stops : List RepairStop) (consumed : Option (List X)) (prods : List ℕ)
    → RepairRun facts allows k g table lexemes st i stops consumed prods → stops ≡ [] → consumed ≡ Some (drop i lexemes)
all_consumed facts allows k g table lexemes _ _ _ _ _ (runs_through st i prods far) none = refl
all_consumed facts allows k g table lexemes _ _ _ _ _ (ends_there st i prods stop far listed) none = absurd (let no : ⊥ = cc in no)
all_consumed facts allows k g table lexemes _ _ _ _ _ (is_repaired st i prods stop first listed made after j recovered found consumed rest far at replays eaten run) none = absurd (let no : ⊥ = cc in no)

-- if there is no error, there was no error point
no_stops : {A B : Type 0} (R : A → B → Type 0) (xs : List A) (ys : List B) → AllZip R xs ys → ys ≡ [] → xs ≡ []
no_stops R [] ys zip none = refl
no_stops R (x ∷ xs) [] zip none = absurd zip
no_stops R (x ∷ xs) (y ∷ ys) zip none = absurd (let no : ⊥ = cc in no)

-- what is consumed is the leaves of the node
value_leaves : {S B F Z : Type 0} (index : S → ℕ) (token : B → ℕ) (g : Grammar) (lexemes : List B) (consumed : Option (List B)) (prods : List ℕ) (answer : Option (Node B S) × Vec F Z)
    → consumed ≡ Some lexemes → HasValue token g (Folds IsTerm (IsNonterm index) g) consumed prods answer
    → (node : Node B S) × (answer.0 ≡ Some node) × (node_leaves node ≡ lexemes)
value_leaves index token g lexemes None prods answer all has = absurd (let no : ⊥ = cc in no)
value_leaves index token g lexemes (Some xs) prods answer all (node, is, of) =
    let same : xs ≡ lexemes = cc in
    (node, is, folded_leaves index g of.tree node of.evaluates ∙ (of.leaves_are ∙ same))

-- if there is no error, there is a tree, and its leaves are the lexemes
tree_over_lexemes : {S L B C Z : Type 0} (index : S → ℕ) (about : Subject B) (lexed : List (Result B C)) (answer : Option (Node B S) × Vec (LexParseError S L B C) Z)
    → Goes about (λ a. a.1.items) (HasValue (λ x. (about.facts x).token) about.checked.grammar (Folds IsTerm (IsNonterm index) about.checked.grammar)) lexed answer
    → answer.1.items ≡ [] → MatchOption answer.0 ⊥ (λ node. HasLeaves node lexed)
tree_over_lexemes index about lexed answer (by_error error some errors no_value) none =
    absurd (let differ : LexError error ∷ [] ≡ [] = sym errors ∙ none in let no : ⊥ = cc in no)
tree_over_lexemes index about lexed answer (by_run no_error is) none =
    let whole_run = is.whole_run in
    let all : whole_run.consumed ≡ Some (lexemes_of lexed) =
    all_consumed about.facts about.allows about.shifts about.checked.grammar about.checked.table (lexemes_of lexed) (about.checked.table.start ∷ []) 0 whole_run.stops whole_run.consumed whole_run.prods whole_run.run
    (no_stops (IsRepairErrorOf about (lexemes_of lexed)) whole_run.stops answer.1.items is.errors none) in
    let found = value_leaves index (λ x. (about.facts x).token) about.checked.grammar (lexemes_of lexed) whole_run.consumed whole_run.prods answer all is.value in
    subst (λ o. MatchOption o ⊥ (λ node. HasLeaves node lexed)) (sym found.1) (record { no_error = no_error; leaves_are = found.2 })

-- and so for the result of a parse
pub trees_over_lexemes : {S L B C Z : Type 0} (index : S → ℕ) (about : Subject B) (lexes : List (Result B C) → Type 0)
    (result : Result (Option (Node B S) × Vec (LexParseError S L B C) Z) ParseFault) → ParsesTo about lexes (Folds IsTerm (IsNonterm index) about.checked.grammar) result
    → IfOk result (λ answer. OfAnswer lexes (λ lexed. answer.1.items ≡ [] → MatchOption answer.0 ⊥ (λ node. HasLeaves node lexed)))
trees_over_lexemes index about lexes result parses =
    of_answer about lexes (λ a. a.1.items) (HasValue (λ x. (about.facts x).token) about.checked.grammar (Folds IsTerm (IsNonterm index) about.checked.grammar))
    (λ answer lexed. answer.1.items ≡ [] → MatchOption answer.0 ⊥ (λ node. HasLeaves node lexed))
    (λ lexed answer goes. tree_over_lexemes index about lexed answer goes) result parses
