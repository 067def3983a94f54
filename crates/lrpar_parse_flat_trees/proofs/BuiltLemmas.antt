-- What the builder of syntax trees builds: the tree that the entry represents.
use Rattle.std.proofs.Common.{◌≡◌, ◌∙◌, List, [], ◌∷◌, Option, Some, ap, refl}
use Rattle.lrpar_grammar_places.specs.Facts.{LexemeFacts}
use Rattle.lrpar_grammar.specs.Tree.{Tree, Forest, Leaf, Branch, Nil, Cons}
use Rattle.lrpar_parse_run.specs.RunStack.{AllRepresent, Represents}
use Rattle.lrpar_parse_flat_trees.specs.Flat.{forest_by, forest_of, tree_by}

module _ {X : Type 0} (facts : X → LexemeFacts) where
  mutual
    pub built_is : (before : Option (Tree LexemeFacts)) (t : Tree X) (e : Tree LexemeFacts)
        → Represents (λ x e. e ≡ Leaf (facts x)) (λ p before es e. e ≡ Branch p (forest_of es)) before t e → e ≡ tree_by facts t
    built_is before (Leaf x) e represents = represents
    built_is before (Branch p children) e (es, represent, made) = made ∙ ap (λ (ts : Forest LexemeFacts). Branch p ts) (all_built before children es represent)

    all_built : (before : Option (Tree LexemeFacts)) (ts : Forest X) (es : List (Tree LexemeFacts))
        → AllRepresent (λ x e. e ≡ Leaf (facts x)) (λ p before es e. e ≡ Branch p (forest_of es)) before ts es → forest_of es ≡ forest_by facts ts
    all_built before Nil [] represent = refl
    all_built before Nil (e ∷ es) represent = absurd represent
    all_built before (Cons t ts) [] represent = absurd represent
    all_built before (Cons t ts) (e ∷ es) represent =
        ap (λ (u : Tree LexemeFacts). Cons u (forest_of es)) (built_is before t e represent.0)
        ∙ ap (λ (us : Forest LexemeFacts). Cons (tree_by facts t) us) (all_built (Some e) ts es represent.1)
