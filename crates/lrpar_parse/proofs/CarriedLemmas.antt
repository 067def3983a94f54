-- The tree of a value that no error stopped folds to it by the caller's function alone.
use Rattle.std.proofs.Common.{◌≡◌, ℕ, List, [], ◌∷◌, MatchOption, None, Ok, Err, Option, Result, Some, refl, subst, sym}
use Rattle.lrpar_grammar_places.specs.Span.{Extent}
use Rattle.lrpar_grammar.specs.Grammar.{Grammar}
use Rattle.lrpar_grammar.specs.Tree.{Tree, Forest, Leaf, Branch, Nil, Cons}
use Rattle.lrpar_parse_run.specs.Spans.{span_after}
use Rattle.lrpar_parse_run.specs.declared.values.AStackType.{AStackType}
use Rattle.lrpar_parse_run.specs.declared.values.AStackType.TheVariants.{ActionType, Lexeme}
use Rattle.lrpar_parse.specs.Acted.{ActedTo, AllActedTo, acts_by}
use Rattle.lrpar_parse.specs.ValueArguments.{ValueArguments, first_failure, given_of}
use Rattle.lrpar_parse.specs.Values.{GivesOrCarries, given_by}

module _ {X V E L : Type 0} (span : X → Extent) (gives : ℕ → ValueArguments L X V → Result V E → Type 0) (g : Grammar) (lexer : L) where
  -- what the actions of a parse of values may return
  abbrev carrying : ℕ → Extent → List (AStackType X (Result V E)) → Result V E → Type 0
  carrying = acts_by (GivesOrCarries gives) g lexer (tt {0})

  -- a production has a value only if no argument is an error, and then it is one that the caller's function may return
  made_without_failure : (p : ℕ) (s : Extent) (args : List (AStackType X (Result V E))) (v : V) (found : Option E) → first_failure args ≡ found
      → MatchOption found (gives p (record { lexer = lexer; span = s; left = given_of args }) (Ok v)) (λ e. ◌≡◌ {A = Result V E} (Ok v) (Err e))
      → (first_failure args ≡ None) × given_by gives lexer p s (given_of args) v
  made_without_failure p s args v None none made = (none, made)
  made_without_failure p s args v (Some e) some carried = absurd (let no : ⊥ = cc in no)

  -- a tree that folds to a lexeme does so by any function
  lexeme_folds : (before : Extent) (t : Tree X) (x : X) → ActedTo span carrying before t (Lexeme x) → ActedTo span (given_by gives lexer) before t (Lexeme x)
  lexeme_folds before (Leaf y) x folds = let same : y ≡ x = cc in let P : X → Type 0 = λ z. ◌≡◌ {A = AStackType X V} (Lexeme x) (Lexeme z) in subst P (sym same) refl
  lexeme_folds before (Branch p children) x (args, w, is, all, acts) = absurd (let no : ⊥ = cc in no)

  mutual
    pub value_folds : (before : Extent) (t : Tree X) (v : V) → ActedTo span carrying before t (ActionType (Ok v)) → ActedTo span (given_by gives lexer) before t (ActionType v)
    value_folds before (Leaf x) v folds = absurd (let no : ⊥ = cc in no)
    value_folds before (Branch p children) v (args, w, is, all, acts) =
        let same : w ≡ Ok v = cc in
        let made = made_without_failure p (span_after span before (Branch p children)) args v (first_failure args) refl
        (subst (λ (r : Result V E). carrying p (span_after span before (Branch p children)) args r) same acts) in
        (given_of args, v, refl, all_fold before children args all made.0, made.1)

    all_fold : (before : Extent) (ts : Forest X) (args : List (AStackType X (Result V E))) → AllActedTo span carrying before ts args → first_failure args ≡ None
        → AllActedTo span (given_by gives lexer) before ts (given_of args)
    all_fold before Nil [] all none = tt
    all_fold before Nil (arg ∷ args) all none = absurd all
    all_fold before (Cons t ts) [] all none = absurd all
    all_fold before (Cons t ts) (Lexeme x ∷ args) all none = (lexeme_folds before t x all.0, all_fold (span_after span before t) ts args all.1 none)
    all_fold before (Cons t ts) (ActionType (Ok v) ∷ args) all none = (value_folds before t v all.0, all_fold (span_after span before t) ts args all.1 none)
    all_fold before (Cons t ts) (ActionType (Err e) ∷ args) all none = absurd (let no : ⊥ = cc in no)
