-- A tree that an entry represents folds to the values that the entry gives.
use Rattle.std.proofs.Common.{◌≡◌, ◌∙◌, ℕ, IfSome, List, [], ◌∷◌, None, Ok, Err, Option, Result, Some, Vec, ap, inl, inr, option_map, refl, subst, sym}
use Rattle.std.proofs.lemmas.Option.{same_Some}
use Rattle.std.specs.List.{AllZip}
use Rattle.lrpar_grammar.specs.Grammar.{Grammar, Nonterminal, rule_of}
use Rattle.lrpar_grammar.specs.Tree.{Tree, Forest, Leaf, Branch, Nil, Cons}
use Rattle.lrpar_parse_run.specs.Building.{Building}
use Rattle.lrpar_parse_run.specs.End.{IsOfTree}
use Rattle.lrpar_parse_run.specs.Entries.{Gives, HasValueEntry, IsLexemeEntry, IsMadeEntry}
use Rattle.lrpar_parse_run.specs.Folds.{Folds, ForestFolds}
use Rattle.lrpar_parse.specs.Lexed.{first_error}
use Rattle.lrpar_parse_run.specs.Nodes.{IsNonterm, IsTerm}
use Rattle.lrpar_parse.specs.Parse.{ParsesTo}
use Rattle.lrpar_parse_run.specs.Subject.{Subject}
use Rattle.lrpar_parse_errors.specs.declared.errors.LexParseError.{LexParseError}
use Rattle.lrpar_parse_run.specs.declared.values.AStackType.{AStackType}
use Rattle.lrpar_parse_run.specs.declared.values.AStackType.TheVariants.{ActionType}
use Rattle.lrpar_parse.specs.declared.fault.ParseFault.{ParseFault}
use Rattle.lrpar_parse_trees.specs.declared.node.Node.{Node}
use Rattle.lrpar_parse_run.proofs.ListLemmas.{zip_same}
use Rattle.lrpar_parse.proofs.ParseLemmas.{parse_as, refusal_as}
use Rattle.lrpar_parse_run.specs.RunAnswer.{HasValue}
use Rattle.lrpar_parse_run.specs.RunStack.{AllRepresent, Represents}

-- `Values e v`: entry e gives value v. Each value of a lexeme's entry is a value of the lexeme; and each value of a node's entry is a
-- value of its rule over values of the children's entries.
module _ {X E V : Type 0} (leaf : X → E → Type 0) (node : ℕ → Option E → List E → E → Type 0) (g : Grammar) (of_leaf : X → V → Type 0) (of_node : ℕ → List V → V → Type 0) (Values : E → V → Type 0)
    (at_leaf : (x : X) (e : E) (v : V) → leaf x e → Values e v → of_leaf x v)
    (at_node : (p : ℕ) (before : Option E) (es : List E) (e : E) (v : V) → node p before es e → Values e v → (vs : List V) × AllZip Values es vs × of_node (rule_of g p) vs v) where
  mutual
    pub represented_folds : (before : Option E) (t : Tree X) (e : E) (v : V) → Represents leaf node before t e → Values e v → Folds of_leaf of_node g t v
    represented_folds before (Leaf x) e v represents gives = at_leaf x e v represents gives
    represented_folds before (Branch p children) e v (es, represent, made) gives =
        let found = at_node p before es e v made gives in
        (found.0, all_fold before children es found.0 represent found.1, found.2)

    all_fold : (before : Option E) (ts : Forest X) (es : List E) (vs : List V) → AllRepresent leaf node before ts es → AllZip Values es vs → ForestFolds of_leaf of_node g ts vs
    all_fold before Nil [] [] represent gives = tt
    all_fold before Nil [] (v ∷ vs) represent gives = absurd gives
    all_fold before Nil (e ∷ es) vs represent gives = absurd represent
    all_fold before (Cons t ts) [] vs represent gives = absurd represent
    all_fold before (Cons t ts) (e ∷ es) [] represent gives = absurd gives
    all_fold before (Cons t ts) (e ∷ es) (v ∷ vs) represent gives = (represented_folds before t e v represent.0 gives.0, all_fold (Some e) ts es vs represent.1 gives.1)

-- the entries of a caller's two functions: a tree folds to the value of its entry
pub made_fold : {X V : Type 0} (of_leaf : X → V → Type 0) (of_node : ℕ → List V → V → Type 0) (g : Grammar) (before : Option (AStackType X V)) (t : Tree X) (v : V)
    → Represents IsLexemeEntry (λ p before es e. IsMadeEntry of_leaf of_node (rule_of g p) es e) before t (ActionType v) → Folds of_leaf of_node g t v
made_fold {X} {V} of_leaf of_node g before t v represents =
    represented_folds IsLexemeEntry (λ p before es e. IsMadeEntry of_leaf of_node (rule_of g p) es e) g of_leaf of_node (Gives of_leaf)
    (λ x e v is gives. subst (λ (w : AStackType X V). Gives of_leaf w v) is gives)
    (λ p before es e v made gives.
    let same : made.value ≡ v = subst (λ (w : AStackType X V). Gives of_leaf w v) made.is gives in
    (made.values, made.given, subst (of_node (rule_of g p) made.values) same made.made))
    before t (ActionType v) v represents refl

-- what maps to none is none
unmapped : {V W : Type 0} (f : W → V) (w : Option W) → option_map f w ≡ None → w ≡ None
unmapped f None e = refl
unmapped f (Some x) e = absurd (let no : ⊥ = cc in no)

-- A value w has a tree if f w has, if each tree of f w is a tree of w.
pub mapped_value : {X V W F Z Y : Type 0} (token : X → ℕ) (g : Grammar) (Evaluates : Tree X → V → Type 0) (EvaluatesOther : Tree X → W → Type 0) (f : W → V) (w : Option W) (consumed : Option (List X)) (prods : List ℕ) (one : Option V × Vec F Z) (other : Option W × Vec F Y)
    → one.0 ≡ option_map f w → other.0 ≡ w → ((t : Tree X) (x : W) → Evaluates t (f x) → EvaluatesOther t x) → HasValue token g Evaluates consumed prods one → HasValue token g EvaluatesOther consumed prods other
mapped_value token g Evaluates EvaluatesOther f w None prods one other is other_is evaluates has = other_is ∙ unmapped f w (sym is ∙ has)
mapped_value token g Evaluates EvaluatesOther f None (Some xs) prods one other is other_is evaluates (value, has, holds) =
    absurd (let differ : ◌≡◌ {A = Option _} (Some value) None = sym has ∙ is in let no : ⊥ = cc in no)
mapped_value token g Evaluates EvaluatesOther f (Some x) (Some xs) prods one other is other_is evaluates (value, has, holds) =
    let same : value ≡ f x = same_Some value (f x) (sym has ∙ is) in (
      x,
      other_is,
      record {
        tree = holds.tree;
        fits = holds.fits;
        leaves_are = holds.leaves_are;
        productions_are = holds.productions_are;
        evaluates = evaluates holds.tree x (subst (Evaluates holds.tree) same holds.evaluates);
      },
    )

-- the value that a parse returns has a tree
pub value_has_tree : {X V S L C Z : Type 0} (about : Subject X) (lexes : List (Result X C) → Type 0) (Evaluates : Tree X → V → Type 0) (answer : Option V × Vec (LexParseError S L X C) Z) (v : V)
    → ParsesTo about lexes Evaluates (Ok answer) → answer.0 ≡ Some v → (t : Tree X) × Evaluates t v
value_has_tree about lexes Evaluates answer v (inl memory) some = absurd (let no : ⊥ = cc in no)
value_has_tree {X = X} {C = C} about lexes Evaluates answer v (inr (lexed, allowed, is)) some = by_error (first_error lexed) refl
  where
    by_run : (consumed : Option (List X)) (prods : List ℕ) → HasValue (λ x. (about.facts x).token) about.checked.grammar Evaluates consumed prods answer → (t : Tree X) × Evaluates t v
    by_run None prods none = absurd (let differ : ◌≡◌ {A = Option _} None (Some v) = sym none ∙ some in let no : ⊥ = cc in no)
    by_run (Some xs) prods (value, has, holds) = (holds.tree, subst (Evaluates holds.tree) (same_Some value v (sym has ∙ some)) holds.evaluates)

    by_error : (o : Option C) → first_error lexed ≡ o → (t : Tree X) × Evaluates t v
    by_error None none = let of_run = is.run none in by_run of_run.whole_run.consumed of_run.whole_run.prods of_run.value
    by_error (Some error) first = by_run None [] (is.lexing_error error first).1

-- so the entry that a parse comes to is a value, if only values suit the start rule
pub has_value_entry : {X W S L C Z : Type 0} (about : Subject X) (lexes : List (Result X C) → Type 0) (builds : Building X (AStackType X W)) (answer : Option (AStackType X W) × Vec (LexParseError S L X C) Z)
    → ((e : AStackType X W) → builds.suits (Nonterminal about.checked.grammar.start) e → HasValueEntry e)
    → ParsesTo about lexes (IsOfTree builds about.checked) (Ok answer) → IfSome answer.0 HasValueEntry
has_value_entry {X = X} {W = W} about lexes builds answer values parses = by_entry answer.0 refl
  where
    by_entry : (o : Option (AStackType X W)) → answer.0 ≡ o → IfSome o HasValueEntry
    by_entry None none = tt
    by_entry (Some e) some = values e (value_has_tree about lexes (IsOfTree builds about.checked) answer e parses some).1.suit

-- a parse to f w is a parse to w
pub parse_mapped : {X V W S L C Z : Type 0} (about : Subject X) (lexes : List (Result X C) → Type 0) (Evaluates : Tree X → V → Type 0) (EvaluatesOther : Tree X → W → Type 0) (f : W → V) (v : Option V) (w : Option W) (errors : Vec (LexParseError S L X C) Z)
    → v ≡ option_map f w → ((t : Tree X) (x : W) → Evaluates t (f x) → EvaluatesOther t x)
    → ParsesTo about lexes Evaluates (Ok (v, errors)) → ParsesTo about lexes EvaluatesOther (Ok (w, errors))
parse_mapped about lexes Evaluates EvaluatesOther f v w errors is evaluates parses =
    parse_as about lexes (λ answer. answer.1.items) (λ answer. answer.1.items) (HasValue (λ x. (about.facts x).token) about.checked.grammar Evaluates) (HasValue (λ x. (about.facts x).token) about.checked.grammar EvaluatesOther) (v, errors) (w, errors) refl
    (λ consumed prods has. mapped_value (λ x. (about.facts x).token) about.checked.grammar Evaluates EvaluatesOther f w consumed prods (v, errors) (w, errors) is refl evaluates has) parses

-- A value f v has a tree if v has, if each tree of v is a tree of f v.
mapped_on : {X V W F Z Y : Type 0} (token : X → ℕ) (g : Grammar) (Evaluates : Tree X → V → Type 0) (EvaluatesOther : Tree X → W → Type 0) (f : V → W) (consumed : Option (List X)) (prods : List ℕ) (one : Option V × Vec F Z) (other : Option W × Vec F Y)
    → other.0 ≡ option_map f one.0 → ((t : Tree X) (x : V) → Evaluates t x → EvaluatesOther t (f x)) → HasValue token g Evaluates consumed prods one → HasValue token g EvaluatesOther consumed prods other
mapped_on token g Evaluates EvaluatesOther f None prods one other is evaluates has = is ∙ ap (option_map f) has
mapped_on token g Evaluates EvaluatesOther f (Some xs) prods one other is evaluates (value, has, holds) = (
  f value,
  is ∙ ap (option_map f) has,
  record { tree = holds.tree; fits = holds.fits; leaves_are = holds.leaves_are; productions_are = holds.productions_are; evaluates = evaluates holds.tree value holds.evaluates },
)

-- so a parse to v is a parse to f v
pub parse_mapped_on : {X V W S L C Z : Type 0} (about : Subject X) (lexes : List (Result X C) → Type 0) (Evaluates : Tree X → V → Type 0) (EvaluatesOther : Tree X → W → Type 0) (f : V → W) (v : Option V) (w : Option W) (errors : Vec (LexParseError S L X C) Z)
    → w ≡ option_map f v → ((t : Tree X) (x : V) → Evaluates t x → EvaluatesOther t (f x))
    → ParsesTo about lexes Evaluates (Ok (v, errors)) → ParsesTo about lexes EvaluatesOther (Ok (w, errors))
parse_mapped_on about lexes Evaluates EvaluatesOther f v w errors is evaluates parses =
    parse_as about lexes (λ answer. answer.1.items) (λ answer. answer.1.items) (HasValue (λ x. (about.facts x).token) about.checked.grammar Evaluates) (HasValue (λ x. (about.facts x).token) about.checked.grammar EvaluatesOther) (v, errors) (w, errors) refl
    (λ consumed prods has. mapped_on (λ x. (about.facts x).token) about.checked.grammar Evaluates EvaluatesOther f consumed prods (v, errors) (w, errors) is evaluates has) parses

-- a parse by one relation of trees and values is a parse by a weaker one, whatever its result
pub parse_weaker : {X V S L C Z : Type 0} (about : Subject X) (lexes : List (Result X C) → Type 0) (Evaluates EvaluatesOther : Tree X → V → Type 0) (result : Result (Option V × Vec (LexParseError S L X C) Z) ParseFault)
    → ((t : Tree X) (v : V) → Evaluates t v → EvaluatesOther t v) → ParsesTo about lexes Evaluates result → ParsesTo about lexes EvaluatesOther result
parse_weaker {V} about lexes Evaluates EvaluatesOther (Ok (v, errors)) evaluates parses =
    parse_mapped about lexes Evaluates EvaluatesOther (λ (x : V). x) v v errors (same v) evaluates parses
  where
    same : (o : Option V) → o ≡ option_map (λ (x : V). x) o
    same None = refl
    same (Some x) = refl
parse_weaker about lexes Evaluates EvaluatesOther (Err fault) evaluates parses =
    refusal_as about lexes (λ answer. answer.1.items) (λ answer. answer.1.items) (HasValue (λ x. (about.facts x).token) about.checked.grammar Evaluates) (HasValue (λ x. (about.facts x).token) about.checked.grammar EvaluatesOther) fault parses

-- the entries of trees: a tree folds to its entry
pub tree_fold : {X S : Type 0} (index : S → ℕ) (g : Grammar) (before : Option (Node X S)) (t : Tree X) (n : Node X S)
    → Represents IsTerm (λ p before es e. IsNonterm index (rule_of g p) es e) before t n → Folds IsTerm (IsNonterm index) g t n
tree_fold {X} {S} index g before t n represents =
    represented_folds IsTerm (λ p before es e. IsNonterm index (rule_of g p) es e) g IsTerm (IsNonterm index) (λ e v. e ≡ v)
    (λ x e v is same. sym same ∙ is)
    (λ p before es e v made same. (es, zip_same es, subst (λ (w : Node X S). IsNonterm index (rule_of g p) es w) same made))
    before t n n represents refl
