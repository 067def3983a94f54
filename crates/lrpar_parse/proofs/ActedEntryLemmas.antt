-- A tree that an entry with a span represents folds to its argument, and has its span.
use Rattle.std.proofs.Common.{◌≡◌, ◌-◌, ◌∙◌, ℕ, List, [], ◌∷◌, Option, Some, length, drop, ap, refl, subst, sym}
use Rattle.std.specs.List.{AllZip}
use Rattle.lrpar_grammar_places.specs.Span.{Extent}
use Rattle.lrpar_grammar.specs.Tree.{Tree, Forest, Leaf, Branch, Nil, Cons}
use Rattle.lrpar_parse_lexemes.specs.PlacedSpans.{arguments_of, last_part, span_before, span_over, spans_of}
use Rattle.lrpar_parse_run.specs.Placed.{IsPlacedLexeme, IsPlacedValue}
use Rattle.lrpar_parse_run.specs.Spans.{last_span, span_after}
use Rattle.lrpar_parse_lexemes.specs.declared.placed.Placed.{Placed}
use Rattle.lrpar_parse_lexemes.proofs.PlacedLemmas.{same_ends}
use Rattle.lrpar_parse.specs.Acted.{ActedTo, AllActedTo}
use Rattle.lrpar_parse_run.specs.RunStack.{AllRepresent, Represents}
use Rattle.lrpar_parse_run.specs.declared.values.AStackType.{AStackType}

-- An entry that represents a tree after a span has the tree's span, and the tree folds to its argument.
pub record IsActedAt {X V : Type 0} (span : X → Extent) (acts : ℕ → Extent → List (AStackType X V) → V → Type 0) (before : Extent) (t : Tree X) (e : Placed (AStackType X V)) : Type 0 where
  pub lies : e.span ≡ span_after span before t
  pub folds : ActedTo span acts before t e.argument

-- The same for trees side by side: the last one has the span of the last entry, and a node over them has the span of one over the
-- entries.
record AllActedAt {X V : Type 0} (span : X → Extent) (acts : ℕ → Extent → List (AStackType X V) → V → Type 0) (before : Extent) (ts : Forest X) (es : List (Placed (AStackType X V))) : Type 0 where
  pub lie : last_part before (spans_of es) ≡ last_span span before ts
  pub over : span_over before (spans_of es) ≡ span_after span before (Branch 0 ts)
  pub fold : AllActedTo span acts before ts (arguments_of es)

-- the span of a node doesn't depend on its production
any_node : {X : Type 0} (span : X → Extent) (before : Extent) (p : ℕ) (ts : Forest X) → span_after span before (Branch 0 ts) ≡ span_after span before (Branch p ts)
any_node span before p Nil = refl
any_node span before p (Cons t ts) = refl

module _ {X V : Type 0} (span : X → Extent) (acts : ℕ → Extent → List (AStackType X V) → V → Type 0) where
  abbrev leaf : X → Placed (AStackType X V) → Type 0
  leaf x e = IsPlacedLexeme span x e

  abbrev node : ℕ → Option (Placed (AStackType X V)) → List (Placed (AStackType X V)) → Placed (AStackType X V) → Type 0
  node p before es e = IsPlacedValue (acts p) before es e

  mutual
    pub represented_acted : (before : Option (Placed (AStackType X V))) (t : Tree X) (e : Placed (AStackType X V)) → Represents leaf node before t e → IsActedAt span acts (span_before before) t e
    represented_acted before (Leaf x) e represents = record { lies = represents.lies; folds = represents.is }
    represented_acted before (Branch p children) e (es, represent, made) =
        let all = all_acted before children es represent in
        let lies : e.span ≡ span_after span (span_before before) (Branch p children) = made.lies ∙ all.over ∙ any_node span (span_before before) p children in
        record { lies = lies; folds = (arguments_of es, made.value, made.is, all.fold, subst (λ (s : Extent). acts p s (arguments_of es) made.value) lies made.acted) }

    all_acted : (before : Option (Placed (AStackType X V))) (ts : Forest X) (es : List (Placed (AStackType X V))) → AllRepresent leaf node before ts es → AllActedAt span acts (span_before before) ts es
    all_acted before Nil [] represent = record { lie = refl; over = refl; fold = tt }
    all_acted before Nil (e ∷ es) represent = absurd represent
    all_acted before (Cons t ts) [] represent = absurd represent
    all_acted before (Cons t ts) (e ∷ es) represent =
        let first = represented_acted before t e represent.0 in
        let others = all_acted (Some e) ts es represent.1 in
        let lie : last_part e.span (spans_of es) ≡ last_span span (span_after span (span_before before) t) ts =
        subst (λ (s : Extent). last_part e.span (spans_of es) ≡ last_span span s ts) first.lies others.lie in
        record {
          lie = lie;
          over = same_ends e.span.start (last_part e.span (spans_of es)).end (span_after span (span_before before) t).start (last_span span (span_after span (span_before before) t) ts).end
              (ap (λ (s : Extent). s.start) first.lies) (ap (λ (s : Extent). s.end) lie);
          fold = (first.folds, subst (λ (s : Extent). AllActedTo span acts s ts (arguments_of es)) first.lies others.fold);
        }

-- what holds for the arguments of entries, place by place, holds for the list of them
pub zip_arguments : {S T : Type 0} (R : S → T → Type 0) (symbols : List S) (es : List (Placed T)) → AllZip (λ s e. R s e.argument) symbols es → AllZip R symbols (arguments_of es)
zip_arguments R [] [] all = tt
zip_arguments R [] (e ∷ es) all = absurd all
zip_arguments R (s ∷ symbols) [] all = absurd all
zip_arguments R (s ∷ symbols) (e ∷ es) all = (all.0, zip_arguments R symbols es all.1)

-- the arguments of the last entries, if these suit the symbols
pub own_arguments : {S T : Type 0} (R : S → T → Type 0) (symbols : List S) (es : List (Placed T)) (count : ℕ) (args : List T)
    → args ≡ arguments_of (drop (length es - count) es) → AllZip (λ s e. R s e.argument) symbols (drop (length es - count) es) → AllZip R symbols args
own_arguments R symbols es count args args_are suit = subst (AllZip R symbols) (sym args_are) (zip_arguments R symbols (drop (length es - count) es) suit)
