-- Rules get the productions of their definitions, one definition after the other.
use Rattle.std.proofs.Common.{◌≡◌, ◌≢◌, ◌∙◌, ◌⊎◌, inl, inr, ℕ, zero, suc, Bool, true, false, List, [], ◌∷◌, ◌++◌, map, set, Some, option_map, bytes_eq, nat_cmp, refl, ap, sym, subst, arith}
use Rattle.std.specs.BTreeMap.{get_by, get_by_text}
use Rattle.std.specs.Cmp.Lexicographic.{slice_cmp}
use Rattle.std.specs.List.{slice_get}
use Rattle.std.specs.Str.{trim}
use Rattle.std.specs.String.{string_bytes}
use Rattle.std.proofs.lemmas.List.{append-nil, append_assoc, map-set}
use Rattle.std.proofs.lemmas.Option.{same_Some, slice_get-map}
use Rattle.std.proofs.lemmas.Slice.Eq.{bytes_eq-Decides}
use Rattle.lrpar_grammar_places.specs.Span.{Extent, IsPartOf}
use Rattle.lrpar_grammar_typed.specs.Expanding.{AppendsProds, AreNumbered, Extends, IsExpanded, IsSound, rule_index, token_number}
use Rattle.lrpar_grammar_typed.specs.Expansion.{AreAlternatives, AreApart, AreDefined, AreDistinct, HaveProdsOfForms, IsExpansionOf, ItsDefinition, NoDefinition, OtherDefinition, rule_names, token_names}
use Rattle.lrpar_grammar_typed.specs.Words.{IsWordAt}
use Rattle.lrpar_grammar_typed.specs.declared.expand.Expander.{Expander}
use Rattle.lrpar_grammar_typed.specs.declared.file.Rule.{Rule as Definition}
use Rattle.lrpar_grammar_typed.specs.declared.typed.Form.TheVariants.{Written}
use Rattle.lrpar_grammar_typed.specs.declared.typed.TypedGrammar.{TypedGrammar}
use Rattle.lrpar_grammar_typed.specs.declared.typed.TypedProd.{TypedProd}
use Rattle.lrpar_grammar_typed.specs.declared.typed.TypedRule.{TypedRule}
use Rattle.lrpar_grammar_typed.proofs.ExpandingLemmas.{numbered_distinct}
use Rattle.lrpar_grammar_typed.proofs.KeptLemmas.{Keeps, alternatives_kept, keeps_extended}

-- a place has one word
same_word : (text : List ℕ) (span : Extent) (p q s : List ℕ) → (b : Bool) → bytes_eq p q ≡ b → (IsPartOf text span → p ≡ s) → (¬ IsPartOf text span → p ≡ [])
    → (IsPartOf text span → q ≡ s) → (¬ IsPartOf text span → q ≡ []) → p ≡ q
same_word text span p q s true is inside outside inside2 outside2 = (bytes_eq-Decides p q).0 is
same_word text span p q s false is inside outside inside2 outside2 =
    let differ : p ≢ q = λ same. let equal = (bytes_eq-Decides p q).1 same in cc in
    let out : ¬ IsPartOf text span = λ part. differ (inside part ∙ sym (inside2 part)) in
    absurd (differ (outside out ∙ sym (outside2 out)))

pub word_unique : (text : List ℕ) (span : Extent) (a b : List ℕ) → IsWordAt text span a → IsWordAt text span b → a ≡ b
word_unique text span a b first second =
    let parts = same_word text span first.0 second.0 _ (bytes_eq first.0 second.0) refl first.1 first.2 second.1 second.2 in
    first.3 ∙ ap trim parts ∙ sym second.3

-- an element that is put where it is
pub set_same : {X : Type 0} (xs : List X) (i : ℕ) (x : X) → slice_get xs i ≡ Some x → set xs i x ≡ xs
set_same [] i x there = absurd (cc)
set_same (y ∷ xs) zero x there = let is : y ≡ x = cc in ap (λ z. z ∷ xs) (sym is)
set_same (y ∷ xs) (suc i) x there = ap (λ ys. y ∷ ys) (set_same xs i x there)

-- an element of a list with one put at a place
pub at_set : {X : Type 0} (xs : List X) (i : ℕ) (x : X) (k : ℕ) (y : X) → slice_get (set xs i x) k ≡ Some y → ((k ≡ i) × (y ≡ x)) ⊎ ((k ≢ i) × (slice_get xs k ≡ Some y))
at_set [] i x k y there = absurd (cc)
at_set (z ∷ xs) zero x zero y there = inl (refl, cc)
at_set (z ∷ xs) zero x (suc k) y there = inr (λ e. omega arith, there)
at_set (z ∷ xs) (suc i) x zero y there = inr (λ e. omega arith, there)
at_set (z ∷ xs) (suc i) x (suc k) y there =
    elim (at_set xs i x k y there) [ inl same ↦ inl (ap suc same.0, same.1) | inr other ↦ inr (λ e. other.0 (omega arith), other.1) ]

-- what becomes of an element
pub after_set : {X : Type 0} (xs : List X) (i : ℕ) (x : X) (k : ℕ) (y : X) → slice_get xs k ≡ Some y
    → ((k ≡ i) × (slice_get (set xs i x) k ≡ Some x)) ⊎ (slice_get (set xs i x) k ≡ Some y)
after_set [] i x k y there = absurd (cc)
after_set (z ∷ xs) zero x zero y there = inl (refl, refl)
after_set (z ∷ xs) zero x (suc k) y there = inr there
after_set (z ∷ xs) (suc i) x zero y there = inr there
after_set (z ∷ xs) (suc i) x (suc k) y there =
    elim (after_set xs i x k y there) [ inl same ↦ inl (ap suc same.0, same.1) | inr other ↦ inr other ]

-- one definition more, of the rule
pub its_more : (text : List ℕ) (g : TypedGrammar) (name : List ℕ) (ds : List Definition) (prods : List TypedProd) (d : Definition) (more : List TypedProd)
    → AreDefined text g name ds prods → IsWordAt text d.name name → AreAlternatives text g d.alternatives.items more
    → AreDefined text g name (ds ++ d ∷ []) (prods ++ more)
its_more text g name _ _ d more NoDefinition named are =
    subst (AreDefined text g name (d ∷ [])) (append-nil more) (ItsDefinition d [] more [] named are NoDefinition)
its_more text g name _ _ d more (ItsDefinition e es front rest word alternatives defined) named are =
    subst (AreDefined text g name (e ∷ es ++ d ∷ [])) (sym (append_assoc front rest more))
    (ItsDefinition e (es ++ d ∷ []) front (rest ++ more) word alternatives (its_more text g name es rest d more defined named are))
its_more text g name _ _ d more (OtherDefinition e es prods other defined) named are =
    OtherDefinition e (es ++ d ∷ []) (prods ++ more) other (its_more text g name es prods d more defined named are)

-- one definition more, of another rule
pub other_more : (text : List ℕ) (g : TypedGrammar) (name : List ℕ) (ds : List Definition) (prods : List TypedProd) (d : Definition)
    → AreDefined text g name ds prods → ¬ IsWordAt text d.name name → AreDefined text g name (ds ++ d ∷ []) prods
other_more text g name _ _ d NoDefinition other = OtherDefinition d [] [] other NoDefinition
other_more text g name _ _ d (ItsDefinition e es front rest word alternatives defined) other =
    ItsDefinition e (es ++ d ∷ []) front rest word alternatives (other_more text g name es rest d defined other)
other_more text g name _ _ d (OtherDefinition e es prods another defined) other =
    OtherDefinition e (es ++ d ∷ []) prods another (other_more text g name es prods d defined other)

-- the same in a grammar that grew
pub defined_kept : (text : List ℕ) (g h : TypedGrammar) → Keeps g h → (name : List ℕ) (ds : List Definition) (prods : List TypedProd)
    → AreDefined text g name ds prods → AreDefined text h name ds prods
defined_kept text g h keeps name _ _ NoDefinition = NoDefinition
defined_kept text g h keeps name _ _ (ItsDefinition d ds front rest word are defined) =
    ItsDefinition d ds front rest word (alternatives_kept text g h keeps d.alternatives.items front are) (defined_kept text g h keeps name ds rest defined)
defined_kept text g h keeps name _ _ (OtherDefinition d ds prods other defined) =
    OtherDefinition d ds prods other (defined_kept text g h keeps name ds prods defined)

-- rules and tokens were added
pub expanded_extended : (text : List ℕ) (all first : List Definition) (a b : Expander) → IsExpanded text all first a → Extends a b → IsSound b → IsExpanded text all first b
expanded_extended text all first a b expanded extends sound = record {
  same_text = extends.text ∙ expanded.same_text;
  sound = sound;
  defined = λ k d there.
      let is = expanded.defined k d there in
      (is.0, is.1, extends.rules is.0 is.1 is.2, is.3, is.4);
  first_rule = λ d there. let is = expanded.first_rule d there in (is.0, extends.rules 0 is.0 is.1, is.2);
  written = λ place rule there written.
      defined_kept text a.grammar b.grammar (keeps_extended a b extends) (string_bytes rule.name) first rule.prods.items
      (expanded.written place rule (extends.written place rule there written) written);
}

-- the productions of a definition were added to its rule
module _ (text : List ℕ) (all first : List Definition) (a b : Expander) (d : Definition) (j : ℕ) (prods : List TypedProd) (expanded : IsExpanded text all first a)
    (there : slice_get all j ≡ Some d) (appends : AppendsProds a b d.name prods) where
  named : IsWordAt text d.name (string_bytes appends.rule.name)
  named = subst (λ t. IsWordAt t d.name (string_bytes appends.rule.name)) expanded.same_text appends.named

  -- a rule of that name is that rule
  same_place : (k : ℕ) (r : TypedRule) → slice_get a.grammar.rules.items k ≡ Some r → IsWordAt text d.name (string_bytes r.name) → k ≡ appends.index
  same_place k r at word =
      let name : TypedRule → List ℕ = λ x. string_bytes x.name in
      let rules = a.grammar.rules.items in
      let same : name r ≡ name appends.rule = word_unique text d.name (name r) (name appends.rule) word named in
      numbered_distinct (rule_index a) (rule_names a.grammar) expanded.sound.rules k appends.index (name r)
      (slice_get-map name rules k ∙ ap (option_map name) at)
      (slice_get-map name rules appends.index ∙ ap (option_map name) appends.there ∙ ap Some (sym same))

  is_written : appends.rule.form ≡ Written
  is_written =
      let is = expanded.defined j d there in
      let place = same_place is.0 is.1 is.2 is.4 in
      let also : slice_get a.grammar.rules.items appends.index ≡ Some is.1 = subst (λ k. slice_get a.grammar.rules.items k ≡ Some is.1) place is.2 in
      let same : is.1 ≡ appends.rule = same_Some is.1 appends.rule (sym also ∙ appends.there) in
      ap (λ r. r.form) (sym same) ∙ is.3

  -- names stay
  names_stay : rule_names b.grammar ≡ rule_names a.grammar
  names_stay =
      let name : TypedRule → List ℕ = λ x. string_bytes x.name in
      let rules = a.grammar.rules.items in
      ap (map name) appends.rules ∙ map-set name rules appends.index appends.after ∙ ap (set (map name rules) appends.index) appends.same_name
      ∙ set_same (map name rules) appends.index (name appends.rule) (slice_get-map name rules appends.index ∙ ap (option_map name) appends.there)

  tokens_stay : token_names b.grammar ≡ token_names a.grammar
  tokens_stay = ap (λ tokens. map (λ t. string_bytes t.name) tokens.items) appends.tokens

  -- where a rule of the new grammar comes from
  comes_from : (k : ℕ) (r : TypedRule) → slice_get b.grammar.rules.items k ≡ Some r
      → ((k ≡ appends.index) × (r ≡ appends.after)) ⊎ ((k ≢ appends.index) × (slice_get a.grammar.rules.items k ≡ Some r))
  comes_from k r at = at_set a.grammar.rules.items appends.index appends.after k r (subst (λ rules. slice_get rules k ≡ Some r) appends.rules at)

  -- where a rule of the old grammar goes
  goes_to : (k : ℕ) (r : TypedRule) → slice_get a.grammar.rules.items k ≡ Some r
      → ((k ≡ appends.index) × (slice_get b.grammar.rules.items k ≡ Some appends.after)) ⊎ (slice_get b.grammar.rules.items k ≡ Some r)
  goes_to k r at =
      let after = after_set a.grammar.rules.items appends.index appends.after k r at in
      subst (λ rules. ((k ≡ appends.index) × (slice_get rules k ≡ Some appends.after)) ⊎ (slice_get rules k ≡ Some r)) (sym appends.rules) after

  same_rule : (k : ℕ) (r : TypedRule) → slice_get a.grammar.rules.items k ≡ Some r → k ≡ appends.index → r ≡ appends.rule
  same_rule k r at is = same_Some r appends.rule (sym at ∙ ap (slice_get a.grammar.rules.items) is ∙ appends.there)

  pub keeps_appended : Keeps a.grammar b.grammar
  keeps_appended = record {
    rules = λ k x at. subst (λ names. slice_get names k ≡ Some x) (sym names_stay) at;
    tokens = λ k x at. subst (λ names. slice_get names k ≡ Some x) (sym tokens_stay) at;
    made = λ k r at made.
        elim (goes_to k r at) [
          | inl same ↦ absurd (made (ap (λ x. x.form) (same_rule k r at same.0) ∙ is_written))
          | inr other ↦ other
        ];
  }

  sound_appended : IsSound b
  sound_appended = record {
    forms = λ k r at.
        elim (comes_from k r at) [
          | inl same ↦ λ made. absurd (made (ap (λ x. x.form) same.1 ∙ appends.same_form ∙ is_written))
          | inr other ↦ expanded.sound.forms k r other.1
        ];
    rules = subst (AreNumbered (rule_index b)) (sym names_stay) (subst (λ m. AreNumbered (get_by_text m) (rule_names a.grammar)) (sym appends.indices) expanded.sound.rules);
    tokens = subst (AreNumbered (token_number b)) (sym tokens_stay)
        (subst (λ m. AreNumbered (λ name. get_by (λ key. slice_cmp nat_cmp name key.now) m) (token_names a.grammar)) (sym appends.numbers) expanded.sound.tokens);
    apart = λ k r at written number is.
        let before : slice_get (token_names a.grammar) number ≡ Some (string_bytes r.name) =
        subst (λ names. slice_get names number ≡ Some (string_bytes r.name)) tokens_stay is in
        elim (comes_from k r at) [
          | inl same ↦
              let name : string_bytes r.name ≡ string_bytes appends.rule.name = ap (λ x. string_bytes x.name) same.1 ∙ appends.same_name in
              expanded.sound.apart appends.index appends.rule appends.there is_written number (before ∙ ap Some name)
          | inr other ↦ expanded.sound.apart k r other.1 written number before
        ];
  }

  pub expanded_appended : AreAlternatives a.text.now a.grammar d.alternatives.items prods → IsExpanded text all (first ++ d ∷ []) b
  expanded_appended are =
      let alternatives : AreAlternatives text b.grammar d.alternatives.items prods =
      alternatives_kept text a.grammar b.grammar keeps_appended d.alternatives.items prods
      (subst (λ t. AreAlternatives t a.grammar d.alternatives.items prods) expanded.same_text are) in
      record {
        same_text = appends.text ∙ expanded.same_text;
        sound = sound_appended;
        defined = λ k e at.
            let is = expanded.defined k e at in
            elim (goes_to is.0 is.1 is.2) [
              | inl same ↦
                  let rule = same_rule is.0 is.1 is.2 same.0 in (
                    is.0,
                    appends.after,
                    same.1,
                    appends.same_form ∙ is_written,
                    subst (IsWordAt text e.name) (ap (λ r. string_bytes r.name) rule ∙ sym appends.same_name) is.4,
                  )
              | inr other ↦ (is.0, is.1, other, is.3, is.4)
            ];
        first_rule = λ e at.
            let is = expanded.first_rule e at in
            elim (goes_to 0 is.0 is.1) [
              | inl same ↦
                  let rule = same_rule 0 is.0 is.1 same.0 in
                  (appends.after, same.1, subst (IsWordAt text e.name) (ap (λ r. string_bytes r.name) rule ∙ sym appends.same_name) is.2)
              | inr other ↦ (is.0, other, is.2)
            ];
        written = λ k r at written.
            elim (comes_from k r at) [
              | inl same ↦
                  let name = string_bytes appends.rule.name in
                  let before : AreDefined text b.grammar name first appends.rule.prods.items =
                  defined_kept text a.grammar b.grammar keeps_appended name first appends.rule.prods.items
                  (expanded.written appends.index appends.rule appends.there is_written) in
                  let more : AreDefined text b.grammar name (first ++ d ∷ []) (appends.rule.prods.items ++ prods) =
                  its_more text b.grammar name first appends.rule.prods.items d prods before named alternatives in
                  let after : AreDefined text b.grammar (string_bytes appends.after.name) (first ++ d ∷ []) appends.after.prods.items =
                  subst (λ n. AreDefined text b.grammar n (first ++ d ∷ []) appends.after.prods.items) (sym appends.same_name)
                  (subst (AreDefined text b.grammar name (first ++ d ∷ [])) (sym appends.prods_are) more) in
                  subst (λ x. AreDefined text b.grammar (string_bytes x.name) (first ++ d ∷ []) x.prods.items) (sym same.1) after
              | inr other ↦
                  other_more text b.grammar (string_bytes r.name) first r.prods.items d
                  (defined_kept text a.grammar b.grammar keeps_appended (string_bytes r.name) first r.prods.items (expanded.written k r other.1 written))
                  (λ word. other.0 (same_place k r other.1 word))
            ];
      }

-- the grammar of an expander that has taken each definition
module _ (text : List ℕ) (all first : List Definition) (e : Expander) (expanded : IsExpanded text all first e) (every : first ≡ all)
    (g : TypedGrammar) (rules : g.rules ≡ e.grammar.rules) (tokens : g.tokens ≡ e.grammar.tokens) where
  keeps_finished : Keeps e.grammar g
  keeps_finished = record {
    rules = λ k x at. subst (λ rs. slice_get (map (λ r. string_bytes r.name) rs.items) k ≡ Some x) (sym rules) at;
    tokens = λ k x at. subst (λ ts. slice_get (map (λ t. string_bytes t.name) ts.items) k ≡ Some x) (sym tokens) at;
    made = λ k r at made. subst (λ rs. slice_get rs.items k ≡ Some r) (sym rules) at;
  }

  pub finished_expansion : IsExpansionOf text all g
  finished_expansion = record {
    defined = λ k d there.
        let is = expanded.defined k d there in
        (is.0, is.1, subst (λ rs. slice_get rs.items is.0 ≡ Some is.1) (sym rules) is.2, is.3, is.4);
    first = λ d there.
        let is = expanded.first_rule d there in
        (is.0, subst (λ rs. slice_get rs.items 0 ≡ Some is.0) (sym rules) is.1, is.2);
    written = λ place rule there written.
        let at : slice_get e.grammar.rules.items place ≡ Some rule = subst (λ rs. slice_get rs.items place ≡ Some rule) rules there in
        subst (λ ds. AreDefined text g (string_bytes rule.name) ds rule.prods.items) every
        (defined_kept text e.grammar g keeps_finished (string_bytes rule.name) first rule.prods.items (expanded.written place rule at written));
  }

  pub finished_forms : HaveProdsOfForms g.rules.items
  finished_forms = subst (λ rs. HaveProdsOfForms rs.items) (sym rules) expanded.sound.forms

  pub finished_rules : AreDistinct (rule_names g)
  finished_rules =
      subst (λ rs. AreDistinct (map (λ r. string_bytes r.name) rs.items)) (sym rules) (numbered_distinct (rule_index e) (rule_names e.grammar) expanded.sound.rules)

  pub finished_tokens : AreDistinct (token_names g)
  finished_tokens =
      subst (λ ts. AreDistinct (map (λ t. string_bytes t.name) ts.items)) (sym tokens) (numbered_distinct (token_number e) (token_names e.grammar) expanded.sound.tokens)

  pub finished_apart : AreApart g
  finished_apart = λ k r at written number is.
      expanded.sound.apart k r (subst (λ rs. slice_get rs.items k ≡ Some r) rules at) written number
      (subst (λ ts. slice_get (map (λ t. string_bytes t.name) ts.items) number ≡ Some (string_bytes r.name)) tokens is)
