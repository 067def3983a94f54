-- A typed grammar as it grows: by a rule or a token at the end.
use Rattle.std.proofs.Common.{◌≡◌, ◌≢◌, ◌∙◌, ◌⊎◌, inl, inr, ℕ, zero, suc, Bool, true, false, cond, List, [], ◌∷◌, ◌++◌, length, map, Option, Some, None, option_map, Result, Ok, Err, bytes_eq, refl, ap, sym, subst}
use Rattle.std.specs.List.{slice_get}
use Rattle.std.specs.Map.{update}
use Rattle.std.specs.String.{string_bytes}
use Rattle.std.specs.Option.{is_some}
use Rattle.std.specs.Result.{IfOk, OnOk}
use Rattle.std.proofs.lemmas.Option.{slice_get-map}
use Rattle.std.proofs.lemmas.Slice.Eq.{bytes_eq-Decides}
use Rattle.lrpar_grammar_typed.specs.Expanding.{AddsRule, AreNumbered, Begins, Extends, IsDeclared, IsSound}
use Rattle.lrpar_grammar_typed.specs.Expansion.{AreApart, AreDistinct, FitForm, HaveProdsOfForms, rule_names, token_names}
use Rattle.lrpar_grammar_typed.specs.declared.expand.Expander.{Expander}
use Rattle.lrpar_grammar_typed.specs.declared.typed.Form.TheVariants.{Written}
use Rattle.lrpar_grammar_typed.specs.declared.typed.TypedGrammar.{TypedGrammar}
use Rattle.lrpar_grammar_typed.specs.declared.typed.TypedRule.{TypedRule}

-- a longer list begins with the list
pub begins_longer : {X : Type 0} (xs ys : List X) → Begins xs (xs ++ ys)
begins_longer [] ys k y there = absurd (cc)
begins_longer (x ∷ xs) ys zero y there = there
begins_longer (x ∷ xs) ys (suc k) y there = begins_longer xs ys k y there

-- the last element
pub last_there : {X : Type 0} (xs : List X) (x : X) → slice_get (xs ++ x ∷ []) (length xs) ≡ Some x
last_there [] x = refl
last_there (y ∷ xs) x = last_there xs x

-- the last element of a list that has it more
pub last_is : {X : Type 0} (after xs : List X) (x : X) (n : ℕ) → after ≡ xs ++ x ∷ [] → n ≡ length xs → slice_get after n ≡ Some x
last_is after xs x n grew is = ap (λ ys. slice_get ys n) grew ∙ ap (slice_get (xs ++ x ∷ [])) is ∙ last_there xs x

-- an element of a list with one more is one of the list, or the last
pub one_more : {X : Type 0} (xs : List X) (x : X) (k : ℕ) (y : X) → slice_get (xs ++ x ∷ []) k ≡ Some y → (slice_get xs k ≡ Some y) ⊎ ((k ≡ length xs) × (y ≡ x))
one_more [] x zero y there = inr (refl, cc)
one_more [] x (suc k) y there = absurd (cc)
one_more (z ∷ xs) x zero y there = inl there
one_more (z ∷ xs) x (suc k) y there =
    elim (one_more xs x k y there) [ inl before ↦ inl before | inr last ↦ inr (ap suc last.0, last.1) ]

-- what is found after a name is added, by whether it is that name
listed_after : (find : List ℕ → Option ℕ) (names : List (List ℕ)) (name : List ℕ) → AreNumbered find names → ◌≡◌ {A = Option ℕ} (find name) None
    → (b : Bool) (place : ℕ) (q : List ℕ) → bytes_eq name q ≡ b → slice_get (names ++ name ∷ []) place ≡ Some q
    → cond b (Some (length names)) (find q) ≡ Some place
listed_after find names name numbered new true place q same there =
    let is : name ≡ q = (bytes_eq-Decides name q).0 same in
    elim (one_more names name place q there) [
      | inl before ↦ let found = numbered.each place q before in let lost = ap find is in absurd (cc)
      | inr last ↦ ap Some (sym last.0)
    ]
listed_after find names name numbered new false place q other there =
    elim (one_more names name place q there) [
      | inl before ↦ numbered.each place q before
      | inr last ↦ let same = (bytes_eq-Decides name q).1 (sym last.1) in absurd (cc)
    ]

found_after : (find : List ℕ → Option ℕ) (names : List (List ℕ)) (name : List ℕ) → AreNumbered find names
    → (b : Bool) (place : ℕ) (q : List ℕ) → bytes_eq name q ≡ b → cond b (Some (length names)) (find q) ≡ Some place
    → slice_get (names ++ name ∷ []) place ≡ Some q
found_after find names name numbered true place q same found =
    let is : name ≡ q = (bytes_eq-Decides name q).0 same in
    let at : length names ≡ place = cc in
    subst (λ k. slice_get (names ++ name ∷ []) k ≡ Some q) at (last_there names name ∙ ap Some is)
found_after find names name numbered false place q other found = begins_longer names (name ∷ []) place q (numbered.found place q found)

-- names stay numbered if a new one is put at the end
pub numbered_more : (find after : List ℕ → Option ℕ) (names : List (List ℕ)) (name : List ℕ) → AreNumbered find names → ◌≡◌ {A = Option ℕ} (find name) None
    → ((q : List ℕ) → after q ≡ update bytes_eq find name (Some (length names)) q) → AreNumbered after (names ++ name ∷ [])
numbered_more find after names name numbered new put = record {
  each = λ place q there. put q ∙ listed_after find names name numbered new (bytes_eq name q) place q refl there;
  found = λ place q found. found_after find names name numbered (bytes_eq name q) place q refl (sym (put q) ∙ found);
}

-- numbered names are distinct
pub numbered_distinct : (find : List ℕ → Option ℕ) (names : List (List ℕ)) → AreNumbered find names → AreDistinct names
numbered_distinct find names numbered i j name first second =
    let is = numbered.each i name first in
    let also = numbered.each j name second in
    cc

-- rules still have the productions of their forms with one more that has
pub forms_more : (rules : List TypedRule) (rule : TypedRule) → HaveProdsOfForms rules → FitForm (length rules) rule.form rule.prods → HaveProdsOfForms (rules ++ rule ∷ [])
forms_more rules rule forms fits place r there =
    elim (one_more rules rule place r there) [
      | inl before ↦ forms place r before
      | inr last ↦
          let fit : FitForm place rule.form rule.prods = subst (λ k. FitForm k rule.form rule.prods) (sym last.0) fits in
          subst (λ x. FitForm place x.form x.prods) (sym last.1) fit
    ]

-- what holds in any case
pub on_result : {T E A : Type 0} (r : Result T E) → A → OnOk r A
on_result (Ok x) holds = holds
on_result (Err e) holds = tt

-- what follows where there is an answer
pub on_ok : {T E A B : Type 0} (r : Result T E) → OnOk r A → (A → B) → OnOk r B
on_ok (Ok x) holds then = then holds
on_ok (Err e) holds then = tt

-- what follows of an answer
pub ok_then : {T E : Type 0} (r : Result T E) (P Q : T → Type 0) → IfOk r P → ((x : T) → P x → Q x) → IfOk r Q
ok_then (Ok x) P Q is then = then x is
ok_then (Err e) P Q is then = tt

-- the same, with what holds where there is one
pub if_ok : {T E A : Type 0} (r : Result T E) (P Q : T → Type 0) → OnOk r A → IfOk r P → (A → (x : T) → P x → Q x) → IfOk r Q
if_ok (Ok x) P Q holds is then = then holds x is
if_ok (Err e) P Q holds is then = tt

-- what follows of an answer of which two things hold
pub ok_both : {T E : Type 0} (r : Result T E) (P Q R : T → Type 0) → IfOk r P → IfOk r Q → ((x : T) → P x → Q x → R x) → IfOk r R
ok_both (Ok x) P Q R first second then = then x first second
ok_both (Err e) P Q R first second then = tt

-- nothing was added
pub extends_same : (e : Expander) → Extends e e
extends_same e = record { text = refl; rules = λ k x there. there; tokens = λ k x there. there; written = λ k x there written. there }

-- more and more was added
pub extends_more : (a b c : Expander) → Extends a b → Extends b c → Extends a c
extends_more a b c first second = record {
  text = second.text ∙ first.text;
  rules = λ k x there. second.rules k x (first.rules k x there);
  tokens = λ k x there. second.tokens k x (first.tokens k x there);
  written = λ k x there written. first.written k x (second.written k x there written) written;
}

-- a rule that isn't written was added
pub extends_rule : (a b : Expander) (rule : TypedRule) → AddsRule a b rule → rule.form ≢ Written → Extends a b
extends_rule a b rule adds made = record {
  text = adds.text;
  rules = λ k x there. subst (λ rules. slice_get rules k ≡ Some x) (sym adds.rules) (begins_longer a.grammar.rules.items (rule ∷ []) k x there);
  tokens = λ k x there. subst (λ tokens. slice_get tokens k ≡ Some x) (sym adds.tokens) there;
  written = λ k x there written.
      elim (one_more a.grammar.rules.items rule k x (subst (λ rules. slice_get rules k ≡ Some x) adds.rules there)) [
        | inl before ↦ before
        | inr last ↦ absurd (made (ap (λ r. r.form) (sym last.1) ∙ written))
      ];
}

-- the rules before are the same after a rule was added
pub adds_begins : (a b : Expander) (rule : TypedRule) → AddsRule a b rule → Begins a.grammar.rules.items b.grammar.rules.items
adds_begins a b rule adds k x there = subst (λ rules. slice_get rules k ≡ Some x) (sym adds.rules) (begins_longer a.grammar.rules.items (rule ∷ []) k x there)

-- a written rule without productions was added
pub declared_more : (a b : Expander) (rule : TypedRule) → IsDeclared a → IsSound b → AddsRule a b rule → rule.form ≡ Written → rule.prods.items ≡ [] → IsDeclared b
declared_more a b rule declared sound adds written empty = record {
  sound = sound;
  no_tokens = adds.tokens ∙ declared.no_tokens;
  empty = λ place r there.
      elim (one_more a.grammar.rules.items rule place r (subst (λ rules. slice_get rules place ≡ Some r) adds.rules there)) [
        | inl before ↦ declared.empty place r before
        | inr last ↦ (ap (λ x. x.form) last.1 ∙ written, ap (λ x. x.prods.items) last.1 ∙ empty)
      ];
}

-- the added rule is the last one
pub added_is_last : (a b : Expander) (rule : TypedRule) → AddsRule a b rule → slice_get b.grammar.rules.items a.grammar.rules.len ≡ Some rule
added_is_last a b rule adds = last_is b.grammar.rules.items a.grammar.rules.items rule a.grammar.rules.len adds.rules a.grammar.rules.ok.0

-- what is there
pub some_there : {X : Type 0} (o : Option X) → is_some o ≡ true → (x : X) × (o ≡ Some x)
some_there None is = absurd (cc)
some_there (Some x) is = (x, refl)

-- nothing is there
pub not_found : {X : Type 0} (o : Option X) → is_some o ≡ false → o ≡ None
not_found None is = refl
not_found (Some x) is = absurd (cc)

-- an element of a list by its image
image_by : {X Y : Type 0} (f : X → Y) (y : Y) (o : Option X) → option_map f o ≡ Some y → (x : X) × (o ≡ Some x) × (f x ≡ y)
image_by f y None is = absurd (cc)
image_by f y (Some x) is = (x, refl, cc)

pub image_of : {X Y : Type 0} (f : X → Y) (xs : List X) (k : ℕ) (y : Y) → slice_get (map f xs) k ≡ Some y → (x : X) × (slice_get xs k ≡ Some x) × (f x ≡ y)
image_of f xs k y there = image_by f y (slice_get xs k) (sym (slice_get-map f xs k) ∙ there)

-- a rule more, which is written only where there is no token
pub apart_more : (g h : TypedGrammar) (rule : TypedRule) → AreApart g → h.rules.items ≡ g.rules.items ++ rule ∷ [] → h.tokens ≡ g.tokens
    → (rule.form ≡ Written → g.tokens.items ≡ []) → AreApart h
apart_more g h rule apart rules tokens none place r there written number is =
    let before : slice_get (token_names g) number ≡ Some (string_bytes r.name) =
    subst (λ ts. slice_get (map (λ t. string_bytes t.name) ts.items) number ≡ Some (string_bytes r.name)) tokens is in
    elim (one_more g.rules.items rule place r (subst (λ rs. slice_get rs place ≡ Some r) rules there)) [
      | inl at ↦ apart place r at written number before
      | inr last ↦
          let empty = none (ap (λ x. x.form) (sym last.1) ∙ written) in
          let nothing : ◌≡◌ {A = Option (List ℕ)} None (Some (string_bytes r.name)) =
          subst (λ ts. slice_get (map (λ t. string_bytes t.name) ts) number ≡ Some (string_bytes r.name)) empty before in
          absurd (cc)
    ]

-- a token more, whose name no rule has
pub apart_token : (g h : TypedGrammar) (name : List ℕ) → AreApart g → h.rules ≡ g.rules → token_names h ≡ token_names g ++ name ∷ []
    → ((place : ℕ) → slice_get (rule_names g) place ≢ Some name) → AreApart h
apart_token g h name apart rules tokens new place r there written number is =
    let at : slice_get g.rules.items place ≡ Some r = subst (λ rs. slice_get rs.items place ≡ Some r) rules there in
    elim (one_more (token_names g) name number (string_bytes r.name) (subst (λ ns. slice_get ns number ≡ Some (string_bytes r.name)) tokens is)) [
      | inl before ↦ apart place r at written number before
      | inr last ↦
          new place (slice_get-map (λ x. string_bytes x.name) g.rules.items place ∙ ap (option_map (λ x. string_bytes x.name)) at ∙ ap Some last.1)
    ]
