-- What symbols stand for, as the grammar grows.
use Rattle.std.proofs.Common.{◌≡◌, ◌≢◌, ◌∙◌, ℕ, List, [], ◌∷◌, ◌++◌, map, Option, Some, None, option_map, refl, ap, sym, subst}
use Rattle.std.specs.List.{slice_get}
use Rattle.std.specs.String.{string_bytes}
use Rattle.std.proofs.lemmas.Option.{slice_get-map}
use Rattle.lrpar_grammar_places.specs.declared.span.Symbol.{Symbol}
use Rattle.lrpar_grammar_typed.specs.Expanding.{Begins, Extends}
use Rattle.lrpar_grammar_typed.specs.Expansion.{AreAlternatives, AreParts, AreRepeated, IsAtom, IsGroup, IsItem, IsItemSymbol, IsMeant, IsOfForm, IsRepeated, IsRuleMeant, IsSymbol, IsTokenMeant, MoreAlternatives, MoreParts, NoAlternative, NoPart, rule_names, token_names}
use Rattle.lrpar_grammar_typed.specs.declared.expand.Expander.{Expander}
use Rattle.lrpar_grammar_typed.specs.declared.file.Alternative.{Alternative, out-Alternative}
use Rattle.lrpar_grammar_typed.specs.declared.file.Atom.{Atom}
use Rattle.lrpar_grammar_typed.specs.declared.file.Item.{Item, out-Item}
use Rattle.lrpar_grammar_typed.specs.declared.file.Mention.{Mention}
use Rattle.lrpar_grammar_typed.specs.declared.file.Part.{Part, out-Part}
use Rattle.lrpar_grammar_typed.specs.declared.file.Repeat.{Repeat}
use Rattle.lrpar_grammar_typed.specs.declared.file.Repeat.TheVariants as repeat
use Rattle.lrpar_grammar_typed.specs.declared.typed.Form.{Form}
use Rattle.lrpar_grammar_typed.specs.declared.typed.Form.TheVariants.{Written}
use Rattle.lrpar_grammar_typed.specs.declared.typed.Making.TheVariants.{Action}
use Rattle.lrpar_grammar_typed.specs.declared.typed.TypedGrammar.{TypedGrammar}
use Rattle.lrpar_grammar_typed.specs.declared.typed.TypedProd.{TypedProd}
use Rattle.lrpar_grammar_typed.specs.declared.typed.TypedRule.{TypedRule}
use Rattle.lrpar_grammar_typed.specs.declared.typed.TypedSymbol.{TypedSymbol}

-- names stay, and rules that aren't written
pub record Keeps (g h : TypedGrammar) : Type 0 where
  pub rules : Begins (rule_names g) (rule_names h)
  pub tokens : Begins (token_names g) (token_names h)
  pub made : (place : ℕ) (rule : TypedRule) → slice_get g.rules.items place ≡ Some rule → rule.form ≢ Written → slice_get h.rules.items place ≡ Some rule

-- the same of an element's image
image_kept : {X Y : Type 0} (f : X → Y) (xs ys : List X) → Begins xs ys → (k : ℕ) (y : Y) (o : Option X) → slice_get xs k ≡ o → option_map f o ≡ Some y
    → slice_get (map f ys) k ≡ Some y
image_kept f xs ys begins k y None there is = absurd (cc)
image_kept f xs ys begins k y (Some x) there is = slice_get-map f ys k ∙ ap (option_map f) (begins k x there) ∙ is

pub begins_map : {X Y : Type 0} (f : X → Y) (xs ys : List X) → Begins xs ys → Begins (map f xs) (map f ys)
begins_map f xs ys begins k y there = image_kept f xs ys begins k y (slice_get xs k) refl (sym (slice_get-map f xs k) ∙ there)

pub keeps_extended : (a b : Expander) → Extends a b → Keeps a.grammar b.grammar
keeps_extended a b extends = record {
  rules = begins_map (λ r. string_bytes r.name) a.grammar.rules.items b.grammar.rules.items extends.rules;
  tokens = begins_map (λ t. string_bytes t.name) a.grammar.tokens.items b.grammar.tokens.items extends.tokens;
  made = λ place rule there made. extends.rules place rule there;
}

module _ (text : List ℕ) (g h : TypedGrammar) (keeps : Keeps g h) where
  pub meant_kept : (m : Mention) (x : Symbol ℕ) → IsMeant text g m x → IsMeant text h m x
  meant_kept m _ (IsRuleMeant place name quoted word there) = IsRuleMeant place name quoted word (keeps.rules place name there)
  meant_kept m _ (IsTokenMeant number name word there) = IsTokenMeant number name word (keeps.tokens number name there)

  pub of_form_kept : (form : Form) (x : Symbol ℕ) → form ≢ Written → IsOfForm g form x → IsOfForm h form x
  of_form_kept form x made is = (is.0, is.1, is.2, keeps.made is.0 is.1 is.3 (λ written. made (sym is.4 ∙ written)), is.4)

  pub repeated_kept : (x : Symbol ℕ) (r : Repeat) (y : Symbol ℕ) → IsRepeated text g x r y → IsRepeated text h x r y
  repeated_kept x repeat.ZeroOrMore y is = of_form_kept _ y (λ e. cc) is
  repeated_kept x repeat.OneOrMore y is = of_form_kept _ y (λ e. cc) is
  repeated_kept x repeat.Optional y is = of_form_kept _ y (λ e. cc) is
  repeated_kept x (repeat.Separated m) y is = (is.0, meant_kept m is.0 is.1, of_form_kept _ y (λ e. cc) is.2)
  repeated_kept x (repeat.Terminated m) y is =
      (is.0, is.1, meant_kept m is.0 is.2, of_form_kept _ is.1 (λ e. cc) is.3, of_form_kept _ y (λ e. cc) is.4)

  pub are_repeated_kept : (x : Symbol ℕ) (rs : List Repeat) (y : Symbol ℕ) → AreRepeated text g x rs y → AreRepeated text h x rs y
  are_repeated_kept x [] y is = is
  are_repeated_kept x (r ∷ rs) y is = (is.0, repeated_kept x r is.0 is.1, are_repeated_kept is.0 rs y is.2)

  mutual
    pub item_kept : (item : Item) (x : Symbol ℕ) → IsItemSymbol text g item x → IsItemSymbol text h item x
    item_kept _ _ (IsItem item x y atom repeated) = IsItem item x y (atom_kept _ x atom) (are_repeated_kept x _ y repeated)

    pub atom_kept : (atom : Atom) (x : Symbol ℕ) → IsAtom text g atom x → IsAtom text h atom x
    atom_kept _ _ (IsSymbol m x meant) = IsSymbol m x (meant_kept m x meant)
    atom_kept _ _ (IsGroup alternatives place rule there group are) =
        IsGroup alternatives place rule (keeps.made place rule there (λ written. let e = sym group ∙ written in cc)) group (alternatives_kept _ _ are)

    pub alternatives_kept : (alternatives : List Alternative) (prods : List TypedProd) → AreAlternatives text g alternatives prods → AreAlternatives text h alternatives prods
    alternatives_kept _ _ NoAlternative = NoAlternative
    alternatives_kept _ _ (MoreAlternatives a others prod prods making span parts are) =
        MoreAlternatives a others prod prods making span (parts_kept _ _ parts) (alternatives_kept _ _ are)

    pub parts_kept : (parts : List Part) (symbols : List TypedSymbol) → AreParts text g parts symbols → AreParts text h parts symbols
    parts_kept _ _ NoPart = NoPart
    parts_kept _ _ (MoreParts part parts symbol symbols name span is are) =
        MoreParts part parts symbol symbols name span (item_kept _ _ is) (parts_kept _ _ are)

-- one repeat more
pub repeated_more : (text : List ℕ) (g : TypedGrammar) (x : Symbol ℕ) (rs : List Repeat) (r : Repeat) (y z : Symbol ℕ)
    → AreRepeated text g x rs y → IsRepeated text g y r z → AreRepeated text g x (rs ++ r ∷ []) z
repeated_more text g x [] r y z are is = (z, subst (λ s. IsRepeated text g s r z) (sym are) is, refl)
repeated_more text g x (q ∷ rs) r y z are is = (are.0, are.1, repeated_more text g are.0 rs r y z are.2 is)

-- one part more
pub parts_more : (text : List ℕ) (g : TypedGrammar) (parts : List Part) (symbols : List TypedSymbol) (part : Part) (symbol : TypedSymbol)
    → AreParts text g parts symbols → symbol.name ≡ (out-Part part).name → symbol.span ≡ (out-Item (out-Part part).item).span
    → IsItemSymbol text g (out-Part part).item symbol.symbol → AreParts text g (parts ++ part ∷ []) (symbols ++ symbol ∷ [])
parts_more text g _ _ part symbol NoPart name span is = MoreParts part [] symbol [] name span is NoPart
parts_more text g _ _ part symbol (MoreParts p ps s ss n e st are) name span is =
    MoreParts p (ps ++ part ∷ []) s (ss ++ symbol ∷ []) n e st (parts_more text g ps ss part symbol are name span is)

-- one alternative more
pub alternatives_more : (text : List ℕ) (g : TypedGrammar) (alternatives : List Alternative) (prods : List TypedProd) (a : Alternative) (prod : TypedProd)
    → AreAlternatives text g alternatives prods → prod.making ≡ Action (out-Alternative a).label → prod.span ≡ (out-Alternative a).span
    → AreParts text g (out-Alternative a).parts.items prod.symbols.items → AreAlternatives text g (alternatives ++ a ∷ []) (prods ++ prod ∷ [])
alternatives_more text g _ _ a prod NoAlternative making span parts = MoreAlternatives a [] prod [] making span parts NoAlternative
alternatives_more text g _ _ a prod (MoreAlternatives b bs p ps m e ss are) making span parts =
    MoreAlternatives b (bs ++ a ∷ []) p (ps ++ prod ∷ []) m e ss (alternatives_more text g bs ps a prod are making span parts)

-- the same in an expander to which rules and tokens were added
module _ (a b : Expander) (extends : Extends a b) where
  pub meant_extended : (m : Mention) (x : Symbol ℕ) → IsMeant a.text.now a.grammar m x → IsMeant b.text.now b.grammar m x
  meant_extended m x is =
      subst (λ text. IsMeant text b.grammar m x) (sym extends.text) (meant_kept a.text.now a.grammar b.grammar (keeps_extended a b extends) m x is)

  pub of_form_extended : (form : Form) (x : Symbol ℕ) → form ≢ Written → IsOfForm a.grammar form x → IsOfForm b.grammar form x
  of_form_extended form x made is = of_form_kept a.text.now a.grammar b.grammar (keeps_extended a b extends) form x made is

  pub are_repeated_extended : (x : Symbol ℕ) (rs : List Repeat) (y : Symbol ℕ) → AreRepeated a.text.now a.grammar x rs y → AreRepeated b.text.now b.grammar x rs y
  are_repeated_extended x rs y is =
      subst (λ text. AreRepeated text b.grammar x rs y) (sym extends.text) (are_repeated_kept a.text.now a.grammar b.grammar (keeps_extended a b extends) x rs y is)

  pub atom_extended : (atom : Atom) (x : Symbol ℕ) → IsAtom a.text.now a.grammar atom x → IsAtom b.text.now b.grammar atom x
  atom_extended atom x is =
      subst (λ text. IsAtom text b.grammar atom x) (sym extends.text) (atom_kept a.text.now a.grammar b.grammar (keeps_extended a b extends) atom x is)

  pub parts_extended : (parts : List Part) (symbols : List TypedSymbol) → AreParts a.text.now a.grammar parts symbols → AreParts b.text.now b.grammar parts symbols
  parts_extended parts symbols is =
      subst (λ text. AreParts text b.grammar parts symbols) (sym extends.text) (parts_kept a.text.now a.grammar b.grammar (keeps_extended a b extends) parts symbols is)

  pub alternatives_extended : (alternatives : List Alternative) (prods : List TypedProd)
      → AreAlternatives a.text.now a.grammar alternatives prods → AreAlternatives b.text.now b.grammar alternatives prods
  alternatives_extended alternatives prods is =
      subst (λ text. AreAlternatives text b.grammar alternatives prods) (sym extends.text)
      (alternatives_kept a.text.now a.grammar b.grammar (keeps_extended a b extends) alternatives prods is)
