-- A typed grammar while it is expanded: what stays true of it, and how it grows.
use Rattle.std.specs.Prelude.{◌≡◌, ◌++◌, ◌∷◌, [], ℕ, List, Option, Some, Vec, slice_get, slice_set, string_bytes}
use Rattle.std.specs.BTreeMap.{get_by, get_by_text}
use Rattle.std.specs.Cmp.Lexicographic.{slice_cmp}
use Rattle.std.specs.Ordering.{nat_cmp}
use Rattle.lrpar_grammar_places.specs.Span.{Extent}
use Rattle.lrpar_grammar_places.specs.declared.span.Symbol.{Symbol}
use Rattle.lrpar_grammar_places.specs.declared.span.TIdx.{TIdx}
use Rattle.lrpar_grammar_typed.specs.Expansion.{AreApart, AreDefined, HaveProdsOfForms, IsDefined, IsFirst, rule_names, rule_symbol, token_names}
use Rattle.lrpar_grammar_typed.specs.Words.{IsWordAt}
use Rattle.lrpar_grammar_typed.specs.declared.expand.Expander.{Expander}
use Rattle.lrpar_grammar_typed.specs.declared.file.Rule.{Rule as Definition}
use Rattle.lrpar_grammar_typed.specs.declared.typed.Form.TheVariants.{Written, Group}
use Rattle.lrpar_grammar_typed.specs.declared.typed.TypedGrammar.{TypedGrammar}
use Rattle.lrpar_grammar_typed.specs.declared.typed.TypedProd.{TypedProd}
use Rattle.lrpar_grammar_typed.specs.declared.typed.TypedRule.{TypedRule}

-- the index of each name is found, and that of no other
pub record AreNumbered (find : List ℕ → Option ℕ) (names : List (List ℕ)) : Type 0 where
  pub each : (index : ℕ) (name : List ℕ) → slice_get names index ≡ Some name → find name ≡ Some index
  pub found : (index : ℕ) (name : List ℕ) → find name ≡ Some index → slice_get names index ≡ Some name

-- the index that the expander has of the rule of a name
abbrev pub rule_index : Expander → List ℕ → Option ℕ
rule_index e name = get_by_text e.rules name

-- the number that the expander has of the token of a name
abbrev pub token_number : Expander → List ℕ → Option ℕ
token_number e name = get_by (λ key. slice_cmp nat_cmp name key.now) e.tokens

-- lists and options have the productions of their forms, the indexes of names are found, and no token has the name of a written rule
pub record IsSound (e : Expander) : Type 0 where
  pub forms : HaveProdsOfForms e.grammar.rules.items
  pub rules : AreNumbered (rule_index e) (rule_names e.grammar)
  pub tokens : AreNumbered (token_number e) (token_names e.grammar)
  pub apart : AreApart e.grammar

-- the new list has at each index what the old one has there
abbrev pub Begins : {X : Type 0} → List X → List X → Type 0
Begins old new = (index : ℕ) (x : _) → slice_get old index ≡ Some x → slice_get new index ≡ Some x

-- this rule was added
pub record AddsRule (old new : Expander) (rule : TypedRule) : Type 0 where
  pub text : new.text.now ≡ old.text.now
  pub rules : new.grammar.rules.items ≡ old.grammar.rules.items ++ rule ∷ []
  pub tokens : new.grammar.tokens.items ≡ old.grammar.tokens.items

-- rules and tokens were added, but no written rule
pub record Extends (old new : Expander) : Type 0 where
  pub text : new.text.now ≡ old.text.now
  pub rules : Begins old.grammar.rules.items new.grammar.rules.items
  pub tokens : Begins old.grammar.tokens.items new.grammar.tokens.items
  pub written : (index : ℕ) (rule : TypedRule) → slice_get new.grammar.rules.items index ≡ Some rule → rule.form ≡ Written
      → slice_get old.grammar.rules.items index ≡ Some rule

-- the token has the name that is at the place
abbrev pub IsTokenAt : List ℕ → TypedGrammar → Extent → TIdx ℕ → Type 0
IsTokenAt text g span token = (name : List ℕ) × IsWordAt text span name × (slice_get (token_names g) token.0 ≡ Some name)

-- the symbol is a group with these productions
abbrev pub IsGroupOf : {A : Type 0} → TypedGrammar → Vec TypedProd A → Symbol ℕ → Type 0
IsGroupOf g prods symbol =
    (index : ℕ) × (rule : TypedRule) × (symbol ≡ rule_symbol index) × (slice_get g.rules.items index ≡ Some rule) × (rule.form ≡ Group) × (rule.prods.items ≡ prods.items)

-- only written rules are there, and none has productions yet
pub record IsDeclared (e : Expander) : Type 0 where
  pub sound : IsSound e
  pub no_tokens : e.grammar.tokens.items ≡ []
  pub empty : (index : ℕ) (rule : TypedRule) → slice_get e.grammar.rules.items index ≡ Some rule → (rule.form ≡ Written) × (rule.prods.items ≡ [])

-- each of all definitions has its rule, and of the written rules those productions are there that these first definitions mean
pub record IsExpanded (text : List ℕ) (all first : List Definition) (e : Expander) : Type 0 where
  pub same_text : e.text.now ≡ text
  pub sound : IsSound e
  pub defined : (k : ℕ) (d : Definition) → slice_get all k ≡ Some d → IsDefined text e.grammar d.name
  pub first_rule : (d : Definition) → slice_get all 0 ≡ Some d → IsFirst text e.grammar d.name
  pub written : (index : ℕ) (rule : TypedRule) → slice_get e.grammar.rules.items index ≡ Some rule → rule.form ≡ Written
      → AreDefined text e.grammar (string_bytes rule.name) first rule.prods.items

-- the productions were added to the rule of the name at the place
pub record AppendsProds (old new : Expander) (name : Extent) (prods : List TypedProd) : Type 0 where
  pub text : new.text.now ≡ old.text.now
  pub index : ℕ
  pub rule : TypedRule
  pub after : TypedRule
  pub there : slice_get old.grammar.rules.items index ≡ Some rule
  pub named : IsWordAt old.text.now name (string_bytes rule.name)
  pub same_name : string_bytes after.name ≡ string_bytes rule.name
  pub same_form : after.form ≡ rule.form
  pub prods_are : after.prods.items ≡ rule.prods.items ++ prods
  pub rules : new.grammar.rules.items ≡ slice_set old.grammar.rules.items index after
  pub tokens : new.grammar.tokens ≡ old.grammar.tokens
  pub indices : new.rules ≡ old.rules
  pub numbers : new.tokens ≡ old.tokens
