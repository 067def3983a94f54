use Rattle.std.proofs.Common.{◌≡◌, ◌∙◌, ◌++◌, ◌∷◌, [], ℕ, List, Option, Some, None, bytes_eq, length, map, ap, refl, sym, subst, arith}
use Rattle.std.specs.List.{slice_get}
use Rattle.std.specs.String.{string_bytes}
use Rattle.std.specs.BTreeMap.{get_by}
use Rattle.std.specs.Cmp.Lexicographic.{slice_cmp}
use Rattle.std.specs.Map.{update}
use Rattle.std.specs.Ordering.{nat_cmp}
use Rattle.std.proofs.lemmas.List.{length-map, map_push}
use Rattle.std.proofs.lemmas.Grind.{common_steps}
use Rattle.std.proofs.lemmas.Map.Text.{btree_map_updates_str}
use Rattle.lrpar_grammar_typed.specs.Expanding.{AreNumbered, rule_index, token_number}
use Rattle.lrpar_grammar_typed.specs.Expansion.{token_names}
use Rattle.lrpar_grammar_typed.proofs.ExpandingLemmas.{apart_token, not_found, begins_longer, last_is, numbered_more}
use Rattle.lrpar_grammar_typed.proofs.expand.Expander.number_token.Goals as goal

-- the number of the new token
number_is : (c : goal.In_ok-push) → c.in_ok-token.token ≡ length (token_names c.args.self.now.grammar)
number_is c =
    let e = c.args.self.now in
    let is : c.in_ok-token.token ≡ c.len.result = grind (arith, common_steps) in
    omega (arith, c.len.ensures, e.grammar.tokens.ok.0, length-map e.grammar.tokens.items (λ t. string_bytes t.name))

-- the names with that of the new token
names_are : (c : goal.In_ok-push) → map (λ t. string_bytes t.name) c.push.new.self.items ≡ token_names c.args.self.now.grammar ++ c.word_at-name.result.now ∷ []
names_are c =
    let tokens = c.args.self.now.grammar.tokens.items in
    ap (map (λ t. string_bytes t.name)) c.in_ok-push.ensures.items ∙ map_push (λ t. string_bytes t.name) tokens _
    ∙ ap (λ n. map (λ t. string_bytes t.name) tokens ++ n ∷ []) c.in_ok-name.ensures.ok

pub returns-clause-sound : goal.returns-clause-sound
returns-clause-sound c =
    let e = c.args.self.now in
    let names = token_names e.grammar in
    let name = c.word_at-name.result.now in
    let find = token_number e in
    let after : List ℕ → Option ℕ = λ q. get_by (λ key. slice_cmp nat_cmp q key.now) c.insert.new.self in
    let put : (q : List ℕ) → after q ≡ update bytes_eq find name (Some (length names)) q =
    λ q. btree_map_updates_str name e.tokens c.insert.new.self (Some c.in_ok-token.token) c.in_ok-insert.ensures.updates q
    ∙ ap (λ n. update bytes_eq find name (Some n) q) (number_is c) in
    let new : ◌≡◌ {A = Option ℕ} (find name) None = grind (arith, common_steps) in
    record {
      forms = c.requires.forms;
      rules = c.requires.rules;
      tokens = subst (AreNumbered after) (sym (names_are c)) (numbered_more find after names name c.requires.tokens new put);
      apart = apart_token e.grammar (record e.grammar { tokens = c.push.new.self }) name c.requires.apart refl (names_are c)
          (λ place there.
          let is = c.requires.rules.each place name there in
          let none = not_found (rule_index e name) (sym c.contains_key.ensures ∙ c.if-contains_key.false) in
          cc);
    }

pub returns-in-Some-clause-token : goal.returns-in-Some-clause-token
returns-in-Some-clause-token c =
    let name = c.word_at-name.result.now in
    (name, c.word_at-name.ensures, c.requires.tokens.found c.in-Some.token.now name (sym c.in-Some.ensures.value))

pub returns-clause-token : goal.returns-clause-token
returns-clause-token c =
    let names = token_names c.args.self.now.grammar in
    let name = c.word_at-name.result.now in
    (name, c.word_at-name.ensures, last_is _ names name c.in_ok-token.token (names_are c) (number_is c))

pub returns-clause-extends : goal.returns-clause-extends
returns-clause-extends c = record {
  text = refl;
  rules = λ k x there. there;
  tokens = λ k x there. subst (λ tokens. slice_get tokens k ≡ Some x) (sym c.in_ok-push.ensures.items) (begins_longer c.args.self.now.grammar.tokens.items _ k x there);
  written = λ k x there written. there;
}
