use Rattle.std.proofs.Common.{◌≡◌, ◌∙◌, ◌++◌, ◌∷◌, [], ℕ, List, Option, Some, bytes_eq, length, map, ap, refl, sym, subst, arith}
use Rattle.std.specs.String.{string_bytes}
use Rattle.std.specs.BTreeMap.{get_by_text}
use Rattle.std.specs.Map.{update}
use Rattle.std.proofs.lemmas.List.{length-map, map_push}
use Rattle.std.proofs.lemmas.Map.Text.{btree_map_updates_text}
use Rattle.lrpar_grammar_typed.specs.Expanding.{AreNumbered, rule_index}
use Rattle.lrpar_grammar_typed.specs.Expansion.{FitForm, HaveProdsOfForms, rule_names}
use Rattle.lrpar_grammar_typed.proofs.ExpandingLemmas.{apart_more, forms_more, numbered_more}
use Rattle.lrpar_grammar_typed.proofs.expand.Expander.add_rule.Goals as goal

pub returns-clause-sound : goal.returns-clause-sound
returns-clause-sound c =
    let e = c.args.self.now in
    let rule = c.args.rule in
    let names = rule_names e.grammar in
    let name = string_bytes rule.name in
    let find = rule_index e in
    let after : List ℕ → Option ℕ = λ q. get_by_text c.insert.new.self q in
    let count : length e.grammar.rules.items ≡ c.len-index.result = omega (arith, c.len-index.ensures, e.grammar.rules.ok.0) in
    let number : c.len-index.result ≡ length names = omega (arith, count, length-map e.grammar.rules.items (λ r. string_bytes r.name)) in
    let key : string_bytes c.in_ok-name.name ≡ name = c.in_ok-name.ensures.ok ∙ c.as_str.ensures.value in
    let put : (q : List ℕ) → after q ≡ update bytes_eq find name (Some (length names)) q =
    λ q. btree_map_updates_text (string_bytes c.in_ok-name.name) e.rules c.insert.new.self (Some c.len-index.result) c.in_ok-insert.ensures.updates q
    ∙ ap (λ n. update bytes_eq find (string_bytes c.in_ok-name.name) (Some n) q) number
    ∙ ap (λ k. update bytes_eq find k (Some (length names)) q) key in
    let pushed : rule_names (record e.grammar { rules = c.push.new.self }) ≡ names ++ name ∷ [] =
    ap (map (λ r. string_bytes r.name)) c.in_ok-push.ensures.items ∙ map_push (λ r. string_bytes r.name) e.grammar.rules.items rule in
    record {
      forms = subst HaveProdsOfForms (sym c.in_ok-push.ensures.items)
          (forms_more e.grammar.rules.items rule c.requires.sound.forms
          (subst (λ index. FitForm index rule.form rule.prods) e.grammar.rules.ok.0 c.requires.prods));
      rules = subst (AreNumbered after) (sym pushed) (numbered_more find after names name c.requires.sound.rules c.requires.new put);
      tokens = c.requires.sound.tokens;
      apart = apart_more e.grammar (record e.grammar { rules = c.push.new.self }) rule c.requires.sound.apart c.in_ok-push.ensures.items refl c.requires.apart;
    }
