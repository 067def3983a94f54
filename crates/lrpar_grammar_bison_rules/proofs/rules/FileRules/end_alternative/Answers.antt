use Rattle.std.proofs.Common.{◌≡◌, ◌-◌, ◌++◌, ◌∷◌, [], length, map, Some, Option, option_map, refl, sym, ap, ◌∙◌}
use Rattle.std.specs.List.{slice_get}
use Rattle.std.proofs.lemmas.List.{length-map, map-append}
use Rattle.std.proofs.lemmas.Option.{slice_get-map}
use Rattle.lrpar_grammar_bison.specs.Words.{PlacedWord, placed}
use Rattle.lrpar_grammar_bison_rules.specs.Rules.{alternative_of, ended, item_of, last_of, rules_in}
use Rattle.lrpar_grammar_bison_rules.proofs.RulesLemmas.{ended_is}
use Rattle.lrpar_grammar_bison_rules.proofs.rules.FileRules.end_alternative.Goals as goal

pub returns-in_ok-push : goal.returns-in_ok-push
returns-in_ok-push c =
    let o = c.args.self.now in
    let rules = o.defined.items in
    let rule = c.in-Some.rule.now in
    let items : c.deref.result.now ≡ rules = c.deref.ensures.value in
    let found : ◌≡◌ {A = Option PlacedWord} (last_of (map placed rules)) (Some (placed rule)) =
    ap (λ n. slice_get (map placed rules) (n - 1)) (length-map rules placed) ∙ slice_get-map placed rules (length rules - 1)
    ∙ ap (option_map placed) (sym (c.in-Some.ensures.value ∙ ap (λ s. slice_get s (length s - 1)) items)) in
    let parts : c.replace-items.result ≡ o.items = c.replace-items.ensures.value in
    let alternatives : map alternative_of c.push.new.self.items ≡ map alternative_of o.alternatives.items ++ ended (rules_in o) (placed c.args.end) =
    ap (map alternative_of) c.in_ok-push.ensures.items ∙ map-append alternative_of o.alternatives.items _
    ∙ ap (λ s. map alternative_of o.alternatives.items ++ record { rule = placed rule; items = map item_of s.items; end = placed c.args.end } ∷ []) parts
    ∙ ap (λ s. map alternative_of o.alternatives.items ++ s) (sym (ended_is (rules_in o) (placed c.args.end) (placed rule) found)) in
    let none : map item_of c.replace-items.new.dest.items ≡ [] = ap (λ v. map item_of v.items) c.replace-items.ensures.after ∙ ap (map item_of) c.new.ensures.items in
    rw (alternatives, none) refl
