use Rattle.std.proofs.Common.{◌≡◌, ◌-◌, ◌++◌, length, map, Some, Option, option_map, refl, sym, ap, ◌∙◌}
use Rattle.std.specs.List.{slice_get}
use Rattle.std.proofs.lemmas.List.{length-map, map-append}
use Rattle.std.proofs.lemmas.Option.{slice_get-map}
use Rattle.lrpar_grammar_bison.specs.Words.{PlacedWord, placed}
use Rattle.lrpar_grammar_bison_rules.specs.Rules.{last_of, number_by, number_of, rules_in, with_role}
use Rattle.lrpar_grammar_bison_rules.proofs.RulesLemmas.{numbered_is}
use Rattle.lrpar_grammar_bison_rules.proofs.rules.FileRules.add_number.Goals as goal

pub returns-in_ok-push : goal.returns-in_ok-push
unfolding with_role
returns-in_ok-push c =
    let o = c.args.self.now in
    let tokens = o.tokens.items in
    let token = c.in-Some.last.now in
    let found : ◌≡◌ {A = Option PlacedWord} (last_of (map placed tokens)) (Some (placed token)) =
    ap (λ n. slice_get (map placed tokens) (n - 1)) (length-map tokens placed) ∙ slice_get-map placed tokens (length tokens - 1)
    ∙ ap (option_map placed) (sym (c.in-Some.ensures.value ∙ ap (λ s. slice_get s (length s - 1)) c.deref.ensures.value)) in
    let numbers : map number_of c.push.new.self.items ≡ map number_of o.numbers.items ++ number_by (rules_in o) (placed c.args.number) =
    ap (map number_of) c.in_ok-push.ensures.items ∙ map-append number_of o.numbers.items _
    ∙ ap (λ s. map number_of o.numbers.items ++ s) (sym (numbered_is (last_of (map placed tokens)) (placed c.args.number) (placed token) found)) in
    rw numbers refl
