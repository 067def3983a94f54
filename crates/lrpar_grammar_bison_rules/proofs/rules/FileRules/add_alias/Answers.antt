use Rattle.std.proofs.Common.{◌≡◌, ◌-◌, ◌++◌, length, map, Some, Option, option_map, refl, sym, ap, ◌∙◌}
use Rattle.std.specs.List.{slice_get}
use Rattle.std.proofs.lemmas.List.{length-map, map-append}
use Rattle.std.proofs.lemmas.Option.{slice_get-map}
use Rattle.lrpar_grammar_bison.specs.Words.{PlacedWord, placed}
use Rattle.lrpar_grammar_bison_rules.specs.Aliases.{alias_of}
use Rattle.lrpar_grammar_bison_rules.specs.Rules.{alias_by, last_of, rules_in, with_role}
use Rattle.lrpar_grammar_bison_rules.proofs.RulesLemmas.{alias_is}
use Rattle.lrpar_grammar_bison_rules.proofs.rules.FileRules.add_alias.Goals as goal

pub returns-in_ok-push : goal.returns-in_ok-push
unfolding with_role
returns-in_ok-push c =
    let o = c.args.self.now in
    let tokens = o.tokens.items in
    let token = c.in-Some.token.now in
    let found : ◌≡◌ {A = Option PlacedWord} (last_of (map placed tokens)) (Some (placed token)) =
    ap (λ n. slice_get (map placed tokens) (n - 1)) (length-map tokens placed) ∙ slice_get-map placed tokens (length tokens - 1)
    ∙ ap (option_map placed) (sym (c.in-Some.ensures.value ∙ ap (λ s. slice_get s (length s - 1)) c.deref.ensures.value)) in
    let aliases : map alias_of c.push.new.self.items ≡ map alias_of o.aliases.items ++ alias_by (rules_in o) (placed c.args.text) =
    ap (map alias_of) c.in_ok-push.ensures.items ∙ map-append alias_of o.aliases.items _
    ∙ ap (λ s. map alias_of o.aliases.items ++ s) (sym (alias_is (rules_in o) (placed c.args.text) (placed token) found)) in
    rw aliases refl
