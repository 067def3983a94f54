use Rattle.std.proofs.Common.{◌≡◌, ◌-◌, ◌++◌, length, map, Some, Option, option_map, refl, sym, ap, ◌∙◌}
use Rattle.std.specs.List.{slice_get}
use Rattle.std.proofs.lemmas.List.{length-map, map-append}
use Rattle.std.proofs.lemmas.Option.{slice_get-map}
use Rattle.lrpar_grammar_bison.specs.Words.{PlacedWord, placed}
use Rattle.lrpar_grammar_bison_rules.specs.Rules.{FileRank, last_of, level_number_by, number_of, rank_of, rules_in, with_role}
use Rattle.lrpar_grammar_bison_rules.proofs.RulesLemmas.{numbered_is}
use Rattle.lrpar_grammar_bison_rules.proofs.rules.FileRules.add_level_number.Goals as goal

pub returns-in_ok-push : goal.returns-in_ok-push
unfolding with_role
returns-in_ok-push c =
    let o = c.args.self.now in
    let ranks = o.ranked.items in
    let rank = c.in-Some.last.now in
    let last : ◌≡◌ {A = Option FileRank} (last_of (map rank_of ranks)) (Some (rank_of rank)) =
    ap (λ n. slice_get (map rank_of ranks) (n - 1)) (length-map ranks rank_of) ∙ slice_get-map rank_of ranks (length ranks - 1)
    ∙ ap (option_map rank_of) (sym (c.in-Some.ensures.value ∙ ap (λ s. slice_get s (length s - 1)) c.deref.ensures.value)) in
    let found : ◌≡◌ {A = Option PlacedWord} (option_map (λ (x : FileRank). x.word) (last_of (map rank_of ranks))) (Some (placed rank.word)) =
    ap (option_map (λ (x : FileRank). x.word)) last in
    let numbers : map number_of c.push.new.self.items ≡ map number_of o.numbers.items ++ level_number_by (rules_in o) (placed c.args.number) =
    ap (map number_of) c.in_ok-push.ensures.items ∙ map-append number_of o.numbers.items _
    ∙ ap (λ s. map number_of o.numbers.items ++ s) (sym (numbered_is (option_map (λ (x : FileRank). x.word) (last_of (map rank_of ranks))) (placed c.args.number) (placed rank.word) found)) in
    rw numbers refl
