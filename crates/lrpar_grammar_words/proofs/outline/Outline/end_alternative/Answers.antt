use Rattle.std.proofs.Common.{◌≡◌, ◌-◌, ◌++◌, ◌∷◌, [], length, map, Some, Option, option_map, refl, sym, ap, ◌∙◌}
use Rattle.std.specs.List.{slice_get}
use Rattle.std.proofs.lemmas.List.{length-map, map-append}
use Rattle.std.proofs.lemmas.Option.{slice_get-map}
use Rattle.lrpar_grammar_words.specs.Words.{PlacedWord, placed}
use Rattle.lrpar_grammar_words.specs.Outline.{alternative_of, ended, outline_of, with_word}
use Rattle.lrpar_grammar_words.proofs.OutlineLemmas.{ended_is}
use Rattle.lrpar_grammar_words.proofs.outline.Outline.end_alternative.Goals as goal

pub returns-in_ok-push : goal.returns-in_ok-push
unfolding with_word
returns-in_ok-push c =
    let o = c.args.self.now in
    let rules = o.defined.items in
    let rule = c.in-Some.rule.now in
    let items : c.deref.result.now ≡ rules = c.deref.ensures.value in
    let found : ◌≡◌ {A = Option PlacedWord} (slice_get (map placed rules) (length (map placed rules) - 1)) (Some (placed rule)) =
    ap (λ n. slice_get (map placed rules) (n - 1)) (length-map rules placed) ∙ slice_get-map placed rules (length rules - 1)
    ∙ ap (option_map placed) (sym (c.in-Some.ensures.value ∙ ap (λ s. slice_get s (length s - 1)) items)) in
    let symbols : c.replace-symbols.result ≡ o.symbols = c.replace-symbols.ensures.value in
    let alternatives : map alternative_of c.push.new.self.items ≡ map alternative_of o.alternatives.items ++ ended (outline_of o) (placed c.args.end) =
    ap (map alternative_of) c.in_ok-push.ensures.items ∙ map-append alternative_of o.alternatives.items _
    ∙ ap (λ s. map alternative_of o.alternatives.items ++ record { rule = placed rule; symbols = map placed s.items; end = placed c.args.end } ∷ []) symbols
    ∙ ap (λ s. map alternative_of o.alternatives.items ++ s) (sym (ended_is (outline_of o) (placed c.args.end) (placed rule) found)) in
    let none : map placed c.replace-symbols.new.dest.items ≡ [] = ap (λ v. map placed v.items) c.replace-symbols.ensures.after ∙ ap (map placed) c.new.ensures.items in
    rw (alternatives, none) refl
