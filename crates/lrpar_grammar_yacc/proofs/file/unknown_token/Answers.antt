use Rattle.std.proofs.Common.{◌≡◌, ◌++◌, Bor, List, ℕ, map, ap, subst, ◌∙◌}
use Rattle.lrpar_grammar_words.specs.Words.{PlacedWord, placed}
use Rattle.lrpar_grammar_yacc.specs.Declares.{TextPrec, level_of, prec_of}
use Rattle.lrpar_grammar_yacc.specs.YaccFiles.{AreNames, first_of, level_names, token_names, unknown_among}
use Rattle.lrpar_grammar_yacc.proofs.file.unknown_token.Goals as goal

pub returns : goal.returns
returns g c =
    let d = c.args.declarations.now in
    let now : Bor (List ℕ) → List ℕ = λ x. x.now in
    let name : TextPrec → PlacedWord = λ x. x.name in
    let tokens = token_names c.args.grm.now in
    let known : map now c.deref.result.now ≡ tokens = ap (map now) c.deref.ensures.value ∙ c.in_ok-names.ensures in
    let avoided : c.unknown_word-avoided.result ≡ unknown_among tokens (map placed d.avoided.items) =
    c.unknown_word-avoided.ensures tokens (subst (AreNames c.in_ok-tokens.tokens) known c.in_ok-tokens.ensures) ∙ ap (λ s. unknown_among tokens (map placed s)) c.deref-2.ensures.value in
    let all = tokens ++ level_names (map level_of d.levels.items) in
    let pushed : map now c.push_levels.new.names.items ≡ all =
    c.in_ok-push_levels.ensures ∙ ap (λ s. s ++ level_names (map level_of c.deref-3.result.now)) c.in_ok-names.ensures
    ∙ ap (λ s. tokens ++ level_names (map level_of s)) c.deref-3.ensures.value in
    let all_known : map now c.deref-4.result.now ≡ all = ap (map now) c.deref-4.ensures.value ∙ pushed in
    let words : map placed c.in_ok-words.words.items ≡ map name (map prec_of d.precs.items) =
    c.in_ok-words.ensures ∙ ap (λ s. map name (map prec_of s)) c.deref-5.ensures.value in
    let prec : c.unknown_word-prec.result ≡ unknown_among all (map name (map prec_of d.precs.items)) =
    c.unknown_word-prec.ensures all (subst (AreNames c.in_ok-all.all) all_known c.in_ok-all.ensures) ∙ ap (λ s. unknown_among all (map placed s)) c.deref-6.ensures.value
    ∙ ap (unknown_among all) words in
    c.first_of.ensures ∙ ap (λ p. first_of p c.unknown_word-avoided.result) prec ∙ ap (first_of (unknown_among all (map name (map prec_of d.precs.items)))) avoided
