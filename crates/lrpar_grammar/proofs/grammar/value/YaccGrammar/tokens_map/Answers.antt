use Rattle.std.proofs.Common.{◌≡◌, ℕ, IfOk, List, map, string_bytes, subst, sym, ap, ◌∙◌}
use Rattle.std.proofs.lemmas.Simd.{map-map}
use Rattle.lrpar_grammar_reader.specs.Parts.{token_name_of}
use Rattle.lrpar_grammar.proofs.grammar.value.YaccGrammar.tokens_map.Goals as goal

pub returns-clause-names : goal.returns-clause-names
returns-clause-names g c =
    let same : map (λ token. string_bytes token.name) c.deref.result.now ≡ map (λ token. token.name) c.args.self.now.tokens =
    ap (map (λ token. string_bytes token.name)) c.deref.ensures.value
    ∙ sym (map-map (λ token. token.name) token_name_of c.self.inside.tokens.items)
    ∙ ap (λ v. map (λ token. token.name) v.tokens) c.self.view_is in
    subst (λ (names : List (List ℕ)). IfOk c.numbered_names.result (λ pairs. map (λ pair. pair.0.now) pairs.items ≡ names)) same c.numbered_names.ensures.names
