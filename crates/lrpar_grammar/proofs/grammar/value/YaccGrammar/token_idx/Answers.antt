use Rattle.std.proofs.Common.{◌≡◌, Some, ℕ, string_bytes, sym, ap, ◌∙◌}
use Rattle.std.specs.List.{position}
use Rattle.std.specs.Str.{bytes_eq}
use Rattle.lrpar_grammar_reader.specs.Parts.{token_name_of}
use Rattle.lrpar_grammar_places.proofs.ListLemmas.{position-map}
use Rattle.lrpar_grammar.proofs.grammar.value.YaccGrammar.token_idx.Goals as goal

pub returns-in-Some : goal.returns-in-Some
returns-in-Some g c =
    let is : g.StorageT.StorageIndex.index c.unwrap.result ≡ c.in-Some.number = rw c.unwrap.ensures at c.from_index.ensures.back in
    let name = c.args.name.now in
    ap (λ (n : ℕ). Some n) is ∙ c.in-Some.ensures ∙ ap (position (λ token. bytes_eq (string_bytes token.name) name)) c.deref.ensures.value
    ∙ sym (position-map (λ token. bytes_eq token.name name) token_name_of c.self.inside.tokens.items)
    ∙ ap (λ v. position (λ token. bytes_eq token.name name) v.tokens) c.self.view_is

pub returns-in-None : goal.returns-in-None
returns-in-None g c =
    let name = c.args.name.now in
    c.in-None.ensures ∙ ap (position (λ token. bytes_eq (string_bytes token.name) name)) c.deref.ensures.value
    ∙ sym (position-map (λ token. bytes_eq token.name name) token_name_of c.self.inside.tokens.items)
    ∙ ap (λ v. position (λ token. bytes_eq token.name name) v.tokens) c.self.view_is
