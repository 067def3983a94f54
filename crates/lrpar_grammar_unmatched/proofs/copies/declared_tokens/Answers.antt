use Rattle.std.proofs.Common.{◌≡◌, Some, subst}
use Rattle.std.specs.List.{slice_get}
use Rattle.lrpar_grammar_reader.specs.Parts.{token_name_of}
use Rattle.lrpar_grammar_unmatched.proofs.CopyLemmas.{copies_grow}
use Rattle.lrpar_grammar_unmatched.proofs.copies.declared_tokens.Goals as goal

pub loop-number-preserved : goal.loop-number-preserved
loop-number-preserved g c =
    let tokens = c.args.grm.now.tokens in
    let number = c.loop-number.number in
    let is : g.StorageT.StorageIndex.index c.unwrap.result ≡ number = rw c.unwrap.ensures at c.from_index.ensures.back in
    copies_grow token_name_of tokens number c.loop-number.tokens.items c.push.new.self.items c.in_ok-copied_token.field-0
    c.loop-number.invariant c.in_ok-push.ensures.items
    (subst (λ n. slice_get tokens n ≡ Some (token_name_of c.in_ok-copied_token.field-0)) is c.in_ok-copied_token.ensures)
