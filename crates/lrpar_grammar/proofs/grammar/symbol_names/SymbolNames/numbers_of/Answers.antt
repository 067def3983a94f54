use Rattle.std.proofs.Common.{◌≡◌, Result, Ok, Err, IfOk, map, option_map, ap, ◌∙◌}
use Rattle.lrpar_grammar_words.specs.Words.{ReadsAs, placed}
use Rattle.lrpar_grammar.specs.SymbolNames.{AreNumbersOf}
use Rattle.lrpar_grammar.specs.Spelled.{numbers_spelled}
use Rattle.lrpar_grammar.proofs.SymbolNameLemmas.{numbers_of_words}
use Rattle.lrpar_grammar.proofs.grammar.symbol_names.SymbolNames.numbers_of.Goals as goal

-- what holds of a value implies what holds of it
ok_then : {T E : Type 0} (r : Result T E) (P Q : T → Type 0) → ((x : T) → P x → Q x) → IfOk r P → IfOk r Q
ok_then (Ok x) P Q f has = f x has
ok_then (Err e) P Q f has = tt

pub returns-in-Some : goal.returns-in-Some
returns-in-Some c =
    let n = c.args.self.now in
    let text = c.args.text.now in
    let words = map placed c.in-Some.words.items in
    let reads : ReadsAs text words = rw c.in-Some.is at c.in_ok-words.ensures in
    ok_then c.numbers_spelled.result (λ found. option_map (λ x. x.items) found ≡ numbers_spelled n (map placed c.deref.result.now)) (λ found. AreNumbersOf n text (option_map (λ x. x.items) found))
    (λ found is. numbers_of_words n text words reads (option_map (λ x. x.items) found) (is ∙ ap (λ s. numbers_spelled n (map placed s)) c.deref.ensures.value)) c.numbers_spelled.ensures

pub returns-in-None : goal.returns-in-None
returns-in-None c =
    let unread = rw c.in-None.is at c.in_ok-words.ensures in
    λ numbers spells. unread spells.words spells.reads
