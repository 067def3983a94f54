use Rattle.std.proofs.Common.{◌≡◌, ◌<◌, ◌++◌, length, map, get_or, ap, ◌∙◌, arith}
use Rattle.std.specs.List.{filter}
use Rattle.lrpar_grammar_words.specs.Words.{placed}
use Rattle.lrpar_grammar_words.specs.Outline.{TextAlternative, alternative_of}
use Rattle.lrpar_grammar_reader.specs.Spells.{is_token}
use Rattle.lrpar_grammar_reader.proofs.GrowthLemmas.{gave_more}
use Rattle.lrpar_grammar_reader.proofs.tables.token_words.Goals as goal

pub loop-alternative-preserved : goal.loop-alternative-preserved
loop-alternative-preserved c =
    let tokens = filter (is_token c.args.declared.now) in
    let xs = c.args.outline.now.alternatives.items in
    let x = c.alternative-item.result in
    let i = c.loop-alternative.alternative-index in
    let before = map placed c.loop-alternative.words.items in
    let after = map placed c.push_tokens.new.words.items in
    let items = c.deref-alternative-items.ensures.value in
    let at : x ≡ get_or xs i x = rw items at c.alternative-item.is in
    let within : i < length xs = omega (arith, ap length items) in
    let grew : after ≡ before ++ tokens (map placed (get_or xs i x).symbols.items) =
    c.in_ok-push_tokens.ensures ∙ ap (λ s. before ++ tokens (map placed s)) c.deref-in-loop-alternative.ensures.value
    ∙ ap (λ y. before ++ tokens (map placed y.symbols.items)) at in
    gave_more alternative_of (λ (y : TextAlternative). tokens y.symbols) before after (map placed c.args.outline.now.declared.items) xs i x within grew c.loop-alternative.invariant
