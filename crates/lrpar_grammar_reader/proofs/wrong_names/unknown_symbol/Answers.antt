use Rattle.std.proofs.Common.{◌≡◌, ◌<◌, true, length, map, not, take, get_or, ap, sym, subst, ◌∙◌, arith}
use Rattle.std.specs.List.{All, find}
use Rattle.std.proofs.lemmas.List.{get_or-map, length-map}
use Rattle.lrpar_grammar_words.specs.Words.{PlacedWord, placed}
use Rattle.lrpar_grammar_words.specs.Outline.{TextAlternative, alternative_of}
use Rattle.lrpar_grammar_reader.specs.Spells.{LiesAt, is_known}
use Rattle.lrpar_grammar_reader.specs.TextNames.{numbering_by}
use Rattle.lrpar_grammar_reader.proofs.FaultsLemmas.{all_of, none_fails_in, lies_at_in}
use Rattle.lrpar_grammar_reader.proofs.GrowthLemmas.{all_more}
use Rattle.lrpar_grammar_reader.proofs.wrong_names.unknown_symbol.Goals as goal

pub returns-in-Some : goal.returns-in-Some
returns-in-Some c =
    let xs = c.args.alternatives.now in
    let x = c.alternative-item.result in
    let i = c.loop-alternative.alternative-index in
    let n = numbering_by c.args.tables.now in
    let within : i < length xs = omega arith in
    let at : get_or (map alternative_of xs) i (alternative_of x) ≡ alternative_of x =
    get_or-map alternative_of xs i x (alternative_of x) within ∙ ap alternative_of (sym c.alternative-item.is) in
    let here : LiesAt (find (λ w. not (is_known n w)) (map placed x.symbols.items)) c.in-Some.span =
    subst (λ s. LiesAt (find (λ w. not (is_known n w)) (map placed s)) c.in-Some.span) c.deref.ensures.value c.in-Some.ensures in
    lies_at_in (λ w. not (is_known n w)) (λ (y : TextAlternative). y.symbols) (map alternative_of xs) i (alternative_of x) c.in-Some.span (omega (arith, length-map xs alternative_of))
    (none_fails_in (is_known n) (λ (y : TextAlternative). y.symbols) (take i (map alternative_of xs)) c.loop-alternative.invariant)
    (subst (λ (y : TextAlternative). LiesAt (find (λ w. not (is_known n w)) y.symbols) c.in-Some.span) (sym at) here)

pub loop-alternative-preserved : goal.loop-alternative-preserved
loop-alternative-preserved c =
    let xs = c.args.alternatives.now in
    let x = c.alternative-item.result in
    let i = c.loop-alternative.alternative-index in
    let n = numbering_by c.args.tables.now in
    all_more (λ (y : TextAlternative). All (λ (w : PlacedWord). is_known n w ≡ true) y.symbols) alternative_of xs i x (omega arith)
    (subst (λ y. All (λ (w : PlacedWord). is_known n w ≡ true) (map placed y.symbols.items)) c.alternative-item.is
    (subst (λ s. All (λ (w : PlacedWord). is_known n w ≡ true) (map placed s)) c.deref.ensures.value c.in_default.ensures))
    c.loop-alternative.invariant

pub returns : goal.returns
returns c =
    let n = numbering_by c.args.tables.now in
    all_of (λ (y : TextAlternative). All (λ (w : PlacedWord). is_known n w ≡ true) y.symbols) alternative_of c.args.alternatives.now c.loop-alternative.alternative-index (omega arith) c.loop-alternative.invariant
