use Rattle.std.proofs.Common.{◌≡◌, ℕ, List, ap, sym, string_bytes, length, get_or, ◌∙◌, arith}
use Rattle.std.proofs.lemmas.List.{length-map}
use Rattle.lrpar_grammar_places.specs.Span.{Extent}
use Rattle.lrpar_grammar_words.specs.declared.words.WordKind.TheVariants.{Name}
use Rattle.lrpar_grammar_words.specs.Words.{PlacedWord as PlacedTextWord}
use Rattle.lrpar_grammar_bison.specs.Words.{placed}
use Rattle.lrpar_grammar_bison_parts.proofs.MidruleLemmas.{no_word}
use Rattle.lrpar_grammar_bison_parts.proofs.NameLemmas.{named, names_length, rule_more}
use Rattle.lrpar_grammar_bison_parts.proofs.midrules.midrule_words.Goals as goal

pub bounds-names-i : goal.bounds-names-i
bounds-names-i c =
    let len : length c.args.names.now ≡ length c.args.actions.now = sym (length-map c.args.names.now string_bytes) ∙ ap length c.requires ∙ names_length 1 (length c.args.actions.now) in
    omega arith

pub loop-i-preserved : goal.loop-i-preserved
loop-i-preserved c =
    let actions = c.args.actions.now in
    let i = c.loop-i.i in
    let span : Extent = (placed (get_or actions i no_word)).span in
    let word : List ℕ → PlacedTextWord = λ n. record { kind = Name; name = n; span = span } in
    let name = c.as_str.ensures.value ∙ named string_bytes c.args.names.now (length actions) i c.index-names-i.result c.requires c.loop-i-test.true c.index-names-i.is in
    rule_more c.loop-i.words.items c.push.new.self.items _ actions i c.loop-i-test.true c.in_ok-push.ensures.items
    (ap word name) c.loop-i.invariant
