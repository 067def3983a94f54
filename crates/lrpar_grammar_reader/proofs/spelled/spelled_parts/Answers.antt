use Rattle.std.proofs.Common.{◌≡◌, ◌<◌, true, length, map, sym, subst}
use Rattle.std.specs.List.{All}
use Rattle.lrpar_grammar_words.specs.Words.{PlacedWord, placed}
use Rattle.lrpar_grammar_words.specs.Outline.{AreWordsInOrder, TextAlternative, alternative_of, outline_of}
use Rattle.lrpar_grammar_reader.specs.Names.{is_among}
use Rattle.lrpar_grammar_reader.specs.Spells.{Numbering}
use Rattle.lrpar_grammar_reader.specs.TextNames.{AreNumbered, numbering_by}
use Rattle.lrpar_grammar_reader.proofs.SpellsLemmas.{clean_numbers, some_rules}
use Rattle.lrpar_grammar_reader.proofs.spelled.spelled_parts.Goals as goal

pub prod_parts-requires-clause-known : goal.prod_parts-requires-clause-known
prod_parts-requires-clause-known g c =
    let o = outline_of c.args.outline.now in
    subst (λ s. All (AreNumbered (numbering_by c.args.tables.now)) (map alternative_of s)) (sym c.deref.ensures.value)
    (subst (λ (n : Numbering). All (AreNumbered n) o.alternatives) (sym c.requires.numbering) (clean_numbers o c.requires.rules c.requires.clean))

pub prod_parts-requires-clause-order : goal.prod_parts-requires-clause-order
prod_parts-requires-clause-order g c =
    subst (λ s. All (λ (x : TextAlternative). AreWordsInOrder x.symbols) (map alternative_of s)) (sym c.deref.ensures.value) c.requires.order

pub start_rule-requires-clause-some : goal.start_rule-requires-clause-some
start_rule-requires-clause-some g c =
    let o = outline_of c.args.outline.now in
    subst (λ (n : Numbering). 0 < length n.rules) (sym c.requires.numbering) (some_rules o.defined c.requires.clean.some_rule)

pub start_rule-requires-clause-known : goal.start_rule-requires-clause-known
start_rule-requires-clause-known g c =
    let o = outline_of c.args.outline.now in
    subst (λ s. All (λ (w : PlacedWord). is_among w.name c.args.tables.now.rules ≡ true) (map placed s)) (sym c.deref-2.ensures.value)
    (subst (λ (n : Numbering). All (λ (w : PlacedWord). is_among w.name n.rules ≡ true) o.starts) (sym c.requires.numbering) c.requires.clean.names_known.start_defined)
