use Rattle.std.proofs.Common.{not, map, ap, subst}
use Rattle.std.specs.List.{find}
use Rattle.lrpar_grammar_words.specs.Words.{PlacedWord, placed}
use Rattle.lrpar_grammar_words.specs.Outline.{alternative_of, outline_of}
use Rattle.lrpar_grammar_reader.specs.Names.{is_among}
use Rattle.lrpar_grammar_reader.specs.Spells.{LiesAt}
use Rattle.lrpar_grammar_reader.specs.TextNames.{numbering_by}
use Rattle.lrpar_grammar_reader.proofs.FaultsLemmas.{no_token_rule, no_unknown_rule, start_unknown, symbol_unknown}
use Rattle.lrpar_grammar_reader.proofs.wrong_names.check_names.Goals as goal

pub returns-in-Some-find_missing-clause-err : goal.returns-in-Some-find_missing-clause-err
returns-in-Some-find_missing-clause-err c =
    let n = numbering_by c.args.tables.now in (
      c.requires.once,
      c.requires.some_rule,
      no_token_rule n (map placed c.words.result.now) c.words.ensures c.in_default.ensures,
      start_unknown n (outline_of c.args.outline.now) (map placed c.deref.result.now) c.in-Some-find_missing.span (ap (map placed) c.deref.ensures.value)
          c.in-Some-find_missing.ensures,
    )

pub returns-in-Some-unknown_symbol-clause-err : goal.returns-in-Some-unknown_symbol-clause-err
returns-in-Some-unknown_symbol-clause-err c =
    let n = numbering_by c.args.tables.now in (
      c.requires.once,
      c.requires.some_rule,
      no_token_rule n (map placed c.words.result.now) c.words.ensures c.in_default.ensures,
      symbol_unknown n (outline_of c.args.outline.now) (map placed c.deref.result.now) (map alternative_of c.deref-2.result.now) c.in-Some-unknown_symbol.span
          (ap (map placed) c.deref.ensures.value) (ap (map alternative_of) c.deref-2.ensures.value) c.in_default-find_missing.ensures c.in-Some-unknown_symbol.ensures,
    )

pub returns-in-Some-find_missing-2-clause-err : goal.returns-in-Some-find_missing-2-clause-err
returns-in-Some-find_missing-2-clause-err c =
    let n = numbering_by c.args.tables.now in (
      c.requires.once,
      c.requires.some_rule,
      no_token_rule n (map placed c.words.result.now) c.words.ensures c.in_default.ensures,
      no_unknown_rule n (outline_of c.args.outline.now) (map placed c.deref.result.now) (map alternative_of c.deref-2.result.now)
          (ap (map placed) c.deref.ensures.value) (ap (map alternative_of) c.deref-2.ensures.value) c.in_default-find_missing.ensures c.in_default-unknown_symbol.ensures,
      subst (λ s. LiesAt (find (λ (w : PlacedWord). not (is_among w.name n.tokens)) (map placed s)) c.in-Some-find_missing-2.span) c.deref-3.ensures.value
          c.in-Some-find_missing-2.ensures,
    )
