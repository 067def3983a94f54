use Rattle.std.proofs.Common.{map, not, rules, tests}
use Rattle.std.proofs.lemmas.Iterator.{YieldsList-from_slice}
use Rattle.std.proofs.lemmas.Iterator.Search.{find_from_yields_List}
use Rattle.lrpar_grammar_words.specs.Words.{PlacedWord, placed}
use Rattle.lrpar_grammar_words.specs.declared.words.Word.{Word}
use Rattle.lrpar_grammar_reader.specs.Names.{is_among}
use Rattle.lrpar_grammar_reader.proofs.FaultsLemmas.{all_pass, lies_at, none_lies}
use Rattle.lrpar_grammar_reader.proofs.wrong_names.find_missing.Goals as goal

pub returns-in_err-found : goal.returns-in_err-found
returns-in_err-found c =
    rw c.from_residual.ensures
    (all_pass (λ (w : PlacedWord). is_among w.name c.args.names.now) (map placed c.args.words.now) (none_lies (λ (w : PlacedWord). not (is_among w.name c.args.names.now)) c.args.words.now c.find.result
    (find_from_yields_List (λ (w : Word). not (is_among w.name.now c.args.names.now)) _ _ c.find.result c.find.ensures.ran
    (YieldsList-from_slice c.args.words.now cc) (λ x b q k. search (rules, tests)))
    c.in_err-found.was))

pub returns : goal.returns
returns c =
    lies_at (λ (w : PlacedWord). not (is_among w.name c.args.names.now)) c.args.words.now c.find.result c.in_ok-found.found c.span.result
    (find_from_yields_List (λ (w : Word). not (is_among w.name.now c.args.names.now)) _ _ c.find.result c.find.ensures.ran
    (YieldsList-from_slice c.args.words.now cc) (λ x b q k. search (rules, tests)))
    c.in_ok-found.was c.span.ensures
