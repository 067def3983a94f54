use Rattle.std.proofs.Common.{sym, subst, ◌∙◌}
use Rattle.std.proofs.lemmas.Bool.{false≢true}
use Rattle.lrpar_grammar_words.specs.Outline.{outline_of}
use Rattle.lrpar_grammar_reader.specs.Parts.{AreSound}
use Rattle.lrpar_grammar_reader.specs.Spells.{Numbering, numbering_of}
use Rattle.lrpar_grammar_reader.specs.TextNames.{FitAll, numbering_by}
use Rattle.lrpar_grammar_reader.proofs.SpellsLemmas.{clean_sound, fit_parts}
use Rattle.lrpar_grammar_reader.proofs.reader.fitting_parts.Goals as goal

pub returns-then-not-fit-clause-err : goal.returns-then-not-fit-clause-err
returns-then-not-fit-clause-err g c =
    let limit = g.StorageT.StorageIndex.limit in
    let o = outline_of c.args.outline.now in (
      c.requires.clean,
      λ parts.
          let all : FitAll limit (numbering_by c.args.tables.now) o =
          subst (λ (n : Numbering). FitAll limit n o) (sym c.requires.numbering) (fit_parts limit o parts) in
          false≢true (sym c.if-not-fit.true ∙ c.fit.ensures.1 all),
    )

pub spelled_parts-requires-clause-fit : goal.spelled_parts-requires-clause-fit
spelled_parts-requires-clause-fit g c =
    subst (λ (n : Numbering). FitAll g.StorageT.StorageIndex.limit n (outline_of c.args.outline.now)) c.requires.numbering
    (c.fit.ensures.0 c.if-not-fit.false)

pub returns-clause-parts : goal.returns-clause-parts
returns-clause-parts g c =
    let limit = g.StorageT.StorageIndex.limit in
    let o = outline_of c.args.outline.now in
    let all : FitAll limit (numbering_of o) o =
    subst (λ (n : Numbering). FitAll limit n o) c.requires.numbering (c.fit.ensures.0 c.if-not-fit.false) in
    record {
      clean = c.requires.clean;
      is = c.in_ok-spelled_parts.ensures;
      sound = subst (AreSound limit) (sym c.in_ok-spelled_parts.ensures) (clean_sound limit o c.requires.rules c.requires.clean all);
    }
