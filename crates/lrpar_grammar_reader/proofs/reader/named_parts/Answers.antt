use Rattle.std.proofs.Common.{rules, subst}
use Rattle.lrpar_grammar_words.specs.Words.{placed}
use Rattle.lrpar_grammar_words.specs.Outline.{outline_of}
use Rattle.lrpar_grammar_reader.specs.Spells.{AreNamesKnown}
use Rattle.lrpar_grammar_reader.proofs.SpellsLemmas.{mapped_some}
use Rattle.lrpar_grammar_reader.proofs.reader.named_parts.Goals as goal

pub check_names-requires : goal.check_names-requires
check_names-requires g c = record {
  once = c.requires.once;
  some_rule = mapped_some placed c.args.outline.now.defined.items (search rules);
}

pub fitting_parts-requires : goal.fitting_parts-requires
fitting_parts-requires g c =
    let o = outline_of c.args.outline.now in
    record {
      numbering = c.requires.numbering;
      epps = c.requires.epps;
      clean = record {
        one_start = c.requires.once.one_start;
        one_epp_each = c.requires.once.one_epp_each;
        some_rule = mapped_some placed c.args.outline.now.defined.items (search rules);
        names_known = subst (λ n. AreNamesKnown n o) c.requires.numbering c.in_ok-check_names.ensures.ok;
      };
      rules = c.requires.rules;
      order = c.requires.order;
    }

pub returns : goal.returns
returns g c = record { parts = c.fitting_parts.ensures.parts; err = c.fitting_parts.ensures.err }
