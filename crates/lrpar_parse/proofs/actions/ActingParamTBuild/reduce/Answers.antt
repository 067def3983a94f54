use Rattle.std.proofs.Common.{refl, rules, sym}
use Rattle.lrpar_grammar.specs.Grammar.{symbols_of}
use Rattle.lrpar_parse_run.specs.declared.values.AStackType.TheVariants.{ActionType}
use Rattle.lrpar_parse.proofs.ActedEntryLemmas.{own_arguments}
use Rattle.lrpar_parse.proofs.actions.ActingParamTBuild.reduce.Goals as goal

pub act-requires : goal.act-requires
act-requires g c =
    let p = g.StorageT.StorageIndex.index c.args.pidx.now.0 in (
      symbols_of c.args.grm.now p,
      rw (sym c.prod_to_rule-ridx.ensures.rule) at (c.requires.can p c.requires.listed),
      own_arguments _ (symbols_of c.args.grm.now p) c.args.entries.now.items c.args.count c.in_ok-args.args.items c.in_ok-args.ensures.arguments c.requires.suit,
    )

pub returns : goal.returns
returns g c = record {
  entry = record { span = c.span_of-span.result; argument = ActionType c.in_ok-value.value };
  made = record { value = c.in_ok-value.value; lies = search rules; acted = search rules; is = refl };
  suit = search rules;
  of_entries = search rules;
}
