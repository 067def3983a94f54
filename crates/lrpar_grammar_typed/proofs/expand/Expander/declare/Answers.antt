use Rattle.std.proofs.Common.{◌∙◌, None, ap, refl, sym, take}
use Rattle.std.proofs.lemmas.List.Sums.{fold_more}
use Rattle.lrpar_grammar_typed.specs.Expansion.{declared_start, start_after}
use Rattle.lrpar_grammar_typed.proofs.ExpandingLemmas.{extends_more, extends_same}
use Rattle.lrpar_grammar_typed.proofs.expand.Expander.declare.Goals as goal

pub loop-declaration-init : goal.loop-declaration-init
loop-declaration-init c = record { sound = c.requires; extends = extends_same c.args.self.now; start = refl }

pub loop-declaration-preserved : goal.loop-declaration-preserved
loop-declaration-preserved c =
    let step = c.in_ok-start.ensures in
    record {
      sound = step.sound;
      extends = extends_more c.args.self.now c.loop-declaration.self c.declare_one.new.self c.loop-declaration.invariant.extends step.extends;
      start =
          let declarations = c.args.declarations.now in
          let i = c.loop-declaration.declaration-index in
          let declaration = c.declaration-item.result in
          step.start ∙ ap (λ s. start_after s declaration) c.loop-declaration.invariant.start
          ∙ ap (start_after (declared_start (take i declarations))) c.declaration-item.is
          ∙ sym (fold_more start_after None declarations i declaration c.loop-declaration-test.true);
    }
