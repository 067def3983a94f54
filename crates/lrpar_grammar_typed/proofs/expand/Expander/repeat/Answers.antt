use Rattle.std.proofs.Common.{◌≡◌, ◌∙◌, ◌++◌, ◌∷◌, [], ◌+◌, refl, ap, sym, subst, take}
use Rattle.std.proofs.lemmas.List.{take_more}
use Rattle.lrpar_grammar_typed.specs.Expansion.{AreRepeated}
use Rattle.lrpar_grammar_typed.proofs.ExpandingLemmas.{extends_more, extends_same}
use Rattle.lrpar_grammar_typed.proofs.KeptLemmas.{are_repeated_extended, repeated_more}
use Rattle.lrpar_grammar_typed.proofs.expand.Expander.repeat.Goals as goal

pub loop-repeat-init : goal.loop-repeat-init
loop-repeat-init c = record { sound = c.requires; extends = extends_same c.args.self.now; repeated = refl }

pub loop-repeat-preserved : goal.loop-repeat-preserved
loop-repeat-preserved c =
    let before = c.loop-repeat.self in
    let after = c.repeat_once.new.self in
    let repeats = c.args.repeats.now in
    let i = c.loop-repeat.repeat-index in
    let repeat = c.repeat-item.result in
    let more : take (i + 1) repeats ≡ take i repeats ++ repeat ∷ [] =
    take_more repeats i repeat c.loop-repeat-test.true ∙ ap (λ r. take i repeats ++ r ∷ []) (sym c.repeat-item.is) in
    record {
      sound = c.in_ok-repeated.ensures.sound;
      extends = extends_more c.args.self.now before after c.loop-repeat.invariant.extends c.in_ok-repeated.ensures.extends;
      repeated = subst (λ rs. AreRepeated after.text.now after.grammar c.args.symbol rs c.in_ok-repeated.repeated) (sym more)
          (repeated_more after.text.now after.grammar c.args.symbol (take i repeats) repeat c.loop-repeat.repeated c.in_ok-repeated.repeated
          (are_repeated_extended before after c.in_ok-repeated.ensures.extends c.args.symbol (take i repeats) c.loop-repeat.repeated c.loop-repeat.invariant.repeated)
          c.in_ok-repeated.ensures.symbol);
    }
