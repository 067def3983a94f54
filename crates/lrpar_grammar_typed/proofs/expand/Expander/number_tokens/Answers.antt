use Rattle.lrpar_grammar_typed.proofs.ExpandingLemmas.{extends_more, extends_same}
use Rattle.lrpar_grammar_typed.proofs.expand.Expander.number_tokens.Goals as goal

pub loop-token-init : goal.loop-token-init
loop-token-init c = record { sound = c.requires; extends = extends_same c.args.self.now }

pub loop-token-preserved : goal.loop-token-preserved
loop-token-preserved c =
    let step = c.in_ok-number_token.ensures in
    record {
      sound = step.sound;
      extends = extends_more c.args.self.now c.loop-token.self c.number_token.new.self c.loop-token.invariant.extends step.extends;
    }
