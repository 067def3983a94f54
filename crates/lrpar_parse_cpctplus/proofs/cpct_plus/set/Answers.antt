use Rattle.std.proofs.Common.{◌∙◌, List, Bool, arith, false, ap, get_or}
use Rattle.lrpar_parse_cpctplus.proofs.AvoidLemmas.{says_longer, says_more}
use Rattle.lrpar_parse_cpctplus.proofs.cpct_plus.set.Goals as goal

pub longer-preserved : goal.longer-preserved
longer-preserved c = λ t.
    ap (λ (l : List Bool). get_or l t false) c.in_ok-push.ensures.items ∙ says_longer c.longer.list.items t ∙ c.longer.invariant t

pub returns : goal.returns
returns c =
    says_more c.args.list.now.items c.longer.list.items c.args.number (omega (arith, c.longer-test.false, c.len.ensures, c.longer.list.ok)) c.longer.invariant
