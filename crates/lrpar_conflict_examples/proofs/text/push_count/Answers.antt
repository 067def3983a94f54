use Rattle.std.specs.String.{string_bytes}
use Rattle.lrpar_conflict_examples.proofs.TextLemmas.{two_counted}
use Rattle.lrpar_conflict_examples.proofs.text.push_count.Goals as goal

pub returns-then-not-is_ambiguous : goal.returns-then-not-is_ambiguous
returns-then-not-is_ambiguous g c =
    two_counted c.push_bound.result c.args.example.now (string_bytes c.args.out.now) (string_bytes c.push_bound.new.out) c.bound-bound.result c.is_ambiguous.result
    c.is_ambiguous.ensures c.if-not-is_ambiguous.true c.bound-bound.ensures c.push_bound.ensures
