use Rattle.std.proofs.Common.{sym, subst}
use Rattle.lrpar_table_stacks.specs.Stack.{IsStack}
use Rattle.lrpar_parse_repair.proofs.engine.Engine.works_from_base.Goals as goal

pub works-requires-clause-suits : goal.works-requires-clause-suits
works-requires-clause-suits g c = λ any. tt

pub works-requires-clause-stack : goal.works-requires-clause-stack
works-requires-clause-stack g c = subst (IsStack c.args.self.now.checked.now.table) (sym c.set_back.ensures.states) c.requires.stack

pub returns-clause-works : goal.returns-clause-works
returns-clause-works g c = rw c.set_back.ensures.states at c.works.ensures.works

pub returns-clause-tested : goal.returns-clause-tested
returns-clause-tested g c = rw c.set_back.ensures.made at c.works.ensures.moved
