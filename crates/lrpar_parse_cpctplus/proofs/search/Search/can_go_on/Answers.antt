use Rattle.std.proofs.Common.{◌↔◌, IsTrue, List, ℕ, subst}
use Rattle.std.proofs.lemmas.Result.{IfOk-weaker, on_ok_weaker}
use Rattle.lrpar_parse_lexemes.specs.Views.{token_by}
use Rattle.lrpar_parse_repair.specs.Sequences.{CanGoOn}
use Rattle.lrpar_parse_cpctplus.proofs.SharedLemmas.{extends_same, gone_stack, moved_extends}
use Rattle.lrpar_parse_cpctplus.proofs.search.Search.can_go_on.Goals as goal

pub can_go_on-requires-clause-tokens : goal.can_go_on-requires-clause-tokens
can_go_on-requires-clause-tokens g c = rw (c.engine-engine.ensures.checked, c.engine-engine.ensures.lexemes) c.engine-engine.ensures.tokens

pub can_go_on-requires-clause-stack : goal.can_go_on-requires-clause-stack
can_go_on-requires-clause-stack g c =
    rw c.engine-engine.ensures.checked
    (gone_stack c.args.self.now.point.now.checked.table c.args.stacks.now c.go_to.new.self c.args.at.stack c.go_to.ensures.current c.requires.held.stack)

pub can_go_on-requires-clause-within : goal.can_go_on-requires-clause-within
can_go_on-requires-clause-within g c = rw c.engine-engine.ensures.lexemes c.requires.held.place

pub returns-clause-goes_on : goal.returns-clause-goes_on
returns-clause-goes_on g c =
    let token = token_by g.StorageT.StorageIndex.index g.LexemeT.Lexeme.parts in
    let at = c.args.self.now.point.now in
    let by = rw (c.engine-engine.ensures.checked, c.engine-engine.ensures.lexemes, c.engine-engine.ensures.shifts) at c.can_go_on.ensures.goes_on in
    let there = c.go_to.ensures.current in
    IfOk-weaker c.can_go_on.result _ _
    (λ yes h. subst (λ (st : List ℕ). IsTrue yes ↔ CanGoOn token at.checked.grammar at.checked.table at.lexemes at.shifts st c.args.at.place) there h) by

pub returns-clause-extends : goal.returns-clause-extends
returns-clause-extends g c =
    on_ok_weaker c.can_go_on.result
    (λ moved. extends_same c.args.stacks.now c.go_to.new.self c.can_go_on.new.stack c.go_to.ensures.stacks (moved_extends _ _ _ _ _ c.go_to.new.self c.can_go_on.new.stack moved))
    c.can_go_on.ensures.moved
