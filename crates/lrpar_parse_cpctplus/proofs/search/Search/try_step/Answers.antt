use Rattle.lrpar_parse_lexemes.specs.Views.{token_by}
use Rattle.lrpar_parse_repair.specs.PlainSteps.{plain_step}
use Rattle.lrpar_parse_cpctplus.proofs.SharedLemmas.{extends_both, extends_same, gone_stack, leads_none, moved_extends}
use Rattle.lrpar_parse_cpctplus.proofs.search.Search.try_step.Goals as goal

pub try_step-requires-clause-tokens : goal.try_step-requires-clause-tokens
try_step-requires-clause-tokens g c = rw (c.engine-engine.ensures.checked, c.engine-engine.ensures.lexemes) c.engine-engine.ensures.tokens

pub try_step-requires-clause-stack : goal.try_step-requires-clause-stack
try_step-requires-clause-stack g c =
    rw c.engine-engine.ensures.checked
    (gone_stack c.args.self.now.point.now.checked.table c.args.stacks.now c.go_to.new.self c.args.at.stack c.go_to.ensures.current c.requires.held.stack)

pub returns-in-None : goal.returns-in-None
returns-in-None g c =
    let at = c.args.self.now.point.now in
    let old = c.args.stacks.now in
    let mid = c.go_to.new.self in
    let new = c.try_step.new.stack in
    let engine = c.engine-engine.ensures in
    record {
      leads = record {
        held = tt;
        leads = leads_none (token_by g.StorageT.StorageIndex.index g.LexemeT.Lexeme.parts) at old mid new c.args.at.stack c.args.at.place
            (plain_step g.StorageT.StorageIndex.index c.args.step) c.in_ok-place.field-0 c.go_to.ensures.current
            (rw (engine.checked, engine.lexemes) at c.in_ok-place.ensures.taken) c.in-None.is;
      };
      extends = extends_same old mid new c.go_to.ensures.stacks (moved_extends _ _ _ _ _ mid new c.in_ok-place.ensures.moved);
    }

pub returns-in_ok-stack-in-Some-clause-extends : goal.returns-in_ok-stack-in-Some-clause-extends
returns-in_ok-stack-in-Some-clause-extends g c =
    let old = c.args.stacks.now in
    let mid = c.go_to.new.self in
    let new = c.try_step.new.stack in
    extends_both old new c.number.new.self (extends_same old mid new c.go_to.ensures.stacks (moved_extends _ _ _ _ _ mid new c.in_ok-place.ensures.moved))
    c.in_ok-stack-in-Some.ensures.extends
