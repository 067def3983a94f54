use Rattle.lrpar_parse_completion.proofs.nearest.Search.goes_on.Goals as goal

pub can_go_on-requires-clause-tokens : goal.can_go_on-requires-clause-tokens
can_go_on-requires-clause-tokens g c =
    rw (c.new-engine.ensures.checked, c.data.ensures.data, c.new-engine.ensures.lexemes, c.lexemes.ensures.lexemes) c.lexemes.ensures.stop.tokens

pub can_go_on-requires-clause-stack : goal.can_go_on-requires-clause-stack
can_go_on-requires-clause-stack g c =
    rw (c.new-states.ensures.states, c.new-engine.ensures.checked, c.data.ensures.data) c.requires.stack

pub can_go_on-requires-clause-within : goal.can_go_on-requires-clause-within
can_go_on-requires-clause-within g c = rw (c.new-engine.ensures.lexemes, c.lexemes.ensures.lexemes) c.requires.within

pub returns : goal.returns
returns g c =
    rw (
      c.new-states.ensures.states,
      c.new-engine.ensures.checked,
      c.data.ensures.data,
      c.new-engine.ensures.lexemes,
      c.lexemes.ensures.lexemes,
      c.new-engine.ensures.shifts,
      c.shifts.ensures.shifts,
    ) at c.can_go_on.ensures.goes_on
