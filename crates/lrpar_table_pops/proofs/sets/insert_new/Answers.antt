use Rattle.std.proofs.Common.{sym, ◌∙◌}
use Rattle.lrpar_table_pops.proofs.SetLemmas.{put_room}
use Rattle.lrpar_table_pops.proofs.sets.insert_new.Goals as goal

pub returns-clause-grown : goal.returns-clause-grown
returns-clause-grown c =
    put_room c.args.tokens.now c.insert.new.self c.args.token c.insert.ensures.room c.insert.ensures.tokens (sym c.contains.ensures ∙ c.if-contains.false)
