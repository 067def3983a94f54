use Rattle.lrpar_table.proofs.DataLemmas.{parser_data_of}
use Rattle.lrpar_table.proofs.build.parser_data.Goals as goal

pub returns-in-Ok-of_safe-clause-built : goal.returns-in-Ok-of_safe-clause-built
returns-in-Ok-of_safe-clause-built g c =
    parser_data_of _ _ _ _ _ _ c.in-Ok.ensures.built c.in-Ok.ensures.room c.in-Ok-of_safe.ensures.made c.in-Ok-of_safe.ensures.checked

pub returns-in-Err-of_safe-clause-refused : goal.returns-in-Err-of_safe-clause-refused
returns-in-Err-of_safe-clause-refused g c =
    let back = c.in-Err-of_safe.ensures.back in
    record {
      grammar = back.0;
      built = rw (back.1, back.2) c.in-Ok.ensures.built;
      room = rw back.1 c.in-Ok.ensures.room;
      fault = rw back.2 c.in-Err-of_safe.ensures.fault;
    }
