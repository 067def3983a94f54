use Rattle.lrpar_table_merge.proofs.merged_states.expand_filled.Goals as goal

pub expand-requires-clause-kernel : goal.expand-requires-clause-kernel
expand-requires-clause-kernel g c =
    let item = c.has_item.ensures c.if-not-has_item.false in
    c.requires.kernel.filled item.0 item.1

pub returns-clause-is_kernel : goal.returns-clause-is_kernel
returns-clause-is_kernel g c =
    let item = c.has_item.ensures c.if-not-has_item.false in
    c.requires.kernel.filled item.0 item.1
