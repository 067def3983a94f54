use Rattle.std.proofs.Common.{◌∙◌, sym, ap, subst, map, nat_eq}
use Rattle.std.specs.Map.{keys_of, lookup}
use Rattle.lrpar_table_items.specs.Resolution.{AscendFrom, shift_entry}
use Rattle.lrpar_table_items.proofs.EntryLemmas.{lookup_other}
use Rattle.lrpar_table_items.proofs.resolution.split_shift.Goals as goal

pub returns-else-from-token-clause-shift : goal.returns-else-from-token-clause-shift
returns-else-from-token-clause-shift g c =
    let index = g.StorageT.StorageIndex.index in
    let token = c.args.token in
    let entry = shift_entry index in
    let shifts = c.args.shifts.now in
    let parts = c.in-Some.ensures.cases.0 in
    let up = subst (λ xs. AscendFrom token (keys_of (map entry xs))) parts c.requires in
    sym (ap (λ xs. lookup (nat_eq token) (map entry xs)) parts
    ∙ lookup_other token (entry c.in-Some.shift.now) (map entry c.in-Some.rest.now) up
    (λ same. c.if-from-token.false (c.from.ensures ∙ same)))
