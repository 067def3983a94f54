use Rattle.std.proofs.Common.{◌∙◌, Some, ap, option_map, slice_set}
use Rattle.std.specs.String.{string_bytes}
use Rattle.std.proofs.lemmas.List.{map-set}
use Rattle.lrpar_names.specs.Names.{slots_of}
use Rattle.lrpar_names.proofs.names.fill.Goals as goal

pub returns-then-place-len-clause-ok : goal.returns-then-place-len-clause-ok
returns-then-place-len-clause-ok c =
    let slots = c.args.slots.now.items in
    map-set (λ slot. option_map string_bytes slot) slots c.args.place (Some c.in_ok-text.text)
    ∙ ap (λ text. slice_set (slots_of slots) c.args.place (Some text)) c.in_ok-text.ensures.ok
