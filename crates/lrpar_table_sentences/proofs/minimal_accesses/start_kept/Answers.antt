use Rattle.std.proofs.Common.{◌≡◌, ◌∙◌, sym, arith, length}
use Rattle.std.proofs.lemmas.List.{length-map, length-set}
use Rattle.std.specs.Option.{option_map}
use Rattle.lrpar_table_rows.specs.Table.{states_len}
use Rattle.lrpar_table_sentences.specs.AccessStrings.{access_of}
use Rattle.lrpar_table_sentences.proofs.AccessLemmas.{access_elsewhere, access_here}
use Rattle.lrpar_table_sentences.proofs.FixLemmas.{nothing_at, nothing_len}
use Rattle.lrpar_table_sentences.proofs.minimal_accesses.start_kept.Goals as goal

pub returns : goal.returns
returns g c =
    let index = g.StorageT.StorageIndex.index in
    let items = c.in_ok-accesses.accesses.items in
    let none = c.in_ok-accesses.ensures in
    let long = nothing_len (access_of index) _ items none in
    let count : length items ≡ states_len c.args.stable.now = omega (arith, long, length-map items (option_map (access_of index)), c.states_len-states.ensures.states) in
    record {
      states = length-set items c.from.result _ ∙ count;
      start = access_here index items c.from.result _ _ (sym c.start_state.ensures.start ∙ sym c.from.ensures)
          (omega (arith, count, c.start_state.ensures.start, c.start_state.ensures.within, c.from.ensures));
      others = λ s other.
          access_elsewhere index items c.from.result _ s (λ is. other (is ∙ c.from.ensures ∙ c.start_state.ensures.start)) ∙ nothing_at (access_of index) _ items none s;
    }
