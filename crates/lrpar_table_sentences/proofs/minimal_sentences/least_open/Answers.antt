use Rattle.std.proofs.Common.{◌^◌, ◌-◌, ℕ, arith, ap, sym, ◌∙◌}
use Rattle.lrpar_table_sentences.specs.Choices.{choices_of}
use Rattle.lrpar_table_sentences.specs.Lens.{open_len}
use Rattle.lrpar_table_sentences.proofs.FixLemmas.{index_back, least_more, least_found}
use Rattle.lrpar_table_sentences.proofs.minimal_sentences.least_open.Goals as goal

pub loop-prod-preserved : goal.loop-prod-preserved
loop-prod-preserved g c =
    let f = λ (p : ℕ). open_len c.args.grm.now (2 ^ 64 - 1) (choices_of g.StorageT.StorageIndex.index c.args.choices.now) p in
    let at = index_back g.StorageT.StorageIndex.index c.from_index.result c.unwrap.result c.loop-prod.prod c.from_index.ensures.back c.unwrap.ensures in
    least_more f c.loop-prod.prod c.loop-prod.least c.open_len.result c.lesser-least.result c.loop-prod.invariant (ap f (sym at) ∙ sym c.open_len.ensures) c.lesser-least.ensures

pub returns : goal.returns
returns g c =
    least_found c.args.grm.now (2 ^ 64 - 1) (choices_of g.StorageT.StorageIndex.index c.args.choices.now) c.loop-prod.prod c.loop-prod.least
    (omega (arith, c.loop-prod-test.false, c.loop-prod.auto.prod-end, c.prods_len-prod-end.ensures.len)) c.loop-prod.invariant
