use Rattle.std.proofs.Common.{inl, inr, sym}
use Rattle.std.proofs.Common.{◌∙◌, ap}
use Rattle.lrpar_grammar.specs.Grammar.{end_token}
use Rattle.lrpar_table_pops.proofs.GoodAllLemmas.{start_stored}
use Rattle.lrpar_table_pops.proofs.good.good_at_start.Goals as goal

pub returns-clause-good : goal.returns-clause-good
returns-clause-good g c = λ r h.
    elim (c.insert.ensures.adds r h) [ inl was ↦ absurd (c.in_ok-good.ensures.none r was) | inr is ↦ sym is ]

pub returns-clause-all : goal.returns-clause-all
returns-clause-all g c =
    let d = c.args.checked.now in
    start_stored d.grammar d.graph _ c.from.result c.in_ok-good.good c.insert.new.self c.in_ok-good.ensures.places c.insert.ensures.all
    (c.from.ensures ∙ c.eof_token_idx.ensures ∙ ap end_token c.grm.ensures)
