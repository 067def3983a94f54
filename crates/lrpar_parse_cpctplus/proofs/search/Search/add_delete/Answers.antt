use Rattle.std.proofs.Common.{◌≡◌, ◌∙◌, List, ap, arith, length}
use Rattle.lrpar_parse_lexemes.specs.Views.{token_by}
use Rattle.lrpar_parse_cpctplus.specs.Costs.{token_cost}
use Rattle.lrpar_parse_cpctplus.specs.RoundView.{plain_attempts}
use Rattle.lrpar_parse_cpctplus.proofs.AddLemmas.{delete_none}
use Rattle.lrpar_parse_cpctplus.proofs.search.Search.add_delete.Goals as goal

pub returns-then-place-lexemes : goal.returns-then-place-lexemes
returns-then-place-lexemes g c =
    let index = g.StorageT.StorageIndex.index in
    let search = c.args.self.now in
    let at = search.point.now in
    let long : length c.lexemes.result.now ≡ length at.lexemes = ap (λ (ls : List g.row.LexemeT.Denot). length ls) c.lexemes.ensures.lexemes in
    record {
      adds = delete_none (token_by index g.LexemeT.Lexeme.parts) search.terms.now.costs at c.args.place c.args.from c.args.weight (plain_attempts index c.args.attempts.now.items)
          (λ x h. omega (arith, h.2, c.if-place-lexemes.true, long));
    }

pub returns-else-cost_of-weight : goal.returns-else-cost_of-weight
returns-else-cost_of-weight g c =
    let index = g.StorageT.StorageIndex.index in
    let search = c.args.self.now in
    record {
      adds = delete_none (token_by index g.LexemeT.Lexeme.parts) search.terms.now.costs search.point.now c.args.place c.args.from c.args.weight (plain_attempts index c.args.attempts.now.items)
          (λ x h. c.if-cost_of-weight.false (c.cost_of.ensures ∙ ap (token_cost search.terms.now.costs) c.token_at.ensures ∙ h.3));
    }
