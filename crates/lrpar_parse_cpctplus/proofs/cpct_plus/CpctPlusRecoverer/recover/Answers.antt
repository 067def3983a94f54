use Rattle.std.proofs.Common.{ℕ, subst}
use Rattle.std.proofs.lemmas.Result.{IfOk-weaker}
use Rattle.lrpar_parse_lexemes.specs.Views.{token_by}
use Rattle.lrpar_parse_repair.specs.Asked.{Asked}
use Rattle.lrpar_parse_repair.specs.PlainSteps.{plain_sequences}
use Rattle.lrpar_parse_cpctplus.specs.Listing.{Settings}
use Rattle.lrpar_parse_cpctplus.specs.SearchRound.{IsNothingFound}
use Rattle.lrpar_parse_cpctplus.proofs.RecoverLemmas.{linked_listed, linked_numbered, nothing_listed}
use Rattle.lrpar_parse_cpctplus.proofs.cpct_plus.CpctPlusRecoverer.recover.Goals as goal

pub returns-in_default : goal.returns-in_default
returns-in_default g c =
    let token = token_by g.StorageT.StorageIndex.index g.LexemeT.Lexeme.parts in
    let settings = c.args.self.now in
    let at = c.args.point.now in
    let search = c.new-search.result in
    let first : IsNothingFound token search.terms.now.costs search.point.now search.limit = rw c.in_default.is at c.in_ok-linked.ensures in
    let second = subst (λ (a : Asked g.row.LexemeT.Denot). IsNothingFound token search.terms.now.costs a search.limit) c.new-search.ensures.point first in
    let third = subst (λ (s : Settings). IsNothingFound token s.costs at search.limit) c.new-search.ensures.terms second in
    let fourth = subst (λ (n : ℕ). IsNothingFound token settings.costs at n) c.new-search.ensures.limit third in
    let limit = c.in_ok-limit.limit in
    record { allowed = rw c.new.ensures.items (limit, c.in_ok-limit.ensures, nothing_listed token (record settings { limit = limit }) at fourth) }

pub first_repairs-requires : goal.first_repairs-requires
first_repairs-requires g c =
    record {
      numbered = linked_numbered g.StorageT.StorageIndex.index g.LexemeT.Lexeme.parts c.new-search.result c.args.self.now c.args.point.now c.in_ok-limit.limit c.in-Some.linked
          c.new-search.ensures.terms c.new-search.ensures.point c.new-search.ensures.limit (rw c.in-Some.is at c.in_ok-linked.ensures);
    }

pub returns : goal.returns
returns g c =
    let index = g.StorageT.StorageIndex.index in
    record {
      allowed = IfOk-weaker c.first_repairs.result _ _
          (λ repairs ranked. (
            c.in_ok-limit.limit,
            c.in_ok-limit.ensures,
            linked_listed index g.LexemeT.Lexeme.parts c.new-search.result c.args.self.now c.args.point.now c.in_ok-limit.limit c.in-Some.linked c.new-search.ensures.terms
                c.new-search.ensures.point c.new-search.ensures.limit (rw c.in-Some.is at c.in_ok-linked.ensures) (plain_sequences index repairs.items)
                c.shifts-second_lemma.ensures.stop c.limit-lemma.ensures.costs (rw (c.wanted.ensures.avoided, c.wanted.ensures.most, c.wanted.ensures.lists_all) at ranked),
          ))
          c.first_repairs.ensures.ranked;
    }
