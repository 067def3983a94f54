use Rattle.std.proofs.Common.{◌≡◌, ◌∙◌, ◌++◌, ◌∷◌, [], List, ap, arith, subst, sym}
use Rattle.std.proofs.lemmas.List.{map-append}
use Rattle.lrpar_grammar.specs.Grammar.{end_token}
use Rattle.lrpar_parse_repair.specs.Sequences.{PlainInsert}
use Rattle.lrpar_parse_cpctplus.specs.RoundView.{plain_attempt, plain_attempts}
use Rattle.lrpar_parse_cpctplus.specs.SearchRound.{PlainAttempt, Adds, IsInsertOf}
use Rattle.lrpar_parse_cpctplus.specs.declared.search.Attempt.{Attempt}
use Rattle.lrpar_parse_cpctplus.proofs.AddLemmas.{attempt_with, insert_none, insert_one}
use Rattle.lrpar_parse_cpctplus.proofs.search.Search.add_insert.Goals as goal

pub returns-then-from : goal.returns-then-from
returns-then-from g c =
    let index = g.StorageT.StorageIndex.index in
    let search = c.args.self.now in
    let t = index c.args.token.0 in
    let end : index c.eof_token_idx.result.0 ≡ end_token search.point.now.checked.grammar = rw (c.grm.ensures, c.data.ensures.data) at c.eof_token_idx.ensures in
    record {
      adds = insert_none search.terms.now.costs (end_token search.point.now.checked.grammar) c.args.from c.args.weight t (plain_attempts index c.args.attempts.now.items)
          (λ h. omega (arith, h.0, end, c.from.ensures, c.from-2.ensures, c.if-from.true));
    }

pub returns-in_ok-push : goal.returns-in_ok-push
returns-in_ok-push g c =
    let index = g.StorageT.StorageIndex.index in
    let search = c.args.self.now in
    let t = index c.args.token.0 in
    let end : index c.eof_token_idx.result.0 ≡ end_token search.point.now.checked.grammar = rw (c.grm.ensures, c.data.ensures.data) at c.eof_token_idx.ensures in
    let old = plain_attempts index c.args.attempts.now.items in
    let new : plain_attempts index c.push.new.self.items ≡ old ++ attempt_with c.args.from (PlainInsert t) ∷ [] =
    ap (λ (xs : List (Attempt g.row.StorageT.Denot)). plain_attempts index xs) c.in_ok-push.ensures.items
    ∙ map-append (plain_attempt index) c.args.attempts.now.items (_ ∷ []) in
    record {
      adds = subst (λ (xs : List PlainAttempt). Adds (IsInsertOf search.terms.now.costs (end_token search.point.now.checked.grammar) (t ∷ []) c.args.from c.args.weight) old xs) (sym new)
          (insert_one search.terms.now.costs (end_token search.point.now.checked.grammar) c.args.from c.args.weight t old
          (omega (arith, end, c.from.ensures, c.from-2.ensures, c.if-from.false)) (sym c.cost_of.ensures ∙ c.if-cost_of-weight.true));
    }

pub returns-else-cost_of-weight : goal.returns-else-cost_of-weight
returns-else-cost_of-weight g c =
    let index = g.StorageT.StorageIndex.index in
    let search = c.args.self.now in
    record {
      adds = insert_none search.terms.now.costs (end_token search.point.now.checked.grammar) c.args.from c.args.weight (index c.args.token.0)
          (plain_attempts index c.args.attempts.now.items) (λ h. c.if-cost_of-weight.false (c.cost_of.ensures ∙ h.1));
    }
