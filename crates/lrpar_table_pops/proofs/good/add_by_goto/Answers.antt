use Rattle.std.proofs.Common.{◌≡◌, ◌<◌, ℕ, ◌+◌, ◌∙◌, Bool, refl, subst, sym, arith}
use Rattle.std.specs.Bool.{OnFalse}
use Rattle.std.proofs.lemmas.Bool.{OnFalse_at, OnTrue_at}
use Rattle.lrpar_table_pops.specs.Good.{AddsByGoto}
use Rattle.lrpar_table_pops.proofs.EntryLemmas.{all_tokens}
use Rattle.lrpar_table_pops.proofs.FollowAllLemmas.{on_false_both}
use Rattle.lrpar_table_pops.proofs.GoodAllLemmas.{AreTokensClosedBy, tokens_closed_by_all, tokens_closed_by_more}
use Rattle.lrpar_table_pops.proofs.GoodLemmas.{IsAdding, adding_grown, adding_on}
use Rattle.lrpar_table_pops.proofs.GrowthLemmas.{read_at}
use Rattle.lrpar_table_pops.proofs.PartLemmas.{closed_same, part_action, same_action}
use Rattle.lrpar_table_pops.proofs.good.add_by_goto.Goals.{then-add_token, else-add_token}
use Rattle.lrpar_table_pops.proofs.good.add_by_goto.Goals as goal

pub actions_of-requires : goal.actions_of-requires
actions_of-requires g c = subst (λ (n : ℕ). g.StorageT.StorageIndex.index c.args.next.0 < n) (sym c.requires.part.part.states) c.requires.next

pub add_token-requires-clause-action : goal.add_token-requires-clause-action
add_token-requires-clause-action g c =
    let index = g.StorageT.StorageIndex.index in
    let at = c.actions_of.ensures in
    part_action index c.args.checked.now.table c.args.part.now c.requires.part.part c.args.next c.actions_of.result.0.now c.actions_of.result.1.now at.entries at.actions at.exact
    c.tokens.place c.index-tokens-place.result c.index-actions-place.result c.tokens-test.true c.index-tokens-place.is c.index-actions-place.is

pub tokens-init : goal.tokens-init
tokens-init g c = record {
  adding = record { keeps = λ s goto leads. leads; room = omega arith; grown = tt };
  keeps_room = λ r. refl;
  same = refl;
  all = λ i token low at. absurd (omega (arith, low));
}

pub tokens-preserved : goal.tokens-preserved
tokens-preserved g c =
    let index = g.StorageT.StorageIndex.index in
    let gr = c.args.checked.now.grammar in
    let table = c.args.checked.now.table in
    let good = c.args.good.now in
    let pops = c.args.pops.now in
    let next = index c.args.next.0 in
    let rule = c.args.rule in
    let token = c.index-tokens-place.result in
    let tokens = c.actions_of.result.0.now in
    let l = c.tokens in
    let old = c.args.reduced.now.items in
    let now = l.reduced.items in
    let new = c.add_token.new.reduced.items in
    let K = AddsByGoto gr table good rule next old in
    let there = read_at tokens tokens l.place token refl c.tokens-test.true c.index-tokens-place.is in
    let more : K now → K new = λ before s goto leads. c.add_token.ensures.keeps s goto (before s goto leads) in
    let part = c.args.part.now in
    let at = c.actions_of.ensures in
    let acts = same_action index table part c.requires.part.part c.args.next tokens c.actions_of.result.1.now at.entries at.actions at.exact
    l.place token c.index-actions-place.result c.tokens-test.true c.index-tokens-place.is c.index-actions-place.is in
    let Closed = AreTokensClosedBy index gr part pops good rule next old tokens (l.place + 1) in
    let adding : IsAdding K old new c.if-add_token.grown = elim c.if-add_token.branch [
      | then-add_token w ↦
          subst (λ (b : Bool). IsAdding K old new b) (sym w.grown-is)
          (adding_grown K old now new l.grown l.invariant.adding more (OnTrue_at w.if-add_token.true c.add_token.ensures.sets.grown))
      | else-add_token w ↦
          subst (λ (b : Bool). IsAdding K old new b) (sym w.grown-is) (adding_on K old now new l.grown l.invariant.adding more c.add_token.ensures.sets.room)
    ] in
    let same : OnFalse c.if-add_token.grown (new ≡ old) = elim c.if-add_token.branch [
      | then-add_token w ↦ subst (λ (b : Bool). OnFalse b (new ≡ old)) (sym w.grown-is) tt
      | else-add_token w ↦
          subst (λ (b : Bool). OnFalse b (new ≡ old)) (sym w.grown-is)
          (on_false_both l.grown l.invariant.same l.invariant.same (λ before _. OnFalse_at w.if-add_token.false c.add_token.ensures.sets.same ∙ before))
    ] in
    let all : OnFalse c.if-add_token.grown Closed = elim c.if-add_token.branch [
      | then-add_token w ↦ subst (λ (b : Bool). OnFalse b Closed) (sym w.grown-is) tt
      | else-add_token w ↦
          subst (λ (b : Bool). OnFalse b Closed) (sym w.grown-is)
          (on_false_both l.grown l.invariant.same l.invariant.all (λ before closed.
          tokens_closed_by_more index gr part pops good rule next old now tokens l.place token there before closed
          (closed_same gr table part pops good rule next now (index token.0) acts (OnFalse_at w.if-add_token.false c.add_token.ensures.all))))
    ] in
    record {
      adding = adding;
      keeps_room = λ r. c.add_token.ensures.sets.keeps_room r ∙ l.invariant.keeps_room r;
      same = same;
      all = all;
    }

pub returns : goal.returns
returns g c =
    let index = g.StorageT.StorageIndex.index in
    let l = c.tokens in
    let tokens = c.actions_of.result.0.now in
    let at = c.actions_of.ensures in
    let all = all_tokens index c.args.part.now c.args.next tokens c.actions_of.result.1.now at.entries at.actions at.exact in
    record {
      keeps = l.invariant.adding.keeps;
      sets = record {
        keeps_room = l.invariant.keeps_room;
        same = l.invariant.same;
        room = l.invariant.adding.room;
        grown = l.invariant.adding.grown;
      };
      all = on_false_both l.grown l.invariant.all l.invariant.all (λ closed _.
          tokens_closed_by_all index c.args.checked.now.grammar c.args.part.now c.args.pops.now c.args.good.now c.args.rule c.args.next c.args.reduced.now.items tokens l.place
          c.tokens-test.false all closed);
    }
