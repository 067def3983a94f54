-- Each end is that of a repair: in a cheapest sequence that comes to it by a link, the Deletes move after the Inserts that follow
-- them, which changes neither the cost, nor where it leads, nor that the last step is no Shift.
use Rattle.std.proofs.Common.{◌≡◌, ◌<◌, ◌+◌, ◌∙◌, ◌↔◌, ℕ, List, [], ◌∷◌, ◌++◌, length, refl, sym, subst, ap, arith}
use Rattle.lrpar_grammar.specs.Grammar.{Grammar, end_token}
use Rattle.lrpar_table_rows.specs.Table.{Table}
use Rattle.lrpar_parse_repair.specs.Asked.{Asked}
use Rattle.lrpar_parse_repair.specs.Sequences.{PlainStep, PlainInsert, PlainDelete, PlainShift, Replays}
use Rattle.lrpar_parse_repair.proofs.ReplayLemmas.{replay_one_way}
use Rattle.lrpar_parse_cpctplus.specs.LinkPaths.{EndsHaveRepairs, IsEnd}
use Rattle.lrpar_parse_cpctplus.specs.Cheapest.{RepairsAt, cost_of}
use Rattle.lrpar_parse_cpctplus.specs.Configurations.{Configured, LeadTo, edge_cost, root_of}
use Rattle.lrpar_parse_cpctplus.specs.Costs.{steps_cost}
use Rattle.lrpar_parse_cpctplus.specs.Forms.{EndsIn, IsFormed}
use Rattle.lrpar_parse_cpctplus.specs.Reaching.{GoesAsFar, Reaches}
use Rattle.lrpar_parse_cpctplus.proofs.AnyFormLemmas.{formed_prepend, sunk, sunk_costs, sunk_formed}
use Rattle.lrpar_parse_cpctplus.proofs.ChainLemmas.{near_link_moves, works_to}
use Rattle.lrpar_parse_cpctplus.proofs.DistanceLemmas.{cost_last, one_distance, runs_by, runs_joined}
use Rattle.lrpar_parse_cpctplus.proofs.FormLemmas.{ends_in_one, formed_none, push_some}

insert_no_shift : (t : ℕ) → ¬ (PlainInsert t ≡ PlainShift)
insert_no_shift t e = cc

delete_no_shift : ¬ (PlainDelete ≡ PlainShift)
delete_no_shift e = cc

-- what ends in a Shift after its first step
abbrev EndsByShift : List PlainStep → Type 0
EndsByShift steps = EndsIn steps (PlainShift ∷ [])

first_is : (s : PlainStep) (p : List PlainStep) (x : PlainStep) (q : List PlainStep) → s ∷ p ≡ x ∷ q → (s ≡ x) × (p ≡ q)
first_is s p x q e = (cc, cc)

-- a Delete that moves is last only if none follows
sunk_last : (p before : List PlainStep) → sunk p ≡ before ++ PlainShift ∷ [] → EndsByShift p
sunk_last [] before e = absurd (delete_no_shift (ends_in_one [] PlainDelete PlainShift (before, e)))
sunk_last (PlainInsert t ∷ p) [] e = absurd (insert_no_shift t (first_is (PlainInsert t) (sunk p) PlainShift [] e).0)
sunk_last (PlainInsert t ∷ p) (y ∷ before) e =
    let more = sunk_last p before (first_is (PlainInsert t) (sunk p) y (before ++ PlainShift ∷ []) e).1 in
    (PlainInsert t ∷ more.0, ap (λ (l : List PlainStep). PlainInsert t ∷ l) more.1)
sunk_last (PlainDelete ∷ p) [] e = absurd (delete_no_shift (first_is PlainDelete (PlainDelete ∷ p) PlainShift [] e).0)
sunk_last (PlainDelete ∷ p) (y ∷ before) e = (before, (first_is PlainDelete (PlainDelete ∷ p) y (before ++ PlainShift ∷ []) e).1)
sunk_last (PlainShift ∷ p) [] e = absurd (delete_no_shift (first_is PlainDelete (PlainShift ∷ p) PlainShift [] e).0)
sunk_last (PlainShift ∷ p) (y ∷ before) e = (before, (first_is PlainDelete (PlainShift ∷ p) y (before ++ PlainShift ∷ []) e).1)

sunk_some : (p : List PlainStep) → ¬ (sunk p ≡ [])
sunk_some [] e = push_some [] PlainDelete [] (sym e)
sunk_some (PlainInsert t ∷ p) e = push_some [] (PlainInsert t) (sunk p) (sym e)
sunk_some (PlainDelete ∷ p) e = push_some [] PlainDelete (PlainDelete ∷ p) (sym e)
sunk_some (PlainShift ∷ p) e = push_some [] PlainDelete (PlainShift ∷ p) (sym e)

-- one step before both
last_before : (s : PlainStep) (to steps : List PlainStep) (before : List PlainStep) → (to ≡ [] → steps ≡ []) → (EndsByShift to → EndsByShift steps)
    → s ∷ to ≡ before ++ PlainShift ∷ [] → EndsByShift (s ∷ steps)
last_before s to steps [] none last e =
    let first = first_is s to PlainShift [] e in
    ([], ap (λ (l : List PlainStep). s ∷ l) (none first.1) ∙ ap (λ (y : PlainStep). y ∷ []) first.0)
last_before s to steps (y ∷ before) none last e =
    let more = last (before, (first_is s to y (before ++ PlainShift ∷ []) e).1) in
    (s ∷ more.0, ap (λ (l : List PlainStep). s ∷ l) more.1)

module _ {X : Type 0} (token : X → ℕ) (g : Grammar) (lexemes : List X) (costs : List ℕ) (table : Table) where
  sunk_replays : (st : List ℕ) (i : ℕ) (p : List PlainStep) (ps after : List ℕ) (j : ℕ) → i < length lexemes
      → Replays token g table lexemes st (i + 1) p ps after j → Replays token g table lexemes st i (sunk p) ps after j
  sunk_replays st i [] ps after j below x = ([], st, i + 1, [], (below, refl, refl, refl), (refl, x.1, x.2), x.0)
  sunk_replays st i (PlainInsert t ∷ p) ps after j below x =
      let rest = subst (λ (m : ℕ). Replays token g table lexemes x.1 m p x.3 after j) x.4.2 x.5 in
      (x.0, x.1, i, x.3, (x.4.0, x.4.1, refl), sunk_replays x.1 i p x.3 after j below rest, x.6)
  sunk_replays st i (PlainDelete ∷ p) ps after j below x = ([], st, i + 1, ps, (below, refl, refl, refl), x, refl)
  sunk_replays st i (PlainShift ∷ p) ps after j below x = ([], st, i + 1, ps, (below, refl, refl, refl), x, refl)

  -- a well-formed sequence that leads to the same place and costs the same
  record Sorted (st : List ℕ) (i : ℕ) (steps : List PlainStep) (after : List ℕ) (j : ℕ) : Type 0 where
    to : List PlainStep
    formed : IsFormed (end_token g) to
    prods : List ℕ
    leads : Replays token g table lexemes st i to prods after j
    same : steps_cost token g lexemes costs i to ≡ steps_cost token g lexemes costs i steps
    none : to ≡ [] → steps ≡ []
    last : EndsByShift to → EndsByShift steps

  sorted : (st : List ℕ) (i : ℕ) (steps : List PlainStep) (ps after : List ℕ) (j : ℕ) → Replays token g table lexemes st i steps ps after j
      → Sorted st i steps after j
  sorted st i [] ps after j x = record {
    to = [];
    formed = formed_none (end_token g);
    prods = ps;
    leads = x;
    same = refl;
    none = λ e. e;
    last = λ ends. ends;
  }
  sorted st i (PlainInsert t ∷ steps) ps after j x =
      let here = subst (λ (m : ℕ). Replays token g table lexemes x.1 m steps x.3 after j) x.4.2 x.5 in
      let rest = sorted x.1 i steps x.3 after j here in
      record {
        to = PlainInsert t ∷ rest.to;
        formed = formed_prepend (end_token g) (PlainInsert t) rest.to x.4.0 (λ u e at. cc) rest.formed;
        prods = x.0 ++ rest.prods;
        leads = (x.0, x.1, i, rest.prods, (x.4.0, x.4.1, refl), rest.leads, refl);
        same = omega (arith, rest.same);
        none = λ e. absurd (push_some [] (PlainInsert t) rest.to (sym e));
        last = λ ends. last_before (PlainInsert t) rest.to steps ends.0 rest.none rest.last ends.1;
      }
  sorted st i (PlainDelete ∷ steps) ps after j x =
      let there = subst (λ (m : ℕ). Replays token g table lexemes x.1 m steps x.3 after j) x.4.3 x.5 in
      let here = subst (λ (l : List ℕ). Replays token g table lexemes l (i + 1) steps x.3 after j) x.4.2 there in
      let rest = sorted st (i + 1) steps x.3 after j here in
      record {
        to = sunk rest.to;
        formed = sunk_formed (end_token g) rest.to rest.formed;
        prods = rest.prods;
        leads = sunk_replays st i rest.to rest.prods after j x.4.0 rest.leads;
        same = omega (arith, sunk_costs token g lexemes costs i rest.to, rest.same);
        none = λ e. absurd (sunk_some rest.to e);
        last = λ ends.
            let before = rest.last (sunk_last rest.to ends.0 ends.1) in
            (PlainDelete ∷ before.0, ap (λ (l : List PlainStep). PlainDelete ∷ l) before.1);
      }
  sorted st i (PlainShift ∷ steps) ps after j x =
      let here = subst (λ (m : ℕ). Replays token g table lexemes x.1 m steps x.3 after j) x.4.2 x.5 in
      let rest = sorted x.1 (i + 1) steps x.3 after j here in
      record {
        to = PlainShift ∷ rest.to;
        formed = formed_prepend (end_token g) PlainShift rest.to tt (λ u e at. cc) rest.formed;
        prods = x.0 ++ rest.prods;
        leads = (x.0, x.1, i + 1, rest.prods, (x.4.0, x.4.1, refl), rest.leads, refl);
        same = omega (arith, rest.same);
        none = λ e. absurd (push_some [] PlainShift rest.to (sym e));
        last = λ ends. last_before PlainShift rest.to steps ends.0 rest.none rest.last ends.1;
      }

module _ {X : Type 0} (token : X → ℕ) (costs : List ℕ) (at : Asked X) where
  pub end_has_repair : (c : ℕ) (v : Configured) → IsEnd token costs at c v
      → (steps : List PlainStep) × RepairsAt token costs at c steps × LeadTo token at steps v
  end_has_repair c v h =
      let u = h.link.0 in
      let x = h.link.1 in
      let link = h.link.2 in
      let p = link.tail.some.0 in
      let run = runs_joined token at (root_of at) u v p (x ∷ []) link.tail.some.1 (runs_by token at u v x link.edge) in
      let s = sorted token at.checked.grammar at.lexemes costs at.checked.table at.stack at.place (p ++ x ∷ []) run.0 v.stack v.place run.1 in
      let there : LeadTo token at s.to v = (s.prods, s.leads) in
      let far = one_distance token costs at v (link.distance + edge_cost token costs at u x) c link.head h.distance in
      let same : cost_of token costs at s.to ≡ cost_of token costs at (p ++ x ∷ []) = s.same in
      let sum = cost_last token costs at (root_of at) u p x link.tail.some.1 in (
        s.to,
        (
          record {
            printed = record {
              formed = s.formed;
              last = λ ends. near_link_moves token costs at c u v x link h.distance h.link.3 (ends_in_one p x PlainShift (s.last ends));
            };
            works = works_to token at s.to v there h.goes_on;
          },
          omega (arith, same, sum, link.tail.some.2, far),
        ),
        there,
      )

pub ends_have_repairs : {X : Type 0} → EndsHaveRepairs X
ends_have_repairs token costs at c v h = end_has_repair token costs at c v h

-- after steps that lead to v a parse goes on as far as from v
pub goes_as_far_from : {X : Type 0} (token : X → ℕ) (at : Asked X) (steps : List PlainStep) (v : Configured) (far : ℕ) → LeadTo token at steps v
    → GoesAsFar token at steps far ↔ Reaches token at.checked.grammar at.checked.table at.lexemes (at.place + 250) v.stack v.place far
goes_as_far_from token at steps v far a =
    let g = at.checked.grammar in
    let table = at.checked.table in (
      (λ h.
          let same = replay_one_way token g table at.lexemes at.stack at.place steps h.2.0 h.0 h.1 a.0 v.stack v.place h.2.1 a.1 in
          subst (λ (j : ℕ). Reaches token g table at.lexemes (at.place + 250) v.stack j far) same.2
          (subst (λ (l : List ℕ). Reaches token g table at.lexemes (at.place + 250) l h.1 far) same.1 h.3)),
      (λ r. (v.stack, v.place, a, r)),
    )
