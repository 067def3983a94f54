-- What marks of rules justify. A rule that is marked is after the dot of a justified core, so what the marks justify is justified. Once
-- each core that the marks justify has the rule after its dot marked, they justify all justified cores: by induction on why a core is.
use Rattle.std.proofs.Common.{◌≡◌, ◌≢◌, ◌<◌, ◌==◌, ◌+◌, ◌∙◌, ℕ, zero, suc, Bool, IsTrue, List, false, length, not, true, refl, sym, ap, subst, inl, inr, arith}
use Rattle.std.proofs.lemmas.Bool.{and_from, and_parts, cases_eq, eq-eqb, eqb-true, false≢true, ne_eqb, or_cases, or_left, or_parts, or_right}
use Rattle.lrpar_grammar.specs.Grammar.{Grammar, prods_len, rule_of, rules_len, start_prod}
use Rattle.lrpar_table_rows.specs.Graph.{Graph, HasCore}
use Rattle.lrpar_table_rows.specs.Safe.{HasShape}
use Rattle.lrpar_table_rows.specs.Table.{Table}
use Rattle.lrpar_table_viable.specs.Marks.{AreExact, AreMarked, IsCalled, IsFirstByMarks, IsUnjustifiedAt, MarksOn, is_begin, is_by_marks, is_marked}
use Rattle.lrpar_table_viable.specs.Viable.{AddsCore, Begins, Closes, IsJustified, Kernel}

-- a core that isn't justified has dot 0
pub dot_of_refused : (g : Grammar) (table : Table) (s : ℕ) (marks : List Bool) (p k : ℕ) → is_by_marks g table s marks p k ≡ false → k ≡ 0
dot_of_refused g table s marks p zero refused = refl
dot_of_refused g table s marks p (suc k) refused =
    let past : not (suc k == 0) ≡ true = ap not (ne_eqb (suc k) 0 (λ is. omega (arith, is))) in
    absurd (false≢true (sym (or_parts (not (suc k == 0)) _ refused).0 ∙ past))

module _ (g : Grammar) (graph : Graph) (table : Table) (s : ℕ) where
  -- if no rule is marked, each that is marked is called for
  pub none_marked : (marks : List Bool) → length marks ≡ rules_len g → ((r : ℕ) → is_marked marks r ≡ false) → AreMarked g graph table s marks
  none_marked marks rules none = record { rules = rules; called = λ r marked. absurd (false≢true (sym (none r) ∙ marked)) }

  -- one more may be marked, if a justified core has it after its dot
  pub one_marked : (before after : List Bool) (r : ℕ) → AreMarked g graph table s before → length after ≡ length before → IsCalled g graph table s r
      → ((n : ℕ) → n ≢ r → is_marked after n ≡ is_marked before n) → AreMarked g graph table s after
  one_marked before after r are room called others = record {
    rules = room ∙ are.rules;
    called = λ n marked.
        elim (cases_eq n r) as (λ _. IsCalled g graph table s n) [
          | inl same ↦ subst (IsCalled g graph table s) (sym same) called
          | inr other ↦ are.called n (sym (others n other) ∙ marked)
        ];
  }

  -- what the marks justify is justified
  pub justified_by : (marks : List Bool) → AreMarked g graph table s marks → (p k : ℕ) → p < prods_len g → HasCore graph s p k
      → IsTrue (is_by_marks g table s marks p k) → IsJustified g graph table s p k
  justified_by marks are p (suc k) known has by =
      let at : k + 1 ≡ suc k = omega arith in
      subst (IsJustified g graph table s p) at (Kernel p k (subst (HasCore graph s p) (sym at) has))
  justified_by marks are p zero known has by =
      elim (or_cases (is_begin g table s p) (is_marked marks (rule_of g p)) by) as (λ _. IsJustified g graph table s p 0) [
        | inl begins ↦
            let parts = and_parts (p == start_prod g) (s == table.start) begins in
            let is : p ≡ start_prod g = eqb-true p (start_prod g) parts.0 in
            subst (λ (q : ℕ). IsJustified g graph table s q 0) (sym is)
            (Begins (eqb-true s table.start parts.1) (subst (λ (q : ℕ). HasCore graph s q 0) is has))
        | inr marked ↦
            let called = are.called (rule_of g p) marked in
            let adds : AddsCore g called.prod called.dot p =
            record { rule = rule_of g p; rest = called.rest; before = called.before; known = known; of_rule = refl } in
            Closes called.prod called.dot p called.justified adds has
      ]

  -- a justified core is one of the state
  justified_has : (p k : ℕ) → IsJustified g graph table s p k → HasCore graph s p k
  justified_has a b (Kernel p k has) = has
  justified_has a b (Begins at has) = has
  justified_has a b (Closes p k q justified adds has) = has

  -- once the marks are closed, they justify each justified core
  by_marks : (marks : List Bool) → ((p k : ℕ) → HasCore graph s p k → MarksOn g table s marks p k) → (p k : ℕ) → IsJustified g graph table s p k
      → IsTrue (is_by_marks g table s marks p k)
  by_marks marks closed a b (Kernel p k has) =
      or_left (not (k + 1 == 0)) _ (ap not (ne_eqb (k + 1) 0 (λ is. omega (arith, is))))
  by_marks marks closed a b (Begins at has) =
      let begins = and_from (start_prod g == start_prod g) (s == table.start) (eq-eqb (start_prod g) (start_prod g) refl) (eq-eqb s table.start at) in
      or_right (not (0 == 0)) _ (or_left (is_begin g table s (start_prod g)) _ begins)
  by_marks marks closed a b (Closes p k q justified adds has) =
      let marked = closed p k (justified_has p k justified) (by_marks marks closed p k justified) adds.rule adds.rest adds.before in
      let own = subst (λ (r : ℕ). IsTrue (is_marked marks r)) (sym adds.of_rule) marked in
      or_right (not (0 == 0)) _ (or_right (is_begin g table s q) (is_marked marks (rule_of g q)) own)

  -- so they justify exactly these
  pub exact_marks : (marks : List Bool) → HasShape g graph table → AreMarked g graph table s marks
      → ((p k : ℕ) → HasCore graph s p k → MarksOn g table s marks p k) → AreExact g graph table s marks
  exact_marks marks shape are closed p k has =
      (justified_by marks are p k (shape.items s p k has.0 has.1).prod has, by_marks marks closed p k)

  -- the first core that they don't justify is the first that isn't justified
  pub unjustified_at : (marks : List Bool) (p : ℕ) → AreExact g graph table s marks → IsFirstByMarks g graph table s marks p
      → IsUnjustifiedAt g graph table s p
  unjustified_at marks p exact first = record {
    has = first.has;
    unjustified = λ justified. false≢true (sym first.unmarked ∙ (exact p 0 first.has).1 justified);
    lower = λ q less has. (exact q 0 has).0 (first.lower q less has);
  }
