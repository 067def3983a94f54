-- The actions before conflict resolution at a token, computed from the cores of an item set: the list of reductions, and whether to
-- accept.
use Rattle.std.proofs.Common.{◌≡◌, ◌<◌, ◌≤◌, ◌+◌, ◌==◌, ◌&&◌, ◌↔◌, ◌∙◌, sym, ap, subst, inl, inr, arith, ℕ, zero, suc, Bool, true, false, cond, List, [], ◌∷◌, All, Option, Some, None, filter}
use Rattle.std.specs.List.{Contains, range_with_len}
use Rattle.std.proofs.lemmas.Bool.{and_from, and_parts, cases_Bool, eq-eqb, eqb-true}
use Rattle.std.proofs.lemmas.List.Elements.{All-contains}
use Rattle.std.proofs.lemmas.List.Folds.{Any-from_list_any, list_any-from_Any}
use Rattle.lrpar_grammar.specs.Grammar.{Grammar, GrammarSymbol, Nonterminal, Terminal, prod_len, start_prod}
use Rattle.lrpar_table_precedence.specs.Precedence.{PrecedenceLists, resolution_of}
use Rattle.lrpar_table_rows.specs.Graph.{ItemOf, item_at}
use Rattle.lrpar_table_rows.specs.Table.{ReduceBy, Table, action_of, goto_of}
use Rattle.lrpar_table_items.specs.Canonical.{AreSame, HasAccept, HasFirstReduce, HasReduce}
use Rattle.lrpar_table_items.specs.Cores.{CoreSet, IsAmong, IsCoreOf}
use Rattle.lrpar_grammar.specs.Tokens.{has}
use Rattle.lrpar_table_items.specs.Resolution.{AscendFrom, chosen, decides_at, is_complete, is_complete_at, reductions, resolved}
use Rattle.lrpar_table_build.proofs.StepLemmas.{ActsAlong, GoesAlong, IsStepAlong}
use Rattle.lrpar_table_build.proofs.MemberLemmas.{filter_has, filter_member, member_cases, member_first, member_none, range_has, range_member}
use Rattle.lrpar_table_items.proofs.ResolutionLemmas.{ascend_lower}

-- the least of numbers that ascend is the first
pub first_least : (a p : ℕ) (ks : List ℕ) → AscendFrom a ks → Contains ks p → a ≤ p
first_least a p [] up h = absurd (member_none p h)
first_least a p (k ∷ ks) up h =
    elim (member_cases k ks p h) [
      | inl here ↦ omega (arith, up.0, here)
      | inr later ↦ let rest = first_least (k + 1) p ks up.1 later in omega (arith, up.0, rest)
    ]

-- numbers of a range that pass a test ascend
pub kept_ascend : (test : ℕ → Bool) (a n : ℕ) → AscendFrom a (filter test (range_with_len a n))
kept_ascend test a zero = tt
kept_ascend test a (suc n) =
    let rest = kept_ascend test (a + 1) n in
    elim (cases_Bool (test a)) [
      | inl passed ↦
          subst (λ b. AscendFrom a (cond b (a ∷ filter test (range_with_len (a + 1) n)) (filter test (range_with_len (a + 1) n)))) (sym passed) (omega arith, rest)
      | inr failed ↦
          subst (λ b. AscendFrom a (cond b (a ∷ filter test (range_with_len (a + 1) n)) (filter test (range_with_len (a + 1) n)))) (sym failed)
          (ascend_lower a (a + 1) (filter test (range_with_len (a + 1) n)) (omega arith) rest)
    ]

module _ (g : Grammar) (cores : List CoreSet) where
  -- a complete item is there exactly if the test says so
  pub complete_found : (t p : ℕ) → (is_complete_at g cores t p ≡ true) ↔ IsAmong cores (item_at p (prod_len g p) t)
  complete_found t p =
      let test : CoreSet → Bool = λ core. is_complete g p core && has core.tokens t in (
        λ h.
            let found = Any-from_list_any test cores h in
            let core = found.1 in
            let parts = and_parts (is_complete g p core) (has core.tokens t) found.4 in
            let numbers = and_parts (core.prod == p) (core.dot == prod_len g p) parts.0 in
            (core, (found.0, found.2, found.3), (eqb-true core.prod p numbers.0, eqb-true core.dot (prod_len g p) numbers.1, parts.1)),
        λ h.
            let core = h.0 in
            let of = h.2 in
            let passes = and_from (is_complete g p core) (has core.tokens t)
            (and_from (core.prod == p) (core.dot == prod_len g p) (eq-eqb core.prod p of.0) (eq-eqb core.dot (prod_len g p) of.1)) of.2 in
            list_any-from_Any test cores (h.1.0, core, h.1.1, h.1.2, passes),
      )

  -- the reductions are the productions before the start production with a complete item
  pub reduction_is : (t p : ℕ) → Contains (reductions g cores t) p ↔ ((p < start_prod g) × IsAmong cores (item_at p (prod_len g p) t))
  reduction_is t p = (
    λ h.
        let kept = filter_member (is_complete_at g cores t) (range_with_len 0 (start_prod g)) p h in
        let within = range_member 0 (start_prod g) p kept.0 in
        (omega (arith, within), (complete_found t p).0 kept.1),
    λ h. filter_has (is_complete_at g cores t) (range_with_len 0 (start_prod g)) p (range_has 0 (start_prod g) p (omega arith) (omega (arith, h.0)))
        ((complete_found t p).1 h.1),
  )

  pub reductions_ascend : (t : ℕ) → AscendFrom 0 (reductions g cores t)
  reductions_ascend t = kept_ascend (is_complete_at g cores t) 0 (start_prod g)

module _ (g : Grammar) (sets : ℕ → ItemOf → Type 0) (s : ℕ) (cores : List CoreSet) (known : All (IsCoreOf g) cores) (is : AreSame (sets s) (IsAmong cores)) where
  -- the listed reductions are those that the set calls for
  pub candidate_is : (t p : ℕ) → HasReduce g sets s t p ↔ Contains (reductions g cores t) p
  candidate_is t p = (
    λ h.
        let among = (is (item_at p (prod_len g p) t)).0 h.1 in
        let core = All-contains (IsCoreOf g) cores among.0 known among.1 in
        let prod = among.2.0 in
        let low = core.prod in
        let other = h.0 in
        (reduction_is g cores t p).1 (omega (arith, prod, low, other), among),
    λ h. let one = (reduction_is g cores t p).0 h in
        let below = one.0 in
        (omega (arith, below), (is (item_at p (prod_len g p) t)).1 one.1),
  )

  -- the first of them is the one by the least production
  pub first_is : (t p : ℕ) (later : List ℕ) → reductions g cores t ≡ p ∷ later → HasFirstReduce g sets s t p
  first_is t p later at =
      let up : AscendFrom 0 (p ∷ later) = subst (AscendFrom 0) at (reductions_ascend g cores t) in (
        (candidate_is t p).1 (subst (λ (ks : List ℕ). Contains ks p) (sym at) (member_first p later)),
        λ q candidate. first_least p q (p ∷ later) (omega arith, up.1) (subst (λ (ks : List ℕ). Contains ks q) at ((candidate_is t q).0 candidate)),
      )

  pub first_alone : (t p q : ℕ) → HasFirstReduce g sets s t p → HasFirstReduce g sets s t q → p ≡ q
  first_alone t p q one other = omega (arith, one.1 q other.0, other.1 p one.0)

  -- if there are none, the set calls for none
  pub none_is : (t p : ℕ) → reductions g cores t ≡ [] → ¬ (HasReduce g sets s t p)
  none_is t p at candidate = member_none p (subst (λ (ks : List ℕ). Contains ks p) at ((candidate_is t p).0 candidate))

  -- the set calls for accept exactly if the start production is complete
  pub accept_is : (t : ℕ) → prod_len g (start_prod g) ≡ 1 → HasAccept g sets s t ↔ (is_complete_at g cores t (start_prod g) ≡ true)
  accept_is t one = (
    λ h. (complete_found g cores t (start_prod g)).1
        (subst (λ n. IsAmong cores (item_at (start_prod g) n t)) (sym one) ((is (item_at (start_prod g) 1 t)).0 h)),
    λ h. (is (item_at (start_prod g) 1 t)).1
        (subst (λ n. IsAmong cores (item_at (start_prod g) n t)) one ((complete_found g cores t (start_prod g)).0 h)),
  )

  -- so a table with the actions that are computed from cores and shifts has those after conflict resolution
  pub acts_along : (lists : PrecedenceLists) (goes : ℕ → GrammarSymbol → ℕ → Type 0) (t : ℕ) (table : Table) (shift : Option ℕ) (prods : List ℕ) (accepts : Bool)
      → prod_len g (start_prod g) ≡ 1 → IsStepAlong g sets goes s (Terminal t) shift → reductions g cores t ≡ prods
      → is_complete_at g cores t (start_prod g) ≡ accepts → action_of table s t ≡ resolved (decides_at lists t) shift prods accepts
      → ActsAlong g lists sets goes table s t
  acts_along lists goes t table (Some next) [] accepts one step reduces ends does = record {
    meets = λ _ p first. absurd (none_is t p reduces first.0);
    shifts = λ _ _. (next, does, step.1);
    reduces = λ none. absurd (none step.0);
    accepts = λ none. absurd (none step.0);
    fails = λ none. absurd (none step.0);
  }
  acts_along lists goes t table (Some next) (p ∷ later) accepts one step reduces ends does =
      let first = first_is t p later reduces in
      record {
        meets = λ _ q other. (next, does ∙ ap (λ n. chosen (resolution_of lists n t) next n) (first_alone t p q first other), step.1);
        shifts = λ _ no_reduction. absurd (no_reduction p first.0);
        reduces = λ none. absurd (none step.0);
        accepts = λ none. absurd (none step.0);
        fails = λ none. absurd (none step.0);
      }
  acts_along lists goes t table None (p ∷ later) accepts one step reduces ends does =
      let first = first_is t p later reduces in
      record {
        meets = λ before. absurd (step before);
        shifts = λ before. absurd (step before);
        reduces = λ none q other. does ∙ ap ReduceBy (first_alone t p q first other);
        accepts = λ none no_reduction. absurd (no_reduction p first.0);
        fails = λ none no_reduction. absurd (no_reduction p first.0);
      }
  acts_along lists goes t table None [] true one step reduces ends does = record {
    meets = λ before. absurd (step before);
    shifts = λ before. absurd (step before);
    reduces = λ none q first. absurd (none_is t q reduces first.0);
    accepts = λ none no_reduction accept. does;
    fails = λ none no_reduction no_accept. absurd (no_accept ((accept_is t one).1 ends));
  }
  acts_along lists goes t table None [] false one step reduces ends does = record {
    meets = λ before. absurd (step before);
    shifts = λ before. absurd (step before);
    reduces = λ none q first. absurd (none_is t q reduces first.0);
    accepts = λ none no_reduction accept. let yes = (accept_is t one).0 accept in let both : false ≡ true = sym ends ∙ yes in absurd (cc);
    fails = λ none no_reduction no_accept. does;
  }

-- and a table with the transitions by rules has the gotos of the item sets
pub goes_along : (g : Grammar) (sets : ℕ → ItemOf → Type 0) (goes : ℕ → GrammarSymbol → ℕ → Type 0) (s r : ℕ) (table : Table) (goto : Option ℕ)
    → IsStepAlong g sets goes s (Nonterminal r) goto → goto_of table s r ≡ goto → GoesAlong g sets goes table s r
goes_along g sets goes s r table None step does = record { goes_on = λ before. absurd (step before); stays = λ none. does }
goes_along g sets goes s r table (Some next) step does = record { goes_on = λ before. (next, does, step.1); stays = λ none. absurd (none step.0) }
