-- The greatest number of reductions that the chains of a state make, chain by chain.
use Rattle.std.proofs.Common.{◌≡◌, ◌<◌, ◌≤◌, ◌+◌, ◌↔◌, ◌⊎◌, inl, inr, arith, ap, refl, sym, subst, ℕ, List, [], ◌∷◌, length, Option, Some, None, slice_index_or, max, Result, Ok, Err, IfOk, IfSome}
use Rattle.std.specs.Option.{MatchOption}
use Rattle.std.specs.List.{Contains}
use Rattle.std.proofs.Math.Nat.{max-eq_left, max-eq_right}
use Rattle.std.proofs.lemmas.Bool.{cases_lt}
use Rattle.lrpar_grammar.specs.Grammar.{Grammar}
use Rattle.lrpar_table_stacks.specs.Chain.{HasReductions, IsChainStart}
use Rattle.lrpar_table_rows.proofs.TestLemmas.{each_more}
use Rattle.lrpar_table_rows.specs.Table.{Table, goto_of}
use Rattle.lrpar_table_check.specs.Counts.{IsLongestWith}
use Rattle.lrpar_table_check.specs.LeastCap.{AreShortAt, IsLeastAt}
use Rattle.lrpar_table_check.specs.Lengths.{IsLongest, IsLongestWithin}
use Rattle.lrpar_table_check.proofs.LeastCapLemmas.{fewer, fewer_not}

-- the greater one of two numbers is one of them
pub max_one : (m n : ℕ) → (max m n ≡ m) ⊎ (max m n ≡ n)
max_one m n =
    elim (cases_lt m n) as (λ _. (max m n ≡ m) ⊎ (max m n ≡ n)) [
      | inl less ↦ inr (max-eq_right (omega (arith, less)))
      | inr more ↦ inl (max-eq_left more)
    ]

-- `longest` is `from`, or a chain of state s makes so many reductions
pub record IsReached (g : Grammar) (table : Table) (cap s from longest : ℕ) : Type 0 where
  pub within : longest ≤ cap
  pub above : from ≤ longest
  pub reached : from < longest → (t : ℕ) × (st : List ℕ) × (t < table.tokens) × IsChainStart table s st × HasReductions g table t st longest

module _ (g : Grammar) (table : Table) (cap s from : ℕ) where
  pub reached_none : from ≤ cap → IsReached g table cap s from from
  reached_none within = record { within = within; above = omega arith; reached = λ none. absurd (omega (arith, none)) }

  -- by one chain more
  pub reached_more : (mid longest : ℕ) (st : List ℕ) → IsChainStart table s st → IsReached g table cap s from mid → IsLongest g table cap st mid longest
      → IsReached g table cap s from longest
  reached_more mid longest st start so_far here = record {
    within = here.within;
    above = omega (arith, so_far.above, here.above);
    reached = λ higher.
        elim (cases_lt mid longest) as (λ _. (t : ℕ) × (st : List ℕ) × (t < table.tokens) × IsChainStart table s st × HasReductions g table t st longest) [
          | inl new ↦ let by = here.reached new in (by.0, st, by.1, start, by.2)
          | inr old ↦
              let same : mid ≡ longest = omega (arith, old, here.above) in
              let by = so_far.reached (omega (arith, same, higher)) in
              (by.0, by.1, by.2, by.3, subst (λ (n : ℕ). HasReductions g table by.0 by.1 n) same by.4)
        ];
  }

  -- the last one is that of a goto
  pub longest_with_last : (mid longest r next : ℕ) → goto_of table s r ≡ Some next → IsReached g table cap s from mid
      → IsLongest g table cap (s ∷ next ∷ []) mid longest → IsLongestWith g table cap s next from longest
  longest_with_last mid longest r next goes so_far here =
      let all = reached_more mid longest (s ∷ next ∷ []) (inr (r, next, goes, refl)) so_far here in
      record { within = all.within; above = all.above; passes = here.passes; reached = all.reached }

-- the greatest number so far, of chains of s, among them those that begin with s and its first gotos
pub record IsLongestOf (g : Grammar) (table : Table) (cap s : ℕ) (es : List (ℕ × ℕ)) (from gotos longest : ℕ) : Type 0 where
  pub reach : IsReached g table cap s from longest
  pub with_goto : (k : ℕ) (d : ℕ × ℕ) → k < gotos → (t : ℕ) → ¬ (HasReductions g table t (s ∷ (slice_index_or es k d).1 ∷ []) (longest + 1))

module _ (g : Grammar) (table : Table) (cap s : ℕ) (es : List (ℕ × ℕ)) (from : ℕ) where
  pub of_none : from ≤ cap → IsLongestOf g table cap s es from 0 from
  of_none within = record { reach = reached_none g table cap s from within; with_goto = λ k d none. absurd (omega (arith, none)) }

  -- one goto more
  pub of_more : (i longest : ℕ) (e : ℕ × ℕ) (more : ℕ) → i < length es → e ≡ slice_index_or es i e → IsLongestOf g table cap s es from i longest
      → IsLongestWith g table cap s e.1 longest more → IsLongestOf g table cap s es from (i + 1) more
  of_more i longest e more below read so_far here = record {
    reach = record {
      within = here.within;
      above = omega (arith, so_far.reach.above, here.above);
      reached = λ higher.
          elim (cases_lt longest more) as (λ _. (t : ℕ) × (st : List ℕ) × (t < table.tokens) × IsChainStart table s st × HasReductions g table t st more) [
            | inl new ↦ here.reached new
            | inr old ↦
                let same : longest ≡ more = omega (arith, old, here.above) in
                let by = so_far.reach.reached (omega (arith, same, higher)) in
                (by.0, by.1, by.2, by.3, subst (λ (n : ℕ). HasReductions g table by.0 by.1 n) same by.4)
          ];
    };
    with_goto =
        each_more (λ (x : ℕ × ℕ). (t : ℕ) → ¬ (HasReductions g table t (s ∷ x.1 ∷ []) (more + 1))) es i e below read here.passes
        (λ k d less t. fewer_not g table t (longest + 1) (more + 1) (s ∷ (slice_index_or es k d).1 ∷ []) (omega (arith, here.above)) (so_far.with_goto k d less t));
  }

  -- with the chain that begins with s alone it is the least cap that no chain of s exceeds
  pub least_by_longest : (exact : (r next : ℕ) → Contains es (r, next) ↔ (goto_of table s r ≡ Some next)) (i longest last : ℕ) → length es ≤ i
      → IsLongestOf g table cap s es from i longest → IsLongest g table cap (s ∷ []) longest last → IsLeastAt g table s from last
  least_by_longest exact i longest last all found alone =
      let reach = reached_more g table cap s from longest last (s ∷ []) (inl refl) found.reach alone in
      record {
        above = reach.above;
        passes = λ t token long.
            let Made : List ℕ → Type 0 = λ st. HasReductions g table t st (last + 1) in
            elim long.1 as (λ _. ⊥) [
              | inl single ↦ alone.passes t (subst Made single long.2)
              | inr over ↦
                  let there = (exact over.0 over.1).1 over.2 in
                  let next : (slice_index_or es there.0 (over.0, over.1)).1 ≡ over.1 = ap (λ (x : ℕ × ℕ). x.1) there.2 in
                  let made : Made (s ∷ over.1 ∷ []) = subst Made over.3 long.2 in
                  fewer_not g table t (longest + 1) (last + 1) (s ∷ (slice_index_or es there.0 (over.0, over.1)).1 ∷ []) (omega (arith, alone.above))
                  (found.with_goto there.0 (over.0, over.1) (omega (arith, there.1, all)) t) (subst (λ (n : ℕ). Made (s ∷ n ∷ [])) (sym next) made)
            ];
        least = λ smaller from_on below short.
            let by = reach.reached (omega (arith, from_on, below)) in
            short by.0 by.2 (by.1, by.3, fewer g table by.0 (smaller + 1) last by.1 (omega (arith, below)) by.4);
      }

-- a chain of the state that is too long
pub not_short : (g : Grammar) (table : Table) (cap s : ℕ) (st : List ℕ) (from : ℕ) (o : Option ℕ) → IsChainStart table s st
    → IsLongestWithin g table cap st from o → o ≡ None → ¬ (AreShortAt g table cap s)
not_short g table cap s st from o start found is short =
    let long = subst (λ (p : Option ℕ). IsLongestWithin g table cap st from p) is found in short long.0 long.1 (st, start, long.2)

pub longest_found : (g : Grammar) (table : Table) (cap : ℕ) (st : List ℕ) (from : ℕ) (o : Option ℕ) (longest : ℕ) → IsLongestWithin g table cap st from o
    → o ≡ Some longest → IsLongest g table cap st from longest
longest_found g table cap st from o longest found is = subst (λ (p : Option ℕ). IsLongestWithin g table cap st from p) is found

-- the last chain is that of a goto
pub last_goto : (g : Grammar) (table : Table) (cap s from mid r next : ℕ) (E : Type 0) (result : Result (Option ℕ) E) → goto_of table s r ≡ Some next
    → IsReached g table cap s from mid
    → IfOk result (λ found. MatchOption found (¬ (AreShortAt g table cap s)) (IsLongest g table cap (s ∷ next ∷ []) mid))
    → IfOk result (λ found. MatchOption found (¬ (AreShortAt g table cap s)) (IsLongestWith g table cap s next from))
last_goto g table cap s from mid r next E (Ok (Some longest)) goes so_far h = longest_with_last g table cap s from mid longest r next goes so_far h
last_goto g table cap s from mid r next E (Ok None) goes so_far h = h
last_goto g table cap s from mid r next E (Err e) goes so_far h = tt

-- the last chain is that of the state alone
pub last_alone : (g : Grammar) (table : Table) (cap s : ℕ) (es : List (ℕ × ℕ)) (from i mid : ℕ) (E : Type 0) (result : Result (Option ℕ) E)
    → ((r next : ℕ) → Contains es (r, next) ↔ (goto_of table s r ≡ Some next)) → length es ≤ i → IsLongestOf g table cap s es from i mid
    → IfOk result (IsLongestWithin g table cap (s ∷ []) mid)
    → IfOk result (λ found. MatchOption found (¬ (AreShortAt g table cap s)) (λ longest. IsLeastAt g table s from longest × (longest ≤ cap)))
last_alone g table cap s es from i mid E (Ok (Some longest)) exact all found h =
    (least_by_longest g table cap s es from exact i mid longest all found h, h.within)
last_alone g table cap s es from i mid E (Ok None) exact all found h = λ short. short h.0 h.1 (s ∷ [], inl refl, h.2)
last_alone g table cap s es from i mid E (Err e) exact all found h = tt

-- what an option has
pub some_of : {A : Type 0} (o : Option A) (x : A) (P : Type 0) (Q : A → Type 0) → MatchOption o P Q → o ≡ Some x → Q x
some_of {A} o x P Q h is = subst (λ (p : Option A). MatchOption p P Q) is h

pub none_of : {A : Type 0} (o : Option A) (P : Type 0) (Q : A → Type 0) → MatchOption o P Q → o ≡ None → P
none_of {A} o P Q h is = subst (λ (p : Option A). MatchOption p P Q) is h

pub if_some_of : {A : Type 0} (o : Option A) (x : A) (Q : A → Type 0) → IfSome o Q → o ≡ Some x → Q x
if_some_of {A} o x Q h is = subst (λ (p : Option A). IfSome p Q) is h
