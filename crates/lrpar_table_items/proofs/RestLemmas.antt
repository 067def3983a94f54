-- Rules that wait to pass their lookaheads on, and rules that rest.
use Rattle.std.proofs.Common.{◌≡◌, ◌≢◌, ◌<◌, ◌+◌, ◌||◌, ◌++◌, [], ◌∷◌, All, ◌∙◌, refl, sym, ap, subst, inl, inr, arith, ℕ, Bool, true, false, List, length, set}
use Rattle.std.specs.Bool.{OnFalse, OnTrue}
use Rattle.std.proofs.lemmas.Bool.{OnFalse_at, OnFalse_from, OnTrue_at, OnTrue_from, cases_Bool, cases_eq, cases_lt, false≢true, or_parts, or_right, true≢false}
use Rattle.std.proofs.lemmas.List.{get_or-set_other, get_or-set_same, set-get_or}
use Rattle.std.proofs.lemmas.List.Elements.{All-contains, All-push, All-weaker}
use Rattle.lrpar_grammar.specs.Grammar.{Grammar, IsWellFormed, prods_len, prods_of, rule_of, rules_len}
use Rattle.lrpar_grammar.specs.Tokens.{has}
use Rattle.lrpar_table_first.specs.FirstRows.{HoldNothing, row_at, total_missing}
use Rattle.lrpar_table_items.specs.Brought.{IsSpreadAt, IsSpreadOf, Keeps}
use Rattle.lrpar_table_items.specs.Working.{AreSpreadButWaiting, HasGrown, KeepsResting, Rests, brought_rows}
use Rattle.lrpar_table_items.specs.declared.sets.Sets.{Sets}
use Rattle.lrpar_table_items.proofs.ProdLemmas.{in_prods, rule_below}
use Rattle.lrpar_table_items.proofs.SpreadLemmas.{brought_itself, brought_on, keeps_itself, keeps_on}

-- a production whose rule has the lookaheads that it had stays closed, if no lookahead was lost
pub still_spread_at : (g : Grammar) (before after : List (List Bool)) (p : ℕ) → Keeps before after
    → row_at after (rule_of g p) ≡ row_at before (rule_of g p) → IsSpreadAt g before p → IsSpreadAt g after p
still_spread_at g before after p kept same closed r s t w begins has_s first =
    kept r t (closed r s t w begins (subst (λ b. has b s ≡ true) same has_s) first)

still_spread_of : (g : Grammar) (before after : List (List Bool)) (n : ℕ) → Keeps before after → row_at after n ≡ row_at before n
    → IsSpreadOf g before n → IsSpreadOf g after n
still_spread_of g before after n kept same closed p known is =
    still_spread_at g before after p kept (subst (λ m. row_at after m ≡ row_at before m) (sym is) same) (closed p known is)

-- the rules that rest after a step have passed their lookaheads on
pub rest_still : (g : Grammar) (before after : Sets) → Keeps (brought_rows before) (brought_rows after) → KeepsResting before after
    → AreSpreadButWaiting g before → AreSpreadButWaiting g after
rest_still g before after kept resting all n rests =
    let was = resting n rests in
    still_spread_of g (brought_rows before) (brought_rows after) n kept was.1 (all n was.0)

-- as are those after a step for one rule, which waited and doesn't any more
pub rest_but_one : (g : Grammar) (before between after : Sets) (rule : ℕ) → brought_rows between ≡ brought_rows before
    → between.waits.items ≡ set before.waits.items rule false → Keeps (brought_rows between) (brought_rows after) → KeepsResting between after
    → (Rests after rule → IsSpreadOf g (brought_rows after) rule) → AreSpreadButWaiting g before → AreSpreadButWaiting g after
rest_but_one g before between after rule rows flags kept resting closed all n rests =
    elim (cases_eq n rule) as (λ _. IsSpreadOf g (brought_rows after) n) [
      | inl is ↦ subst (IsSpreadOf g (brought_rows after)) (sym is) (closed (subst (Rests after) is rests))
      | inr other ↦
          let was = resting n rests in
          let flag : has before.waits.items n ≡ false =
          sym (get_or-set_other before.waits.items rule n false false other) ∙ ap (λ waits. has waits n) (sym flags) ∙ was.0 in
          still_spread_of g (brought_rows between) (brought_rows after) n kept was.1 (subst (λ sets. IsSpreadOf g sets n) (sym rows) (all n flag))
    ]

-- resting in one step after another
pub resting_on : (one two three : Sets) → KeepsResting one two → KeepsResting two three → KeepsResting one three
resting_on one two three before after n rests =
    let last = after n rests in
    let first = before n last.0 in
    (first.0, last.1 ∙ first.1)

-- a rule that got new lookaheads was marked, and no other rule changed
pub resting_put : (waits : List Bool) (target : ℕ) (grown : Bool) (before after : List (List Bool)) → target < length waits
    → ((n : ℕ) → n ≢ target → row_at after n ≡ row_at before n) → (grown ≡ false → after ≡ before)
    → (n : ℕ) → has (set waits target (has waits target || grown)) n ≡ false → (has waits n ≡ false) × (row_at after n ≡ row_at before n)
resting_put waits target grown before after low other same n rests =
    let flag = has waits target || grown in
    elim (cases_eq n target) as (λ _. (has waits n ≡ false) × (row_at after n ≡ row_at before n)) [
      | inl here ↦
          let put = sym (get_or-set_same waits target flag false low) ∙ subst (λ m. has (set waits target flag) m ≡ false) here rests in
          let parts = or_parts (has waits target) grown put in
          (subst (λ m. has waits m ≡ false) (sym here) parts.0, ap (λ rows. row_at rows n) (same parts.1))
      | inr there ↦ (sym (get_or-set_other waits target n flag false there) ∙ rests, other n there)
    ]

or_false : (b : Bool) → (b || false) ≡ b
or_false true = refl
or_false false = refl

-- a mark that is set, and one that stays
pub marked : (waits : List Bool) (target : ℕ) (grown : Bool) → grown ≡ true → set waits target true ≡ set waits target (has waits target || grown)
marked waits target grown grew =
    let flag : true ≡ (has waits target || grown) = sym (or_right (has waits target) grown grew) in
    ap (set waits target) flag

-- if nothing was new, the marks are as before
pub marks_same : (waits : List Bool) (target : ℕ) (grown : Bool) → grown ≡ false → set waits target (has waits target || grown) ≡ waits
marks_same waits target grown fell =
    let flag : (has waits target || grown) ≡ has waits target = ap (λ b. has waits target || b) fell ∙ or_false (has waits target) in
    ap (set waits target) flag ∙ set-get_or waits target false

-- as `resting_put`, of the marks as they are then
pub marks_kept : (waits marks : List Bool) (target : ℕ) (grown : Bool) (before after : List (List Bool)) → target < length waits
    → marks ≡ set waits target (has waits target || grown)
    → ((n : ℕ) → n ≢ target → row_at after n ≡ row_at before n) → (grown ≡ false → after ≡ before)
    → (n : ℕ) → has marks n ≡ false → (has waits n ≡ false) × (row_at after n ≡ row_at before n)
marks_kept waits marks target grown before after low is other same n rests =
    resting_put waits target grown before after low other same n (subst (λ bits. has bits n ≡ false) is rests)

-- a rule that is marked waits, and no other rule changed
pub resting_mark : (waits : List Bool) (target : ℕ) (before after : List (List Bool)) → target < length waits
    → ((n : ℕ) → n ≢ target → row_at after n ≡ row_at before n)
    → (n : ℕ) → has (set waits target true) n ≡ false → (has waits n ≡ false) × (row_at after n ≡ row_at before n)
resting_mark waits target before after low other n rests =
    elim (cases_eq n target) as (λ _. (has waits n ≡ false) × (row_at after n ≡ row_at before n)) [
      | inl here ↦
          let put = subst (λ m. has (set waits target true) m ≡ false) here rests in
          absurd (true≢false (sym (get_or-set_same waits target true false low) ∙ put))
      | inr there ↦ (sym (get_or-set_other waits target n true false there) ∙ rests, other n there)
    ]

-- sets that hold nothing have nothing to pass on
pub nothing_spread : (g : Grammar) (rows : List (List Bool)) → HoldNothing rows → (n : ℕ) → IsSpreadOf g rows n
nothing_spread g rows none n p known is r s t w begins has_s first = absurd (false≢true (sym (none (rule_of g p) s) ∙ has_s))

-- if no rule waits, all productions are closed
pub all_spread : (g : Grammar) → IsWellFormed g → (sets : Sets) → AreSpreadButWaiting g sets → ((n : ℕ) → n < rules_len g → Rests sets n)
    → (p : ℕ) → p < prods_len g → IsSpreadAt g (brought_rows sets) p
all_spread g well sets waiting rests p known = waiting (rule_of g p) (rests (rule_of g p) (rule_below g well p known)) p known refl

less_on : (one two three : ℕ) (first second : Bool) → OnTrue first (two < one) → OnTrue second (three < two) → (first ≡ false → two ≡ one)
    → (second ≡ false → three ≡ two) → OnTrue (first || second) (three < one)
less_on one two three first second before after same_before same_after =
    OnTrue_from (first || second) (three < one) (λ held.
    elim (cases_Bool first) as (λ _. three < one) [
      | inl first_grew ↦
          let less = OnTrue_at first_grew before in
          elim (cases_Bool second) as (λ _. three < one) [
            | inl second_grew ↦ let more = OnTrue_at second_grew after in omega (arith, less, more)
            | inr fell ↦ let same = same_after fell in omega (arith, less, same)
          ]
      | inr fell ↦
          let same = same_before fell in
          let grew : second ≡ true = sym (ap (λ b. b || second) fell) ∙ held in
          let less = OnTrue_at grew after in
          omega (arith, same, less)
    ])

-- growth in one step after another
pub grown_itself : (g : Grammar) (sets : Sets) → HasGrown g false sets sets
grown_itself g sets = record { kept = keeps_itself _; sound = brought_itself g _; grown = tt; same = refl }

pub grown_on : (g : Grammar) (one two three : Sets) (first second : Bool) → HasGrown g first one two → HasGrown g second two three
    → HasGrown g (first || second) one three
grown_on g one two three first second before after = record {
  kept = keeps_on (brought_rows one) (brought_rows two) (brought_rows three) before.kept after.kept;
  sound = brought_on g (brought_rows one) (brought_rows two) (brought_rows three) before.sound after.sound;
  grown = less_on (total_missing (brought_rows one)) (total_missing (brought_rows two)) (total_missing (brought_rows three)) first second before.grown after.grown
      (λ fell. ap total_missing (OnFalse_at fell before.same)) (λ fell. ap total_missing (OnFalse_at fell after.same));
  same = OnFalse_from (first || second) _ (λ fell. let parts = or_parts first second fell in OnFalse_at parts.1 after.same ∙ OnFalse_at parts.0 before.same);
}

-- whether there is growth after one more step
pub flag_more : (was more now : Bool) → now ≡ true → more ≡ true → now ≡ (was || more)
flag_more was more now is grew = is ∙ sym (or_right was more grew)

pub flag_same : (was more now : Bool) → now ≡ was → more ≡ false → now ≡ (was || more)
flag_same was more now is fell = is ∙ sym (ap (λ b. was || b) fell ∙ or_false was)

-- the marks are as before, if there was no growth
pub marks_on : (one two three : Sets) (was more now : Bool) → now ≡ (was || more) → OnFalse was (two.waits.items ≡ one.waits.items)
    → OnFalse more (three.waits.items ≡ two.waits.items) → OnFalse now (three.waits.items ≡ one.waits.items)
marks_on one two three was more now is before after =
    OnFalse_from now (three.waits.items ≡ one.waits.items) (λ fell.
    let parts = or_parts was more (sym is ∙ fell) in OnFalse_at parts.1 after ∙ OnFalse_at parts.0 before)

-- the sets are closed at the production, unless its rule waits
abbrev pub IsSpreadOrWaits : Grammar → Sets → ℕ → Type 0
IsSpreadOrWaits g sets p = Rests sets (rule_of g p) → IsSpreadAt g (brought_rows sets) p

-- one more production
pub spread_more : (g : Grammar) (before after : Sets) (prods more : List ℕ) (p : ℕ) → more ≡ prods ++ p ∷ []
    → Keeps (brought_rows before) (brought_rows after) → KeepsResting before after → All (IsSpreadOrWaits g before) prods → IsSpreadOrWaits g after p
    → All (IsSpreadOrWaits g after) more
spread_more g before after prods more p is kept resting so_far last =
    let still = All-weaker (IsSpreadOrWaits g before) (IsSpreadOrWaits g after) (λ q h rests.
    let was = resting (rule_of g q) rests in still_spread_at g (brought_rows before) (brought_rows after) q kept was.1 (h was.0)) prods so_far in
    subst (All (IsSpreadOrWaits g after)) (sym is) (All-push (IsSpreadOrWaits g after) prods p still last)

-- all productions of a rule that doesn't wait
pub spread_all_of : (g : Grammar) (sets : Sets) (n : ℕ) → All (IsSpreadOrWaits g sets) (prods_of g n) → Rests sets n → IsSpreadOf g (brought_rows sets) n
spread_all_of g sets n all rests p known is =
    All-contains (IsSpreadOrWaits g sets) (prods_of g n) p all (in_prods g n p known is) (subst (Rests sets) (sym is) rests)

-- a rule more doesn't wait
pub rest_more : (before after : Sets) (rule : ℕ) → ((n : ℕ) → n < rule → Rests before n) → ((n : ℕ) → Rests before n → Rests after n) → Rests after rule
    → (n : ℕ) → n < rule + 1 → Rests after n
rest_more before after rule so_far kept last n low =
    elim (cases_lt n rule) as (λ _. Rests after n) [
      | inl early ↦ kept n (so_far n early)
      | inr late ↦ let is : rule ≡ n = omega (arith, low, late) in subst (Rests after) is last
    ]
