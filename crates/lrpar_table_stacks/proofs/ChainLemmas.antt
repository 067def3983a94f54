-- Reductions under one lookahead, cut into chains. The first chain has the top state as its base, and begins with it alone. A
-- reduction that drops the base ends the chain; the base of the next chain is the top state that is left, and the chain begins
-- with that state and its goto. So bases lie lower and lower in the first stack; each chain makes at most `cap` reductions, and
-- there are at most as many chains as states: at most `cap` reductions for each state. The last chain never has more than two
-- states and one for each of its reductions, so the stack then has at most `cap + 2` states more than there are below the
-- chain's base; and no chain began at any of those, so there are that many chains fewer.
use Rattle.std.proofs.Common.{◌≡◌, ◌<◌, ◌≤◌, ◌+◌, ◌*◌, ◌-◌, ◌∙◌, inl, inr, refl, sym, ap, arith, append_assoc, ℕ, zero, suc, List, [], ◌∷◌, ◌++◌, length, take, Some, Option, length-append}
use Rattle.std.proofs.Math.Nat.{mul-le-mul_left}
use Rattle.std.proofs.Math.Seq.{take-append-add}
use Rattle.std.proofs.lemmas.Bool.{cases_lt}
use Rattle.std.proofs.lemmas.List.{length-take, length-take-le, take-append-le}
use Rattle.std.proofs.lemmas.List.Elements.{All-nil, All-cons, All-take, All-pop}
use Rattle.std.specs.List.{All}
use Rattle.std.specs.Option.{option_map_or, option_and_then}
use Rattle.lrpar_grammar.specs.Grammar.{Grammar, GrammarSymbol, prod_len, rule_of}
use Rattle.lrpar_table_stacks.specs.Chain.{IsChainStart, HasReductions, AreChainsShort, BoundsReductions}
use Rattle.lrpar_table_stacks.specs.Path.{Leads}
use Rattle.lrpar_table_stacks.specs.Reduction.{Reduces, ReducesBy, top_action, top_goto, left_by}
use Rattle.lrpar_table_stacks.specs.Stack.{top_of}
use Rattle.lrpar_table_rows.specs.Table.{Table, ReduceBy, Fails, IsClosed, action_of, goto_of, states_len}
use Rattle.lrpar_table_stacks.proofs.PathLemmas.{goes_within}

-- the top of a stack is that of its upper states
pub top_over : (below short : List ℕ) → 0 < length short → top_of (below ++ short) ≡ top_of short
top_over [] short some = refl
top_over (s ∷ below) short some =
    let e : length (s ∷ below ++ short) - 1 ≡ suc (length (below ++ short) - 1) = omega (arith, length-append below short) in
    rw e (top_over below short some)

-- and its action is theirs
action_over : (table : Table) (t : ℕ) (below short : List ℕ) → 0 < length short → top_action table t (below ++ short) ≡ top_action table t short
action_over table t below short some =
    ap (λ (top : Option ℕ). option_map_or (λ s. action_of table s t) top Fails) (top_over below short some)

goto_over : (table : Table) (r : ℕ) (below short : List ℕ) → 0 < length short → top_goto table r (below ++ short) ≡ top_goto table r short
goto_over table r below short some =
    ap (λ (top : Option ℕ). option_and_then (λ s. goto_of table s r) top) (top_over below short some)

-- the states that a production leaves, if all its symbols are in the upper states
left_over : (g : Grammar) (p : ℕ) (below short : List ℕ) → prod_len g p ≤ length short
    → left_by g p (below ++ short) ≡ below ++ left_by g p short
left_over g p below short fits =
    let e : length (below ++ short) - prod_len g p ≡ length below + (length short - prod_len g p) = omega (arith, length-append below short) in
    rw e (take-append-add below short (length short - prod_len g p))

-- a reduction within the upper states is a reduction of these
record Inside (g : Grammar) (table : Table) (t : ℕ) (below short : List ℕ) (p : ℕ) (next : List ℕ) : Type 0 where
  pub after : List ℕ
  pub whole : next ≡ below ++ after
  pub reduces : Reduces g table t short p after

inside : (g : Grammar) (table : Table) (t : ℕ) (below short : List ℕ) (p : ℕ) (next : List ℕ) → prod_len g p < length short
    → Reduces g table t (below ++ short) p next → Inside g table t below short p next
inside g table t below short p next fits h =
    let some : 0 < length short = omega arith in
    let left : left_by g p (below ++ short) ≡ below ++ left_by g p short = left_over g p below short (omega arith) in
    let left_some : 0 < length (left_by g p short) = omega (arith, length-take (length short - prod_len g p) short) in
    record {
      after = left_by g p short ++ h.state ∷ [];
      whole = h.pushed ∙ ap (λ (l : List ℕ). l ++ h.state ∷ []) left ∙ append_assoc below (left_by g p short) (h.state ∷ []);
      reduces = record {
        action = sym (action_over table t below short some) ∙ h.action;
        known = h.known;
        deep = fits;
        state = h.state;
        goto = sym (goto_over table (rule_of g p) below (left_by g p short) left_some)
            ∙ sym (ap (λ (l : List ℕ). top_goto table (rule_of g p) l) left) ∙ h.goto;
        pushed = refl;
      };
    }

-- a reduction gives at most one more state
reduced_length : (g : Grammar) (table : Table) (t : ℕ) (st : List ℕ) (p : ℕ) (after : List ℕ) → Reduces g table t st p after
    → (0 < length after) × (length after ≤ length st + 1)
reduced_length g table t st p after h =
    let e : length after ≡ length (left_by g p st) + 1 =
    ap (λ (l : List ℕ). length l) h.pushed ∙ length-append (left_by g p st) (h.state ∷ []) in
    let left = length-take (length st - prod_len g p) st in (omega arith, omega (arith, left))

-- the last of some states, and those before it
split_last : (s : ℕ) (st : List ℕ) → (lower : List ℕ) × (base : ℕ) × (s ∷ st ≡ lower ++ base ∷ [])
split_last s [] = ([], s, refl)
split_last s (next ∷ st) = let more = split_last next st in (s ∷ more.0, more.1, ap (λ (l : List ℕ). s ∷ l) more.2)

split_top : (st : List ℕ) → 0 < length st → (lower : List ℕ) × (base : ℕ) × (st ≡ lower ++ base ∷ [])
split_top [] some = absurd (omega arith)
split_top (s ∷ st) some = split_last s st

-- a reduction that drops the upper states leaves some of those below, the last of them with its goto
record Dropped (g : Grammar) (table : Table) (below : List ℕ) (p : ℕ) (next : List ℕ) : Type 0 where
  pub lower : List ℕ
  pub base : ℕ
  pub left : take (length lower + 1) below ≡ lower ++ base ∷ []
  pub state : ℕ
  pub goto : goto_of table base (rule_of g p) ≡ Some state
  pub whole : next ≡ lower ++ base ∷ state ∷ []
  pub shorter : length lower < length below

dropped : (g : Grammar) (table : Table) (t : ℕ) (below short : List ℕ) (p : ℕ) (next : List ℕ) → length short ≤ prod_len g p
    → Reduces g table t (below ++ short) p next → Dropped g table below p next
dropped g table t below short p next all h =
    let n = length (below ++ short) - prod_len g p in
    let fits : n ≤ length below = omega (arith, length-append below short) in
    let left : left_by g p (below ++ short) ≡ take n below = take-append-le n below short fits in
    let deep : prod_len g p < length (below ++ short) = h.deep in
    let many : length (take n below) ≡ n = length-take-le n below fits in
    let parts = split_top (take n below) (omega arith) in
    let lower_many : n ≡ length parts.0 + 1 =
    sym many ∙ ap (λ (l : List ℕ). length l) parts.2 ∙ length-append parts.0 (parts.1 ∷ []) in
    let left_parts : left_by g p (below ++ short) ≡ parts.0 ++ parts.1 ∷ [] = left ∙ parts.2 in
    record {
      lower = parts.0;
      base = parts.1;
      left = ap (λ (m : ℕ). take m below) (sym lower_many) ∙ parts.2;
      state = h.state;
      goto = sym (goto_over table (rule_of g p) parts.0 (parts.1 ∷ []) (omega arith))
          ∙ sym (ap (λ (l : List ℕ). top_goto table (rule_of g p) l) left_parts) ∙ h.goto;
      whole = h.pushed ∙ ap (λ (l : List ℕ). l ++ h.state ∷ []) left_parts ∙ append_assoc parts.0 (parts.1 ∷ []) (h.state ∷ []);
      shorter = omega (arith, lower_many, fits);
    }

-- a chain that makes at least n + 1 reductions makes at least n
one_less : (g : Grammar) (table : Table) (t n : ℕ) (st : List ℕ) → HasReductions g table t st (suc n) → HasReductions g table t st n
one_less g table t zero st h = tt
one_less g table t (suc n) st h =
    elim h as (λ _. HasReductions g table t st (suc n)) [
      | inl more ↦ inl (more.0, more.1, more.2, one_less g table t n more.1 more.3)
      | inr last ↦ absurd (omega (arith, last.1))
    ]

pub less : (g : Grammar) (table : Table) (t k n : ℕ) (st : List ℕ) → HasReductions g table t st (k + n) → HasReductions g table t st n
less g table t zero n st h = let e : 0 + n ≡ n = omega arith in rw e at h
less g table t (suc k) n st h =
    let e : suc k + n ≡ suc (k + n) = omega arith in less g table t k n st (one_less g table t (k + n) st (rw e at h))

-- a base of the table and a start of its chain, which by k reductions at token t comes to the states of `short`
record Chained (g : Grammar) (table : Table) (t : ℕ) (short : List ℕ) (k : ℕ) : Type 0 where
  pub base : ℕ
  pub within : base < states_len table
  pub start : List ℕ
  pub starts : IsChainStart table base start
  pub made : (m : ℕ) → HasReductions g table t short m → HasReductions g table t start (k + m)
  pub some : 0 < length short
  pub few : length short ≤ k + 2

-- no reduction yet
chain_begins : (g : Grammar) (table : Table) (t base : ℕ) (start : List ℕ) → base < states_len table → IsChainStart table base start
    → 0 < length start → length start ≤ 2 → Chained g table t start 0
chain_begins g table t base start within starts some few =
    record {
      base = base;
      within = within;
      start = start;
      starts = starts;
      made = λ m h. let e : 0 + m ≡ m = omega arith in rw e h;
      some = some;
      few = omega arith;
    }

-- one more reduction
chain_more : (g : Grammar) (table : Table) (t : ℕ) (short : List ℕ) (k p : ℕ) (after : List ℕ) → Chained g table t short k
    → Reduces g table t short p after → Chained g table t after (k + 1)
chain_more g table t short k p after chained reduces =
    let many = reduced_length g table t short p after reduces in
    record {
      base = chained.base;
      within = chained.within;
      start = chained.start;
      starts = chained.starts;
      made = λ m h. let e : k + 1 + m ≡ k + suc m = omega arith in rw e (chained.made (suc m) (inl (p, after, reduces, h)));
      some = many.0;
      few = let short_few : length short ≤ k + 2 = chained.few in omega (arith, many.1);
    }

module _ (g : Grammar) (table : Table) (cap t : ℕ) (short_chains : AreChainsShort g table cap) (token : t < table.tokens) where
  -- so a chain has made at most `cap` reductions
  at_most : (short : List ℕ) (k m : ℕ) → Chained g table t short k → HasReductions g table t short m → k + m ≤ cap
  at_most short k m chained more =
      elim (cases_lt cap (k + m)) as (λ _. k + m ≤ cap) [
        | inl long ↦
            let e : k + m ≡ (k + m - (cap + 1)) + (cap + 1) = omega arith in
            let all : HasReductions g table t chained.start (k + m) = chained.made m more in
            let over = less g table t (k + m - (cap + 1)) (cap + 1) chained.start (rw e at all) in
            absurd (short_chains chained.base t chained.within token (chained.start, chained.starts, over))
        | inr fits ↦ fits
      ]

  -- the claim, of a stack whose upper states are in a chain that has made k reductions
  bounded : (prods below short after : List ℕ) (k : ℕ) → All (λ s. s < states_len table) below → Chained g table t short k
      → ReducesBy g table t (below ++ short) prods after
      → (length prods + k ≤ cap * (length below + 1)) × (length prods + k + cap * length after ≤ cap * (length below + cap + 3))
  bounded [] below short after k within chained same =
      let made : k ≤ cap = omega (arith, at_most short k 0 chained tt) in
      let few : length short ≤ k + 2 = chained.few in
      let e : length after ≡ length below + length short = sym (ap (λ (l : List ℕ). length l) same) ∙ length-append below short in
      let height : length after ≤ length below + cap + 2 = omega arith in
      let most = mul-le-mul_left cap height in
      (omega arith, omega (arith, most))
  bounded (p ∷ prods) below short after k within chained reduces =
      elim (cases_lt (prod_len g p) (length short))
      as (λ _. (length (p ∷ prods) + k ≤ cap * (length below + 1)) × (length (p ∷ prods) + k + cap * length after ≤ cap * (length below + cap + 3))) [
        | inl fits ↦
            let i = inside g table t below short p reduces.0 fits reduces.1 in
            let rest = rw i.whole at reduces.2 in
            let more = bounded prods below i.after after (k + 1) within (chain_more g table t short k p i.after chained i.reduces) rest in
            (omega (arith, more.0), omega (arith, more.1))
        | inr all ↦
            let d = dropped g table t below short p reduces.0 all reduces.1 in
            let action : top_action table t short ≡ ReduceBy p = sym (action_over table t below short chained.some) ∙ reduces.1.action in
            let last : k + 1 ≤ cap = at_most short k 1 chained (inr ((p, action, all), refl)) in
            let kept = All-take (λ s. s < states_len table) (length d.lower + 1) below within in
            let parts = All-pop (λ s. s < states_len table) (take (length d.lower + 1) below) d.lower (Some d.base) d.left kept in
            let chain = chain_begins g table t d.base (d.base ∷ d.state ∷ []) parts.1 (inr (rule_of g p, d.state, d.goto, refl)) (omega arith) (omega arith) in
            let more = bounded prods d.lower (d.base ∷ d.state ∷ []) after 0 parts.0 chain (rw d.whole at reduces.2) in
            let shorter : length d.lower < length below = d.shorter in
            let lower : length d.lower + 1 ≤ length below = omega (arith, shorter) in
            let height : length d.lower + cap + 3 ≤ length below + cap + 2 = omega arith in
            let most = mul-le-mul_left cap lower in let most_height = mul-le-mul_left cap height in
            (omega (arith, more.0, most), omega (arith, more.1, most_height))
      ]

-- each state of a path is one of the table
all_within : (table : Table) → IsClosed table → (s : ℕ) (symbols : List GrammarSymbol) (st : List ℕ) → s < states_len table
    → Leads table s symbols st → All (λ s. s < states_len table) (s ∷ st)
all_within table closed s [] [] within leads = All-cons (λ s. s < states_len table) s [] within (All-nil (λ s. s < states_len table))
all_within table closed s [] (next ∷ st) within leads = absurd leads
all_within table closed s (x ∷ xs) [] within leads = absurd leads
all_within table closed s (x ∷ xs) (next ∷ st) within leads =
    All-cons (λ s. s < states_len table) s (next ∷ st) within
    (all_within table closed next xs st (goes_within table closed s x next leads.0) leads.1)

pub bounds_reductions : BoundsReductions
bounds_reductions g table cap closed short symbols [] t prods after path token reduces = absurd path
bounds_reductions g table cap closed short symbols (s ∷ st) t prods after path token reduces =
    let start : s < states_len table = rw path.0 closed.start_within in
    let within = all_within table closed s symbols st start path.1 in
    let parts = split_last s st in
    let below = All-pop (λ s. s < states_len table) (s ∷ st) parts.0 (Some parts.1) parts.2 within in
    let chain = chain_begins g table t parts.1 (parts.1 ∷ []) below.1 (inl refl) (omega arith) (omega arith) in
    let more = bounded g table cap t short token prods parts.0 (parts.1 ∷ []) after 0 below.0 chain (rw parts.2 at reduces) in
    let many : length (s ∷ st) ≡ length parts.0 + 1 = ap (λ (l : List ℕ). length l) parts.2 ∙ length-append parts.0 (parts.1 ∷ []) in
    let most : length prods ≤ cap * (length parts.0 + 1) = omega (arith, more.0) in
    let most_height : length prods + cap * length after ≤ cap * (length parts.0 + cap + 3) = omega (arith, more.1) in
    let height : length parts.0 + cap + 3 ≡ length (s ∷ st) + cap + 2 = omega (arith, many) in
    (rw many most, rw (← height) most_height)
