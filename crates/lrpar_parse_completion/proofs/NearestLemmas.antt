-- The search for the nearest place: the stacks after the first tokens, the places that were tried, and the steps of a repair.
use Rattle.std.proofs.Common.{◌≡◌, ◌<◌, ◌≤◌, ◌+◌, ◌∙◌, ◌⊎◌, ◌↔◌, inl, inr, refl, sym, ap, subst, arith, ℕ, zero, suc, Bool, true, false, List, [], ◌∷◌, ◌++◌, All, length, drop, take, get_or, slice_get, Option, Some, None, length-append}
use Rattle.std.specs.Prelude.{IsTrue, map, replicate}
use Rattle.std.proofs.lemmas.Bool.{cases_eq, cases_lt, false≢true}
use Rattle.std.proofs.lemmas.List.{append-nil, append_assoc, map-append, take_more}
use Rattle.std.proofs.lemmas.List.Elements.{All-append, All-cons, All-get_or, All-nil}
use Rattle.std.proofs.lemmas.Option.{get_or_from_slice_get, slice_get_within}
use Rattle.lrpar_grammar.specs.Grammar.{Grammar}
use Rattle.lrpar_table_rows.specs.Table.{Table}
use Rattle.lrpar_table_stacks.specs.Reduction.{Feeds}
use Rattle.lrpar_table_stacks.specs.Stack.{IsStack}
use Rattle.lrpar_parse_repair.specs.Asked.{Asked}
use Rattle.lrpar_parse_repair.specs.PlainSteps.{plain_step, plain_steps}
use Rattle.lrpar_parse_repair.specs.Sequences.{PlainStep, PlainInsert, PlainDelete, CanGoOn}
use Rattle.lrpar_parse_repair.specs.declared.repair_step.RepairStep.{RepairStep}
use Rattle.lrpar_parse_repair.specs.declared.repair_step.RepairStep.TheVariants.{Delete, Insert}
use Rattle.lrpar_grammar_places.specs.declared.span.TIdx.{TIdx}
use Rattle.lrpar_parse_completion.specs.Nearest.{FeedsAll, GoesOnAt, IsNearest, inserts_deletes}
use Rattle.lrpar_parse_completion.specs.Trying.{AreTried, IsFewest, IsInserted}
use Rattle.lrpar_parse_completion.proofs.FeedLemmas.{feeds_all_more, feeds_all_one_way, feeds_all_split}
use Rattle.lrpar_parse_completion.proofs.FoundLemmas.{last_cases}

-- the first m elements, around one of them
take_around : (xs : List ℕ) (m i : ℕ) → i < m → i < length xs → take m xs ≡ take i xs ++ (get_or xs i 0 ∷ drop (suc i) (take m xs))
take_around [] m i below inside = absurd (omega (arith, inside))
take_around (x ∷ xs) zero i below inside = absurd (omega (arith, below))
take_around (x ∷ xs) (suc m) zero below inside = refl
take_around (x ∷ xs) (suc m) (suc i) below inside = ap (λ (l : List ℕ). x ∷ l) (take_around xs m i (omega (arith, below)) (omega (arith, inside)))

-- one of the stacks
pub stack_tried : (table : Table) (stacks : List (List ℕ)) (i : ℕ) (st : List ℕ) → All (IsStack table) stacks → slice_get stacks i ≡ Some st
    → IsStack table st
stack_tried table stacks i st are at =
    subst (IsStack table) (get_or_from_slice_get stacks i st st at) (All-get_or (IsStack table) stacks i st (slice_get_within stacks i st at) are)

module _ (g : Grammar) (table : Table) (st tokens : List ℕ) where
  -- if the next token can't be fed, no more tokens can
  not_fed_past : (i : ℕ) (now next : List ℕ) → i < length tokens → FeedsAll g table st (take i tokens) now
      → IsInserted g table (get_or tokens i 0) now next false → (m : ℕ) (after : List ℕ) → i < m → ¬ (FeedsAll g table st (take m tokens) after)
  not_fed_past i now next inside fed none m after past all =
      let t = get_or tokens i 0 in
      let around = subst (λ (l : List ℕ). FeedsAll g table st l after) (take_around tokens m i past inside) all in
      let parts = feeds_all_split g table st (take i tokens) (t ∷ drop (suc i) (take m tokens)) after around in
      let same = feeds_all_one_way g table st (take i tokens) parts.0 now parts.1 fed in
      let first = parts.2 in
      none first.0 first.1.0 first.1.1 (subst (λ (l : List ℕ). Feeds g table t l first.1.0 first.1.1) same first.1.2)

  pub fed_next : (i : ℕ) (now next : List ℕ) → i < length tokens → FeedsAll g table st (take i tokens) now
      → IsInserted g table (get_or tokens i 0) now next true → FeedsAll g table st (take (i + 1) tokens) next
  fed_next i now next inside fed inserted =
      subst (λ (l : List ℕ). FeedsAll g table st l next) (sym (take_more tokens i 0 inside))
      (feeds_all_more g table st (take i tokens) now (get_or tokens i 0) inserted.1.0 next fed inserted.0 inserted.1.1)

  -- the stacks so far, and the one after i tokens, which comes next
  pub record Trying (stacks : List (List ℕ)) (now : List ℕ) (i : ℕ) : Type 0 where
    pub many : length stacks ≡ i
    pub are : All (IsStack table) stacks
    pub fed : (m : ℕ) (after : List ℕ) → slice_get stacks m ≡ Some after → FeedsAll g table st (take m tokens) after
    pub now_fed : FeedsAll g table st (take i tokens) now
    pub now_stack : IsStack table now

  pub trying_first : IsStack table st → Trying [] st 0
  trying_first stack = record {
    many = refl;
    are = All-nil (IsStack table);
    fed = λ m after at. let no : ◌≡◌ {A = Option (List ℕ)} None (Some after) = at in absurd (cc);
    now_fed = refl;
    now_stack = stack;
  }

  module _ (stacks : List (List ℕ)) (now : List ℕ) (i : ℕ) (trying : Trying stacks now i) where
    all_stacks : All (IsStack table) (stacks ++ now ∷ [])
    all_stacks = All-append (IsStack table) stacks (now ∷ []) trying.are (All-cons (IsStack table) now [] trying.now_stack (All-nil (IsStack table)))

    all_fed : (m : ℕ) (after : List ℕ) → slice_get (stacks ++ now ∷ []) m ≡ Some after → FeedsAll g table st (take m tokens) after
    all_fed m after at =
        elim (last_cases stacks now m after at) as (λ _. FeedsAll g table st (take m tokens) after) [
          | inl before ↦ trying.fed m after before
          | inr last ↦
              let here : m ≡ i = last.0 ∙ trying.many in
              subst (λ (n : ℕ). FeedsAll g table st (take n tokens) after) (sym here)
              (subst (λ (l : List ℕ). FeedsAll g table st (take i tokens) l) last.1 trying.now_fed)
        ]

    -- the next token was fed
    pub trying_more : (next : List ℕ) → i < length tokens → IsInserted g table (get_or tokens i 0) now next true → IsStack table next
        → Trying (stacks ++ now ∷ []) next (i + 1)
    trying_more next inside inserted stack = record {
      many = let many = trying.many in omega (arith, many, length-append stacks (now ∷ []));
      are = all_stacks;
      fed = all_fed;
      now_fed = fed_next i now next inside trying.now_fed inserted;
      now_stack = stack;
    }

    -- these are the stacks, if no more tokens that are tried can be fed
    tried_here : (most : ℕ) → i ≤ most → i ≤ length tokens
        → ((m : ℕ) (after : List ℕ) → m ≤ length tokens → m ≤ most → FeedsAll g table st (take m tokens) after → m ≤ i)
        → AreTried g table st most tokens (stacks ++ now ∷ [])
    tried_here most low inside none =
        let many = trying.many in
        let count : length (stacks ++ now ∷ []) ≡ i + 1 = omega (arith, many, length-append stacks (now ∷ [])) in
        record {
          are = all_stacks;
          few = omega (arith, count, low);
          some = omega (arith, count, inside);
          fed = all_fed;
          all = λ m after some few fed. let within = none m after some few fed in omega (arith, count, within);
        }

    -- the next token can't be fed
    pub trying_stops : (most : ℕ) (next : List ℕ) → i < length tokens → i ≤ most → IsInserted g table (get_or tokens i 0) now next false
        → AreTried g table st most tokens (stacks ++ now ∷ [])
    trying_stops most next inside low none =
        tried_here most low (omega (arith, inside)) (λ m after some few fed.
        elim (cases_lt i m) as (λ _. m ≤ i) [
          | inl past ↦ absurd (not_fed_past i now next inside trying.now_fed none m after past fed)
          | inr within ↦ within
        ])

    -- all tokens that are tried were fed
    pub trying_ends : (most : ℕ) → i ≤ most → i ≤ length tokens → (most ≤ i) ⊎ (length tokens ≤ i)
        → AreTried g table st most tokens (stacks ++ now ∷ [])
    trying_ends most low inside end =
        tried_here most low inside (λ m after some few fed.
        elim end as (λ _. m ≤ i) [
          | inl top ↦ omega (arith, few, top)
          | inr last ↦ omega (arith, some, last)
        ])

module _ {X : Type 0} (token : X → ℕ) (at : Asked X) (tokens : List ℕ) where
  abbrev g : Grammar
  g = at.checked.grammar

  abbrev table : Table
  table = at.checked.table

  abbrev Fed : ℕ → List ℕ → Type 0
  Fed m after = FeedsAll g table at.stack (take m tokens) after

  abbrev Goes : ℕ → ℕ → Type 0
  Goes j m = GoesOnAt token at tokens j m

  abbrev CanFrom : List ℕ → ℕ → Type 0
  CanFrom after j = CanGoOn token g table at.lexemes at.shifts after j

  -- whether the parse can go on after m tokens is what the stack after them says
  pub goes_by_stack : (j m : ℕ) (after : List ℕ) → Fed m after → CanFrom after j → Goes j m
  goes_by_stack j m after fed can = (after, fed, can)

  goes_not_by_stack : (j m : ℕ) (after : List ℕ) → Fed m after → ¬ (CanFrom after j) → ¬ (Goes j m)
  goes_not_by_stack j m after fed can_not on =
      can_not (subst (λ (l : List ℕ). CanFrom l j) (feeds_all_one_way g table at.stack (take m tokens) on.0 after on.1 fed) on.2)

  -- after fewer than i tokens it can't
  abbrev pub NotBefore : ℕ → ℕ → Type 0
  NotBefore j i = (n : ℕ) → n < i → ¬ (Goes j n)

  not_before_more : (j i : ℕ) → NotBefore j i → ¬ (Goes j i) → NotBefore j (i + 1)
  not_before_more j i before here n low on =
      elim (cases_eq n i) [
        | inl same ↦ here (subst (λ (k : ℕ). Goes j k) same on)
        | inr other ↦ before n (omega (arith, low, other)) on
      ]

  -- nor can it after i, as was tested
  pub not_here_more : {answer : Bool} (j i : ℕ) (after : List ℕ) → Fed i after → IsTrue answer ↔ CanFrom after j → answer ≡ false → NotBefore j i
      → NotBefore j (i + 1)
  not_here_more j i after fed tested is before =
      not_before_more j i before (goes_not_by_stack j i after fed (λ can. absurd (false≢true (sym is ∙ tested.1 can))))

  -- it can after i
  pub fewest_here : (j i : ℕ) (after : List ℕ) → i ≤ length tokens → Fed i after → CanFrom after j → NotBefore j i → IsFewest token at tokens j i
  fewest_here j i after some fed can before = record { some = some; goes_on = goes_by_stack j i after fed can; fewest = before }

  -- the next token can't be fed: it never can
  pub never_past : (j i : ℕ) (now next : List ℕ) → i < length tokens → Fed i now → IsInserted g table (get_or tokens i 0) now next false
      → NotBefore j (i + 1) → (m : ℕ) → m ≤ length tokens → ¬ (Goes j m)
  never_past j i now next inside fed none before m some on =
      elim (cases_lt m (i + 1)) [
        | inl low ↦ before m low on
        | inr past ↦ not_fed_past g table at.stack tokens i now next inside fed none m on.0 (omega (arith, past)) on.1
      ]

  -- all were tried: it never can
  pub never_at_all : (j : ℕ) → NotBefore j (length tokens + 1) → (m : ℕ) → m ≤ length tokens → ¬ (Goes j m)
  never_at_all j before m some on = before m (omega (arith, some)) on

  -- none of the stacks goes on
  pub none_goes_on : (most j : ℕ) (stacks : List (List ℕ)) → AreTried g table at.stack most tokens stacks → NotBefore j (length stacks)
      → (m : ℕ) → m ≤ length tokens → m ≤ most → ¬ (Goes j m)
  none_goes_on most j stacks tried before m some few on = before m (tried.all m on.0 some few on.1) on

  module _ (most : ℕ) where
    -- before place j it can at no place
    abbrev pub NoneNearer : ℕ → Type 0
    NoneNearer j = (i n : ℕ) → at.place ≤ i → i < j → n ≤ length tokens → n ≤ most → ¬ (Goes i n)

    pub none_nearer_more : (j : ℕ) → NoneNearer j → ((n : ℕ) → n ≤ length tokens → n ≤ most → ¬ (Goes j n)) → NoneNearer (j + 1)
    none_nearer_more j before here i n after low some few on =
        elim (cases_eq i j) [
          | inl same ↦ here n some few (subst (λ (k : ℕ). Goes k n) same on)
          | inr other ↦ before i n after (omega (arith, low, other)) some few on
        ]

    -- the nearest place is before the end
    pub nearest_before : (j m : ℕ) → at.place ≤ j → j < length at.lexemes → NoneNearer j → IsFewest token at tokens j m → m ≤ most
        → IsNearest token at most tokens j m
    nearest_before j m after low none fewest few = record {
      tried = record { after_stop = after; within = omega (arith, low); some = fewest.some; few = λ _. few };
      goes_on = fewest.goes_on;
      nearest = λ i n tried nearer. none i n tried.after_stop nearer tried.some (tried.few (omega (arith, nearer, low)));
      fewest = fewest.fewest;
    }

    -- or it is the end
    pub nearest_at_end : (m : ℕ) → at.place ≤ length at.lexemes → NoneNearer (length at.lexemes) → IsFewest token at tokens (length at.lexemes) m
        → IsNearest token at most tokens (length at.lexemes) m
    nearest_at_end m within none fewest = record {
      tried = record { after_stop = within; within = omega arith; some = fewest.some; few = λ low. absurd (omega (arith, low)) };
      goes_on = fewest.goes_on;
      nearest = λ i n tried nearer. none i n tried.after_stop nearer tried.some (tried.few nearer);
      fewest = fewest.fewest;
    }

-- one insertion more
pub steps_inserted : {S : Type 0} (index : S → ℕ) (steps after : List (RepairStep S)) (tokens : List ℕ) (i : ℕ) (token : TIdx S) → i < length tokens
    → get_or tokens i 0 ≡ index token.0 → after ≡ steps ++ Insert token ∷ [] → plain_steps index steps ≡ inserts_deletes (take i tokens) 0
    → plain_steps index after ≡ inserts_deletes (take (i + 1) tokens) 0
steps_inserted {S} index steps after tokens i token low is pushed so_far =
    let front : map (λ (t : ℕ). PlainInsert t) (take (i + 1) tokens) ≡ map (λ (t : ℕ). PlainInsert t) (take i tokens) ++ PlainInsert (index token.0) ∷ [] =
    ap (map (λ (t : ℕ). PlainInsert t)) (take_more tokens i 0 low) ∙ map-append (λ (t : ℕ). PlainInsert t) (take i tokens) (get_or tokens i 0 ∷ [])
    ∙ ap (λ (n : ℕ). map (λ (t : ℕ). PlainInsert t) (take i tokens) ++ PlainInsert n ∷ []) is in
    let bare : plain_steps index steps ≡ map (λ (t : ℕ). PlainInsert t) (take i tokens) =
    so_far ∙ append-nil (map (λ (t : ℕ). PlainInsert t) (take i tokens)) in
    ap (plain_steps index) pushed ∙ map-append (plain_step index) steps (Insert token ∷ [])
    ∙ ap (λ (xs : List PlainStep). xs ++ PlainInsert (index token.0) ∷ []) bare ∙ sym front
    ∙ sym (append-nil (map (λ (t : ℕ). PlainInsert t) (take (i + 1) tokens)))

-- one deletion more
pub steps_deleted : {S : Type 0} (index : S → ℕ) (steps after : List (RepairStep S)) (tokens : List ℕ) (n : ℕ) → after ≡ steps ++ Delete ∷ []
    → plain_steps index steps ≡ inserts_deletes tokens n → plain_steps index after ≡ inserts_deletes tokens (n + 1)
steps_deleted {S} index steps after tokens n pushed so_far =
    ap (plain_steps index) pushed ∙ map-append (plain_step index) steps (Delete ∷ [])
    ∙ ap (λ (xs : List PlainStep). xs ++ PlainDelete ∷ []) so_far
    ∙ append_assoc (map (λ (t : ℕ). PlainInsert t) tokens) (replicate n PlainDelete) (PlainDelete ∷ [])
    ∙ ap (λ (xs : List PlainStep). map (λ (t : ℕ). PlainInsert t) tokens ++ xs) (one_more n)
  where
    one_more : (m : ℕ) → replicate m PlainDelete ++ PlainDelete ∷ [] ≡ replicate (m + 1) PlainDelete
    one_more zero = refl
    one_more (suc m) = let next : suc m + 1 ≡ suc (m + 1) = omega arith in
        ap (λ (xs : List PlainStep). PlainDelete ∷ xs) (one_more m) ∙ ap (λ (k : ℕ). replicate k PlainDelete) (sym next)
