-- Runs that accept, in single steps, over stacks that are written top first. Such a run is a far run that accepts over the stack turned
-- round: a reduction before a far run is one, a shift feeds a settled stack. And a far run that accepts is a row of single steps.
use Rattle.std.proofs.Common.{◌≡◌, ◌<◌, ◌≤◌, ◌+◌, ◌-◌, ◌∙◌, refl, sym, ap, subst, arith, add-one, ℕ, zero, suc, List, [], ◌∷◌, ◌++◌, drop, length, reverse, take, Some}
use Rattle.std.proofs.lemmas.List.{drop_all, length-drop, length-reverse, reverse-append, reverse-reverse}
use Rattle.std.proofs.lemmas.Option.{none-some, slice_get_within}
use Rattle.lrpar_grammar.specs.Grammar.{Grammar, end_token, prod_len, rule_of}
use Rattle.lrpar_table_rows.specs.Table.{Table, ShiftTo, ReduceBy, Accepts, Fails, action_of, goto_of}
use Rattle.lrpar_table_conditions.proofs.FirstTokenLemmas.{at_drop}
use Rattle.lrpar_table_stacks.specs.Reduction.{IsSettled, Reduces, Settles, left_by, top_action, top_goto}
use Rattle.lrpar_table_stacks.specs.ReductionStep.{FitsGrammar}
use Rattle.lrpar_table_stacks.specs.Run.{Accepted, Far, FarEnd, accepts, goes_on, stops, token_at}
use Rattle.lrpar_table_stacks.specs.Stack.{top_of}
use Rattle.lrpar_table_stacks.proofs.RunLemmas.{token_at_end, token_at_lexeme}
use Rattle.lrpar_table_stacks.proofs.StepLemmas.{action_by_top, goto_by_top}
use Rattle.lrpar_table_check.proofs.CompleteLemmas.{reduction_first, top_more}

-- the lookahead of a run that has these tokens left: the first of them, or the end token
abbrev pub lookahead : Grammar → List ℕ → ℕ
lookahead g [] = end_token g
lookahead g (t ∷ us) = t

-- from the stack, top first, a run over these tokens accepts
pub data Finishes (g : Grammar) (table : Table) : List ℕ → List ℕ → Type 0 where
  reduced : (s p b next : ℕ) (below rest us : List ℕ) → action_of table s (lookahead g us) ≡ ReduceBy p → drop (prod_len g p) (s ∷ below) ≡ b ∷ rest
      → goto_of table b (rule_of g p) ≡ Some next → Finishes g table (next ∷ b ∷ rest) us → Finishes g table (s ∷ below) us
  shifted : (s t next : ℕ) (below us : List ℕ) → action_of table s t ≡ ShiftTo next → Finishes g table (next ∷ s ∷ below) us
      → Finishes g table (s ∷ below) (t ∷ us)
  accepted : (s : ℕ) (below : List ℕ) → action_of table s (end_token g) ≡ Accepts → Finishes g table (s ∷ below) []

-- a state more, turned round
reverse_more : (s : ℕ) (st : List ℕ) → reverse (s ∷ st) ≡ reverse st ++ s ∷ []
reverse_more s st = reverse-append (s ∷ []) st

reverse_top : (s : ℕ) (st : List ℕ) → top_of (reverse (s ∷ st)) ≡ Some s
reverse_top s st = ap top_of (reverse_more s st) ∙ top_more (reverse st) s

-- what is left of a stack without its upper states
reverse_left : (k : ℕ) (up : List ℕ) → take (length (reverse up) - k) (reverse up) ≡ reverse (drop k up)
reverse_left zero up =
    let whole : length (reverse up) - 0 ≡ length (reverse up) = omega arith in
    ap (λ (n : ℕ). take n (reverse up)) whole ∙ all_taken (reverse up)
  where
    all_taken : (xs : List ℕ) → take (length xs) xs ≡ xs
    all_taken [] = refl
    all_taken (x ∷ xs) = ap (λ (l : List ℕ). x ∷ l) (all_taken xs)
reverse_left (suc k) [] = none_taken (0 - suc k)
  where
    none_taken : (n : ℕ) → take {A = ℕ} n [] ≡ []
    none_taken zero = refl
    none_taken (suc n) = refl
reverse_left (suc k) (s ∷ up) =
    let back : reverse (s ∷ up) ≡ reverse up ++ s ∷ [] = reverse_more s up in
    let fewer : length (reverse (s ∷ up)) - suc k ≡ length (reverse up) - k = omega (arith, length-reverse (s ∷ up), length-reverse up) in
    ap (λ (n : ℕ). take n (reverse (s ∷ up))) fewer
    ∙ ap (take (length (reverse up) - k)) back ∙ take_front (length (reverse up) - k) (reverse up) s (omega arith)
    ∙ reverse_left k up
  where
    take_front : (n : ℕ) (xs : List ℕ) (x : ℕ) → n ≤ length xs → take n (xs ++ x ∷ []) ≡ take n xs
    take_front zero xs x low = refl
    take_front (suc n) [] x low = absurd (omega (arith, low))
    take_front (suc n) (y ∷ xs) x low = ap (λ (l : List ℕ). y ∷ l) (take_front n xs x (omega (arith, low)))

module _ (g : Grammar) (table : Table) where
  module _ (fits : FitsGrammar g table) (tokens : List ℕ) where
    -- the token at a place is the lookahead of what is left there
    token_left : (i : ℕ) (us : List ℕ) → i ≤ length tokens → drop i tokens ≡ us → token_at (λ (t : ℕ). t) g tokens i ≡ lookahead g us
    token_left i [] low is =
        let many : 0 ≡ length tokens - i = sym (ap (λ (l : List ℕ). length l) is) ∙ length-drop i tokens in
        token_at_end (λ (t : ℕ). t) g tokens i (omega (arith, many, low))
    token_left i (t ∷ us) low is = token_at_lexeme (λ (t : ℕ). t) g tokens i t (at_drop tokens i t us is).0

    abbrev AcceptsAt : List ℕ → ℕ → Type 0
    AcceptsAt st i = (ps : List ℕ) × Far (λ (t : ℕ). t) g table tokens st i ps Accepted

    reduction_back : (s p b next : ℕ) (below rest : List ℕ) (t : ℕ) → action_of table s t ≡ ReduceBy p → drop (prod_len g p) (s ∷ below) ≡ b ∷ rest
        → goto_of table b (rule_of g p) ≡ Some next → Reduces g table t (reverse (s ∷ below)) p (reverse (next ∷ b ∷ rest))
    reduction_back s p b next below rest t action dropped goto =
        let st = reverse (s ∷ below) in
        let left : left_by g p st ≡ reverse (b ∷ rest) = reverse_left (prod_len g p) (s ∷ below) ∙ ap reverse dropped in
        let many : length (b ∷ rest) ≡ length (s ∷ below) - prod_len g p =
        sym (ap (λ (l : List ℕ). length l) dropped) ∙ length-drop (prod_len g p) (s ∷ below) in
        let some : length (b ∷ rest) ≡ suc (length rest) = refl in
        record {
          action = action_by_top table t st s (reverse_top s below) ∙ action;
          known = fits.reduces s t p action;
          deep = omega (arith, many, some, length-reverse (s ∷ below));
          state = next;
          goto = goto_by_top table (rule_of g p) (left_by g p st) b (ap top_of left ∙ reverse_top b rest) ∙ goto;
          pushed = reverse_more next (b ∷ rest) ∙ ap (λ (l : List ℕ). l ++ next ∷ []) (sym left);
        }

    -- single steps make a far run
    pub finishes_far : (up us : List ℕ) → Finishes g table up us → (i : ℕ) → i ≤ length tokens → drop i tokens ≡ us → AcceptsAt (reverse up) i
    finishes_far _ _ (reduced s p b next below rest us action dropped goto more) i low is =
        let on = finishes_far (next ∷ b ∷ rest) us more i low is in
        let here = token_left i us low is in
        let step = reduction_back s p b next below rest (token_at (λ (t : ℕ). t) g tokens i)
        (subst (λ (t : ℕ). action_of table s t ≡ ReduceBy p) (sym here) action) dropped goto in
        (p ∷ on.0, reduction_first (λ (t : ℕ). t) g table tokens (reverse (s ∷ below)) i p (reverse (next ∷ b ∷ rest)) on.0 Accepted step on.1)
    finishes_far _ _ (shifted s t next below us action more) i low is =
        let st = reverse (s ∷ below) in
        let at = at_drop tokens i t us is in
        let within : i < length tokens = slice_get_within tokens i t at.0 in
        let rest : drop (i + 1) tokens ≡ us = rw add-one at.1 in
        let on = finishes_far (next ∷ s ∷ below) us more (i + 1) (omega (arith, within)) rest in
        let here = token_left i (t ∷ us) low is in
        let does : top_action table (token_at (λ (t : ℕ). t) g tokens i) st ≡ ShiftTo next =
        ap (λ (u : ℕ). top_action table u st) here ∙ action_by_top table t st s (reverse_top s below) ∙ action in
        let settled : IsSettled table (token_at (λ (t : ℕ). t) g tokens i) st = λ q reduces. let no : ShiftTo next ≡ ReduceBy q = sym does ∙ reduces in cc in (
          on.0,
          goes_on st i [] on.0 (reverse (next ∷ s ∷ below)) Accepted within (record {
            settled = st;
            settles = (refl, settled);
            next = next;
            shifts = does;
            pushed = reverse_more next (s ∷ below);
          }) on.1,
        )
    finishes_far _ _ (accepted s below action) i low is =
        let st = reverse (s ∷ below) in
        let many : 0 ≡ length tokens - i = sym (ap (λ (l : List ℕ). length l) is) ∙ length-drop i tokens in
        let does : top_action table (end_token g) st ≡ Accepts = action_by_top table (end_token g) st s (reverse_top s below) ∙ action in
        let settled : IsSettled table (end_token g) st = λ q reduces. let no : Accepts ≡ ReduceBy q = sym does ∙ reduces in cc in
        ([], accepts st i [] st (omega (arith, many, low)) (refl, settled) does)

  -- a reduction before single steps
  module _ (t : ℕ) (us : List ℕ) (here : lookahead g us ≡ t) where
    reduces_back : (up st after : List ℕ) (p : ℕ) → reverse up ≡ st → Reduces g table t st p after → Finishes g table (reverse after) us → Finishes g table up us
    reduces_back [] st after p is reduces more =
        let none : Fails ≡ ReduceBy p = ap (top_action table t) is ∙ reduces.action in absurd (let no : ⊥ = cc in no)
    reduces_back (s ∷ below) st after p is reduces more = left_over (drop (prod_len g p) (s ∷ below)) refl
      where
        does : action_of table s (lookahead g us) ≡ ReduceBy p
        does =
            let here_done : action_of table s t ≡ ReduceBy p =
            sym (action_by_top table t (reverse (s ∷ below)) s (reverse_top s below)) ∙ ap (top_action table t) is ∙ reduces.action in
            ap (action_of table s) here ∙ here_done

        left_over : (left : List ℕ) → drop (prod_len g p) (s ∷ below) ≡ left → Finishes g table (s ∷ below) us
        left_over [] dropped =
            let left : left_by g p st ≡ [] =
            subst (λ (l : List ℕ). left_by g p l ≡ []) is (reverse_left (prod_len g p) (s ∷ below) ∙ ap reverse dropped) in
            absurd (none-some reduces.state (sym (ap (top_goto table (rule_of g p)) left) ∙ reduces.goto))
        left_over (b ∷ rest) dropped =
            let left : left_by g p st ≡ reverse (b ∷ rest) =
            subst (λ (l : List ℕ). left_by g p l ≡ reverse (b ∷ rest)) is (reverse_left (prod_len g p) (s ∷ below) ∙ ap reverse dropped) in
            let goto : goto_of table b (rule_of g p) ≡ Some reduces.state =
            sym (goto_by_top table (rule_of g p) (left_by g p st) b (ap top_of left ∙ reverse_top b rest)) ∙ reduces.goto in
            let pushed : reverse after ≡ reduces.state ∷ b ∷ rest =
            ap reverse (reduces.pushed ∙ ap (λ (l : List ℕ). l ++ reduces.state ∷ []) left ∙ sym (reverse_more reduces.state (b ∷ rest)))
            ∙ reverse-reverse (reduces.state ∷ b ∷ rest) in
            reduced s p b reduces.state below rest us does dropped goto (subst (λ (l : List ℕ). Finishes g table l us) pushed more)

    settles_back : (st ps after : List ℕ) → Settles g table t st ps after → Finishes g table (reverse after) us → Finishes g table (reverse st) us
    settles_back st [] after settles more = subst (λ (l : List ℕ). Finishes g table (reverse l) us) (sym settles.0) more
    settles_back st (p ∷ ps) after settles more =
        reduces_back (reverse st) st settles.0 p (reverse-reverse st) settles.1 (settles_back settles.0 ps after settles.2 more)

  -- a settled stack that shifts, or accepts
  shifts_back : (up st : List ℕ) (t next : ℕ) (us : List ℕ) → reverse up ≡ st → top_action table t st ≡ ShiftTo next
      → Finishes g table (next ∷ up) us → Finishes g table up (t ∷ us)
  shifts_back [] st t next us is action more =
      let none : Fails ≡ ShiftTo next = ap (top_action table t) is ∙ action in absurd (let no : ⊥ = cc in no)
  shifts_back (s ∷ below) st t next us is action more =
      shifted s t next below us (sym (action_by_top table t (reverse (s ∷ below)) s (reverse_top s below)) ∙ ap (top_action table t) is ∙ action) more

  accepts_back : (up st : List ℕ) → reverse up ≡ st → top_action table (end_token g) st ≡ Accepts → Finishes g table up []
  accepts_back [] st is action =
      let none : Fails ≡ Accepts = ap (top_action table (end_token g)) is ∙ action in absurd (let no : ⊥ = cc in no)
  accepts_back (s ∷ below) st is action =
      accepted s below
      (sym (action_by_top table (end_token g) (reverse (s ∷ below)) s (reverse_top s below)) ∙ ap (top_action table (end_token g)) is ∙ action)

  -- a far run that accepts is a row of single steps
  pub far_finishes : (tokens st : List ℕ) (i : ℕ) (ps : List ℕ) (end : FarEnd) → Far (λ (t : ℕ). t) g table tokens st i ps end → end ≡ Accepted
      → Finishes g table (reverse st) (drop i tokens)
  far_finishes tokens _ _ _ _ (goes_on st i ps qs next end within feeds rest) is =
      let more = far_finishes tokens next (i + 1) qs end rest is in
      first_left (drop i tokens) refl more
    where
      first_left : (us : List ℕ) → drop i tokens ≡ us → Finishes g table (reverse next) (drop (i + 1) tokens) → Finishes g table (reverse st) us
      first_left [] left more =
          let many : 0 ≡ length tokens - i = sym (ap (λ (l : List ℕ). length l) left) ∙ length-drop i tokens in
          absurd (omega (arith, many, within))
      first_left (t ∷ us) left more =
          let at = at_drop tokens i t us left in
          let here : token_at (λ (t : ℕ). t) g tokens i ≡ t = token_at_lexeme (λ (t : ℕ). t) g tokens i t at.0 in
          let after : drop (i + 1) tokens ≡ us = rw add-one at.1 in
          let pushed : reverse next ≡ feeds.next ∷ reverse feeds.settled =
          ap reverse feeds.pushed ∙ reverse-append feeds.settled (feeds.next ∷ []) in
          let on : Finishes g table (feeds.next ∷ reverse feeds.settled) us =
          subst (λ (l : List ℕ). Finishes g table l us) pushed (subst (λ (l : List ℕ). Finishes g table (reverse next) l) after more) in
          settles_back t (t ∷ us) refl st ps feeds.settled (subst (λ (n : ℕ). Settles g table n st ps feeds.settled) here feeds.settles)
          (shifts_back (reverse feeds.settled) feeds.settled t feeds.next us (reverse-reverse feeds.settled)
          (subst (λ (n : ℕ). top_action table n feeds.settled ≡ ShiftTo feeds.next) here feeds.shifts) on)
  far_finishes tokens _ _ _ _ (accepts st i ps settled at_end settles action) is =
      let none : drop i tokens ≡ [] = drop_all i tokens (omega (arith, at_end)) in
      subst (λ (l : List ℕ). Finishes g table (reverse st) l) (sym none)
      (settles_back (end_token g) [] refl st ps settled settles (accepts_back (reverse settled) settled (reverse-reverse settled) action))
  far_finishes tokens _ _ _ _ (stops st i ps settled fits settles stuck) is = absurd (let none : ⊥ = cc in none)
