-- A run looks at tokens only where it can look at them, so it stops only where it can stop.
use Rattle.std.proofs.Common.{◌≡◌, ◌<◌, ◌≤◌, ◌+◌, ◌-◌, ◌∙◌, inl, inr, refl, sym, ap, subst, arith, ℕ, zero, suc, List, [], ◌∷◌, ◌++◌, All, Option, Some, length, length-append, slice_get, take}
use Rattle.std.specs.Option.{option_and_then, option_map_or}
use Rattle.std.proofs.lemmas.Bool.{cases_lt}
use Rattle.std.proofs.lemmas.List.Elements.{All-cons, All-nil}
use Rattle.std.proofs.lemmas.Option.{get_or_from_slice_get}
use Rattle.lrpar_grammar.specs.Grammar.{Grammar, GrammarSymbol, IsWellFormed, Nonterminal, Terminal, end_token, prod_len, rule_of, symbols_of}
use Rattle.lrpar_grammar.specs.Sentence.{LexemeFacts}
use Rattle.lrpar_table_rows.specs.Graph.{Graph}
use Rattle.lrpar_table_rows.specs.Safe.{GoesBy, IsSafe}
use Rattle.lrpar_table_rows.specs.Table.{Accepts, Fails, FailsPastTokens, IsClosed, ReduceBy, ShiftTo, Table, TableAction, action_of, goto_of}
use Rattle.lrpar_table_stacks.specs.Path.{IsPath, Leads, NeverSticks}
use Rattle.lrpar_table_stacks.specs.Reduction.{Feeds, Reduces, Settles, left_by, top_action, top_goto}
use Rattle.lrpar_table_stacks.specs.Run.{Accepted, Far, FarEnd, IsStuck, Stop, Stopped, token_at}
use Rattle.lrpar_table_stacks.specs.Stack.{top_of}
use Rattle.lrpar_table_stacks.proofs.PathLemmas.{action_at_last, as_many, goto_at_last, last_of, never_sticks, top_is_last}
use Rattle.lrpar_table_stacks.proofs.Reductions.{reduces_to_one}
use Rattle.lrpar_table_stacks.proofs.RunLemmas.{token_at_end, token_at_lexeme}
use Rattle.lrpar_table_stops.specs.ErrorStates.{CanStop, Enters, LooksAt, Reduces as Reduced, Repairs, end_of_path, next_by, shifted_to}
use Rattle.lrpar_parse_repair.specs.Recovery.{Point}
use Rattle.lrpar_parse_repair.specs.Sequences.{PlainDelete, PlainInsert, PlainShift, PlainStep, Replays}
use Rattle.lrpar_parse_run.specs.RepairRun.{RepairRun, RepairStop, ends_there, is_repaired, runs_through}
use Rattle.lrpar_table_stacks.specs.Run.{accepts, goes_on, stops}
use Rattle.lrpar_parse_stops.specs.ErrorsStop.{HaveTokens, IsErrorState, StopsAtErrorStates}

-- a path over a path
record Split (table : Table) (b : ℕ) (below symbols : List GrammarSymbol) (st : List ℕ) : Type 0 where
  lower : List ℕ
  upper : List ℕ
  states : st ≡ lower ++ upper
  leads : Leads table b below lower
  on : Leads table (last_of b lower) symbols upper

split : (table : Table) (b : ℕ) (below symbols : List GrammarSymbol) (st : List ℕ) → Leads table b (below ++ symbols) st → Split table b below symbols st
split table b [] symbols st leads = record { lower = []; upper = st; states = refl; leads = tt; on = leads }
split table b (x ∷ below) symbols [] leads = absurd leads
split table b (x ∷ below) symbols (next ∷ st) leads =
    let rest = split table next below symbols st leads.1 in
    record {
      lower = next ∷ rest.lower;
      upper = rest.upper;
      states = ap (λ (ss : List ℕ). next ∷ ss) rest.states;
      leads = (leads.0, rest.leads);
      on = rest.on;
    }

-- the top of states over states
last_over : (b : ℕ) (lower upper : List ℕ) → last_of b (lower ++ upper) ≡ last_of (last_of b lower) upper
last_over b [] upper = refl
last_over b (next ∷ lower) upper = last_over next lower upper

-- a path ends in its last state
goes_next : (table : Table) (s : ℕ) (x : GrammarSymbol) (next : ℕ) → GoesBy table s x next → next_by table s x ≡ Some next
goes_next table s (Terminal t) next goes = ap shifted_to goes
goes_next table s (Nonterminal r) next goes = goes

path_end : (table : Table) (s : ℕ) (xs : List GrammarSymbol) (st : List ℕ) → Leads table s xs st → end_of_path table s xs ≡ Some (last_of s st)
path_end table s [] [] leads = refl
path_end table s [] (next ∷ st) leads = absurd leads
path_end table s (x ∷ xs) [] leads = absurd leads
path_end table s (x ∷ xs) (next ∷ st) leads =
    ap (λ (o : Option ℕ). option_and_then (λ n. end_of_path table n xs) o) (goes_next table s x next leads.0) ∙ path_end table next xs st leads.1

-- the states before the last n ones
before_last : (xs ys : List ℕ) (n : ℕ) → length ys ≡ n → take (length (xs ++ ys) - n) (xs ++ ys) ≡ xs
before_last [] ys n many = let none : length ys - n ≡ 0 = omega (arith, many) in ap (λ k. take k ys) none
before_last (x ∷ xs) ys n many =
    let more : length (x ∷ (xs ++ ys)) - n ≡ suc (length (xs ++ ys) - n) = let long = length-append xs ys in omega (arith, many, long) in
    ap (λ k. take k (x ∷ (xs ++ ys))) more ∙ ap (λ (ss : List ℕ). x ∷ ss) (before_last xs ys n many)

-- the state that was pushed is on top
pushed_top : (xs : List ℕ) (next s : ℕ) → top_of (xs ++ next ∷ []) ≡ Some s → s ≡ next
pushed_top [] next s is = cc
pushed_top (b ∷ xs) next s is =
    let last : last_of b (xs ++ next ∷ []) ≡ next = last_over b xs (next ∷ []) in
    let top : Some (last_of b (xs ++ next ∷ [])) ≡ Some s = sym (top_is_last b (xs ++ next ∷ [])) ∙ is in cc

module _ (g : Grammar) (graph : Graph) (table : Table) (well : IsWellFormed g) (closed : IsClosed table) (safe : IsSafe g graph table)
    (past_tokens : FailsPastTokens table) where
  never : NeverSticks g table
  never = never_sticks g graph table closed safe well

  -- a token at which a state has an action is one of the table
  shift_low : (s t next : ℕ) → action_of table s t ≡ ShiftTo next → t < table.tokens
  shift_low s t next is =
      elim (cases_lt t table.tokens) [
        | inl low ↦ low
        | inr past ↦ let no : Fails ≡ ShiftTo next = sym (past_tokens s t past) ∙ is in absurd (cc)
      ]

  -- a path whose top looks at a token
  record Looking (st : List ℕ) (t : ℕ) : Type 0 where
    symbols : List GrammarSymbol
    path : IsPath table symbols st
    looks : (s : ℕ) → top_of st ≡ Some s → LooksAt g table s t

  -- a path whose top may look at any token
  record Ready (st : List ℕ) : Type 0 where
    symbols : List GrammarSymbol
    path : IsPath table symbols st
    looks : (s t : ℕ) → top_of st ≡ Some s → t < table.tokens → LooksAt g table s t

  begins : Ready (table.start ∷ [])
  begins = record {
    symbols = [];
    path = (refl, tt);
    looks = λ s t top low. let is : Some table.start ≡ Some s = top in Enters s t (inl (same s is)) low;
  }
    where
      same : (s : ℕ) → Some table.start ≡ Some s → s ≡ table.start
      same s is = cc

  -- after a reduction
  reduced : (t p : ℕ) (st next : List ℕ) → Looking st t → Reduces g table t st p next → Looking next t
  reduced t p [] next at reduces = absurd at.path
  reduced t p (b ∷ st) next at reduces =
      let along = never.reduces at.symbols (b ∷ st) t p at.path reduces.action in
      let same : along.after ≡ next = reduces_to_one g table t (b ∷ st) p p along.after next along.reduces reduces in
      let leads : Leads table b (along.below ++ symbols_of g p) st = subst (λ (xs : List GrammarSymbol). Leads table b xs st) along.split at.path.1 in
      let parts = split table b along.below (symbols_of g p) st leads in
      let u = last_of b parts.lower in
      let s = last_of b st in
      let many : length parts.upper ≡ prod_len g p = as_many table u (symbols_of g p) parts.upper parts.on in
      let top : last_of u parts.upper ≡ s = sym (ap (λ (ss : List ℕ). last_of b ss) parts.states ∙ last_over b parts.lower parts.upper) in
      let ends : end_of_path table u (symbols_of g p) ≡ Some s = path_end table u (symbols_of g p) parts.upper parts.on ∙ ap (λ n. Some n) top in
      let left : left_by g p (b ∷ st) ≡ b ∷ parts.lower =
      ap (λ (ss : List ℕ). left_by g p (b ∷ ss)) parts.states ∙ before_last (b ∷ parts.lower) parts.upper (prod_len g p) many in
      let goto : goto_of table u (rule_of g p) ≡ Some along.reduces.state =
      sym (goto_at_last table b (rule_of g p) parts.lower) ∙ ap (λ (ss : List ℕ). top_goto table (rule_of g p) ss) (sym left) ∙ along.reduces.goto in
      let action : action_of table s t ≡ ReduceBy p = action_at_last table b t st (ReduceBy p) reduces.action in
      let here = at.looks s (top_is_last b st) in
      record {
        symbols = along.below ++ Nonterminal (rule_of g p) ∷ [];
        path = subst (λ (l : List ℕ). IsPath table (along.below ++ Nonterminal (rule_of g p) ∷ []) l) same along.path;
        looks = λ n is.
            let pushed : top_of (left_by g p (b ∷ st) ++ along.reduces.state ∷ []) ≡ Some n = ap (λ (l : List ℕ). top_of l) (sym along.reduces.pushed ∙ same) ∙ is in
            let new : n ≡ along.reduces.state = pushed_top (left_by g p (b ∷ st)) along.reduces.state n pushed in
            subst (λ m. LooksAt g table m t) (sym new) (Reduced p u s along.reduces.state t here action (ends, goto));
      }

  settled : (t : ℕ) (st ps after : List ℕ) → Looking st t → Settles g table t st ps after → Looking after t
  settled t st [] after at settles = subst (λ (l : List ℕ). Looking l t) settles.0 at
  settled t st (p ∷ ps) after at settles = settled t settles.0 ps after (reduced t p st settles.0 at settles.1) settles.2

  looking : (st : List ℕ) (t : ℕ) → Ready st → t < table.tokens → Looking st t
  looking st t ready low = record { symbols = ready.symbols; path = ready.path; looks = λ s top. ready.looks s t top low }

  -- the token that is fed is one of the table
  fed_low : (t : ℕ) (st : List ℕ) (next : ℕ) → top_action table t st ≡ ShiftTo next → t < table.tokens
  fed_low t [] next shifts = let no : Fails ≡ ShiftTo next = shifts in absurd (let none : ⊥ = cc in none)
  fed_low t (b ∷ st) next shifts = shift_low (last_of b st) t next (action_at_last table b t st (ShiftTo next) shifts)

  -- after a shift
  shifted : (t next : ℕ) (st : List ℕ) → Looking st t → top_action table t st ≡ ShiftTo next → Ready (st ++ next ∷ [])
  shifted t next [] at shifts = absurd at.path
  shifted t next (b ∷ st) at shifts =
      let action = action_at_last table b t st (ShiftTo next) shifts in
      record {
        symbols = at.symbols ++ Terminal t ∷ [];
        path = (never.shifts at.symbols (b ∷ st) t next at.path shifts).1;
        looks = λ s u top low. Enters s u (inr (last_of b st, t, subst (λ n. action_of table (last_of b st) t ≡ ShiftTo n) (sym (pushed_top (b ∷ st) next s top)) action)) low;
      }

  fed : (t : ℕ) (st ps after : List ℕ) → Ready st → Feeds g table t st ps after → Ready after
  fed t st ps after ready feeds =
      let low = fed_low t feeds.settled feeds.next feeds.shifts in
      let at = settled t st ps feeds.settled (looking st t ready low) feeds.settles in
      subst Ready (sym feeds.pushed) (shifted t feeds.next feeds.settled at feeds.shifts)

  module _ {X : Type 0} (facts : X → LexemeFacts) (lexemes : List X) (known : HaveTokens facts g lexemes) where
    abbrev token : X → ℕ
    token = λ x. (facts x).token

    -- the token at a place is one of the table, and the end token only past the lexemes
    at_lexeme : (i : ℕ) → i < length lexemes → token_at token g lexemes i < end_token g
    at_lexeme i below =
        let first = some_lexeme lexemes i below in
        let one : token first.0 < end_token g =
        subst (λ x. token x < end_token g) (get_or_from_slice_get lexemes i first.0 first.0 first.1) (known i first.0 below) in
        subst (λ n. n < end_token g) (sym (token_at_lexeme token g lexemes i first.0 first.1)) one
      where
        some_lexeme : (xs : List X) (n : ℕ) → n < length xs → (x : X) × (slice_get xs n ≡ Some x)
        some_lexeme [] n low = absurd (omega (arith, low))
        some_lexeme (x ∷ xs) zero low = (x, refl)
        some_lexeme (x ∷ xs) (suc n) low = some_lexeme xs n (omega (arith, low))

    at_low : (i : ℕ) → token_at token g lexemes i < table.tokens
    at_low i =
        let tokens = safe.shape.tokens in
        elim (cases_lt i (length lexemes)) [
          | inl below ↦ let low = at_lexeme i below in omega (arith, low, tokens)
          | inr past ↦ let end = token_at_end token g lexemes i past in omega (arith, end, tokens)
        ]

    -- the action of a stuck stack is an error
    stuck_fails : (i : ℕ) (b : ℕ) (st : List ℕ) (action : TableAction) → i ≤ length lexemes → IsStuck token g table lexemes (b ∷ st) i
        → ((p : ℕ) → ¬ (top_action table (token_at token g lexemes i) (b ∷ st) ≡ ReduceBy p)) → (symbols : List GrammarSymbol) → IsPath table symbols (b ∷ st)
        → top_action table (token_at token g lexemes i) (b ∷ st) ≡ action → action ≡ Fails
    stuck_fails i b st (ShiftTo next) fits stuck done symbols path is =
        elim (cases_lt i (length lexemes)) as (λ _. ShiftTo next ≡ Fails) [
          | inl below ↦ absurd (stuck.shifts_not below next is)
          | inr past ↦ absurd ((never.shifts symbols (b ∷ st) (token_at token g lexemes i) next path is).0 (token_at_end token g lexemes i past))
        ]
    stuck_fails i b st (ReduceBy p) fits stuck done symbols path is = absurd (done p is)
    stuck_fails i b st Accepts fits stuck done symbols path is =
        let end = (never.accepts symbols (b ∷ st) (token_at token g lexemes i) path is).0 in
        elim (cases_lt i (length lexemes)) as (λ _. Accepts ≡ Fails) [
          | inl below ↦ let low = at_lexeme i below in absurd (omega (arith, low, end))
          | inr past ↦
              absurd (stuck.accepts_not (omega (arith, fits, past)) (subst (λ t. top_action table t (b ∷ st) ≡ Accepts) end is))
        ]
    stuck_fails i b st Fails fits stuck done symbols path is = refl

    -- no reduction is left
    settled_done : (t : ℕ) (st ps after : List ℕ) → Settles g table t st ps after → (p : ℕ) → ¬ (top_action table t after ≡ ReduceBy p)
    settled_done t st [] after settles p is = settles.1 p (subst (λ (l : List ℕ). top_action table t l ≡ ReduceBy p) (sym settles.0) is)
    settled_done t st (q ∷ ps) after settles p is = settled_done t settles.0 ps after settles.2 p is

    -- at an error point
    stopped : (i : ℕ) (st ps after : List ℕ) → i ≤ length lexemes → Ready st → Settles g table (token_at token g lexemes i) st ps after
        → IsStuck token g table lexemes after i → Ready after × ((s : ℕ) → top_of after ≡ Some s → CanStop g table s)
    stopped i st ps [] fits ready settles stuck =
        let at = settled (token_at token g lexemes i) st ps [] (looking st (token_at token g lexemes i) ready (at_low i)) settles in absurd at.path
    stopped i st ps (b ∷ after) fits ready settles stuck =
        let t = token_at token g lexemes i in
        let at = settled t st ps (b ∷ after) (looking st t ready (at_low i)) settles in
        let fails = stuck_fails i b after (top_action table t (b ∷ after)) fits stuck (settled_done t st ps (b ∷ after) settles) at.symbols at.path refl in
        let action : (s : ℕ) → top_of (b ∷ after) ≡ Some s → action_of table s t ≡ Fails =
        λ s top. sym (ap (λ (o : Option ℕ). option_map_or (λ n. action_of table n t) o Fails) top) ∙ fails in (
          record {
            symbols = at.symbols;
            path = at.path;
            looks = λ s u top low. Repairs s t u (at.looks s top) (action s top) low;
          },
          λ s top. (t, at.looks s top, action s top),
        )

    -- from a stack to the end of a run
    far_stops : (st : List ℕ) (i : ℕ) (prods : List ℕ) (end : FarEnd) (stop : Stop) → Far token g table lexemes st i prods end → end ≡ Stopped stop → Ready st
        → Ready stop.stack × ((s : ℕ) → top_of stop.stack ≡ Some s → CanStop g table s)
    far_stops _ _ _ _ stop (goes_on st i ps qs next end within first rest) is ready =
        far_stops next (i + 1) qs end stop rest is (fed (token_at token g lexemes i) st ps next ready first)
    far_stops _ _ _ _ stop (accepts st i ps settled at_end settles accepted) is ready =
        let no : Accepted ≡ Stopped stop = is in absurd (let none : ⊥ = cc in none)
    far_stops _ _ _ _ stop (stops st i ps settled fits settles stuck) is ready =
        let here : record { stack = settled; place = i } ≡ stop = cc in
        subst (λ (s : Stop). Ready s.stack × ((n : ℕ) → top_of s.stack ≡ Some n → CanStop g table n)) here (stopped i st ps settled fits ready settles stuck)

    -- by a replay
    replayed : (steps : List PlainStep) (st : List ℕ) (i : ℕ) (made after : List ℕ) (j : ℕ) → Replays token g table lexemes st i steps made after j → Ready st
        → Ready after
    replayed [] st i made after j replays ready = subst Ready (sym replays.1) ready
    replayed (PlainInsert t ∷ steps) st i made after j replays ready =
        replayed steps replays.1 replays.2 replays.3 after j replays.5 (fed t st replays.0 replays.1 ready replays.4.1)
    replayed (PlainDelete ∷ steps) st i made after j replays ready =
        replayed steps replays.1 replays.2 replays.3 after j replays.5 (subst Ready (sym replays.4.2) ready)
    replayed (PlainShift ∷ steps) st i made after j replays ready =
        replayed steps replays.1 replays.2 replays.3 after j replays.5 (fed (token_at token g lexemes i) st replays.0 replays.1 ready replays.4.1)

    -- from error point to error point
    run_stops : (allows : Point X → List (List PlainStep) → Type 0) (k : ℕ) (st : List ℕ) (i : ℕ) (all : List RepairStop) (consumed : Option (List X)) (prods : List ℕ)
        → RepairRun facts allows k g table lexemes st i all consumed prods → Ready st → All (IsErrorState g table) all
    run_stops allows k _ _ _ _ _ (runs_through st i prods far) ready = All-nil (IsErrorState g table)
    run_stops allows k _ _ _ _ _ (ends_there st i prods stop far none) ready =
        let here = far_stops st i prods (Stopped stop) stop far refl ready in
        All-cons (IsErrorState g table) (record { stop = stop; listed = [] }) [] here.1 (All-nil (IsErrorState g table))
    run_stops allows k _ _ _ _ _ (is_repaired st i prods stop first listed made after j recovered others consumed rest far is_listed replays consumes run) ready =
        let here = far_stops st i prods (Stopped stop) stop far refl ready in
        let next = replayed first stop.stack stop.place made after j replays here.0 in
        All-cons (IsErrorState g table) (record { stop = stop; listed = first ∷ listed }) others here.1 (run_stops allows k after j others consumed rest run next)

pub stops_at_error_states : {X : Type 0} (facts : X → LexemeFacts) (allows : Point X → List (List PlainStep) → Type 0) → StopsAtErrorStates facts allows
stops_at_error_states facts allows k g graph table lexemes all consumed prods well closed safe past known run =
    run_stops g graph table well closed safe past facts lexemes known allows k (table.start ∷ []) 0 all consumed prods run (begins g graph table well closed safe past)
