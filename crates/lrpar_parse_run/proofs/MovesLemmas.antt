-- What the stacks of a run do between two places: what they represent after that, how many reductions were made, and the results of the
-- steps of a repair sequence.
use Rattle.std.proofs.Common.{◌≡◌, ◌<◌, ◌≤◌, ◌+◌, ◌*◌, ◌∙◌, ℕ, List, [], ◌∷◌, ◌++◌, Some, length, map, ap, arith, refl, subst, sym}
use Rattle.std.proofs.lemmas.List.{append_assoc, append-nil, length-append, length-map}
use Rattle.std.proofs.lemmas.Option.{slice_get_within}
use Rattle.std.specs.List.{slice_get}
use Rattle.lrpar_grammar.specs.Grammar.{end_token}
use Rattle.lrpar_grammar.specs.Sentence.{LexemeFacts}
use Rattle.lrpar_table_rows.specs.Table.{Fails, ShiftTo}
use Rattle.lrpar_table_check.specs.Checked.{Checked}
use Rattle.lrpar_table_stacks.specs.Path.{NeverSticks}
use Rattle.lrpar_table_stacks.specs.Reduction.{Feeds, top_action}
use Rattle.lrpar_table_stacks.proofs.Reductions.{settles_one_way}
use Rattle.lrpar_parse_run.specs.Building.{Building}
use Rattle.lrpar_parse_repair.specs.Repaired.{Consumes}
use Rattle.lrpar_parse_lexemes.specs.Lexemes.{inserted_at, start_at}
use Rattle.lrpar_parse_run.specs.Moves.{IsReplayed, Moves, RiseUpTo, StartsRise, and_settles, and_shifts, rests}
use Rattle.lrpar_parse_run.specs.Rising.{KeepsRising}
use Rattle.lrpar_table_stacks.specs.Run.{token_at}
use Rattle.lrpar_parse_repair.specs.Sequences.{PlainStep, PlainInsert, PlainDelete, PlainShift, Replays}
use Rattle.lrpar_parse_run.specs.Stacked.{SettlesTo, Shifts, Sticks}
use Rattle.lrpar_parse_run.specs.RunStack.{Stacked}
use Rattle.lrpar_parse_lexemes.proofs.PlaceLemmas.{start_at_is}
use Rattle.lrpar_parse_run.proofs.StackedLemmas.{states_settle}
use Rattle.lrpar_parse_run.proofs.RisingLemmas.{rise_reduce_all}
use Rattle.lrpar_table_stacks.proofs.RunLemmas.{token_at_lexeme}
use Rattle.lrpar_parse_repair.proofs.SequenceLemmas.{steps_one_way}
use Rattle.lrpar_parse_run.proofs.RunStackLemmas.{IsRepresented, represented_reduce_all, represented_shift}

-- the bound of the reductions, if the stacks settle once more, and if a lexeme is then shifted
settle_more : (cap n m a b h x k : ℕ) → n + cap * a ≤ cap * (h + x) + cap * (cap + 2) * k → m + cap * b ≤ cap * (a + cap + 2)
    → (n + m) + cap * b ≤ cap * (h + x) + cap * (cap + 2) * (k + 1)
settle_more cap n m a b h x k before here = omega (arith, before, here)

shift_more : (cap n m a b h x k : ℕ) → n + cap * a ≤ cap * (h + x) + cap * (cap + 2) * k → m + cap * b ≤ cap * (a + cap + 2)
    → (n + m) + cap * (b + 1) ≤ cap * (h + (x + 1)) + cap * (cap + 2) * (k + 1)
shift_more cap n m a b h x k before here = omega (arith, before, here)

module _ {X E : Type 0} (facts : X → LexemeFacts) (builds : Building X E) (d : Checked) where
  -- the token of a lexeme
  abbrev token : X → ℕ
  token x = (facts x).token

  abbrev Moved : Stacked E → List X → List ℕ → ℕ → Stacked E → Type 0
  Moved old xs ps n new = Moves facts builds d old xs ps n new

  abbrev Represented : Stacked E → List X → List ℕ → Type 0
  Represented stack xs ps = IsRepresented token builds.leaf (builds.node d.grammar) builds.suits d.grammar d.table stack xs ps

  -- one after the other
  pub moves_then : (a b c : Stacked E) (xs : List X) (ps : List ℕ) (n : ℕ) (ys : List X) (qs : List ℕ) (m : ℕ)
      → Moved a xs ps n b → Moved b ys qs m c → Moved a (xs ++ ys) (ps ++ qs) (n + m) c
  moves_then a b _ xs ps n _ _ _ before rests =
      let none : n ≡ n + 0 = omega arith in
      subst (λ (w : List X). Moved a w (ps ++ []) (n + 0) b) (sym (append-nil xs))
      (subst (λ (w : List ℕ). Moved a xs w (n + 0) b) (sym (append-nil ps)) (subst (λ (w : ℕ). Moved a xs ps w b) none before))
  moves_then a b _ xs ps n _ _ _ before (and_settles ys qs m mid t new first last) =
      let count : n + m + 1 ≡ n + (m + 1) = omega arith in
      subst (λ (w : List ℕ). Moved a (xs ++ ys) w (n + (m + 1)) new) (append_assoc ps qs last.prods)
      (subst (λ (w : ℕ). Moved a (xs ++ ys) ((ps ++ qs) ++ last.prods) w new) count
      (and_settles (xs ++ ys) (ps ++ qs) (n + m) mid t new (moves_then a b mid xs ps n ys qs m before first) last))
  moves_then a b _ xs ps n _ _ _ before (and_shifts ys qs m mid x new first last) =
      let count : n + m + 1 ≡ n + (m + 1) = omega arith in
      subst (λ (w : List X). Moved a w (ps ++ (qs ++ last.settles.prods)) (n + (m + 1)) new) (append_assoc xs ys (x ∷ []))
      (subst (λ (w : List ℕ). Moved a ((xs ++ ys) ++ x ∷ []) w (n + (m + 1)) new) (append_assoc ps qs last.settles.prods)
      (subst (λ (w : ℕ). Moved a ((xs ++ ys) ++ x ∷ []) ((ps ++ qs) ++ last.settles.prods) w new) count
      (and_shifts (xs ++ ys) (ps ++ qs) (n + m) mid x new (moves_then a b mid xs ps n ys qs m before first) last)))

  -- the trees that the stacks represent have the lexemes as further leaves, and the reductions as further productions
  pub moves_represent : NeverSticks d.grammar d.table → (old new : Stacked E) (xs : List X) (ps : List ℕ) (n : ℕ) (c : List X) (b : List ℕ)
      → Represented old c b → Moved old xs ps n new → Represented new (c ++ xs) (b ++ ps)
  moves_represent never old _ _ _ _ c b represents rests =
      subst (λ (w : List X). Represented old w (b ++ [])) (sym (append-nil c)) (subst (λ (w : List ℕ). Represented old c w) (sym (append-nil b)) represents)
  moves_represent never old _ _ _ _ c b represents (and_settles xs ps n mid t new first last) =
      let before = moves_represent never old mid xs ps n c b represents first in
      subst (λ (w : List ℕ). Represented new (c ++ xs) w) (append_assoc b ps last.prods)
      (represented_reduce_all token builds.leaf (builds.node d.grammar) builds.suits d.grammar d.table never t mid last.prods new (c ++ xs) (b ++ ps) before last.steps)
  moves_represent never old _ _ _ _ c b represents (and_shifts xs ps n mid x new first last) =
      let before = moves_represent never old mid xs ps n c b represents first in
      let qs = last.settles.prods in
      let settled = represented_reduce_all token builds.leaf (builds.node d.grammar) builds.suits d.grammar d.table never (token x) mid qs last.mid (c ++ xs) (b ++ ps) before last.settles.steps in
      let path = (never.shifts settled.symbols last.mid.states (token x) last.next settled.path last.shifts).1 in
      let shifted = represented_shift token builds.leaf (builds.node d.grammar) builds.suits d.grammar d.table last.mid new (c ++ xs) ((b ++ ps) ++ qs) x last.entry last.next settled path last.made last.suit last.of_states last.of_entries in
      subst (λ (w : List X). Represented new w (b ++ (ps ++ qs))) (append_assoc c xs (x ∷ []))
      (subst (λ (w : List ℕ). Represented new ((c ++ xs) ++ x ∷ []) w) (append_assoc b ps qs) shifted)

  -- the bound of the reductions that were made
  pub moves_bound : (old new : Stacked E) (xs : List X) (ps : List ℕ) (n : ℕ) → Moved old xs ps n new
      → length ps + d.cap * length new.states ≤ d.cap * (length old.states + length xs) + d.cap * (d.cap + 2) * n
  moves_bound old _ _ _ _ rests = omega arith
  moves_bound old _ _ _ _ (and_settles xs ps n mid t new first last) =
      rw (length-append ps last.prods)
      (settle_more d.cap (length ps) (length last.prods) (length mid.states) (length new.states) (length old.states) (length xs) n (moves_bound old mid xs ps n first) last.few)
  moves_bound old _ _ _ _ (and_shifts xs ps n mid x new first last) =
      let count : length (ps ++ last.settles.prods) ≡ length ps + length last.settles.prods = length-append ps last.settles.prods in
      let more : length (xs ++ x ∷ []) ≡ length xs + 1 = length-append xs (x ∷ []) in
      let height : length new.states ≡ length last.mid.states + 1 = ap length last.of_states ∙ length-append last.mid.states (last.next ∷ []) in
      rw (count, more, height)
      (shift_more d.cap (length ps) (length last.settles.prods) (length mid.states) (length last.mid.states) (length old.states) (length xs) n (moves_bound old mid xs ps n first) last.settles.few)

  -- a lexeme that is shifted is fed
  pub feeds_by_shift : (t : ℕ) (x : X) (old new : Stacked E) → (s : Shifts builds d t x old new) → Feeds d.grammar d.table t old.states s.settles.prods new.states
  feeds_by_shift t x old new s = record {
    settled = s.mid.states;
    settles = states_settle builds d t old s.mid s.settles;
    next = s.next;
    shifts = s.shifts;
    pushed = s.of_states;
  }

  -- and if one can be fed, the stacks don't stick
  pub feeds_not_sticks : (t : ℕ) (old new : Stacked E) (ps next : List ℕ) → Feeds d.grammar d.table t old.states ps next → Sticks builds d t old new → ⊥
  feeds_not_sticks t old new ps next f s =
      let same = settles_one_way d.grammar d.table t old.states ps s.settles.prods f.settled new.states f.settles (states_settle builds d t old new s.settles) in
      let shifts : top_action d.table t new.states ≡ ShiftTo f.next = subst (λ w. top_action d.table t w ≡ ShiftTo f.next) same.1 f.shifts in
      let e : ShiftTo f.next ≡ Fails = sym shifts ∙ s.fails in
      absurd (let no : ⊥ = cc in no)

  -- where a lexeme starts
  abbrev start : X → ℕ
  start x = (facts x).span.start

  module _ (keeps : KeepsRising start builds.leaf (builds.node d.grammar) builds.rises) where
    -- the entries stay in order if a lexeme is shifted that starts no earlier
    pub rise_by_shift : (t : ℕ) (x : X) (old new : Stacked E) → Shifts builds d t x old new → RiseUpTo builds.rises old.entries (start x) → builds.rises new.entries (start x)
    rise_by_shift t x old new s (low, least, rise) =
        let settled = rise_reduce_all start builds.leaf (builds.node d.grammar) builds.suits builds.rises keeps d.grammar d.table t s.settles.prods old s.mid low s.settles.steps rise in
        subst (λ (es : List E). builds.rises es (start x)) (sym s.of_entries) (keeps.by_leaf s.mid.entries low x s.entry settled least s.made)

    -- and if the stacks settle
    pub rise_by_settle : (t most : ℕ) (old new : Stacked E) → SettlesTo builds d t old new → RiseUpTo builds.rises old.entries most → RiseUpTo builds.rises new.entries most
    rise_by_settle t most old new s (low, least, rise) =
        (low, least, rise_reduce_all start builds.leaf (builds.node d.grammar) builds.suits builds.rises keeps d.grammar d.table t s.prods old new low s.steps rise)

    -- if lexeme i is shifted, they are in order up to the next one
    pub rise_to_next : (lexemes : List X) (i : ℕ) (x : X) (old new : Stacked E) → StartsRise (map facts lexemes) → slice_get lexemes i ≡ Some x
        → Shifts builds d (token x) x old new → RiseUpTo builds.rises old.entries (start_at (map facts lexemes) i) → RiseUpTo builds.rises new.entries (start_at (map facts lexemes) (i + 1))
    rise_to_next lexemes i x old new starts is s (low, least, rise) =
        let within : i < length lexemes = slice_get_within lexemes i x is in
        let start_is : start_at (map facts lexemes) i ≡ start x = start_at_is facts lexemes i x is in
        let next = starts i (rw length-map within) in
        (start x, omega (arith, start_is, next), rise_by_shift (token x) x old new s (low, omega (arith, start_is, least), rise))

    -- if lexeme i is passed over, they are in order up to the next one
    pub rise_past : (lexemes : List X) (i : ℕ) (entries : List E) → StartsRise (map facts lexemes) → i < length lexemes
        → RiseUpTo builds.rises entries (start_at (map facts lexemes) i) → RiseUpTo builds.rises entries (start_at (map facts lexemes) (i + 1))
    rise_past lexemes i entries starts within (low, least, rise) =
        let next = starts i (rw length-map within) in
        (low, omega (arith, next, least), rise)

    -- if a lexeme is shifted that starts where lexeme i does, they are in order up to there
    pub rise_to_same : (most : ℕ) (x : X) (old new : Stacked E) → start x ≡ most
        → Shifts builds d (token x) x old new → RiseUpTo builds.rises old.entries most → RiseUpTo builds.rises new.entries most
    rise_to_same most x old new start_is s (low, least, rise) =
        (start x, omega (arith, start_is), rise_by_shift (token x) x old new s (low, omega (arith, start_is, least), rise))

  module _ (lexemes : List X) where
    abbrev Replayed : List ℕ → ℕ → List PlainStep → List ℕ → List ℕ → ℕ → Type 0
    Replayed st i steps ps after j = Replays token d.grammar d.table lexemes st i steps ps after j

    -- steps after steps
    replays_then : (st : List ℕ) (i : ℕ) (steps : List PlainStep) (ps mid : List ℕ) (j : ℕ) (more : List PlainStep) (qs after : List ℕ) (k : ℕ)
        → Replayed st i steps ps mid j → Replayed mid j more qs after k → Replayed st i (steps ++ more) (ps ++ qs) after k
    replays_then st i [] ps mid j more qs after k x y =
        let here : Replayed st i more qs after k = subst (λ (l : List ℕ). Replayed l i more qs after k) x.1 (subst (λ (m : ℕ). Replayed mid m more qs after k) x.2 y) in
        subst (λ (w : List ℕ). Replayed st i more (w ++ qs) after k) (sym x.0) here
    replays_then st i (step ∷ steps) ps mid j more qs after k x y =
        (x.0, x.1, x.2, x.3 ++ qs, x.4, replays_then x.1 x.2 steps x.3 mid j more qs after k x.5 y, ap (λ (w : List ℕ). w ++ qs) x.6 ∙ append_assoc x.0 x.3 qs)

    -- and what they consume
    consumes_then : (st : List ℕ) (i : ℕ) (steps : List PlainStep) (ps mid : List ℕ) (j : ℕ) (xs : List X) (more : List PlainStep) (ys : List X)
        → Replayed st i steps ps mid j → Consumes facts lexemes i steps xs → Consumes facts lexemes j more ys → Consumes facts lexemes i (steps ++ more) (xs ++ ys)
    consumes_then st i [] ps mid j xs more ys r x y =
        subst (λ (w : List X). Consumes facts lexemes i more (w ++ ys)) (sym x) (subst (λ (m : ℕ). Consumes facts lexemes m more ys) r.2 y)
    consumes_then st i (PlainInsert t ∷ steps) ps mid j [] more ys r x y = absurd x
    consumes_then st i (PlainInsert t ∷ steps) ps mid j (l ∷ xs) more ys r x y =
        let there : Consumes facts lexemes r.2 steps xs = subst (λ (m : ℕ). Consumes facts lexemes m steps xs) (sym r.4.2) x.1 in
        (x.0, subst (λ (m : ℕ). Consumes facts lexemes m (steps ++ more) (xs ++ ys)) r.4.2 (consumes_then r.1 r.2 steps r.3 mid j xs more ys r.5 there y))
    consumes_then st i (PlainDelete ∷ steps) ps mid j xs more ys r x y =
        let there : Consumes facts lexemes r.2 steps xs = subst (λ (m : ℕ). Consumes facts lexemes m steps xs) (sym r.4.3) x in
        subst (λ (m : ℕ). Consumes facts lexemes m (steps ++ more) (xs ++ ys)) r.4.3 (consumes_then r.1 r.2 steps r.3 mid j xs more ys r.5 there y)
    consumes_then st i (PlainShift ∷ steps) ps mid j [] more ys r x y = absurd x
    consumes_then st i (PlainShift ∷ steps) ps mid j (l ∷ xs) more ys r x y =
        let there : Consumes facts lexemes r.2 steps xs = subst (λ (m : ℕ). Consumes facts lexemes m steps xs) (sym r.4.2) x.1 in
        (x.0, subst (λ (m : ℕ). Consumes facts lexemes m (steps ++ more) (xs ++ ys)) r.4.2 (consumes_then r.1 r.2 steps r.3 mid j xs more ys r.5 there y))

    abbrev IsDone : Stacked E → ℕ → List PlainStep → Stacked E → ℕ → Type 0
    IsDone old i steps new j = IsReplayed facts builds d lexemes old i steps new j

    -- no step is replayed
    pub replayed_none : (stack : Stacked E) (i : ℕ) → IsDone stack i [] stack i
    replayed_none stack i = record { prods = []; recovered = []; replays = (refl, refl, refl); consumes = refl; moves = rests }

    -- steps are replayed, and then more
    pub replayed_then : (a b c : Stacked E) (i j k : ℕ) (steps more : List PlainStep) → IsDone a i steps b j → IsDone b j more c k → IsDone a i (steps ++ more) c k
    replayed_then a b c i j k steps more x y = record {
      prods = x.prods ++ y.prods;
      recovered = x.recovered ++ y.recovered;
      replays = replays_then a.states i steps x.prods b.states j more y.prods c.states k x.replays y.replays;
      consumes = consumes_then a.states i steps x.prods b.states j x.recovered more y.recovered x.replays x.consumes y.consumes;
      moves = subst (λ (n : ℕ). Moved a (x.recovered ++ y.recovered) (x.prods ++ y.prods) n c) (sym (length-append x.recovered y.recovered))
          (moves_then a b c x.recovered x.prods (length x.recovered) y.recovered y.prods (length y.recovered) x.moves y.moves);
    }

    -- if the first step was replayed, the others can be replayed from its result
    pub replay_left : (old new : Stacked E) (i j : ℕ) (step : PlainStep) (steps : List PlainStep) (ps after : List ℕ) (k : ℕ) → IsDone old i (step ∷ []) new j
        → Replayed old.states i (step ∷ steps) ps after k → (qs : List ℕ) × Replayed new.states j steps qs after k
    replay_left old new i j step steps ps after k x r =
        let y = x.replays in
        let same = steps_one_way token d.grammar d.table lexemes old.states i step r.0 r.1 r.2 y.0 y.1 y.2 r.4 y.4 in (
          r.3,
          subst (λ (l : List ℕ). Replayed l j steps r.3 after k) (same.1 ∙ sym y.5.1)
              (subst (λ (m : ℕ). Replayed r.1 m steps r.3 after k) (same.2 ∙ sym y.5.2) r.5),
        )

    -- a Delete is replayed
    pub replayed_delete : (stack : Stacked E) (i : ℕ) → i < length lexemes → IsDone stack i (PlainDelete ∷ []) stack (i + 1)
    replayed_delete stack i within = record {
      prods = [];
      recovered = [];
      replays = ([], stack.states, i + 1, [], (within, refl, refl, refl), (refl, refl, refl), refl);
      consumes = refl;
      moves = rests;
    }

    -- a Shift is replayed
    pub replayed_shift : (old new : Stacked E) (i : ℕ) (x : X) → i < length lexemes → slice_get lexemes i ≡ Some x → Shifts builds d (token x) x old new
        → IsDone old i (PlainShift ∷ []) new (i + 1)
    replayed_shift old new i x within is s =
        let ps = s.settles.prods in
        let feeds : Feeds d.grammar d.table (token_at token d.grammar lexemes i) old.states ps new.states =
        subst (λ (t : ℕ). Feeds d.grammar d.table t old.states ps new.states) (sym (token_at_lexeme token d.grammar lexemes i x is)) (feeds_by_shift (token x) x old new s) in
        record {
          prods = ps;
          recovered = x ∷ [];
          replays = (ps, new.states, i + 1, [], (within, feeds, refl), (refl, refl, refl), sym (append-nil ps));
          consumes = (is, refl);
          moves = and_shifts [] [] 0 old x new rests s;
        }

    -- an Insert is replayed
    pub replayed_insert : (old new : Stacked E) (i t : ℕ) (x : X) → t < end_token d.grammar → facts x ≡ inserted_at t (map facts lexemes) i
        → Shifts builds d (token x) x old new → IsDone old i (PlainInsert t ∷ []) new i
    replayed_insert old new i t x listed made s =
        let ps = s.settles.prods in
        let same : token x ≡ t = ap (λ (f : LexemeFacts). f.token) made in
        let feeds : Feeds d.grammar d.table t old.states ps new.states = subst (λ (u : ℕ). Feeds d.grammar d.table u old.states ps new.states) same (feeds_by_shift (token x) x old new s) in
        record {
          prods = ps;
          recovered = x ∷ [];
          replays = (ps, new.states, i, [], (listed, feeds, refl), (refl, refl, refl), sym (append-nil ps));
          consumes = (made, refl);
          moves = and_shifts [] [] 0 old x new rests s;
        }
