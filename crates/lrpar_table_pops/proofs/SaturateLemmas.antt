-- Why the exits of a state are closed if nothing was new: each goto of the state was followed wherever its rule is reduced, and all that was
-- found is stored.
use Rattle.std.proofs.Common.{◌≡◌, ◌≢◌, ◌<◌, ◌≤◌, ◌+◌, ◌⊎◌, ◌∙◌, inl, inr, refl, sym, ap, subst, arith, ℕ, zero, suc, Bool, true, false, List, [], Option, Some, None, length, slice_get}
use Rattle.std.proofs.lemmas.Option.{same_Some, slice_get_within}
use Rattle.lrpar_grammar_places.specs.declared.span.StIdx.{StIdx}
use Rattle.lrpar_grammar_places.specs.declared.span.TIdx.{TIdx}
use Rattle.lrpar_table_pops.specs.Entries.{AreAllTokensOf}
use Rattle.std.specs.Prelude.{Err, IfOk, IsTrue, Ok, Result}
use Rattle.std.specs.Bool.{OnFalse}
use Rattle.std.proofs.lemmas.Bool.{cases_lt}
use Rattle.lrpar_grammar.specs.Grammar.{Grammar, end_token, rules_len, tokens_len}
use Rattle.lrpar_grammar.specs.Tokens.{has}
use Rattle.lrpar_table_rows.specs.Graph.{Graph}
use Rattle.lrpar_table_rows.specs.Table.{Fails, ShiftTo, Table, TableAction, Accepts, ReduceBy, action_of, goto_of, states_len}
use Rattle.lrpar_table_rows.specs.declared.condition.SafetyCondition.TheVariants.{S7}
use Rattle.lrpar_table_pops.specs.Closed.{AreFollowed, FollowsIn, IsClosedWith, IsKeptBy, IsBackIn, IsIncluded, StartsIn}
use Rattle.lrpar_table_pops.specs.FollowAll.{AreAllDone, AreRightActions, IsFollowing, IsRightAction, KeepsFollowing}
use Rattle.lrpar_table_pops.specs.Found.{IsOneOf}
use Rattle.lrpar_table_pops.specs.FoundAll.{FindsAll, AreExitsFor, HasRoomFor}
use Rattle.lrpar_table_pops.specs.Growth.{GrowsBy, HasWay, IsStored, KeepRoom, KeepsWays, SomeHasLookahead}
use Rattle.lrpar_table_pops.specs.Pops.{Control, Done, Dropping, Reading}
use Rattle.lrpar_table_pops.specs.Sets.{HaveNoTokens, tokens_by}
use Rattle.lrpar_table_pops.specs.StoredAll.{AreSameStored, HaveAllWays, IsClosedIf, IsClosedState, IsSoundTable, Saturates, SaturatesState, StartsFrom, StartsSoFar, StoresAll, stored_of}
use Rattle.lrpar_table_pops.specs.declared.exits.Exit.{Exit}
use Rattle.lrpar_table_pops.specs.declared.exits.Way.{Way}
use Rattle.lrpar_table_pops.specs.declared.exits.Way.TheVariants.{Acceptance, Reduction}
use Rattle.lrpar_table_pops.specs.declared.found.Found.{Found}
use Rattle.lrpar_table_pops.specs.declared.pops.StateExits.{StateExits}
use Rattle.lrpar_table_pops.proofs.ClosedLemmas.{token_within}
use Rattle.lrpar_table_pops.proofs.FoundAllLemmas.{places_kept, room_grown}
use Rattle.lrpar_table_pops.proofs.FollowAllLemmas.{on_false_both}
use Rattle.lrpar_table_pops.proofs.GrowthLemmas.{some_has}
use Rattle.lrpar_table_pops.specs.StoredPops.{any_of, at_of}

-- an empty state has no exit for a run that has accepted
no_way : (exits : List Exit) (way : Way) → exits ≡ [] → ¬ (HasWay exits way)
no_way exits way none h = let low = h.1.1 in let long = ap (λ (l : List Exit). length l) none in omega (arith, low, long)

-- what was found is cleared
pub cleared_room : (g : Grammar) (graph : Graph) (s : ℕ) (old new : Found) → KeepsWays old.exits new.exits → KeepRoom old.reduced.items new.reduced.items
    → KeepRoom old.followed.items new.followed.items → HasRoomFor g graph s old → HasRoomFor g graph s new
cleared_room g graph s old new places reduced followed room = record {
  exits = record {
    cores = λ p left core. places.ways (Reduction p left) (room.exits.cores p left core);
    accepted = places.ways Acceptance room.exits.accepted;
    room = places.rooms (tokens_len g) room.exits.room;
  };
  reduced = room_grown g old.reduced.items new.reduced.items reduced room.reduced;
  followed = room_grown g old.followed.items new.followed.items followed room.followed;
}

-- what follows acts
pub follows_acts : (g : Grammar) (pops : List StateExits) (next t : ℕ) (action : TableAction) (q : Control) → FollowsIn g pops next t action q → action ≢ Fails
follows_acts g pops next t action q follows is = subst (λ (a : TableAction). FollowsIn g pops next t a q) is follows

pub starts_act : (g : Grammar) (pops : List StateExits) (t : ℕ) (action : TableAction) (q : Control) → StartsIn g pops t action q → action ≢ Fails
starts_act g pops t action q starts is = subst (λ (a : TableAction). StartsIn g pops t a q) is starts

module _ (g : Grammar) (graph : Graph) (table : Table) (sound : IsSoundTable g graph table) where
  -- the actions of a safe table are right
  right_action : (s t : ℕ) → s < states_len table → (action : TableAction) → action_of table s t ≡ action → IsRightAction g t action
  right_action s t low (ShiftTo next) is = tt
  right_action s t low (ReduceBy p) is = sound.safe.shape.reduces s t p is
  right_action s t low Accepts is = (sound.safe.each S7 s low t is).0
  right_action s t low Fails is = tt

  module _ (pops : List StateExits) (s : ℕ) (low : s < states_len table) where
    -- all that was reduced was followed
    all_followed : (found : Found) → HasRoomFor g graph s found → IsFollowing g graph table pops s found → AreAllDone table s found
        → AreFollowed g graph table pops s found.exits found.reduced.items
    all_followed found room following done rule t next q has_it goto follows placed =
        let acts = follows_acts g pops next t (action_of table next t) q follows in
        let within : t < tokens_len g = token_within g graph table sound.safe sound.closed sound.tokens next t (action_of table next t) refl acts in
        let by_rule : rule < rules_len g = elim (cases_lt rule table.rules) as (λ _. rule < rules_len g) [
          | inl under ↦ let same = sound.safe.shape.rules in omega (arith, under, same)
          | inr past ↦ let no : None ≡ Some next = sym (sound.rules s rule past) ∙ goto in absurd (let none : ⊥ = cc in none)
        ] in
        let long = room.followed rule by_rule in
        following rule t next q (done rule next t goto acts has_it (omega (arith, long, within))) goto follows placed

    -- what is found is closed
    found_closed : (at : Option ℕ) (Q : Control → Type 0) (cleared started found : Found) → HasRoomFor g graph s cleared → HaveNoTokens cleared.followed.items
        → FindsAll g Q cleared started → started.followed.items ≡ cleared.followed.items → KeepsFollowing g graph table pops s started found
        → AreAllDone table s found → ((t : ℕ) (q : Control) → IsOneOf at t → StartsIn g pops t (action_of table s t) q → Q q)
        → IsClosedWith g graph table pops s at found.exits found.reduced.items
    found_closed at Q cleared started found room none finds same follows done starts = record {
      started = λ t q one start placed. follows.kept q (finds.more graph s q room (starts t q one start) placed);
      followed = all_followed found (follows.room (finds.room graph s room))
          (follows.following (finds.room graph s room) (λ rule t next q has_it goto h placed.
          absurd (none rule t (subst (λ (l : List (List Bool)). IsTrue (has (tokens_by l rule) t)) same has_it)))) done;
    }

    -- more exits
    taken_larger : (P : Way → ℕ → Type 0) (exits old new : List Exit) (reduced : List (List Bool)) → GrowsBy P old new → AreExitsFor g graph s old
        → ((way : Way) (t : ℕ) → SomeHasLookahead exits way t → P way t) → (q : Control) → IsBackIn g graph s q → IsIncluded g exits reduced q → IsIncluded g new reduced q
    taken_larger P exits old new reduced grows places by (Reading t) placed h = h
    taken_larger P exits old new reduced grows places by (Dropping p zero t) placed h = h
    taken_larger P exits old new reduced grows places by (Dropping p (suc left) t) placed h =
        grows.more (Reduction p left) t (tokens_len g) (by (Reduction p left) t (some_has exits (Reduction p left) t h)) (places.cores p left placed.0) places.room placed.1
    taken_larger P exits old new reduced grows places by Done placed h =
        grows.more Acceptance (end_token g) (tokens_len g) (by Acceptance (end_token g) (some_has exits Acceptance (end_token g) h)) places.accepted places.room (omega arith)

    closed_larger : (at : Option ℕ) (P : Way → ℕ → Type 0) (exits old new : List Exit) (reduced : List (List Bool)) → GrowsBy P old new → AreExitsFor g graph s old
        → ((way : Way) (t : ℕ) → SomeHasLookahead exits way t → P way t) → IsClosedWith g graph table pops s at exits reduced
        → IsClosedWith g graph table pops s at new reduced
    closed_larger at P exits old new reduced grows places by closed = record {
      started = λ t q one start placed. taken_larger P exits old new reduced grows places by q placed (closed.started t q one start placed);
      followed = λ rule t next q has_it goto follows placed.
          taken_larger P exits old new reduced grows places by q placed (closed.followed rule t next q has_it goto follows placed);
    }

  -- places stay
  pub places_stay : (s : ℕ) (at : Option ℕ) (exits : List Exit) (old new : List StateExits) → StoresAll s at exits old new → HaveAllWays g graph table old
      → HaveAllWays g graph table new
  places_stay s at exits old new stores places u other within kept =
      places_kept g graph u (λ w t. (u ≡ s) × (other ≡ at) × SomeHasLookahead exits w t) (stored_of old u other) (stored_of new u other) (stores.grows u other)
      (places u other within kept)

  -- what was found was added
  pub add_saturates : (s : ℕ) (at : Option ℕ) (b : Bool) (old new : List StateExits) (Q : Control → Type 0) (cleared started found : Found) → s < states_len table
      → HaveAllWays g graph table old → HasRoomFor g graph s cleared → HaveNoTokens cleared.followed.items → FindsAll g Q cleared started
      → started.followed.items ≡ cleared.followed.items → KeepsFollowing g graph table old s started found → AreAllDone table s found
      → ((t : ℕ) (q : Control) → IsOneOf at t → StartsIn g old t (action_of table s t) q → Q q) → StoresAll s at found.exits old new
      → OnFalse b (AreSameStored old new) → Saturates g graph table s b (IsClosedIf g graph table old s at) old new × HasRoomFor g graph s found
  add_saturates s at b old new Q cleared started found low places room none finds kept follows done starts stores same = (
    record {
      ways = places_stay s at found.exits old new stores places;
      alone = stores.alone;
      same = same;
      closed = closed_if b same;
    },
    follows.room (finds.room graph s room),
  )
    where
      closed_if : (c : Bool) → OnFalse c (AreSameStored old new) → OnFalse c (IsClosedIf g graph table old s at)
      closed_if true h = tt
      closed_if false h = λ is_kept.
          let len = sound.safe.shape.states in
          let here = places s at (omega (arith, low, len)) is_kept in
          let with = found_closed old s low at Q cleared started found room none finds kept follows done starts in
          let larger = closed_larger old s low at (λ w t. (s ≡ s) × (at ≡ at) × SomeHasLookahead found.exits w t) found.exits (stored_of old s at) (stored_of new s at)
          found.reduced.items (stores.grows s at) here (λ way t h'. (refl, refl, h')) with in
          (found.reduced.items, subst (λ (l : List Exit). IsClosedWith g graph table old s at l found.reduced.items) (h s at) larger)

  -- no exits are kept
  pub skip_saturates : (s : ℕ) (at : Option ℕ) (states : List StateExits) (found : Found) → s < states_len table → HaveAllWays g graph table states
      → HasRoomFor g graph s found → stored_of states s at ≡ []
      → Saturates g graph table s false (IsClosedIf g graph table states s at) states states × HasRoomFor g graph s found
  skip_saturates s at states found low places room none = (
    record {
      ways = places;
      alone = λ u other apart. refl;
      same = λ u other. refl;
      closed = λ is_kept.
          let len = sound.safe.shape.states in
          absurd (no_way (stored_of states s at) Acceptance none (places s at (omega (arith, low, len)) is_kept).accepted);
    },
    room,
  )

-- the actions of all states are right
pub right_actions : (g : Grammar) (graph : Graph) (table : Table) → IsSoundTable g graph table → AreRightActions g table
right_actions g graph table sound s t =
    elim (cases_lt s (states_len table)) as (λ _. IsRightAction g t (action_of table s t)) [
      | inl low ↦ right_action g graph table sound s t low (action_of table s t) refl
      | inr high ↦ subst (IsRightAction g t) (sym (sound.states s t high)) tt
    ]

-- one more token at which the state acts
pub starts_more : {S : Type 0} (index : S → ℕ) (g : Grammar) (table : Table) (states : List StateExits) (s : ℕ) (tokens : List (TIdx S)) (place : ℕ) (token : TIdx S)
    (action : TableAction) → slice_get tokens place ≡ Some token → action_of table s (index token.0) ≡ action → (q : Control)
    → StartsSoFar index g table states s tokens (place + 1) q → StartsSoFar index g table states s tokens place q ⊎ StartsIn g states (index token.0) action q
starts_more {S} index g table states s tokens place token action there is q h =
    elim (cases_lt h.0 place) as (λ _. StartsSoFar index g table states s tokens place q ⊎ StartsIn g states (index token.0) action q) [
      | inl less ↦ inl (h.0, h.1, less, h.3, h.4)
      | inr past ↦
          let low = h.2 in
          let last : h.0 ≡ place = omega (arith, low, past) in
          let one : h.1 ≡ token = same_Some h.1 token (sym h.3 ∙ ap (slice_get tokens) last ∙ there) in
          let here : StartsIn g states (index token.0) (action_of table s (index token.0)) q =
          subst (λ (x : TIdx S). StartsIn g states (index x.0) (action_of table s (index x.0)) q) one h.4 in
          inr (subst (λ (a : TableAction). StartsIn g states (index token.0) a q) is here)
    ]

pub starts_none : {S : Type 0} (index : S → ℕ) (g : Grammar) (table : Table) (states : List StateExits) (s : ℕ) (tokens : List (TIdx S)) (q : Control)
    → ¬ (StartsSoFar index g table states s tokens 0 q)
starts_none index g table states s tokens q h = let low = h.2 in omega (arith, low)

pub starts_all : {S : Type 0} (index : S → ℕ) (g : Grammar) (table : Table) (states : List StateExits) (s : StIdx S) (tokens : List (TIdx S)) (place : ℕ) → length tokens ≤ place
    → AreAllTokensOf index table s tokens → (q : Control) → StartsFrom g table states (index s.0) q → StartsSoFar index g table states (index s.0) tokens place q
starts_all {S} index g table states s tokens place end all q h =
    let acts = starts_act g states h.0 (action_of table (index s.0) h.0) q h.1 in
    let token = all h.0 acts in
    let low = slice_get_within tokens token.0 token.1 token.2 in
    (token.0, token.1, omega (arith, low, end), token.2, subst (λ (t : ℕ). StartsIn g states t (action_of table (index s.0) t) q) (sym token.3) h.1)

-- what closes a state hangs on the states that shifts and gotos lead to from it
starts_local : (g : Grammar) (old new : List StateExits) (t : ℕ) (action : TableAction) (q : Control) → ((next : ℕ) → action ≡ ShiftTo next → any_of new next ≡ any_of old next)
    → StartsIn g new t action q → StartsIn g old t action q
starts_local g old new t (ShiftTo next) q same h = subst (λ (l : List Exit). IsStored g l q) (same next refl) h
starts_local g old new t (ReduceBy p) q same h = h
starts_local g old new t Accepts q same h = h
starts_local g old new t Fails q same h = h

follows_local : (g : Grammar) (old new : List StateExits) (next t : ℕ) (action : TableAction) (q : Control) → at_of new next t ≡ at_of old next t
    → FollowsIn g new next t action q → FollowsIn g old next t action q
follows_local g old new next t (ShiftTo above) q same h = subst (λ (l : List Exit). IsStored g l q) same h
follows_local g old new next t (ReduceBy p) q same (inl kept) = inl (kept.0, subst (λ (l : List Exit). IsStored g l q) same kept.1)
follows_local g old new next t (ReduceBy p) q same (inr more) = inr more
follows_local g old new next t Accepts q same h = h
follows_local g old new next t Fails q same h = h

pub closed_local : (g : Grammar) (graph : Graph) (table : Table) (s : ℕ) (at : Option ℕ) (old new : List StateExits)
    → ((t next : ℕ) → action_of table s t ≡ ShiftTo next → any_of new next ≡ any_of old next)
    → ((r next t : ℕ) → goto_of table s r ≡ Some next → at_of new next t ≡ at_of old next t) → stored_of new s at ≡ stored_of old s at
    → IsClosedIf g graph table old s at → IsClosedIf g graph table new s at
closed_local g graph table s at old new shifts gotos same closed kept =
    let was = closed kept in (
      was.0,
      subst (λ (l : List Exit). IsClosedWith g graph table new s at l was.0) (sym same) (record {
        started = λ t q one start placed. was.1.started t q one (starts_local g old new t (action_of table s t) q (shifts t) start) placed;
        followed = λ rule t next q has_it goto follows placed.
            was.1.followed rule t next q has_it goto (follows_local g old new next t (action_of table next t) q (gotos rule next t goto) follows) placed;
      }),
    )

pub closed_same : (g : Grammar) (graph : Graph) (table : Table) (s : ℕ) (at : Option ℕ) (old new : List StateExits) → AreSameStored old new
    → IsClosedIf g graph table new s at → IsClosedIf g graph table old s at
closed_same g graph table s at old new same closed =
    closed_local g graph table s at new old (λ t next shift. sym (same next None)) (λ r next t goto. sym (same next (Some t))) (sym (same s at)) closed

same_then : (first now next : List StateExits) → AreSameStored first now → AreSameStored now next → AreSameStored first next
same_then first now next one two s at = two s at ∙ one s at

-- a result that is false where both are
on_false_steps : {A B C : Type 0} (b r n : Bool) → (r ≡ true → n ≡ true) → (r ≡ false → n ≡ b) → OnFalse b A → OnFalse r B → (A → B → C) → OnFalse n C
on_false_steps b r true up keep a c f = tt
on_false_steps b true false up keep a c f = absurd (let no : false ≡ true = up refl in let none : ⊥ = cc in none)
on_false_steps true false false up keep a c f = absurd (let no : false ≡ true = keep refl in let none : ⊥ = cc in none)
on_false_steps false false false up keep a c f = f a c

-- one addition after another
pub saturates_then : (g : Grammar) (graph : Graph) (table : Table) (s : ℕ) (b r n : Bool) (P Q R : Type 0) (first now next : List StateExits) → (r ≡ true → n ≡ true)
    → (r ≡ false → n ≡ b) → (AreSameStored first now → P → Q → R) → Saturates g graph table s b P first now → Saturates g graph table s r Q now next
    → Saturates g graph table s n R first next
saturates_then g graph table s b r n P Q R first now next up keep both one two = record {
  ways = two.ways;
  alone = λ u at apart. two.alone u at apart ∙ one.alone u at apart;
  same = on_false_steps b r n up keep one.same two.same (same_then first now next);
  closed = on_false_steps {A = AreSameStored first now × P} b r n up keep
      (on_false_both b one.same one.closed (λ same p. let pair : AreSameStored first now × P = (same, p) in pair)) two.closed (λ a q. both a.0 a.1 q);
}

-- nothing is added yet
pub saturates_none : (g : Grammar) (graph : Graph) (table : Table) (s : ℕ) (P : Type 0) (states : List StateExits) → HaveAllWays g graph table states → P
    → Saturates g graph table s false P states states
saturates_none g graph table s P states places p = record {
  ways = places;
  alone = λ u at apart. refl;
  same = λ u at. refl;
  closed = p;
}

-- the state is closed at the first tokens
abbrev pub AreTokensClosed : {S : Type 0} → (S → ℕ) → Grammar → Graph → Table → List StateExits → ℕ → List (TIdx S) → ℕ → Type 0
AreTokensClosed {S} index g graph table states s tokens place =
    (i : ℕ) (token : TIdx S) → i < place → slice_get tokens i ≡ Some token → IsClosedIf g graph table states s (Some (index token.0))

pub tokens_closed_more : {S : Type 0} (index : S → ℕ) (g : Grammar) (graph : Graph) (table : Table) (first now : List StateExits) (s : ℕ) (tokens : List (TIdx S))
    (place : ℕ) (token : TIdx S) → slice_get tokens place ≡ Some token → AreSameStored first now → AreTokensClosed index g graph table first s tokens place
    → IsClosedIf g graph table now s (Some (index token.0)) → AreTokensClosed index g graph table first s tokens (place + 1)
tokens_closed_more {S} index g graph table first now s tokens place token there same before here i other low at =
    elim (cases_lt i place) as (λ _. IsClosedIf g graph table first s (Some (index other.0))) [
      | inl less ↦ before i other less at
      | inr past ↦
          let last : i ≡ place = omega (arith, low, past) in
          let one : other ≡ token = same_Some other token (sym at ∙ ap (slice_get tokens) last ∙ there) in
          subst (λ (x : TIdx S). IsClosedIf g graph table first s (Some (index x.0))) (sym one)
          (closed_same g graph table s (Some (index token.0)) first now same here)
    ]

-- at each token
pub kept_acts : (g : Grammar) (action : TableAction) → IsKeptBy g action → action ≢ Fails
kept_acts g action kept is = subst (IsKeptBy g) is kept

pub tokens_closed_all : {S : Type 0} (index : S → ℕ) (g : Grammar) (graph : Graph) (table : Table) (states : List StateExits) (s : StIdx S) (tokens : List (TIdx S)) (place : ℕ)
    → length tokens ≤ place → AreAllTokensOf index table s tokens → AreTokensClosed index g graph table states (index s.0) tokens place
    → (t : ℕ) → IsClosedIf g graph table states (index s.0) (Some t)
tokens_closed_all {S} index g graph table states s tokens place end all closed t kept =
    let token = all t (kept_acts g (action_of table (index s.0) t) kept.1) in
    let low = slice_get_within tokens token.0 token.1 token.2 in
    subst (λ (u : ℕ). IsClosedIf g graph table states (index s.0) (Some u)) token.3 (closed token.0 token.1 (omega (arith, low, end)) token.2) kept

-- with any lookahead, and with each
pub state_closed : (g : Grammar) (graph : Graph) (table : Table) (first now : List StateExits) (s : ℕ) → AreSameStored first now
    → ((t : ℕ) → IsClosedIf g graph table first s (Some t)) → IsClosedIf g graph table now s None → IsClosedState g graph table first s
state_closed g graph table first now s same tokens any (Some t) = tokens t
state_closed g graph table first now s same tokens any None = closed_same g graph table s None first now same any

-- what is known of an addition, in other words
pub saturates_by : (g : Grammar) (graph : Graph) (table : Table) (s : ℕ) (b : Bool) (P Q : Type 0) (old new : List StateExits) → (P → Q)
    → Saturates g graph table s b P old new → Saturates g graph table s b Q old new
saturates_by g graph table s b P Q old new by done = record {
  ways = done.ways;
  alone = done.alone;
  same = done.same;
  closed = on_false_both b done.closed done.closed (λ p _. by p);
}

-- the same state by its number
pub number_saturates : (g : Grammar) (graph : Graph) (table : Table) (s number : ℕ) → s ≡ number → {E : Type 0} (r : Result Bool E) (P : Type 0) (old new : List StateExits)
    (before after : Found) → IfOk r (λ grown. SaturatesState g graph table s grown (IsClosedState g graph table old s) old new before after)
    → IfOk r (λ grown. SaturatesState g graph table number grown (P ⊎ IsClosedState g graph table old number) old new before after)
number_saturates g graph table s number same (Ok grown) P old new before after done = λ sound low sets places.
    let here = subst (λ (n : ℕ). SaturatesState g graph table n grown (IsClosedState g graph table old n) old new before after) same done sound low sets places in
    (saturates_by g graph table number grown (IsClosedState g graph table old number) (P ⊎ IsClosedState g graph table old number) old new (λ closed. inr closed) here.0, here.1)
number_saturates g graph table s number same (Err e) P old new before after done = tt
