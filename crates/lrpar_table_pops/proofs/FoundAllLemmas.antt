-- What is found, when nothing is left out.
use Rattle.std.proofs.Common.{◌≡◌, ◌≢◌, ◌<◌, ◌≤◌, ◌+◌, ◌-◌, ◌⊎◌, ◌∙◌, inl, inr, refl, sym, ap, subst, arith, ℕ, zero, suc, Bool, List, Some, get_or, length, slice_get, take}
use Rattle.std.proofs.Math.ListN.{set}
use Rattle.std.specs.Prelude.{IsTrue}
use Rattle.std.proofs.lemmas.Bool.{cases_eq}
use Rattle.lrpar_grammar.specs.Grammar.{Grammar, end_token, prods_len, rule_of, rules_len, tokens_len}
use Rattle.lrpar_grammar.specs.Tokens.{has}
use Rattle.lrpar_table_rows.specs.Graph.{Graph}
use Rattle.lrpar_table_pops.specs.Closed.{IsBackIn, IsIncluded}
use Rattle.lrpar_table_pops.specs.FoundAll.{FindsAll, AreExitsFor, IsAmong, IsFoundIn, SetsGrowBy}
use Rattle.lrpar_table_pops.specs.Growth.{AddsAll, GrowsBy, HasLookahead, HaveRoomFor, KeepRoom, SomeHasLookahead}
use Rattle.lrpar_table_pops.specs.Pops.{Control, Done, Dropping, Reading}
use Rattle.lrpar_table_pops.specs.Sets.{tokens_by}
use Rattle.lrpar_table_pops.specs.declared.exits.Exit.{Exit}
use Rattle.lrpar_table_pops.specs.declared.exits.Way.{Way}
use Rattle.lrpar_table_pops.specs.declared.exits.Way.TheVariants.{Acceptance, Reduction}
use Rattle.lrpar_table_pops.specs.declared.found.Found.{Found}
use Rattle.lrpar_table_pops.proofs.SetLemmas.{none_past, room_kept, set_there, tokens_kept, tokens_set}
use Rattle.lrpar_table_pops.proofs.GrowthLemmas.{some_more}

-- a control asks for a lookahead with P, of the exit that drops the state; a reduction that drops no more states, for a token of its rule
abbrev pub AsksExits : Grammar → (Way → ℕ → Type 0) → Control → Type 0
AsksExits g P (Reading t) = ⊥
AsksExits g P (Dropping p zero t) = ⊥
AsksExits g P (Dropping p (suc left) t) = P (Reduction p left) t
AsksExits g P Done = P Acceptance (end_token g)

abbrev pub AsksSets : Grammar → (ℕ → ℕ → Type 0) → Control → Type 0
AsksSets g P (Reading t) = ⊥
AsksSets g P (Dropping p zero t) = p < prods_len g → P (rule_of g p) t × (rule_of g p < rules_len g)
AsksSets g P (Dropping p (suc left) t) = ⊥
AsksSets g P Done = ⊥

-- exits grow
pub places_kept : (g : Grammar) (graph : Graph) (s : ℕ) (P : Way → ℕ → Type 0) (old new : List Exit) → GrowsBy P old new → AreExitsFor g graph s old
    → AreExitsFor g graph s new
places_kept g graph s P old new grows places = record {
  cores = λ p left core. grows.ways (Reduction p left) (places.cores p left core);
  accepted = grows.ways Acceptance places.accepted;
  room = grows.rooms (tokens_len g) places.room;
}

taken_kept : (g : Grammar) (P : Way → ℕ → Type 0) (old new : List Exit) (before after : List (List Bool)) → GrowsBy P old new
    → ((r t : ℕ) → IsTrue (has (tokens_by before r) t) → IsTrue (has (tokens_by after r) t)) → (q : Control) → IsIncluded g old before q → IsIncluded g new after q
taken_kept g P old new before after grows sets (Reading t) h = h
taken_kept g P old new before after grows sets (Dropping p zero t) h = sets (rule_of g p) t h
taken_kept g P old new before after grows sets (Dropping p (suc left) t) h = grows.kept (Reduction p left) t h
taken_kept g P old new before after grows sets Done h = grows.kept Acceptance (end_token g) h

asked_taken : (g : Grammar) (graph : Graph) (s : ℕ) (P : Way → ℕ → Type 0) (old new : List Exit) (reduced : List (List Bool)) → GrowsBy P old new
    → AreExitsFor g graph s old → (q : Control) → AsksExits g P q → IsBackIn g graph s q → IsIncluded g new reduced q
asked_taken g graph s P old new reduced grows places (Reading t) asks placed = absurd asks
asked_taken g graph s P old new reduced grows places (Dropping p zero t) asks placed = absurd asks
asked_taken g graph s P old new reduced grows places (Dropping p (suc left) t) asks placed =
    grows.more (Reduction p left) t (tokens_len g) asks (places.cores p left placed.0) places.room placed.1
asked_taken g graph s P old new reduced grows places Done asks placed =
    grows.more Acceptance (end_token g) (tokens_len g) asks places.accepted places.room (omega arith)

pub exits_find : (g : Grammar) (P : Way → ℕ → Type 0) (Q : Control → Type 0) (old new : Found) → GrowsBy P old.exits new.exits
    → new.reduced.items ≡ old.reduced.items → new.followed.items ≡ old.followed.items → ((q : Control) → Q q → AsksExits g P q) → FindsAll g Q old new
exits_find g P Q old new grows same_reduced same_followed asks = record {
  room = λ graph s room. record {
    exits = places_kept g graph s P old.exits new.exits grows room.exits;
    reduced = subst (HaveRoomFor g) (sym same_reduced) room.reduced;
    followed = subst (HaveRoomFor g) (sym same_followed) room.followed;
  };
  kept = taken_kept g P old.exits new.exits old.reduced.items new.reduced.items grows (λ r t h.
      subst (λ (l : List (List Bool)). IsTrue (has (tokens_by l r) t)) (sym same_reduced) h);
  more = λ graph s q room h placed. asked_taken g graph s P old.exits new.exits new.reduced.items grows room.exits q (asks q h) placed;
}

-- sets of tokens grow
pub room_grown : (g : Grammar) (old new : List (List Bool)) → KeepRoom old new → HaveRoomFor g old → HaveRoomFor g new
room_grown g old new keeps room r low = keeps r ∙ room r low

sets_kept : (g : Grammar) (exits exits' : List Exit) (old new : List (List Bool)) → exits' ≡ exits → ((r t : ℕ) → IsTrue (has (tokens_by old r) t) → IsTrue (has (tokens_by new r) t))
    → (q : Control) → IsIncluded g exits old q → IsIncluded g exits' new q
sets_kept g exits exits' old new same sets (Reading t) h = h
sets_kept g exits exits' old new same sets (Dropping p zero t) h = sets (rule_of g p) t h
sets_kept g exits exits' old new same sets (Dropping p (suc left) t) h = subst (λ (l : List Exit). HasLookahead l (Reduction p left) t) (sym same) h
sets_kept g exits exits' old new same sets Done h = subst (λ (l : List Exit). HasLookahead l Acceptance (end_token g)) (sym same) h

asked_set : (g : Grammar) (graph : Graph) (s : ℕ) (P : ℕ → ℕ → Type 0) (exits : List Exit) (old new : List (List Bool)) → SetsGrowBy P old new → HaveRoomFor g old → (q : Control) → AsksSets g P q → IsBackIn g graph s q → IsIncluded g exits new q
asked_set g graph s P exits old new grows room (Reading t) asks placed = absurd asks
asked_set g graph s P exits old new grows room (Dropping p zero t) asks placed =
    let asked = asks placed.0 in
    let long = room (rule_of g p) asked.1 in
    let low = placed.1 in
    grows.more (rule_of g p) t asked.0 (omega (arith, long, low))
asked_set g graph s P exits old new grows room (Dropping p (suc left) t) asks placed = absurd asks
asked_set g graph s P exits old new grows room Done asks placed = absurd asks

pub sets_find : (g : Grammar) (P : ℕ → ℕ → Type 0) (Q : Control → Type 0) (old new : Found) → new.exits ≡ old.exits → SetsGrowBy P old.reduced.items new.reduced.items → new.followed.items ≡ old.followed.items
    → ((q : Control) → Q q → AsksSets g P q) → FindsAll g Q old new
sets_find g P Q old new same_exits grows same_followed asks = record {
  room = λ graph s room. record {
    exits = subst (AreExitsFor g graph s) (sym same_exits) room.exits;
    reduced = room_grown g old.reduced.items new.reduced.items grows.room room.reduced;
    followed = subst (HaveRoomFor g) (sym same_followed) room.followed;
  };
  kept = sets_kept g old.exits new.exits old.reduced.items new.reduced.items same_exits grows.kept;
  more = λ graph s q room h placed. asked_set g graph s P new.exits old.reduced.items new.reduced.items grows room.reduced q (asks q h) placed;
}

-- the tokens of a rule are replaced by more of them
pub tokens_grow : (sets : List (List Bool)) (i : ℕ) (new : List Bool) (P : ℕ → Type 0) → i < length sets → AddsAll P (tokens_by sets i) new
    → SetsGrowBy (λ r t. (r ≡ i) × P t) sets (set sets i new)
tokens_grow sets i new P low adds =
    let now : tokens_by (set sets i new) i ≡ new = tokens_set sets i new low in
    record {
      room = λ r.
          elim (cases_eq r i) as (λ _. length (tokens_by (set sets i new) r) ≡ length (tokens_by sets r)) [
            | inl here ↦
                subst (λ (k : ℕ). length (tokens_by (set sets i new) k) ≡ length (tokens_by sets k)) (sym here) (ap (λ (l : List Bool). length l) now ∙ adds.room)
            | inr other ↦ ap (λ (l : List Bool). length l) (tokens_kept sets i r new other)
          ];
      kept = λ r t h.
          elim (cases_eq r i) as (λ _. IsTrue (has (tokens_by (set sets i new) r) t)) [
            | inl here ↦
                let before : IsTrue (has (tokens_by sets i) t) = subst (λ (k : ℕ). IsTrue (has (tokens_by sets k) t)) here h in
                subst (λ (l : List Bool). IsTrue (has l t)) (sym (ap (tokens_by (set sets i new)) here ∙ now)) (adds.kept t before)
            | inr other ↦ subst (λ (l : List Bool). IsTrue (has l t)) (sym (tokens_kept sets i r new other)) h
          ];
      more = λ r t q less.
          let long : length (tokens_by sets r) ≡ length (tokens_by sets i) = ap (λ (k : ℕ). length (tokens_by sets k)) q.0 in
          subst (λ (l : List Bool). IsTrue (has l t)) (sym (ap (tokens_by (set sets i new)) q.0 ∙ now)) (adds.more t q.1 (omega (arith, long, less)));
    }

-- one set was given more tokens
pub set_grows : (sets : List (List Bool)) (i : ℕ) (old new : List Bool) (P : ℕ → Type 0) → i < length sets → old ≡ get_or sets i old → AddsAll P old new
    → SetsGrowBy (λ r t. (r ≡ i) × P t) sets (set sets i new)
set_grows sets i old new P low there adds =
    let was : tokens_by sets i ≡ old = set_there sets i old low there in
    let now : tokens_by (set sets i new) i ≡ new = tokens_set sets i new low in
    record {
      room = room_kept sets i old new low there adds.room;
      kept = λ r t h.
          elim (cases_eq r i) as (λ _. IsTrue (has (tokens_by (set sets i new) r) t)) [
            | inl here ↦
                let before : IsTrue (has old t) = subst (λ (l : List Bool). IsTrue (has l t)) (ap (tokens_by sets) here ∙ was) h in
                subst (λ (l : List Bool). IsTrue (has l t)) (sym (ap (tokens_by (set sets i new)) here ∙ now)) (adds.kept t before)
            | inr other ↦ subst (λ (l : List Bool). IsTrue (has l t)) (sym (tokens_kept sets i r new other)) h
          ];
      more = λ r t q less.
          let long : length (tokens_by sets r) ≡ length old = ap (λ (l : List Bool). length l) (ap (tokens_by sets) q.0 ∙ was) in
          subst (λ (l : List Bool). IsTrue (has l t)) (sym (ap (tokens_by (set sets i new)) q.0 ∙ now)) (adds.more t q.1 (omega (arith, long, less)));
    }

-- and past the last set there is no room
pub sets_grow_past : (sets : List (List Bool)) (i : ℕ) (P : ℕ → Type 0) → length sets ≤ i → SetsGrowBy (λ r t. (r ≡ i) × P t) sets sets
sets_grow_past sets i P past = record {
  room = λ r. refl;
  kept = λ r t h. h;
  more = λ r t q less.
      let none : length (tokens_by sets r) ≡ 0 = ap (λ (l : List Bool). length l) (ap (tokens_by sets) q.0 ∙ none_past sets i past) in
      absurd (omega (arith, none, less));
}

pub sets_grow_none : (P : ℕ → ℕ → Type 0) (sets : List (List Bool)) → ((r t : ℕ) → ¬ (P r t)) → SetsGrowBy P sets sets
sets_grow_none P sets none = record { room = λ r. refl; kept = λ r t h. h; more = λ r t q less. absurd (none r t q) }

-- findings in steps
pub finds_none : (g : Grammar) (Q : Control → Type 0) (found : Found) → ((q : Control) → ¬ (Q q)) → FindsAll g Q found found
finds_none g Q found none = record { room = λ graph s h. h; kept = λ q h. h; more = λ graph s q room h placed. absurd (none q h) }

pub finds_then : (g : Grammar) (P Q R : Control → Type 0) (first now next : Found) → ((q : Control) → R q → P q ⊎ Q q) → FindsAll g P first now → FindsAll g Q now next
    → FindsAll g R first next
finds_then g P Q R first now next which one two = record {
  room = λ graph s h. two.room graph s (one.room graph s h);
  kept = λ q h. two.kept q (one.kept q h);
  more = λ graph s q room h placed.
      elim (which q h) as (λ _. IsFoundIn g next q) [
        | inl p ↦ two.kept q (one.more graph s q room p placed)
        | inr r ↦ two.more graph s q (one.room graph s room) r placed
      ];
}

pub finds_by : (g : Grammar) (P Q : Control → Type 0) (old new : Found) → ((q : Control) → Q q → P q) → FindsAll g P old new → FindsAll g Q old new
finds_by g P Q old new by finds = record {
  room = finds.room;
  kept = finds.kept;
  more = λ graph s q room h placed. finds.more graph s q room (by q h) placed;
}

-- a control that drops some states
pub asks_dropped : (g : Grammar) (P : Way → ℕ → Type 0) (p symbols t : ℕ) (q : Control) → symbols ≢ 0 → q ≡ Dropping p symbols t → P (Reduction p (symbols - 1)) t
    → AsksExits g P q
asks_dropped g P p symbols t q some is asks =
    let one : suc (symbols - 1) ≡ symbols = omega (arith, some) in
    subst (AsksExits g P) (sym is) (subst (λ (n : ℕ). AsksExits g P (Dropping p n t)) one asks)

pub asks_here : (g : Grammar) (P : ℕ → ℕ → Type 0) (p t : ℕ) (q : Control) → q ≡ Dropping p 0 t → (p < prods_len g → P (rule_of g p) t × (rule_of g p < rules_len g)) → AsksSets g P q
asks_here g P p t q is asks = subst (AsksSets g P) (sym is) asks

pub asks_done : (g : Grammar) (P : Way → ℕ → Type 0) (q : Control) → q ≡ Done → P Acceptance (end_token g) → AsksExits g P q
asks_done g P q is asks = subst (AsksExits g P) (sym is) asks

-- the controls of one way
pub accepted_among : (g : Grammar) (way : Way) (tokens : List Bool) → way ≡ Acceptance → (q : Control) → IsAmong g (λ w t. (w ≡ way) × IsTrue (has tokens t)) q
    → AsksExits g (λ w t. (w ≡ Acceptance) × IsTrue (has tokens t)) q
accepted_among g way tokens is (Reading t) h = h
accepted_among g way tokens is (Dropping p left t) h = absurd (let no : Reduction p left ≡ Acceptance = h.0 ∙ is in let none : ⊥ = cc in none)
accepted_among g way tokens is Done h = (refl, h.1)

pub dropped_among : (g : Grammar) (way : Way) (tokens : List Bool) (prod left : ℕ) → way ≡ Reduction prod left → (q : Control)
    → IsAmong g (λ w t. (w ≡ way) × IsTrue (has tokens t)) q → (t : ℕ) × IsTrue (has tokens t) × (q ≡ Dropping prod left t)
dropped_among g way tokens prod left is (Reading t) h = absurd h
dropped_among g way tokens prod left is (Dropping p k t) h =
    let same : Reduction p k ≡ Reduction prod left = h.0 ∙ is in
    let prods : p ≡ prod = cc in
    let lefts : k ≡ left = cc in
    (t, h.1, ap (λ (n : ℕ). Dropping n k t) prods ∙ ap (λ (n : ℕ). Dropping prod n t) lefts)
dropped_among g way tokens prod left is Done h = absurd (let no : Acceptance ≡ Reduction prod left = h.0 ∙ is in let none : ⊥ = cc in none)

by_way : (exits : List Exit) (place : ℕ) (exit : Exit) (way : Way) (t : ℕ) → slice_get exits place ≡ Some exit → SomeHasLookahead (take (place + 1) exits) way t
    → SomeHasLookahead (take place exits) way t ⊎ ((way ≡ exit.way) × IsTrue (has exit.tokens t))
by_way exits place exit way t there h =
    elim (some_more exits place exit way t there h) as (λ _. SomeHasLookahead (take place exits) way t ⊎ ((way ≡ exit.way) × IsTrue (has exit.tokens t))) [
      | inl was ↦ inl was
      | inr here ↦ inr (sym here.0, here.1)
    ]

-- the exits above, one after another
pub among_more : (g : Grammar) (exits : List Exit) (place : ℕ) (exit : Exit) → slice_get exits place ≡ Some exit → (q : Control)
    → IsAmong g (SomeHasLookahead (take (place + 1) exits)) q
    → IsAmong g (SomeHasLookahead (take place exits)) q ⊎ IsAmong g (λ w t. (w ≡ exit.way) × IsTrue (has exit.tokens t)) q
among_more g exits place exit there (Reading t) h = absurd h
among_more g exits place exit there (Dropping p left t) h = by_way exits place exit (Reduction p left) t there h
among_more g exits place exit there Done h = by_way exits place exit Acceptance (end_token g) there h

pub among_none : (g : Grammar) (exits : List Exit) (q : Control) → ¬ (IsAmong g (SomeHasLookahead (take 0 exits)) q)
among_none g exits (Reading t) h = h
among_none g exits (Dropping p left t) h = let low = h.1.1 in omega (arith, low)
among_none g exits Done h = let low = h.1.1 in omega (arith, low)
