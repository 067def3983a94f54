-- What follows for a state, when nothing is left out.
use Rattle.std.proofs.Common.{◌≡◌, ◌≢◌, ◌≤◌, ◌+◌, ◌-◌, ◌∙◌, inl, inr, refl, sym, ap, subst, arith, ℕ, Bool, true, false, List, [], Some, length, slice_get}
use Rattle.std.specs.Prelude.{IsTrue}
use Rattle.std.specs.Bool.{OnFalse}
use Rattle.std.proofs.lemmas.Bool.{cases_lt}
use Rattle.std.proofs.lemmas.Option.{same_Some, slice_get_within}
use Rattle.lrpar_grammar_places.specs.declared.span.RIdx.{RIdx}
use Rattle.lrpar_grammar_places.specs.declared.span.StIdx.{StIdx}
use Rattle.lrpar_grammar_places.specs.declared.span.TIdx.{TIdx}
use Rattle.lrpar_table_pops.specs.Entries.{AreAllRulesOf, AreAllTokensOf}
use Rattle.lrpar_grammar.specs.Grammar.{Grammar, end_token, prod_len}
use Rattle.lrpar_grammar.specs.Tokens.{has}
use Rattle.lrpar_table_rows.specs.Graph.{Graph}
use Rattle.lrpar_table_rows.specs.Table.{Fails, ReduceBy, Table, action_of, goto_of}
use Rattle.lrpar_table_pops.specs.Closed.{FollowsIn, IsIncluded}
use Rattle.lrpar_table_pops.specs.FollowAll.{AreAllDone, AreRightActions, AreRulesDone, AreTokensDone, IsRuleDone, KeepsFollowing}
use Rattle.lrpar_table_pops.specs.FoundAll.{FindsAll, FollowsOnly, AreExitsFor, HasRoomFor, IsAmong, IsDone, IsFoundIn, IsUnchanged}
use Rattle.lrpar_table_pops.specs.Growth.{HaveRoomFor, IsStored, KeepRoom, SomeHasLookahead}
use Rattle.lrpar_table_pops.specs.Pops.{Control, Done, Dropping, Reading}
use Rattle.lrpar_table_pops.specs.Sets.{tokens_by}
use Rattle.lrpar_table_pops.specs.StoredPops.{at_of}
use Rattle.lrpar_table_pops.specs.declared.exits.Exit.{Exit}
use Rattle.lrpar_table_pops.specs.declared.exits.Way.TheVariants.{Acceptance, Reduction}
use Rattle.lrpar_table_pops.specs.declared.found.Found.{Found}
use Rattle.lrpar_table_pops.specs.declared.pops.StateExits.{StateExits}
use Rattle.lrpar_table_pops.proofs.FoundAllLemmas.{finds_by, finds_none, room_grown}
use Rattle.lrpar_table_pops.proofs.GrowthLemmas.{some_has}

-- a control of a stored exit is among the exits
pub stored_among : (g : Grammar) (exits : List Exit) (q : Control) → IsStored g exits q → IsAmong g (SomeHasLookahead exits) q
stored_among g exits (Reading t) h = h
stored_among g exits (Dropping p left t) h = some_has exits (Reduction p left) t h
stored_among g exits Done h = some_has exits Acceptance (end_token g) h

-- no exits
pub stored_none : (g : Grammar) (exits : List Exit) (q : Control) → exits ≡ [] → ¬ (IsStored g exits q)
stored_none g exits (Reading t) none h = h
stored_none g exits (Dropping p left t) none h = no_lookahead exits none h.0 h.1 h.2
  where
    no_lookahead : (l : List Exit) → l ≡ [] → (i : ℕ) (e : Exit) → slice_get l i ≡ Some e → ⊥
    no_lookahead l is i e at = let low = slice_get_within l i e at in let long = ap (λ (x : List Exit). length x) is in omega (arith, low, long)
stored_none g exits Done none h = let low = slice_get_within exits h.0 h.1 h.2 in let long = ap (λ (x : List Exit). length x) none in omega (arith, low, long)

-- exits that are found, or none
pub stored_find : (g : Grammar) (exits above : List Exit) (old new : Found) → above ≡ exits → FindsAll g (IsAmong g (SomeHasLookahead above)) old new
    → FindsAll g (IsStored g exits) old new
stored_find g exits above old new same finds =
    finds_by g (IsAmong g (SomeHasLookahead above)) (IsStored g exits) old new
    (λ q h. subst (λ (l : List Exit). IsAmong g (SomeHasLookahead l) q) (sym same) (stored_among g exits q h)) finds

pub stored_find_none : (g : Grammar) (exits : List Exit) (found : Found) → exits ≡ [] → FindsAll g (IsStored g exits) found found
stored_find_none g exits found none = finds_none g (IsStored g exits) found (λ q h. stored_none g exits q none h)

-- a reduction with symbols, and one without
pub dropped_follows : (g : Grammar) (states : List StateExits) (next t p len : ℕ) (old new : Found) → len ≡ prod_len g p → len ≢ 0
    → FindsAll g (λ q. q ≡ Dropping p (len - 1) t) old new → FindsAll g (FollowsIn g states next t (ReduceBy p)) old new
dropped_follows g states next t p len old new is some finds =
    finds_by g (λ q. q ≡ Dropping p (len - 1) t) (FollowsIn g states next t (ReduceBy p)) old new (λ q h.
    elim h as (λ _. q ≡ Dropping p (len - 1) t) [
      | inl none ↦ let zero_len = none.0 in absurd (some (omega (arith, is, zero_len)))
      | inr more ↦
          let all = more.1 in
          let lefts : more.0 ≡ len - 1 = omega (arith, is, all) in
          more.2 ∙ ap (λ (n : ℕ). Dropping p n t) lefts
    ]) finds

-- what was found, and nothing was added
found_same : (g : Grammar) (old new : Found) → new.exits ≡ old.exits → new.reduced.items ≡ old.reduced.items → (q : Control) → IsFoundIn g old q → IsFoundIn g new q
found_same g old new exits reduced q h =
    subst (λ (l : List Exit). IsIncluded g l new.reduced.items q) (sym exits) (subst (λ (l : List (List Bool)). IsIncluded g old.exits l q) (sym reduced) h)

module _ (g : Grammar) (graph : Graph) (table : Table) (pops : List StateExits) (s : ℕ) where
  pub unchanged_keeps : (old new : Found) → IsUnchanged old new → KeepsFollowing g graph table pops s old new
  unchanged_keeps old new same = record {
    kept = found_same g old new same.0 same.1;
    room = λ room. record {
      exits = subst (AreExitsFor g graph s) (sym same.0) room.exits;
      reduced = subst (HaveRoomFor g) (sym same.1) room.reduced;
      followed = subst (HaveRoomFor g) (sym same.2) room.followed;
    };
    following = λ room before rule t next q has_it goto follows placed.
        found_same g old new same.0 same.1 q
        (before rule t next q (subst (λ (l : List (List Bool)). IsTrue (has (tokens_by l rule) t)) same.2 has_it) goto follows placed);
  }

  pub keeps_same : (found : Found) → KeepsFollowing g graph table pops s found found
  keeps_same found = unchanged_keeps found found (refl, refl, refl)

  pub keeps_then : (first now next : Found) → KeepsFollowing g graph table pops s first now → KeepsFollowing g graph table pops s now next
      → KeepsFollowing g graph table pops s first next
  keeps_then first now next one two = record {
    kept = λ q h. two.kept q (one.kept q h);
    room = λ room. two.room (one.room room);
    following = λ room before. two.following (one.room room) (one.following room before);
  }

  -- a goto was followed at a token
  pub followed_keeps : (rule next t : ℕ) (old now new : Found) → AreRightActions g table → goto_of table s rule ≡ Some next → now.exits ≡ old.exits
      → now.reduced.items ≡ old.reduced.items → KeepRoom old.followed.items now.followed.items → FollowsOnly rule t old now
      → new.followed.items ≡ now.followed.items → FindsAll g (FollowsIn g pops next t (action_of table next t)) now new
      → KeepsFollowing g graph table pops s old new
  followed_keeps rule next t old now new right goto exits reduced keeps only same finds =
      let room_now : HasRoomFor g graph s old → HasRoomFor g graph s now = λ room. record {
        exits = subst (AreExitsFor g graph s) (sym exits) room.exits;
        reduced = subst (HaveRoomFor g) (sym reduced) room.reduced;
        followed = room_grown g old.followed.items now.followed.items keeps room.followed;
      } in
      record {
        kept = λ q h. finds.kept q (found_same g old now exits reduced q h);
        room = λ room. finds.room graph s (room_now room);
        following = λ room before r u n q has_it goes follows placed.
            let had : IsTrue (has (tokens_by now.followed.items r) u) = subst (λ (l : List (List Bool)). IsTrue (has (tokens_by l r) u)) same has_it in
            elim (only r u had) as (λ _. IsFoundIn g new q) [
              | inl was ↦ finds.kept q (found_same g old now exits reduced q (before r u n q was goes follows placed))
              | inr this ↦
                  let to : n ≡ next = same_Some n next (sym goes ∙ ap (goto_of table s) this.0 ∙ goto) in
                  let at : FollowsIn g pops next t (action_of table next t) q =
                  subst (λ (m : ℕ). FollowsIn g pops m t (action_of table m t) q) to (subst (λ (v : ℕ). FollowsIn g pops n v (action_of table n v) q) this.1 follows) in
                  finds.more graph s q (room_now room) at placed
            ];
      }

-- what is done stays so
pub done_same : (old new : Found) (rule t : ℕ) → IsUnchanged old new → IsDone new rule t → IsDone old rule t
done_same old new rule t same done reduced low =
    let now_reduced : IsTrue (has (tokens_by new.reduced.items rule) t) = subst (λ (l : List (List Bool)). IsTrue (has (tokens_by l rule) t)) (sym same.1) reduced in
    let long : length (tokens_by new.followed.items rule) ≡ length (tokens_by old.followed.items rule) = ap (λ (l : List (List Bool)). length (tokens_by l rule)) same.2 in
    subst (λ (l : List (List Bool)). IsTrue (has (tokens_by l rule) t)) same.2 (done now_reduced (omega (arith, low, long)))

pub done_on : (old new : Found) (rule t : ℕ) → IsUnchanged old new → IsDone old rule t → IsDone new rule t
done_on old new rule t same done = done_same new old rule t (sym same.0, sym same.1, sym same.2) done

pub unchanged_then : (first now next : Found) → IsUnchanged first now → IsUnchanged now next → IsUnchanged first next
unchanged_then first now next one two = (two.0 ∙ one.0, two.1 ∙ one.1, two.2 ∙ one.2)

-- facts that hold if nothing was due
pub on_false_both : {P Q R : Type 0} (b : Bool) → OnFalse b P → OnFalse b Q → (P → Q → R) → OnFalse b R
on_false_both true p q f = tt
on_false_both false p q f = f p q

-- one more token, and one more rule
pub tokens_done_more : {S : Type 0} (index : S → ℕ) (tokens : List (TIdx S)) (place rule : ℕ) (token : TIdx S) (first now : Found) → slice_get tokens place ≡ Some token
    → IsUnchanged first now → AreTokensDone index tokens place rule first → IsDone now rule (index token.0) → AreTokensDone index tokens (place + 1) rule first
tokens_done_more {S} index tokens place rule token first now there same before here i other low at =
    elim (cases_lt i place) as (λ _. IsDone first rule (index other.0)) [
      | inl less ↦ before i other less at
      | inr past ↦
          let last : i ≡ place = omega (arith, low, past) in
          let one : other ≡ token = same_Some other token (sym at ∙ ap (slice_get tokens) last ∙ there) in
          subst (λ (x : TIdx S). IsDone first rule (index x.0)) (sym one) (done_same first now rule (index token.0) same here)
    ]

pub rules_done_more : {S : Type 0} (index : S → ℕ) (table : Table) (s : ℕ) (rules : List (RIdx S)) (place : ℕ) (rule : RIdx S) (next : StIdx S) (first now : Found)
    → slice_get rules place ≡ Some rule → goto_of table s (index rule.0) ≡ Some (index next.0) → IsUnchanged first now → AreRulesDone index table s rules place first
    → IsRuleDone index table (index rule.0) next now → AreRulesDone index table s rules (place + 1) first
rules_done_more {S} index table s rules place rule next first now there goto same before here i other to t low at goes acts =
    elim (cases_lt i place) as (λ _. IsDone first (index other.0) t) [
      | inl less ↦ before i other to t less at goes acts
      | inr past ↦
          let last : i ≡ place = omega (arith, low, past) in
          let one : other ≡ rule = same_Some other rule (sym at ∙ ap (slice_get rules) last ∙ there) in
          let way : to ≡ index next.0 = same_Some to (index next.0) (sym goes ∙ ap (λ (x : RIdx S). goto_of table s (index x.0)) one ∙ goto) in
          let there_acts : action_of table (index next.0) t ≢ Fails = subst (λ (n : ℕ). action_of table n t ≢ Fails) way acts in
          subst (λ (x : RIdx S). IsDone first (index x.0) t) (sym one) (done_same first now (index rule.0) t same (here t there_acts))
    ]

-- all tokens, and all rules
pub tokens_done_all : {S : Type 0} (index : S → ℕ) (table : Table) (next : StIdx S) (tokens : List (TIdx S)) (place rule : ℕ) (found : Found) → length tokens ≤ place
    → AreAllTokensOf index table next tokens → AreTokensDone index tokens place rule found → IsRuleDone index table rule next found
tokens_done_all index table next tokens place rule found end all done t acts =
    let h = all t acts in
    let low = slice_get_within tokens h.0 h.1 h.2 in
    subst (IsDone found rule) h.3 (done h.0 h.1 (omega (arith, low, end)) h.2)

pub rules_done_all : {S : Type 0} (index : S → ℕ) (table : Table) (s : StIdx S) (rules : List (RIdx S)) (place : ℕ) (found : Found) → length rules ≤ place
    → AreAllRulesOf index table s rules → AreRulesDone index table (index s.0) rules place found → AreAllDone table (index s.0) found
rules_done_all index table s rules place found end all done rule next t goto acts =
    let h = all rule next goto in
    let low = slice_get_within rules h.0 h.1 h.2 in
    let goes : goto_of table (index s.0) (index h.1.0) ≡ Some next = ap (goto_of table (index s.0)) h.3 ∙ goto in
    subst (λ (r : ℕ). IsDone found r t) h.3 (done h.0 h.1 next t (omega (arith, low, end)) h.2 goes acts)

pub all_done_on : (table : Table) (s : ℕ) (old new : Found) → IsUnchanged old new → AreAllDone table s old → AreAllDone table s new
all_done_on table s old new same done rule next t goto acts = done_on old new rule t same (done rule next t goto acts)

pub kept_follows : (g : Grammar) (states : List StateExits) (next t p len : ℕ) (old new : Found) → len ≡ prod_len g p → len ≡ 0
    → FindsAll g (IsStored g (at_of states next t)) old new → FindsAll g (FollowsIn g states next t (ReduceBy p)) old new
kept_follows g states next t p len old new is none finds =
    finds_by g (IsStored g (at_of states next t)) (FollowsIn g states next t (ReduceBy p)) old new (λ q h.
    elim h as (λ _. IsStored g (at_of states next t) q) [
      | inl kept ↦ kept.1
      | inr more ↦ let all = more.1 in absurd (omega (arith, is, all, none))
    ]) finds

-- the actions that lead to one control
pub accept_finds : (g : Grammar) (token : ℕ) (old new : Found) → token ≡ end_token g → FindsAll g (λ q. (q ≡ Done) × (token ≡ end_token g)) old new
    → FindsAll g (λ q. q ≡ Done) old new
accept_finds g token old new end finds = finds_by g (λ q. (q ≡ Done) × (token ≡ end_token g)) (λ q. q ≡ Done) old new (λ q is. (is, end)) finds

pub same_finds : (g : Grammar) (control other : Control) (old new : Found) → other ≡ control → FindsAll g (λ q. q ≡ control) old new → FindsAll g (λ q. q ≡ other) old new
same_finds g control other old new same finds = finds_by g (λ q. q ≡ control) (λ q. q ≡ other) old new (λ q is. is ∙ same) finds
