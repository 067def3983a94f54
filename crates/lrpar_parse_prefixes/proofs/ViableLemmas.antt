-- What runs feed, expect and refuse, by sentences. The stack spells the tokens that were fed before a place, and also one token
-- more if that is fed: sentences begin with both. Over a complete table the run over a sentence goes on to its end. So the tokens
-- with which a sentence goes on may come next; and no sentence begins with the tokens up to and including the one at the error
-- point.
use Rattle.std.proofs.Common.{◌≡◌, ◌≤◌, ◌+◌, inl, inr, refl, sym, ap, subst, arith, ℕ, List, [], ◌∷◌, ◌++◌, length, map, take}
use Rattle.std.proofs.lemmas.List.{append_assoc, take-map}
use Rattle.lrpar_grammar.specs.Grammar.{Grammar, IsWellFormed, end_token}
use Rattle.lrpar_table_rows.specs.Graph.{Graph}
use Rattle.lrpar_table_rows.specs.Safe.{IsSafe}
use Rattle.lrpar_table_rows.specs.Table.{IsClosed, Table}
use Rattle.lrpar_table_conditions.specs.Complete.{IsComplete}
use Rattle.lrpar_table_check.specs.CompleteRuns.{RunsTo}
use Rattle.lrpar_table_stacks.specs.Expected.{IsExpected}
use Rattle.lrpar_table_check.specs.ExpectedRuns.{FeedsFront}
use Rattle.lrpar_table_stacks.specs.Run.{Accepted, Comes, Far, FarEnd, Stop, Stopped, accepts, comes_on, goes_on, stays, stops}
use Rattle.lrpar_table_check.proofs.ExpectedRunLemmas.{checked_tables_end_at_sentences, complete_tables_expect_sentences}
use Rattle.lrpar_table_stacks.proofs.RunLemmas.{runs_one_way}
use Rattle.lrpar_table_check.proofs.SentenceLemmas.{complete_tables_take_sentences}
use Rattle.lrpar_table_sentences.specs.Reachable.{EachReachableHasTree}
use Rattle.lrpar_table_viable.specs.Viable.{IsViable}
use Rattle.lrpar_parse_prefixes.specs.Viable.{AreSentence, BeginSentence, CanFollow, GoWrongAt}
use Rattle.lrpar_parse_prefixes.specs.ViableLaws.{BuiltTablesKeepToSentences, CompleteBuiltTablesFollowSentences, CompleteViableTablesFollowSentences, ViableTablesKeepToSentences}
use Rattle.lrpar_table.proofs.ViableLemmas.{built_tables_are_viable}
use Rattle.lrpar_parse_prefixes.proofs.SpelledLemmas.{never, run_spells, spelled_begin, spells_fed}
use Rattle.lrpar_parse_prefixes.proofs.TokenLemmas.{comes_by_tokens, far_by_tokens}

-- a run that stops comes to its error point, which is the place of a lexeme or the end
record StopsAt (g : Grammar) (table : Table) (tokens st : List ℕ) (i place : ℕ) : Type 0 where
  pub within : place ≤ length tokens
  pub prods : List ℕ
  pub stack : List ℕ
  pub comes : Comes (λ (t : ℕ). t) g table tokens st i prods stack place

stops_at : (g : Grammar) (table : Table) (tokens st : List ℕ) (i : ℕ) (ps : List ℕ) (end : FarEnd) (stop : Stop)
    → Far (λ (t : ℕ). t) g table tokens st i ps end → end ≡ Stopped stop → StopsAt g table tokens st i stop.place
stops_at g table tokens _ _ _ _ stop (goes_on st i ps qs next end within first rest) is =
    let on = stops_at g table tokens next (i + 1) qs end stop rest is in
    record {
      within = on.within;
      prods = ps ++ on.prods;
      stack = on.stack;
      comes = comes_on st i ps on.prods next on.stack stop.place within first on.comes;
    }
stops_at g table tokens _ _ _ _ stop (accepts st i ps settled at_end settles accepted) is =
    let no : Accepted ≡ Stopped stop = is in absurd (let none : ⊥ = cc in none)
stops_at g table tokens _ _ _ _ stop (stops st i ps settled fits settles stuck) is =
    let same : record { stack = settled; place = i } ≡ stop = cc in
    let place : i ≡ stop.place = ap (λ (s : Stop). s.place) same in
    record {
      within = omega (arith, fits, place);
      prods = [];
      stack = st;
      comes = subst (λ (n : ℕ). Comes (λ (t : ℕ). t) g table tokens st i [] st n) place (stays st i);
    }

module _ (g : Grammar) (graph : Graph) (table : Table) (well : IsWellFormed g) (closed : IsClosed table) (safe : IsSafe g graph table)
    (complete : IsComplete g graph table) where
  -- what can come next may
  pub follows_next : (tokens st : List ℕ) (i t : ℕ) → FeedsFront (λ (t : ℕ). t) g table tokens i st → CanFollow g (take i tokens) t
      → IsExpected g table st t
  follows_next tokens st i t fed can =
      let expects = complete_tables_expect_sentences (λ (t : ℕ). t) g graph table well closed safe complete in
      elim can as (λ _. IsExpected g table st t) [
        | inl begins ↦
            expects.next tokens i st fed t begins.0
            (subst (AreSentence g) (append_assoc (take i tokens) (t ∷ []) begins.0) begins.1)
        | inr ends ↦ subst (IsExpected g table st) (sym ends.0) ((expects.end tokens i st fed).1 ends.1)
      ]

module _ (g : Grammar) (graph : Graph) (table : Table) (well : IsWellFormed g) (closed : IsClosed table) (safe : IsSafe g graph table)
    (viable : IsViable g graph table) (each : EachReachableHasTree g) where
  -- a sentence begins with what is fed
  fed_begins : (tokens st : List ℕ) (i : ℕ) → FeedsFront (λ (t : ℕ). t) g table tokens i st → BeginSentence g (take i tokens)
  fed_begins tokens st i fed =
      spelled_begin g graph table well closed safe viable each st (take i tokens)
      (run_spells g table (never g graph table well closed safe) tokens fed.0 st i fed.1)

  -- and with a token more that may come next
  next_follows : (tokens st : List ℕ) (i t : ℕ) → FeedsFront (λ (t : ℕ). t) g table tokens i st → IsExpected g table st t
      → CanFollow g (take i tokens) t
  next_follows tokens st i t fed expected =
      elim expected as (λ _. CanFollow g (take i tokens) t) [
        | inl feeds ↦
            let sticks_never = never g graph table well closed safe in
            let spells = run_spells g table sticks_never tokens fed.0 st i fed.1 in
            inl (spelled_begin g graph table well closed safe viable each feeds.1.1 (take i tokens ++ t ∷ [])
            (spells_fed g table sticks_never t st feeds.1.0 feeds.1.1 (take i tokens) spells feeds.1.2))
        | inr ends ↦
            let here : IsExpected g table st (end_token g) = inr (refl, ends.1) in
            inr (ends.0, checked_tables_end_at_sentences (λ (t : ℕ). t) g graph table well closed safe tokens i st fed here)
      ]

  -- and with the lexemes before an error point
  stop_begins : (tokens prods : List ℕ) (stop : Stop) → RunsTo (λ (t : ℕ). t) g table tokens prods (Stopped stop)
      → BeginSentence g (take stop.place tokens)
  stop_begins tokens prods stop runs =
      let at = stops_at g table tokens (table.start ∷ []) 0 prods (Stopped stop) stop runs refl in
      fed_begins tokens at.stack stop.place (at.prods, at.comes)

  module _ (complete : IsComplete g graph table) where
    -- the error point of a run is the place at which its tokens go wrong
    stops_wrong : (tokens prods : List ℕ) (stop : Stop) → RunsTo (λ (t : ℕ). t) g table tokens prods (Stopped stop) → GoWrongAt g tokens stop.place
    stops_wrong tokens prods stop runs =
        let takes = complete_tables_take_sentences (λ (t : ℕ). t) g graph table well closed safe complete in
        record {
          within = (stops_at g table tokens (table.start ∷ []) 0 prods (Stopped stop) stop runs refl).within;
          front = stop_begins tokens prods stop runs;
          wrong = λ inside begins. takes.prefix tokens prods stop runs inside begins.0 begins.1;
          unfinished = λ _ sentence.
              let run = (takes.exact tokens).0 sentence in
              let same = runs_one_way (λ (t : ℕ). t) g table tokens (table.start ∷ []) 0 prods run.0 (Stopped stop) Accepted runs run.1 in
              let no : Stopped stop ≡ Accepted = same.1 in cc;
        }

module _ {X : Type 0} (token : X → ℕ) (g : Grammar) (table : Table) (lexemes : List X) where
  -- a run over lexemes feeds their tokens
  pub fed_by_tokens : (i : ℕ) (st : List ℕ) → FeedsFront token g table lexemes i st → FeedsFront (λ (t : ℕ). t) g table (map token lexemes) i st
  fed_by_tokens i st fed = (fed.0, comes_by_tokens token g table lexemes (table.start ∷ []) 0 fed.0 st i fed.1)

  -- the tokens of the first lexemes are the first tokens
  pub front_tokens : (i : ℕ) → take i (map token lexemes) ≡ map token (take i lexemes)
  front_tokens i = take-map token i lexemes

pub viable_tables_keep_to_sentences : {X : Type 0} → ViableTablesKeepToSentences X
viable_tables_keep_to_sentences {X} token g graph table well closed safe viable each = record {
  fed = λ lexemes i st fed.
      subst (BeginSentence g) (front_tokens token g table lexemes i)
      (fed_begins g graph table well closed safe viable each (map token lexemes) st i (fed_by_tokens token g table lexemes i st fed));
  next = λ lexemes i st fed t expected.
      subst (λ (front : List ℕ). CanFollow g front t) (front_tokens token g table lexemes i)
      (next_follows g graph table well closed safe viable each (map token lexemes) st i t (fed_by_tokens token g table lexemes i st fed) expected);
  stop = λ lexemes prods stop runs.
      subst (BeginSentence g) (front_tokens token g table lexemes stop.place)
      (stop_begins g graph table well closed safe viable each (map token lexemes) prods stop
      (far_by_tokens token g table lexemes (table.start ∷ []) 0 prods (Stopped stop) runs));
}

pub complete_viable_tables_follow_sentences : {X : Type 0} → CompleteViableTablesFollowSentences X
complete_viable_tables_follow_sentences {X} token g graph table well closed safe viable each complete = record {
  next = λ lexemes i st fed t. (
    (viable_tables_keep_to_sentences token g graph table well closed safe viable each).next lexemes i st fed t,
    λ can.
        follows_next g graph table well closed safe complete (map token lexemes) st i t (fed_by_tokens token g table lexemes i st fed)
        (subst (λ (front : List ℕ). CanFollow g front t) (sym (front_tokens token g table lexemes i)) can),
  );
  stop = λ lexemes prods stop runs.
      stops_wrong g graph table well closed safe viable each complete (map token lexemes) prods stop
      (far_by_tokens token g table lexemes (table.start ∷ []) 0 prods (Stopped stop) runs);
}

-- so do those of a table that was built, since it is viable
pub built_tables_keep_to_sentences : {X : Type 0} → BuiltTablesKeepToSentences X
built_tables_keep_to_sentences token g graph table well closed built =
    viable_tables_keep_to_sentences token g graph table well closed built.safe (built_tables_are_viable g graph table built)

pub complete_built_tables_follow_sentences : {X : Type 0} → CompleteBuiltTablesFollowSentences X
complete_built_tables_follow_sentences token g graph table well closed built =
    complete_viable_tables_follow_sentences token g graph table well closed built.safe (built_tables_are_viable g graph table built)
