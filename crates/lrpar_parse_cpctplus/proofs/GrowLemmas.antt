-- How the graph of a search grows. One step adds where it leads, if that is new, and a link, if that is at the distance that is being
-- added; and steps after steps add what both do.
use Rattle.std.proofs.Common.{◌≡◌, ◌≢◌, ◌<◌, ◌≤◌, ◌+◌, ◌∙◌, ◌⊎◌, inl, inr, ℕ, List, [], ◌∷◌, ◌++◌, Some, length, slice_get, refl, sym, subst, ap, ap₂, arith, append-nil, append_assoc}
use Rattle.std.specs.List.{Contains}
use Rattle.std.proofs.lemmas.List.{length_push}
use Rattle.std.proofs.lemmas.List.Elements.{Contains-append_left, Contains-push, Contains-push_cases}
use Rattle.std.proofs.lemmas.Option.{same_Some, slice_get_within}
use Rattle.lrpar_parse_repair.specs.Asked.{Asked}
use Rattle.lrpar_parse_repair.specs.Sequences.{PlainStep}
use Rattle.lrpar_parse_repair.proofs.ReplayLemmas.{replay_one_way}
use Rattle.lrpar_parse_cpctplus.specs.Configurations.{Configured, IsDistance, IsEdge, IsNearer}
use Rattle.lrpar_parse_cpctplus.specs.Graph.{PlainLink}
use Rattle.lrpar_parse_cpctplus.specs.GraphView.{IsKeptFrom, IsNumbered}
use Rattle.lrpar_parse_cpctplus.specs.SearchRound.{CostsAtLeast, Grows, IsDue, IsGrowing, IsPastLimit, IsStepAmong, IsThis}
use Rattle.lrpar_parse_cpctplus.proofs.DistanceLemmas.{configured, distance_nearer, edge_to_new, runs_by}
use Rattle.lrpar_parse_cpctplus.proofs.NumberLemmas.{at_end, at_left, at_within, contains_at, once_push, push_cases}

abbrev pub link_with : ℕ → PlainStep → ℕ → PlainLink
link_with from step to = record { from = from; step = step; to = to }

-- an element has one number, and a number one element
pub one_at : {A : Type 0} (xs : List A) (i : ℕ) (x y : A) → slice_get xs i ≡ Some x → slice_get xs i ≡ Some y → x ≡ y
one_at xs i x y one other = same_Some x y (sym one ∙ other)

module _ {X : Type 0} (token : X → ℕ) (at : Asked X) where
  -- a step leads to one configuration
  pub edge_one : (u v w : Configured) (step : PlainStep) → IsEdge token at u step v → IsEdge token at u step w → v ≡ w
  edge_one u v w step one other =
      let a = runs_by token at u v step one in
      let b = runs_by token at u w step other in
      let same = replay_one_way token at.checked.grammar at.checked.table at.lexemes u.stack u.place (step ∷ []) a.0 v.stack v.place b.0 w.stack w.place a.1 b.1 in
      ap₂ configured same.1 same.2

  -- a step among configurations is one among more
  pub step_left : (nodes more : List Configured) (link : PlainLink) → IsStepAmong token at nodes link → IsStepAmong token at (nodes ++ more) link
  step_left nodes more link h = (h.0, h.1, at_left nodes more link.from h.0 h.2, at_left nodes more link.to h.1 h.3, h.4)

module _ {X : Type 0} (token : X → ℕ) (costs : List ℕ) (at : Asked X) (first c : ℕ) where
  -- nothing is done
  pub grows_none : (Done : ℕ → PlainStep → Type 0) (nodes : List Configured) (links : List PlainLink) → IsGrowing token costs at first c nodes links
      → ((from : ℕ) (step : PlainStep) → ¬ (Done from step)) → Grows token costs at first c Done nodes links nodes links
  grows_none Done nodes links growing none = record {
    growing = growing;
    nodes_stay = ([], sym (append-nil nodes));
    inner = λ from step done. absurd (none from step done);
    reached = λ from step u v done is edge. absurd (none from step done);
    links_stay = λ link h. h;
    links_from = λ link h. inl h;
    links_done = λ link above done among. absurd (none link.from link.step done);
  }

  -- the same steps, said otherwise
  pub grows_same : (Done Other : ℕ → PlainStep → Type 0) (nodes new_nodes : List Configured) (links new_links : List PlainLink)
      → ((from : ℕ) (step : PlainStep) → Done from step → Other from step) → ((from : ℕ) (step : PlainStep) → Other from step → Done from step)
      → Grows token costs at first c Done nodes links new_nodes new_links → Grows token costs at first c Other nodes links new_nodes new_links
  grows_same Done Other nodes new_nodes links new_links there back h = record {
    growing = h.growing;
    nodes_stay = h.nodes_stay;
    inner = λ from step done. h.inner from step (back from step done);
    reached = λ from step u v done is edge. h.reached from step u v (back from step done) is edge;
    links_stay = h.links_stay;
    links_from = λ link there_it.
        elim (h.links_from link there_it) as (λ _. Contains links link ⊎ ((first ≤ link.to) × Other link.from link.step × IsStepAmong token at new_nodes link)) [
          | inl old ↦ inl old
          | inr new ↦ inr (new.0, there link.from link.step new.1, new.2)
        ];
    links_done = λ link above done among. h.links_done link above (back link.from link.step done) among;
  }

  -- what was reached stays
  pub stays_at : (nodes new : List Configured) (n : ℕ) (v : Configured) → (more : List Configured) × (new ≡ nodes ++ more) → slice_get nodes n ≡ Some v
      → slice_get new n ≡ Some v
  stays_at nodes new n v more is = subst (λ (l : List Configured). slice_get l n ≡ Some v) (sym more.1) (at_left nodes more.0 n v is)

  was_at : (nodes new : List Configured) (n : ℕ) (v : Configured) → (more : List Configured) × (new ≡ nodes ++ more) → n < length nodes
      → slice_get new n ≡ Some v → slice_get nodes n ≡ Some v
  was_at nodes new n v more below is = at_within nodes more.0 n v below (subst (λ (l : List Configured). slice_get l n ≡ Some v) more.1 is)

  -- some steps, and then others
  module _ (One Two : ℕ → PlainStep → Type 0) (nodes mid end : List Configured) (links mid_links end_links : List PlainLink)
      (one : Grows token costs at first c One nodes links mid mid_links) (two : Grows token costs at first c Two mid mid_links end end_links) where
    both_reached : (from : ℕ) (step : PlainStep) (u v : Configured) → One from step → slice_get end from ≡ Some u → IsEdge token at u step v
        → (n : ℕ) × (slice_get mid n ≡ Some v)
    both_reached from step u v done is edge =
        one.reached from step u v done (was_at mid end from u two.nodes_stay (one.inner from step done) is) edge

    both_from : (link : PlainLink) → Contains mid_links link
        → Contains links link ⊎ ((first ≤ link.to) × (One link.from link.step ⊎ Two link.from link.step) × IsStepAmong token at end link)
    both_from link h =
        elim (one.links_from link h) as (λ _. Contains links link ⊎ ((first ≤ link.to) × (One link.from link.step ⊎ Two link.from link.step) × IsStepAmong token at end link)) [
          | inl old ↦ inl old
          | inr new ↦
              let among = subst (λ (l : List Configured). IsStepAmong token at l link) (sym two.nodes_stay.1) (step_left token at mid two.nodes_stay.0 link new.2) in
              inr (new.0, inl new.1, among)
        ]

    both_done : (link : PlainLink) → first ≤ link.to → One link.from link.step → IsStepAmong token at end link → Contains end_links link
    both_done link above done among =
        let u = among.0 in
        let v = among.1 in
        let tail = was_at mid end link.from u two.nodes_stay (one.inner link.from link.step done) among.2 in
        let head = one.reached link.from link.step u v done tail among.4 in
        let same = two.growing.once head.0 link.to v (stays_at mid end head.0 v two.nodes_stay head.1) among.3 in
        two.links_stay link (one.links_done link above done (u, v, tail, subst (λ (n : ℕ). slice_get mid n ≡ Some v) same head.1, among.4))

    both_inner : (from : ℕ) (step : PlainStep) → One from step → from < length end
    both_inner from step done =
        let longer : length end ≡ length (mid ++ two.nodes_stay.0) = ap (λ (l : List Configured). length l) two.nodes_stay.1 in
        omega (arith, longer, longer_by mid two.nodes_stay.0, one.inner from step done)
      where
        longer_by : (xs ys : List Configured) → length xs ≤ length (xs ++ ys)
        longer_by [] ys = omega arith
        longer_by (x ∷ xs) ys = omega (arith, longer_by xs ys)

    pub grows_both : Grows token costs at first c (λ from step. One from step ⊎ Two from step) nodes links end end_links
    grows_both = record {
      growing = two.growing;
      nodes_stay = (
        one.nodes_stay.0 ++ two.nodes_stay.0,
        two.nodes_stay.1 ∙ ap (λ (l : List Configured). l ++ two.nodes_stay.0) one.nodes_stay.1 ∙ append_assoc nodes one.nodes_stay.0 two.nodes_stay.0,
      );
      inner = λ from step done. elim done as (λ _. from < length end) [ inl a ↦ both_inner from step a | inr b ↦ two.inner from step b ];
      reached = λ from step u v done is edge.
          elim done as (λ _. (n : ℕ) × (slice_get end n ≡ Some v)) [
            | inl a ↦ let head = both_reached from step u v a is edge in (head.0, stays_at mid end head.0 v two.nodes_stay head.1)
            | inr b ↦ two.reached from step u v b is edge
          ];
      links_stay = λ link h. two.links_stay link (one.links_stay link h);
      links_from = λ link h.
          elim (two.links_from link h) as (λ _. Contains links link ⊎ ((first ≤ link.to) × (One link.from link.step ⊎ Two link.from link.step) × IsStepAmong token at end link)) [
            | inl old ↦ both_from link old
            | inr new ↦ inr (new.0, inr new.1, new.2)
          ];
      links_done = λ link above done among.
          elim done as (λ _. Contains end_links link) [ inl a ↦ both_done link above a among | inr b ↦ two.links_done link above b among ];
    }

  -- one step
  module _ (nodes : List Configured) (links : List PlainLink) (growing : IsGrowing token costs at first c nodes links) (from : ℕ) (step : PlainStep)
      (due : IsDue token costs at first c nodes links from step) where
    -- the configuration at the tail is the only one
    tail_is : (new : List Configured) (other : ℕ) (u : Configured) → (more : List Configured) × (new ≡ nodes ++ more) → other ≡ from
        → slice_get new other ≡ Some u → due.tail ≡ u
    tail_is new other u more is at_other =
        let here = stays_at nodes new from due.tail more due.at_from in
        one_at new from due.tail u here (subst (λ (n : ℕ). slice_get new n ≡ Some u) is at_other)

    -- it can't be taken
    pub grows_stopped : ((v : Configured) → ¬ (IsEdge token at due.tail step v)) → Grows token costs at first c (IsThis from step) nodes links nodes links
    grows_stopped none =
        let all : (more : List Configured) × (nodes ≡ nodes ++ more) = ([], sym (append-nil nodes)) in
        let no_edge : (other : ℕ) (x : PlainStep) (u v : Configured) → IsThis from step other x → slice_get nodes other ≡ Some u → ¬ (IsEdge token at u x v) =
        λ other x u v this is edge.
        let tail = tail_is nodes other u all this.0 is in
        none v (subst (λ (w : Configured). IsEdge token at w step v) (sym tail) (subst (λ (y : PlainStep). IsEdge token at u y v) this.1 edge)) in
        record {
          growing = growing;
          nodes_stay = all;
          inner = λ other x this. subst (λ (n : ℕ). n < length nodes) (sym this.0) (slice_get_within nodes from due.tail due.at_from);
          reached = λ other x u v this is edge. absurd (no_edge other x u v this is edge);
          links_stay = λ link h. h;
          links_from = λ link h. inl h;
          links_done = λ link above this among. absurd (no_edge link.from link.step among.0 among.1 this among.2 among.4);
        }

    -- it leads to v
    module _ (v : Configured) (edge : IsEdge token at due.tail step v) (to : ℕ) (new : List Configured) (new_links : List PlainLink)
        (numbered : IsNumbered nodes v to new) (kept : IsKeptFrom first to links (link_with from step to) new_links) where
      abbrev link : PlainLink
      link = link_with from step to

      stay : (more : List Configured) × (new ≡ nodes ++ more)
      stay = elim numbered as (λ _. (more : List Configured) × (new ≡ nodes ++ more)) [
        | inl old ↦ ([], old.1 ∙ sym (append-nil nodes))
        | inr fresh ↦ (v ∷ [], fresh.2)
      ]

      head_at : slice_get new to ≡ Some v
      head_at = elim numbered as (λ _. slice_get new to ≡ Some v) [
        | inl old ↦ subst (λ (l : List Configured). slice_get l to ≡ Some v) (sym old.1) old.0
        | inr fresh ↦
            let end = subst (λ (n : ℕ). slice_get (nodes ++ v ∷ []) n ≡ Some v) (sym fresh.0) (at_end nodes v) in
            subst (λ (l : List Configured). slice_get l to ≡ Some v) (sym fresh.2) end
      ]

      -- what is at a number is at it from before, or it is v, which is at distance c
      new_far : ((i : ℕ) → slice_get nodes i ≢ Some v) → IsDistance token costs at v c
      new_far none =
          edge_to_new token costs at c due.tail v step due.distance due.far edge due.sum (λ near.
          let known = growing.nearer v near in none known.0 known.1)

      node_cases : (n : ℕ) (w : Configured) → slice_get new n ≡ Some w
          → (slice_get nodes n ≡ Some w) ⊎ ((length nodes ≤ n) × (v ≡ w) × IsDistance token costs at w c)
      node_cases n w is =
          elim numbered as (λ _. (slice_get nodes n ≡ Some w) ⊎ ((length nodes ≤ n) × (v ≡ w) × IsDistance token costs at w c)) [
            | inl old ↦ inl (subst (λ (l : List Configured). slice_get l n ≡ Some w) old.1 is)
            | inr fresh ↦
                elim (push_cases nodes v w n (subst (λ (l : List Configured). slice_get l n ≡ Some w) fresh.2 is))
                as (λ _. (slice_get nodes n ≡ Some w) ⊎ ((length nodes ≤ n) × (v ≡ w) × IsDistance token costs at w c)) [
                  | inl a ↦ inl a
                  | inr b ↦ inr (omega (arith, b.0), b.1, subst (λ (x : Configured). IsDistance token costs at x c) b.1 (new_far fresh.1))
                ]
          ]

      new_once : (i j : ℕ) (w : Configured) → slice_get new i ≡ Some w → slice_get new j ≡ Some w → i ≡ j
      new_once i j w a b =
          elim numbered as (λ _. i ≡ j) [
            | inl old ↦
                growing.once i j w (subst (λ (l : List Configured). slice_get l i ≡ Some w) old.1 a) (subst (λ (l : List Configured). slice_get l j ≡ Some w) old.1 b)
            | inr fresh ↦
                once_push nodes v growing.once fresh.1 i j w (subst (λ (l : List Configured). slice_get l i ≡ Some w) fresh.2 a)
                (subst (λ (l : List Configured). slice_get l j ≡ Some w) fresh.2 b)
          ]

      -- the link isn't there yet, if its head is at distance c
      link_new : first ≤ to → (i : ℕ) → slice_get links i ≢ Some link
      link_new above i is =
          omega (arith, due.fresh link (contains_at links i link is) refl refl, above)

      new_growing : IsGrowing token costs at first c new new_links
      new_growing = record {
        once = new_once;
        links_once = elim kept as (λ _. (i j : ℕ) (x : PlainLink) → slice_get new_links i ≡ Some x → slice_get new_links j ≡ Some x → i ≡ j) [
          | inl low ↦ subst (λ (l : List PlainLink). (i j : ℕ) (x : PlainLink) → slice_get l i ≡ Some x → slice_get l j ≡ Some x → i ≡ j) (sym low.1) growing.links_once
          | inr high ↦ subst (λ (l : List PlainLink). (i j : ℕ) (x : PlainLink) → slice_get l i ≡ Some x → slice_get l j ≡ Some x → i ≡ j) (sym high.1)
              (once_push links link growing.links_once (link_new high.0))
        ];
        start = elim numbered as (λ _. first ≤ length new) [
          | inl old ↦ omega (arith, growing.start, ap (λ (l : List Configured). length l) old.1)
          | inr fresh ↦ omega (arith, growing.start, ap (λ (l : List Configured). length l) fresh.2, length_push nodes v)
        ];
        nearer = λ w near. let known = growing.nearer w near in (known.0, stays_at nodes new known.0 w stay known.1);
        lower = λ n w is.
            elim (node_cases n w is) as (λ _. IsNearer token costs at (c + 1) w) [
              | inl old ↦ growing.lower n w old
              | inr fresh ↦ distance_nearer token costs at (c + 1) c w fresh.2 (omega arith)
            ];
        level = λ n w above is.
            elim (node_cases n w is) as (λ _. IsDistance token costs at w c) [ inl old ↦ growing.level n w above old | inr fresh ↦ fresh.2 ];
      }

      -- where the step leads from a number that is its tail's
      head_is : (other : ℕ) (x : PlainStep) (u w : Configured) → IsThis from step other x → slice_get new other ≡ Some u → IsEdge token at u x w → v ≡ w
      head_is other x u w this is other_edge =
          let tail = tail_is new other u stay this.0 is in
          let same = subst (λ (y : PlainStep). IsEdge token at u y w) this.1 other_edge in
          edge_one token at due.tail v w step edge (subst (λ (y : Configured). IsEdge token at y step w) (sym tail) same)

      new_stay : (l : PlainLink) → Contains links l → Contains new_links l
      new_stay l h = elim kept as (λ _. Contains new_links l) [
        | inl low ↦ subst (λ (ls : List PlainLink). Contains ls l) (sym low.1) h
        | inr high ↦ subst (λ (ls : List PlainLink). Contains ls l) (sym high.1) (Contains-append_left links (link ∷ []) l h)
      ]

      new_from : (l : PlainLink) → Contains new_links l
          → Contains links l ⊎ ((first ≤ l.to) × IsThis from step l.from l.step × IsStepAmong token at new l)
      new_from l h = elim kept as (λ _. Contains links l ⊎ ((first ≤ l.to) × IsThis from step l.from l.step × IsStepAmong token at new l)) [
        | inl low ↦ inl (subst (λ (ls : List PlainLink). Contains ls l) low.1 h)
        | inr high ↦
            elim (Contains-push_cases links link l (subst (λ (ls : List PlainLink). Contains ls l) high.1 h))
            as (λ _. Contains links l ⊎ ((first ≤ l.to) × IsThis from step l.from l.step × IsStepAmong token at new l)) [
              | inl old ↦ inl old
              | inr is ↦
                  let own : (first ≤ link.to) × IsThis from step link.from link.step × IsStepAmong token at new link =
                  (high.0, (refl, refl), (due.tail, v, stays_at nodes new from due.tail stay due.at_from, head_at, edge)) in
                  inr (subst (λ (k : PlainLink). (first ≤ k.to) × IsThis from step k.from k.step × IsStepAmong token at new k) is own)
            ]
      ]

      new_done : (l : PlainLink) → first ≤ l.to → IsThis from step l.from l.step → IsStepAmong token at new l → Contains new_links l
      new_done l above this among =
          let head = head_is l.from l.step among.0 among.1 this among.2 among.4 in
          let place = new_once to l.to v head_at (subst (λ (w : Configured). slice_get new l.to ≡ Some w) (sym head) among.3) in
          elim kept as (λ _. Contains new_links l) [
            | inl low ↦ absurd (omega (arith, low.0, above, place))
            | inr high ↦
                let same : link ≡ l = same_link from l.from step l.step to l.to (sym this.0) (sym this.1) place in
                subst (Contains new_links) same (subst (λ (ls : List PlainLink). Contains ls link) (sym high.1) (Contains-push links link))
          ]
        where
          same_link : (a b : ℕ) (x y : PlainStep) (m n : ℕ) → a ≡ b → x ≡ y → m ≡ n → link_with a x m ≡ link_with b y n
          same_link a b x y m n p q r =
              ap (λ (k : ℕ). link_with k x m) p ∙ ap (λ (z : PlainStep). link_with b z m) q ∙ ap (λ (k : ℕ). link_with b y k) r

      pub grows_linked : Grows token costs at first c (IsThis from step) nodes links new new_links
      grows_linked = record {
        growing = new_growing;
        nodes_stay = stay;
        inner = λ other x this.
            subst (λ (n : ℕ). n < length new) (sym this.0) (slice_get_within new from due.tail (stays_at nodes new from due.tail stay due.at_from));
        reached = λ other x u w this is other_edge.
            (to, subst (λ (z : Configured). slice_get new to ≡ Some z) (head_is other x u w this is other_edge) head_at);
        links_stay = new_stay;
        links_from = new_from;
        links_done = new_done;
      }

  -- more configurations than may be kept
  pub past_limit : (limit : ℕ) (nodes : List Configured) (links : List PlainLink) → IsGrowing token costs at first c nodes links
      → CostsAtLeast token costs at (c + 1) → limit < length nodes → IsPastLimit token costs at limit nodes
  past_limit limit nodes links growing least more =
      record { bound = c + 1; least = least; once = growing.once; nearer = growing.lower; more = more }
