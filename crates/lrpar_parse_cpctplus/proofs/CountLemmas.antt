-- How many rests of repairs begin at a node: as many as after its links together; and which nodes have any of a number of steps.
use Rattle.std.proofs.Common.{◌≡◌, ◌≢◌, ◌<◌, ◌≤◌, ◌==◌, ◌+◌, ◌-◌, ◌^◌, ◌∙◌, ◌&&◌, ◌⊎◌, inl, inr, ℕ, zero, suc, List, [], ◌∷◌, ◌++◌, Bool, true, false, IsTrue, Option, Some, None, MatchOption, cond, flat_map, get_or, is_some, length, map, min, take, refl, sym, subst, ap, arith, Contains}
use Rattle.std.specs.Prelude.{nat_eq}
use Rattle.std.specs.HashMap.{get}
use Rattle.std.proofs.lemmas.Bool.{cases_eq, cases_lt, eq-eqb, ne_eqb}
use Rattle.std.proofs.lemmas.List.{append-nil, get_or_append_left, get_or_push, length-append, length-map, length_push, map_more, take_all, take_more}
use Rattle.std.proofs.lemmas.List.Concat.{flat_map-append}
use Rattle.std.proofs.lemmas.List.Elements.{Contains-append_left, Contains-push, Contains-push_cases}
use Rattle.lrpar_parse_repair.specs.PlainSteps.{plain_step}
use Rattle.lrpar_parse_repair.specs.Sequences.{PlainStep}
use Rattle.lrpar_parse_cpctplus.specs.Counted.{AddsNode, AreCounts, AreLayers, AreNumbers, IsLayer, IsPartOfLayer, count_at, count_in, count_of, counted, has_node, number_of}
use Rattle.lrpar_parse_cpctplus.specs.Forming.{allows_none, form_after, form_of}
use Rattle.lrpar_parse_cpctplus.specs.Graph.{PlainLink}
use Rattle.lrpar_parse_cpctplus.specs.LinkView.{plain_link}
use Rattle.lrpar_parse_cpctplus.specs.NodesView.{AddsSources, AreNextCounts, rests_of}
use Rattle.lrpar_parse_cpctplus.specs.Rests.{rests}
use Rattle.lrpar_parse_cpctplus.specs.declared.form.Class.{Class}
use Rattle.lrpar_parse_cpctplus.specs.declared.form.Class.TheVariants.{Clean, Avoided, Any, Nothing}
use Rattle.lrpar_parse_cpctplus.specs.declared.form.Form.{Form}
use Rattle.lrpar_parse_cpctplus.specs.declared.layer.Counts.{Counts}
use Rattle.lrpar_parse_cpctplus.specs.declared.layer.Layer.{Layer}
use Rattle.lrpar_parse_cpctplus.specs.declared.layer.Numbers.{Numbers}
use Rattle.lrpar_parse_cpctplus.specs.declared.link.Link.{Link}
use Rattle.lrpar_parse_cpctplus.specs.declared.nodes.Nodes.{Nodes}
use Rattle.lrpar_parse_cpctplus.proofs.MemberLemmas.{IsIn, contained, is_in}
use Rattle.lrpar_parse_cpctplus.proofs.RestLemmas.{at_end, no_more_rests, no_rests_of_none, rests_by}

-- counts of lists that are joined
pub counted_joined : {A : Type 0} (xs ys : List A) (m n : ℕ) → m ≡ counted xs → n ≡ counted ys → min (m + n) (2 ^ 64 - 1) ≡ counted (xs ++ ys)
counted_joined xs ys m n one other = omega (arith, one, other, length-append xs ys)

pub flat_more : {A B : Type 0} (f : A → List B) (xs : List A) (x : A) → flat_map f (xs ++ x ∷ []) ≡ flat_map f xs ++ f x
flat_more f xs x = flat_map-append f xs (x ∷ []) ∙ ap (λ l. flat_map f xs ++ l) (append-nil (f x))

-- nothing comes of parts that have nothing
pub no_parts : {A B : Type 0} (f : A → List B) (xs : List A) → ((x : A) → IsIn x xs → f x ≡ []) → flat_map f xs ≡ []
no_parts f [] none = refl
no_parts f (x ∷ xs) none = ap (λ l. l ++ flat_map f xs) (none x (inl refl)) ∙ no_parts f xs (λ y m. none y (inr m))

module _ {S : Type 0} (index : S → ℕ) where
  -- the links so far and one more
  pub plain_more : (links : List (Link S)) (i : ℕ) (link : Link S) → i < length links → link ≡ get_or links i link
      → map (plain_link index) (take (i + 1) links) ≡ map (plain_link index) (take i links) ++ plain_link index link ∷ []
  plain_more links i link below read =
      map_more (plain_link index) links i link below
      ∙ ap (λ (l : Link S). map (plain_link index) (take i links) ++ plain_link index l ∷ []) (sym read)

  pub pulled_more : (f : PlainLink → List (List PlainStep)) (links : List (Link S)) (i : ℕ) (link : Link S) (sum many : ℕ) → i < length links
      → link ≡ get_or links i link → sum ≡ counted (flat_map f (map (plain_link index) (take i links))) → many ≡ counted (f (plain_link index link))
      → min (sum + many) (2 ^ 64 - 1) ≡ counted (flat_map f (map (plain_link index) (take (i + 1) links)))
  pulled_more f links i link sum many below read so more =
      let before = map (plain_link index) (take i links) in
      counted_joined (flat_map f before) (f (plain_link index link)) sum many so more
      ∙ ap (λ (l : List (List PlainStep)). counted l)
      (sym (ap (λ (l : List PlainLink). flat_map f l) (plain_more links i link below read) ∙ flat_more f before (plain_link index link)))

-- what a layer says of a node
module _ (begin : Form → ℕ → List (List PlainStep)) (layer : Layer) (is : IsLayer begin layer) where
  counts_are : (o : Option Counts) (u : ℕ) (form : Form)
      → MatchOption o ((form : Form) → begin form u ≡ []) (λ counts. AreCounts (λ form. begin form u) counts × Contains layer.nodes.items u)
      → count_at o form ≡ counted (begin form u)
  counts_are None u form h = sym (ap (λ (l : List (List PlainStep)). counted l) (h form))
  counts_are (Some counts) u form h = h.0 form

  pub count_is : (u : ℕ) (form : Form) → count_in layer form u ≡ counted (begin form u)
  count_is u form = counts_are (get nat_eq layer.counts u) u form (is u)

  nothing_or_there : (o : Option Counts) (u : ℕ)
      → MatchOption o ((form : Form) → begin form u ≡ []) (λ counts. AreCounts (λ form. begin form u) counts × Contains layer.nodes.items u)
      → ((form : Form) → begin form u ≡ []) ⊎ Contains layer.nodes.items u
  nothing_or_there None u h = inl h
  nothing_or_there (Some counts) u h = inr h.1

  -- nothing begins at a node, or the layer has it
  pub begins_or_not : (u : ℕ) → ((form : Form) → begin form u ≡ []) ⊎ Contains layer.nodes.items u
  begins_or_not u = nothing_or_there (get nat_eq layer.counts u) u (is u)

-- an empty layer
pub nothing_begins : (begin : Form → ℕ → List (List PlainStep)) (layer : Layer) → IsLayer begin layer → layer.nodes.items ≡ [] → (form : Form) (u : ℕ)
    → begin form u ≡ []
nothing_begins begin layer is none form u =
    elim (begins_or_not begin layer is u) as (λ _. begin form u ≡ []) [
      | inl h ↦ h form
      | inr there ↦ absurd (is_in u [] (subst (λ (l : List ℕ). Contains l u) none there))
    ]

-- the numbers of the rests without steps, of which there is one at the end
same_either : {A : Type 0} (b : Bool) (x : A) → cond b x x ≡ x
same_either true x = refl
same_either false x = refl

abbrev pub one_rest : Numbers
one_rest = record { clean = 1; avoided = 0; any = 1 }

ends_here : (class : Class) → number_of one_rest class ≡ counted (at_end (true && allows_none class))
ends_here Clean = refl
ends_here Avoided = refl
ends_here Any = refl
ends_here Nothing = refl

module _ (avoided : List Bool) (end : ℕ) (next : ℕ → List PlainLink) where
  pub end_counts : (form : Form) → count_of (record { after_delete = one_rest; after_other = one_rest }) form ≡ counted (rests avoided end next 0 form end)
  end_counts form =
      ap (λ (numbers : Numbers). number_of numbers form.class) (same_either form.deleted one_rest) ∙ ends_here form.class
      ∙ ap (λ (b : Bool). counted (at_end (b && allows_none form.class))) (sym (eq-eqb end end refl))

  pub none_elsewhere : (form : Form) (u : ℕ) → u ≢ end → rests avoided end next 0 form u ≡ []
  none_elsewhere form u other = ap (λ (b : Bool). at_end (b && allows_none form.class)) (ne_eqb u end other)

  -- the layer of no steps
  pub first_is_layer : (old new : Layer) (counts : Counts) → counts ≡ record { after_delete = one_rest; after_other = one_rest }
      → ((u : ℕ) → get nat_eq old.counts u ≡ None) → AddsNode end counts old new → IsLayer (rests avoided end next 0) new
  first_is_layer old new counts are empty adds u =
      let Says : Option Counts → Type 0 = λ o.
      MatchOption o ((form : Form) → rests avoided end next 0 form u ≡ []) (λ counts. AreCounts (λ form. rests avoided end next 0 form u) counts × Contains new.nodes.items u) in
      elim (cases_eq end u) as (λ _. Says (get nat_eq new.counts u)) [
        | inl same ↦
            let is : get nat_eq new.counts u ≡ Some counts =
            adds.got u ∙ ap (λ (b : Bool). cond b (Some counts) (get nat_eq old.counts u)) (eq-eqb end u same) in
            let here : Contains new.nodes.items u =
            subst (λ (l : List ℕ). Contains l u) (sym adds.listed) (subst (λ (n : ℕ). Contains (old.nodes.items ++ n ∷ []) u) (sym same) (Contains-push old.nodes.items u)) in
            let numbers : (form : Form) → count_of counts form ≡ counted (rests avoided end next 0 form u) = λ form.
            ap (λ (k : Counts). count_of k form) are ∙ end_counts form ∙ ap (λ (n : ℕ). counted (rests avoided end next 0 form n)) same in
            subst Says (sym is) (numbers, here)
        | inr other ↦
            let is : get nat_eq new.counts u ≡ None =
            adds.got u ∙ ap (λ (b : Bool). cond b (Some counts) (get nat_eq old.counts u)) (ne_eqb end u other) ∙ empty u in
            subst Says (sym is) (λ form. none_elsewhere form u (λ e. other (sym e)))
      ]

  -- a layer of one step more
  pub is_next_layer : (s : ℕ) (layer more : Layer) → IsLayer (rests avoided end next s) layer → IsPartOfLayer (rests avoided end next (suc s)) more
      → ((u : ℕ) (link : PlainLink) → Contains (next u) link → Contains layer.nodes.items link.to → IsTrue (is_some (get nat_eq more.counts u)))
      → IsLayer (rests avoided end next (suc s)) more
  is_next_layer s layer more is part all u = next_at (get nat_eq more.counts u) refl (part u)
    where
      next_at : (o : Option Counts) → o ≡ get nat_eq more.counts u
          → MatchOption o (Unit {0}) (λ counts. AreCounts (λ form. rests avoided end next (suc s) form u) counts × Contains more.nodes.items u)
          → MatchOption (get nat_eq more.counts u) ((form : Form) → rests avoided end next (suc s) form u ≡ [])
          (λ counts. AreCounts (λ form. rests avoided end next (suc s) form u) counts × Contains more.nodes.items u)
      next_at None e h =
          subst (λ (o : Option Counts). MatchOption o ((form : Form) → rests avoided end next (suc s) form u ≡ [])
          (λ counts. AreCounts (λ form. rests avoided end next (suc s) form u) counts × Contains more.nodes.items u)) e (λ form.
          no_parts (rests_by avoided end next s form) (next u) (λ link m.
          elim (begins_or_not (rests avoided end next s) layer is link.to) as (λ _. rests_by avoided end next s form link ≡ []) [
            | inl none ↦ ap (λ (l : List (List PlainStep)). map (λ (steps : List PlainStep). link.step ∷ steps) l) (none (form_after avoided form link.step))
            | inr there ↦
                let some = all u link (contained link (next u) m) there in
                absurd (let f : false ≡ true = subst (λ (o : Option Counts). IsTrue (is_some o)) (sym e) some in cc)
          ]))
      next_at (Some counts) e h =
          subst (λ (o : Option Counts). MatchOption o ((form : Form) → rests avoided end next (suc s) form u ≡ [])
          (λ counts. AreCounts (λ form. rests avoided end next (suc s) form u) counts × Contains more.nodes.items u)) e h

  -- the numbers of three classes are those of all
  pub all_numbers : (s u : ℕ) (deleted : Bool) (numbers : Numbers)
      → numbers.clean ≡ counted (rests avoided end next s (form_of Clean deleted) u) → numbers.avoided ≡ counted (rests avoided end next s (form_of Avoided deleted) u)
      → numbers.any ≡ counted (rests avoided end next s (form_of Any deleted) u) → AreNumbers (λ class. rests avoided end next s (form_of class deleted) u) numbers
  all_numbers s u deleted numbers clean other any Clean = clean
  all_numbers s u deleted numbers clean other any Avoided = other
  all_numbers s u deleted numbers clean other any Any = any
  all_numbers s u deleted numbers clean other any Nothing = sym (ap (λ (l : List (List PlainStep)). counted l) (no_rests_of_none avoided end next s deleted u))

  -- and those after a Delete and after another step together
  pub all_counts : (s u : ℕ) (counts : Counts) → AreNumbers (λ class. rests avoided end next s (form_of class true) u) counts.after_delete
      → AreNumbers (λ class. rests avoided end next s (form_of class false) u) counts.after_other → AreCounts (λ form. rests avoided end next s form u) counts
  all_counts s u counts one other form = either form.deleted form.class
    where
      either : (deleted : Bool) (class : Class)
          → number_of (cond deleted counts.after_delete counts.after_other) class ≡ counted (rests avoided end next s (form_of class deleted) u)
      either true class = one class
      either false class = other class

-- a part of a layer, and a node more
pub part_more : (begin : Form → ℕ → List (List PlainStep)) (old new : Layer) (node : ℕ) (counts : Counts) → AreCounts (λ form. begin form node) counts
    → AddsNode node counts old new → IsPartOfLayer begin old → IsPartOfLayer begin new
part_more begin old new node counts are adds part u =
    let Says : Option Counts → Type 0 = λ o. MatchOption o (Unit {0}) (λ counts. AreCounts (λ form. begin form u) counts × Contains new.nodes.items u) in
    elim (cases_eq node u) as (λ _. Says (get nat_eq new.counts u)) [
      | inl same ↦
          let is : get nat_eq new.counts u ≡ Some counts =
          adds.got u ∙ ap (λ (b : Bool). cond b (Some counts) (get nat_eq old.counts u)) (eq-eqb node u same) in
          let here : Contains new.nodes.items u =
          subst (λ (l : List ℕ). Contains l u) (sym adds.listed) (subst (λ (n : ℕ). Contains (old.nodes.items ++ n ∷ []) u) (sym same) (Contains-push old.nodes.items u)) in
          subst Says (sym is) (subst (λ (n : ℕ). AreCounts (λ form. begin form n) counts) same are, here)
      | inr other ↦
          let is : get nat_eq new.counts u ≡ get nat_eq old.counts u =
          adds.got u ∙ ap (λ (b : Bool). cond b (Some counts) (get nat_eq old.counts u)) (ne_eqb node u other) in
          subst Says (sym is) (stays (get nat_eq old.counts u) (part u))
    ]
  where
    stays : (o : Option Counts) → MatchOption o (Unit {0}) (λ counts. AreCounts (λ form. begin form u) counts × Contains old.nodes.items u)
        → MatchOption o (Unit {0}) (λ counts. AreCounts (λ form. begin form u) counts × Contains new.nodes.items u)
    stays None h = tt
    stays (Some k) h = (h.0, subst (λ (l : List ℕ). Contains l u) (sym adds.listed) (Contains-append_left old.nodes.items (node ∷ []) u h.1))

-- an empty layer is a part of any
pub none_is_part : (begin : Form → ℕ → List (List PlainStep)) (layer : Layer) → ((u : ℕ) → get nat_eq layer.counts u ≡ None) → IsPartOfLayer begin layer
none_is_part begin layer empty u =
    subst (λ (o : Option Counts). MatchOption o (Unit {0}) (λ counts. AreCounts (λ form. begin form u) counts × Contains layer.nodes.items u)) (sym (empty u)) tt

-- the node that was added is there, and so is each that was
there_now : (old new : Layer) (node : ℕ) (counts : Counts) → AddsNode node counts old new → IsTrue (has_node new node)
there_now old new node counts adds =
    ap (λ (o : Option Counts). is_some o) (adds.got node ∙ ap (λ (b : Bool). cond b (Some counts) (get nat_eq old.counts node)) (eq-eqb node node refl))

there_still : (old new : Layer) (node : ℕ) (counts : Counts) → AddsNode node counts old new → (u : ℕ) → IsTrue (has_node old u) → IsTrue (has_node new u)
there_still old new node counts adds u h =
    subst (λ (o : Option Counts). IsTrue (is_some o)) (sym (adds.got u)) (either (node == u))
  where
    either : (b : Bool) → IsTrue (is_some (cond b (Some counts) (get nat_eq old.counts u)))
    either true = refl
    either false = h

-- a node that is added, or was there, for those of one step more than a layer has
only_one : (node : ℕ) (layer : Layer) → IsTrue (has_node layer node) → (u : ℕ) → Contains (node ∷ []) u → IsTrue (has_node layer u)
only_one node layer there u m = elim (is_in u (node ∷ []) m) as (λ _. IsTrue (has_node layer u)) [
  | inl same ↦ subst (λ (n : ℕ). IsTrue (has_node layer n)) (sym same) there
  | inr none ↦ absurd none
]

module _ {S : Type 0} (index : S → ℕ) (nodes : Nodes S) (layer : Layer) (node : ℕ) where
  pub source_added : (old new : Layer) (counts : Counts) → AreNextCounts index nodes layer node counts → AddsNode node counts old new
      → AddsSources index nodes layer (node ∷ []) old new
  source_added old new counts are adds = record {
    part = λ s is. part_more (rests_of index nodes (suc s)) old new node counts (are s is) adds;
    there = only_one node new (there_now old new node counts adds);
    stay = there_still old new node counts adds;
  }

  pub source_there : (same : Layer) → IsTrue (has_node same node) → AddsSources index nodes layer (node ∷ []) same same
  source_there same there = record { part = λ s is h. h; there = only_one node same there; stay = λ u h. h }

-- one layer more
pub layers_more : (begin : ℕ → Form → ℕ → List (List PlainStep)) (layers more : List Layer) (layer : Layer) → more ≡ layers ++ layer ∷ []
    → ((s : ℕ) (d : Layer) → s < length layers → IsLayer (begin s) (get_or layers s d)) → IsLayer (begin (length layers)) layer
    → (s : ℕ) (d : Layer) → s < length more → IsLayer (begin s) (get_or more s d)
layers_more begin layers more layer pushed each last s d within =
    let long : length more ≡ length layers + 1 = ap (λ (l : List Layer). length l) pushed ∙ length_push layers layer in
    elim (cases_lt s (length layers)) as (λ _. IsLayer (begin s) (get_or more s d)) [
      | inl below ↦
          subst (λ (l : List Layer). IsLayer (begin s) (get_or l s d)) (sym pushed)
          (subst (λ (k : Layer). IsLayer (begin s) k) (sym (get_or_append_left layers (layer ∷ []) d s below)) (each s d below))
      | inr past ↦
          let same : length layers ≡ s = omega (arith, long, within, past) in
          let at : get_or more s d ≡ layer = ap (λ (l : List Layer). get_or l s d) pushed ∙ get_or_push layers layer d s same in
          subst (λ (k : Layer). IsLayer (begin s) k) (sym at) (subst (λ (n : ℕ). IsLayer (begin n) layer) same last)
    ]

-- where nothing has a number of steps, nothing has more
pub none_longer : (avoided : List Bool) (end : ℕ) (next : ℕ → List PlainLink) (m gap : ℕ) → ((form : Form) (u : ℕ) → rests avoided end next m form u ≡ [])
    → (form : Form) (u : ℕ) → rests avoided end next (m + gap) form u ≡ []
none_longer avoided end next m zero none form u =
    subst (λ (n : ℕ). rests avoided end next n form u ≡ []) (let e : m ≡ m + 0 = omega arith in e) (none form u)
none_longer avoided end next m (suc gap) none form u =
    let e : suc (m + gap) ≡ m + suc gap = omega arith in
    subst (λ (n : ℕ). rests avoided end next n form u ≡ []) e (no_more_rests avoided end next (m + gap) (none_longer avoided end next m gap none) form u)

-- all layers, if the last ones are as many as were asked for, or the next one would be empty
pub are_layers : (avoided : List Bool) (end : ℕ) (next : ℕ → List PlainLink) (longest : ℕ) (layers : List Layer) (layer : Layer)
    → ((s : ℕ) (d : Layer) → s < length layers → IsLayer (rests avoided end next s) (get_or layers s d)) → length layers ≤ longest + 1
    → IsLayer (rests avoided end next (length layers)) layer → (longest < length layers) ⊎ (layer.nodes.items ≡ [])
    → AreLayers (rests avoided end next) longest layers
are_layers avoided end next longest layers layer each few is ended = record {
  each = each;
  few = few;
  others = λ s above below form u.
      elim ended as (λ _. rests avoided end next s form u ≡ []) [
        | inl all ↦ absurd (omega (arith, all, above, below))
        | inr none ↦
            let gap : length layers + (s - length layers) ≡ s = omega (arith, above) in
            subst (λ (n : ℕ). rests avoided end next n form u ≡ []) gap
            (none_longer avoided end next (length layers) (s - length layers)
            (nothing_begins (rests avoided end next (length layers)) layer is none) form u)
      ];
}

module _ {S : Type 0} (index : S → ℕ) (avoided : List Bool) (end : ℕ) (next : ℕ → List PlainLink) (s : ℕ) (form : Form) where
  -- as many as after the links so far, and one more
  pub pulled_by : (layer : Layer) → IsLayer (rests avoided end next s) layer → (links : List (Link S)) (i : ℕ) (link : Link S) (after : Form) (sum many more : ℕ)
      → i < length links → link ≡ get_or links i link → sum ≡ counted (flat_map (rests_by avoided end next s form) (map (plain_link index) (take i links)))
      → after ≡ form_after avoided form (plain_step index link.step) → many ≡ count_in layer after link.to → more ≡ min (sum + many) (2 ^ 64 - 1)
      → more ≡ counted (flat_map (rests_by avoided end next s form) (map (plain_link index) (take (i + 1) links)))
  pulled_by layer is links i link after sum many more below read so form_is count joined =
      let rest = rests avoided end next s (form_after avoided form (plain_step index link.step)) link.to in
      let by_count : many ≡ counted (rests avoided end next s after link.to) = count ∙ count_is (rests avoided end next s) layer is link.to after in
      let part : many ≡ counted (rests_by avoided end next s form (plain_link index link)) =
      by_count ∙ ap (λ (f : Form). counted (rests avoided end next s f link.to)) form_is
      ∙ ap (λ (n : ℕ). min n (2 ^ 64 - 1)) (sym (length-map rest (λ (steps : List PlainStep). plain_step index link.step ∷ steps))) in
      joined ∙ pulled_more index (rests_by avoided end next s form) links i link sum many below read so part

  pub pulled_all : (node : ℕ) (links : List (Link S)) (i sum : ℕ) → length links ≤ i → map (plain_link index) links ≡ next node
      → sum ≡ counted (flat_map (rests_by avoided end next s form) (map (plain_link index) (take i links))) → sum ≡ counted (rests avoided end next (suc s) form node)
  pulled_all node links i sum past are so =
      so
      ∙ ap (λ (l : List (Link S)). counted (flat_map (rests_by avoided end next s form) (map (plain_link index) l))) (take_all i links past)
      ∙ ap (λ (l : List PlainLink). counted (flat_map (rests_by avoided end next s form) l)) are

-- the numbers of a list so far, and one more
pub number_more : (xs : List ℕ) (i : ℕ) → i < length xs → (y : ℕ) → Contains (take (i + 1) xs) y → Contains (take i xs) y ⊎ (get_or xs i 0 ≡ y)
number_more xs i below y m =
    Contains-push_cases (take i xs) (get_or xs i 0) y (subst (λ (l : List ℕ). Contains l y) (take_more xs i 0 below) m)

pub no_number : (y : ℕ) → ¬ (Contains [] y)
no_number y m = is_in y [] m

pub all_numbers_taken : (xs : List ℕ) (i : ℕ) → length xs ≤ i → (y : ℕ) → Contains xs y → Contains (take i xs) y
all_numbers_taken xs i past y m = subst (λ (l : List ℕ). Contains l y) (sym (take_all i xs past)) m

-- the nodes so far from which links lead to a node, and one more
module _ {S : Type 0} (index : S → ℕ) (nodes : Nodes S) (layer : Layer) where
  pub no_source : (same : Layer) → AddsSources index nodes layer [] same same
  no_source same = record { part = λ s is h. h; there = λ u m. absurd (no_number u m); stay = λ u h. h }

  pub source_more : (xs : List ℕ) (i : ℕ) → i < length xs → (old mid new : Layer) → AddsSources index nodes layer (take i xs) old mid
      → AddsSources index nodes layer (get_or xs i 0 ∷ []) mid new → AddsSources index nodes layer (take (i + 1) xs) old new
  source_more xs i below old mid new before one = record {
    part = λ s is h. one.part s is (before.part s is h);
    there = λ u m.
        elim (number_more xs i below u m) as (λ _. IsTrue (has_node new u)) [
          | inl so_far ↦ one.stay u (before.there u so_far)
          | inr same ↦ subst (λ (n : ℕ). IsTrue (has_node new n)) same (one.there (get_or xs i 0) (Contains-push [] (get_or xs i 0)))
        ];
    stay = λ u h. one.stay u (before.stay u h);
  }

  pub sources_all : (xs sources : List ℕ) → xs ≡ sources → (i : ℕ) → length xs ≤ i → (old new : Layer)
      → AddsSources index nodes layer (take i xs) old new → AddsSources index nodes layer sources old new
  sources_all xs sources are i past old new adds =
      subst (λ (l : List ℕ). AddsSources index nodes layer l old new) (take_all i xs past ∙ are) adds
