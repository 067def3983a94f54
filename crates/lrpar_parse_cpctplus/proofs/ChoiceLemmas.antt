-- The repair at a place of a list that is put together of parts; and lists of which the first ones are added one after the other.
use Rattle.std.proofs.Common.{◌≡◌, ◌<◌, ◌≤◌, ◌+◌, ◌-◌, ◌^◌, ◌∙◌, ◌==◌, ◌&&◌, ℕ, zero, suc, List, [], ◌∷◌, ◌++◌, Bool, true, false, Vec, flat_map, get_or, length, map, take, refl, sym, subst, ap, ap₂, arith}
use Rattle.std.proofs.lemmas.List.{append-nil, append_assoc, get_or-map, length-append, length-map, length-take-le, map-append, take-map, take_all, take_more}
use Rattle.std.proofs.lemmas.List.Concat.{get_or-flat_map}
use Rattle.std.specs.declared.alloc.Global.{Global}
use Rattle.lrpar_parse_repair.specs.PlainSteps.{plain_sequences, plain_step, plain_steps}
use Rattle.lrpar_parse_repair.specs.Sequences.{PlainStep}
use Rattle.lrpar_parse_repair.specs.declared.repair_step.RepairStep.{RepairStep}
use Rattle.lrpar_parse_cpctplus.specs.Chosen.{IsChoice}
use Rattle.lrpar_parse_cpctplus.specs.Counted.{AreLayers, IsLayer, count_in, counted}
use Rattle.lrpar_parse_cpctplus.specs.Forming.{allows_none, form_after, form_of}
use Rattle.lrpar_parse_cpctplus.specs.Graph.{PlainLink}
use Rattle.lrpar_parse_cpctplus.specs.LinkView.{plain_link}
use Rattle.lrpar_parse_cpctplus.specs.Rests.{added_first, in_order, rests, shorter}
use Rattle.lrpar_parse_cpctplus.specs.declared.form.Class.{Class}
use Rattle.lrpar_parse_cpctplus.specs.declared.form.Form.{Form}
use Rattle.lrpar_parse_cpctplus.specs.declared.form.Class.TheVariants.{Clean, Avoided}
use Rattle.lrpar_parse_cpctplus.specs.declared.layer.Layer.{Layer}
use Rattle.lrpar_parse_cpctplus.specs.declared.link.Link.{Link}
use Rattle.lrpar_parse_cpctplus.specs.declared.listing.Choice.{Choice}
use Rattle.lrpar_parse_cpctplus.proofs.CountLemmas.{count_is, flat_more, plain_more}
use Rattle.lrpar_parse_cpctplus.proofs.RestLemmas.{at_end, rests_by}
use Rattle.lrpar_parse_cpctplus.proofs.TakenLemmas.{added_joined}

module _ {S : Type 0} (index : S → ℕ) (avoided : List Bool) (end : ℕ) (next : ℕ → List PlainLink) (s : ℕ) (form : Form) where
  -- the place in the part of one link
  pub place_by : (links : List (Link S)) (i : ℕ) (link : Link S) (place left : ℕ) (d : List PlainStep) → i < length links → link ≡ get_or links i link
      → left + length (flat_map (rests_by avoided end next s form) (map (plain_link index) (take i links))) ≡ place
      → left < counted (rests avoided end next s (form_after avoided form (plain_step index link.step)) link.to)
      → get_or (flat_map (rests_by avoided end next s form) (map (plain_link index) links)) place d
      ≡ plain_step index link.step ∷ get_or (rests avoided end next s (form_after avoided form (plain_step index link.step)) link.to) left d
  place_by links i link place left d below read sum within =
      let f = rests_by avoided end next s form in
      let all = map (plain_link index) links in
      let after = rests avoided end next s (form_after avoided form (plain_step index link.step)) link.to in
      let inside : left < length after = omega (arith, within) in
      let at : get_or all i (plain_link index link) ≡ plain_link index link =
      get_or-map (plain_link index) links i link (plain_link index link) below ∙ ap (λ (l : Link S). plain_link index l) (sym read) in
      let long : length (f (get_or all i (plain_link index link))) ≡ length after =
      ap (λ (l : PlainLink). length (f l)) at ∙ length-map after (λ (steps : List PlainStep). plain_step index link.step ∷ steps) in
      let part = get_or-flat_map f all i left (plain_link index link) d (omega (arith, below, length-map links (plain_link index))) (omega (arith, long, inside)) in
      let before : take i all ≡ map (plain_link index) (take i links) = take-map (plain_link index) i links in
      let place_is : length (flat_map f (take i all)) + left ≡ place = omega (arith, sum, ap (λ (l : List PlainLink). length (flat_map f l)) before) in
      ap (λ (n : ℕ). get_or (flat_map f all) n d) (sym place_is) ∙ part ∙ ap (λ (l : PlainLink). get_or (f l) left d) at
      ∙ get_or-map (λ (steps : List PlainStep). plain_step index link.step ∷ steps) after left d d inside

  -- past that part
  pub place_past : (links : List (Link S)) (i : ℕ) (link : Link S) (place left many after : ℕ) → i < length links → link ≡ get_or links i link
      → left + length (flat_map (rests_by avoided end next s form) (map (plain_link index) (take i links))) ≡ place
      → many ≡ counted (rests avoided end next s (form_after avoided form (plain_step index link.step)) link.to) → many ≤ left → left < 2 ^ 64 - 1 → after + many ≡ left
      → after + length (flat_map (rests_by avoided end next s form) (map (plain_link index) (take (i + 1) links))) ≡ place
  place_past links i link place left many after below read sum is past fits less =
      let f = rests_by avoided end next s form in
      let before = map (plain_link index) (take i links) in
      let long = ap (λ (l : List PlainLink). length (flat_map f l)) (plain_more index links i link below read)
      ∙ ap (λ (l : List (List PlainStep)). length l) (flat_more f before (plain_link index link))
      ∙ length-append (flat_map f before) (f (plain_link index link)) in
      let part = length-map (rests avoided end next s (form_after avoided form (plain_step index link.step)) link.to) (λ (steps : List PlainStep). plain_step index link.step ∷ steps) in
      omega (arith, sum, is, past, fits, less, long, part)

module _ {S : Type 0} (index : S → ℕ) where
  -- one sequence more
  pub sequence_more : (xs : List (List PlainStep)) (place : ℕ) (listed more : List (Vec (RepairStep S) Global)) (repair : Vec (RepairStep S) Global)
      (before : List (List PlainStep)) → place < length xs → plain_sequences index listed ≡ before ++ take place xs → more ≡ listed ++ repair ∷ []
      → get_or xs place [] ≡ plain_steps index repair.items → plain_sequences index more ≡ before ++ take (place + 1) xs
  sequence_more xs place listed more repair before below so pushed is =
      ap (λ (l : List (Vec (RepairStep S) Global)). plain_sequences index l) pushed
      ∙ map-append (λ (steps : Vec (RepairStep S) Global). plain_steps index steps.items) listed (repair ∷ [])
      ∙ ap (λ (l : List (List PlainStep)). l ++ plain_steps index repair.items ∷ []) so
      ∙ append_assoc before (take place xs) (plain_steps index repair.items ∷ [])
      ∙ ap (λ (y : List PlainStep). before ++ (take place xs ++ y ∷ [])) (sym is)
      ∙ ap (λ (l : List (List PlainStep)). before ++ l) (sym (take_more xs place [] below))

  -- as many as before, and those at the places so far
  pub sequences_long : (xs : List (List PlainStep)) (place : ℕ) (listed before : List (Vec (RepairStep S) Global)) → place < length xs
      → plain_sequences index listed ≡ plain_sequences index before ++ take place xs → length listed ≡ length before + place
  sequences_long xs place listed before below so =
      let f : Vec (RepairStep S) Global → List PlainStep = λ steps. plain_steps index steps.items in
      sym (length-map listed f) ∙ ap (λ (l : List (List PlainStep)). length l) so ∙ length-append (plain_sequences index before) (take place xs)
      ∙ ap₂ (λ (m n : ℕ). m + n) (length-map before f) (length-take-le place xs (omega (arith, below)))

  -- one step more
  pub step_more : (repair more : List (RepairStep S)) (step : RepairStep S) (rest : List PlainStep) → more ≡ repair ++ step ∷ []
      → plain_steps index repair ++ plain_step index step ∷ rest ≡ plain_steps index more ++ rest
  step_more repair more step rest pushed =
      sym (append_assoc (plain_steps index repair) (plain_step index step ∷ []) rest)
      ∙ ap (λ (l : List PlainStep). l ++ rest) (sym (map-append (plain_step index) repair (step ∷ [])))
      ∙ ap (λ (l : List (RepairStep S)). plain_steps index l ++ rest) (sym pushed)

-- those of more steps than there are
pub no_longer : (avoided : List Bool) (end : ℕ) (next : ℕ → List PlainLink) (class : Class) (m gap : ℕ)
    → ((s : ℕ) → m ≤ s → s < m + gap → rests avoided end next s (form_of class false) 0 ≡ [])
    → shorter avoided end next class (m + gap) ≡ shorter avoided end next class m
no_longer avoided end next class m zero none = ap (λ (n : ℕ). shorter avoided end next class n) (let e : m + 0 ≡ m = omega arith in e)
no_longer avoided end next class m (suc gap) none =
    let e : m + suc gap ≡ suc (m + gap) = omega arith in
    ap (λ (n : ℕ). shorter avoided end next class n) e
    ∙ ap (λ (l : List (List PlainStep)). shorter avoided end next class (m + gap) ++ l) (none (m + gap) (omega arith) (omega arith))
    ∙ append-nil (shorter avoided end next class (m + gap))
    ∙ no_longer avoided end next class m gap (λ s above below. none s above (omega (arith, below)))

module _ {S : Type 0} (index : S → ℕ) (avoided : List Bool) (end : ℕ) (next : ℕ → List PlainLink) (s : ℕ) (form : Form) where
  -- the sequence at the place begins with this link
  pub is_choice : (layer : Layer) → IsLayer (rests avoided end next s) layer → (node : ℕ) (links : List (Link S)) (i : ℕ) (link : Link S) (after : Form)
      (place left many : ℕ) → i < length links → link ≡ get_or links i link → map (plain_link index) links ≡ next node
      → left + length (flat_map (rests_by avoided end next s form) (map (plain_link index) (take i links))) ≡ place → left ≤ place
      → after ≡ form_after avoided form (plain_step index link.step) → many ≡ count_in layer after link.to → left < many
      → IsChoice index (rests avoided end next s) (rests avoided end next (suc s) form node) place
      (record { step = link.step; node = link.to; form = after; place = left })
  is_choice layer is node links i link after place left many below read are sum less form_is count within =
      let by_count : many ≡ counted (rests avoided end next s after link.to) = count ∙ count_is (rests avoided end next s) layer is link.to after in
      let by_form : left < counted (rests avoided end next s (form_after avoided form (plain_step index link.step)) link.to) =
      subst (λ (f : Form). left < counted (rests avoided end next s f link.to)) form_is (omega (arith, by_count, within)) in
      record {
        within = omega (arith, by_count, within);
        no_more = less;
        is = λ d.
            ap (λ (l : List PlainLink). get_or (flat_map (rests_by avoided end next s form) l) place d) (sym are)
            ∙ place_by index avoided end next s form links i link place left d below read sum by_form
            ∙ ap (λ (f : Form). plain_step index link.step ∷ get_or (rests avoided end next s f link.to) left d) (sym form_is);
      }

  -- or it comes after those of the link
  pub past_link : (layer : Layer) → IsLayer (rests avoided end next s) layer → (links : List (Link S)) (i : ℕ) (link : Link S) (after : Form)
      (place left many rest : ℕ) → i < length links → link ≡ get_or links i link
      → left + length (flat_map (rests_by avoided end next s form) (map (plain_link index) (take i links))) ≡ place → left < 2 ^ 64 - 1
      → after ≡ form_after avoided form (plain_step index link.step) → many ≡ count_in layer after link.to → many ≤ left → rest + many ≡ left
      → rest + length (flat_map (rests_by avoided end next s form) (map (plain_link index) (take (i + 1) links))) ≡ place
  past_link layer is links i link after place left many rest below read sum fits form_is count past less =
      let by_count : many ≡ counted (rests avoided end next s (form_after avoided form (plain_step index link.step)) link.to) =
      count ∙ count_is (rests avoided end next s) layer is link.to after ∙ ap (λ (f : Form). counted (rests avoided end next s f link.to)) form_is in
      place_past index avoided end next s form links i link place left many rest below read sum by_count past fits less

  -- or there are no more
  pub past_all : (node : ℕ) (links : List (Link S)) (i place left : ℕ) → length links ≤ i → map (plain_link index) links ≡ next node
      → left + length (flat_map (rests_by avoided end next s form) (map (plain_link index) (take i links))) ≡ place
      → length (rests avoided end next (suc s) form node) ≤ place
  past_all node links i place left past are sum =
      let long : length (flat_map (rests_by avoided end next s form) (map (plain_link index) (take i links))) ≡ length (rests avoided end next (suc s) form node) =
      ap (λ (l : List (Link S)). length (flat_map (rests_by avoided end next s form) (map (plain_link index) l))) (take_all i links past)
      ∙ ap (λ (l : List PlainLink). length (flat_map (rests_by avoided end next s form) l)) are in
      omega (arith, long, sum)

-- the repair so far and one step more
pub goes_on : {S : Type 0} (index : S → ℕ) (begin : ℕ → Form → ℕ → List (List PlainStep)) (all : List (List PlainStep)) (start left after : ℕ) (form : Form)
    (node place : ℕ) (choice : Choice S) (repair more : List (RepairStep S)) → left ≡ suc after → more ≡ repair ++ choice.step ∷ []
    → IsChoice index (begin after) (begin (suc after) form node) place choice
    → ((d : List PlainStep) → get_or all start d ≡ plain_steps index repair ++ get_or (begin left form node) place d) → (d : List PlainStep)
    → get_or all start d ≡ plain_steps index more ++ get_or (begin after choice.form choice.node) choice.place d
goes_on index begin all start left after form node place choice repair more one pushed is so d =
    so d
    ∙ ap (λ (n : ℕ). plain_steps index repair ++ get_or (begin n form node) place d) one
    ∙ ap (λ (l : List PlainStep). plain_steps index repair ++ l) (is.is d)
    ∙ step_more index repair more choice.step (get_or (begin after choice.form choice.node) choice.place d) pushed

last_none : (b : Bool) (place : ℕ) (d : List PlainStep) → place < length (at_end b) → get_or (at_end b) place d ≡ []
last_none true zero d within = refl
last_none true (suc place) d within = absurd (omega (arith, within))
last_none false place d within = absurd (omega (arith, within))

-- no step is left
pub ends_there : {S : Type 0} (index : S → ℕ) (avoided : List Bool) (end : ℕ) (next : ℕ → List PlainLink) (all : List (List PlainStep)) (start left : ℕ)
    (form : Form) (node place : ℕ) (repair : List (RepairStep S)) → left ≡ 0 → place < length (rests avoided end next left form node)
    → ((d : List PlainStep) → get_or all start d ≡ plain_steps index repair ++ get_or (rests avoided end next left form node) place d)
    → (d : List PlainStep) → get_or all start d ≡ plain_steps index repair
ends_there index avoided end next all start left form node place repair none within so d =
    let inside = subst (λ (n : ℕ). place < length (rests avoided end next n form node)) none within in
    so d
    ∙ ap (λ (n : ℕ). plain_steps index repair ++ get_or (rests avoided end next n form node) place d) none
    ∙ ap (λ (l : List PlainStep). plain_steps index repair ++ l) (last_none ((node == end) && allows_none form.class) place d inside)
    ∙ append-nil (plain_steps index repair)

module _ (avoided : List Bool) (end : ℕ) (next : ℕ → List PlainLink) where
  -- those of one number of steps more
  pub class_more : (class : Class) (most steps : ℕ) (before now more : List (List PlainStep))
      → now ≡ added_first most before (shorter avoided end next class steps) → more ≡ added_first most now (rests avoided end next steps (form_of class false) 0)
      → more ≡ added_first most before (shorter avoided end next class (steps + 1))
  class_more class most steps before now more so added =
      let turned : suc steps ≡ steps + 1 = omega arith in
      added
      ∙ ap (λ (l : List (List PlainStep)). added_first most l (rests avoided end next steps (form_of class false) 0)) so
      ∙ added_joined most before (shorter avoided end next class steps) (rests avoided end next steps (form_of class false) 0)
      ∙ ap (λ (n : ℕ). added_first most before (shorter avoided end next class n)) turned

  as_many : (longest : ℕ) (layers : List Layer) (class : Class) → AreLayers (rests avoided end next) longest layers
      → shorter avoided end next class (length layers) ≡ shorter avoided end next class (longest + 1)
  as_many longest layers class are =
      let gap : length layers + (longest + 1 - length layers) ≡ longest + 1 = omega (arith, are.few) in
      sym (no_longer avoided end next class (length layers) (longest + 1 - length layers)
      (λ s above below. are.others s above (omega (arith, below, are.few)) (form_of class false) 0))
      ∙ ap (λ (n : ℕ). shorter avoided end next class n) gap

  -- both classes
  pub both_classes : (longest most : ℕ) (layers : List Layer) (before now more : List (List PlainStep)) → AreLayers (rests avoided end next) longest layers
      → now ≡ added_first most before (shorter avoided end next Clean (length layers))
      → more ≡ added_first most now (shorter avoided end next Avoided (length layers)) → more ≡ added_first most before (in_order avoided end next (longest + 1))
  both_classes longest most layers before now more are one other =
      other
      ∙ ap (λ (l : List (List PlainStep)). added_first most l (shorter avoided end next Avoided (length layers))) one
      ∙ added_joined most before (shorter avoided end next Clean (length layers)) (shorter avoided end next Avoided (length layers))
      ∙ ap₂ (λ (xs ys : List (List PlainStep)). added_first most before (xs ++ ys)) (as_many longest layers Clean are) (as_many longest layers Avoided are)

-- a layer of a list
pub layer_at : (begin : ℕ → Form → ℕ → List (List PlainStep)) (layers : List Layer) (steps : ℕ) (layer : Layer)
    → ((s : ℕ) (d : Layer) → s < length layers → IsLayer (begin s) (get_or layers s d)) → steps < length layers → layer ≡ get_or layers steps layer
    → IsLayer (begin steps) layer
layer_at begin layers steps layer each within read = subst (λ (k : Layer). IsLayer (begin steps) k) (sym read) (each steps layer within)

-- how many of a form there are there
pub many_at : (begin : ℕ → Form → ℕ → List (List PlainStep)) (layers : List Layer) (steps many node : ℕ) (layer : Layer) (form given : Form)
    → ((s : ℕ) (d : Layer) → s < length layers → IsLayer (begin s) (get_or layers s d)) → steps < length layers → layer ≡ get_or layers steps layer
    → form ≡ given → many ≡ count_in layer form node → many ≡ counted (begin steps given node)
many_at begin layers steps many node layer form given each within read is count =
    let here = layer_at begin layers steps layer each within read in
    count ∙ count_is (begin steps) layer here node form ∙ ap (λ (f : Form). counted (begin steps f node)) is
