-- Runs with repairs have one answer, if the recoverer has one at each error point.
use Rattle.std.proofs.Common.{◌≡◌, ◌+◌, ◌∙◌, inl, inr, ℕ, List, [], ◌∷◌, ◌++◌, None, Option, Some, map, option_map, ap, refl, subst, sym}
use Rattle.std.proofs.lemmas.List.{map-append}
use Rattle.std.proofs.lemmas.Option.{same_Some}
use Rattle.lrpar_grammar.specs.Grammar.{Grammar}
use Rattle.lrpar_grammar.specs.Sentence.{LexemeFacts}
use Rattle.lrpar_table_rows.specs.Table.{Table}
use Rattle.lrpar_parse_repair.specs.Repaired.{Consumes}
use Rattle.lrpar_parse_repair.specs.Recovery.{Point}
use Rattle.lrpar_parse.specs.RepairLaws.{SuppliesOne, RepairRunsOneWay}
use Rattle.lrpar_parse_run.specs.RepairRun.{IsListedAt, RepairRun, RepairStop, ends_there, fed_between, is_repaired, runs_through}
use Rattle.lrpar_table_stacks.specs.Run.{Accepted, Stop, Stopped}
use Rattle.lrpar_parse_repair.specs.Sequences.{PlainStep, PlainInsert, PlainDelete, PlainShift, AreThoseWith, Replays, Works}
use Rattle.lrpar_parse_repair.proofs.ReplayLemmas.{replay_one_way}
use Rattle.lrpar_table_stacks.proofs.RunLemmas.{runs_one_way}

-- a list has one list of those members that have P
those_one_way : {A : Type 0} (P : A → Type 0) (xs ys zs : List A) → AreThoseWith P xs ys → AreThoseWith P xs zs → ys ≡ zs
those_one_way P [] ys zs a b = a ∙ sym b
those_one_way {A} P (x ∷ xs) ys zs a b =
    elim a as (λ _. ys ≡ zs) [
      | inl kept ↦ elim b as (λ _. ys ≡ zs) [
        | inl other ↦ kept.1.2 ∙ (ap (λ (l : List A). x ∷ l) (those_one_way P xs kept.1.0 other.1.0 kept.1.1 other.1.1) ∙ sym other.1.2)
        | inr left ↦ absurd (left.0 kept.0)
      ]
      | inr out ↦ elim b as (λ _. ys ≡ zs) [
        | inl other ↦ absurd (out.0 other.0)
        | inr left ↦ those_one_way P xs ys zs out.1 left.1
      ]
    ]

-- lexemes that the same steps consume have the same facts
consumes_one_way : {X : Type 0} (facts : X → LexemeFacts) (lexemes : List X) (i : ℕ) (steps : List PlainStep) (xs ys : List X)
    → Consumes facts lexemes i steps xs → Consumes facts lexemes i steps ys → map facts xs ≡ map facts ys
consumes_one_way facts lexemes i [] xs ys x y = ap (map facts) (x ∙ sym y)
consumes_one_way facts lexemes i (PlainInsert t ∷ steps) [] ys x y = absurd x
consumes_one_way facts lexemes i (PlainInsert t ∷ steps) (l ∷ xs) [] x y = absurd y
consumes_one_way facts lexemes i (PlainInsert t ∷ steps) (l ∷ xs) (m ∷ ys) x y =
    let first : facts l ≡ facts m = x.0 ∙ sym y.0 in
    let rest = consumes_one_way facts lexemes i steps xs ys x.1 y.1 in
    cc
consumes_one_way facts lexemes i (PlainDelete ∷ steps) xs ys x y = consumes_one_way facts lexemes (i + 1) steps xs ys x y
consumes_one_way facts lexemes i (PlainShift ∷ steps) [] ys x y = absurd x
consumes_one_way facts lexemes i (PlainShift ∷ steps) (l ∷ xs) [] x y = absurd y
consumes_one_way facts lexemes i (PlainShift ∷ steps) (l ∷ xs) (m ∷ ys) x y =
    let same : l ≡ m = same_Some l m (sym x.0 ∙ y.0) in
    let first : facts l ≡ facts m = ap facts same in
    let rest = consumes_one_way facts lexemes (i + 1) steps xs ys x.1 y.1 in
    cc

-- and so has all that is consumed, if the run accepts
all_same : {X : Type 0} (facts : X → LexemeFacts) (fed recovered other : List X) (o p : Option (List X)) → map facts recovered ≡ map facts other
    → option_map (map facts) o ≡ option_map (map facts) p
    → option_map (map facts) (option_map (λ xs. fed ++ recovered ++ xs) o) ≡ option_map (map facts) (option_map (λ xs. fed ++ other ++ xs) p)
all_same facts fed recovered other None None same rest = refl
all_same facts fed recovered other None (Some ys) same rest = absurd (let no : ⊥ = cc in no)
all_same facts fed recovered other (Some xs) None same rest = absurd (let no : ⊥ = cc in no)
all_same facts fed recovered other (Some xs) (Some ys) same rest =
    let tails : map facts xs ≡ map facts ys = same_Some (map facts xs) (map facts ys) rest in
    let left : map facts (fed ++ recovered ++ xs) ≡ (map facts fed ++ map facts recovered) ++ map facts xs =
    map-append facts (fed ++ recovered) xs ∙ ap (λ (l : List LexemeFacts). l ++ map facts xs) (map-append facts fed recovered) in
    let right : map facts (fed ++ other ++ ys) ≡ (map facts fed ++ map facts other) ++ map facts ys =
    map-append facts (fed ++ other) ys ∙ ap (λ (l : List LexemeFacts). l ++ map facts ys) (map-append facts fed other) in
    let middle : (map facts fed ++ map facts recovered) ++ map facts xs ≡ (map facts fed ++ map facts other) ++ map facts ys = cc in
    ap Some (left ∙ (middle ∙ sym right))

module _ {X : Type 0} (facts : X → LexemeFacts) (allows : Point X → List (List PlainStep) → Type 0) (one : SuppliesOne allows) (k : ℕ) (g : Grammar) (table : Table) (lexemes : List X) where
  abbrev token : X → ℕ
  token x = (facts x).token

  abbrev Runs : List ℕ → ℕ → List RepairStop → Option (List X) → List ℕ → Type 0
  Runs st i stops consumed prods = RepairRun facts allows k g table lexemes st i stops consumed prods

  abbrev Lists : Stop → List (List PlainStep) → Type 0
  Lists stop listed = IsListedAt facts allows k g table lexemes stop listed

  -- what is listed at an error point is one list
  listed_one_way : (stop : Stop) (a b : List (List PlainStep)) → Lists stop a → Lists stop b → a ≡ b
  listed_one_way stop a b x y =
      let same : x.answer ≡ y.answer = one (record { lexemes = lexemes; place = stop.place; stack = stop.stack }) x.answer y.answer x.allowed y.allowed in
      those_one_way (Works token g table lexemes k stop.stack stop.place) x.answer a b x.those
      (subst (λ (l : List (List PlainStep)). AreThoseWith (Works token g table lexemes k stop.stack stop.place) l b) (sym same) y.those)

  -- two runs with an error point have the same one
  same_stop : (st : List ℕ) (i : ℕ) (stop other : Stop) → Stopped stop ≡ Stopped other → stop ≡ other
  same_stop st i stop other e = cc

  pub runs_same : (st : List ℕ) (i : ℕ) (a : List RepairStop) (xs : Option (List X)) (ps : List ℕ) (b : List RepairStop) (ys : Option (List X)) (qs : List ℕ)
      → Runs st i a xs ps → Runs st i b ys qs → (a ≡ b) × (option_map (map facts) xs ≡ option_map (map facts) ys) × (ps ≡ qs)
  runs_same _ _ _ _ _ _ _ _ (runs_through st i ps far) (runs_through st' i' qs far') =
      (refl, refl, (runs_one_way token g table lexemes st i ps qs Accepted Accepted far far').0)
  runs_same _ _ _ _ _ _ _ _ (runs_through st i ps far) (ends_there st' i' qs stop far' at) =
      absurd (let e : Accepted ≡ Stopped stop = (runs_one_way token g table lexemes st i ps qs Accepted (Stopped stop) far far').1 in let no : ⊥ = cc in no)
  runs_same _ _ _ _ _ _ _ _ (runs_through st i ps far) (is_repaired st' i' qs stop first listed made after j recovered found consumed rest far' at replays eaten run) =
      absurd (let e : Accepted ≡ Stopped stop = (runs_one_way token g table lexemes st i ps qs Accepted (Stopped stop) far far').1 in let no : ⊥ = cc in no)
  runs_same _ _ _ _ _ _ _ _ (ends_there st i ps stop far at) (runs_through st' i' qs far') =
      absurd (let e : Stopped stop ≡ Accepted = (runs_one_way token g table lexemes st i ps qs (Stopped stop) Accepted far far').1 in let no : ⊥ = cc in no)
  runs_same _ _ _ _ _ _ _ _ (ends_there st i ps stop far at) (ends_there st' i' qs other far' at') =
      let same = runs_one_way token g table lexemes st i ps qs (Stopped stop) (Stopped other) far far' in
      let s = same_stop st i stop other same.1 in
      (ap (λ (w : Stop). record { stop = w; listed = [] } ∷ []) s, refl, same.0)
  runs_same _ _ _ _ _ _ _ _ (ends_there st i ps stop far at) (is_repaired st' i' qs other first listed made after j recovered found consumed rest far' at' replays eaten run) =
      let s = same_stop st i stop other (runs_one_way token g table lexemes st i ps qs (Stopped stop) (Stopped other) far far').1 in
      let l = listed_one_way stop [] (first ∷ listed) at (subst (λ (w : Stop). Lists w (first ∷ listed)) (sym s) at') in
      absurd (let no : ⊥ = cc in no)
  runs_same _ _ _ _ _ _ _ _ (is_repaired st i ps stop first listed made after j recovered found consumed rest far at replays eaten run) (runs_through st' i' qs far') =
      absurd (let e : Stopped stop ≡ Accepted = (runs_one_way token g table lexemes st i ps qs (Stopped stop) Accepted far far').1 in let no : ⊥ = cc in no)
  runs_same _ _ _ _ _ _ _ _ (is_repaired st i ps stop first listed made after j recovered found consumed rest far at replays eaten run) (ends_there st' i' qs other far' at') =
      let s = same_stop st i stop other (runs_one_way token g table lexemes st i ps qs (Stopped stop) (Stopped other) far far').1 in
      let l = listed_one_way stop (first ∷ listed) [] at (subst (λ (w : Stop). Lists w []) (sym s) at') in
      absurd (let no : ⊥ = cc in no)
  runs_same _ _ _ _ _ _ _ _ (is_repaired st i ps stop first listed made after j recovered found consumed rest far at replays eaten run)
      (is_repaired st' i' qs other first' listed' made' after' j' recovered' found' consumed' rest' far' at' replays' eaten' run') =
      let same = runs_one_way token g table lexemes st i ps qs (Stopped stop) (Stopped other) far far' in
      let s = same_stop st i stop other same.1 in
      let l = listed_one_way stop (first ∷ listed) (first' ∷ listed') at (subst (λ (w : Stop). Lists w (first' ∷ listed')) (sym s) at') in
      let f : first ≡ first' = cc in
      let by = subst (λ (w : List PlainStep). Replays token g table lexemes stop.stack stop.place w made' after' j') (sym f)
      (subst (λ (w : Stop). Replays token g table lexemes w.stack w.place first' made' after' j') (sym s) replays') in
      let to = replay_one_way token g table lexemes stop.stack stop.place first made after j made' after' j' replays by in
      let eats = subst (λ (w : List PlainStep). Consumes facts lexemes stop.place w recovered') (sym f) (subst (λ (w : Stop). Consumes facts lexemes w.place first' recovered') (sym s) eaten') in
      let next = subst (λ (w : List ℕ). Runs w j found' consumed' rest') (sym to.1) (subst (λ (n : ℕ). Runs after' n found' consumed' rest') (sym to.2) run') in
      let more = runs_same after j found consumed rest found' consumed' rest' run next in
      let kept = consumes_one_way facts lexemes stop.place first recovered recovered' eaten eats in (
        ap (λ (w : Stop). record { stop = w; listed = first ∷ listed } ∷ found) s
            ∙ (ap (λ (w : List (List PlainStep)). record { stop = other; listed = w } ∷ found) l ∙ ap (λ (w : List RepairStop). record { stop = other; listed = first' ∷ listed' } ∷ w) more.0),
        all_same facts (fed_between lexemes i stop.place) recovered recovered' consumed consumed' kept more.1
            ∙ ap (λ (w : Stop). option_map (map facts) (option_map (λ xs. fed_between lexemes i w.place ++ recovered' ++ xs) consumed')) s,
        ap (λ (w : List ℕ). w ++ made ++ rest) same.0 ∙ (ap (λ (w : List ℕ). qs ++ w ++ rest) to.0 ∙ ap (λ (w : List ℕ). qs ++ made' ++ w) more.2),
      )

pub repair_runs_one_way : {X : Type 0} (facts : X → LexemeFacts) (allows : Point X → List (List PlainStep) → Type 0) → RepairRunsOneWay facts allows
repair_runs_one_way facts allows one k g table lexemes st i a b xs ys ps qs x y = runs_same facts allows one k g table lexemes st i a xs ps b ys qs x y
