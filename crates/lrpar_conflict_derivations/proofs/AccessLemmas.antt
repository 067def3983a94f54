-- The path up from an item of a state, by places on the access path of the state, to the start.
use Rattle.std.proofs.Common.{◌≡◌, ◌≢◌, ◌<◌, ◌≤◌, ◌+◌, ◌-◌, ◌*◌, ◌==◌, ◌⊎◌, ◌∙◌, if◌then◌else◌, refl, sym, ap, subst, inl, inr, arith, ℕ, Bool, true, false, List, [], ◌∷◌, ◌++◌, drop, length, map, reverse, take}
use Rattle.std.proofs.lemmas.List.{append_assoc, append-nil, length-reverse, length-take-le, reverse-append, reverse-reverse, length-drop, length-map, take-append-drop, take-take, take_all, drop_at, get_or_past}
use Rattle.std.proofs.lemmas.Bool.{eq-eqb, ne_eqb}
use Rattle.lrpar_grammar.specs.Grammar.{Grammar, GrammarSymbol, IsWellFormed, end_token, start_prod}
use Rattle.lrpar_table_rows.specs.Graph.{Graph, HasItem, item_at}
use Rattle.lrpar_table_items.specs.Canonical.{sets_of}
use Rattle.lrpar_table_items.specs.ItemSets.{IsReachedBy}
use Rattle.lrpar_table_build.proofs.ReachedLemmas.{reached_at_end, start_item_at_start}
use Rattle.lrpar_table_sentences.specs.Moves.{MoveOf, Makes}
use Rattle.lrpar_table_sentences.specs.AccessStrings.{StepOf, symbols_in}
use Rattle.lrpar_conflict_derivations.specs.ClosureLinks.{IsKernelItem}
use Rattle.lrpar_conflict_derivations.specs.Completion.{LeadsToKernel, HasFinished, HasItemFor, IsAccessPath, LeadsUp, UpOf, path_item, state_before}
use Rattle.lrpar_conflict_derivations.proofs.CompletionLemmas.{comes_from, up_back, up_end, up_then}

-- moves were appended that lead from production p with its dot at k up to production q with its dot at the front; the first one reduces p,
-- unless it is still q
pub record IsFinishing (g : Grammar) (token : ℕ) (symbols : List GrammarSymbol) (p k : ℕ) (asked : Bool) (old new : List MoveOf)
    (front : List GrammarSymbol) (q : ℕ) (further : Bool) : Type 0 where
  pub done : List MoveOf
  pub moves : new ≡ old ++ done
  pub leads : LeadsUp g token (path_item symbols p k asked) done (path_item front q 0 further)
  pub begins : ((done ≡ []) × (q ≡ p)) ⊎ ((rest : List MoveOf) × (done ≡ Makes p ∷ rest))

-- the symbols of the path before a place, from its end
reversed_front : (symbols : List GrammarSymbol) (i k : ℕ) → k ≤ i → i ≤ length symbols
    → drop k (reverse (take i symbols)) ≡ reverse (take (i - k) symbols)
reversed_front symbols i k low within =
    let all = take i symbols in
    let len : length all ≡ i = length-take-le i symbols within in
    let parts = take-append-drop (i - k) all in
    let front : take (i - k) all ≡ take (i - k) symbols = take-take (i - k) i symbols (omega arith) in
    let back : length (reverse (drop (i - k) all)) ≡ k =
    let one = length-reverse (drop (i - k) all) in let two = length-drop (i - k) all in omega (arith, one, two, len, low) in
    let turned : reverse all ≡ reverse (drop (i - k) all) ++ reverse (take (i - k) all) = ap reverse (sym parts) ∙ reverse-append (take (i - k) all) (drop (i - k) all) in
    ap (drop k) turned ∙ drop_at (reverse (drop (i - k) all)) (reverse (take (i - k) all)) k back ∙ ap reverse front

-- the state before the end is the last one
state_last : (steps : List StepOf) (last : ℕ) → state_before steps last (length steps) ≡ last
state_last steps last =
    let long = length-map steps (λ (x : StepOf). x.from) in get_or_past (map (λ (x : StepOf). x.from) steps) (length steps) last (omega (arith, long))

module _ (g : Grammar) (well : IsWellFormed g) (graph : Graph) (steps : List StepOf) (last : ℕ) (access_path : IsAccessPath g graph steps last) (token : ℕ) where
  -- from an item of the state at a place back to where its dot is at the front
  pub record IsBack (i p k : ℕ) (asked : Bool) : Type 0 where
    pub within : k ≤ i
    pub item : HasItemFor graph (state_before steps last (i - k)) token p 0 asked
    pub leads : LeadsUp g token (path_item (take i (symbols_in steps)) p k asked) [] (path_item (take (i - k) (symbols_in steps)) p 0 asked)

  back_from : (i p k : ℕ) (asked : Bool) → i ≤ length steps → HasItemFor graph (state_before steps last i) token p k asked → IsBack i p k asked
  back_from i p k asked inside item =
      let symbols = symbols_in steps in
      let long : length symbols ≡ length steps = length-map steps (λ (x : StepOf). x.symbol) in
      let path = reverse (take i symbols) in
      let reached : IsReachedBy g path (item_at p k item.0) = (access_path i inside (item_at p k item.0)).0 item.1 in
      let from = comes_from g well k path p item.0 reached in
      let len : length path ≡ i = length-reverse (take i symbols) ∙ length-take-le i symbols (omega (arith, inside, long)) in
      let low : k ≤ i = let within = from.within in omega (arith, within, len) in
      let after = reversed_front symbols i k low (omega (arith, inside, long)) in
      let there : IsReachedBy g (reverse (take (i - k) symbols)) (item_at p 0 item.0) =
      subst (λ (w : List GrammarSymbol). IsReachedBy g w (item_at p 0 item.0)) after from.item in
      let up = up_back g token well path p k item.0 asked from in
      let first : reverse path ≡ take i symbols = reverse-reverse (take i symbols) in
      let second : reverse (drop k path) ≡ take (i - k) symbols = ap reverse after ∙ reverse-reverse (take (i - k) symbols) in record {
        within = low;
        item = (item.0, (access_path (i - k) (omega (arith, inside, low)) (item_at p 0 item.0)).1 there, item.2);
        leads =
            subst (λ (w : List GrammarSymbol). LeadsUp g token (path_item w p k asked) [] (path_item (take (i - k) symbols) p 0 asked)) first
            (subst (λ (w : List GrammarSymbol). LeadsUp g token (path_item (reverse path) p k asked) [] (path_item w p 0 asked)) second up);
      }

  -- from an item of the last state
  pub back_from_last : (p k : ℕ) (asked : Bool) → HasItemFor graph last token p k asked → IsBack (length steps) p k asked
  back_from_last p k asked item =
      back_from (length steps) p k asked (omega arith) (subst (λ (s : ℕ). HasItemFor graph s token p k asked) (sym (state_last steps last)) item)

  -- from a kernel item of the state before a place
  pub back_from_kernel : (i s : ℕ) (up : UpOf) → i ≤ length steps → s ≡ state_before steps last i
      → IsKernelItem g (sets_of graph s) token up.prod up.dot up.asked → IsBack i up.prod up.dot up.asked
  back_from_kernel i s up inside is begun =
      back_from i up.prod up.dot up.asked inside
      (begun.lookahead, subst (λ (n : ℕ). HasItem graph n up.prod up.dot begun.lookahead) is begun.item, begun.own)

  -- at first, from an item of the last state; n is the number of steps
  pub finishing_first : (p k : ℕ) (asked : Bool) (old : List MoveOf) (n : ℕ) → length steps ≡ n → HasItemFor graph last token p k asked
      → (n - k ≤ length steps) × HasItemFor graph (state_before steps last (n - k)) token p 0 asked
      × IsFinishing g token (symbols_in steps) p k asked old old (take (n - k) (symbols_in steps)) p asked
  finishing_first p k asked old n len item =
      let symbols = symbols_in steps in
      let back = back_from_last p k asked item in
      let long : length symbols ≡ length steps = length-map steps (λ (x : StepOf). x.symbol) in
      let all : take (length steps) symbols ≡ symbols = take_all (length steps) symbols (omega (arith, long)) in
      let begun : IsFinishing g token symbols p k asked old old (take (length steps - k) symbols) p asked = record {
        done = [];
        moves = sym (append-nil old);
        leads =
            subst (λ (w : List GrammarSymbol). LeadsUp g token (path_item w p k asked) [] (path_item (take (length steps - k) symbols) p 0 asked)) all back.leads;
        begins = inl (refl, refl);
      } in
      let Ready = λ (m : ℕ).
      (m - k ≤ length steps) × HasItemFor graph (state_before steps last (m - k)) token p 0 asked
      × IsFinishing g token symbols p k asked old old (take (m - k) symbols) p asked in
      subst Ready len (omega arith, back.item, begun)

  -- one state further up
  pub finishing_more : (p k : ℕ) (asked : Bool) (old middle new : List MoveOf) (i q : ℕ) (further : Bool) (up : UpOf)
      → IsFinishing g token (symbols_in steps) p k asked old middle (take i (symbols_in steps)) q further
      → LeadsToKernel g token q further middle new up → IsBack i up.prod up.dot up.asked
      → IsFinishing g token (symbols_in steps) p k asked old new (take (i - up.dot) (symbols_in steps)) up.prod up.asked
  finishing_more p k asked old middle new i q further up path_up to_kernel back =
      let symbols = symbols_in steps in
      let start = path_item symbols p k asked in
      let here = path_item (take i symbols) q 0 further in
      let there = path_item (take i symbols) up.prod up.dot up.asked in
      let end = path_item (take (i - up.dot) symbols) up.prod 0 up.asked in
      let node = Makes q ∷ to_kernel.more in
      let two = up_then g token here there end node [] (to_kernel.leads (take i symbols)) back.leads in
      let own : LeadsUp g token here node end = subst (λ (ms : List MoveOf). LeadsUp g token here ms end) (append-nil node) two in
      let all = up_then g token start here end path_up.done node path_up.leads own in
      let moves : new ≡ old ++ (path_up.done ++ node) = to_kernel.moves ∙ ap (λ ms. ms ++ node) path_up.moves ∙ append_assoc old path_up.done node in record {
        done = path_up.done ++ node;
        moves = moves;
        leads = all;
        begins =
            elim path_up.begins [
              | inl first ↦ inr (to_kernel.more, ap (λ ms. ms ++ node) first.0 ∙ ap (λ (n : ℕ). Makes n ∷ to_kernel.more) first.1)
              | inr later ↦ inr (later.0 ++ node, ap (λ ms. ms ++ node) later.1)
            ];
      }

  -- at the start production the tree is complete
  pub finished : (p k : ℕ) (asked : Bool) (old new : List MoveOf) (i q : ℕ) (further : Bool) → i ≤ length steps → q ≡ start_prod g
      → HasItemFor graph (state_before steps last i) token q 0 further
      → IsFinishing g token (symbols_in steps) p k asked old new (take i (symbols_in steps)) q further
      → HasFinished g token (symbols_in steps) p k asked old new
  finished p k asked old new i q further inside is item path_up =
      let symbols = symbols_in steps in
      let path = reverse (take i symbols) in
      let at_start : HasItem graph (state_before steps last i) q 0 item.0 = item.1 in
      let reached : IsReachedBy g path (item_at q 0 item.0) = (access_path i inside (item_at q 0 item.0)).0 at_start in
      let none : path ≡ [] = start_item_at_start g well path (item_at q 0 item.0) reached is refl in
      let front : take i symbols ≡ [] = sym (reverse-reverse (take i symbols)) ∙ ap reverse none in
      let end : item.0 ≡ end_token g = reached_at_end g well path (item_at q 0 item.0) reached is in
      let leads : LeadsUp g token (path_item symbols p k asked) path_up.done (path_item [] (start_prod g) 0 further) =
      subst (λ (n : ℕ). LeadsUp g token (path_item symbols p k asked) path_up.done (path_item [] n 0 further)) is
      (subst (λ (w : List GrammarSymbol). LeadsUp g token (path_item symbols p k asked) path_up.done (path_item w q 0 further)) front path_up.leads) in record {
        later = path_up.done;
        moves = path_up.moves;
        finishes = up_end g token well (path_item symbols p k asked) path_up.done further (λ asks. sym (item.2 asks) ∙ end) leads;
        reduces =
            λ listed.
            elim path_up.begins [
              | inl first ↦ absurd (listed (sym first.1 ∙ is))
              | inr later ↦ later
            ];
      }

-- a number is one if another one isn't the start production's, and at most one in any case
other_one : (q s : ℕ) → q ≢ s → ◌≡◌ {A = ℕ} (if q == s then 0 else 1) 1
other_one q s apart = ap {B = ℕ} (λ (b : Bool). if b then 0 else 1) (ne_eqb q s apart)

one_at_most : (b : Bool) → (if b then 0 else 1) ≤ 1
one_at_most true = omega arith
one_at_most false = omega arith

same_none : (p s : ℕ) → p ≡ s → ◌≡◌ {A = ℕ} (if p == s then 0 else 1) 0
same_none p s same = ap {B = ℕ} (λ (b : Bool). if b then 0 else 1) (eq-eqb p s same)

-- each step up gets nearer to the start
pub nearer : (i d q p s : ℕ) → d ≤ i → q ≢ s → (0 < d) ⊎ (p ≡ s) → 2 * (i - d) + (if p == s then 0 else 1) < 2 * i + (if q == s then 0 else 1)
nearer i d q p s within apart (inl moved) =
    let one = other_one q s apart in let most = one_at_most (p == s) in omega (arith, one, most, within, moved)
nearer i d q p s within apart (inr last) =
    let one = other_one q s apart in let none = same_none p s last in omega (arith, one, none, within)
