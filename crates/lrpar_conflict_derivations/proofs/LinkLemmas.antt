-- Links of a state: those from kernel items come first, and then those from items of rules that have links. Once each of these has its
-- links, each item that the state has by closure has a link of its rule.
use Rattle.std.proofs.Common.{◌≡◌, ◌≢◌, ◌<◌, ◌≤◌, ◌+◌, ◌-◌, ◌⊎◌, ◌↔◌, ◌∙◌, refl, sym, ap, subst, inl, inr, arith, ℕ, zero, suc, Bool, true, false, IsTrue, List, [], ◌∷◌, ◌++◌, drop, length, map, get_or}
use mathlib.Core.Bool.{beq}
use Rattle.std.specs.List.{Contains}
use Rattle.std.proofs.lemmas.Bool.{cases_lt, false≢true}
use Rattle.std.proofs.lemmas.List.{get_or-append_right, get_or-map, get_or_default, length-append, length-map}
use Rattle.std.proofs.lemmas.List.Elements.{All-get_or, Contains-push_cases}
use Rattle.lrpar_grammar_places.specs.declared.span.PIdx.{PIdx}
use Rattle.lrpar_grammar_places.specs.declared.span.StIdx.{StIdx}
use Rattle.lrpar_grammar_places.specs.declared.span.TIdx.{TIdx}
use Rattle.lrpar_grammar.specs.Grammar.{Grammar, GrammarSymbol, IsWellFormed, Nonterminal, Terminal, prod_len, prods_len, rule_of, rules_len, start_prod, symbols_of}
use Rattle.lrpar_table_rows.specs.Graph.{Graph, HasCore, HasItem, ItemOf, graph_len, item_at}
use Rattle.lrpar_table_rows.specs.PlainItems.{core_of}
use Rattle.lrpar_table_rows.proofs.ItemLemmas.{Contains-image}
use Rattle.lrpar_table_first.specs.First.{IsFirst}
use Rattle.lrpar_table_first.specs.FirstRows.{dummy_lookahead}
use Rattle.lrpar_table_first.proofs.FirstLemmas.{AreBelow, first_by_dummy}
use Rattle.lrpar_table_first.proofs.GrowthLemmas.{prods_below}
use Rattle.lrpar_table_items.specs.Canonical.{AreSame, IsCanonical, sets_of}
use Rattle.lrpar_table_items.specs.ItemSets.{Adds, IsAdvanced, IsReachedBy, IsStartItem, Own}
use Rattle.lrpar_table_build.proofs.ReachedLemmas.{closure_each, head_after, known_by_symbol, reached_items, symbol_listed}
use Rattle.lrpar_conflict_derivations.specs.ClosureLinks.{AreKernelItemsNoted, AreLinks, AreNoted, AreNotedOf, ArePut, HasLink, IsAsked, IsKernelItem, IsKernelLink, IsLink, IsLinkBelow, IsNotedCore, IsStep, LinkAll, LinkOf, PassesOn, link_at, link_of, links_of}
use Rattle.lrpar_conflict_derivations.specs.Stored.{AreMarked, PutsFromKernel, links_in}
use Rattle.lrpar_conflict_derivations.specs.declared.closure_links.Found.{Found}
use Rattle.lrpar_conflict_derivations.specs.declared.closure_links.Link.{Link}
use Rattle.lrpar_conflict_derivations.proofs.MarkLemmas.{AreNoted-kept, link-append, put_then, put_weaker}

-- the items of a state are of the grammar
pub core_known : (g : Grammar) → IsWellFormed g → (graph : Graph) → IsCanonical g graph → (s p k : ℕ) → s < graph_len graph → HasCore graph s p k
    → (p < prods_len g) × (k ≤ prod_len g p)
core_known g well graph canonical s p k low has_core =
    let item = item_at p k has_core.0 in
    let reached = canonical.reached s low in
    let known = reached_items g well reached.0 item ((reached.1 item).0 has_core.1) in (known.prod, known.dot)

pub core_asked : (g : Grammar) (rows : List (List Bool)) (graph : Graph) (s token : ℕ) → IsAsked g rows graph s token → (p k : ℕ) → HasCore graph s p k
    → (p < prods_len g) × (k ≤ prod_len g p)
core_asked g rows graph s token asked p k has_core = core_known g asked.well_formed graph asked.canonical s p k asked.state has_core

-- a step, given by its own numbers
pub own_step : (g : Grammar) (token q j : ℕ) (further : Bool) (above : ℕ) (x : LinkOf) → IsStep g token q j further above x
    → IsStep g token x.prod x.dot x.further x.above x
own_step g token q j further above x step = record {
  prod = refl;
  dot = refl;
  further_is = refl;
  above_is = refl;
  rest = step.rest;
  before =
      subst (λ (n : ℕ). drop n (symbols_of g x.prod) ≡ Nonterminal x.rule ∷ step.rest) (sym step.dot)
      (subst (λ (n : ℕ). drop j (symbols_of g n) ≡ Nonterminal x.rule ∷ step.rest) (sym step.prod) step.before);
  passes = subst (λ (b : Bool). PassesOn g token step.rest x.asked b) (sym step.further_is) step.passes;
}

-- from a kernel item it is such a link
pub begun_link : (g : Grammar) (set : ItemOf → Type 0) (token q j : ℕ) (further : Bool) (above : ℕ) (x : LinkOf) → IsKernelItem g set token q j further
    → IsStep g token q j further above x → IsKernelLink g set token x
begun_link g set token q j further above x begun step = (
  own_step g token q j further above x step,
  subst (λ (b : Bool). IsKernelItem g set token x.prod x.dot b) (sym step.further_is)
      (subst (λ (n : ℕ). IsKernelItem g set token x.prod n further) (sym step.dot)
      (subst (λ (n : ℕ). IsKernelItem g set token n j further) (sym step.prod) begun)),
)

-- the symbols that are left, each below the dummy lookahead
pub AreBelow-drop : (dummy n : ℕ) (w : List GrammarSymbol) → AreBelow dummy w → AreBelow dummy (drop n w)
AreBelow-drop dummy zero w below = below
AreBelow-drop dummy (suc n) [] below = tt
AreBelow-drop dummy (suc n) (Terminal t ∷ w) below = AreBelow-drop dummy n w below.1
AreBelow-drop dummy (suc n) (Nonterminal r ∷ w) below = AreBelow-drop dummy n w below

-- links that are appended
module _ (g : Grammar) (set : ItemOf → Type 0) (token : ℕ) where
  -- a link of a longer list is one of the shorter one, or of those appended to it
  put_cases : (Good : LinkOf → Type 0) (old new : List LinkOf) (put : ArePut Good old new) (i : ℕ) → i < length new
      → ((i < length old) × (link_at new i ≡ link_at old i)) ⊎ ((length old ≤ i) × Good (link_at new i))
  put_cases Good old new put i low =
      let all : link_at new i ≡ link_at (old ++ put.more) i = ap (λ (xs : List LinkOf). link_at xs i) put.put in
      elim (cases_lt i (length old)) [
        | inl before ↦ inl (before, all ∙ link-append old put.more i before)
        | inr beyond ↦
            let long : length new ≡ length old + length put.more = ap (λ (xs : List LinkOf). length xs) put.put ∙ length-append old put.more in
            let here : link_at (old ++ put.more) i ≡ link_at put.more (i - length old) =
            get_or-append_right old put.more (length old) i _ refl beyond in
            let within : i - length old < length put.more = omega (arith, low, long, beyond) in
            inr (beyond, subst Good (sym (all ∙ here)) (All-get_or Good put.more (i - length old) _ within put.good))
      ]

  -- a link stays what it is
  link_kept : (Good : LinkOf → Type 0) (old new : List LinkOf) (put : ArePut Good old new) (i : ℕ) → i < length old → link_at new i ≡ link_at old i
      → IsLink g set token old i → IsLink g set token new i
  link_kept Good old new put i low same link = record {
    step = subst (λ (x : LinkOf). IsStep g token x.prod x.dot x.further x.above x) (sym same) link.step;
    from =
        subst (λ (x : LinkOf). IsKernelItem g set token x.prod x.dot x.further
        ⊎ ((x.dot ≡ 0) × (x.prod ≢ start_prod g) × (x.above < i) × ((link_at new x.above).rule ≡ rule_of g x.prod) × ((link_at new x.above).asked ≡ x.further)))
        (sym same)
        (elim link.from [
          | inl begun ↦ inl begun
          | inr below ↦
              let x = link_at old i in
              let above : link_at new x.above ≡ link_at old x.above =
              ap (λ (xs : List LinkOf). link_at xs x.above) put.put ∙ link-append old put.more x.above (let early = below.2 in omega (arith, early, low)) in
              inr (below.0, below.1, below.2, ap (λ (y : LinkOf). y.rule) above ∙ below.3, ap (λ (y : LinkOf). y.asked) above ∙ below.4)
        ]);
  }

  pub links_begun : (old new : List LinkOf) → AreLinks g set token old → ArePut (IsKernelLink g set token) old new → AreLinks g set token new
  links_begun old new links put i low =
      elim (put_cases (IsKernelLink g set token) old new put i low) [
        | inl before ↦ link_kept (IsKernelLink g set token) old new put i before.0 before.1 (links i before.0)
        | inr beyond ↦ record { step = beyond.1.0; from = inl beyond.1.1 }
      ]

  -- a symbol after a dot is no added rule
  pub rule_within : IsWellFormed g → (x : LinkOf) → IsStep g token x.prod x.dot x.further x.above x → (0 < x.rule) × (x.rule < rules_len g)
  rule_within well x step =
      symbol_listed g well x.prod x.dot (Nonterminal x.rule) (head_after (symbols_of g x.prod) x.dot (Nonterminal x.rule) step.rest step.before)

  pub links_below : IsWellFormed g → (old new : List LinkOf) (at : ℕ) (x : LinkOf) → at < length old → x ≡ link_at old at → AreLinks g set token old
      → ArePut (IsLinkBelow g token at x.rule x.asked) old new → AreLinks g set token new
  links_below well old new at x inside is links put i low =
      let Good = IsLinkBelow g token at x.rule x.asked in
      elim (put_cases Good old new put i low) [
        | inl before ↦ link_kept Good old new put i before.0 before.1 (links i before.0)
        | inr beyond ↦
            let y = link_at new i in
            let step = beyond.1.0 in
            let above : y.above ≡ at = step.above_is in
            let there : link_at new y.above ≡ x =
            ap (link_at new) above ∙ ap (λ (xs : List LinkOf). link_at xs at) put.put ∙ link-append old put.more at inside ∙ sym is in
            let own = rule_within well x (subst (λ (z : LinkOf). IsStep g token z.prod z.dot z.further z.above z) (sym is) (links at inside).step) in
            let listed : y.prod ≢ start_prod g =
            λ last.
            let none : x.rule ≡ 0 = sym beyond.1.2 ∙ ap (rule_of g) last ∙ well.last_rule in
            let some = own.0 in omega (arith, none, some) in record {
              step = own_step g token y.prod 0 x.asked at y step;
              from =
                  inr (
                    step.dot,
                    listed,
                    (let far = beyond.0 in omega (arith, above, inside, far)),
                    ap (λ (z : LinkOf). z.rule) there ∙ sym beyond.1.2,
                    ap (λ (z : LinkOf). z.asked) there ∙ sym step.further_is,
                  );
            }
      ]

-- once the kernel items have their links, and so have the productions of rules with links, each item has a link
module _ (g : Grammar) (well : IsWellFormed g) (token : ℕ) (links : List LinkOf)
    (each : (i : ℕ) → i < length links → AreNotedOf g token links (link_at links i).rule (link_at links i).asked) where
  -- what is known of an item of the closure
  abbrev IsLinked : ItemOf → Type 0
  IsLinked y = (asked : Bool) → (IsTrue asked → y.token ≡ token)
      → (y.dot ≡ 0 → y.prod ≢ start_prod g → HasLink links asked (rule_of g y.prod)) × AreNoted g token links y.prod y.dot asked

  below_rest : (x y : ItemOf) → x.prod < prods_len g → (adds : Adds g x y) → AreBelow (dummy_lookahead g) adds.rest
  below_rest x y known adds =
      let left = AreBelow-drop (dummy_lookahead g) x.dot (symbols_of g x.prod) (prods_below g well x.prod known) in
      subst (AreBelow (dummy_lookahead g)) adds.before left

  link_by : (x y : ItemOf) (adds : Adds g x y) → IsLinked x → (asked : Bool) → (IsTrue asked → y.token ≡ token) → HasLink links asked adds.rule
  link_by x y adds linked false own = (linked false (λ is. absurd (false≢true is))).1 adds.rule adds.rest false adds.before tt
  link_by x y adds linked true own =
      let known = known_by_symbol g well x.prod x.dot (Nonterminal adds.rule)
      (head_after (symbols_of g x.prod) x.dot (Nonterminal adds.rule) adds.rest adds.before) in
      let same : y.token ≡ token = own refl in
      elim (first_by_dummy g (dummy_lookahead g) (prods_below g well) x.token adds.rest y.token (below_rest x y known adds) adds.first) as (λ _. HasLink links true adds.rule) [
        | inl here ↦
            let begins = subst (λ (n : ℕ). IsFirst g (dummy_lookahead g) adds.rest n) same here.1 in
            (linked false (λ is. absurd (false≢true is))).1 adds.rule adds.rest true adds.before begins
        | inr through ↦
            let from : x.token ≡ token = sym through.1 ∙ same in
            (linked true (λ _. from)).1 adds.rule adds.rest true adds.before through.0
      ]

  added_linked : (x y : ItemOf) → IsLinked x → Adds g x y → IsLinked y
  added_linked x y linked adds asked own =
      let has_one = link_by x y adds linked asked own in
      let here : HasLink links asked (rule_of g y.prod) = subst (HasLink links asked) (sym adds.of_rule) has_one in
      let noted = each has_one.0 has_one.1 y.prod adds.known (adds.of_rule ∙ sym has_one.2) in (
        λ front listed. here,
        subst (λ (n : ℕ). AreNoted g token links y.prod n asked) (sym adds.fresh)
            (subst (λ (b : Bool). AreNoted g token links y.prod 0 b) has_one.3 noted),
      )

  -- it is known of kernel items
  begun_linked : (set : ItemOf → Type 0) → AreKernelItemsNoted g set token links → (y : ItemOf) → set y → (0 < y.dot) ⊎ (y.prod ≡ start_prod g) → IsLinked y
  begun_linked set begun y has_item at asked own = (
    λ front listed.
        elim at [
          | inl moved ↦ absurd (omega (arith, moved, front))
          | inr last ↦ absurd (listed last)
        ],
    begun y.prod y.dot asked (record { begun = at; lookahead = y.token; item = has_item; own = own }),
  )

  reached_linked : (set : ItemOf → Type 0) (path : List GrammarSymbol) → AreSame set (IsReachedBy g path) → AreKernelItemsNoted g set token links
      → (y : ItemOf) → IsReachedBy g path y → IsLinked y
  reached_linked set [] same begun =
      closure_each g IsLinked added_linked (IsStartItem g)
      (λ y is. begun_linked set begun y ((same y).1 (Own y is)) (inr (ap (λ (x : ItemOf). x.prod) is)))
  reached_linked set (s ∷ path) same begun =
      closure_each g IsLinked added_linked (IsAdvanced g (IsReachedBy g path) s)
      (λ y from.
      let moved : y.dot ≡ from.0.dot + 1 = ap (λ (x : ItemOf). x.dot) from.3 in
      begun_linked set begun y ((same y).1 (Own y from)) (inl (omega (arith, moved))))

  pub all_linked : (set : ItemOf → Type 0) (path : List GrammarSymbol) → AreSame set (IsReachedBy g path) → AreKernelItemsNoted g set token links
      → LinkAll g set token links
  all_linked set path same begun y asked has_item front listed own =
      (reached_linked set path same begun y ((same y).0 has_item) asked own).0 front listed

-- what comes by closure with one core of a state is linked: for any lookahead, and for the token, if it is one of the core's
module _ (g : Grammar) (graph : Graph) (s token q j : ℕ) (old middle new : List LinkOf) (has_core : HasCore graph s q j)
    (at : (0 < j) ⊎ (q ≡ start_prod g)) (first : ArePut (IsStep g token q j false 0) old middle) where
  -- links for any lookahead are from an item
  any_link : (x : LinkOf) → IsStep g token q j false 0 x → IsKernelLink g (sets_of graph s) token x
  any_link x step =
      begun_link g (sets_of graph s) token q j false 0 x
      (record { begun = at; lookahead = has_core.0; item = has_core.1; own = λ is. absurd (false≢true is) }) step

  pub put_any : ArePut (IsKernelLink g (sets_of graph s) token) old middle
  put_any = put_weaker (IsStep g token q j false 0) (IsKernelLink g (sets_of graph s) token) old middle any_link first

  pub put_both : HasItem graph s q j token → ArePut (IsStep g token q j true 0) middle new → ArePut (IsKernelLink g (sets_of graph s) token) old new
  put_both has_item second =
      let asked_link : (x : LinkOf) → IsStep g token q j true 0 x → IsKernelLink g (sets_of graph s) token x =
      λ x step.
      begun_link g (sets_of graph s) token q j true 0 x
      (record { begun = at; lookahead = token; item = has_item; own = λ is. refl }) step in
      put_then (IsKernelLink g (sets_of graph s) token) old middle new put_any
      (put_weaker (IsStep g token q j true 0) (IsKernelLink g (sets_of graph s) token) middle new asked_link second)

  pub noted_all : ArePut (IsStep g token q j true 0) middle new → AreNoted g token middle q j false → AreNoted g token new q j true → (asked : Bool)
      → IsKernelItem g (sets_of graph s) token q j asked → AreNoted g token new q j asked
  noted_all second any asked true begun = asked
  noted_all second any asked false begun = AreNoted-kept g token (IsStep g token q j true 0) middle new second q j false any

  pub noted_alone : ¬ (HasItem graph s q j token) → AreNoted g token middle q j false → (asked : Bool)
      → IsKernelItem g (sets_of graph s) token q j asked → AreNoted g token middle q j asked
  noted_alone none any true begun = absurd (none (subst (λ (n : ℕ). HasItem graph s q j n) (begun.own refl) begun.item))
  noted_alone none any false begun = any

-- a core among those of code
pub core_in : {S : Type 0} (index : S → ℕ) (cores : List (PIdx S × ℕ)) (i : ℕ) (core : PIdx S × ℕ) → i < length cores → core ≡ get_or cores i core
    → Contains (map (core_of index) cores) (core_of index core)
core_in index cores i core low is = Contains-image (core_of index) cores core (i, low, sym is)

module _ (g : Grammar) (set : ItemOf → Type 0) (token : ℕ) (Good : LinkOf → Type 0) (old new : List LinkOf) (put : ArePut Good old new) where
  -- what comes with a core stays linked
  pub noted_kept : (q j : ℕ) → IsNotedCore g set token old q j → IsNotedCore g set token new q j
  noted_kept q j noted asked begun = AreNoted-kept g token Good old new put q j asked (noted asked begun)

  -- and of one core more
  pub cores_more : (before after : List (ℕ × ℕ)) (p k : ℕ) → after ≡ before ++ (p, k) ∷ []
      → ((q j : ℕ) → Contains before (q, j) → IsNotedCore g set token old q j) → IsNotedCore g set token new p k
      → (q j : ℕ) → Contains after (q, j) → IsNotedCore g set token new q j
  cores_more before after p k is noted fresh q j has_one =
      elim (Contains-push_cases before (p, k) (q, j) (subst (λ (xs : List (ℕ × ℕ)). Contains xs (q, j)) is has_one)) as (λ _. IsNotedCore g set token new q j) [
        | inl early ↦ noted_kept q j (noted q j early)
        | inr same ↦ subst (λ (c : ℕ × ℕ). IsNotedCore g set token new c.0 c.1) same fresh
      ]

  -- and of one production more
  pub prods_more : (before after : List ℕ) (n : ℕ) (asked : Bool) → after ≡ before ++ n ∷ []
      → ((p : ℕ) → Contains before p → AreNoted g token old p 0 asked) → AreNoted g token new n 0 asked
      → (p : ℕ) → Contains after p → AreNoted g token new p 0 asked
  prods_more before after n asked is noted fresh p has_one =
      elim (Contains-push_cases before n p (subst (λ (xs : List ℕ). Contains xs p) is has_one)) as (λ _. AreNoted g token new p 0 asked) [
        | inl early ↦ AreNoted-kept g token Good old new put p 0 asked (noted p early)
        | inr same ↦ subst (λ (m : ℕ). AreNoted g token new m 0 asked) same fresh
      ]

  pub notedOf_kept : (r : ℕ) (asked : Bool) → AreNotedOf g token old r asked → AreNotedOf g token new r asked
  notedOf_kept r asked noted p low is = AreNoted-kept g token Good old new put p 0 asked (noted p low is)

-- once the kernel cores and the start item have their links, all such items have
pub begun_noted : (g : Grammar) (graph : Graph) (s token : ℕ) (links : List LinkOf) (cores : List (ℕ × ℕ))
    → ((p k : ℕ) → (HasCore graph s p k × (0 < k)) ↔ Contains cores (p, k)) → IsNotedCore g (sets_of graph s) token links (start_prod g) 0
    → ((q j : ℕ) → Contains cores (q, j) → IsNotedCore g (sets_of graph s) token links q j) → AreKernelItemsNoted g (sets_of graph s) token links
begun_noted g graph s token links cores all start each q zero asked begun =
    elim begun.begun [
      | inl moved ↦ absurd (omega arith)
      | inr last ↦ subst (λ (n : ℕ). AreNoted g token links n 0 asked) (sym last)
          (start asked (subst (λ (n : ℕ). IsKernelItem g (sets_of graph s) token n 0 asked) last begun))
    ]
begun_noted g graph s token links cores all start each q (suc j) asked begun =
    each q (suc j) ((all q (suc j)).0 ((begun.lookahead, begun.item), omega arith)) asked begun

-- a step from a production of a rule
pub below_link : (g : Grammar) (token at r p : ℕ) (asked : Bool) (x : LinkOf) → p < prods_len g → rule_of g p ≡ r → IsStep g token p 0 asked at x
    → IsLinkBelow g token at r asked x
below_link g token at r p asked x low is step = (
  record {
    prod = refl;
    dot = step.dot;
    further_is = step.further_is;
    above_is = step.above_is;
    rest = step.rest;
    before = subst (λ (n : ℕ). symbols_of g n ≡ Nonterminal x.rule ∷ step.rest) (sym step.prod) step.before;
    passes = step.passes;
  },
  subst (λ (n : ℕ). n < prods_len g) (sym step.prod) low,
  ap (rule_of g) step.prod ∙ is,
)

-- a list that something is appended to gets no shorter
pub length_put : (Good : LinkOf → Type 0) (old new : List LinkOf) → ArePut Good old new → length old ≤ length new
length_put Good old new put =
    let long : length new ≡ length old + length put.more = ap (λ (xs : List LinkOf). length xs) put.put ∙ length-append old put.more in omega arith

-- a link of code, by its number
pub link_is : {S : Type 0} (index : S → ℕ) (links : List (Link S)) (i : ℕ) (link : Link S) → i < length links → link ≡ get_or links i link
    → link_of index link ≡ link_at (links_of index links) i
link_is {S} index links i link low is =
    let within : i < length (links_of index links) = let long = length-map links (link_of index) in omega arith in
    ap (link_of index) is ∙ sym (get_or-map (link_of index) links i link (link_of index link) low)
    ∙ get_or_default (links_of index links) i (link_of index link) _ within

module _ (g : Grammar) (set : ItemOf → Type 0) (token : ℕ) (Good : LinkOf → Type 0) (old new : List LinkOf) (put : ArePut Good old new) where
  pub begun_kept : AreKernelItemsNoted g set token old → AreKernelItemsNoted g set token new
  begun_kept begun q j = noted_kept g set token Good old new put q j (begun q j)

  -- what comes with one link more is linked
  pub ofs_more : (at : ℕ) (x : LinkOf) → at < length old → x ≡ link_at old at
      → ((i : ℕ) → i < at → AreNotedOf g token old (link_at old i).rule (link_at old i).asked) → AreNotedOf g token new x.rule x.asked
      → (i : ℕ) → i < at + 1 → AreNotedOf g token new (link_at new i).rule (link_at new i).asked
  ofs_more at x inside is before fresh i low =
      let same = λ (n : ℕ) (early : n < length old). ap (λ (xs : List LinkOf). link_at xs n) put.put ∙ link-append old put.more n early in
      elim (cases_lt i at) as (λ _. AreNotedOf g token new (link_at new i).rule (link_at new i).asked) [
        | inl early ↦
            subst (λ (y : LinkOf). AreNotedOf g token new y.rule y.asked) (sym (same i (omega (arith, early, inside))))
            (notedOf_kept g (λ _. ⊥) token Good old new put (link_at old i).rule (link_at old i).asked (before i early))
        | inr late ↦
            let here : at ≡ i = omega (arith, late, low) in
            subst (λ (n : ℕ). AreNotedOf g token new (link_at new n).rule (link_at new n).asked) here
            (subst (λ (y : LinkOf). AreNotedOf g token new y.rule y.asked) (is ∙ sym (same at inside)) fresh)
      ]

-- two truth values of which only one is true aren't equal
pub differ : (a b : Bool) → beq a b ≡ false → a ≡ b → ⊥
differ true true apart same = false≢true (sym apart)
differ false false apart same = false≢true (sym apart)
differ true false apart same = absurd (cc)
differ false true apart same = absurd (cc)

-- what fails for the cores so far, and for one more, fails for all of these
pub cores_fail : (Bad : ℕ → ℕ → Type 0) (before after : List (ℕ × ℕ)) (p k : ℕ) → after ≡ before ++ (p, k) ∷ []
    → ((q j : ℕ) → Contains before (q, j) → Bad q j → ⊥) → (Bad p k → ⊥) → (q j : ℕ) → Contains after (q, j) → Bad q j → ⊥
cores_fail Bad before after p k is none fails q j has_one bad =
    elim (Contains-push_cases before (p, k) (q, j) (subst (λ (xs : List (ℕ × ℕ)). Contains xs (q, j)) is has_one)) as (λ _. ⊥) [
      | inl early ↦ none q j early bad
      | inr same ↦ fails (subst (λ (c : ℕ × ℕ). Bad c.0 c.1) (sym same) bad)
    ]

-- the marks are right, links from kernel items were appended, and the start item has its links
abbrev pub IsKernelNoted : {S : Type 0} → (S → ℕ) → Grammar → Graph → StIdx S → TIdx S → Found S → Found S → Type 0
IsKernelNoted index g graph state token old found =
    AreMarked index g found × PutsFromKernel index g graph state token old found
    × IsNotedCore g (sets_of graph (index state.0)) (index token.0) (links_in index found) (start_prod g) 0
