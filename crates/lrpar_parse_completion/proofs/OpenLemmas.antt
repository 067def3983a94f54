-- From the rule of a production up to the item of a state by which it was opened, and down the stack from there. Each step appends a
-- minimal sentence of what comes after a rule; so what was appended, and what comes after the item's production, is what comes after the
-- rule from which the way began.
use Rattle.std.proofs.Common.{◌≡◌, ◌≢◌, ◌<◌, ◌≤◌, ◌+◌, ◌-◌, ◌∙◌, ◌⊎◌, ◌↔◌, inl, inr, refl, sym, ap, subst, arith, add-one, ℕ, zero, suc, List, [], ◌∷◌, ◌++◌, length, drop, take, get_or, slice_get, Option, Some}
use Rattle.std.specs.Prelude.{map}
use Rattle.std.specs.List.{Contains}
use Rattle.std.specs.Option.{option_map}
use Rattle.std.proofs.lemmas.List.{append-nil, append_assoc, drop-map, length-drop, length-map, take_all, take_more}
use Rattle.std.proofs.lemmas.List.Elements.{All-drop}
use Rattle.std.proofs.lemmas.Option.{get_or_from_slice_get, slice_get-get_or, slice_get-map, slice_get_within}
use Rattle.lrpar_grammar.specs.Grammar.{Grammar, GrammarSymbol, IsWellFormed, Nonterminal, end_token, prod_len, prods_len, rule_of, start_prod, symbols_of}
use Rattle.lrpar_grammar.specs.Tree.{forest_leaves}
use Rattle.lrpar_table_rows.specs.Graph.{Graph, HasCore, graph_len}
use Rattle.lrpar_table_rows.specs.PlainItems.{core_of}
use Rattle.lrpar_table_rows.specs.Table.{Table, states_len}
use Rattle.lrpar_table_rows.proofs.ItemLemmas.{Contains-image, Contains-preimage}
use Rattle.lrpar_grammar_places.specs.declared.span.PIdx.{PIdx}
use Rattle.lrpar_grammar_places.specs.declared.span.StIdx.{StIdx}
use Rattle.lrpar_table_build.proofs.ReachedLemmas.{head_after, no_added_rule}
use Rattle.lrpar_table_conditions.proofs.FirstTokenLemmas.{at_drop}
use Rattle.lrpar_table_conditions.specs.declared.completeness.CompletenessCondition.TheVariants.{C1}
use Rattle.lrpar_table_check.specs.Checked.{Checked, IsChecked}
use Rattle.lrpar_table_sentences.specs.Reachable.{IsReachableRule, IsReachableSymbol}
use Rattle.lrpar_table_sentences.specs.Texts.{AreShortestTrees, HaveTrees}
use Rattle.lrpar_table_sentences.proofs.AfterLemmas.{have_trees, prod_reached}
use Rattle.lrpar_table_stacks.specs.Stack.{IsStack, states_of}
use Rattle.lrpar_parse_completion.specs.Completing.{IsCompletion, IsTail, IsTailOfRule, Opened}
use Rattle.lrpar_parse_completion.specs.Opening.{ArePushed, CanComplete, IsBegun, IsKernelCore, IsOpenedBy, IsWalkedTo}
use Rattle.lrpar_parse_completion.specs.Waiting.{AreLinks, AreWaiting, IsOwnCore, LinkOf, rules_in}
use Rattle.lrpar_parse_completion.proofs.CompletesLemmas.{length_at}
use Rattle.lrpar_parse_completion.proofs.DownLemmas.{Down, down, low_in, start_tail, walked_to}
use Rattle.lrpar_parse_completion.proofs.WaitingLemmas.{core_reached, kernel_or_start, links_have_trees, take_get, waited_for}

-- a rule that isn't that of the last link is one of the others
pub not_last : (links : List LinkOf) (link : LinkOf) (r : ℕ) → Contains (rules_in (links ++ link ∷ [])) r → link.rule ≢ r → Contains (rules_in links) r
not_last [] link r (zero, below, is) other = absurd (other is)
not_last [] link r (suc i, below, is) other = absurd (omega (arith, below))
not_last (x ∷ links) link r (zero, below, is) other = (0, omega arith, is)
not_last (x ∷ links) link r (suc i, below, is) other =
    let more = not_last links link r (i, omega (arith, below), is) other in (suc more.0, omega (arith, more.1), more.2)

-- the links up to one of them
pub links_to : (links : List LinkOf) (n : ℕ) (link : LinkOf) → slice_get links n ≡ Some link → take (n + 1) links ≡ take n links ++ link ∷ []
links_to links n link at =
    take_more links n link (slice_get_within links n link at) ∙ ap (λ (x : LinkOf). take n links ++ x ∷ []) (get_or_from_slice_get links n link link at)

-- no link is before the first
pub none_listed : (links : List LinkOf) (n r : ℕ) → n ≡ 0 → Contains (rules_in (take n links)) r → ⊥
none_listed links n r first has =
    let there : Contains (rules_in (take 0 links)) r = subst (λ (m : ℕ). Contains (rules_in (take m links)) r) first has in
    absurd (omega (arith, there.1))

module _ (g : Grammar) (well : IsWellFormed g) (own : ℕ → ℕ → Type 0) (links : List LinkOf) (are : AreLinks g own links) where
  -- no link has the start rule
  no_start_rule : (m r : ℕ) → r ≡ 0 → Contains (rules_in (take m links)) r → ⊥
  no_start_rule m r first has =
      let found = Contains-preimage (λ (y : LinkOf). y.rule) (take m links) r has in
      let before = take_get links m found.1.0 found.0 found.1.1 found.1.2 in
      let other = are found.1.0 found.0 before.1 in
      let at = head_after (symbols_of g found.0.prod) found.0.dot (Nonterminal found.0.rule) other.rest other.waits in
      no_added_rule g well found.0.prod found.0.dot found.0.rule (found.2 ∙ first) at

  module _ (n : ℕ) (x : LinkOf) (at : slice_get links n ≡ Some x) where
    -- an item with a symbol before its dot, or of the start production, is the state's own
    own_link : (0 < x.dot) ⊎ (x.prod ≡ start_prod g) → own x.prod x.dot
    own_link begun =
        elim (are n x at).from as (λ _. own x.prod x.dot) [
          | inl mine ↦ mine
          | inr later ↦
              elim begun as (λ _. own x.prod x.dot) [
                | inl past ↦ absurd (omega (arith, past, later.0))
                | inr start ↦ absurd (no_start_rule n (rule_of g x.prod) (ap (rule_of g) start ∙ well.last_rule) later.1)
              ]
        ]

    -- another one begins a production of an earlier rule
    later_link : ((p k : ℕ) → own p k → (0 < k) ⊎ (p ≡ start_prod g)) → (((0 < x.dot) ⊎ (x.prod ≡ start_prod g)) → ⊥)
        → (x.dot ≡ 0) × Contains (rules_in (take n links)) (rule_of g x.prod)
    later_link begun other =
        elim (are n x at).from as (λ _. (x.dot ≡ 0) × Contains (rules_in (take n links)) (rule_of g x.prod)) [
          | inl mine ↦ absurd (other (begun x.prod x.dot mine))
          | inr later ↦ later
        ]

-- a core of the state's own has a symbol before its dot, or is of the start production
own_begun : (g : Grammar) (graph : Graph) (table : Table) (s p k : ℕ) → IsOwnCore g graph table s p k → (0 < k) ⊎ (p ≡ start_prod g)
own_begun g graph table s p k own = elim own as (λ _. (0 < k) ⊎ (p ≡ start_prod g)) [ inl kernel ↦ inl kernel.1 | inr start ↦ inr start.1 ]

-- the rest of symbols of the code
pub rest_of : {X Y : Type 0} (f : X → Y) (k : ℕ) (xs : List X) (ys : List Y) → map f xs ≡ ys
    → map f (take (length xs - k) (drop k xs)) ≡ drop k ys
rest_of f k xs ys is =
    ap (map f) (take_all (length xs - k) (drop k xs) (omega (arith, length-drop k xs))) ∙ sym (drop-map f k xs) ∙ ap (drop k) is

-- a state of the code in its place
pub state_at : {S : Type 0} (index : S → ℕ) (stack : List (StIdx S)) (i : ℕ) (s : StIdx S) → i < length stack → s ≡ get_or stack i s
    → slice_get (states_of index stack) i ≡ Some (index s.0)
state_at {S} index stack i s low is =
    slice_get-map (λ (x : StIdx S). index x.0) stack i
    ∙ ap (option_map (λ (x : StIdx S). index x.0)) (slice_get-get_or stack i s low ∙ ap (λ (x : StIdx S). Some x) (sym is))

-- the top state of the code
pub top_at : {S : Type 0} (index : S → ℕ) (stack : List (StIdx S)) (top : StIdx S) → (length stack ≡ 0 → ⊥) → top ≡ get_or stack (length stack - 1) top
    → slice_get (states_of index stack) (length stack - 1) ≡ Some (index top.0)
top_at index stack top some is = state_at index stack (length stack - 1) top (omega (arith, some)) is

-- places of a stack: that of the top, and those below
pub top_place : (n : ℕ) (st : List ℕ) → length st ≡ n → (n ≡ 0 → ⊥) → length st ≡ n - 1 + 1
top_place n st many some = omega (arith, many, some)

pub top_within : (n : ℕ) (st : List ℕ) → length st ≡ n → (n ≡ 0 → ⊥) → n - 1 < length st
top_within n st many some = omega (arith, many, some)

pub base_within : (place dot : ℕ) (st : List ℕ) → place < length st → place - dot < length st
base_within place dot st within = omega (arith, within)

pub base_lower : (place dot : ℕ) → (dot ≡ 0 → ⊥) → dot ≤ place → place - dot < place
base_lower place dot some deep = omega (arith, some, deep)

-- the one below some symbols
pub base_at : {S : Type 0} (index : S → ℕ) (stack : List (StIdx S)) (place dot : ℕ) (s : StIdx S) → place < length (states_of index stack)
    → s ≡ get_or stack (place - dot) s → slice_get (states_of index stack) (place - dot) ≡ Some (index s.0)
base_at index stack place dot s low is = state_at index stack (place - dot) s (omega (arith, low, length-map stack (λ x. index x.0))) is

-- a core that `begun_cores` returns is that of a kernel item
pub begun_is : {S : Type 0} (index : S → ℕ) (graph : Graph) (s : ℕ) (cores : List (PIdx S × ℕ)) (i : ℕ) (core : PIdx S × ℕ)
    → ((p k : ℕ) → (HasCore graph s p k × (0 < k)) ↔ Contains (map (core_of index) cores) (p, k)) → i < length cores
    → core ≡ get_or cores i core → HasCore graph s (index core.0.0) core.1 × (0 < core.1)
begun_is index graph s cores i core all below read =
    (all (index core.0.0) core.1).1 (Contains-image (core_of index) cores core (i, below, sym read))

-- and if it returns none, there is none
pub begun_none : {S : Type 0} (index : S → ℕ) (graph : Graph) (s : ℕ) (cores : List (PIdx S × ℕ))
    → ((p k : ℕ) → (HasCore graph s p k × (0 < k)) ↔ Contains (map (core_of index) cores) (p, k)) → length cores ≡ 0
    → (p k : ℕ) → HasCore graph s p k → 0 < k → ⊥
begun_none index graph s cores all none p k core begun =
    let there = (all p k).0 (core, begun) in omega (arith, there.1, none, length-map cores (core_of index))

module _ (g : Grammar) (graph : Graph) (table : Table) where
  -- on the way from rule r to rule s these tokens were appended
  pub record Climbs (r s : ℕ) (old new : List ℕ) : Type 0 where
    pub pushed : List ℕ
    pub more : new ≡ old ++ pushed
    pub tail : (st rest : List ℕ) → IsTailOfRule g table st s rest → IsTailOfRule g table st r (pushed ++ rest)

  pub climbs_none : (r : ℕ) (old : List ℕ) → Climbs r r old old
  climbs_none r old = record { pushed = []; more = sym (append-nil old); tail = λ st rest h. h }

  module _ (r s q j : ℕ) (w : List GrammarSymbol) (old mid new : List ℕ) (waits : drop j (symbols_of g q) ≡ Nonterminal s ∷ w)
      (climbs : Climbs r s old mid) (pushed : ArePushed g (drop (j + 1) (symbols_of g q)) mid new) where
    all_pushed : new ≡ old ++ (climbs.pushed ++ forest_leaves pushed.0)
    all_pushed =
        pushed.2 ∙ ap (λ (ts : List ℕ). ts ++ forest_leaves pushed.0) climbs.more ∙ append_assoc old climbs.pushed (forest_leaves pushed.0)

    -- an item of the production waits for the rule
    waiting_tail : (st rest : List ℕ) → IsTail g table st q j rest → IsTailOfRule g table st r ((climbs.pushed ++ forest_leaves pushed.0) ++ rest)
    waiting_tail st rest after =
        let next : drop (j + 1) (symbols_of g q) ≡ w = rw add-one (at_drop (symbols_of g q) j (Nonterminal s) w waits).1 in
        let shortest = subst (λ (ss : List GrammarSymbol). AreShortestTrees g ss pushed.0) next pushed.1 in
        subst (IsTailOfRule g table st r) (sym (append_assoc climbs.pushed (forest_leaves pushed.0) rest))
        (climbs.tail st (forest_leaves pushed.0 ++ rest)
        (record { prod = q; dot = j; more = w; trees = pushed.0; tail = rest; waits = waits; rest = shortest; after = after; all = refl }))

    -- it is one of the state's own
    climbs_out : (state : ℕ) → q < prods_len g → j ≤ prod_len g q → IsOwnCore g graph table state q j
        → IsOpenedBy g graph table state r old new q j
    climbs_out state known dot own = record {
      own = own;
      known = known;
      dot = dot;
      pushed = climbs.pushed ++ forest_leaves pushed.0;
      more = all_pushed;
      tail = waiting_tail;
    }

    -- or it is opened itself
    climbs_on : q < prods_len g → j ≡ 0 → Climbs r (rule_of g q) old new
    climbs_on known first = record {
      pushed = climbs.pushed ++ forest_leaves pushed.0;
      more = all_pushed;
      tail = λ st rest h.
          let opened = Opened st q h.prod h.dot h.more h.trees h.tail known h.waits h.rest h.after in
          let whole = subst (λ (ts : List ℕ). IsTail g table st q 0 ts) (sym h.all) opened in
          waiting_tail st rest (subst (λ (n : ℕ). IsTail g table st q n rest) (sym first) whole);
    }

-- at a link of state s whose rule is the wanted one, on the way from rule r; what comes after its rule was appended
module _ (d : Checked) (checked : IsChecked d) (s r wanted : ℕ) (links : List LinkOf) (are : AreLinks d.grammar (IsOwnCore d.grammar d.graph d.table s) links)
    (n : ℕ) (x : LinkOf) (at : slice_get links n ≡ Some x) (is : x.rule ≡ wanted) (old mid new : List ℕ)
    (climbs : Climbs d.grammar d.graph d.table r wanted old mid) (pushed : ArePushed d.grammar (drop (x.dot + 1) (symbols_of d.grammar x.prod)) mid new) where
  climbs_here : Climbs d.grammar d.graph d.table r x.rule old mid
  climbs_here = subst (λ (t : ℕ). Climbs d.grammar d.graph d.table r t old mid) (sym is) climbs

  -- its item is one of the state's own
  pub opens_here : IsBegun d.grammar x.prod x.dot → IsOpenedBy d.grammar d.graph d.table s r old new x.prod x.dot
  opens_here begun =
      let link = are n x at in
      let long = length_at (symbols_of d.grammar x.prod) x.dot (Nonterminal x.rule) link.rest link.waits in
      climbs_out d.grammar d.graph d.table r x.rule x.prod x.dot link.rest old mid new link.waits climbs_here pushed s link.known (omega (arith, long))
      (own_link d.grammar checked.well_formed (IsOwnCore d.grammar d.graph d.table s) links are n x at begun)

  -- or the item's production is opened itself, by an earlier link
  pub climbs_past : (IsBegun d.grammar x.prod x.dot → ⊥)
      → Climbs d.grammar d.graph d.table r (rule_of d.grammar x.prod) old new × Contains (rules_in (take n links)) (rule_of d.grammar x.prod)
  climbs_past other =
      let link = are n x at in
      let later =
      later_link d.grammar checked.well_formed (IsOwnCore d.grammar d.graph d.table s) links are n x at (own_begun d.grammar d.graph d.table s) other in (
        climbs_on d.grammar d.graph d.table r x.rule x.prod x.dot link.rest old mid new link.waits climbs_here pushed link.known later.0,
        later.1,
      )

-- no stack is empty
pub no_stack : (table : Table) (st : List ℕ) → length st ≡ 0 → IsStack table st → ⊥
no_stack table [] none stack = stack
no_stack table (s ∷ st) none stack = absurd (omega (arith, none))

-- how far the completion has come: the state in this place of the stack has the core, and what comes after its production completes the
-- stack
pub record Completing (d : Checked) (st : List ℕ) (place p k : ℕ) (tokens : List ℕ) : Type 0 where
  pub s : ℕ
  pub at : slice_get st place ≡ Some s
  pub kernel : IsKernelCore d.grammar d.graph s p k
  pub tail : (rest : List ℕ) → IsTail d.grammar d.table (take (place + 1) st) p k rest → IsCompletion d.grammar d.table st (tokens ++ rest)

module _ (d : Checked) (checked : IsChecked d) where
  abbrev g : Grammar
  g = d.grammar

  abbrev graph : Graph
  graph = d.graph

  abbrev table : Table
  table = d.table

  -- each state of the graph is one of the table
  of_table : (s : ℕ) → s < graph_len graph → s < states_len table
  of_table s low = let same = checked.safe.shape.states in omega (arith, low, same)

  -- the table goes from its start to each state of a stack
  pub stack_walked : (st : List ℕ) → IsStack table st → (i s : ℕ) → slice_get st i ≡ Some s → IsWalkedTo table s
  stack_walked st stack = walked_to g graph table checked.closed checked.safe st stack

  -- a state of a stack is one of the graph
  pub state_known : (st : List ℕ) → IsStack table st → (i s : ℕ) → slice_get st i ≡ Some s → s < graph_len graph
  state_known st stack i s at =
      let low = low_in g graph table checked.closed checked.safe st stack i s at in
      let same = checked.safe.shape.states in omega (arith, low, same)

  module _ (can : CanComplete d) where
    -- rules of cores of a state are reachable, if the table goes from its start to the state
    rule_reached : (s p k : ℕ) → s < graph_len graph → IsWalkedTo table s → HasCore graph s p k → IsReachableRule g (rule_of g p)
    rule_reached s p k low walked core =
        core_reached g checked.well_formed graph table can.viable checked.safe s walked (of_table s low) p k core

    -- so the symbols after a dot of such a core have minimal sentences
    pub core_trees : (s p k : ℕ) → s < graph_len graph → IsWalkedTo table s → HasCore graph s p k → HaveTrees g (drop k (symbols_of g p))
    core_trees s p k low walked core =
        let reached = rule_reached s p k low walked core in
        let item = checked.safe.shape.items s p k core.0 core.1 in
        have_trees g can.productive (drop k (symbols_of g p))
        (All-drop (IsReachableSymbol g) k (symbols_of g p) (prod_reached g checked.well_formed p item.prod reached))

    -- a core of the state's own is one of its cores
    pub own_core : (s p k : ℕ) → s < graph_len graph → IsOwnCore g graph table s p k → IsKernelCore g graph s p k
    own_core s p k low own =
        elim own as (λ _. IsKernelCore g graph s p k) [
          | inl kernel ↦ record { core = kernel.0; begun = inl kernel.1 }
          | inr start ↦
              let first = can.complete.each C1 table.start checked.closed.start_within refl in
              let core : HasCore graph table.start (start_prod g) 0 = (end_token g, first) in
              record {
                core =
                    subst (λ (n : ℕ). HasCore graph n p k) (sym start.0)
                    (subst (λ (n : ℕ). HasCore graph table.start n k) (sym start.1) (subst (λ (n : ℕ). HasCore graph table.start (start_prod g) n) (sym start.2) core));
                begun = inr start.1;
              }
        ]

    -- the start item, if the state has no kernel item
    pub start_core : (s : ℕ) → s < graph_len graph → ((p k : ℕ) → HasCore graph s p k → 0 < k → ⊥) → IsKernelCore g graph s (start_prod g) 0
    start_core s low none =
        elim (kernel_or_start g checked.well_formed graph table can.viable s (of_table s low))
        as (λ _. IsKernelCore g graph s (start_prod g) 0) [
          | inl kernel ↦ absurd (none kernel.0 kernel.1 kernel.2 kernel.3)
          | inr start ↦ record { core = start.1; begun = inr refl }
        ]

    -- so the symbols after the rules of links have minimal sentences
    pub link_trees : (s : ℕ) (links : List LinkOf) → s < graph_len graph → IsWalkedTo table s → AreWaiting g graph table s links → (i : ℕ)
        (x : LinkOf) → slice_get links i ≡ Some x → HaveTrees g (drop (x.dot + 1) (symbols_of g x.prod))
    link_trees s links low walked waiting =
        links_have_trees g checked.well_formed (IsOwnCore g graph table s) (λ p k own. rule_reached s p k low walked (own_core s p k low own).core)
        links waiting.each can.productive

    -- the rule of a production that was opened is one of them
    pub opened_waits : (s q : ℕ) (links : List LinkOf) → s < graph_len graph → AreWaiting g graph table s links → HasCore graph s q 0
        → q ≢ start_prod g → Contains (rules_in links) (rule_of g q)
    opened_waits s q links low waiting core other =
        waited_for g checked.well_formed graph table can.viable s (of_table s low) links waiting q core other

  -- at first, a minimal sentence of the symbols after the dot of a core of the top
  pub completing_first : (st : List ℕ) (place s p k : ℕ) (tokens : List ℕ) → length st ≡ place + 1 → slice_get st place ≡ Some s
      → IsKernelCore g graph s p k → ArePushed g (drop k (symbols_of g p)) [] tokens → Completing d st place p k tokens
  completing_first st place s p k tokens many at kernel pushed = record {
    s = s;
    at = at;
    kernel = kernel;
    tail = λ rest after.
        let whole : take (place + 1) st ≡ st = take_all (place + 1) st (omega (arith, many)) in
        record {
          prod = p;
          dot = k;
          trees = pushed.0;
          tail = rest;
          rest = pushed.1;
          after = subst (λ (l : List ℕ). IsTail g table l p k rest) whole after;
          all = ap (λ (ts : List ℕ). ts ++ rest) pushed.2;
        };
  }

  module _ (st : List ℕ) (stack : IsStack table st) (place p k : ℕ) (tokens : List ℕ) (completing : Completing d st place p k tokens) where
    abbrev lower : Down g graph table checked.closed checked.safe st stack place p k
    lower = down g graph table checked.closed checked.safe st stack k place p completing.s completing.at completing.kernel.core

    -- an item of the start production: the completion is made
    pub completing_done : p ≡ start_prod g → IsCompletion g table st tokens
    completing_done is =
        let core = subst (λ (q : ℕ). HasCore graph completing.s q k) is completing.kernel.core in
        let tail = start_tail g graph table checked.closed checked.safe st stack place k completing.s completing.at core in
        subst (IsCompletion g table st) (append-nil tokens)
        (completing.tail [] (subst (λ (q : ℕ). IsTail g table (take (place + 1) st) q k []) (sym is) tail))

    -- another item has a symbol before the dot
    pub completing_begun : p ≢ start_prod g → k ≡ 0 → ⊥
    completing_begun other none =
        elim completing.kernel.begun as (λ _. ⊥) [ inl past ↦ omega (arith, past, none) | inr start ↦ other start ]

    -- the stack has the symbols before the dot
    pub completing_deep : place < k → ⊥
    completing_deep low = let b = lower in let sum = b.below in omega (arith, sum, low)

    -- and the state below them has the core with the dot at the start
    pub completing_base : (s : ℕ) → slice_get st (place - k) ≡ Some s → HasCore graph s p 0
    completing_base s at =
        let b = lower in
        let sum = b.below in
        let same : b.place ≡ place - k = omega (arith, sum) in
        let there : ◌≡◌ {A = Option ℕ} (Some b.base) (Some s) = sym b.at ∙ ap (λ (n : ℕ). slice_get st n) same ∙ at in
        let one : b.base ≡ s = cc in
        subst (λ (n : ℕ). HasCore graph n p 0) one b.core

    -- the next item below
    pub completing_next : CanComplete d → (s q j : ℕ) (after : List ℕ) → s < graph_len graph → slice_get st (place - k) ≡ Some s → p < prods_len g
        → IsOpenedBy g graph table s (rule_of g p) tokens after q j → Completing d st (place - k) q j after
    completing_next can s q j after low at known opened =
        let b = lower in
        let sum = b.below in
        let same : b.place ≡ place - k = omega (arith, sum) in
        let n = place - k in
        let mid = take (n + 1) st in
        record {
          s = s;
          at = at;
          kernel = own_core can s q j low opened.own;
          tail = λ rest tail.
              let waits = opened.tail mid rest tail in
              let whole = Opened mid p waits.prod waits.dot waits.more waits.trees waits.tail known waits.waits waits.rest waits.after in
              let own = subst (λ (ts : List ℕ). IsTail g table mid p 0 ts) (sym waits.all) whole in
              let there = subst (λ (m : ℕ). IsTail g table (take (m + 1) st) p 0 (opened.pushed ++ rest)) (sym same) own in
              let all : tokens ++ (opened.pushed ++ rest) ≡ after ++ rest =
              sym (append_assoc tokens opened.pushed rest) ∙ ap (λ (ts : List ℕ). ts ++ rest) (sym opened.more) in
              subst (IsCompletion g table st) all (completing.tail (opened.pushed ++ rest) (b.lift (opened.pushed ++ rest) there));
        }
