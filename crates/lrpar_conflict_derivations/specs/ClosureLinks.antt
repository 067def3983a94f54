-- Why a state has the items that come by closure: each comes from an item with its rule after the dot. It is kept apart whether the items
-- have any lookahead, or the one token that is asked for.
use Rattle.std.specs.Prelude.{◌≡◌, ◌≢◌, ◌<◌, ◌≤◌, ◌+◌, ◌*◌, ◌⊎◌, ℕ, Bool, true, false, IsTrue, List, ◌∷◌, ◌++◌, All, drop, length, map, slice_index_or}
use Rattle.lrpar_grammar.specs.Grammar.{Grammar, GrammarSymbol, IsWellFormed, Nonterminal, prods_len, rule_of, start_prod, symbols_of}
use Rattle.lrpar_table_rows.specs.Graph.{Graph, ItemOf, graph_len, item_at}
use Rattle.lrpar_table_first.specs.First.{IsFirst}
use Rattle.lrpar_table_first.specs.FirstRows.{AreFirsts, dummy_lookahead}
use Rattle.lrpar_table_items.specs.Canonical.{IsCanonical}
use Rattle.lrpar_grammar.specs.Tokens.{has, missing}
use Rattle.lrpar_conflict_derivations.specs.declared.closure_links.Link.{Link}

-- token t is asked for in state s of the grammar's canonical collection, and FIRST sets are there
pub record IsAsked (g : Grammar) (rows : List (List Bool)) (graph : Graph) (s t : ℕ) : Type 0 where
  pub well_formed : IsWellFormed g
  pub firsts : AreFirsts g rows
  pub canonical : IsCanonical g graph
  pub state : s < graph_len graph
  pub token : t < dummy_lookahead g

-- a rule, and whether the token is asked for as lookahead; the production and the dot that the rule comes after; whether the token is asked
-- for there, too; and, if that dot is at the front, the number of the link by which that production's rule comes
pub record LinkOf : Type 0 where
  pub rule : ℕ
  pub asked : Bool
  pub prod : ℕ
  pub dot : ℕ
  pub further : Bool
  pub above : ℕ

-- links as they are stored, with numbers for their rules and productions
abbrev pub link_of : {S : Type 0} → (S → ℕ) → Link S → LinkOf
link_of index x =
    record { rule = index x.rule.0; asked = x.asked; prod = index x.prod.0; dot = x.dot; further = x.further; above = x.above }

abbrev pub links_of : {S : Type 0} → (S → ℕ) → List (Link S) → List LinkOf
links_of index links = map (link_of index) links

-- link i; out of range, a link of zeros
abbrev pub link_at : List LinkOf → ℕ → LinkOf
link_at links i = slice_index_or links i (record { rule = 0; asked = false; prod = 0; dot = 0; further = false; above = 0 })

-- one of the links is of the rule
abbrev pub HasLink : List LinkOf → Bool → ℕ → Type 0
HasLink links asked r = (i : ℕ) × (i < length links) × ((link_at links i).rule ≡ r) × ((link_at links i).asked ≡ asked)

-- When the token is a lookahead of a rule that is followed by the symbols w: if w begins with it; or if w derives nothing, and the token is
-- a lookahead further up
abbrev pub PassesOn : Grammar → ℕ → List GrammarSymbol → Bool → Bool → Type 0
PassesOn g token w true false = IsFirst g (dummy_lookahead g) w token
PassesOn g token w true true = IsFirst g (dummy_lookahead g) w (dummy_lookahead g)
PassesOn g token w false false = Unit {0}
PassesOn g token w false true = ⊥

-- a link of the rule after the dot of production q at j
pub record IsStep (g : Grammar) (token q j : ℕ) (further : Bool) (above : ℕ) (x : LinkOf) : Type 0 where
  pub prod : x.prod ≡ q
  pub dot : x.dot ≡ j
  pub further_is : x.further ≡ further
  pub above_is : x.above ≡ above
  pub rest : List GrammarSymbol
  pub before : drop j (symbols_of g q) ≡ Nonterminal x.rule ∷ rest
  pub passes : PassesOn g token rest x.asked further

-- the link is one of the rule after its own dot
abbrev pub IsOwnStep : Grammar → ℕ → LinkOf → Type 0
IsOwnStep g token x = IsStep g token x.prod x.dot x.further x.above x

-- the rule after the dot of production q at j has its links
abbrev pub AreNoted : Grammar → ℕ → List LinkOf → ℕ → ℕ → Bool → Type 0
AreNoted g token links q j further =
    (r : ℕ) (w : List GrammarSymbol) (asked : Bool) → drop j (symbols_of g q) ≡ Nonterminal r ∷ w → PassesOn g token w asked further
    → HasLink links asked r

-- links were appended, each of which has the property `Good`
pub record ArePut (Good : LinkOf → Type 0) (old new : List LinkOf) : Type 0 where
  pub more : List LinkOf
  pub put : new ≡ old ++ more
  pub good : All Good more

-- each rule that is marked has a link, for any lookahead or for the token
abbrev pub AreLinked : List LinkOf → List Bool → Bool → Type 0
AreLinked links marks asked = (r : ℕ) → IsTrue (has marks r) → HasLink links asked r

-- this link was appended, or none, and its rule is marked; each marked rule has a link, and there are as many more marks as links at least
pub record IsPutMarked (x : LinkOf) (old new : List LinkOf) (before after : List Bool) : Type 0 where
  pub put : ArePut (λ y. y ≡ x) old new
  pub own : HasLink new x.asked x.rule
  pub room : length after ≡ length before
  pub linked : AreLinked new after x.asked
  pub bounded : length new + missing after ≤ length old + missing before

-- marks of the rules that have links: a marked rule has one; and there are at most as many links as marks
pub record AreMarks (rules : ℕ) (links : List LinkOf) (any asked : List Bool) : Type 0 where
  pub any_room : length any ≡ rules
  pub asked_room : length asked ≡ rules
  pub any_linked : AreLinked links any false
  pub asked_linked : AreLinked links asked true
  pub bounded : length links + (missing any + missing asked) ≤ 2 * rules

-- a kernel item of the set with this production and dot; if the token is asked for, with the token as lookahead
pub record IsKernelItem (g : Grammar) (set : ItemOf → Type 0) (token q j : ℕ) (asked : Bool) : Type 0 where
  pub begun : (0 < j) ⊎ (q ≡ start_prod g)
  pub lookahead : ℕ
  pub item : set (item_at q j lookahead)
  pub own : IsTrue asked → lookahead ≡ token

-- a link from a kernel item
abbrev pub IsKernelLink : Grammar → (ItemOf → Type 0) → ℕ → LinkOf → Type 0
IsKernelLink g set token x = IsStep g token x.prod x.dot x.further x.above x × IsKernelItem g set token x.prod x.dot x.further

-- the rule after the dot of each kernel item of this core has its links
abbrev pub IsNotedCore : Grammar → (ItemOf → Type 0) → ℕ → List LinkOf → ℕ → ℕ → Type 0
IsNotedCore g set token links q j = (asked : Bool) → IsKernelItem g set token q j asked → AreNoted g token links q j asked

-- the rule after the dot of each kernel item has its links
abbrev pub AreKernelItemsNoted : Grammar → (ItemOf → Type 0) → ℕ → List LinkOf → Type 0
AreKernelItemsNoted g set token links = (q j : ℕ) → IsNotedCore g set token links q j

-- a link from an item of a rule that comes by link i
abbrev pub IsLinkBelow : Grammar → ℕ → ℕ → ℕ → Bool → LinkOf → Type 0
IsLinkBelow g token i r asked x =
    IsStep g token x.prod 0 asked i x × (x.prod < prods_len g) × (rule_of g x.prod ≡ r)

-- the rule after the front dot of each of the rule's productions has its links
abbrev pub AreNotedOf : Grammar → ℕ → List LinkOf → ℕ → Bool → Type 0
AreNotedOf g token links r asked = (p : ℕ) → p < prods_len g → rule_of g p ≡ r → AreNoted g token links p 0 asked

-- link i: a step from a kernel item, or from an item that comes by an earlier link
pub record IsLink (g : Grammar) (set : ItemOf → Type 0) (token : ℕ) (links : List LinkOf) (i : ℕ) : Type 0 where
  pub step : IsOwnStep g token (link_at links i)
  pub from : let x = link_at links i in IsKernelItem g set token x.prod x.dot x.further
      ⊎ ((x.dot ≡ 0) × (x.prod ≢ start_prod g) × (x.above < i) × ((link_at links x.above).rule ≡ rule_of g x.prod)
      × ((link_at links x.above).asked ≡ x.further))

-- each link is a step from a kernel item, or from an item that comes by an earlier link
abbrev pub AreLinks : Grammar → (ItemOf → Type 0) → ℕ → List LinkOf → Type 0
AreLinks g set token links = (i : ℕ) → i < length links → IsLink g set token links i

-- each item of the set with the dot at the front, but the start item, has a link of its rule; if its lookahead is the token, also one that
-- asks for it
abbrev pub LinkAll : Grammar → (ItemOf → Type 0) → ℕ → List LinkOf → Type 0
LinkAll g set token links =
    (y : ItemOf) (asked : Bool) → set y → y.dot ≡ 0 → y.prod ≢ start_prod g → (IsTrue asked → y.token ≡ token)
    → HasLink links asked (rule_of g y.prod)

-- each item of rule r with the dot at the front has a link of r; if its lookahead is the token, also one that asks for it
abbrev pub LinkRule : Grammar → (ItemOf → Type 0) → ℕ → List LinkOf → ℕ → Bool → Type 0
LinkRule g set token links r asked =
    (y : ItemOf) → set y → y.dot ≡ 0 → y.prod ≢ start_prod g → (IsTrue asked → y.token ≡ token) → rule_of g y.prod ≡ r → HasLink links asked r
