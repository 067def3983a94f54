-- The repairs that are listed at an error point: the first ones in an order, of those of least cost.
use Rattle.std.specs.Prelude.{◌≡◌, ◌<◌, ◌≤◌, ◌↔◌, ◌⊎◌, ℕ, Bool, false, IsTrue, List, [], ◌∷◌, Option, None, Vec, length, slice_index_or}
use Rattle.std.specs.List.{All, AllPairs, Contains}
use Rattle.lrpar_grammar_places.specs.declared.span.TIdx.{TIdx}
use Rattle.lrpar_grammar.specs.Grammar.{Grammar, tokens_len}
use Rattle.lrpar_table_stacks.specs.Expected.{tokens_of}
use Rattle.lrpar_parse_repair.specs.Asked.{Asked}
use Rattle.lrpar_parse_repair.specs.Sequences.{PlainStep, PlainInsert}
use Rattle.lrpar_parse_cpctplus.specs.Cheapest.{AreAtMost, IsLeastCost, RepairsAt}
use Rattle.lrpar_parse_cpctplus.specs.Configurations.{IsNearer}
use Rattle.lrpar_parse_cpctplus.specs.Forms.{Has}
use Rattle.lrpar_parse_cpctplus.specs.Order.{IsEarlier}
use Rattle.lrpar_parse_cpctplus.specs.Reaching.{GoesAsFar}
use Rattle.lrpar_parse_cpctplus.specs.Said.{AreSaid, said_by}

-- How a recoverer is set: how many configurations a search may keep, and all searches of a parse together; what each token costs, by its number, where a token past these
-- costs 1; which tokens are to be avoided, by their numbers; how many repairs are listed at most; and whether all repairs of least
-- cost are listed, or only those after which a parse goes on furthest.
pub record Settings : Type 0 where
  pub limit : ℕ
  pub total : Option ℕ
  pub costs : List ℕ
  pub avoided : List Bool
  pub most : ℕ
  pub lists_all : Bool

-- a limit and what tokens cost; nothing else is set
abbrev pub settings_with : ℕ → List ℕ → Settings
settings_with limit costs = record { limit = limit; total = None; costs = costs; avoided = []; most = 100; lists_all = false }

-- the settings have this limit and these costs, and nothing else is set
abbrev pub HasCosts : {A : Type 0} → ℕ → Vec ℕ A → Settings → Type 0
HasCosts limit costs = λ settings. settings ≡ settings_with limit costs.items

-- nothing but the limit and the costs is set
abbrev pub HasOnlyCosts : ℕ → Settings → Type 0
HasOnlyCosts limit = λ settings. settings ≡ settings_with limit settings.costs

-- the settings have as costs what the function says that the tokens of the grammar cost; `index` gives the number of a value of the
-- storage type
abbrev pub HasSaidCosts : {S : Type 0} → (S → ℕ) → (TIdx S → ℕ → Type 0) → Grammar → Settings → Type 0
HasSaidCosts index says g = λ settings. AreSaid (said_by index says) (tokens_len g) settings.costs

-- all is set as before but the tokens to be avoided
abbrev pub KeepsOthers : Settings → Settings → Type 0
KeepsOthers old = λ new. new ≡ record old { avoided = new.avoided }

-- these tokens are to be avoided, and no others
abbrev pub AreAvoided : List Bool → List ℕ → Type 0
AreAvoided avoided tokens = (t : ℕ) → IsTrue (slice_index_or avoided t false) ↔ Contains tokens t

-- this token is to be avoided, too, by its number, and all that were before
abbrev pub AvoidsAlso : ℕ → List Bool → List Bool → Type 0
AvoidsAlso token old new = (t : ℕ) → IsTrue (slice_index_or new t false) ↔ (IsTrue (slice_index_or old t false) ⊎ (t ≡ token))

-- these tokens of the program are to be avoided, and no others
abbrev pub Avoids : {S : Type 0} → (S → ℕ) → List (TIdx S) → Settings → Type 0
Avoids index tokens = λ settings. AreAvoided settings.avoided (tokens_of index tokens)

-- the sequence inserts a token that is to be avoided
abbrev pub InsertsAvoided : List Bool → List PlainStep → Type 0
InsertsAvoided avoided steps = (t : ℕ) × IsTrue (slice_index_or avoided t false) × Has steps (PlainInsert t ∷ [])

-- either both sequences insert a token that is to be avoided, or none does
abbrev pub AreAlike : List Bool → List PlainStep → List PlainStep → Type 0
AreAlike avoided xs ys = InsertsAvoided avoided xs ↔ InsertsAvoided avoided ys

-- of two repairs after which a parse goes on as far, the first one comes before the other
pub data IsPreferred (avoided : List Bool) (xs ys : List PlainStep) : Type 0 where
  -- only the other inserts a token that is to be avoided
  avoids : ¬ (InsertsAvoided avoided xs) → InsertsAvoided avoided ys → IsPreferred avoided xs ys
  -- both insert such a token, or none does, and the first has fewer steps
  is_shorter : AreAlike avoided xs ys → length xs < length ys → IsPreferred avoided xs ys
  -- both insert such a token, or none does, and they have as many steps; the first is earlier
  is_earlier : AreAlike avoided xs ys → length xs ≡ length ys → IsEarlier xs ys → IsPreferred avoided xs ys

-- one repair is listed before another: a parse goes on further after it; or as far, and it is preferred
abbrev pub IsListedBefore : {X : Type 0} → (X → ℕ) → Asked X → List Bool → List PlainStep → List PlainStep → Type 0
IsListedBefore token at avoided xs ys =
    (m n : ℕ) × GoesAsFar token at xs m × GoesAsFar token at ys n × ((n < m) ⊎ ((m ≡ n) × IsPreferred avoided xs ys))

-- These are the first n things that have P, in an order, or all of them: if one isn't among them, they are n, and it comes after each.
pub record AreFirst {A : Type 0} (n : ℕ) (P : A → Type 0) (Before : A → A → Type 0) (xs : List A) : Type 0 where
  pub few : length xs ≤ n
  pub each : (x : A) → Contains xs x → P x
  pub ordered : AllPairs Before xs
  pub others : (x : A) → P x → Contains xs x ⊎ ((length xs ≡ n) × All (λ y. Before y x) xs)

module _ {X : Type 0} (token : X → ℕ) (settings : Settings) (at : Asked X) where
  -- c is the least cost of a repair, and no more configurations than may be kept are nearer than c
  pub record IsFoundAt (c : ℕ) : Type 0 where
    pub least : IsLeastCost token settings.costs at c
    pub within : AreAtMost settings.limit (IsNearer token settings.costs at c)

  -- after no other repair that costs c a parse goes on further
  abbrev pub GoesFurthest : ℕ → List PlainStep → Type 0
  GoesFurthest c steps =
      (m : ℕ) × GoesAsFar token at steps m
      × ((other : List PlainStep) (n : ℕ) → RepairsAt token settings.costs at c other → GoesAsFar token at other n → n ≤ m)

  -- a repair that costs c and may be listed
  abbrev pub MayBeListed : ℕ → List PlainStep → Type 0
  MayBeListed c steps = RepairsAt token settings.costs at c steps × (IsTrue settings.lists_all ⊎ GoesFurthest c steps)

  -- the answer is the first repairs of least cost, if the limit allows that cost to be found, and none otherwise
  pub record AreListed (answer : List (List PlainStep)) : Type 0 where
    pub first : (c : ℕ) → IsFoundAt c → AreFirst settings.most (MayBeListed c) (IsListedBefore token at settings.avoided) answer
    pub else : (answer ≡ []) ⊎ ((c : ℕ) × IsFoundAt c)

-- at an error point there is one answer
abbrev pub ListedAreOne : Type 0 → Type 0
ListedAreOne X =
    (token : X → ℕ) (settings : Settings) (at : Asked X) (xs ys : List (List PlainStep))
    → AreListed token settings at xs → AreListed token settings at ys → xs ≡ ys

-- of two repairs one is listed before the other, or they are the same
abbrev pub ListedInOrder : Type 0 → Type 0
ListedInOrder X =
    (token : X → ℕ) (at : Asked X) (avoided : List Bool) (xs ys : List PlainStep) (m n : ℕ) → GoesAsFar token at xs m → GoesAsFar token at ys n
    → IsListedBefore token at avoided xs ys ⊎ ((xs ≡ ys) ⊎ IsListedBefore token at avoided ys xs)
