-- Links of the program as the definitions see them. `index` gives the number of a value of the storage type.
use Rattle.std.specs.Prelude.{◌≤◌, ◌<◌, ◌==◌, ◌+◌, ◌≡◌, ℕ, Bool, List, Vec, length, map, slice_index_or}
use Rattle.std.specs.List.{All, filter}
use Rattle.std.specs.List.Sorted.{IsPermutation, IsSortedBy, IsStableBy}
use Rattle.std.specs.Ordering.{is_lt, nat_cmp, ordering_then}
use Rattle.std.specs.declared.alloc.Global.{Global}
use Rattle.lrpar_parse_repair.specs.PlainSteps.{plain_step}
use Rattle.lrpar_parse_repair.specs.Sequences.{PlainStep, PlainInsert, PlainDelete, PlainShift}
use Rattle.lrpar_parse_cpctplus.specs.Graph.{PlainEnding, PlainLink}
use Rattle.lrpar_parse_cpctplus.specs.declared.link.Ending.{Ending}
use Rattle.lrpar_parse_cpctplus.specs.declared.link.Link.{Link}
use Rattle.lrpar_parse_cpctplus.specs.declared.link.Linked.{Linked}

-- a link as it is stored, with its step's token by number
abbrev pub plain_link : {S : Type 0} → (S → ℕ) → Link S → PlainLink
plain_link index link = record { from = link.from; step = plain_step index link.step; to = link.to }

-- an ending as it is stored, with its step's token by number
abbrev pub plain_ending : {S : Type 0} → (S → ℕ) → Ending S → PlainEnding
plain_ending index ending = record { reach = ending.reach; from = ending.from; step = plain_step index ending.step }

-- the links and endings are between configurations of the graph, by their numbers
pub record AreNumbered {S : Type 0} (linked : Linked S) : Type 0 where
  pub links : All (λ link. (link.from < linked.len) × (link.to < linked.len)) linked.links.items
  pub endings : All (λ ending. ending.from < linked.len) linked.endings.items

-- the links are between the nodes up to `end`
abbrev pub AreWithin : {S : Type 0} → ℕ → List (Link S) → Type 0
AreWithin end links = All (λ link. (link.from ≤ end) × (link.to ≤ end)) links

-- the place of a step in the order: an Insert before a Delete, that before a Shift, and Inserts by their tokens
abbrev pub step_rank : PlainStep → ℕ × ℕ
step_rank (PlainInsert t) = (0, t)
step_rank PlainDelete = (1, 0)
step_rank PlainShift = (2, 0)

-- whether the step of one link comes before that of the other
abbrev pub comes_before : {S : Type 0} → (S → ℕ) → Link S → Link S → Bool
comes_before index one other =
    let x = step_rank (plain_step index one.step) in
    let y = step_rank (plain_step index other.step) in
    is_lt (ordering_then (nat_cmp x.0 y.0) (nat_cmp x.1 y.1))

-- the links in the order of their steps
pub record AreInStepOrder {S : Type 0} (index : S → ℕ) (links sorted : List (Link S)) : Type 0 where
  pub same : IsPermutation links sorted
  pub rising : IsSortedBy (comes_before index) sorted
  pub stable : IsStableBy (comes_before index) links sorted

-- a row for each number up to `end`
pub record AreRows {A : Type 0} (end : ℕ) (of : ℕ → List A) (rows : List (Vec A Global)) : Type 0 where
  pub len : length rows ≡ end + 1
  pub each : (u : ℕ) (d : Vec A Global) → u ≤ end → (slice_index_or rows u d).items ≡ of u

-- the links from each node
abbrev pub links_by_from : {S : Type 0} → List (Link S) → ℕ → List (Link S)
links_by_from links u = filter (λ link. link.from == u) links

-- from where links lead to each node
abbrev pub froms_by_to : {S : Type 0} → List (Link S) → ℕ → List ℕ
froms_by_to links u = map (λ link. link.from) (filter (λ link. link.to == u) links)

-- the links are in rows: those from each node, and from where links lead to each node
pub record AreInRows {S : Type 0} (end : ℕ) (links : List (Link S)) (out : List (Vec (Link S) Global)) (into : List (Vec ℕ Global)) : Type 0 where
  pub from : AreRows end (links_by_from links) out
  pub to : AreRows end (froms_by_to links) into
