-- Which items of a priority queue were taken out, by their number.
use Rattle.std.specs.Prelude.{◌≡◌, ◌<◌, ◌≤◌, ◌+◌, ℕ, length, MatchOption, Option}
use Rattle.lrpar_conflict_derivations.specs.declared.priority_queue.PriorityQueue.{PriorityQueue}

-- how many items were added to the queue
abbrev pub added : PriorityQueue → ℕ
added queue = length queue.nexts.items

-- an item is still in the queue
abbrev pub HasItems : PriorityQueue → Type 0
HasItems queue = queue.popped < added queue

-- each item that was added was popped
abbrev pub IsEmptied : PriorityQueue → Type 0
IsEmptied queue = added queue ≤ queue.popped

-- nothing was added, or popped
abbrev pub IsNew : PriorityQueue → Type 0
IsNew queue = (added queue ≡ 0) × (queue.popped ≡ 0)

-- one item was added, and none was popped
abbrev pub HasOne : PriorityQueue → Type 0
HasOne queue = (added queue ≡ 1) × (queue.popped ≡ 0)

-- one more item was added
abbrev pub AddsOne : PriorityQueue → PriorityQueue → Type 0
AddsOne old new = added new ≡ added old + 1

-- no item was popped
abbrev pub KeepsItems : PriorityQueue → PriorityQueue → Type 0
KeepsItems old new = new.popped ≡ old.popped

-- an item was popped; or there was none, and nothing has changed
abbrev pub Pops : PriorityQueue → PriorityQueue → Option ℕ → Type 0
Pops old new found = MatchOption found (IsEmptied old × IsEmptied new × KeepsItems old new) (λ _. new.popped ≡ old.popped + 1)

-- there is a key if an item is in the queue
abbrev pub Looks : PriorityQueue → Option ℕ → Type 0
Looks queue found = MatchOption found (IsEmptied queue) (λ _. HasItems queue)
