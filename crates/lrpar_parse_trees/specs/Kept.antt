-- A list that is kept if it has items.
use Rattle.std.specs.Prelude.{◌≡◌, [], MatchOption, Option, Vec}

-- the list; or nothing, if it is empty
abbrev pub IsKeptUnlessEmpty : {T A : Type 0} → Vec T A → Option (Vec T A) → Type 0
IsKeptUnlessEmpty items kept = MatchOption kept (items.items ≡ []) (λ list. list ≡ items)
