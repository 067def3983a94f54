-- What is written of a tree, line by line.
use Rattle.std.proofs.Common.{◌≡◌, ℕ, List, [], ◌++◌, Option, Some, None, append-nil, append_assoc, ap, sym, ◌∙◌}
use Rattle.std.specs.Io.KnownBytes.{Appends}

-- some bytes are written, and then others
pub appends_both : (old new last : Option (List ℕ)) (bytes more : List ℕ) → Appends old new bytes → Appends new last more → Appends old last (bytes ++ more)
appends_both None new last bytes more first then = _
appends_both (Some xs) None last bytes more first then = absurd first
appends_both (Some xs) (Some ys) None bytes more first then = absurd then
appends_both (Some xs) (Some ys) (Some zs) bytes more first then = then ∙ ap (λ s. s ++ more) first ∙ append_assoc xs bytes more

-- nothing is written
pub appends_nothing : (old : Option (List ℕ)) (bytes : List ℕ) → bytes ≡ [] → Appends old old bytes
appends_nothing None bytes none = _
appends_nothing (Some xs) bytes none = sym (append-nil xs) ∙ ap (λ b. xs ++ b) (sym none)
