-- Lists of entries in the order of their starts in the input.
use Rattle.std.specs.Prelude.{◌≤◌, ℕ, List, [], ◌∷◌, ◌++◌, Option, None}
use Rattle.std.specs.List.{last_or}

-- `rises es n`: the entries es are in order, and start at byte n or before. This holds without entries; it still holds if a lexeme's
-- entry is added and no other starts later than the lexeme, and if a node's entry replaces those of its children. `start` is where a
-- lexeme starts, and `leaf` and `node` say which entries a lexeme and a node may have.
pub record KeepsRising {X E : Type 0} (start : X → ℕ) (leaf : X → E → Type 0) (node : ℕ → Option E → List E → E → Type 0) (rises : List E → ℕ → Type 0) : Type 0 where
  pub with_none : rises [] 0
  pub by_leaf : (es : List E) (n : ℕ) (x : X) (e : E) → rises es n → n ≤ start x → leaf x e → rises (es ++ e ∷ []) (start x)
  pub by_node : (kept es : List E) (n p : ℕ) (e : E) → rises (kept ++ es) n → node p (last_or None kept) es e → rises (kept ++ e ∷ []) n
