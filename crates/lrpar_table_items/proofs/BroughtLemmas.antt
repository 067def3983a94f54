-- The rules that the closure adds, with their lookaheads.
use Rattle.std.proofs.Common.{◌<◌, ℕ, Bool, List}
use Rattle.lrpar_grammar.specs.Grammar.{Grammar, prods_len, rule_of}
use Rattle.lrpar_table_items.specs.Brought.{IsBrought, Given, Brought, HasIn, IsSpreadAt}

-- the closure of what is in a closure adds nothing to it
pub brought_twice : (g : Grammar) (given more : ℕ → ℕ → Type 0) → ((r t : ℕ) → more r t → IsBrought g given r t)
    → (r t : ℕ) → IsBrought g more r t → IsBrought g given r t
brought_twice g given more each r t (Given r' t' h) = each r' t' h
brought_twice g given more each r t (Brought p r' s t' w known begins h first) =
    Brought p r' s t' w known begins (brought_twice g given more each (rule_of g p) s h) first

-- sets that have the given, and are closed at each production, have the whole closure
pub closed_brought : (g : Grammar) (given : ℕ → ℕ → Type 0) (rows : List (List Bool)) → ((r t : ℕ) → given r t → HasIn rows r t)
    → ((p : ℕ) → p < prods_len g → IsSpreadAt g rows p) → (r t : ℕ) → IsBrought g given r t → HasIn rows r t
closed_brought g given rows own closed r t (Given r' t' h) = own r' t' h
closed_brought g given rows own closed r t (Brought p r' s t' w known begins h first) =
    closed p known r' s t' w begins (closed_brought g given rows own closed (rule_of g p) s h) first
