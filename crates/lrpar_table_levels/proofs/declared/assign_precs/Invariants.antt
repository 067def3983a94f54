use Rattle.std.proofs.Common.{◌≡◌, ◌<◌, ◌≤◌, ℕ, drop, length, map}
use Rattle.std.specs.Option.{option_map_or}
use Rattle.lrpar_grammar_yacc.specs.Declares.{prec_of}
use Rattle.lrpar_table_levels.specs.ByName.{prec_of_prod, precedence_in}
use Rattle.lrpar_table_precedence.specs.Precedence.{slot_at}
use Rattle.lrpar_table_levels.proofs.declared.assign_precs.Given as goal

-- those from `left` on are taken
abbrev pub invariant-loop-left : goal.invariant-loop-left
invariant-loop-left l =
    (length l.prods ≡ length l.initial.prods) × (l.left ≤ length l.precs)
    × ((p : ℕ) → p < length l.initial.prods → slot_at l.prods p
    ≡ option_map_or (λ x. precedence_in l.names x.name.name) (prec_of_prod (map prec_of (drop l.left l.precs)) p) (slot_at l.initial.prods p))

-- how many are left
abbrev pub decreases-loop-left : goal.decreases-loop-left
decreases-loop-left l = l.left
