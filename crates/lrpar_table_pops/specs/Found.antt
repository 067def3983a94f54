-- What is found of a state s, for one first lookahead or for any: each exit is one of a run that begins with s on top, and so is what comes
-- after each reduction that is made on top of s.
use Rattle.std.specs.Prelude.{◌≡◌, ℕ, Bool, IsTrue, List, Option, Some, None}
use Rattle.lrpar_grammar.specs.Grammar.{Grammar, rule_of}
use Rattle.lrpar_grammar.specs.Tokens.{has}
use Rattle.lrpar_table_rows.specs.Table.{Table}
use Rattle.lrpar_table_pops.specs.Exits.{HasExit}
use Rattle.lrpar_table_pops.specs.Pops.{Control, Dropping, Pops, Reading}
use Rattle.lrpar_table_pops.specs.Sets.{tokens_by}
use Rattle.lrpar_table_pops.specs.declared.exits.Exit.{Exit}
use Rattle.lrpar_table_pops.specs.declared.found.Found.{Found}

-- the token is the lookahead, or any is
abbrev pub IsOneOf : Option ℕ → ℕ → Type 0
IsOneOf (Some t) u = u ≡ t
IsOneOf None u = Unit {0}

-- at this lookahead, or at one of all, a run can leave s in control r
abbrev pub PopsAt : Grammar → Table → ℕ → Option ℕ → Control → Type 0
PopsAt g table s at r = (t : ℕ) × IsOneOf at t × Pops g table (Reading t) s r

-- as a run in control q can leave s, one can that begins at the lookahead
abbrev pub LeadsFrom : Grammar → Table → ℕ → Option ℕ → Control → Type 0
LeadsFrom g table s at q = (r : Control) → Pops g table q s r → PopsAt g table s at r

-- rule r is reduced on top of s at token t
abbrev pub IsReducedAt : Grammar → Table → ℕ → Option ℕ → ℕ → ℕ → Type 0
IsReducedAt g table s at r t = (p : ℕ) × (rule_of g p ≡ r) × LeadsFrom g table s at (Dropping p 0 t)

-- the exits, and the tokens of the reductions to each rule, are right
pub record IsFoundOf (g : Grammar) (table : Table) (s : ℕ) (at : Option ℕ) (exits : List Exit) (reduced : List (List Bool)) : Type 0 where
  pub by_exits : (r : Control) → HasExit exits r → PopsAt g table s at r
  pub by_reductions : (r t : ℕ) → IsTrue (has (tokens_by reduced r) t) → IsReducedAt g table s at r t

-- what is found, as it is stored, is right
abbrev pub IsFound : Grammar → Table → ℕ → Option ℕ → Found → Type 0
IsFound g table s at found = IsFoundOf g table s at found.exits found.reduced.items

-- for each state and lookahead from which runs in the controls with Q lead on, what was found and was right is right
abbrev pub StaysFound : Grammar → (Control → Type 0) → Found → Found → Type 0
StaysFound g Q old new =
    (table : Table) (s : ℕ) (at : Option ℕ) → ((q : Control) → Q q → LeadsFrom g table s at q) → IsFound g table s at old → IsFound g table s at new
