-- Trees of rules, by the bytes with which their matches begin.
use Rattle.std.specs.Prelude.{◌≡◌, ◌⊎◌, ℕ, ◌==◌, ◌<◌, ◌≤◌, List, [], ◌∷◌, ◌++◌, length, set, Option, Some, None, if◌then◌else◌, Contains, Vec, slice_get}
use Rattle.std.specs.Option.{IsSomeAnd}
use Rattle.regex_meta.specs.Programs.{pattern_of}
use Rattle.regex_meta.specs.declared.program.Program.{Program}
use Rattle.lrpar_lexer.specs.Anchored.{HasNothingAtStart}
use Rattle.lrpar_lexer.specs.declared.rule_tree.Node.{Node}
use Rattle.lrpar_lexer.specs.declared.rule_tree.Branch.{Branch}

-- the rules at a node; none if there is no such node
abbrev pub rules_of : Option Node → List ℕ
rules_of None = []
rules_of (Some node) = node.rules.items

abbrev pub rules_at : List Node → ℕ → List ℕ
rules_at nodes n = rules_of (slice_get nodes n)

-- the branches of a node; none if there is no such node
abbrev pub branches_of : Option Node → List Branch
branches_of None = []
branches_of (Some node) = node.branches.items

abbrev pub branches_at : List Node → ℕ → List Branch
branches_at nodes n = branches_of (slice_get nodes n)

-- the node of the first branch with this byte
abbrev pub branch_to : List Branch → ℕ → Option ℕ
branch_to [] byte = None
branch_to (branch ∷ branches) byte = if branch.byte == byte then Some branch.node else branch_to branches byte

-- the node to which a byte leads from a node
abbrev pub next_of : List Node → ℕ → ℕ → Option ℕ
next_of nodes n byte = branch_to (branches_at nodes n) byte

-- there is a node for each first byte, and each byte that leads from a node leads to a node
pub record IsTree (nodes : List Node) : Type 0 where
  pub first : 256 ≤ length nodes
  pub within : (n byte next : ℕ) → next_of nodes n byte ≡ Some next → next < length nodes

-- the walk along the text from a node meets the rule after its first byte
abbrev pub MeetsBelow : List Node → ℕ → List ℕ → ℕ → Type 0
MeetsBelow nodes n [] rule = ⊥
MeetsBelow nodes n (byte ∷ text) rule =
    IsSomeAnd (next_of nodes n byte) (λ next. Contains (rules_at nodes next) rule ⊎ MeetsBelow nodes next text rule)

-- the walk along the text from a node meets the rule, there or further on
abbrev pub Meets : List Node → ℕ → List ℕ → ℕ → Type 0
Meets nodes n text rule = Contains (rules_at nodes n) rule ⊎ MeetsBelow nodes n text rule

-- the program finds nothing at the start of a text along which the walk doesn't meet the rule
abbrev pub IsMet : List Node → Program → ℕ → Type 0
IsMet nodes program rule =
    (byte : ℕ) (text : List ℕ) → byte < 256 → ¬ (Meets nodes byte text rule) → HasNothingAtStart (pattern_of program) (byte ∷ text)

-- the program finds nothing at the start of a text along which the walk over the nodes, as they are stored, doesn't meet the rule
abbrev pub IsMetIn : {A : Type 0} → Vec Node A → Program → ℕ → Type 0
IsMetIn nodes program rule = IsMet nodes.items program rule

-- each program finds nothing at the start of a text along which the walk doesn't meet the rule with the program's number
abbrev pub AreMet : List Node → List Program → Type 0
AreMet nodes programs = (rule : ℕ) (program : Program) → slice_get programs rule ≡ Some program → IsMet nodes program rule

-- the program finds nothing at the start of a text that begins with the byte
abbrev pub FindsNoneFrom : Program → ℕ → Type 0
FindsNoneFrom program byte = (text : List ℕ) → HasNothingAtStart (pattern_of program) (byte ∷ text)

-- the program finds nothing at the start of a text that begins with the byte, if the walk along it doesn't meet the rule
abbrev pub IsMetFrom : {A : Type 0} → Vec Node A → ℕ → Program → ℕ → Type 0
IsMetFrom nodes byte program rule =
    (text : List ℕ) → ¬ (Meets nodes.items byte text rule) → HasNothingAtStart (pattern_of program) (byte ∷ text)

-- the walk along each text that begins with these bytes meets the rule
abbrev pub IsMetAlong : {A : Type 0} → Vec Node A → List ℕ → ℕ → Type 0
IsMetAlong nodes text rule = (byte : ℕ) (before after : List ℕ) → text ≡ byte ∷ before → Meets nodes.items byte (before ++ after) rule

-- one more node, without rules
pub record IsNodePushed (old new : List Node) : Type 0 where
  pub node : Node
  pub is : new ≡ old ++ node ∷ []
  pub no_rules : node.rules.items ≡ []
  pub no_branches : node.branches.items ≡ []

-- node n has one more branch, after those that it had; all else is as before
pub record IsBranchPushed (old : List Node) (n : ℕ) (branch : Branch) (new : List Node) : Type 0 where
  pub node : Node
  pub is : new ≡ set old n node
  pub rules : node.rules.items ≡ rules_at old n
  pub branches : node.branches.items ≡ branches_at old n ++ branch ∷ []

-- node n has one more rule, after those that it had; all else is as before
pub record IsRulePushed (old : List Node) (n rule : ℕ) (new : List Node) : Type 0 where
  pub node : Node
  pub is : new ≡ set old n node
  pub rules : node.rules.items ≡ rules_at old n ++ rule ∷ []
  pub branches : node.branches.items ≡ branches_at old n

-- the nodes are still there, with their rules and branches; and a tree is still a tree
pub record Grows (old new : List Node) : Type 0 where
  pub rules : (n rule : ℕ) → Contains (rules_at old n) rule → Contains (rules_at new n) rule
  pub branches : (n byte next : ℕ) → next_of old n byte ≡ Some next → next_of new n byte ≡ Some next
  pub tree : IsTree old → IsTree new

-- the nodes, as they are stored, are still there, with their rules and branches; and a tree is still a tree
abbrev pub HasGrown : {A : Type 0} → Vec Node A → Vec Node A → Type 0
HasGrown old new = Grows old.items new.items

-- the byte leads from node n to node `next`
abbrev pub LeadsToNode : {A : Type 0} → Vec Node A → ℕ → ℕ → ℕ → Type 0
LeadsToNode nodes n byte next = next_of nodes.items n byte ≡ Some next
