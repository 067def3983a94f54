-- The text that `{:?}` writes for a tree, over the `Debug` texts of its lexemes and of its rules' numbers.
use Rattle.std.specs.Prelude.{ℕ, List, [], Option, Result, Some, codes}
use Rattle.std.specs.Fmt.{◌++?◌, DisplaysOnOk, debug_items}
use Rattle.std.specs.declared.fmt.Error.{Error}
use Rattle.std.specs.declared.fmt.Formatter.{Formatter}
use Rattle.lrpar_parse_trees.specs.declared.node.Node.{Node}
use Rattle.lrpar_parse_trees.specs.declared.node.Node.TheOpen.{Node-F}
use Rattle.lrpar_parse_trees.specs.declared.node.Node.TheFolds.{fold-Node}

-- a lexeme with its field
abbrev pub shown_lexeme : Option (List ℕ) → Option (List ℕ)
shown_lexeme lexeme = Some (codes "Term { lexeme: ") ++? lexeme ++? Some (codes " }")

-- a rule with its fields, up to the first of its trees
abbrev pub shown_rule : Option (List ℕ) → Option (List ℕ)
shown_rule number = Some (codes "Nonterm { ridx: RIdx(") ++? number ++? Some (codes "), nodes: [")

-- the end of the list of trees, and of the rule
abbrev pub shown_end : Option (List ℕ)
shown_end = Some (codes "] }")

-- a node, over the texts of the trees of its symbols, which have commas between them
abbrev pub shown_step : {X S : Type 0} → (X → Option (List ℕ)) → (S → Option (List ℕ)) → Node-F X S (Option (List ℕ)) → Option (List ℕ)
shown_step lexeme number (Node-F.Term x) = shown_lexeme (lexeme x)
shown_step lexeme number (Node-F.Nonterm ridx texts) = shown_rule (number ridx.0) ++? debug_items (λ text. text) [] texts.items ++? shown_end

-- a tree
abbrev pub shown : {X S : Type 0} → (X → Option (List ℕ)) → (S → Option (List ℕ)) → Node X S → Option (List ℕ)
shown {X = X} {S = S} lexeme number = fold-Node X S (Option (List ℕ)) (shown_step lexeme number)

-- trees with commas between them, and the end of the rule over them
abbrev pub shown_trees : {X S : Type 0} → (X → Option (List ℕ)) → (S → Option (List ℕ)) → List (Node X S) → Option (List ℕ)
shown_trees lexeme number trees = debug_items (shown lexeme number) [] trees ++? shown_end

-- if the call succeeded, the trees were shown, and the end of the rule over them; `took` says what a writer takes
abbrev pub ShowsTrees : {X S W : Type 0} → (X → Option (List ℕ)) → (S → Option (List ℕ)) → (W → List ℕ → W → Type 0) → List (Node X S)
    → Formatter W → Result (Unit {0}) Error → Formatter W → Type 0
ShowsTrees lexeme number took trees old result new = DisplaysOnOk took old result (shown_trees lexeme number trees) new
