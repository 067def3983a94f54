-- Stacks of states, as they are stored.
use Rattle.std.specs.Prelude.{◌≡◌, Bool, false, Option, Some, None, if◌then◌else◌, option_map}
use Rattle.lrpar_lexer_lrlex.specs.declared.stack.Stack.{Stack}
use Rattle.lrpar_lexer_lrlex.specs.declared.states.Target as code
use Rattle.lrpar_lexer_lrlex.specs.StateRules.{moved}
use Rattle.lrpar_lexer_lrlex.specs.States.{plain_target}

-- the target makes the new stack of the old one, and the answer is yes; or it pops the last state, and the answer is no
abbrev pub IsMoved : Option code.Target → Stack → Stack → Bool → Type 0
IsMoved target old new went =
    moved (option_map plain_target target) old.top old.below.items ≡ (if went then Some (new.top, new.below.items) else None)

-- the stacks are the same if the answer is no
abbrev pub StaysIfNot : Stack → Stack → Bool → Type 0
StaysIfNot old new went = went ≡ false → (new.top ≡ old.top) × (new.below.items ≡ old.below.items)

-- the state on top is the same if there is no target
abbrev pub KeepsTopWithout : Option code.Target → Stack → Stack → Type 0
KeepsTopWithout target old new = option_map plain_target target ≡ None → new.top ≡ old.top
