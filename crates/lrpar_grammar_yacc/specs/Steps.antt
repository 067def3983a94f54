-- How a `.y` file is read: by steps over blanks, words and parts. Where a grammar text may go on with a word or blanks, there is no part.
use Rattle.std.specs.Prelude.{◌<◌, ◌≤◌, length, ◌+◌, ◌-◌, ℕ, zero, suc, List, [], ◌∷◌, ◌++◌, Option, Some, None, option_map, option_and_then}
use Rattle.std.specs.Option.{option_map_or, option_or}
use Rattle.lrpar_grammar_places.specs.Span.{Extent}
use Rattle.lrpar_grammar_words.specs.declared.words.WordKind.{WordKind}
use Rattle.lrpar_grammar_words.specs.declared.word_order.Expected.{Expected}
use Rattle.lrpar_grammar_words.specs.declared.word_order.Expected.TheVariants.{Declaration}
use Rattle.lrpar_grammar_words.specs.declared.word_order.Role.{Role}
use Rattle.lrpar_grammar_words.specs.declared.word_order.Role.TheVariants.{AlternativeEnd}
use Rattle.lrpar_grammar_words.specs.Words.{piece_at}
use Rattle.lrpar_grammar_words.specs.WordOrder.{after}
use Rattle.lrpar_grammar_yacc.specs.declared.parts.Part.{Part}
use Rattle.lrpar_grammar_yacc.specs.declared.parts.PartKind.TheVariants.{Action}
use Rattle.lrpar_grammar_yacc.specs.declared.parts.YaccKind.{YaccKind}
use Rattle.lrpar_grammar_yacc.specs.declared.steps.Step.{Step}
use Rattle.lrpar_grammar_yacc.specs.declared.steps.StepKind.{StepKind}
use Rattle.lrpar_grammar_yacc.specs.declared.steps.StepKind.TheVariants.{Blank, Word, End, Part as PartStep}
use Rattle.lrpar_grammar_yacc.specs.declared.text.TextPart.{TextPart}
use Rattle.lrpar_grammar_yacc.specs.Parts.{EndsAtAscii, part_at}

-- what a word of that role is to a step
abbrev pub word_kind : Role → StepKind
word_kind AlternativeEnd = End
word_kind _ = Word

-- a step of that length over a word or blanks
abbrev pub word_step : StepKind → ℕ → Expected → Step
word_step kind len next = record { kind = kind; head = 0; len = len; next = next }

-- the step over blanks, or over a word if it is allowed
abbrev pub piece_step : Expected → ℕ → Option WordKind → Option Step
piece_step expected len None = Some (word_step Blank len expected)
piece_step expected len (Some word) = option_map (λ (r : Role × Expected). word_step (word_kind r.0) len r.1) (after expected word)

-- the step over a part, after which the same is allowed as before it
abbrev pub part_step : Expected → Part → Step
part_step expected x = record { kind = PartStep x.kind; head = x.head; len = x.len; next = expected }

-- the step at the start of s, where words as expected are allowed: over the blanks or the word there or, if there is none that is
-- allowed, over the part
unfoldable pub step_at : YaccKind → Expected → List ℕ → Option Step
step_at kind expected s =
    option_or (option_and_then (λ x. piece_step expected x.len x.word) (piece_at s)) (option_map (part_step expected) (part_at kind expected s))

-- the steps from s on. `skip`: how many bytes of s belong to a step that begins before it.
abbrev pub steps_from : YaccKind → Expected → ℕ → List ℕ → List Step
steps_from kind expected skip [] = []
steps_from kind expected (suc skip) (c ∷ s) = steps_from kind expected skip s
steps_from kind expected zero (c ∷ s) =
    option_map_or (λ x. x ∷ steps_from kind x.next (x.len - 1) s) (step_at kind expected (c ∷ s)) []

-- the steps of a text: each begins where the one before ends, as far as there are any
abbrev pub steps_of : YaccKind → List ℕ → List Step
steps_of kind text = steps_from kind Declaration 0 text

-- the number of alternatives that a step ends
abbrev pub ends : StepKind → ℕ
ends End = 1
ends _ = 0

-- the part that a step passes over at that place, where so many alternatives have ended
abbrev pub part_of : ℕ → ℕ → Step → StepKind → List TextPart
part_of place prod x (PartStep kind) = record { kind = kind; start = place; body = place + x.head; end = place + x.len; prod = prod } ∷ []
part_of place prod x _ = []

-- the parts among steps, the first of which is at that place, where so many alternatives have ended
abbrev pub parts_from : ℕ → ℕ → List Step → List TextPart
parts_from place prod [] = []
parts_from place prod (x ∷ xs) = part_of place prod x x.kind ++ parts_from (place + x.len) (prod + ends x.kind) xs

-- the parts of a text
abbrev pub parts_of : YaccKind → List ℕ → List TextPart
parts_of kind text = parts_from 0 0 (steps_of kind text)

-- the action right before what comes after a step, with only blanks between
abbrev pub action_after : ℕ → ℕ → StepKind → Option Extent → Option Extent
action_after place len Blank last = last
action_after place len (PartStep Action) last = Some (record { start = place; end = place + len })
action_after place len _ last = None

-- the action before a step of that kind, if the step shows that it isn't the last of its alternative
abbrev pub mid_before : StepKind → Option Extent → Option Extent
mid_before Blank last = None
mid_before End last = None
mid_before _ last = last

-- The first action that isn't the last of its alternative. `last`: the action right before the first of these steps.
abbrev pub mid_from : ℕ → Option Extent → List Step → Option Extent
mid_from place last [] = None
mid_from place last (x ∷ xs) = option_or (mid_before x.kind last) (mid_from (place + x.len) (action_after place x.len x.kind last) xs)

-- the first action of a text that isn't the last of its alternative
abbrev pub mid_action : YaccKind → List ℕ → Option Extent
mid_action kind text = mid_from 0 None (steps_of kind text)

-- a step passes over at least one byte, and it ends in s between two characters
pub record IsStepWithin (s : List ℕ) (x : Step) : Type 0 where
  pub some : 0 < x.len
  pub body : x.head ≤ x.len
  pub most : x.len ≤ length s
  pub end : EndsAtAscii s x.len
