-- The faults that a `.y` file shows before its grammar is read: of each kind the first, and of these the one with the smallest place.
use Rattle.std.specs.Prelude.{◌≡◌, ◌==◌, ◌&&◌, ℕ, Bool, true, false, List, [], ◌∷◌, ◌++◌, bytes_eq, nat_lt, Option, Some, None, option_map, if◌then◌else◌}
use Rattle.std.specs.List.{find, flat_map, list_any}
use Rattle.std.specs.Option.{is_none}
use Rattle.lrpar_grammar_places.specs.Span.{Extent}
use Rattle.lrpar_grammar_words.specs.Words.{PlacedWord}
use Rattle.lrpar_grammar_yacc.specs.declared.faults.YaccFault.{YaccFault}
use Rattle.lrpar_grammar_yacc.specs.declared.faults.YaccFault.TheVariants.{RepeatedPrec, RepeatedPrecedence, MidRuleAction, BadNumber, Memory}
use Rattle.lrpar_grammar_yacc.specs.declared.parts.PartKind.{PartKind}
use Rattle.lrpar_grammar_yacc.specs.declared.parts.PartKind.TheVariants.{Expect, ExpectRr}
use Rattle.lrpar_grammar_yacc.specs.declared.parts.YaccKind.{YaccKind}
use Rattle.lrpar_grammar_yacc.specs.declared.text.TextPart.{TextPart}
use Rattle.lrpar_grammar_yacc.specs.Declares.{TextDeclarations, TextLevel, TextPrec, declarations, digits_of, number_of}
use Rattle.lrpar_grammar_yacc.specs.Steps.{mid_action, parts_of}

-- the parts with a number
abbrev pub has_number : PartKind → Bool
has_number Expect = true
has_number ExpectRr = true
has_number _ = false

-- a part with a number that isn't one
abbrev pub has_bad_number : List ℕ → TextPart → Bool
has_bad_number text x = has_number x.kind && is_none (number_of (digits_of text x))

-- the digits of the first part whose number isn't one
abbrev pub bad_number : List ℕ → List TextPart → Option Extent
bad_number text parts = option_map (λ (x : TextPart). record { start = x.body; end = x.end }) (find (has_bad_number text) parts)

-- the first name that is among the earlier ones, or in the list before
abbrev pub repeated_after : List (List ℕ) → List PlacedWord → Option Extent
repeated_after before [] = None
repeated_after before (w ∷ ws) = if list_any (bytes_eq w.name) before then Some w.span else repeated_after (before ++ w.name ∷ []) ws

-- the first name whose precedence is declared a second time
abbrev pub repeated_name : List TextLevel → Option Extent
repeated_name levels = repeated_after [] (flat_map (λ x. x.names) levels)

-- the production before is this one
abbrev pub is_same : Option ℕ → ℕ → Bool
is_same None prod = false
is_same (Some before) prod = before == prod

-- The first `%prec` right after another one of the same production. `before`: the production of the one before.
abbrev pub repeated_prec : Option ℕ → List TextPrec → Option Extent
repeated_prec before [] = None
repeated_prec before (x ∷ xs) = if is_same before x.prod then Some x.name.span else repeated_prec (Some x.prod) xs

-- the place of a fault
abbrev pub place_of : YaccFault → ℕ
place_of (RepeatedPrec span) = span.start
place_of (RepeatedPrecedence span) = span.start
place_of (MidRuleAction span) = span.start
place_of (BadNumber span) = span.start
place_of Memory = 0

-- of two faults the one with the smaller place
abbrev pub earlier : Option YaccFault → Option YaccFault → Option YaccFault
earlier None b = b
earlier (Some a) None = Some a
earlier (Some a) (Some b) = if nat_lt (place_of b) (place_of a) then Some b else Some a

-- the first fault of a text by its parts, by what they declare, and by the first action that isn't the last of its alternative
abbrev pub fault_by : List ℕ → List TextPart → TextDeclarations → Option Extent → Option YaccFault
fault_by text parts declared mid =
    earlier (earlier (option_map BadNumber (bad_number text parts)) (option_map RepeatedPrecedence (repeated_name declared.levels)))
    (earlier (option_map RepeatedPrec (repeated_prec None declared.precs)) (option_map MidRuleAction mid))

-- the first fault of a text
abbrev pub first_fault : YaccKind → List ℕ → Option YaccFault
first_fault kind text = fault_by text (parts_of kind text) (declarations kind text) (mid_action kind text)

-- this is the first fault of the text, or an allocation failed
abbrev pub IsYaccFaultOf : YaccKind → List ℕ → YaccFault → Type 0
IsYaccFaultOf kind text Memory = Unit {0}
IsYaccFaultOf kind text fault = first_fault kind text ≡ Some fault
