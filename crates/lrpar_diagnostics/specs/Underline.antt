-- Parts of a text, underlined on the lines that they touch.
use Rattle.std.specs.Prelude.{ℕ, ◌≡◌, ◌+◌, ◌-◌, ◌≤◌, ◌||◌, nat_lt, Bool, List, [], ◌∷◌, ◌++◌, MatchOption, Option, String, length, filter, max, min, string_bytes}
use Rattle.std.specs.List.{join_by, range_with_len}
use Rattle.lrpar_grammar_places.specs.Lines.{line_start, line_end, starts_line}
use Rattle.lrpar_grammar_places.specs.Span.{Extent}
use Rattle.lrpar_grammar.specs.SpansFit.{IsPartOf}
use Rattle.lrpar_diagnostics.specs.Subject.{Subject}
use Rattle.lrpar_report_columns.specs.Columns.{columns, margin, mark_end, mark_start, printed_line, repeated, text_end}

-- the starts of the lines that start after byte b, up to byte end
abbrev pub starts_after : List ℕ → ℕ → ℕ → List ℕ
starts_after src b end = filter (starts_line src) (range_with_len (b + 1) (end - b))

-- Whether a line is printed, of those after the first one that a part up to byte end touches: if its line feed is before byte
-- end, or if it has text.
abbrev pub is_printed : List ℕ → ℕ → ℕ → Bool
is_printed src end b = nat_lt (line_end src b) end || nat_lt b (text_end src b)

-- the starts of the lines that are printed after the line that starts at byte b
abbrev pub printed_after : List ℕ → ℕ → ℕ → List ℕ
printed_after src b end = filter (is_printed src end) (starts_after src b end)

-- the starts of the lines that are printed for a part: the line where it starts, and those after it that are printed
abbrev pub printed_lines : List ℕ → Extent → List ℕ
printed_lines src span = line_start src span.start ∷ printed_after src (line_start src span.start) span.end

-- the underline of the bytes from i up to j: a character for each column, and at least one
abbrev pub underline : List ℕ → ℕ → ℕ → ℕ → List ℕ
underline src c i j = repeated (max (columns src i j) 1) c

-- the line that starts at byte b, and below it the prefix and the underline, which is under the part
abbrev pub marked_line : List ℕ → List ℕ → Extent → ℕ → ℕ → List ℕ
marked_line src prefix span c b =
    printed_line src b ++ prefix ++ repeated (length (margin src b) - length prefix) 32 ++ repeated (columns src b (mark_start src span b)) 32
    ++ underline src c (mark_start src span b) (mark_end src span b)

-- the printed lines of a part, each underlined, and a message after the last one
abbrev pub block_text : List ℕ → List ℕ → Extent → List ℕ → ℕ → List ℕ
block_text src prefix span message c = join_by (marked_line src prefix span c) (10 ∷ []) (printed_lines src span) ++ 32 ∷ message

-- the underlines of parts that follow on byte i, each after as many spaces as there are columns before it
abbrev pub marks_after : List ℕ → ℕ → ℕ → List Extent → List ℕ
marks_after src c i [] = []
marks_after src c i (span ∷ spans) = repeated (columns src i span.start) 32 ++ underline src c span.start span.end ++ marks_after src c span.end spans

-- the line of a part, and below it the part's underline
abbrev pub first_mark : List ℕ → ℕ → Extent → List ℕ
first_mark src c span =
    let b = line_start src span.start in
    printed_line src b ++ repeated (length (margin src b)) 32 ++ repeated (columns src b (min span.start (text_end src b))) 32
    ++ underline src c span.start span.end

-- the line of the first of some parts, and below it the underlines of all and a message
abbrev pub on_line_text : List ℕ → List Extent → List ℕ → ℕ → List ℕ
on_line_text src [] message c = []
on_line_text src (span ∷ spans) message c = first_mark src c span ++ marks_after src c span.end spans ++ 32 ∷ message

-- the block, or the line, of the text that messages are about, with a message
abbrev pub shown_block : {A : Type 0} → Subject → List ℕ → Extent → String A → ℕ → List ℕ
shown_block f prefix span message c = block_text f.text prefix span (string_bytes message) c

abbrev pub shown_on_line : {A : Type 0} → Subject → List Extent → String A → ℕ → List ℕ
shown_on_line f spans message c = on_line_text f.text spans (string_bytes message) c

-- parts of a text after byte i, in order, none of which overlaps the next
abbrev pub FollowInOrder : List ℕ → ℕ → List Extent → Type 0
FollowInOrder src i [] = Unit {0}
FollowInOrder src i (span ∷ spans) = (i ≤ span.start) × IsPartOf src span × FollowInOrder src span.end spans

-- parts that all end on the line that starts at byte b
abbrev pub EndOnLine : List ℕ → ℕ → List Extent → Type 0
EndOnLine src b [] = Unit {0}
EndOnLine src b (span ∷ spans) = (line_start src span.end ≡ b) × EndOnLine src b spans

-- parts that all end on the line on which the first one starts
abbrev pub EndOnFirstLine : List ℕ → List Extent → Type 0
EndOnFirstLine src [] = Unit {0}
EndOnFirstLine src (span ∷ spans) = EndOnLine src (line_start src span.start) (span ∷ spans)

-- parts of a text that are in order, none of which overlaps the next, all on one line
pub record FollowOnLine (src : List ℕ) (spans : List Extent) : Type 0 where
  pub order : FollowInOrder src 0 spans
  pub line : EndOnFirstLine src spans

-- parts of the text that messages are about: they are in order, none of them overlaps the next, and all are on one line
abbrev pub SpansFollow : Subject → List Extent → Type 0
SpansFollow f spans = FollowOnLine f.text spans

-- the start of the line that is printed after the one that starts at byte b, for a part up to byte `end`, if there is one
abbrev pub IsNextPrinted : List ℕ → ℕ → ℕ → Option ℕ → Type 0
IsNextPrinted src b end found = MatchOption found (printed_after src b end ≡ []) (λ next. printed_after src b end ≡ next ∷ printed_after src next end)
