-- The texts of conflicts.
use Rattle.std.specs.Prelude.{ℕ, ◌==◌, List, [], ◌∷◌, ◌++◌, Option, Some, None, codes, unwrap_or, position, option_and_then, if◌then◌else◌}
use Rattle.std.specs.List.{flat_map}
use Rattle.std.specs.Option.{option_map_or}
use Rattle.std.specs.Str.{bytes_eq}
use Rattle.lrpar_grammar_places.specs.Lines.{line_start}
use Rattle.lrpar_grammar_places.specs.Span.{Extent, nowhere}
use Rattle.lrpar_grammar.specs.Grammar.{Grammar, rule_of, rule_name, rule_span, token_name, token_span, symbol_spans_of, prod_span_of}
use Rattle.lrpar_table_rows.specs.Table.{ConflictLists, ReduceReduce, ShiftReduce}
use Rattle.lrpar_diagnostics.specs.Subject.{Subject}
use Rattle.lrpar_diagnostics.specs.Location.{place_text}
use Rattle.lrpar_diagnostics.specs.Underline.{block_text, on_line_text}

-- a place of the grammar, underlined with a label
abbrev pub labelled : List ℕ → Extent → List ℕ → List ℕ
labelled src span label = block_text src [] span label 94 ++ 10 ∷ []

-- a token as conflicts name it: by its name, and the end token by `$`
abbrev pub shown_name : Grammar → ℕ → List ℕ
shown_name g t = unwrap_or (token_name g t) (codes "$")

-- the place at which the first token of the name `$` is first declared or used, if there is one
abbrev pub dollar_span : Grammar → Option Extent
dollar_span g = option_and_then (token_span g) (position (λ token. bytes_eq token.name (codes "$")) g.tokens)

-- the place that is shown for a token: its own, and for the end token that of `$`
abbrev pub own_or : Option Extent → Option Extent → Option Extent
own_or (Some span) other = Some span
own_or None other = other

abbrev pub shown_span : Grammar → ℕ → Option Extent
shown_span g t = own_or (token_span g t) (dollar_span g)

-- the place of a lookahead, if there is one
abbrev pub lookahead_text : List ℕ → Option Extent → List ℕ
lookahead_text src span = option_map_or (λ at. labelled src at (codes "Lookahead")) span []

-- the message of a conflict between reductions by two rules at a token
abbrev pub two_reductions : List ℕ → List ℕ → List ℕ → List ℕ
two_reductions first second token =
    codes "Reduce/Reduce conflict, can reduce '" ++ first ++ codes "' or '" ++ second ++ codes "' with lookahead '" ++ token ++ codes "'"

-- the first line of a conflict between reductions by rules a and b at token t
abbrev pub reduce_reduce_line : Subject → Grammar → ℕ → ℕ → ℕ → List ℕ
reduce_reduce_line f g a b t = place_text f (two_reductions (rule_name g a) (rule_name g b) (shown_name g t)) (rule_span g a).start ++ 10 ∷ []

-- a conflict between reductions by rules a and b at token t
abbrev pub rules_text : Subject → Grammar → ℕ → ℕ → ℕ → List ℕ
rules_text f g a b t =
    reduce_reduce_line f g a b t ++ labelled f.text (rule_span g a) (codes "First reduce") ++ labelled f.text (rule_span g b) (codes "Second reduce")
    ++ lookahead_text f.text (shown_span g t) ++ 10 ∷ []

-- a conflict between two reductions
abbrev pub reduce_reduce_text : Subject → Grammar → ReduceReduce → List ℕ
reduce_reduce_text f g x = rules_text f g (rule_of g x.first) (rule_of g x.second) x.token

-- one more part of a text before groups: it joins the first group if both are on the same line
abbrev pub ahead_of : List ℕ → Extent → List (List Extent) → List (List Extent)
ahead_of src span [] = (span ∷ []) ∷ []
ahead_of src span ([] ∷ groups) = (span ∷ []) ∷ groups
ahead_of src span ((next ∷ group) ∷ groups) =
    if line_start src span.start == line_start src next.start then (span ∷ next ∷ group) ∷ groups else (span ∷ []) ∷ (next ∷ group) ∷ groups

-- parts of a text in order as groups, one for each line on which some start
abbrev pub by_line : List ℕ → List Extent → List (List Extent)
by_line src [] = []
by_line src (span ∷ spans) = ahead_of src span (by_line src spans)

-- the label of the symbols of a production on one line, with these groups after it: none, but on the last line
abbrev pub group_label : List (List Extent) → List ℕ
group_label [] = codes "Reduced productions"
group_label (group ∷ groups) = []

-- the lines with the symbols of a production
abbrev pub groups_text : List ℕ → List (List Extent) → List ℕ
groups_text src [] = []
groups_text src (group ∷ groups) = on_line_text src group (group_label groups) 45 ++ 10 ∷ [] ++ groups_text src groups

-- the places that are shown for a production: its symbols, or, without any, its own place
abbrev pub shown_spans : Extent → List Extent → List Extent
shown_spans own [] = own ∷ []
shown_spans own (span ∷ spans) = span ∷ spans

abbrev pub reduced_spans : Grammar → ℕ → List Extent
reduced_spans g p = shown_spans (prod_span_of g p) (symbol_spans_of g p)

-- the message of a conflict between the shift of a token and a reduction by a rule
abbrev pub shift_or_reduction : List ℕ → List ℕ → List ℕ
shift_or_reduction token rule = codes "Shift/Reduce conflict, can shift '" ++ token ++ codes "' or reduce '" ++ rule ++ codes "'"

-- the first line of a conflict between the shift of token t and a reduction by rule a
abbrev pub shift_reduce_line : Subject → Grammar → ℕ → ℕ → List ℕ
shift_reduce_line f g t a = place_text f (shift_or_reduction (shown_name g t) (rule_name g a)) (rule_span g a).start ++ 10 ∷ []

-- a conflict between the shift of token t and a reduction by production p of rule a
abbrev pub shift_text : Subject → Grammar → ℕ → ℕ → ℕ → List ℕ
shift_text f g t a p =
    shift_reduce_line f g t a ++ labelled f.text (unwrap_or (token_span g t) nowhere) (codes "Shift") ++ labelled f.text (rule_span g a) (codes "Reduced rule")
    ++ groups_text f.text (by_line f.text (reduced_spans g p)) ++ 10 ∷ []

-- a conflict between a shift and a reduction
abbrev pub shift_reduce_text : Subject → Grammar → ShiftReduce → List ℕ
shift_reduce_text f g x = shift_text f g x.token (rule_of g x.prod) x.prod

-- all conflicts: those between two reductions first
abbrev pub conflicts_text : Subject → Grammar → ConflictLists → List ℕ
conflicts_text f g c = flat_map (reduce_reduce_text f g) c.reduce_reduce ++ flat_map (shift_reduce_text f g) c.shift_reduce
