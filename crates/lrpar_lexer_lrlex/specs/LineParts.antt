-- The parts of a line of a rule: `<STATES>PATTERN <TARGET>NAME`.
use Rattle.std.specs.Prelude.{ℕ, ◌==◌, length, Option, Some, None, option_map, Result, Ok, Err, codes, bytes_eq, if◌then◌else◌}
use Rattle.lrpar_lexer_lrlex.specs.declared.fault.LrlexFault.{LrlexFault}
use Rattle.lrpar_lexer_lrlex.specs.declared.fault.LrlexFault.TheVariants.{NoName, NoPattern, OpenQuote, OpenState}
use Rattle.lrpar_lexer_lrlex.specs.declared.part.Part as code
use Rattle.lrpar_lexer_lrlex.specs.declared.rule_line.LineParts as code_line
use Rattle.lrpar_lexer_lrlex.specs.Faults.{◌>>=◌}
use Rattle.lrpar_lexer_lrlex.specs.Parts.{Part, after_byte, after_cut, before_cut, before_last_byte, before_word, last_word, placed, span_of}

-- the names of states in front, the pattern, the target, and the name without quotes, or none if a semicolon is in its place
pub record LineParts : Type 0 where
  pub states : Option Part
  pub pattern : Part
  pub target : Option Part
  pub name : Option Part

abbrev pub plain_parts : code_line.LineParts → LineParts
plain_parts parts = record {
  states = option_map (λ p. placed p) parts.states;
  pattern = placed parts.pattern;
  target = option_map (λ p. placed p) parts.target;
  name = option_map (λ p. placed p) parts.name;
}

abbrev pub plain_angled : Option code.Part × code.Part → Option Part × Part
plain_angled (inside, rest) = (option_map (λ p. placed p) inside, placed rest)

-- what is between `<` and the first `>` at the start of a part, if it begins with `<`, and what comes after that
abbrev pub angled_to : Part → Part → Option Part → Result (Option Part × Part) LrlexFault
angled_to part inside None = Err (OpenState (span_of part))
angled_to part inside (Some rest) = Ok (Some inside, rest)

abbrev pub angled_from : Part → Option Part → Result (Option Part × Part) LrlexFault
angled_from part None = Ok (None, part)
angled_from part (Some inner) = angled_to part (before_cut 62 inner) (after_cut 62 inner)

abbrev pub angled : Part → Result (Option Part × Part) LrlexFault
angled part = angled_from part (after_byte 60 part)

-- the name of an ending before its closing quote
abbrev pub closed_to : Part → Option Part → Result (Option Part) LrlexFault
closed_to ending None = Err (OpenQuote (span_of ending))
closed_to ending (Some name) = Ok (Some name)

abbrev pub closed : ℕ → Part → Part → Result (Option Part) LrlexFault
closed quote ending inner = closed_to ending (before_last_byte quote inner)

-- the name of an ending: what is between double quotes, or between single ones, or all of it; none if it is a semicolon
abbrev pub quoted : Part → Option Part → Option Part → Result (Option Part) LrlexFault
quoted ending (Some inner) single = closed 34 ending inner
quoted ending None (Some inner) = closed 39 ending inner
quoted ending None None = Ok (Some ending)

abbrev pub name : Part → Result (Option Part) LrlexFault
name ending =
    if bytes_eq ending.bytes (codes ";") then Ok None
    else if length ending.bytes == 0 then Err (NoName (span_of ending))
    else quoted ending (after_byte 34 ending) (after_byte 39 ending)

-- the parts of a line: the name and its target come after the last white byte
abbrev pub line_parts : Part → Result LineParts LrlexFault
line_parts line =
    angled (before_word line) >>= λ front.
    (if length (front.1.bytes) == 0 then Err (NoPattern (span_of line)) else Ok front.1) >>= λ pattern.
    angled (last_word line) >>= λ ending.
    name ending.1 >>= λ name.
    Ok (record { states = front.0; pattern = pattern; target = ending.0; name = name })
