-- The flags of a `.l` file, which come first: `%grmtools{FLAGS}`.
use Rattle.std.specs.Prelude.{ℕ, ◌==◌, Bool, true, false, List, [], ◌∷◌, length, Option, Some, None, Result, Ok, Err, codes, ok_or, bytes_eq, if◌then◌else◌}
use Rattle.regex_syntax.specs.declared.flags.Flags.{Flags}
use Rattle.regex.specs.Patterns.{default_config}
use Rattle.lrpar_lexer_lrlex.specs.declared.fault.LrlexFault.{LrlexFault}
use Rattle.lrpar_lexer_lrlex.specs.declared.fault.LrlexFault.TheVariants.{Flag, Header}
use Rattle.lrpar_lexer_lrlex.specs.declared.flags.TextFlags.{TextFlags}
use Rattle.lrpar_lexer_lrlex.specs.declared.part.Part as code
use Rattle.lrpar_lexer_lrlex.specs.Faults.{◌>>=◌}
use Rattle.lrpar_lexer_lrlex.specs.Parts.{Part, after_byte, after_cut, after_word, before_cut, pieces, placed, span_of, trimmed}

-- the flags of a text that sets none: `^` and `$` match at the ends of lines, `\141` is an octal escape, and the rest is as in `regex`
abbrev pub unset : TextFlags
unset = record {
  config = record default_config { flags = record (default_config.flags) { multi_line = true }; octal = true };
  comments = false;
}

-- the flags of a pattern after a change
abbrev pub with_flags : TextFlags → (Flags → Flags) → TextFlags
with_flags flags change = record flags { config = record (flags.config) { flags = change flags.config.flags } }

-- the flags after the one with that name is set to this value; none if no flag has the name
abbrev pub with_flag : TextFlags → List ℕ → Bool → Option TextFlags
with_flag flags name value =
    if bytes_eq name (codes "case_insensitive") then Some (with_flags flags (λ f. record f { case_insensitive = value }))
    else if bytes_eq name (codes "dot_matches_new_line") then Some (with_flags flags (λ f. record f { dot_matches_new_line = value }))
    else if bytes_eq name (codes "multi_line") then Some (with_flags flags (λ f. record f { multi_line = value }))
    else if bytes_eq name (codes "swap_greed") then Some (with_flags flags (λ f. record f { swap_greed = value }))
    else if bytes_eq name (codes "unicode") then Some (with_flags flags (λ f. record f { unicode = value }))
    else if bytes_eq name (codes "octal") then Some (record flags { config = record (flags.config) { octal = value } })
    else if bytes_eq name (codes "allow_wholeline_comments") then Some (record flags { comments = value })
    else None

-- the flags after one more is read: a `!` in front turns it off, and an empty one changes nothing
abbrev pub changed : TextFlags → Part → Option Part → Option TextFlags
changed flags flag None = with_flag flags flag.bytes true
changed flags flag (Some name) = with_flag flags name.bytes false

abbrev pub set : TextFlags → Part → Result TextFlags LrlexFault
set flags flag =
    if length flag.bytes == 0 then Ok flags else ok_or (changed flags flag (after_byte 33 flag)) (Flag (span_of flag))

-- the flags after each of these is read
abbrev pub set_all : TextFlags → List Part → Result TextFlags LrlexFault
set_all flags [] = Ok flags
set_all flags (flag ∷ more) = set flags (trimmed flag) >>= λ flags. set_all flags more

-- the flags that a text between braces sets, with commas between them
abbrev pub flags_of : Part → Result TextFlags LrlexFault
flags_of inside = set_all unset (pieces 44 inside)

abbrev pub plain_header : TextFlags × code.Part → TextFlags × Part
plain_header (flags, rest) = (flags, placed rest)

-- the flags of a text, and what comes after them; without `%grmtools` it is all of the text
abbrev pub header_to : Part → Part → Option Part → Result (TextFlags × Part) LrlexFault
header_to begin inside None = Err (Header (span_of begin))
header_to begin inside (Some rest) = flags_of inside >>= λ flags. Ok (flags, rest)

abbrev pub header_in : Part → Option Part → Result (TextFlags × Part) LrlexFault
header_in begin None = Err (Header (span_of begin))
header_in begin (Some inner) = header_to begin (before_cut 125 inner) (after_cut 125 inner)

abbrev pub header_after : Part → Option Part → Result (TextFlags × Part) LrlexFault
header_after text None = Ok (unset, text)
header_after text (Some after) = header_in (trimmed text) (after_byte 123 (trimmed after))

abbrev pub header : Part → Result (TextFlags × Part) LrlexFault
header text = header_after text (after_word (codes "%grmtools") (trimmed text))
