-- The directives of a `.y` file by their names, which are without `%`.
use Rattle.std.specs.Prelude.{ℕ, Bool, true, false, ◌||◌, List, Option, Some, None, bytes_eq, codes, if◌then◌else◌}
use Rattle.std.specs.Option.{option_or}
use Rattle.lrpar_table_precedence.specs.declared.precedence.AssocKind.TheVariants.{Left, Right, Nonassoc, Undeclared}
use Rattle.lrpar_grammar_bison_rules.specs.declared.directives.Directive.{Directive}
use Rattle.lrpar_grammar_bison_rules.specs.declared.directives.Directive.TheVariants.{Start, Token, Nonterminal, Types, Level, Properties, NamedCode, Code, Params, Define, Text, Prefix, Header, Flag, Glr, DefaultPrec, Expect, ExpectRr, Prec, Empty, Dprec, Merge}

-- a directive before symbols
abbrev pub symbols_directive : List ℕ → Option Directive
symbols_directive name =
    if bytes_eq name (codes "token") || bytes_eq name (codes "term") then Some Token
    else (if bytes_eq name (codes "type") then Some Types
    else (if bytes_eq name (codes "start") then Some Start
    else (if bytes_eq name (codes "nterm") then Some Nonterminal
    else (if bytes_eq name (codes "left") then Some (Level Left)
    else (if bytes_eq name (codes "right") then Some (Level Right)
    else (if bytes_eq name (codes "nonassoc") || bytes_eq name (codes "binary") then Some (Level Nonassoc)
    else (if bytes_eq name (codes "precedence") then Some (Level Undeclared)
    else (if bytes_eq name (codes "prec") then Some Prec else None))))))))

-- a directive before code
abbrev pub code_directive : List ℕ → Option Directive
code_directive name =
    if bytes_eq name (codes "union") || bytes_eq name (codes "code") then Some NamedCode
    else (if bytes_eq name (codes "destructor") || bytes_eq name (codes "printer") then Some Properties
    else (if bytes_eq name (codes "param") || (bytes_eq name (codes "parse-param") || bytes_eq name (codes "lex-param")) then Some Params
    else (if bytes_eq name (codes "initial-action") then Some Code else None)))

-- a directive before a variable or a text
abbrev pub text_directive : List ℕ → Option Directive
text_directive name =
    if bytes_eq name (codes "define") then Some Define
    else (if bytes_eq name (codes "require") || (bytes_eq name (codes "language") || bytes_eq name (codes "skeleton")) then Some Text
    else (if bytes_eq name (codes "name-prefix") || (bytes_eq name (codes "name_prefix") || (bytes_eq name (codes "file-prefix") || bytes_eq name (codes "output"))) then Some Prefix
    else (if bytes_eq name (codes "header") || bytes_eq name (codes "defines") then Some Header else None)))

-- the directive says nothing of the grammar, and nothing comes after it
abbrev pub is_flag : List ℕ → Bool
is_flag name =
    bytes_eq name (codes "locations") || (bytes_eq name (codes "debug") || (bytes_eq name (codes "verbose")
    || (bytes_eq name (codes "yacc") || (bytes_eq name (codes "no-lines") || (bytes_eq name (codes "no_lines")
    || (bytes_eq name (codes "token-table") || (bytes_eq name (codes "token_table") || (bytes_eq name (codes "pure-parser")
    || (bytes_eq name (codes "pure_parser") || (bytes_eq name (codes "error-verbose") || (bytes_eq name (codes "error_verbose")
    || (bytes_eq name (codes "fixed-output-files") || (bytes_eq name (codes "fixed_output_files"))))))))))))))

-- a directive before a number or a type, or one before nothing
abbrev pub other_directive : List ℕ → Option Directive
other_directive name =
    if bytes_eq name (codes "empty") then Some Empty
    else (if bytes_eq name (codes "dprec") then Some Dprec
    else (if bytes_eq name (codes "merge") then Some Merge
    else (if bytes_eq name (codes "expect") then Some Expect
    else (if bytes_eq name (codes "expect-rr") || bytes_eq name (codes "expect_rr") then Some ExpectRr
    else (if bytes_eq name (codes "default-prec") || bytes_eq name (codes "default_prec") then Some (DefaultPrec true)
    else (if bytes_eq name (codes "no-default-prec") || bytes_eq name (codes "no_default_prec") then Some (DefaultPrec false)
    else (if bytes_eq name (codes "glr-parser") || bytes_eq name (codes "nondeterministic-parser") then Some Glr
    else (if is_flag name then Some Flag else None))))))))

-- the directive with that name
abbrev pub directive_named : List ℕ → Option Directive
directive_named name = option_or (option_or (option_or (symbols_directive name) (code_directive name)) (text_directive name)) (other_directive name)
