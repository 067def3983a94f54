use Rattle.std.proofs.Common.{Some, None, lit<}
use Rattle.std.proofs.lemmas.Str.Pattern.{strip_suffix_char}
use Rattle.lrpar_lexer.specs.RuleLines.{quote, semicolon}
use Rattle.lrpar_lexer.proofs.ReadingLemmas.{has_name, no_ending, no_name, split_at_last}
use Rattle.lrpar_lexer.proofs.rules.line_parts.Goals as goal

pub returns-in_err-front-in-Some : goal.returns-in_err-front-in-Some
returns-in_err-front-in-Some c =
    let line = c.args.line.now in
    let quoted = c.in-Some.quoted.now in
    let is = strip_suffix_char quote line (Some c.in-Some.quoted) c.in-Some.ensures.cases (lit< tt) in
    rw c.from_residual.ensures (no_name line quoted is (split_at_last quote quoted None (lit< tt) c.in_err-front-in-Some.ensures.cases))

pub returns-in_err-strip_suffix-in-None : goal.returns-in_err-strip_suffix-in-None
returns-in_err-strip_suffix-in-None c =
    let line = c.args.line.now in
    let unquoted = strip_suffix_char quote line None c.in-None.ensures.cases (lit< tt) in
    let unclosed = strip_suffix_char semicolon line None c.in_err-strip_suffix-in-None.ensures.cases (lit< tt) in
    rw c.from_residual-in_err-strip_suffix-in-None.ensures (no_ending line unquoted unclosed)

pub returns-in_ok-front-in-Some : goal.returns-in_ok-front-in-Some
returns-in_ok-front-in-Some c =
    let line = c.args.line.now in
    let quoted = c.in-Some.quoted.now in
    let front = c.in_ok-front-in-Some.front in
    let name = c.in_ok-front-in-Some.name in
    let is = strip_suffix_char quote line (Some c.in-Some.quoted) c.in-Some.ensures.cases (lit< tt) in
    has_name line quoted front.now name.now is (split_at_last quote quoted (Some (front, name)) (lit< tt) c.in_ok-front-in-Some.ensures.cases)
