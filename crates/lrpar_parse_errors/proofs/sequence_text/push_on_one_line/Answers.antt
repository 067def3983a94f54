use Rattle.std.proofs.Common.{rules, ◌++◌, lit<, ap, ◌∙◌, sym}
use Rattle.std.specs.String.{string_bytes}
use Rattle.lrpar_parse_errors.specs.SequenceText.{on_one_line}
use Rattle.lrpar_parse_errors.proofs.SequenceTextLemmas.{line_more, plain_line, added}
use Rattle.lrpar_parse_errors.proofs.sequence_text.push_on_one_line.Goals as goal

pub loop-line-preserved : goal.loop-line-preserved
loop-line-preserved c =
    let found = c.in-Some.ensures.byte (lit< tt) (λ w o finds. finds) in
    record {
      utf8 = search rules;
      whole = line_more (string_bytes c.loop-line.out) (string_bytes c.push_str.new.self) (string_bytes c.push_str-in-Some.new.self)
          c.in-Some.line.now c.in-Some.others.now c.loop-line.rest.now found.0 found.1 found.2 c.in_ok-push_str.ensures.bytes c.in_ok-push_str-2.ensures.bytes
          ∙ c.loop-line.invariant.whole;
    }

pub returns : goal.returns
returns c =
    let none = c.in_default.ensures.byte (lit< tt) (λ w o finds. finds) in
    added c.push_str-2.result (string_bytes c.push_str-2.new.self) (string_bytes c.loop-line.out) c.loop-line.rest.now
    (string_bytes c.args.out.now ++ on_one_line c.args.text.now) c.push_str-2.ensures.bytes
    (ap (λ t. string_bytes c.loop-line.out ++ t) (sym (plain_line c.loop-line.rest.now none)) ∙ c.loop-line.invariant.whole)
