use Rattle.std.proofs.Common.{◌++◌, arith, replicate}
use Rattle.std.specs.String.{string_bytes}
use Rattle.lrpar_parse_lexemes.proofs.SpacesLemmas.{spaces_boundary, spaces_last, spaces_more}
use Rattle.lrpar_parse_lexemes.specs.declared.spaces.TheConstants.{BLOCK}
use Rattle.lrpar_parse_lexemes.proofs.spaces.push_spaces.Goals as goal

pub loop-left-preserved : goal.loop-left-preserved
loop-left-preserved c =
    spaces_more (string_bytes c.loop-left.out) (string_bytes c.push_str.new.self) c.spaces-block.result.now
    (string_bytes c.args.out.now ++ replicate c.args.count 32) BLOCK c.loop-left.left
    c.in_ok-push_str.ensures.bytes c.spaces-block.ensures (omega arith) c.loop-left.invariant

pub range-requires-clause-end_boundary : goal.range-requires-clause-end_boundary
range-requires-clause-end_boundary c = spaces_boundary c.spaces-block.result.now BLOCK c.loop-left.left c.spaces-block.ensures c.loop-left-test.false

pub returns : goal.returns
returns c =
    spaces_last c.push_str-2.result (string_bytes c.loop-left.out) (string_bytes c.push_str-2.new.self) c.spaces-block.result.now c.range.result.now
    (string_bytes c.args.out.now ++ replicate c.args.count 32) BLOCK c.loop-left.left
    c.push_str-2.ensures.bytes c.range.ensures.value c.spaces-block.ensures c.loop-left-test.false c.loop-left.invariant
