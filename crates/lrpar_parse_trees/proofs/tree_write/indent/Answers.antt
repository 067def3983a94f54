use Rattle.std.specs.String.{string_bytes}
use Rattle.std.proofs.lemmas.Str.{IsUtf8-string_bytes}
use Rattle.lrpar_parse_trees.proofs.IndentLemmas.{cut_fits, cut_leads, indent_more}
use Rattle.lrpar_parse_trees.proofs.tree_write.indent.Goals as goal

pub truncate-requires : goal.truncate-requires
truncate-requires c = λ _.
    let line = string_bytes c.args.line.now in
    (cut_fits line c.args.spaces c.requires, cut_leads line c.args.spaces (IsUtf8-string_bytes c.args.line.now) c.requires)

pub returns : goal.returns
unfolding lib.Utf8.encode
returns c =
    indent_more c.push.result (string_bytes c.args.line.now) (string_bytes c.truncate.new.self) (string_bytes c.push.new.self) c.args.spaces
    c.requires c.truncate.ensures.bytes c.push.ensures.bytes
