use Rattle.std.proofs.Common.{string_bytes, ◌++◌, ◌∙◌, ap, sym, map-id, append-nil}
use Rattle.std.specs.List.{flat_map}
use Rattle.std.proofs.lemmas.Iterator.{YieldsList-from_chars}
use Rattle.std.proofs.lemmas.Iterator.Consumers.{YieldsList-end}
use Rattle.std.proofs.lemmas.List.{flat_map_more}
use Rattle.lrpar_parse_trees.specs.Escapes.{escaped_char}
use Rattle.lrpar_parse_trees.proofs.escapes.push_escaped.Goals as goal

pub loop-c-init : goal.loop-c-init
loop-c-init c = sym (append-nil (string_bytes c.args.out.now))

pub loop-c-preserved : goal.loop-c-preserved
loop-c-preserved c =
    c.in_ok-push_char.ensures ∙ ap (λ bytes. bytes ++ escaped_char c.in-Some.c) c.loop-c.invariant
    ∙ flat_map_more escaped_char (string_bytes c.args.out.now) c.loop-c.yielded c.in-Some.c

pub returns : goal.returns
returns c =
    let done = YieldsList-end (YieldsList-from_chars c.args.text.now c.utf8.text cc) c.loop-c.yielded _ c.loop-c.yielded_by _ _ c.in-None.is c.next.ensures.steps in
    c.loop-c.invariant ∙ ap (λ cs. string_bytes c.args.out.now ++ flat_map escaped_char cs) (sym (map-id c.loop-c.yielded) ∙ done.0)
