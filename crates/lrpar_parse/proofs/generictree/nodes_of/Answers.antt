use Rattle.std.proofs.Common.{◌∙◌, ap, sym}
use Rattle.std.proofs.lemmas.List.{map-append}
use Rattle.std.specs.Prelude.{◌++◌, ◌∷◌, [], map}
use Rattle.lrpar_parse_run.specs.Nodes.{node_of}
use Rattle.lrpar_parse.proofs.generictree.nodes_of.Goals as goal

pub loop-arg-preserved : goal.loop-arg-preserved
loop-arg-preserved g c =
    c.in_ok-push.ensures.items ∙ (ap (λ made. made ++ c.node_of.result ∷ []) c.loop-arg.invariant
    ∙ (ap (λ node. map node_of c.loop-arg.yielded ++ node ∷ []) c.node_of.ensures ∙ sym (map-append node_of c.loop-arg.yielded (c.in-Some.arg ∷ []))))
