use Rattle.std.proofs.Common.{◌∷◌, [], ◌∙◌, List, ap, inl, inr, refl}
use Rattle.std.proofs.lemmas.List.{map-append}
use Rattle.lrpar_parse_cpctplus.specs.GraphView.{plain_links}
use Rattle.lrpar_parse_cpctplus.specs.LinkView.{plain_link}
use Rattle.lrpar_parse_cpctplus.specs.declared.link.Link.{Link}
use Rattle.lrpar_parse_cpctplus.proofs.HeldLemmas.{numbered_by}
use Rattle.lrpar_parse_cpctplus.proofs.graph.Graph.link.Goals as goal

pub returns-in_ok-push-clause-linked : goal.returns-in_ok-push-clause-linked
returns-in_ok-push-clause-linked g c =
    let index = g.StorageT.StorageIndex.index in
    record {
      to = c.in_ok-to.to;
      numbered = numbered_by c.args.self.now.configurations.keys c.insert_full.new.self.keys c.args.reached c.in_ok-to.to c.in_ok-to.ensures.keys c.in_ok-to.ensures.stored;
      kept = inr (
        c.if-to-first.true,
        ap (λ (ls : List (Link g.row.StorageT.Denot)). plain_links index ls) c.in_ok-push.ensures.items ∙ map-append (plain_link index) c.args.self.now.links.items (_ ∷ []),
      );
    }

pub returns-else-to-first-clause-linked : goal.returns-else-to-first-clause-linked
returns-else-to-first-clause-linked g c = record {
  to = c.in_ok-to.to;
  numbered = numbered_by c.args.self.now.configurations.keys c.insert_full.new.self.keys c.args.reached c.in_ok-to.to c.in_ok-to.ensures.keys c.in_ok-to.ensures.stored;
  kept = inl (c.if-to-first.false, refl);
}
