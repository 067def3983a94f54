use Rattle.std.proofs.Common.{◌≡◌, ℕ, flat_map, map, take}
use Rattle.lrpar_parse_cpctplus.specs.Counted.{IsLayer, counted}
use Rattle.lrpar_parse_cpctplus.specs.LinkView.{plain_link}
use Rattle.lrpar_parse_cpctplus.specs.NodesView.{links_of, rests_of}
use Rattle.lrpar_parse_cpctplus.proofs.RestLemmas.{rests_by}
use Rattle.lrpar_parse_cpctplus.proofs.nodes.Nodes.pulled.Given as goal

-- as many as after the links so far
abbrev pub invariant-loop-link : goal.invariant-loop-link
invariant-loop-link g l =
    let index = g.StorageT.StorageIndex.index in
    (s : ℕ) → IsLayer (rests_of index l.self s) l.layer
    → l.sum ≡ counted (flat_map (rests_by l.self.avoided.now l.self.end (links_of index l.self) s l.form) (map (plain_link index) (take l.link-index l.links)))
