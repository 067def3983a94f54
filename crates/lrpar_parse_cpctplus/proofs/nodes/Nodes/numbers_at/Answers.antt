use Rattle.std.proofs.Common.{◌∙◌, ap, suc}
use Rattle.lrpar_parse_cpctplus.specs.Counted.{counted}
use Rattle.lrpar_parse_cpctplus.specs.NodesView.{links_of, rests_of}
use Rattle.lrpar_parse_cpctplus.specs.declared.form.Form.{Form}
use Rattle.lrpar_parse_cpctplus.proofs.CountLemmas.{all_numbers}
use Rattle.lrpar_parse_cpctplus.proofs.nodes.Nodes.numbers_at.Goals as goal

pub returns : goal.returns
returns g c s is =
    let index = g.StorageT.StorageIndex.index in
    let nodes = c.args.self.now in
    let by = λ (form : Form). counted (rests_of index nodes (suc s) form c.args.node) in
    all_numbers nodes.avoided.now nodes.end (links_of index nodes) (suc s) c.args.node c.args.deleted
    (record { clean = c.pulled.result; avoided = c.pulled-2.result; any = c.pulled-3.result })
    (c.pulled.ensures s is ∙ ap by c.new.ensures) (c.pulled-2.ensures s is ∙ ap by c.new-2.ensures) (c.pulled-3.ensures s is ∙ ap by c.new-3.ensures)
