use Rattle.lrpar_parse_suggestions.proofs.AddLemmas.{all_suggested, each_suggested}
use Rattle.lrpar_parse_suggestions.proofs.search.suggestions.Goals as goal

pub returns-clause-each : goal.returns-clause-each
returns-clause-each g c =
    each_suggested g.StorageT.StorageIndex.index c.args.data.now c.args.tokens.now c.args.place c.add_all.new.suggestions c.in_ok-add_all.ensures

pub returns-clause-all : goal.returns-clause-all
returns-clause-all g c =
    all_suggested g.StorageT.StorageIndex.index c.args.data.now c.args.tokens.now c.args.place c.add_all.new.suggestions c.in_ok-add_all.ensures
