use Rattle.std.proofs.Common.{ap}
use Rattle.lrpar_table_options.specs.Options.{Options}
use Rattle.lrpar_table_options.proofs.OptionsLemmas.{parser_data_by, refused_by}
use Rattle.lrpar_table_options.proofs.options.TableOptions.build.Goals as goal

pub returns-in-Ok-of_safe-clause-built : goal.returns-in-Ok-of_safe-clause-built
returns-in-Ok-of_safe-clause-built g c =
    parser_data_by _ _ _ _ c.in-Ok.ensures.built c.in-Ok.ensures.distinct c.in-Ok.ensures.room _ (ap (λ (o : Options). o.cap) c.self.view_is) _
    c.in-Ok-of_safe.ensures.made c.in-Ok-of_safe.ensures.checked

pub returns-in-Err-of_safe-clause-refused : goal.returns-in-Err-of_safe-clause-refused
returns-in-Err-of_safe-clause-refused g c =
    refused_by _ _ _ _ c.in-Ok.ensures.built c.in-Ok.ensures.distinct c.in-Ok.ensures.room _ (ap (λ (o : Options). o.cap) c.self.view_is)
    c.start_prod-lemma.ensures.well_formed _ c.in-Err-of_safe.ensures.back c.in-Err-of_safe.ensures.fault
