use Rattle.std.proofs.Common.{refl}
use Rattle.lrpar_grammar_typed.proofs.ExpandingLemmas.{on_result}
use Rattle.lrpar_grammar_typed.proofs.expand.Expander.next_group_name.Goals as goal

pub returns-clause-sound : goal.returns-clause-sound
returns-clause-sound c = on_result c.group_name.result (record { forms = c.requires.forms; rules = c.requires.rules; tokens = c.requires.tokens; apart = c.requires.apart })

pub returns-clause-extends : goal.returns-clause-extends
returns-clause-extends c =
    on_result c.group_name.result (record { text = refl; rules = λ k x there. there; tokens = λ k x there. there; written = λ k x there written. there })
