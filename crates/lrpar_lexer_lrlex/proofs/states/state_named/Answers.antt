use Rattle.std.proofs.Common.{◌∙◌, rules, sym, tests}
use Rattle.std.specs.Str.{bytes_eq}
use Rattle.std.proofs.lemmas.Iterator.{YieldsList-from_slice}
use Rattle.std.proofs.lemmas.Iterator.Search.{position_from_yields_List}
use Rattle.lrpar_lexer_lrlex.specs.States.{StateName}
use Rattle.lrpar_lexer_lrlex.proofs.StateLemmas.{position_map}
use Rattle.lrpar_lexer_lrlex.proofs.states.state_named.Goals as goal

pub returns : goal.returns
returns c =
    position_from_yields_List (λ s. bytes_eq s.name.now c.args.name.now) _ _ c.position.result c.position.ensures.ran
    (YieldsList-from_slice c.args.states.now cc) (λ x b q k. search (rules, tests))
    ∙ sym (position_map (λ (s : StateName). bytes_eq s.name c.args.name.now) (λ s. record { name = s.name.now; exclusive = s.exclusive }) c.args.states.now)
