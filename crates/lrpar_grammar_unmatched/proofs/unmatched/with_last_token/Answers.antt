use Rattle.std.proofs.Common.{◌≡◌, subst, sym, ◌∙◌, ap, arith}
use Rattle.lrpar_grammar_unmatched.specs.WithToken.{IsUnused, declared_parts, with_last_token, with_token}
use Rattle.lrpar_grammar_reader.specs.Grammar.{end_token}
use Rattle.lrpar_grammar_reader.specs.Parts.{IsRefusalOf, grammar_of}
use Rattle.lrpar_grammar_unmatched.proofs.SoundLemmas.{refused_for_memory, sound, unused}
use Rattle.lrpar_grammar_unmatched.proofs.unmatched.with_last_token.Goals as goal

pub lack_of_memory-requires : goal.lack_of_memory-requires
lack_of_memory-requires g c =
    let limit = g.StorageT.StorageIndex.limit in
    let grm = c.args.grm.now in
    refused_for_memory limit (with_last_token (declared_parts grm) c.args.name.now) c.in-Err.fault
    (sound grm c.start_prod.ensures.well_formed c.args.name.now limit (omega arith) (omega arith) c.requires)
    (subst (λ x. IsRefusalOf limit x c.in-Err.fault) c.in_ok-parts.ensures c.in-Err.ensures.refused)

pub returns-in-Ok-clause-unused : goal.returns-in-Ok-clause-unused
returns-in-Ok-clause-unused g c =
    let grm = c.args.grm.now in
    let name = c.args.name.now in
    let is : c.in-Ok.made ≡ with_token grm name = c.in-Ok.ensures.made ∙ ap grammar_of c.in_ok-parts.ensures in
    subst (λ made. IsUnused made (end_token grm)) (sym is) (unused grm c.start_prod.ensures.well_formed name)
