use Rattle.std.proofs.Common.{[], ◌∷◌}
use Rattle.lrpar_names.proofs.TrimLemmas.{FindsEnd, FindsFront}
use Rattle.lrpar_names.proofs.TrimLemmas.{cut_is_all, end_trimmed, front_trimmed}
use Rattle.lrpar_names.specs.Parts.{is_white, plain}
use Rattle.lrpar_names.proofs.PartLemmas.{trimmed_is, white_ascii, white_set}
use Rattle.lrpar_names.proofs.part.Part.trimmed.Goals as goal

pub returns : goal.returns
returns c =
    let text = c.args.self.text.now in
    let after = c.trim_start_matches-after.result.now in
    let core = c.trim_end_matches.result.now in
    let cut = end_trimmed is_white white_ascii (FindsEnd (32 ∷ 9 ∷ 13 ∷ 10 ∷ [])) after core c.trim_end_matches.ensures.matches (λ m found says. says is_white white_set) in
    trimmed_is (plain c.args.self) after core
    (front_trimmed is_white white_ascii (FindsFront (32 ∷ 9 ∷ 13 ∷ 10 ∷ [])) text after c.trim_start_matches-after.ensures.matches (λ m found says. says is_white white_set))
    (cut_is_all is_white after core cut.0 cut.1)
