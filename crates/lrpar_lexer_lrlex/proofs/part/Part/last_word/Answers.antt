use Rattle.std.proofs.Common.{[], ◌∷◌, ◌∙◌, ap, refl}
use Rattle.lrpar_lexer.proofs.MarginLemmas.{FindsEnd}
use Rattle.lrpar_lexer.proofs.TrimLemmas.{cut_is_all, end_trimmed}
use Rattle.lrpar_lexer_lrlex.specs.Parts.{is_white, placed}
use Rattle.lrpar_lexer_lrlex.proofs.PartLemmas.{front_is, splits_word, white_ascii, white_set, word_is}
use Rattle.lrpar_lexer_lrlex.proofs.part.Part.last_word.Goals as goal

pub returns-clause-front : goal.returns-clause-front
returns-clause-front c =
    let front = c.unwrap_or.result.0.now in
    let core = c.trim_end_matches.result.now in
    let split = splits_word c.args.self.text.now c.rsplit_once.result _ _ refl refl c.rsplit_once.ensures.cases in
    let cut = end_trimmed is_white white_ascii (FindsEnd (32 ∷ 9 ∷ 13 ∷ 10 ∷ [])) front core c.trim_end_matches.ensures.matches (λ m found says. says is_white white_set) in
    front_is (placed c.args.self) front core (ap (λ r. r.0.now) c.unwrap_or.ensures ∙ split.0) (cut_is_all is_white front core cut.0 cut.1)

pub returns-clause-word : goal.returns-clause-word
returns-clause-word c =
    let split = splits_word c.args.self.text.now c.rsplit_once.result _ _ refl refl c.rsplit_once.ensures.cases in
    word_is (placed c.args.self) c.unwrap_or.result.1.now (ap (λ r. r.1.now) c.unwrap_or.ensures ∙ split.1)
