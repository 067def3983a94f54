use Rattle.std.proofs.Common.{◌≡◌, true, false, [], ◌∷◌, ◌++◌, sym, ◌∙◌, ap, ap₂}
use Rattle.std.specs.List.{filter, range_with_len}
use Rattle.std.proofs.lemmas.Bool.{cond-false, cond-true}
use Rattle.std.proofs.lemmas.List.{append-nil, map-append}
use Rattle.lrpar_grammar.specs.Tokens.{has}
use Rattle.lrpar_names.specs.Choosing.{rule_numbers}
use Rattle.lrpar_names.proofs.CandidateLemmas.{kept_more}
use Rattle.lrpar_names.proofs.candidates.marked_rules.Goals as goal
use Rattle.lrpar_names.proofs.candidates.marked_rules.Goals.{then-is_marked+in_ok-push, else-is_marked}

pub marks-preserved : goal.marks-preserved
marks-preserved g c =
    let index = g.StorageT.StorageIndex.index in
    let test = has c.args.marks.now in
    let n = c.marks.number in
    let kept = filter test (range_with_len 0 n) in
    elim c.if-is_marked.branch [
      | then-is_marked+in_ok-push w ↦
          let number : index w.unwrap.result ≡ n = rw w.unwrap.ensures at w.from_index.ensures.back in
          let passes : test n ≡ true = w.if-is_marked.true in
          ap (λ v. rule_numbers index v.items) w.rules-is ∙ ap (rule_numbers index) w.in_ok-push.ensures.items
          ∙ map-append (λ r. index r.0) c.marks.rules.items (record { 0 = w.unwrap.result } ∷ [])
          ∙ ap₂ (λ xs m. xs ++ m ∷ []) c.marks.invariant number
          ∙ ap (λ ys. kept ++ ys) (sym (cond-true (test n) (n ∷ []) [] passes)) ∙ sym (kept_more test n)
      | else-is_marked w ↦
          let fails : test n ≡ false = w.if-is_marked.false in
          ap (λ v. rule_numbers index v.items) w.rules-is ∙ c.marks.invariant ∙ sym (append-nil kept)
          ∙ ap (λ ys. kept ++ ys) (sym (cond-false (test n) (n ∷ []) [] fails)) ∙ sym (kept_more test n)
    ]
