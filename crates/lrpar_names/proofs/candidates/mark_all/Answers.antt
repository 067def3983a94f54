use Rattle.std.proofs.Common.{◌≡◌, ◌+◌, None, Some, [], ◌∷◌, ◌++◌, length, map, take, option_map, sym, subst, ◌∙◌, ap}
use Rattle.std.proofs.lemmas.List.{map_more, take_all}
use Rattle.lrpar_table_rows.specs.PlainItems.{core_of}
use Rattle.lrpar_names.specs.Candidates.{AreMarksOf, Marks, next_rule}
use Rattle.lrpar_names.proofs.CandidateLemmas.{marks_more, marks_stay}
use Rattle.lrpar_names.proofs.candidates.mark_all.Goals as goal
use Rattle.lrpar_names.proofs.candidates.mark_all.Goals.{in-Some, in_default}

pub cores-preserved : goal.cores-preserved
cores-preserved g c =
    let index = g.StorageT.StorageIndex.index in
    let cores = c.args.cores.now in
    let i = c.cores.prod-index in
    let core = c.cores-item.result in
    let so_far = map (core_of index) (take i cores) in
    let step : map (core_of index) (take (i + 1) cores) ≡ so_far ++ core_of index core ∷ [] =
    map_more (core_of index) cores i core c.cores-test.true ∙ ap (λ x. so_far ++ core_of index x ∷ []) (sym c.cores-item.is) in
    elim c.match-next_rule.branch [
      | in-Some w ↦
          let next : next_rule c.args.grm.now (index core.0.0) core.1 ≡ Some (index w.in-Some.rule.0) =
          sym c.next_rule.ensures.next ∙ ap (option_map (λ rule. index rule.0)) w.in-Some.is in
          record {
            room = ap length w.marks-is ∙ w.mark.ensures.room ∙ c.cores.invariant.room;
            marks = subst (λ done. AreMarksOf c.args.grm.now done c.match-next_rule.marks) (sym step)
                (subst (AreMarksOf c.args.grm.now (so_far ++ core_of index core ∷ [])) (sym w.marks-is)
                (marks_more c.args.grm.now so_far c.cores.marks w.mark.new.marks (index core.0.0) core.1 (index w.in-Some.rule.0) next
                (subst (Marks c.cores.marks w.mark.new.marks) w.from.ensures w.mark.ensures.marks) c.cores.invariant.marks));
          }
      | in_default w ↦
          let next : next_rule c.args.grm.now (index core.0.0) core.1 ≡ None =
          sym c.next_rule.ensures.next ∙ ap (option_map (λ rule. index rule.0)) w.in_default.is in
          record {
            room = ap length w.marks-is ∙ c.cores.invariant.room;
            marks = subst (λ done. AreMarksOf c.args.grm.now done c.match-next_rule.marks) (sym step)
                (subst (AreMarksOf c.args.grm.now (so_far ++ core_of index core ∷ [])) (sym w.marks-is)
                (marks_stay c.args.grm.now so_far c.cores.marks (index core.0.0) core.1 next c.cores.invariant.marks));
          }
    ]

pub returns-clause-marks : goal.returns-clause-marks
returns-clause-marks g c =
    let index = g.StorageT.StorageIndex.index in
    let all : take c.cores.prod-index c.args.cores.now ≡ c.args.cores.now = take_all c.cores.prod-index c.args.cores.now c.cores-test.false in
    subst (λ cores. AreMarksOf c.args.grm.now (map (core_of index) cores) c.cores.marks) all c.cores.invariant.marks
