use Rattle.std.proofs.Common.{◌≡◌, ◌∙◌, ap, refl, subst, Option}
use Rattle.std.specs.Prelude.{IfSome}
use Rattle.lrpar_grammar.specs.Grammar.{Grammar}
use Rattle.lrpar_table_rows.specs.Table.{Table}
use Rattle.lrpar_table_pops.specs.Parts.{IsPartOf, Parts}
use Rattle.lrpar_table_pops.specs.StoredPops.{ArePopsOf}
use Rattle.lrpar_table_pops.proofs.PartLemmas.{pops_kept, sound_kept, sound_same}
use Rattle.lrpar_table_pops.proofs.check_completable.are_completable_by.Goals as goal

pub new-part-requires : goal.new-part-requires
new-part-requires g c =
    let w = c.args.whole.now in
    let part = c.in-Some.stable in
    let made : IsPartOf c.stable.result.now part = subst (λ (o : Option Table). IfSome o (IsPartOf c.stable.result.now)) c.in-Some.is c.in_ok-stable.ensures in
    let is : IsPartOf w.table part = subst (λ (t : Table). IsPartOf t part) c.stable.ensures.table made in
    sound_same w.grammar c.grm.result.now w.graph c.sgraph.result.now part part c.grm.ensures c.sgraph.ensures refl
    (sound_kept w.table part is w.grammar w.graph c.stable.ensures.sound)

pub search_all-requires : goal.search_all-requires
search_all-requires g c =
    let w = c.args.whole.now in
    let part = c.in-Some.stable in
    let made : IsPartOf c.stable.result.now part = subst (λ (o : Option Table). IfSome o (IsPartOf c.stable.result.now)) c.in-Some.is c.in_ok-stable.ensures in
    let is : IsPartOf w.table part = subst (λ (t : Table). IsPartOf t part) c.stable.ensures.table made in
    let pops = c.in_ok-pops.pops in
    let grammar : c.new-part.result.grammar ≡ w.grammar = ap (λ (p : Parts). p.grammar) c.new-part.ensures ∙ c.grm.ensures in
    let table : c.new-part.result.table ≡ part = ap (λ (p : Parts). p.table) c.new-part.ensures in
    let of_part : ArePopsOf w.grammar part pops = subst (λ (x : Grammar). ArePopsOf x part pops) grammar
    (subst (λ (t : Table). ArePopsOf c.new-part.result.grammar t pops) table c.in_ok-pops.ensures.pops) in
    record { part = record { part = is; pops = pops_kept w.table part is w.grammar pops of_part } }
