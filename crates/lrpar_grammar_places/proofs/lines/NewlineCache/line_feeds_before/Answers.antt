use Rattle.std.proofs.Common.{◌≡◌, ◌≤◌, leb, true, false, length, ap, ◌∙◌, subst, rules, arith}
use Rattle.std.specs.List.Sorted.{IsPartitionPoint}
use Rattle.std.proofs.lemmas.List.Sorted.{IsPartitionPoint-from_clause}
use Rattle.lrpar_grammar_places.proofs.LineLemmas.{all_starts, starts_parted, part_is_count}
use Rattle.lrpar_grammar_places.proofs.lines.NewlineCache.line_feeds_before.Goals as goal

pub returns-clause-count : goal.returns-clause-count
returns-clause-count c = λ text is.
    let byte = c.args.byte in
    let starts : c.deref.result.now ≡ all_starts text = c.deref.ensures.value ∙ ap (λ v. v.starts) (c.self.view_is ∙ is) in
    let within : byte ≤ length text = subst (λ v. byte ≤ v.len) is c.requires in
    let parts : IsPartitionPoint (λ s. leb s byte ≡ true) (λ s. leb s byte ≡ false) c.deref.result.now c.partition_point.result =
    IsPartitionPoint-from_clause (λ s. leb s byte) c.deref.result.now c.partition_point.result c.partition_point.ensures.partitioned
    (rw starts (starts_parted text byte within)) (λ a r f called. search rules) in
    part_is_count text byte c.partition_point.result within (omega (arith, ap length starts, c.partition_point.ensures.bound)) (rw starts at parts)
