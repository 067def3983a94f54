use Rattle.std.proofs.Common.{◌≡◌, ◌+◌, ◌++◌, [], ◌∷◌, ap, sym, string_bytes, map, ◌∙◌, arith}
use Rattle.std.proofs.lemmas.List.{map-append}
use Rattle.lrpar_grammar_bison_parts.specs.Midrules.{midrule_name, midrule_names}
use Rattle.lrpar_grammar_bison_parts.proofs.NameLemmas.{names_more}
use Rattle.lrpar_grammar_bison_parts.proofs.midrules.midrule_names.Goals as goal

pub loop-number-preserved : goal.loop-number-preserved
loop-number-preserved c =
    let n = c.loop-number.number in
    let next : n + 1 ≡ 1 + n = omega arith in
    ap (map string_bytes) c.in_ok-push.ensures.items ∙ map-append string_bytes c.loop-number.names.items (c.in_ok-midrule_name.field-0 ∷ [])
    ∙ ap (λ ns. ns ++ string_bytes c.in_ok-midrule_name.field-0 ∷ []) c.loop-number.invariant
    ∙ ap (λ name. midrule_names 1 n ++ name ∷ []) (c.in_ok-midrule_name.ensures ∙ ap midrule_name next)
    ∙ sym (names_more 1 n)
