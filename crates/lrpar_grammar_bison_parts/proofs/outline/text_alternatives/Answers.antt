use Rattle.std.proofs.Common.{◌≡◌, ◌++◌, ◌+◌, ◌∷◌, drop, length, length-append, map, ap, sym, ◌∙◌, arith}
use Rattle.lrpar_grammar_words.specs.Outline.{alternative_of as text_alternative_of}
use Rattle.lrpar_grammar_words.specs.Words.{placed as text_placed}
use Rattle.lrpar_grammar_bison_rules.specs.Rules.{alternative_of, item_of}
use Rattle.lrpar_grammar_bison_parts.specs.Midrules.{actions_in, actions_of}
use Rattle.lrpar_grammar_bison_parts.specs.Outline.{text_alternatives}
use Rattle.lrpar_grammar_bison_parts.proofs.OutlineLemmas.{alternative_more, next_alternative}
use Rattle.lrpar_grammar_bison_parts.proofs.outline.text_alternatives.Goals as goal

pub loop-alternative-preserved : goal.loop-alternative-preserved
loop-alternative-preserved c =
    let xs = c.args.alternatives.now in
    let i = c.loop-alternative.alternative-index in
    let x = c.alternative-item.result in
    let done = c.loop-alternative.done in
    let midrules = c.args.midrules.now in
    let old = c.loop-alternative.texts.items in
    let rest = map alternative_of (drop (i + 1) xs) in
    let next : map alternative_of (drop i xs) ≡ alternative_of x ∷ rest = next_alternative xs i x c.loop-alternative-test.true c.alternative-item.is in
    let counted : c.action_count.result ≡ length (actions_in (alternative_of x).items) =
    c.action_count.ensures ∙ ap (λ items. length (actions_in (map item_of items))) c.deref.ensures.value in
    let left : length (actions_of (map alternative_of (drop i xs))) ≡ length (actions_in (alternative_of x).items) + length (actions_of rest) =
    ap (λ ys. length (actions_of ys)) next ∙ length-append (actions_in (alternative_of x).items) (actions_of rest) in
    record {
      made = λ aliases maps.
          alternative_more aliases midrules old c.push_midrules.new.texts.items c.push.new.self.items (alternative_of x) c.in_ok-text_alternative.field-0 done c.action_count.result rest
          (text_alternatives aliases (map text_placed midrules) (map alternative_of xs)) counted c.in_ok-push_midrules.ensures c.in_ok-push.ensures.items
          (c.in_ok-text_alternative.ensures aliases maps)
          (ap (λ ys. map text_alternative_of old ++ text_alternatives aliases (map text_placed (drop done midrules)) ys) (sym next) ∙ c.loop-alternative.invariant.made aliases maps);
      enough = omega (arith, c.loop-alternative.invariant.enough);
    }
