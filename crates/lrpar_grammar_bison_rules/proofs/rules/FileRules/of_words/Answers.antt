use Rattle.std.proofs.Common.{◌∙◌, [], ap, sym, cond, Some, option_map, rules}
use Rattle.lrpar_grammar_bison.specs.declared.words.Word.{Word}
use Rattle.lrpar_grammar_bison.specs.declared.words.WordKind.TheVariants.{Name}
use Rattle.lrpar_grammar_bison.specs.Words.{PlacedWord}
use Rattle.lrpar_grammar_bison_rules.specs.Rules.{RulesRead, end_word, finished, rules_in, with_closed}
use Rattle.lrpar_grammar_bison_rules.specs.WordOrder.{after, may_end}
use Rattle.lrpar_grammar_bison_rules.proofs.RulesLemmas.{reads_no_more, reads_no_word, reads_word}
use Rattle.lrpar_grammar_bison_rules.proofs.rules.FileRules.of_words.Goals as goal
use Rattle.lrpar_grammar_bison_rules.proofs.rules.FileRules.of_words.Goals.{then-is_in_alternative+in_ok-end_alternative, else-is_in_alternative}

-- any word
abbrev no_word : Word
no_word = record { kind = Name; name = record { ref_ptr = (0, 0); now = [] }; len = 0; end = 0 }

pub returns-in_default-clause-fault : goal.returns-in_default-clause-fault
returns-in_default-clause-fault c =
    let read = c.loop-i.invariant ∙ reads_no_word c.args.words.now c.loop-i.i no_word c.loop-i-test.true c.loop-i.expected (rules_in c.loop-i.rules)
    (ap (after c.loop-i.expected) (sym c.sign_of.ensures) ∙ sym c.after.ensures ∙ c.in_default.is) in (
      ap (λ (x : RulesRead). option_map (λ (w : PlacedWord). w.span) x.refused) read ∙ ap Some (sym c.span.ensures),
      sym (ap (λ (x : RulesRead). x.next) read),
    )

pub loop-i-preserved : goal.loop-i-preserved
loop-i-preserved c =
    c.loop-i.invariant
    ∙ reads_word c.args.words.now c.loop-i.i no_word c.loop-i-test.true c.loop-i.expected (rules_in c.loop-i.rules) c.in-Some.step
    (ap (after c.loop-i.expected) (sym c.sign_of.ensures) ∙ sym c.after.ensures ∙ c.in-Some.is)
    ∙ search rules

pub returns-clause-rules : goal.returns-clause-rules
returns-clause-rules c =
    let read = c.loop-i.invariant ∙ reads_no_more c.args.words.now c.loop-i.i c.loop-i.expected (rules_in c.loop-i.rules) c.loop-i-test.false in
    record {
      allowed = ap (λ (x : RulesRead). x.refused) read;
      ends = ap (λ (x : RulesRead). may_end x.next) read ∙ sym c.may_end.ensures ∙ c.if-not-may_end.false;
      is = elim c.if-is_in_alternative.branch [
        | then-is_in_alternative+in_ok-end_alternative w ↦
            let closed = ap (λ b. cond b (with_closed (rules_in c.loop-i.rules) (end_word c.args.len)) (rules_in c.loop-i.rules))
            (sym c.is_in_alternative.ensures ∙ w.if-is_in_alternative.true) in
            ap rules_in w.rules-is ∙ w.in_ok-end_alternative.ensures ∙ ap (with_closed (rules_in c.loop-i.rules)) w.end_word.ensures ∙ sym (ap (finished c.args.len) read ∙ closed)
        | else-is_in_alternative w ↦
            let kept = ap (λ b. cond b (with_closed (rules_in c.loop-i.rules) (end_word c.args.len)) (rules_in c.loop-i.rules))
            (sym c.is_in_alternative.ensures ∙ w.if-is_in_alternative.false) in
            ap rules_in w.rules-is ∙ sym (ap (finished c.args.len) read ∙ kept)
      ];
    }
