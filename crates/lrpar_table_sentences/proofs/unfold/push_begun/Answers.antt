use Rattle.std.proofs.Common.{◌≡◌, ◌∙◌, sym, ap, subst, Some, None, true, false}
use Rattle.std.specs.List.{All}
use Rattle.std.specs.Option.{option_map}
use Rattle.lrpar_grammar.specs.Grammar.{Nonterminal, Terminal}
use Rattle.lrpar_grammar.specs.Symbols.{symbol_of}
use Rattle.lrpar_table_sentences.specs.Choices.{ChoiceOf, choices_of}
use Rattle.lrpar_table_sentences.specs.Frames.{Begins, IsFrameOf, frames_of}
use Rattle.lrpar_table_sentences.specs.Moves.{moves_in}
use Rattle.lrpar_table_sentences.specs.Choices.{choice_at, choice_of, prod_at}
use Rattle.lrpar_table_sentences.proofs.FrameLemmas.{begins_none, begins_rule, begins_token, frames_known, frames_pushed, moves_pushed}
use Rattle.lrpar_table_sentences.proofs.unfold.push_begun.Goals as goal

pub returns-in_ok-push-in-Token-clause-unfolds : goal.returns-in_ok-push-in-Token-clause-unfolds
returns-in_ok-push-in-Token-clause-unfolds g c = λ grm.
    let index = g.StorageT.StorageIndex.index in
    let choices = choices_of index c.args.choices.now in
    let frames = frames_of index c.args.frames.now.items in
    let before = moves_in index c.args.out.now.items in
    let t = index c.in-Token.token.0 in
    let is : symbol_of index c.args.symbol ≡ Terminal t = ap (symbol_of index) c.in-Token.is in
    let moved = ap (moves_in index) c.in_ok-push-in-Token.ensures.items ∙ moves_pushed index c.args.out.now.items _ in
    subst (λ s. Begins grm choices s frames frames before (moves_in index c.push.new.self.items) true) (sym is)
    (subst (λ ms. Begins grm choices (Terminal t) frames frames before ms true) (sym moved) (begins_token grm choices frames before t))

pub returns-in_ok-push-in-Some-clause-known : goal.returns-in_ok-push-in-Some-clause-known
returns-in_ok-push-in-Some-clause-known g c = λ grm right known.
    let index = g.StorageT.StorageIndex.index in
    let kept : choice_at (choices_of index c.args.choices.now) (index c.in-Rule.rule.0) ≡ Some (choice_of index c.in-Some.choice) =
    sym c.choice_of.ensures ∙ ap (option_map (choice_of index)) c.in-Some.is in
    subst (All (IsFrameOf index grm)) (sym c.in_ok-push-in-Some.ensures.items)
    (frames_known index grm c.args.frames.now.items _ known (right.own _ _ kept).0)

pub returns-in_ok-push-in-Some-clause-unfolds : goal.returns-in_ok-push-in-Some-clause-unfolds
returns-in_ok-push-in-Some-clause-unfolds g c = λ grm.
    let index = g.StorageT.StorageIndex.index in
    let choices = choices_of index c.args.choices.now in
    let frames = frames_of index c.args.frames.now.items in
    let before = moves_in index c.args.out.now.items in
    let r = index c.in-Rule.rule.0 in
    let p = index c.in-Some.choice.prod.0 in
    let is : symbol_of index c.args.symbol ≡ Nonterminal r = ap (symbol_of index) c.in-Rule.is in
    let kept : prod_at choices r ≡ Some p =
    ap (option_map (λ (x : ChoiceOf). x.prod)) (sym c.choice_of.ensures ∙ ap (option_map (choice_of index)) c.in-Some.is) in
    let pushed = ap (frames_of index) c.in_ok-push-in-Some.ensures.items ∙ frames_pushed index c.args.frames.now.items _ in
    subst (λ s. Begins grm choices s frames (frames_of index c.push-in-Some.new.self.items) before before true) (sym is)
    (subst (λ fs. Begins grm choices (Nonterminal r) frames fs before before true) (sym pushed) (begins_rule grm choices frames before r p kept))

pub returns-in-None-clause-unfolds : goal.returns-in-None-clause-unfolds
returns-in-None-clause-unfolds g c = λ grm.
    let index = g.StorageT.StorageIndex.index in
    let choices = choices_of index c.args.choices.now in
    let frames = frames_of index c.args.frames.now.items in
    let before = moves_in index c.args.out.now.items in
    let r = index c.in-Rule.rule.0 in
    let is : symbol_of index c.args.symbol ≡ Nonterminal r = ap (symbol_of index) c.in-Rule.is in
    let none : choice_at choices r ≡ None = sym c.choice_of.ensures ∙ ap (option_map (choice_of index)) c.in-None.is in
    subst (λ s. Begins grm choices s frames frames before before false) (sym is) (begins_none grm choices frames before r none)
