use Rattle.std.proofs.Common.{◌++◌, ◌∙◌, refl, sym, ap, subst}
use Rattle.std.specs.String.{string_bytes}
use Rattle.std.proofs.lemmas.Result.{on_ok_weaker}
use Rattle.lrpar_grammar.specs.Tree.{leaves}
use Rattle.lrpar_conflict_derivations.specs.Example.{ExampleOf}
use Rattle.lrpar_conflict_examples.specs.Fits.{AreMovesOf}
use Rattle.lrpar_conflict_examples.specs.Texts.{example_text, other_line, title_text}
use Rattle.lrpar_conflict_examples.specs.Words.{derivation_text, text_line}
use Rattle.lrpar_conflict_examples.proofs.TextLemmas.{five_pieces}
use Rattle.lrpar_conflict_examples.proofs.text.push_example.Goals as goal

pub push_derivation-requires-2-clause-tree : goal.push_derivation-requires-2-clause-tree
push_derivation-requires-2-clause-tree g c =
    let other = c.requires.second in
    let second = c.second-2.ensures ∙ ap (λ (e : ExampleOf). e.second) c.example-example.ensures in
    (other.tree, subst (λ ms. AreMovesOf c.args.grm.now ms other.tree) (sym second) other.of_tree)

pub returns : goal.returns
returns g c =
    let index = g.StorageT.StorageIndex.index in
    let grm = c.args.grm.now in
    let x = c.args.shown.now in
    let one = c.requires.first in
    let other = c.requires.second in
    let same = c.example-example.ensures in
    let before = c.before-2.ensures ∙ ap (λ (e : ExampleOf). e.before) same in
    let first = c.first.ensures ∙ ap (λ (e : ExampleOf). e.first) same in
    let again = c.first-3.ensures ∙ ap (λ (e : ExampleOf). e.first) same in
    let second = c.second-2.ensures ∙ ap (λ (e : ExampleOf). e.second) same in
    let o₁ = string_bytes c.push_title.new.out in
    let o₂ = string_bytes c.push_text.new.out in
    let o₃ = string_bytes c.push_derivation.new.out in
    let o₄ = string_bytes c.push_other_text.new.out in
    let text =
    c.in_ok-push_text.ensures one.tree (subst (λ ms. AreMovesOf grm ms one.tree) (sym first) one.of_tree)
    ∙ ap (λ b. o₁ ++ text_line grm b (leaves one.tree)) before in
    let derivation =
    c.in_ok-push_derivation.ensures one.tree (subst (λ ms. AreMovesOf grm ms one.tree) (sym again) one.of_tree)
    ∙ ap (λ m. o₂ ++ derivation_text grm m one.tree) c.first-2.ensures in
    let line =
    c.in_ok-push_other_text.ensures other.tree (subst (λ (e : ExampleOf). AreMovesOf grm e.second other.tree) (sym same) other.of_tree)
    ∙ ap (λ e. o₃ ++ other_line grm e (leaves other.tree)) same in
    let last =
    c.in_ok-push_derivation-2.ensures other.tree (subst (λ ms. AreMovesOf grm ms other.tree) (sym second) other.of_tree)
    ∙ ap (λ m. o₄ ++ derivation_text grm m other.tree) c.second.ensures in
    on_ok_weaker c.push.result
    (λ e. (
      example_text grm x one.tree other.tree,
      record { first = one.tree; of_first = one.of_tree; second = other.tree; of_second = other.of_tree; is = refl },
      e,
    ))
    (five_pieces c.push.result (string_bytes c.args.out.now) o₁ o₂ o₃ o₄ (string_bytes c.push_derivation-2.new.out) (string_bytes c.push.new.self) (title_text grm x)
    (text_line grm x.example.before (leaves one.tree)) (derivation_text grm x.conflict.first one.tree) (other_line grm x.example (leaves other.tree))
    (derivation_text grm x.conflict.second other.tree) c.in_ok-push_title.ensures text derivation line last c.push.ensures.bytes)
