use Rattle.std.proofs.Common.{◌≡◌, ◌∙◌, ◌+◌, ◌++◌, ◌∷◌, [], take, refl, ap, sym, subst}
use Rattle.std.proofs.lemmas.List.{take_more}
use Rattle.lrpar_grammar_typed.specs.Expanding.{IsGroupOf}
use Rattle.lrpar_grammar_typed.specs.Expansion.{AreAlternatives, AreParts, AreRepeated, IsAtom, IsGroup, IsItem, IsItemSymbol, IsMeant, IsSymbol, NoAlternative, NoPart}
use Rattle.lrpar_grammar_typed.specs.declared.file.Item.{out-Item}
use Rattle.lrpar_grammar_typed.specs.declared.file.Atom.TheVariants as atom
use Rattle.lrpar_grammar_typed.proofs.ExpandingLemmas.{extends_more, extends_same, if_ok, ok_then, on_ok}
use Rattle.lrpar_grammar_typed.proofs.KeptLemmas.{alternatives_extended, alternatives_more, atom_extended, parts_extended, parts_more}
use Rattle.lrpar_grammar_typed.proofs.expand.Expander.+groups.Goals as goal

pub expand_atom-returns-in-Symbol-clause-symbol : goal.expand_atom-returns-in-Symbol-clause-symbol
expand_atom-returns-in-Symbol-clause-symbol t c =
    let e = c.find_symbol.new.self in
    let mention = c.in-Symbol.mention in
    ok_then c.find_symbol.result (IsMeant e.text.now e.grammar mention) (IsAtom e.text.now e.grammar c.args.atom.now) c.find_symbol.ensures.symbol
    (λ x is. subst (λ a. IsAtom e.text.now e.grammar a x) (sym c.in-Symbol.is) (IsSymbol mention x is))

pub expand_atom-returns-in_ok-prods-in-Group-clause-extends : goal.expand_atom-returns-in_ok-prods-in-Group-clause-extends
expand_atom-returns-in_ok-prods-in-Group-clause-extends t c =
    let a = c.next_group_name.new.self in
    let b = c.expand_prods.new.self in
    let first = extends_more c.args.self.now a b c.in_ok-name-in-Group.ensures.extends c.in_ok-prods-in-Group.ensures.extends in
    on_ok c.add_group.result c.add_group.ensures.extends (λ second. extends_more c.args.self.now b c.add_group.new.self first second)

pub expand_atom-returns-in_ok-prods-in-Group-clause-symbol : goal.expand_atom-returns-in_ok-prods-in-Group-clause-symbol
expand_atom-returns-in_ok-prods-in-Group-clause-symbol t c =
    let b = c.expand_prods.new.self in
    let e = c.add_group.new.self in
    let alternatives = c.in-Group.alternatives in
    let prods = c.in_ok-prods-in-Group.prods in
    let before : AreAlternatives b.text.now b.grammar alternatives.items prods.items =
    subst (λ xs. AreAlternatives b.text.now b.grammar xs prods.items) c.deref.ensures.value c.in_ok-prods-in-Group.ensures.prods in
    if_ok c.add_group.result (IsGroupOf e.grammar prods) (IsAtom e.text.now e.grammar c.args.atom.now) c.add_group.ensures.extends c.add_group.ensures.symbol
    (λ extends x is.
    let are : AreAlternatives e.text.now e.grammar alternatives.items is.1.prods.items =
    subst (AreAlternatives e.text.now e.grammar alternatives.items) (sym is.5) (alternatives_extended b e extends alternatives.items prods.items before) in
    subst (λ a. IsAtom e.text.now e.grammar a x) (sym c.in-Group.is)
    (subst (IsAtom e.text.now e.grammar (atom.Group alternatives)) (sym is.2) (IsGroup alternatives is.0 is.1 is.3 is.4 are)))

pub expand_item-returns-clause-extends : goal.expand_item-returns-clause-extends
expand_item-returns-clause-extends t c =
    on_ok c.repeat.result c.repeat.ensures.extends
    (λ second. extends_more c.args.self.now c.expand_atom.new.self c.repeat.new.self c.in_ok-symbol.ensures.extends second)

pub expand_item-returns-clause-symbol : goal.expand_item-returns-clause-symbol
expand_item-returns-clause-symbol t c =
    let a = c.expand_atom.new.self in
    let e = c.repeat.new.self in
    let item = c.args.item.now in
    let x = c.in_ok-symbol.symbol in
    if_ok c.repeat.result (AreRepeated e.text.now e.grammar x c.deref.result.now) (IsItemSymbol e.text.now e.grammar item) c.repeat.ensures.extends c.repeat.ensures.symbol
    (λ extends y is. IsItem item x y (atom_extended a e extends (out-Item item).atom x c.in_ok-symbol.ensures.symbol)
    (subst (λ rs. AreRepeated e.text.now e.grammar x rs y) c.deref.ensures.value is))

pub expand_parts-loop-part-init : goal.expand_parts-loop-part-init
expand_parts-loop-part-init t c = record { sound = c.requires; extends = extends_same c.args.self.now; symbols = subst (AreParts c.args.self.now.text.now c.args.self.now.grammar []) (sym c.in_ok-symbols.ensures.items) NoPart }

pub expand_parts-loop-part-preserved : goal.expand_parts-loop-part-preserved
expand_parts-loop-part-preserved t c =
    let before = c.loop-part.self in
    let e = c.expand_item.new.self in
    let parts = c.args.parts.now in
    let i = c.loop-part.part-index in
    let part = c.part-item.result in
    let symbols = c.loop-part.symbols.items in
    let step = c.in_ok-expand_item.ensures in
    let more : take (i + 1) parts ≡ take i parts ++ part ∷ [] =
    take_more parts i part c.loop-part-test.true ∙ ap (λ p. take i parts ++ p ∷ []) (sym c.part-item.is) in
    record {
      sound = step.sound;
      extends = extends_more c.args.self.now before e c.loop-part.invariant.extends step.extends;
      symbols = subst (λ ps. AreParts e.text.now e.grammar ps c.push.new.self.items) (sym more)
          (subst (AreParts e.text.now e.grammar (take i parts ++ part ∷ [])) (sym c.in_ok-push.ensures.items)
          (parts_more e.text.now e.grammar (take i parts) symbols part _
          (parts_extended before e step.extends (take i parts) symbols c.loop-part.invariant.symbols) refl refl step.symbol));
    }

pub expand_prods-loop-alternative-init : goal.expand_prods-loop-alternative-init
expand_prods-loop-alternative-init t c = record { sound = c.requires; extends = extends_same c.args.self.now; prods = subst (AreAlternatives c.args.self.now.text.now c.args.self.now.grammar []) (sym c.in_ok-prods.ensures.items) NoAlternative }

pub expand_prods-loop-alternative-preserved : goal.expand_prods-loop-alternative-preserved
expand_prods-loop-alternative-preserved t c =
    let before = c.loop-alternative.self in
    let e = c.expand_parts.new.self in
    let alternatives = c.args.alternatives.now in
    let i = c.loop-alternative.alternative-index in
    let alternative = c.alternative-item.result in
    let prods = c.loop-alternative.prods.items in
    let step = c.in_ok-expand_parts.ensures in
    let symbols = c.in_ok-expand_parts.field-0.items in
    let more : take (i + 1) alternatives ≡ take i alternatives ++ alternative ∷ [] =
    take_more alternatives i alternative c.loop-alternative-test.true ∙ ap (λ a. take i alternatives ++ a ∷ []) (sym c.alternative-item.is) in
    record {
      sound = step.sound;
      extends = extends_more c.args.self.now before e c.loop-alternative.invariant.extends step.extends;
      prods = subst (λ xs. AreAlternatives e.text.now e.grammar xs c.push.new.self.items) (sym more)
          (subst (AreAlternatives e.text.now e.grammar (take i alternatives ++ alternative ∷ [])) (sym c.in_ok-push.ensures.items)
          (alternatives_more e.text.now e.grammar (take i alternatives) prods alternative _
          (alternatives_extended before e step.extends (take i alternatives) prods c.loop-alternative.invariant.prods) refl refl
          (subst (λ ps. AreParts e.text.now e.grammar ps symbols) c.deref.ensures.value step.symbols)));
    }
