use Rattle.std.proofs.Common.{sym, subst}
use Rattle.lrpar_grammar_typed.specs.Expansion.{IsOfForm, IsRepeated}
use Rattle.lrpar_grammar_typed.specs.declared.typed.Form.TheVariants.{Separated, Terminated}
use Rattle.lrpar_grammar_typed.proofs.ExpandingLemmas.{extends_more, if_ok, on_ok}
use Rattle.lrpar_grammar_typed.proofs.KeptLemmas.{meant_extended, of_form_extended}
use Rattle.lrpar_grammar_typed.proofs.expand.Expander.repeat_once.Goals as goal

pub returns-in_ok-separator-in-Separated-clause-extends : goal.returns-in_ok-separator-in-Separated-clause-extends
returns-in_ok-separator-in-Separated-clause-extends c =
    let last = c.add_form-in-Separated in
    on_ok last.result last.ensures.extends
    (λ second. extends_more c.args.self.now c.find_symbol.new.self last.new.self c.in_ok-separator-in-Separated.ensures.extends second)

pub returns-in_ok-separator-in-Separated-clause-symbol : goal.returns-in_ok-separator-in-Separated-clause-symbol
returns-in_ok-separator-in-Separated-clause-symbol c =
    let last = c.add_form-in-Separated in
    let separator = c.in_ok-separator-in-Separated in
    let x = c.args.symbol in
    let e = last.new.self in
    if_ok last.result (IsOfForm e.grammar (Separated x separator.separator)) (IsRepeated e.text.now e.grammar x c.args.repeat) last.ensures.extends last.ensures.symbol
    (λ extends y is.
    subst (λ r. IsRepeated e.text.now e.grammar x r y) (sym c.in-Separated.is) (
      separator.separator,
      meant_extended c.find_symbol.new.self e extends c.in-Separated.mention separator.separator separator.ensures.symbol,
      is,
    ))

pub returns-in_ok-list-in-Terminated-clause-extends : goal.returns-in_ok-list-in-Terminated-clause-extends
returns-in_ok-list-in-Terminated-clause-extends c =
    let last = c.add_form-in-Terminated-2 in
    let first = extends_more c.args.self.now c.find_symbol-in-Terminated.new.self c.add_form-in-Terminated.new.self
    c.in_ok-separator-in-Terminated.ensures.extends c.in_ok-list-in-Terminated.ensures.extends in
    on_ok last.result last.ensures.extends (λ second. extends_more c.args.self.now c.add_form-in-Terminated.new.self last.new.self first second)

pub returns-in_ok-list-in-Terminated-clause-symbol : goal.returns-in_ok-list-in-Terminated-clause-symbol
returns-in_ok-list-in-Terminated-clause-symbol c =
    let last = c.add_form-in-Terminated-2 in
    let separator = c.in_ok-separator-in-Terminated in
    let list = c.in_ok-list-in-Terminated in
    let x = c.args.symbol in
    let a = c.find_symbol-in-Terminated.new.self in
    let b = c.add_form-in-Terminated.new.self in
    let e = last.new.self in
    if_ok last.result (IsOfForm e.grammar (Terminated list.list separator.separator)) (IsRepeated e.text.now e.grammar x c.args.repeat) last.ensures.extends
    last.ensures.symbol
    (λ extends y is.
    subst (λ r. IsRepeated e.text.now e.grammar x r y) (sym c.in-Terminated.is) (
      separator.separator,
      list.list,
      meant_extended a e (extends_more a b e list.ensures.extends extends) c.in-Terminated.mention separator.separator separator.ensures.symbol,
      of_form_extended b e extends (Separated x separator.separator) list.list (λ written. cc) list.ensures.symbol,
      is,
    ))
