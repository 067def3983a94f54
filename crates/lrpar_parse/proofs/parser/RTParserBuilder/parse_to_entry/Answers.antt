use Rattle.std.proofs.Common.{◌≡◌, ap, inr, refl}
use Rattle.lrpar_parse.proofs.ParseLemmas.{error_is_parse, fault_is_parse, run_is_parse}
use Rattle.lrpar_parse.proofs.parser.RTParserBuilder.parse_to_entry.Goals as goal

pub returns-in-Err : goal.returns-in-Err
returns-in-Err g c =
    let lexed = rw c.in-Err.is at c.in_ok-error.ensures in
    record {
      parse = inr (
        c.in_ok-answers.answers.items,
        c.in_ok-answers.ensures.allowed,
        error_is_parse _ _ _ c.in_ok-answers.answers.items c.in-Err.error _ lexed c.in_ok-one_error-in-Err.ensures refl,
      );
    }

pub returns-in-Some : goal.returns-in-Some
returns-in-Some g c =
    let lexed = rw c.in-Ok.is at c.in_ok-error.ensures in
    let grammar : c.self.inside.checked.now.grammar ≡ c.args.self.now.checked.grammar = ap (λ v. v.checked.grammar) c.self.view_is in
    record {
      parse = inr (
        c.in_ok-answers.answers.items,
        c.in_ok-answers.ensures.allowed,
        fault_is_parse _ _ _ c.in_ok-answers.answers.items c.in-Ok.lexemes.items c.in-Some.fault lexed.0 lexed.1
            (rw (c.deref.ensures.value, c.grm.ensures, grammar) at c.in-Some.ensures),
      );
    }

pub returns : goal.returns
returns g c =
    let lexed = rw c.in-Ok.is at c.in_ok-error.ensures in
    let grammar : c.self.inside.checked.now.grammar ≡ c.args.self.now.checked.grammar = ap (λ v. v.checked.grammar) c.self.view_is in
    record {
      parse = inr (
        c.in_ok-answers.answers.items,
        c.in_ok-answers.ensures.allowed,
        run_is_parse _ _ _ c.in_ok-answers.answers.items c.in-Ok.lexemes.items c.in_ok-run-in-None.field-0 lexed.0 lexed.1
            (rw (c.deref.ensures.value, c.grm.ensures, grammar) at c.in-None.ensures)
            (rw (c.deref-in-None.ensures.value) at c.in_ok-run-in-None.ensures.ran),
      );
    }
