use Rattle.std.proofs.Common.{◌≡◌, ◌≢◌, vec_len, option_map, string_bytes, rules, arith, refl, lit≤}
use Rattle.std.proofs.lemmas.List.{length-map}
use Rattle.std.proofs.lemmas.Result.{err_from_is_err_and}
use Rattle.regex.proofs.CompilableLemmas.{compilable, groups_named}
use Rattle.regex.specs.Failures.{of_compiler}
use Rattle.regex.specs.declared.error.Error.TheVariants.{Internal}
use Rattle.regex_hir.specs.Meaning.{meaning}
use Rattle.regex_compile.specs.Compilable.{IsCompilable}
use Rattle.regex_compile.specs.declared.error.Error.{Error}
use Rattle.regex_compile.specs.declared.error.Error.TheVariants.{TooBig, Malformed, OutOfMemory}
use Rattle.lrpar_grammar_places.proofs.FaultLemmas.{no_value}
use Rattle.lrpar_lexer.proofs.rule.anchored.Goals as goal

not_internal : (e : Error) → e ≢ Malformed → of_compiler e ≢ Internal
not_internal TooBig _ is = cc
not_internal Malformed other _ = other refl
not_internal OutOfMemory _ is = cc

pub returns-in_err-new-clause-no_internal : goal.returns-in_err-new-clause-no_internal
returns-in_err-new-clause-no_internal c =
    let parsed = c.in_ok-hir.field-0 in
    let groups = c.in-Ok.groups in
    let counted : groups ≡ vec_len parsed.names = search rules in
    let named = groups_named _ _ _ _ c.in_ok-hir.ensures.ok in
    let inner = compilable _ groups parsed.hir c.in_ok-hir.ensures.formed (omega (arith, parsed.names.ok.0, length-map parsed.names.items (option_map string_bytes))) in
    let whole : IsCompilable groups (meaning c.in_ok-tree.tree) = rw c.in_ok-tree.ensures (tt, (inner, tt)) in
    let p = err_from_is_err_and c.from_residual-in_err-new.result c.from_residual-in_err-new.ensures.1 in
    rw (p.1, p.2) (not_internal _ (c.in_err-new.ensures.whole whole (omega (arith, c.in_ok-hir.ensures.group_zero.0)) (lit≤ tt)))

pub returns-in_err-hir-clause-read : goal.returns-in_err-hir-clause-read
returns-in_err-hir-clause-read c = no_value c.from_residual.result _ _ c.from_residual.ensures.1

pub returns-in_err-tree-clause-read : goal.returns-in_err-tree-clause-read
returns-in_err-tree-clause-read c = no_value c.from_residual-in_err-tree.result _ _ c.from_residual-in_err-tree.ensures.1

pub returns-in_err-new-clause-read : goal.returns-in_err-new-clause-read
returns-in_err-new-clause-read c = no_value c.from_residual-in_err-new.result _ _ c.from_residual-in_err-new.ensures.1
