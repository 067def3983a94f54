use Rattle.std.proofs.Common.{Result, Ok, Err, IfErr, map, rules}
use Rattle.lrpar_grammar.specs.SpelledFaults.{IsSpelledFault}
use Rattle.lrpar_grammar.proofs.ListingLemmas.{fault_refutes}
use Rattle.lrpar_grammar.proofs.grammar.value.YaccGrammar.prods_spelled.Goals as goal

-- what holds of an error implies what holds of it
err_then : {T E : Type 0} (r : Result T E) (P Q : E → Type 0) → ((e : E) → P e → Q e) → IfErr r P → IfErr r Q
err_then (Ok x) P Q f has = tt
err_then (Err e) P Q f has = f e has

pub returns-in_err-places-clause-unlisted : goal.returns-in_err-places-clause-unlisted
returns-in_err-places-clause-unlisted g c =
    let grm = c.args.self.now in
    let texts = map (λ text. text.now) c.args.texts.now in
    let faulty : IfErr c.from_residual-in_err-places.result (IsSpelledFault grm texts) = search rules in
    err_then c.from_residual-in_err-places.result (IsSpelledFault grm texts) _ (fault_refutes grm texts) faulty
