use Rattle.std.proofs.Common.{IfErr, map, rules, subst}
use Rattle.std.proofs.lemmas.Result.{IfErr-weaker}
use Rattle.lrpar_grammar.specs.Spelled.{IsListing}
use Rattle.lrpar_grammar.specs.SpelledFaults.{IsSpelledFault}
use Rattle.lrpar_grammar.proofs.ListingLemmas.{fault_refutes}
use Rattle.lrpar_grammar.proofs.SpelledPartsLemmas.{joined_texts, listed_in_parts}
use Rattle.lrpar_grammar.proofs.grammar.value.YaccGrammar.prods_spelled_in_parts.Goals as goal

pub returns-in_err-spelled-clause-faulty : goal.returns-in_err-spelled-clause-faulty
returns-in_err-spelled-clause-faulty g c =
    let grm = c.args.self.now in
    let result = c.from_residual-in_err-spelled.result in
    let whole = joined_texts _ (λ x y same. same) c.args.parts.now c.in_ok-texts.texts.items c.deref.result.now c.in_ok-texts.ensures.ok c.deref.ensures.value in
    let faulty : IfErr result (IsSpelledFault grm (map (λ text. text.now) c.deref.result.now)) = search rules in
    subst (λ texts. IfErr result (IsSpelledFault grm texts)) whole faulty

pub returns-in_err-spelled-clause-unlisted : goal.returns-in_err-spelled-clause-unlisted
returns-in_err-spelled-clause-unlisted g c =
    let grm = c.args.self.now in
    let result = c.from_residual-in_err-spelled.result in
    let faulty : IfErr result (IsSpelledFault grm (map (λ text. text.now) c.deref.result.now)) = search rules in
    let whole = joined_texts _ (λ x y same. same) c.args.parts.now c.in_ok-texts.texts.items c.deref.result.now c.in_ok-texts.ensures.ok c.deref.ensures.value in
    IfErr-weaker result (IsSpelledFault grm (map (λ text. text.now) c.deref.result.now)) _
    (λ fault bad other places list. fault_refutes grm _ fault (subst (λ texts. IsSpelledFault grm texts fault) whole bad) other list.whole list.listing) faulty

pub returns-clause-listed : goal.returns-clause-listed
returns-clause-listed g c =
    let grm = c.args.self.now in
    let whole = joined_texts _ (λ x y same. same) c.args.parts.now c.in_ok-texts.texts.items c.deref.result.now c.in_ok-texts.ensures.ok c.deref.ensures.value in
    let are = rw c.in_ok-places.was at c.positions_of.ensures in
    listed_in_parts grm _ c.in_ok-places.places.items c.in_ok-spelled.spelled are
    (subst (λ texts. IsListing grm texts c.in_ok-spelled.spelled) whole c.in_ok-spelled.ensures.listed)
