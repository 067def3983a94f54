use Rattle.std.proofs.Common.{refl}
use Rattle.lrpar_grammar_reader.specs.Parts.{parts_of}
use Rattle.lrpar_grammar.proofs.PartsLemmas.{answers_first, answers_grammar, answers_memory, first_refuses, memory_refuses}
use Rattle.lrpar_grammar_reader.specs.declared.parts.GrammarFault.TheVariants.{NoRules, StorageTooSmall, BadStart, BadSymbol}
use Rattle.lrpar_grammar.proofs.grammar.value.YaccGrammar.from_parts.Goals as goal

pub returns-in-Some-clause-refused : goal.returns-in-Some-clause-refused
returns-in-Some-clause-refused g c =
    first_refuses g.StorageT.StorageIndex.limit (parts_of g.StorageT.StorageIndex.index c.args.parts) c.in-Some.fault c.in-Some.ensures.found

pub returns-in_err-made-in-None-clause-refused : goal.returns-in_err-made-in-None-clause-refused
returns-in_err-made-in-None-clause-refused g c =
    memory_refuses g.StorageT.StorageIndex.limit (parts_of g.StorageT.StorageIndex.index c.args.parts) c.from_residual.result c.in-None.ensures.sound c.from_residual.ensures.1

pub returns-in-Some-clause-no_rules : goal.returns-in-Some-clause-no_rules
returns-in-Some-clause-no_rules g c =
    answers_first g.StorageT.StorageIndex.limit (parts_of g.StorageT.StorageIndex.index c.args.parts) c.in-Some.fault NoRules c.in-Some.ensures.found

pub returns-in_ok-made-in-None-clause-no_rules : goal.returns-in_ok-made-in-None-clause-no_rules
returns-in_ok-made-in-None-clause-no_rules g c =
    answers_grammar g.StorageT.StorageIndex.limit (parts_of g.StorageT.StorageIndex.index c.args.parts) c.in_ok-made-in-None.field-0 NoRules c.in-None.ensures.sound

pub returns-in_err-made-in-None-clause-no_rules : goal.returns-in_err-made-in-None-clause-no_rules
returns-in_err-made-in-None-clause-no_rules g c =
    answers_memory g.StorageT.StorageIndex.limit (parts_of g.StorageT.StorageIndex.index c.args.parts) c.from_residual.result NoRules c.in-None.ensures.sound c.from_residual.ensures.1 refl

pub returns-in-Some-clause-storage_too_small : goal.returns-in-Some-clause-storage_too_small
returns-in-Some-clause-storage_too_small g c =
    answers_first g.StorageT.StorageIndex.limit (parts_of g.StorageT.StorageIndex.index c.args.parts) c.in-Some.fault StorageTooSmall c.in-Some.ensures.found

pub returns-in_ok-made-in-None-clause-storage_too_small : goal.returns-in_ok-made-in-None-clause-storage_too_small
returns-in_ok-made-in-None-clause-storage_too_small g c =
    answers_grammar g.StorageT.StorageIndex.limit (parts_of g.StorageT.StorageIndex.index c.args.parts) c.in_ok-made-in-None.field-0 StorageTooSmall c.in-None.ensures.sound

pub returns-in_err-made-in-None-clause-storage_too_small : goal.returns-in_err-made-in-None-clause-storage_too_small
returns-in_err-made-in-None-clause-storage_too_small g c =
    answers_memory g.StorageT.StorageIndex.limit (parts_of g.StorageT.StorageIndex.index c.args.parts) c.from_residual.result StorageTooSmall c.in-None.ensures.sound c.from_residual.ensures.1 refl

pub returns-in-Some-clause-bad_start : goal.returns-in-Some-clause-bad_start
returns-in-Some-clause-bad_start g c =
    answers_first g.StorageT.StorageIndex.limit (parts_of g.StorageT.StorageIndex.index c.args.parts) c.in-Some.fault BadStart c.in-Some.ensures.found

pub returns-in_ok-made-in-None-clause-bad_start : goal.returns-in_ok-made-in-None-clause-bad_start
returns-in_ok-made-in-None-clause-bad_start g c =
    answers_grammar g.StorageT.StorageIndex.limit (parts_of g.StorageT.StorageIndex.index c.args.parts) c.in_ok-made-in-None.field-0 BadStart c.in-None.ensures.sound

pub returns-in_err-made-in-None-clause-bad_start : goal.returns-in_err-made-in-None-clause-bad_start
returns-in_err-made-in-None-clause-bad_start g c =
    answers_memory g.StorageT.StorageIndex.limit (parts_of g.StorageT.StorageIndex.index c.args.parts) c.from_residual.result BadStart c.in-None.ensures.sound c.from_residual.ensures.1 refl

pub returns-in-Some-clause-bad_symbol : goal.returns-in-Some-clause-bad_symbol
returns-in-Some-clause-bad_symbol g c =
    answers_first g.StorageT.StorageIndex.limit (parts_of g.StorageT.StorageIndex.index c.args.parts) c.in-Some.fault BadSymbol c.in-Some.ensures.found

pub returns-in_ok-made-in-None-clause-bad_symbol : goal.returns-in_ok-made-in-None-clause-bad_symbol
returns-in_ok-made-in-None-clause-bad_symbol g c =
    answers_grammar g.StorageT.StorageIndex.limit (parts_of g.StorageT.StorageIndex.index c.args.parts) c.in_ok-made-in-None.field-0 BadSymbol c.in-None.ensures.sound

pub returns-in_err-made-in-None-clause-bad_symbol : goal.returns-in_err-made-in-None-clause-bad_symbol
returns-in_err-made-in-None-clause-bad_symbol g c =
    answers_memory g.StorageT.StorageIndex.limit (parts_of g.StorageT.StorageIndex.index c.args.parts) c.from_residual.result BadSymbol c.in-None.ensures.sound c.from_residual.ensures.1 refl
