-- A fault of the declarations and rules of a text is a fault of the text.
use Rattle.std.proofs.Common.{ℕ, List}
use Rattle.lrpar_grammar_words.specs.Outline.{IsOutlineOf, TextOutline}
use Rattle.lrpar_grammar_reader.specs.declared.parts.GrammarFault.{GrammarFault}
use Rattle.lrpar_grammar_reader.specs.declared.parts.GrammarFault.TheVariants.{NoRules, StorageTooSmall, BadStart, BadSymbol, Syntax, UnknownRule, UnknownToken, TokenIsRule, RepeatedStart, RepeatedEpp, Memory}
use Rattle.lrpar_grammar_reader.specs.Spells.{IsGrammarFaultOf}
use Rattle.lrpar_grammar_reader.specs.TextNames.{IsRefusedAs}

-- why they are refused is why the text is refused
pub refusal_of_text : (limit : ℕ) (text : List ℕ) (o : TextOutline) → IsOutlineOf text o → (fault : GrammarFault) → IsRefusedAs limit o fault → IsGrammarFaultOf limit text fault
refusal_of_text limit text o reads NoRules has = record { outline = o; reads = reads; has = has }
refusal_of_text limit text o reads StorageTooSmall has = record { outline = o; reads = reads; clean = has.0; many = has.1 }
refusal_of_text limit text o reads BadStart has = absurd has
refusal_of_text limit text o reads BadSymbol has = absurd has
refusal_of_text limit text o reads (Syntax place) has = absurd has
refusal_of_text limit text o reads (UnknownRule span) has = record { outline = o; reads = reads; has = has }
refusal_of_text limit text o reads (UnknownToken span) has = record { outline = o; reads = reads; has = has }
refusal_of_text limit text o reads (TokenIsRule span) has = record { outline = o; reads = reads; has = has }
refusal_of_text limit text o reads (RepeatedStart span) has = record { outline = o; reads = reads; has = has }
refusal_of_text limit text o reads (RepeatedEpp span) has = record { outline = o; reads = reads; has = has }
refusal_of_text limit text o reads Memory has = tt
