use Rattle.std.proofs.Common.{◌≡◌, ◌++◌, drop, string_bytes}
use Rattle.lrpar_grammar_yacc.specs.Erasure.{AreApart, erased_from}
use Rattle.lrpar_grammar_yacc.proofs.text.TextParts.erase.Given as goal

-- what is erased so far, and the rest of the text with its parts, are the erased text
abbrev pub invariant-loop-part : goal.invariant-loop-part
invariant-loop-part l =
    let rest = drop l.part-index l.self.parts.items in
    record {
      apart : AreApart l.text l.place rest;
      done : string_bytes l.erased ++ erased_from l.text l.place rest ≡ erased_from l.text 0 l.self.parts.items;
    }
