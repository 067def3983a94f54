-- The grammar of a file, by its parts and precedences.
use Rattle.std.proofs.Common.{◌≡◌, ◌∙◌, ◌<◌, ◌+◌, ℕ, All, None, ap, length, map, subst, sym}
use Rattle.std.proofs.lemmas.List.{length-map}
use Rattle.lrpar_grammar_reader.specs.Parts.{AreSound, IsDeclaredProd, Parts, parts_of}
use Rattle.lrpar_grammar_reader.specs.TextNames.{AreSpelled}
use Rattle.lrpar_table_precedence.specs.Precedence.{PrecedenceLists}
use Rattle.lrpar_grammar_bison_rules.specs.Rules.{Rules}
use Rattle.lrpar_grammar_bison_parts.specs.declared.grammar.BisonGrammar.{BisonGrammar}
use Rattle.lrpar_grammar_bison_parts.specs.Files.{IsGrammarWith, file_ranks, unquoted_parts}
use Rattle.lrpar_grammar_bison_parts.specs.Numbers.{number_fault}
use Rattle.lrpar_grammar_bison_parts.specs.Outline.{file_outline}
use Rattle.lrpar_grammar_bison_parts.specs.Precedences.{prec_words, prod_slots, repeated_rank, token_slots}
use Rattle.lrpar_grammar_bison_parts.specs.Unquoted.{unquoted_token}

-- names don't matter to whether parts make a grammar
unquoted_sound : (limit : ℕ) (x : Parts) → AreSound limit x → AreSound limit (unquoted_parts x)
unquoted_sound limit x sound =
    let same : length x.tokens ≡ length (map unquoted_token x.tokens) = sym (length-map x.tokens unquoted_token) in
    record {
      rules = sound.rules;
      storage = record {
        rules = sound.storage.rules;
        tokens = subst (λ n. n < limit) same sound.storage.tokens;
        prods = sound.storage.prods;
      };
      start = record { added = sound.start.added; within = sound.start.within };
      symbols = subst (λ n. All (IsDeclaredProd (length x.rules + 1) n) x.prods) same sound.symbols;
    }

module _ {S : Type 0} (index : S → ℕ) (limit : ℕ) (r : Rules) where
  -- the precedences of a file with these parts
  abbrev pub precedences_by : Parts → PrecedenceLists
  precedences_by x =
      let slots = token_slots (file_ranks r) x.tokens in
      record {
        tokens = slots;
        prods = prod_slots (record { ranks = file_ranks r; slots = slots; is_default = r.has_default_prec }) (prec_words r.aliases r.alternatives) x.prods;
      }

  -- the grammar of a file, if its parts are those of the file's outline, without quotes
  pub grammar_with : (g : BisonGrammar S) (x : Parts) → number_fault r.numbers ≡ None → repeated_rank (file_ranks r) ≡ None → AreSpelled limit (file_outline r) x
      → parts_of index g.parts ≡ unquoted_parts x → g.precedences ≡ precedences_by x → IsGrammarWith index limit r g
  grammar_with g x numbered once spelled parts precedences =
      record {
        numbers = numbered;
        ranked_once = once;
        clean = spelled.clean;
        parts = parts ∙ ap unquoted_parts spelled.is;
        sound = subst (AreSound limit) (sym parts) (unquoted_sound limit x spelled.sound);
        precedences = precedences ∙ ap precedences_by spelled.is;
      }
