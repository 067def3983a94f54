-- The grammar of a `.y` file as bison reads it, and why there is none.
use Rattle.std.specs.Prelude.{◌≡◌, ◌∷◌, ◌||◌, [], Bool, true, false, ℕ, List, Option, None, Some, MatchOption, length, map, nat_lt, option_map, if◌then◌else◌}
use Rattle.std.specs.List.{find, list_any}
use Rattle.std.specs.Option.{option_or}
use Rattle.lrpar_grammar_places.specs.Span.{Extent}
use Rattle.lrpar_grammar_reader.specs.declared.parts.GrammarFault.TheVariants.{Memory as GrammarMemory}
use Rattle.lrpar_grammar_reader.specs.declared.parts.GrammarParts.{GrammarParts}
use Rattle.lrpar_grammar_reader.specs.Parts.{AreSound, Parts, parts_of}
use Rattle.lrpar_grammar_reader.specs.Spells.{IsClean, spelled_parts}
use Rattle.lrpar_grammar_reader.specs.TextNames.{IsRefusedAs}
use Rattle.lrpar_table_precedence.specs.Precedence.{PrecedenceLists}
use Rattle.lrpar_grammar_bison_rules.specs.declared.rules.RulesFault.TheVariants.{Memory as RulesMemory}
use Rattle.lrpar_grammar_bison_rules.specs.declared.word_order.ItemKind.{ItemKind}
use Rattle.lrpar_grammar_bison_rules.specs.declared.word_order.ItemKind.TheVariants.{Empty}
use Rattle.lrpar_grammar_bison_rules.specs.Rules.{AreRulesOfText, IsRulesFault, FileAlternative, FileItem, Rules}
use Rattle.lrpar_grammar_bison_parts.specs.declared.faults.BisonFault.{BisonFault}
use Rattle.lrpar_grammar_bison_parts.specs.declared.faults.BisonFault.TheVariants.{BadNumber, Grammar, Memory, NotEmpty, RepeatedEmpty, RepeatedNumber, RepeatedPrec, RepeatedPrecedence, Rules as RulesVariant}
use Rattle.lrpar_grammar_bison_parts.specs.declared.grammar.BisonGrammar.{BisonGrammar}
use Rattle.lrpar_grammar_bison_parts.specs.Midrules.{actions_in, is_symbol}
use Rattle.lrpar_grammar_bison_parts.specs.Numbers.{number_fault}
use Rattle.lrpar_grammar_bison_parts.specs.Outline.{file_outline}
use Rattle.lrpar_grammar_bison_parts.specs.Precedences.{NamedRank, is_prec, named_ranks, prec_words, prod_slots, repeated_rank, token_slots}
use Rattle.lrpar_grammar_bison_parts.specs.Unquoted.{unquoted_token}

-- the parts of a grammar, with names of tokens that have no quotes
abbrev pub unquoted_parts : Parts → Parts
unquoted_parts x = record { rules = x.rules; tokens = map unquoted_token x.tokens; prods = x.prods; start = x.start }

-- the parts of the grammar of a file, with the quotes of literals in the names of tokens
abbrev pub quoted_parts : Rules → Parts
quoted_parts r = spelled_parts (file_outline r)

-- the tokens of a file with their precedences
abbrev pub file_ranks : Rules → List NamedRank
file_ranks r = named_ranks r.aliases r.ranked

-- the precedences that a file declares
abbrev pub file_precedences : Rules → PrecedenceLists
file_precedences r =
    let slots = token_slots (file_ranks r) (quoted_parts r).tokens in
    record {
      tokens = slots;
      prods = prod_slots (record { ranks = file_ranks r; slots = slots; is_default = r.has_default_prec }) (prec_words r.aliases r.alternatives) (quoted_parts r).prods;
    }

-- the second part of some kind, if one is before these or not
abbrev pub second_after : (ItemKind → Bool) → Bool → List FileItem → Option Extent
second_after is has [] = None
second_after is has (x ∷ xs) = if is x.kind then (if has then Some x.word.span else second_after is true xs) else second_after is has xs

-- the second `%prec` among the parts of an alternative
abbrev pub second_prec : List FileItem → Option Extent
second_prec items = second_after is_prec false items

-- the first `%prec` in an alternative that has one before
abbrev pub repeated_prec : List FileAlternative → Option Extent
repeated_prec [] = None
repeated_prec (x ∷ xs) = option_or (second_prec x.items) (repeated_prec xs)

-- `%empty`
abbrev pub is_empty_sign : ItemKind → Bool
is_empty_sign Empty = true
is_empty_sign _ = false

-- the second `%empty` among the parts of an alternative
abbrev pub second_empty : List FileItem → Option Extent
second_empty items = second_after is_empty_sign false items

-- the first `%empty` in an alternative that has one before
abbrev pub repeated_empty : List FileAlternative → Option Extent
repeated_empty [] = None
repeated_empty (x ∷ xs) = option_or (second_empty x.items) (repeated_empty xs)

-- a symbol is among the parts
abbrev pub has_symbol : List FileItem → Bool
has_symbol items = list_any (λ (x : FileItem). is_symbol x.kind) items

-- an alternative with these parts has a symbol, or an action in the place of one
abbrev pub is_filled : List FileItem → Bool
is_filled items = has_symbol items || nat_lt 0 (length (actions_in items))

-- the first `%empty` among the parts of an alternative
abbrev pub empty_in : List FileItem → Option Extent
empty_in items = option_map (λ (x : FileItem). x.word.span) (find (λ (x : FileItem). is_empty_sign x.kind) items)

-- the first `%empty` in an alternative that has symbols
abbrev pub false_empty : List FileAlternative → Option Extent
false_empty [] = None
false_empty (x ∷ xs) = option_or (if is_filled x.items then empty_in x.items else None) (false_empty xs)

-- no alternative has a second `%prec` or `%empty`, or a `%empty` beside symbols
pub record HasSoundAlternatives (alternatives : List FileAlternative) : Type 0 where
  pub precs : repeated_prec alternatives ≡ None
  pub repeated : repeated_empty alternatives ≡ None
  pub empties : false_empty alternatives ≡ None

-- a second `%prec` is at this place; or there is none, and a second `%empty` is at this place; or there is none either, and a `%empty`
-- beside symbols is at this place
abbrev pub HasAlternativeFault : List FileAlternative → BisonFault → Type 0
HasAlternativeFault alternatives (RepeatedPrec span) = repeated_prec alternatives ≡ Some span
HasAlternativeFault alternatives (RepeatedEmpty span) = (repeated_prec alternatives ≡ None) × (repeated_empty alternatives ≡ Some span)
HasAlternativeFault alternatives (NotEmpty span) =
    (repeated_prec alternatives ≡ None) × (repeated_empty alternatives ≡ None) × (false_empty alternatives ≡ Some span)
HasAlternativeFault alternatives _ = ⊥

-- this is the fault of the alternatives, if they have one
abbrev pub IsAlternativeFault : List FileAlternative → Option BisonFault → Type 0
IsAlternativeFault alternatives found = MatchOption found (HasSoundAlternatives alternatives) (HasAlternativeFault alternatives)

-- these are the parts of the grammar of a file and the precedences that it declares, if its alternatives are sound
pub record IsGrammarWith {S : Type 0} (index : S → ℕ) (limit : ℕ) (r : Rules) (g : BisonGrammar S) : Type 0 where
  pub numbers : number_fault r.numbers ≡ None
  pub ranked_once : repeated_rank (file_ranks r) ≡ None
  pub clean : IsClean (file_outline r)
  pub parts : parts_of index g.parts ≡ unquoted_parts (quoted_parts r)
  pub sound : AreSound limit (parts_of index g.parts)
  pub precedences : g.precedences ≡ file_precedences r

-- the numbers of tokens have no fault, and no token has a second precedence
abbrev pub HasSoundTokens : Rules → Type 0
HasSoundTokens r = (number_fault r.numbers ≡ None) × (repeated_rank (file_ranks r) ≡ None)

-- a fault of the numbers of tokens; or there is none, and a token has a second precedence; or none has, and the declarations and rules
-- have this fault
abbrev pub IsPartsFault : ℕ → Rules → BisonFault → Type 0
IsPartsFault limit r (BadNumber span) = number_fault r.numbers ≡ Some (BadNumber span)
IsPartsFault limit r (RepeatedNumber span) = number_fault r.numbers ≡ Some (RepeatedNumber span)
IsPartsFault limit r (RepeatedPrecedence span) = (number_fault r.numbers ≡ None) × (repeated_rank (file_ranks r) ≡ Some span)
IsPartsFault limit r (Grammar GrammarMemory) = ⊥
IsPartsFault limit r (Grammar fault) = HasSoundTokens r × IsRefusedAs limit (file_outline r) fault
IsPartsFault limit r Memory = Unit {0}
IsPartsFault limit r _ = ⊥

-- these are the parts of the grammar that declarations and rules make, and their precedences
pub record IsGrammarOfRules {S : Type 0} (index : S → ℕ) (limit : ℕ) (r : Rules) (g : BisonGrammar S) : Type 0 where
  pub alternatives : HasSoundAlternatives r.alternatives
  pub grammar : IsGrammarWith index limit r g

-- why declarations and rules make no grammar: the first of these faults
abbrev pub IsBisonFault : ℕ → Rules → BisonFault → Type 0
IsBisonFault limit r (RepeatedPrec span) = HasAlternativeFault r.alternatives (RepeatedPrec span)
IsBisonFault limit r (RepeatedEmpty span) = HasAlternativeFault r.alternatives (RepeatedEmpty span)
IsBisonFault limit r (NotEmpty span) = HasAlternativeFault r.alternatives (NotEmpty span)
IsBisonFault limit r Memory = Unit {0}
IsBisonFault limit r fault = HasSoundAlternatives r.alternatives × IsPartsFault limit r fault

-- the text can be read, and these are the parts and the precedences of its grammar
pub record IsGrammarOfFile {S : Type 0} (index : S → ℕ) (limit : ℕ) (text : List ℕ) (g : BisonGrammar S) : Type 0 where
  pub rules : Rules
  pub read : AreRulesOfText text rules
  pub grammar : IsGrammarOfRules index limit rules g

-- the text can be read, but its declarations and rules have this fault
pub record HasBisonFault (limit : ℕ) (text : List ℕ) (fault : BisonFault) : Type 0 where
  pub rules : Rules
  pub read : AreRulesOfText text rules
  pub has : IsBisonFault limit rules fault

-- why a text has no grammar: it can't be read, or its declarations and rules have a fault; or an allocation failed
abbrev pub IsFileFault : ℕ → List ℕ → BisonFault → Type 0
IsFileFault limit text (RulesVariant RulesMemory) = ⊥
IsFileFault limit text (RulesVariant fault) = IsRulesFault text fault
IsFileFault limit text Memory = Unit {0}
IsFileFault limit text fault = HasBisonFault limit text fault

-- these are the same parts, with names of tokens that have no quotes
abbrev pub HasUnquotedTokens : {S : Type 0} → (S → ℕ) → GrammarParts S → GrammarParts S → Type 0
HasUnquotedTokens index old new = parts_of index new ≡ unquoted_parts (parts_of index old)
