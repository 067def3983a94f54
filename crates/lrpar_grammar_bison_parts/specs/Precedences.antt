-- The precedences that a `.y` file declares, by the numbers of tokens and productions.
use Rattle.std.specs.Prelude.{◌≡◌, ◌++◌, ◌∷◌, [], Bool, true, false, ℕ, List, Option, None, Some, bytes_eq, length, map, option_map, replicate, Vec, if◌then◌else◌}
use Rattle.std.specs.BTreeMap.{BTreeMap, get_by}
use Rattle.std.specs.Borrow.{Bor}
use Rattle.std.specs.Cmp.Lexicographic.{slice_cmp}
use Rattle.std.specs.List.{find, flat_map, list_any}
use Rattle.std.specs.Ordering.{nat_cmp}
use Rattle.lrpar_grammar_places.specs.Span.{Extent}
use Rattle.lrpar_grammar_places.specs.declared.span.Symbol.{Symbol}
use Rattle.lrpar_grammar_words.specs.declared.words.Word.{Word as TextWord}
use Rattle.lrpar_grammar_words.specs.Words.{PlacedWord as PlacedTextWord, placed as text_placed}
use Rattle.lrpar_grammar_reader.specs.declared.parts.ProdPart.{ProdPart}
use Rattle.lrpar_grammar_reader.specs.declared.parts.TokenPart.{TokenPart}
use Rattle.lrpar_grammar_reader.specs.Grammar.{GrammarSymbol, Nonterminal, Production, Terminal, TokenName}
use Rattle.lrpar_grammar_reader.specs.Parts.{prod_of, token_name_of}
use Rattle.lrpar_grammar_reader.specs.Symbols.{symbol_of}
use Rattle.lrpar_table_precedence.specs.declared.precedence.Precedence.{Precedence}
use Rattle.lrpar_table_precedence.specs.Precedence.{slot_at}
use Rattle.lrpar_grammar_bison.specs.declared.words.Word.{Word}
use Rattle.lrpar_grammar_bison.specs.Words.{PlacedWord}
use Rattle.lrpar_grammar_bison_rules.specs.declared.rules.Alternative.{Alternative}
use Rattle.lrpar_grammar_bison_rules.specs.declared.rules.Item.{Item}
use Rattle.lrpar_grammar_bison_rules.specs.declared.rules.RankedWord.{RankedWord}
use Rattle.lrpar_grammar_bison_rules.specs.declared.word_order.ItemKind.{ItemKind}
use Rattle.lrpar_grammar_bison_rules.specs.declared.word_order.ItemKind.TheVariants.{Prec}
use Rattle.lrpar_grammar_bison_rules.specs.Aliases.{FileAlias, MapsAliases}
use Rattle.lrpar_grammar_bison_rules.specs.Rules.{FileAlternative, FileItem, FileRank, alternative_of, item_of, rank_of}
use Rattle.lrpar_grammar_bison_parts.specs.declared.faults.BisonFault.{BisonFault}
use Rattle.lrpar_grammar_bison_parts.specs.declared.faults.BisonFault.TheVariants.{Memory, RepeatedPrecedence}
use Rattle.lrpar_grammar_bison_parts.specs.declared.precedences.Rank.{Rank}
use Rattle.lrpar_grammar_bison_parts.specs.declared.precedences.TokenRanks.{TokenRanks}
use Rattle.lrpar_grammar_bison_parts.specs.Midrules.{actions_in}
use Rattle.lrpar_grammar_bison_parts.specs.Symbols.{symbol_word}

-- a token with a precedence, as a word of a grammar text
pub record NamedRank : Type 0 where
  pub word : PlacedTextWord
  pub precedence : Precedence

-- the tokens of a file with their precedences
abbrev pub named_ranks : List FileAlias → List FileRank → List NamedRank
named_ranks aliases ranked = map (λ (x : FileRank). record { word = symbol_word aliases x.word; precedence = x.precedence }) ranked

-- the precedence of the token with that name, if it has one
abbrev pub rank_with : List NamedRank → List ℕ → Option Precedence
rank_with ranks name = option_map (λ (x : NamedRank). x.precedence) (find (λ (x : NamedRank). bytes_eq x.word.name name) ranks)

-- whether one of the tokens has that name
abbrev pub has_rank : List NamedRank → List ℕ → Bool
has_rank ranks name = list_any (λ (x : NamedRank). bytes_eq x.word.name name) ranks

-- the place of the first token that is among the earlier ones, or in the list before
abbrev pub repeated_after : List NamedRank → List NamedRank → Option Extent
repeated_after before [] = None
repeated_after before (x ∷ xs) = if has_rank before x.word.name then Some x.word.span else repeated_after (before ++ x ∷ []) xs

-- the place of the first token that has a second precedence
abbrev pub repeated_rank : List NamedRank → Option Extent
repeated_rank ranks = repeated_after [] ranks

-- the symbol of a `%prec`
abbrev pub is_prec : ItemKind → Bool
is_prec Prec = true
is_prec _ = false

-- the symbol of the first `%prec` among the parts of an alternative
abbrev pub prec_in : List FileItem → Option PlacedWord
prec_in items = option_map (λ (x : FileItem). x.word) (find (λ (x : FileItem). is_prec x.kind) items)

-- the symbols of the `%prec`s of an alternative and of the rules for its actions, which come before it and have none
abbrev pub prec_words_in : List FileAlias → List FileItem → List (Option PlacedTextWord)
prec_words_in aliases items = replicate (length (actions_in items)) None ++ option_map (symbol_word aliases) (prec_in items) ∷ []

-- the symbols of the `%prec`s of all productions
abbrev pub prec_words : List FileAlias → List FileAlternative → List (Option PlacedTextWord)
prec_words aliases alternatives = flat_map (λ (x : FileAlternative). prec_words_in aliases x.items) alternatives

-- the precedence of the last token among symbols, if that has one; `slots`: the precedences of tokens by their numbers
abbrev pub slot_after : List (Option Precedence) → Option Precedence → List GrammarSymbol → Option Precedence
slot_after slots last [] = last
slot_after slots last (Terminal t ∷ xs) = slot_after slots (slot_at slots t) xs
slot_after slots last (Nonterminal r ∷ xs) = slot_after slots last xs

-- the precedence of the last token among symbols
abbrev pub last_slot : List (Option Precedence) → List GrammarSymbol → Option Precedence
last_slot slots symbols = slot_after slots None symbols

-- what precedences are found by: the tokens that have one, all by their numbers, and whether the last token of a production counts
pub record Ranking : Type 0 where
  pub ranks : List NamedRank
  pub slots : List (Option Precedence)
  pub is_default : Bool

-- the precedence of a production with these symbols: that of the symbol of its `%prec`, or else that of its last token, if that counts
abbrev pub prod_slot : Ranking → List GrammarSymbol → Option PlacedTextWord → Option Precedence
prod_slot ranking symbols (Some w) = rank_with ranking.ranks w.name
prod_slot ranking symbols None = if ranking.is_default then last_slot ranking.slots symbols else None

-- the precedences of productions, the first of which have these symbols in their `%prec`s
abbrev pub prod_slots : Ranking → List (Option PlacedTextWord) → List Production → List (Option Precedence)
prod_slots ranking words [] = []
prod_slots ranking [] (p ∷ ps) = prod_slot ranking p.symbols None ∷ prod_slots ranking [] ps
prod_slots ranking (w ∷ ws) (p ∷ ps) = prod_slot ranking p.symbols w ∷ prod_slots ranking ws ps

-- the precedences of tokens
abbrev pub token_slots : List NamedRank → List TokenName → List (Option Precedence)
token_slots ranks tokens = map (λ (t : TokenName). rank_with ranks t.name) tokens

-- a token with a precedence, as plain data
abbrev pub named_rank_of : Rank → NamedRank
named_rank_of x = record { word = text_placed x.word; precedence = x.precedence }

-- if the map has some texts, these are the tokens with a precedence
abbrev pub AreRanks : {A : Type 0} → BTreeMap (Bor (List ℕ)) Word → List RankedWord → Vec Rank A → Type 0
AreRanks found ranked ranks =
    (aliases : List FileAlias) → MapsAliases found aliases → map named_rank_of ranks.items ≡ named_ranks aliases (map rank_of ranked)

-- the map has these precedences by the names of tokens
abbrev pub MapsRanks : BTreeMap (Bor (List ℕ)) Precedence → List NamedRank → Type 0
MapsRanks found ranks = (q : List ℕ) → get_by (λ k. slice_cmp nat_cmp q k.now) found ≡ rank_with ranks q

-- the map has these precedences
abbrev pub MapsRankList : List Rank → BTreeMap (Bor (List ℕ)) Precedence → Type 0
MapsRankList ranks found = MapsRanks found (map named_rank_of ranks)

-- no token has a second precedence
abbrev pub HasNoRepeatedRank : List Rank → Type 0
HasNoRepeatedRank ranks = repeated_rank (map named_rank_of ranks) ≡ None

-- the first token with a second precedence is at this place; or an allocation failed
abbrev pub IsRankFault : List Rank → BisonFault → Type 0
IsRankFault ranks (RepeatedPrecedence span) = repeated_rank (map named_rank_of ranks) ≡ Some span
IsRankFault ranks Memory = Unit {0}
IsRankFault ranks _ = ⊥

-- if the map has some precedences, this is that of the token with that name
abbrev pub IsRank : BTreeMap (Bor (List ℕ)) Precedence → List ℕ → Option Precedence → Type 0
IsRank found name result = (ranks : List NamedRank) → MapsRanks found ranks → result ≡ rank_with ranks name

-- if the map has some precedences, these are those of the tokens
abbrev pub AreTokenSlots : {A : Type 0} → BTreeMap (Bor (List ℕ)) Precedence → List TokenPart → Vec (Option Precedence) A → Type 0
AreTokenSlots found tokens slots = (ranks : List NamedRank) → MapsRanks found ranks → slots.items ≡ token_slots ranks (map token_name_of tokens)

-- if the map has some texts, the symbols of `%prec`s of an alternative and of the rules for its actions were appended
abbrev pub AppendsPrecWords : {A : Type 0} → BTreeMap (Bor (List ℕ)) Word → List Item → Vec (Option TextWord) A → Vec (Option TextWord) A → Type 0
AppendsPrecWords found items old new =
    (aliases : List FileAlias) → MapsAliases found aliases
    → map (option_map text_placed) new.items ≡ map (option_map text_placed) old.items ++ prec_words_in aliases (map item_of items)

-- if the map has some texts, these are the symbols of `%prec`s of the productions
abbrev pub ArePrecWords : {A : Type 0} → BTreeMap (Bor (List ℕ)) Word → List Alternative → Vec (Option TextWord) A → Type 0
ArePrecWords found alternatives words =
    (aliases : List FileAlias) → MapsAliases found aliases
    → map (option_map text_placed) words.items ≡ prec_words aliases (map alternative_of alternatives)

-- if the map has some texts, this is the symbol of the first `%prec` of an alternative with these parts
abbrev pub HasPrecWord : BTreeMap (Bor (List ℕ)) Word → List Item → Option TextWord → Type 0
HasPrecWord found items result =
    (aliases : List FileAlias) → MapsAliases found aliases
    → option_map text_placed result ≡ option_map (symbol_word aliases) (prec_in (map item_of items))

-- what precedences are found by, with these tokens
abbrev pub ranking_by : TokenRanks → List NamedRank → Ranking
ranking_by x ranks = record { ranks = ranks; slots = x.by_number.now; is_default = x.is_default }

-- the symbols of a production, without their places
abbrev pub symbols_in : {S : Type 0} → (S → ℕ) → List (Symbol S × Extent) → List GrammarSymbol
symbols_in index pairs = map (λ pair. symbol_of index pair.0) pairs

-- if the map has some precedences, this is that of a production with these symbols and with that symbol in its `%prec`
abbrev pub IsProdSlot : {S : Type 0} → (S → ℕ) → TokenRanks → List (Symbol S × Extent) → Option TextWord → Option Precedence → Type 0
IsProdSlot index x symbols word result =
    (ranks : List NamedRank) → MapsRanks x.by_name.now ranks → result ≡ prod_slot (ranking_by x ranks) (symbols_in index symbols) (option_map text_placed word)

-- if the map has some precedences, these are those of the productions
abbrev pub AreProdSlots : {S A : Type 0} → (S → ℕ) → TokenRanks → List (Option TextWord) → List (ProdPart S) → Vec (Option Precedence) A → Type 0
AreProdSlots index x words prods slots =
    (ranks : List NamedRank) → MapsRanks x.by_name.now ranks
    → slots.items ≡ prod_slots (ranking_by x ranks) (map (option_map text_placed) words) (map (prod_of index) prods)
