-- The declarations and rules of a `.y` file, as lists of words in the order of the text.
use Rattle.std.specs.Prelude.{◌≡◌, ◌≤◌, ◌-◌, Bool, true, false, ℕ, List, [], ◌∷◌, ◌++◌, All, Contains, length, map, slice_get, Option, Some, None, option_map, if◌then◌else◌, Vec}
use Rattle.std.specs.List.{AllPairs}
use Rattle.std.specs.Option.{option_map_or, option_to_list}
use Rattle.lrpar_table_precedence.specs.declared.precedence.AssocKind.{AssocKind}
use Rattle.lrpar_table_precedence.specs.declared.precedence.Precedence.{Precedence}
use Rattle.lrpar_grammar_bison.specs.declared.word_list.WordsFault.TheVariants.{Unread as UnreadWord}
use Rattle.lrpar_grammar_bison.specs.declared.words.Word.{Word}
use Rattle.lrpar_grammar_bison.specs.declared.words.WordKind.TheVariants.{Semicolon}
use Rattle.lrpar_grammar_bison.specs.Words.{PlacedWord, placed}
use Rattle.lrpar_grammar_bison.specs.WordList.{AreWordsOf, IsWordsFault, read}
use Rattle.lrpar_grammar_bison_rules.specs.declared.rules.Alternative.{Alternative}
use Rattle.lrpar_grammar_bison_rules.specs.declared.rules.FileRules.{FileRules}
use Rattle.lrpar_grammar_bison_rules.specs.declared.rules.Item.{Item}
use Rattle.lrpar_grammar_bison_rules.specs.declared.rules.RankedWord.{RankedWord}
use Rattle.lrpar_grammar_bison_rules.specs.declared.rules.TokenNumber.{TokenNumber}
use Rattle.lrpar_grammar_bison_rules.specs.declared.rules.RulesFault.{RulesFault}
use Rattle.lrpar_grammar_bison_rules.specs.declared.rules.RulesFault.TheVariants.{Unread, Unexpected, End, Memory}
use Rattle.lrpar_grammar_bison_rules.specs.declared.word_order.Expected.{Expected}
use Rattle.lrpar_grammar_bison_rules.specs.declared.word_order.Expected.TheVariants.{Declaration}
use Rattle.lrpar_grammar_bison_rules.specs.declared.word_order.ItemKind.{ItemKind}
use Rattle.lrpar_grammar_bison_rules.specs.declared.word_order.Role.{Role}
use Rattle.lrpar_grammar_bison_rules.specs.declared.word_order.Role.TheVariants.{Nothing, Start, Token, Alias as AliasRole, Number as NumberRole, LevelNumber, Level, LevelName, Expected as ExpectedRole, ExpectedRr, Glr, DefaultPrec, Defined, Item as ItemRole}
use Rattle.lrpar_grammar_bison_rules.specs.declared.word_order.Step.{Step}
use Rattle.lrpar_grammar_bison_rules.specs.Aliases.{FileAlias, alias_of, first_aliases}
use Rattle.lrpar_grammar_bison_rules.specs.Signs.{sign_of}
use Rattle.lrpar_grammar_bison.specs.Spellings.{all_respelled}
use Rattle.lrpar_grammar_bison_rules.specs.WordOrder.{after, is_in_alternative, may_end}

-- a part of an alternative
pub record FileItem : Type 0 where
  pub kind : ItemKind
  pub word : PlacedWord

-- an alternative of the last rule defined so far: its parts, and the word that ends it
pub record FileAlternative : Type 0 where
  pub rule : PlacedWord
  pub items : List FileItem
  pub end : PlacedWord

-- a token and its number
pub record FileNumber : Type 0 where
  pub token : PlacedWord
  pub number : PlacedWord

-- a token with a precedence
pub record FileRank : Type 0 where
  pub word : PlacedWord
  pub precedence : Precedence

-- The start rules; the tokens that are declared, and the texts and numbers of some; the levels of precedence, and their tokens; the numbers of
-- conflicts that are expected; whether the parser follows each way out of a conflict; whether a production has the precedence of its
-- last token; the rules that are defined; the alternatives that have ended, and the parts after the last of them.
pub record Rules : Type 0 where
  pub starts : List PlacedWord
  pub tokens : List PlacedWord
  pub aliases : List FileAlias
  pub numbers : List FileNumber
  pub levels : List AssocKind
  pub ranked : List FileRank
  pub expected : List PlacedWord
  pub expected_rr : List PlacedWord
  pub is_glr : Bool
  pub has_default_prec : Bool
  pub defined : List PlacedWord
  pub alternatives : List FileAlternative
  pub items : List FileItem

-- a part as plain data
abbrev pub item_of : Item → FileItem
item_of x = record { kind = x.kind; word = placed x.word }

-- an alternative as plain data
abbrev pub alternative_of : Alternative → FileAlternative
alternative_of x = record { rule = placed x.rule; items = map item_of x.items.items; end = placed x.end }

-- a token and its number as plain data
abbrev pub number_of : TokenNumber → FileNumber
number_of x = record { token = placed x.token; number = placed x.number }

-- a token with a precedence as plain data
abbrev pub rank_of : RankedWord → FileRank
rank_of x = record { word = placed x.word; precedence = x.precedence }

-- declarations and rules as plain data
abbrev pub rules_in : FileRules → Rules
rules_in x = record {
  starts = map placed x.starts.items;
  tokens = map placed x.tokens.items;
  aliases = map alias_of x.aliases.items;
  numbers = map number_of x.numbers.items;
  levels = x.levels.items;
  ranked = map rank_of x.ranked.items;
  expected = map placed x.expected.items;
  expected_rr = map placed x.expected_rr.items;
  is_glr = x.is_glr;
  has_default_prec = x.has_default_prec;
  defined = map placed x.defined.items;
  alternatives = map alternative_of x.alternatives.items;
  items = map item_of x.items.items;
}

-- a file without words
abbrev pub no_rules : Rules
no_rules = record {
  starts = [];
  tokens = [];
  aliases = [];
  numbers = [];
  levels = [];
  ranked = [];
  expected = [];
  expected_rr = [];
  is_glr = false;
  has_default_prec = true;
  defined = [];
  alternatives = [];
  items = [];
}

-- the last of some things
abbrev pub last_of : {A : Type 0} → List A → Option A
last_of xs = slice_get xs (length xs - 1)

-- the alternative that a word ends
abbrev pub ended : Rules → PlacedWord → List FileAlternative
ended r w = option_to_list (option_map (λ rule. record { rule = rule; items = r.items; end = w }) (last_of r.defined))

-- with the alternative that a word ends
abbrev pub with_closed : Rules → PlacedWord → Rules
with_closed r w = record r { alternatives = r.alternatives ++ ended r w; items = [] }

-- the text of the last token
abbrev pub alias_by : Rules → PlacedWord → List FileAlias
alias_by r w = option_to_list (option_map (λ token. record { token = token; text = w }) (last_of r.tokens))

-- the number of a token, if there is one
abbrev pub numbered : Option PlacedWord → PlacedWord → List FileNumber
numbered found w = option_to_list (option_map (λ token. record { token = token; number = w }) found)

-- the number of the last token
abbrev pub number_by : Rules → PlacedWord → List FileNumber
number_by r w = numbered (last_of r.tokens) w

-- the number of the last token of a level
abbrev pub level_number_by : Rules → PlacedWord → List FileNumber
level_number_by r w = numbered (option_map (λ (x : FileRank). x.word) (last_of r.ranked)) w

-- a token of the last level
abbrev pub rank_by : Rules → PlacedWord → List FileRank
rank_by r w = option_to_list (option_map (λ kind. record { word = w; precedence = record { level = length r.levels - 1; kind = kind } }) (last_of r.levels))

-- with one more word, which has that role
unfoldable pub with_role : Rules → Role → PlacedWord → Rules
with_role r Nothing w = r
with_role r Start w = record r { starts = r.starts ++ w ∷ [] }
with_role r Token w = record r { tokens = r.tokens ++ w ∷ [] }
with_role r AliasRole w = record r { aliases = r.aliases ++ alias_by r w }
with_role r NumberRole w = record r { numbers = r.numbers ++ number_by r w }
with_role r LevelNumber w = record r { numbers = r.numbers ++ level_number_by r w }
with_role r (Level kind) w = record r { levels = r.levels ++ kind ∷ [] }
with_role r LevelName w = record r { ranked = r.ranked ++ rank_by r w }
with_role r ExpectedRole w = record r { expected = r.expected ++ w ∷ [] }
with_role r ExpectedRr w = record r { expected_rr = r.expected_rr ++ w ∷ [] }
with_role r Glr w = record r { is_glr = true }
with_role r (DefaultPrec has) w = record r { has_default_prec = has }
with_role r Defined w = record r { defined = r.defined ++ w ∷ [] }
with_role r (ItemRole kind) w = record r { items = r.items ++ record { kind = kind; word = w } ∷ [] }

-- with one more word, which does that
abbrev pub with_step : Rules → Step → PlacedWord → Rules
with_step r step w = with_role (if step.closes then with_closed r w else r) step.role w

-- what is read of some words: their declarations and rules, what is allowed after them, and the first word that isn't allowed where it is
pub record RulesRead : Type 0 where
  pub rules : Rules
  pub next : Expected
  pub refused : Option PlacedWord

-- what is read of words, with what is allowed at the first of them, and the declarations and rules before it
abbrev pub read_on : Expected → Rules → List PlacedWord → RulesRead
read_on next r [] = record { rules = r; next = next; refused = None }
read_on next r (w ∷ ws) =
    option_map_or (λ (step : Step). read_on step.next (with_step r step w) ws) (after next (sign_of w ws)) (record { rules = r; next = next; refused = Some w })

-- what is read of the words of a file
abbrev pub rules_read : List PlacedWord → RulesRead
rules_read words = read_on Declaration no_rules words

-- what comes after all words, at the end of a text of that length
abbrev pub end_word : ℕ → PlacedWord
end_word len = record { kind = Semicolon; name = []; span = record { start = len; end = len } }

-- the rules that are read, with the last alternative ended by the end of a text of that length, if it isn't yet
abbrev pub finished : ℕ → RulesRead → Rules
finished len x = if is_in_alternative x.next then with_closed x.rules (end_word len) else x.rules

-- each word is allowed where it is, the file may end after them, and these are its declarations and rules
pub record IsWhole (len : ℕ) (x : RulesRead) (r : Rules) : Type 0 where
  pub allowed : x.refused ≡ None
  pub ends : may_end x.next ≡ true
  pub is : r ≡ finished len x

-- these are the declarations and rules of a text of that length with these words
abbrev pub AreRulesOfWords : ℕ → List Word → Rules → Type 0
AreRulesOfWords len words r = IsWhole len (rules_read (map placed words)) r

-- the words of a text, with one name for each symbol
abbrev pub words_in : List ℕ → List PlacedWord
words_in text = all_respelled (read text).words

-- with those texts alone that are names of tokens
abbrev pub with_first_aliases : Rules → Rules
with_first_aliases r = record r { aliases = first_aliases r.aliases }

-- the text can be read, and these are its declarations and rules: `all` are those with all texts of tokens
pub record AreRulesOfText (text : List ℕ) (r : Rules) : Type 0 where
  pub all : Rules
  pub readable : (read text).stuck ≡ None
  pub whole : IsWhole (length text) (rules_read (words_in text)) all
  pub is : r ≡ with_first_aliases all

-- each alternative is of a rule that is defined
abbrev pub AreOfDefinedRules : Rules → Type 0
AreOfDefinedRules r = All (λ x. Contains r.defined x.rule) r.alternatives

-- the parts of each alternative are in the order of the text: each ends at or before the start of the next
abbrev pub HaveOrderedItems : Rules → Type 0
HaveOrderedItems r = All (λ x. AllPairs (λ a b. a.word.span.end ≤ b.word.span.start) x.items) r.alternatives

-- a word that isn't allowed where it is, or an end that comes too early
abbrev pub HasOrderFault : RulesRead → RulesFault → Type 0
HasOrderFault x (Unexpected span expected) = (option_map (λ (w : PlacedWord). w.span) x.refused ≡ Some span) × (expected ≡ x.next)
HasOrderFault x (End expected) = (x.refused ≡ None) × (may_end x.next ≡ false) × (expected ≡ x.next)
HasOrderFault x Memory = Unit {0}
HasOrderFault x _ = ⊥

-- what is wrong with the order of these words
abbrev pub IsOrderFault : List Word → RulesFault → Type 0
IsOrderFault words fault = HasOrderFault (rules_read (map placed words)) fault

-- these are the words of a text that can be read
abbrev pub AreReadWords : {A : Type 0} → List ℕ → Vec Word A → Type 0
AreReadWords text words = AreWordsOf text words

-- why the words of a text can't be read
abbrev pub IsReadFault : List ℕ → RulesFault → Type 0
IsReadFault text (Unread place what) = IsWordsFault text (UnreadWord place what)
IsReadFault text Memory = Unit {0}
IsReadFault text _ = ⊥

-- Why a text has no declarations and rules: reading is stuck at a place; else a word isn't allowed where it is, or the end comes too
-- early; or an allocation failed.
abbrev pub IsRulesFault : List ℕ → RulesFault → Type 0
IsRulesFault text (Unexpected span expected) = ((read text).stuck ≡ None) × HasOrderFault (rules_read (words_in text)) (Unexpected span expected)
IsRulesFault text (End expected) = ((read text).stuck ≡ None) × HasOrderFault (rules_read (words_in text)) (End expected)
IsRulesFault text fault = IsReadFault text fault
