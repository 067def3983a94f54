-- The grammar of grammar texts, over their words: declarations, `%%`, rules, and perhaps a second `%%`; and the outline of each.
use Rattle.std.specs.Prelude.{◌≡◌, ◌↔◌, List, [], ◌∷◌, ◌++◌, All, map, Option, IfSome, ◌⊎◌}
use Rattle.std.specs.List.{flat_map}
use Rattle.std.specs.Option.{option_to_list}
use Rattle.lrpar_grammar_words.specs.declared.words.WordKind.{WordKind}
use Rattle.lrpar_grammar_words.specs.declared.words.WordKind.TheVariants.{Name, Quoted, StartSign, TokenSign, EppSign, RulesSign, Colon, Bar, Semicolon}
use Rattle.lrpar_grammar_words.specs.Words.{PlacedWord}
use Rattle.lrpar_grammar_words.specs.Outline.{HaveOutline, TextAlternative, TextOutline}

-- `%start` and a name; `%token` and one token or more; or `%epp`, a token and its printed text
pub data TextDeclaration : Type 0 where
  StartIs : (sign : PlacedWord) → (name : PlacedWord) → TextDeclaration
  TokensAre : (sign : PlacedWord) → (first : PlacedWord) → (others : List PlacedWord) → TextDeclaration
  EppIs : (sign : PlacedWord) → (token : PlacedWord) → (printed : PlacedWord) → TextDeclaration

-- a name, `:`, the alternatives that end with `|`, and the last one, which ends with `;`
pub record TextRule : Type 0 where
  pub name : PlacedWord
  pub colon : PlacedWord
  pub firsts : List TextAlternative
  pub last : TextAlternative

-- declarations, `%%`, rules, and the second `%%`, if there is one
pub record GrammarText : Type 0 where
  pub declarations : List TextDeclaration
  pub middle : PlacedWord
  pub rules : List TextRule
  pub close : Option PlacedWord

-- a name or a quoted word
abbrev pub IsTokenWord : PlacedWord → Type 0
IsTokenWord w = (w.kind ≡ Name) ⊎ (w.kind ≡ Quoted)

-- each word of the declaration is of its kind
abbrev pub IsDeclaration : TextDeclaration → Type 0
IsDeclaration (StartIs sign name) = (sign.kind ≡ StartSign) × (name.kind ≡ Name)
IsDeclaration (TokensAre sign first others) = (sign.kind ≡ TokenSign) × IsTokenWord first × All IsTokenWord others
IsDeclaration (EppIs sign token printed) = (sign.kind ≡ EppSign) × IsTokenWord token × (printed.kind ≡ Quoted)

-- an alternative of that rule: names and quoted words, or none, and a sign of that kind
pub record IsAlternative (rule : PlacedWord) (sign : WordKind) (x : TextAlternative) : Type 0 where
  pub of : x.rule ≡ rule
  pub symbols : All IsTokenWord x.symbols
  pub end : x.end.kind ≡ sign

-- each word of the rule is of its kind
pub record IsRule (r : TextRule) : Type 0 where
  pub name : r.name.kind ≡ Name
  pub colon : r.colon.kind ≡ Colon
  pub firsts : All (IsAlternative r.name Bar) r.firsts
  pub last : IsAlternative r.name Semicolon r.last

-- each word of the grammar text is of its kind
pub record IsGrammarText (t : GrammarText) : Type 0 where
  pub declarations : All IsDeclaration t.declarations
  pub middle : t.middle.kind ≡ RulesSign
  pub rules : All IsRule t.rules
  pub close : IfSome t.close (λ w. w.kind ≡ RulesSign)

-- the words of a declaration
abbrev pub declaration_words : TextDeclaration → List PlacedWord
declaration_words (StartIs sign name) = sign ∷ name ∷ []
declaration_words (TokensAre sign first others) = sign ∷ first ∷ others
declaration_words (EppIs sign token printed) = sign ∷ token ∷ printed ∷ []

-- the words of an alternative
abbrev pub alternative_words : TextAlternative → List PlacedWord
alternative_words x = x.symbols ++ x.end ∷ []

-- the words of a rule
abbrev pub rule_words : TextRule → List PlacedWord
rule_words r = r.name ∷ r.colon ∷ (flat_map alternative_words r.firsts ++ alternative_words r.last)

-- the words of a grammar text
abbrev pub grammar_words : GrammarText → List PlacedWord
grammar_words t = flat_map declaration_words t.declarations ++ (t.middle ∷ (flat_map rule_words t.rules ++ option_to_list t.close))

-- the name that a declaration makes the start rule
abbrev pub start_of : TextDeclaration → List PlacedWord
start_of (StartIs sign name) = name ∷ []
start_of _ = []

-- the tokens that a declaration declares
abbrev pub declared_of : TextDeclaration → List PlacedWord
declared_of (TokensAre sign first others) = first ∷ others
declared_of _ = []

-- the token whose printed text a declaration gives
abbrev pub epp_of : TextDeclaration → List PlacedWord
epp_of (EppIs sign token printed) = token ∷ []
epp_of _ = []

-- the printed text that a declaration gives
abbrev pub printed_of : TextDeclaration → List PlacedWord
printed_of (EppIs sign token printed) = printed ∷ []
printed_of _ = []

-- the outline of the declarations and rules
abbrev pub grammar_outline : GrammarText → TextOutline
grammar_outline t = record {
  starts = flat_map start_of t.declarations;
  declared = flat_map declared_of t.declarations;
  epps = flat_map epp_of t.declarations;
  epp_texts = flat_map printed_of t.declarations;
  defined = map (λ r. r.name) t.rules;
  alternatives = flat_map (λ r. r.firsts ++ r.last ∷ []) t.rules;
  symbols = [];
}

-- the words are those of a grammar text with this outline
pub record AreOfGrammarText (words : List PlacedWord) (o : TextOutline) : Type 0 where
  pub text : GrammarText
  pub is : IsGrammarText text
  pub are : words ≡ grammar_words text
  pub outline : o ≡ grammar_outline text

-- words have an outline if and only if they are those of a grammar text with that outline
abbrev pub OutlinesAreOfTexts : Type 0
OutlinesAreOfTexts = (words : List PlacedWord) (o : TextOutline) → HaveOutline words o ↔ AreOfGrammarText words o
