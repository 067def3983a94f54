-- What a typed grammar as it is written means: each list, option and group is a rule.
use Rattle.std.specs.Prelude.{◌≡◌, ◌≢◌, ◌+◌, ℕ, false, List, [], ◌∷◌, ◌++◌, Option, Some, None, Vec, fold, map, slice_get, string_bytes}
use Rattle.lrpar_grammar_places.specs.Span.{Extent}
use Rattle.lrpar_grammar_places.specs.declared.span.RIdx.{RIdx}
use Rattle.lrpar_grammar_places.specs.declared.span.Symbol.{Symbol}
use Rattle.lrpar_grammar_places.specs.declared.span.Symbol.TheVariants.{Rule, Token}
use Rattle.lrpar_grammar_typed.specs.Forms.{AreProdsOf}
use Rattle.lrpar_grammar_typed.specs.Words.{IsWordAt}
use Rattle.lrpar_grammar_typed.specs.declared.file.Alternative.{Alternative, out-Alternative}
use Rattle.lrpar_grammar_typed.specs.declared.file.Atom.{Atom}
use Rattle.lrpar_grammar_typed.specs.declared.file.Atom.TheVariants as atom
use Rattle.lrpar_grammar_typed.specs.declared.file.Declaration.{Declaration}
use Rattle.lrpar_grammar_typed.specs.declared.file.Declaration.TheVariants.{Start}
use Rattle.lrpar_grammar_typed.specs.declared.file.Item.{Item, out-Item}
use Rattle.lrpar_grammar_typed.specs.declared.file.Mention.{Mention}
use Rattle.lrpar_grammar_typed.specs.declared.file.Part.{Part, out-Part}
use Rattle.lrpar_grammar_typed.specs.declared.file.Repeat.{Repeat}
use Rattle.lrpar_grammar_typed.specs.declared.file.Repeat.TheVariants as repeat
use Rattle.lrpar_grammar_typed.specs.declared.file.Rule.{Rule as Definition}
use Rattle.lrpar_grammar_typed.specs.declared.typed.Form.{Form}
use Rattle.lrpar_grammar_typed.specs.declared.typed.Form.TheVariants.{Written, Group, ZeroOrMore, OneOrMore, Optional, Separated, Terminated}
use Rattle.lrpar_grammar_typed.specs.declared.typed.Making.TheVariants.{Action}
use Rattle.lrpar_grammar_typed.specs.declared.typed.TypedGrammar.{TypedGrammar}
use Rattle.lrpar_grammar_typed.specs.declared.typed.TypedProd.{TypedProd}
use Rattle.lrpar_grammar_typed.specs.declared.typed.TypedRule.{TypedRule}
use Rattle.lrpar_grammar_typed.specs.declared.typed.TypedSymbol.{TypedSymbol}

-- the symbol of the rule with this index: rules are numbered from 1
abbrev pub rule_symbol : ℕ → Symbol ℕ
rule_symbol index = Rule (record { 0 = index + 1 })

-- the productions of the rule with this index are those of its form, if that is a list or an option
abbrev pub FitForm : {A : Type 0} → ℕ → Form → Vec TypedProd A → Type 0
FitForm index form prods = form ≢ Written → form ≢ Group → AreProdsOf (rule_symbol index) form prods

-- each list and each option has the productions of its form
abbrev pub HaveProdsOfForms : List TypedRule → Type 0
HaveProdsOfForms rules = (index : ℕ) (rule : TypedRule) → slice_get rules index ≡ Some rule → FitForm index rule.form rule.prods

-- the names of the rules, in order
abbrev pub rule_names : TypedGrammar → List (List ℕ)
rule_names g = map (λ r. string_bytes r.name) g.rules.items

-- the names of the tokens, in order
abbrev pub token_names : TypedGrammar → List (List ℕ)
token_names g = map (λ t. string_bytes t.name) g.tokens.items

-- no two of the names are the same
abbrev pub AreDistinct : List (List ℕ) → Type 0
AreDistinct names = (i j : ℕ) (name : List ℕ) → slice_get names i ≡ Some name → slice_get names j ≡ Some name → i ≡ j

-- no token has the name of a written rule
abbrev pub AreApart : TypedGrammar → Type 0
AreApart g = (index : ℕ) (rule : TypedRule) → slice_get g.rules.items index ≡ Some rule → rule.form ≡ Written
    → (number : ℕ) → slice_get (token_names g) number ≢ Some (string_bytes rule.name)

-- the symbol is the rule or the token that is meant: one of that name, and a token if the name is in quotes
pub data IsMeant (text : List ℕ) (g : TypedGrammar) (mention : Mention) : Symbol ℕ → Type 0 where
  IsRuleMeant : (index : ℕ) (name : List ℕ) → mention.is_quoted ≡ false → IsWordAt text mention.name name → slice_get (rule_names g) index ≡ Some name
      → IsMeant text g mention (rule_symbol index)
  IsTokenMeant : (number : ℕ) (name : List ℕ) → IsWordAt text mention.name name → slice_get (token_names g) number ≡ Some name
      → IsMeant text g mention (Token (record { 0 = number }))

-- the symbol is a rule of this form
abbrev pub IsOfForm : TypedGrammar → Form → Symbol ℕ → Type 0
IsOfForm g form symbol = (index : ℕ) × (rule : TypedRule) × (symbol ≡ rule_symbol index) × (slice_get g.rules.items index ≡ Some rule) × (rule.form ≡ form)

-- the second symbol is the list or the option of the first one
abbrev pub IsRepeated : List ℕ → TypedGrammar → Symbol ℕ → Repeat → Symbol ℕ → Type 0
IsRepeated text g x repeat.ZeroOrMore y = IsOfForm g (ZeroOrMore x) y
IsRepeated text g x repeat.OneOrMore y = IsOfForm g (OneOrMore x) y
IsRepeated text g x repeat.Optional y = IsOfForm g (Optional x) y
IsRepeated text g x (repeat.Separated mention) y = (s : Symbol ℕ) × IsMeant text g mention s × IsOfForm g (Separated x s) y
IsRepeated text g x (repeat.Terminated mention) y =
    (s : Symbol ℕ) × (list : Symbol ℕ) × IsMeant text g mention s × IsOfForm g (Separated x s) list × IsOfForm g (Terminated list s) y

-- the second symbol is what the repeats make of the first one, from the inside out
abbrev pub AreRepeated : List ℕ → TypedGrammar → Symbol ℕ → List Repeat → Symbol ℕ → Type 0
AreRepeated text g x [] y = x ≡ y
AreRepeated text g x (r ∷ rs) y = (z : Symbol ℕ) × IsRepeated text g x r z × AreRepeated text g z rs y

mutual
  -- the symbol is that of the item
  pub data IsItemSymbol (text : List ℕ) (g : TypedGrammar) : Item → Symbol ℕ → Type 0 where
    IsItem : (item : Item) (x y : Symbol ℕ) → IsAtom text g (out-Item item).atom x → AreRepeated text g x (out-Item item).repeats.items y → IsItemSymbol text g item y

  -- the symbol is the one that is meant, or a group with the productions of the alternatives
  pub data IsAtom (text : List ℕ) (g : TypedGrammar) : Atom → Symbol ℕ → Type 0 where
    IsSymbol : (mention : Mention) (x : Symbol ℕ) → IsMeant text g mention x → IsAtom text g (atom.Symbol mention) x
    IsGroup : (alternatives : Vec Alternative _) (index : ℕ) (rule : TypedRule) → slice_get g.rules.items index ≡ Some rule → rule.form ≡ Group
        → AreAlternatives text g alternatives.items rule.prods.items → IsAtom text g (atom.Group alternatives) (rule_symbol index)

  -- the productions are the alternatives, in order
  pub data AreAlternatives (text : List ℕ) (g : TypedGrammar) : List Alternative → List TypedProd → Type 0 where
    NoAlternative : AreAlternatives text g [] []
    MoreAlternatives : (a : Alternative) (others : List Alternative) (prod : TypedProd) (prods : List TypedProd)
        → prod.making ≡ Action (out-Alternative a).label → prod.span ≡ (out-Alternative a).span
        → AreParts text g (out-Alternative a).parts.items prod.symbols.items
        → AreAlternatives text g others prods → AreAlternatives text g (a ∷ others) (prod ∷ prods)

  -- the symbols are those of the parts, in order
  pub data AreParts (text : List ℕ) (g : TypedGrammar) : List Part → List TypedSymbol → Type 0 where
    NoPart : AreParts text g [] []
    MoreParts : (part : Part) (parts : List Part) (symbol : TypedSymbol) (symbols : List TypedSymbol)
        → symbol.name ≡ (out-Part part).name → symbol.span ≡ (out-Item (out-Part part).item).span
        → IsItemSymbol text g (out-Part part).item symbol.symbol
        → AreParts text g parts symbols → AreParts text g (part ∷ parts) (symbol ∷ symbols)

-- a written rule has the name at the place
abbrev pub IsDefined : List ℕ → TypedGrammar → Extent → Type 0
IsDefined text g name =
    (index : ℕ) × (rule : TypedRule) × (slice_get g.rules.items index ≡ Some rule) × (rule.form ≡ Written) × IsWordAt text name (string_bytes rule.name)

-- the first rule has the name at the place
abbrev pub IsFirst : List ℕ → TypedGrammar → Extent → Type 0
IsFirst text g name = (rule : TypedRule) × (slice_get g.rules.items 0 ≡ Some rule) × IsWordAt text name (string_bytes rule.name)

-- the productions are the alternatives of each definition of this name, one definition after the other
pub data AreDefined (text : List ℕ) (g : TypedGrammar) (name : List ℕ) : List Definition → List TypedProd → Type 0 where
  NoDefinition : AreDefined text g name [] []
  ItsDefinition : (d : Definition) (others : List Definition) (front rest : List TypedProd) → IsWordAt text d.name name
      → AreAlternatives text g d.alternatives.items front → AreDefined text g name others rest → AreDefined text g name (d ∷ others) (front ++ rest)
  OtherDefinition : (d : Definition) (others : List Definition) (prods : List TypedProd) → ¬ IsWordAt text d.name name → AreDefined text g name others prods
      → AreDefined text g name (d ∷ others) prods

-- each definition is of a written rule, the first one of the first rule, and the productions of each written rule are what its definitions mean
pub record IsExpansionOf (text : List ℕ) (definitions : List Definition) (g : TypedGrammar) : Type 0 where
  pub defined : (k : ℕ) (d : Definition) → slice_get definitions k ≡ Some d → IsDefined text g d.name
  pub first : (d : Definition) → slice_get definitions 0 ≡ Some d → IsFirst text g d.name
  pub written : (index : ℕ) (rule : TypedRule) → slice_get g.rules.items index ≡ Some rule → rule.form ≡ Written
      → AreDefined text g (string_bytes rule.name) definitions rule.prods.items

-- the start rule so far, after one declaration more
abbrev pub start_after : Option Extent → Declaration → Option Extent
start_after start (Start rule) = Some rule
start_after start _ = start

-- the place of the name of the start rule, if it is declared
abbrev pub declared_start : List Declaration → Option Extent
declared_start declarations = fold start_after None declarations

-- this is the start rule: the one whose name is at the place, or the first rule
abbrev pub IsStart : List ℕ → Option Extent → List (List ℕ) → RIdx ℕ → Type 0
IsStart text None names start = start.0 ≡ 1
IsStart text (Some span) names start = (index : ℕ) × (name : List ℕ) × IsWordAt text span name × (slice_get names index ≡ Some name) × (start.0 ≡ index + 1)
