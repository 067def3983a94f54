-- The grammar of a `.y` file: that of its erasure; and the faults of the file.
use Rattle.std.specs.Prelude.{◌≡◌, ◌++◌, not, nat_lt, ℕ, List, Vec, map, Option, Some, None, option_map, bytes_eq, if◌then◌else◌}
use Rattle.std.specs.List.{find, flat_map, list_any}
use Rattle.std.specs.Option.{is_some}
use Rattle.std.specs.BTreeMap.{BTreeMap, get_by}
use Rattle.std.specs.Borrow.{Bor}
use Rattle.std.specs.Cmp.Lexicographic.{slice_cmp}
use Rattle.std.specs.Ordering.{nat_cmp}
use Rattle.lrpar_grammar_places.specs.Span.{Extent}
use Rattle.lrpar_grammar_words.specs.declared.words.Word.{Word}
use Rattle.lrpar_grammar_words.specs.Words.{PlacedWord, placed}
use Rattle.lrpar_grammar_yacc.specs.declared.file.YaccFileFault.{YaccFileFault}
use Rattle.lrpar_grammar_yacc.specs.declared.file.YaccFileFault.TheVariants.{Declared, Text, UnknownToken, Memory}
use Rattle.lrpar_grammar_yacc.specs.declared.faults.YaccFault.{YaccFault}
use Rattle.lrpar_grammar_yacc.specs.declared.faults.YaccFault.TheVariants.{Memory as YaccMemory}
use Rattle.lrpar_grammar_yacc.specs.declared.declarations.Declarations.{Declarations}
use Rattle.lrpar_grammar_yacc.specs.declared.declarations.Level.{Level}
use Rattle.lrpar_grammar_yacc.specs.declared.declarations.Prec.{Prec}
use Rattle.lrpar_grammar_yacc.specs.declared.parts.YaccKind.{YaccKind}
use Rattle.lrpar_grammar_yacc.specs.Declares.{TextDeclarations, TextLevel, declarations, declarations_of, level_of, prec_of}
use Rattle.lrpar_grammar_yacc.specs.Erasure.{erasure}
use Rattle.lrpar_grammar_yacc.specs.Faults.{first_fault}
use Rattle.lrpar_grammar_reader.specs.declared.parts.GrammarFault.{GrammarFault}
use Rattle.lrpar_grammar_reader.specs.declared.parts.GrammarFault.TheVariants.{Memory as GrammarMemory}
use Rattle.lrpar_grammar_reader.specs.Grammar.{Grammar}
use Rattle.lrpar_grammar_reader.specs.Spells.{IsGrammarFaultOf, Spells}
use Rattle.lrpar_grammar.specs.Stored.{texts_in}

-- the names of all tokens
abbrev pub token_names : Grammar → List (List ℕ)
token_names g = map (λ t. t.name) g.tokens

-- the names with a precedence
abbrev pub level_names : List TextLevel → List (List ℕ)
level_names levels = flat_map (λ x. map (λ w. w.name) x.names) levels

-- the first word whose name isn't among these
abbrev pub unknown_among : List (List ℕ) → List PlacedWord → Option Extent
unknown_among names words = option_map (λ (w : PlacedWord). w.span) (find (λ (w : PlacedWord). not (list_any (bytes_eq w.name) names)) words)

-- the first name after `%prec` that is no token and has no precedence
abbrev pub unknown_prec : Grammar → TextDeclarations → Option Extent
unknown_prec g d = unknown_among (token_names g ++ level_names d.levels) (map (λ x. x.name) d.precs)

-- the first name after `%avoid_insert` that is no token
abbrev pub unknown_avoided : Grammar → TextDeclarations → Option Extent
unknown_avoided g d = unknown_among (token_names g) d.avoided

-- of two places the first
abbrev pub first_of : Option Extent → Option Extent → Option Extent
first_of None b = b
first_of (Some a) None = Some a
first_of (Some a) (Some b) = if nat_lt b.start a.start then Some b else Some a

-- the first name for which a file declares something, and which the grammar doesn't know
abbrev pub unknown_token : Grammar → TextDeclarations → Option Extent
unknown_token g d = first_of (unknown_prec g d) (unknown_avoided g d)

-- g is the grammar of the file, which has no fault
pub record IsFileOf (kind : YaccKind) (text : List ℕ) (g : Grammar) : Type 0 where
  pub sound : first_fault kind text ≡ None
  pub spelled : Spells (erasure kind text) g
  pub known : unknown_token g (declarations kind text) ≡ None

-- the file has no fault, but its erasure has this one
pub record HasTextFault (limit : ℕ) (kind : YaccKind) (text : List ℕ) (fault : GrammarFault) : Type 0 where
  pub sound : first_fault kind text ≡ None
  pub fault_is : IsGrammarFaultOf limit (erasure kind text) fault

-- the name at this place is the first that the grammar of the file doesn't know
pub record HasUnknownToken (kind : YaccKind) (text : List ℕ) (span : Extent) : Type 0 where
  pub grammar : Grammar
  pub sound : first_fault kind text ≡ None
  pub spelled : Spells (erasure kind text) grammar
  pub unknown : unknown_token grammar (declarations kind text) ≡ Some span

-- a fault of what a grammar text doesn't have, as a fault of the file
abbrev pub of_declared : YaccFault → YaccFileFault
of_declared YaccMemory = Memory
of_declared fault = Declared fault

-- a fault of the erasure, as a fault of the file
abbrev pub of_text : GrammarFault → YaccFileFault
of_text GrammarMemory = Memory
of_text fault = Text fault

-- why there is no grammar: the first fault of the file; else the fault of its erasure; else the first unknown name. Or an
-- allocation failed, which no other variant says.
abbrev pub IsFileFault : ℕ → YaccKind → List ℕ → YaccFileFault → Type 0
IsFileFault limit kind text (Declared fault) = first_fault kind text ≡ Some fault
IsFileFault limit kind text (Text GrammarMemory) = ⊥
IsFileFault limit kind text (Text fault) = HasTextFault limit kind text fault
IsFileFault limit kind text (UnknownToken span) = HasUnknownToken kind text span
IsFileFault limit kind text Memory = Unit {0}

-- the map has these names
abbrev pub AreNames : BTreeMap (Bor (List ℕ)) (Unit {0}) → List (List ℕ) → Type 0
AreNames known names = (q : List ℕ) → is_some (get_by (λ k. slice_cmp nat_cmp q k.now) known) ≡ list_any (bytes_eq q) names

-- this is the first name that the declarations have and the grammar doesn't know, if there is one
abbrev pub IsUnknownToken : Grammar → Declarations → Option Extent → Type 0
IsUnknownToken g declared found = found ≡ unknown_token g (declarations_of declared)

-- these are the names of all tokens
abbrev pub AreTokenNames : {A : Type 0} → Grammar → Vec (Bor (List ℕ)) A → Type 0
AreTokenNames g names = texts_in names.items ≡ token_names g

-- the names of the levels were appended
abbrev pub AppendsLevels : {A : Type 0} → Vec (Bor (List ℕ)) A → Vec (Bor (List ℕ)) A → List Level → Type 0
AppendsLevels old new levels = texts_in new.items ≡ texts_in old.items ++ level_names (map level_of levels)

-- the names of the words were appended
abbrev pub AppendsNames : {A : Type 0} → Vec (Bor (List ℕ)) A → Vec (Bor (List ℕ)) A → List Word → Type 0
AppendsNames old new words = texts_in new.items ≡ texts_in old.items ++ map (λ w. w.name) (map placed words)

-- these are the names that the productions have their precedence from
abbrev pub ArePrecWords : {A : Type 0} → List Prec → Vec Word A → Type 0
ArePrecWords precs words = map placed words.items ≡ map (λ x. x.name) (map prec_of precs)

-- the map has these names
abbrev pub HasNames : List (Bor (List ℕ)) → BTreeMap (Bor (List ℕ)) (Unit {0}) → Type 0
HasNames names known = AreNames known (texts_in names)

-- if the map has some names, this is the first word whose name isn't among them, if there is one
abbrev pub FindsUnknownName : BTreeMap (Bor (List ℕ)) (Unit {0}) → List Word → Option Extent → Type 0
FindsUnknownName known words found = (names : List (List ℕ)) → AreNames known names → found ≡ unknown_among names (map placed words)
