-- The shape of a `.y` file, as a finite automaton over its words. Its start state is `Declaration`.
use Rattle.std.specs.Prelude.{Bool, true, false, Option, Some, None, option_map}
use Rattle.std.specs.Option.{option_map_or, option_or}
use Rattle.lrpar_grammar_bison.specs.declared.words.WordKind.TheVariants.{Name, Character, Text, Translated, Number, Tag, Code, Prologue, Predicate, Label, Colon, Bar, Semicolon, Equals, Sections}
use Rattle.lrpar_grammar_bison_rules.specs.declared.directives.Directive.{Directive}
use Rattle.lrpar_grammar_bison_rules.specs.declared.directives.Directive.TheVariants.{Start as StartSign, Token as TokenSign, Nonterminal as NonterminalSign, Types as TypesSign, Level as LevelSign, Properties as PropertiesSign, NamedCode as NamedCodeSign, Code as CodeSign, Params as ParamsSign, Define as DefineSign, Text as TextSign, Prefix as PrefixSign, Header as HeaderSign, Flag as FlagSign, Glr as GlrSign, DefaultPrec as DefaultPrecSign, Expect as ExpectSign, ExpectRr as ExpectRrSign, Prec as PrecSign, Empty as EmptySign, Dprec as DprecSign, Merge as MergeSign}
use Rattle.lrpar_grammar_bison_rules.specs.declared.signs.Sign.{Sign}
use Rattle.lrpar_grammar_bison_rules.specs.declared.signs.Sign.TheVariants.{Directive as DirectiveIs, RuleName, Other}
use Rattle.lrpar_grammar_bison_rules.specs.declared.word_order.Before.{Before}
use Rattle.lrpar_grammar_bison_rules.specs.declared.word_order.Before.TheVariants.{Directive as AfterDirective, Tag as AfterType, Symbol as AfterSymbol, Number as AfterNumber, All as AfterAll}
use Rattle.lrpar_grammar_bison_rules.specs.declared.word_order.Expected.{Expected}
use Rattle.lrpar_grammar_bison_rules.specs.declared.word_order.Expected.TheVariants.{Declaration, List as InList, PropertiesCode, NameOrCode, Code as CodeNext, FirstParam, MoreParams, DefineName, DefineValue, TextOrEquals, PlainText, OptionalText, ExpectNumber, ExpectRrNumber, DeclarationEnd, Rule, RuleOrAlternative, RuleColon, Symbol, SymbolOrLabel, TypedAction, PrecName, Number as NumberNext, MergeType, End}
use Rattle.lrpar_grammar_bison_rules.specs.declared.word_order.ItemKind.TheVariants.{Symbol as SymbolItem, Action, Prec, Empty}
use Rattle.lrpar_grammar_bison_rules.specs.declared.word_order.Role.{Role}
use Rattle.lrpar_grammar_bison_rules.specs.declared.word_order.Role.TheVariants.{Nothing, Start, Token, Alias, Number as NumberRole, LevelNumber, Level, LevelName, Expected as ExpectedRole, ExpectedRr, Glr, DefaultPrec, Defined, Item}
use Rattle.lrpar_grammar_bison_rules.specs.declared.word_order.Section.{Section}
use Rattle.lrpar_grammar_bison_rules.specs.declared.word_order.Section.TheVariants.{Declarations, Rules}
use Rattle.lrpar_grammar_bison_rules.specs.declared.word_order.Step.{Step}
use Rattle.lrpar_grammar_bison_rules.specs.declared.word_order.SymbolList.{SymbolList}
use Rattle.lrpar_grammar_bison_rules.specs.declared.word_order.SymbolList.TheVariants.{Starts, Tokens, Nonterminals, Types, Level as LevelList, Properties}

-- a word with that role, and what is allowed after it
abbrev pub step_to : Role → Expected → Option Step
step_to role next = Some (record { closes = false; role = role; next = next })

-- a step, with an alternative ended before it
abbrev pub closing : Option Step → Option Step
closing step = option_map (λ (x : Step). record { closes = true; role = x.role; next = x.next }) step

-- code
abbrev pub code : Sign → Expected → Option Step
code (Other Code) next = step_to Nothing next
code _ next = None

-- a name
abbrev pub name : Sign → Expected → Option Step
name (Other Name) next = step_to Nothing next
name _ next = None

-- the value of a `%define`
abbrev pub value : Sign → Option Step
value (Other Name) = step_to Nothing Declaration
value (Other Text) = step_to Nothing Declaration
value (Other Code) = step_to Nothing Declaration
value _ = None

-- a text
abbrev pub text : Sign → Role → Expected → Option Step
text (Other Text) role next = step_to role next
text _ role next = None

-- a text, perhaps after `=`
abbrev pub text_or_equals : Sign → Option Step
text_or_equals (Other Text) = step_to Nothing Declaration
text_or_equals (Other Equals) = step_to Nothing PlainText
text_or_equals _ = None

-- a number
abbrev pub number : Sign → Role → Expected → Option Step
number (Other Number) role next = step_to role next
number _ role next = None

-- a type
abbrev pub tag : Sign → Expected → Option Step
tag (Other Tag) next = step_to Nothing next
tag _ next = None

-- a name, a character or a text
abbrev pub symbol : Sign → Role → Expected → Option Step
symbol (Other Name) role next = step_to role next
symbol (Other Character) role next = step_to role next
symbol (Other Text) role next = step_to role next
symbol _ role next = None

-- what comes after a declaration
abbrev pub end_of : Section → Expected
end_of Declarations = Declaration
end_of Rules = DeclarationEnd

-- code, perhaps after a name
abbrev pub name_or_code : Section → Sign → Option Step
name_or_code section sign = option_or (name sign (CodeNext section)) (code sign (end_of section))

-- a directive before a list of symbols
abbrev pub list_of : Section → SymbolList → Role → Option Step
list_of section list role = step_to role (InList section list AfterDirective)

-- a directive that may also be among the rules
abbrev pub shared_directive : Section → Directive → Option Step
shared_directive section StartSign = list_of section Starts Nothing
shared_directive section TokenSign = list_of section Tokens Nothing
shared_directive section NonterminalSign = list_of section Nonterminals Nothing
shared_directive section TypesSign = list_of section Types Nothing
shared_directive section (LevelSign kind) = list_of section LevelList (Level kind)
shared_directive section PropertiesSign = step_to Nothing (PropertiesCode section)
shared_directive section NamedCodeSign = step_to Nothing (NameOrCode section)
shared_directive section (DefaultPrecSign is) = step_to (DefaultPrec is) (end_of section)
shared_directive section _ = None

-- a directive before the first `%%`
abbrev pub declaration_directive : Directive → Option Step
declaration_directive CodeSign = step_to Nothing (CodeNext Declarations)
declaration_directive ParamsSign = step_to Nothing FirstParam
declaration_directive DefineSign = step_to Nothing DefineName
declaration_directive TextSign = step_to Nothing PlainText
declaration_directive PrefixSign = step_to Nothing TextOrEquals
declaration_directive HeaderSign = step_to Nothing OptionalText
declaration_directive FlagSign = step_to Nothing Declaration
declaration_directive GlrSign = step_to Glr Declaration
declaration_directive ExpectSign = step_to Nothing ExpectNumber
declaration_directive ExpectRrSign = step_to Nothing ExpectRrNumber
declaration_directive d = shared_directive Declarations d

-- a declaration, or the first `%%`
abbrev pub declaration : Sign → Option Step
declaration (DirectiveIs d) = declaration_directive d
declaration (Other Prologue) = step_to Nothing Declaration
declaration (Other Semicolon) = step_to Nothing Declaration
declaration (Other Sections) = step_to Nothing Rule
declaration _ = None

-- the `;` after a declaration among the rules
abbrev pub declaration_end : Sign → Option Step
declaration_end (Other Semicolon) = step_to Nothing Rule
declaration_end _ = None

-- where a declaration may end
abbrev pub after_declaration : Section → Sign → Option Step
after_declaration Declarations sign = declaration sign
after_declaration Rules sign = declaration_end sign

-- a name or a character
abbrev pub token : Sign → Role → Option (Role × Before)
token (Other Name) role = Some (role, AfterSymbol)
token (Other Character) role = Some (role, AfterSymbol)
token _ role = None

-- a name of a rule
abbrev pub rule_name : Sign → Option (Role × Before)
rule_name (Other Name) = Some (Nothing, AfterAll)
rule_name _ = None

-- a name, a character or a text
abbrev pub any_symbol : Sign → Role → Option (Role × Before)
any_symbol (Other Name) role = Some (role, AfterAll)
any_symbol (Other Character) role = Some (role, AfterAll)
any_symbol (Other Text) role = Some (role, AfterAll)
any_symbol _ role = None

-- a type to which nothing has to belong
abbrev pub any_type : Sign → Option (Role × Before)
any_type (Other Tag) = Some (Nothing, AfterAll)
any_type _ = None

-- the type of the symbols that come next
abbrev pub symbols_type : Sign → Option (Role × Before)
symbols_type (Other Tag) = Some (Nothing, AfterType)
symbols_type _ = None

-- the type of the symbols that come next, unless a type is before it
abbrev pub type_after : Before → Sign → Option (Role × Before)
type_after AfterType sign = None
type_after _ sign = symbols_type sign

-- the number of a symbol
abbrev pub symbol_number : Sign → Role → Option (Role × Before)
symbol_number (Other Number) role = Some (role, AfterNumber)
symbol_number _ role = None

-- the number of a symbol, after the symbol
abbrev pub number_after : Before → Sign → Role → Option (Role × Before)
number_after AfterSymbol sign role = symbol_number sign role
number_after _ sign role = None

-- the text of a token
abbrev pub token_text : Sign → Option (Role × Before)
token_text (Other Text) = Some (Alias, AfterAll)
token_text (Other Translated) = Some (Alias, AfterAll)
token_text _ = None

-- the text of a token, after the token or its number
abbrev pub alias_after : Before → Sign → Option (Role × Before)
alias_after AfterSymbol sign = token_text sign
alias_after AfterNumber sign = token_text sign
alias_after _ sign = None

-- a token, its number or text, or a type
abbrev pub token_member : Before → Sign → Option (Role × Before)
token_member before sign =
    option_or (option_or (option_or (token sign Token) (type_after before sign)) (number_after before sign NumberRole)) (alias_after before sign)

-- a token of a level, its number, or a type
abbrev pub level_member : Before → Sign → Option (Role × Before)
level_member before sign =
    option_or (option_or (option_or (token sign LevelName) (any_symbol sign LevelName)) (type_after before sign)) (number_after before sign LevelNumber)

-- the role of a word of a list of symbols, and what it is to the next word
abbrev pub member : SymbolList → Before → Sign → Option (Role × Before)
member Starts before sign = any_symbol sign Start
member Tokens before sign = token_member before sign
member Nonterminals before sign = option_or (rule_name sign) (type_after before sign)
member Types before sign = option_or (any_symbol sign Nothing) (type_after before sign)
member LevelList before sign = level_member before sign
member Properties before sign = option_or (any_symbol sign Nothing) (any_type sign)

-- what may come after a list of symbols, which isn't empty
abbrev pub list_end : Section → Before → Sign → Option Step
list_end section AfterDirective sign = None
list_end section AfterType sign = None
list_end section _ sign = after_declaration section sign

-- one more word of a list of symbols, or what may come after the list
abbrev pub list_step : Section → SymbolList → Before → Sign → Option Step
list_step section list before sign =
    option_map_or (λ (x : Role × Before). step_to x.0 (InList section list x.1)) (member list before sign) (list_end section before sign)

-- a rule, a declaration, or the second `%%`
abbrev pub next_rule : Sign → Option Step
next_rule RuleName = step_to Defined RuleColon
next_rule (DirectiveIs d) = shared_directive Rules d
next_rule (Other Sections) = step_to Nothing End
next_rule _ = None

-- a rule, a declaration, the second `%%`, one more alternative of the rule before, or one more `;`
abbrev pub rule_or_alternative : Sign → Option Step
rule_or_alternative (Other Bar) = step_to Nothing Symbol
rule_or_alternative (Other Semicolon) = step_to Nothing RuleOrAlternative
rule_or_alternative sign = next_rule sign

-- the `:` of a rule, perhaps after a label
abbrev pub colon : Sign → Option Step
colon (Other Label) = step_to Nothing RuleColon
colon (Other Colon) = step_to Nothing Symbol
colon _ = None

-- a directive in an alternative
abbrev pub part_directive : Directive → Option Step
part_directive PrecSign = step_to Nothing PrecName
part_directive EmptySign = step_to (Item Empty) Symbol
part_directive DprecSign = step_to Nothing NumberNext
part_directive ExpectSign = step_to Nothing NumberNext
part_directive ExpectRrSign = step_to Nothing NumberNext
part_directive MergeSign = step_to Nothing MergeType
part_directive _ = None

-- a part of an alternative
abbrev pub part : Sign → Option Step
part (DirectiveIs d) = part_directive d
part (Other Name) = step_to (Item SymbolItem) SymbolOrLabel
part (Other Character) = step_to (Item SymbolItem) SymbolOrLabel
part (Other Text) = step_to (Item SymbolItem) SymbolOrLabel
part (Other Code) = step_to (Item Action) SymbolOrLabel
part (Other Predicate) = step_to (Item Action) Symbol
part (Other Tag) = step_to Nothing TypedAction
part _ = None

-- a part of an alternative, or what ends it
abbrev pub in_alternative : Sign → Option Step
in_alternative sign = option_or (part sign) (closing (rule_or_alternative sign))

-- the label of the symbol or action before
abbrev pub label : Sign → Option Step
label (Other Label) = step_to Nothing Symbol
label _ = None

-- the action after a type
abbrev pub action : Sign → Option Step
action (Other Code) = step_to (Item Action) SymbolOrLabel
action _ = None

-- what a word does that is such a sign; `None` if no such word is allowed here
unfoldable pub after : Expected → Sign → Option Step
after Declaration sign = declaration sign
after (InList section list before) sign = list_step section list before sign
after (PropertiesCode section) sign = code sign (InList section Properties AfterDirective)
after (NameOrCode section) sign = name_or_code section sign
after (CodeNext section) sign = code sign (end_of section)
after FirstParam sign = code sign MoreParams
after MoreParams sign = option_or (code sign MoreParams) (declaration sign)
after DefineName sign = name sign DefineValue
after DefineValue sign = option_or (value sign) (declaration sign)
after TextOrEquals sign = text_or_equals sign
after PlainText sign = text sign Nothing Declaration
after OptionalText sign = option_or (text sign Nothing Declaration) (declaration sign)
after ExpectNumber sign = number sign ExpectedRole Declaration
after ExpectRrNumber sign = number sign ExpectedRr Declaration
after DeclarationEnd sign = declaration_end sign
after Rule sign = next_rule sign
after RuleOrAlternative sign = rule_or_alternative sign
after RuleColon sign = colon sign
after Symbol sign = in_alternative sign
after SymbolOrLabel sign = option_or (label sign) (in_alternative sign)
after TypedAction sign = action sign
after PrecName sign = symbol sign (Item Prec) Symbol
after NumberNext sign = number sign Nothing Symbol
after MergeType sign = tag sign Symbol
after End sign = None

-- the file may end here: among rules, or after the second `%%`
abbrev pub may_end : Expected → Bool
may_end Rule = true
may_end RuleOrAlternative = true
may_end Symbol = true
may_end SymbolOrLabel = true
may_end End = true
may_end _ = false

-- an alternative is open here
abbrev pub is_in_alternative : Expected → Bool
is_in_alternative Symbol = true
is_in_alternative SymbolOrLabel = true
is_in_alternative _ = false
