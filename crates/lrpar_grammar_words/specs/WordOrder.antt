-- The shape of a grammar text, as a finite automaton over the kinds of its words. Its start state is `Declaration`.
use Rattle.std.specs.Prelude.{Bool, true, false, Option, Some, None}
use Rattle.lrpar_grammar_words.specs.declared.words.WordKind.{WordKind}
use Rattle.lrpar_grammar_words.specs.declared.words.WordKind.TheVariants.{Name, Quoted, StartSign, TokenSign, EppSign, RulesSign, Colon, Bar, Semicolon}
use Rattle.lrpar_grammar_words.specs.declared.word_order.Expected.{Expected}
use Rattle.lrpar_grammar_words.specs.declared.word_order.Expected.TheVariants.{Declaration, StartName, FirstToken, MoreTokens, EppName, EppText, NextRule, RuleColon, NextSymbol, TextEnd}
use Rattle.lrpar_grammar_words.specs.declared.word_order.Role.{Role}
use Rattle.lrpar_grammar_words.specs.declared.word_order.Role.TheVariants.{Sign, Start, Declared, EppOf, Epp, Defined, Symbol, AlternativeEnd}

-- a sign with which a declaration begins, or `%%`
abbrev pub declaration : WordKind → Option (Role × Expected)
declaration StartSign = Some (Sign, StartName)
declaration TokenSign = Some (Sign, FirstToken)
declaration EppSign = Some (Sign, EppName)
declaration RulesSign = Some (Sign, NextRule)
declaration _ = None

-- a name
abbrev pub named : WordKind → Role → Expected → Option (Role × Expected)
named Name role next = Some (role, next)
named _ role next = None

-- a name or a quoted word
abbrev pub token : WordKind → Role → Expected → Option (Role × Expected)
token Name role next = Some (role, next)
token Quoted role next = Some (role, next)
token _ role next = None

-- a quoted word
abbrev pub quoted : WordKind → Role → Expected → Option (Role × Expected)
quoted Quoted role next = Some (role, next)
quoted _ role next = None

-- a symbol, or the sign that ends an alternative
abbrev pub symbol : WordKind → Option (Role × Expected)
symbol Bar = Some (AlternativeEnd, NextSymbol)
symbol Semicolon = Some (AlternativeEnd, NextRule)
symbol kind = token kind Symbol NextSymbol

-- one more token, or a declaration
abbrev pub more_tokens : WordKind → Option (Role × Expected)
more_tokens Name = Some (Declared, MoreTokens)
more_tokens Quoted = Some (Declared, MoreTokens)
more_tokens kind = declaration kind

-- a rule, or the second `%%`
abbrev pub next_rule : WordKind → Option (Role × Expected)
next_rule RulesSign = Some (Sign, TextEnd)
next_rule kind = named kind Defined RuleColon

-- a colon
abbrev pub colon : WordKind → Option (Role × Expected)
colon Colon = Some (Sign, NextSymbol)
colon _ = None

-- the role of a word of that kind, and what is allowed after it; `None` if no such word is allowed here
unfoldable pub after : Expected → WordKind → Option (Role × Expected)
after Declaration kind = declaration kind
after StartName kind = named kind Start Declaration
after FirstToken kind = token kind Declared MoreTokens
after MoreTokens kind = more_tokens kind
after EppName kind = token kind EppOf EppText
after EppText kind = quoted kind Epp Declaration
after NextRule kind = next_rule kind
after RuleColon kind = colon kind
after NextSymbol kind = symbol kind
after TextEnd kind = None

-- whether the text may end here: before a rule, or after the second `%%`
abbrev pub may_end : Expected → Bool
may_end NextRule = true
may_end TextEnd = true
may_end _ = false
