-- Words that have an outline are those of a grammar text.
use Rattle.std.proofs.Common.{◌≡◌, true, List, [], ◌∷◌, ◌++◌, append_assoc, Option, Some, None, option_and_then, inl, inr, refl, ap, sym, subst, ◌∙◌}
use Rattle.std.specs.List.{All, flat_map}
use Rattle.std.specs.Option.{IfSome, option_to_list}
use Rattle.std.proofs.lemmas.List.Elements.{All-cons, All-head, All-nil, All-tail}
use Rattle.std.proofs.lemmas.Option.{same_Some}
use Rattle.lrpar_grammar_words.specs.declared.words.WordKind.{WordKind}
use Rattle.lrpar_grammar_words.specs.declared.words.WordKind.TheVariants.{Name, Quoted, StartSign, TokenSign, EppSign, RulesSign, Colon, Bar, Semicolon}
use Rattle.lrpar_grammar_words.specs.declared.word_order.Expected.{Expected}
use Rattle.lrpar_grammar_words.specs.declared.word_order.Expected.TheVariants.{Declaration, StartName, FirstToken, MoreTokens, EppName, EppText, NextRule, RuleColon, NextSymbol, TextEnd}
use Rattle.lrpar_grammar_words.specs.declared.word_order.Role.{Role}
use Rattle.lrpar_grammar_words.specs.declared.word_order.Role.TheVariants.{Sign, Start, Declared, EppOf, Epp, Defined, Symbol, AlternativeEnd}
use Rattle.lrpar_grammar_words.specs.Words.{PlacedWord}
use Rattle.lrpar_grammar_words.specs.WordOrder.{after, colon, declaration, may_end, more_tokens, named, next_rule, quoted, symbol, token}
use Rattle.lrpar_grammar_words.specs.Outline.{HaveOutline, TextAlternative, TextOutline, after_words, no_words, with_word}
use Rattle.lrpar_grammar_words.specs.Phrases.{AreOfGrammarText, EppIs, GrammarText, IsAlternative, IsDeclaration, IsGrammarText, IsRule, IsTokenWord, OutlinesAreOfTexts, StartIs, TextDeclaration, TextRule, TokensAre, alternative_words, declaration_words, grammar_outline, grammar_words, rule_words}
use Rattle.lrpar_grammar_words.proofs.PhraseLemmas.{text_has_outline}

-- the words are those of a grammar text
record AheadText (ws : List PlacedWord) : Type 0 where
  pub text : GrammarText
  pub is : IsGrammarText text
  pub words : ws ≡ grammar_words text

-- the words are further tokens of a list, and then those of a grammar text
record AheadTokens (ws : List PlacedWord) : Type 0 where
  pub more : List PlacedWord
  pub are : All IsTokenWord more
  pub text : GrammarText
  pub is : IsGrammarText text
  pub words : ws ≡ more ++ grammar_words text

-- the words are rules, and perhaps the second `%%`
record AheadRules (ws : List PlacedWord) : Type 0 where
  pub rules : List TextRule
  pub close : Option PlacedWord
  pub are : All IsRule rules
  pub closes : IfSome close (λ w. w.kind ≡ RulesSign)
  pub words : ws ≡ flat_map rule_words rules ++ option_to_list close

-- the words are alternatives of a rule, and then other rules
record AheadAlternatives (name : PlacedWord) (ws : List PlacedWord) : Type 0 where
  pub firsts : List TextAlternative
  pub last : TextAlternative
  pub rest : List PlacedWord
  pub are : All (IsAlternative name Bar) firsts
  pub is : IsAlternative name Semicolon last
  pub rules : AheadRules rest
  pub words : ws ≡ (flat_map alternative_words firsts ++ alternative_words last) ++ rest

-- the words are one word for which P holds, and words for which Q holds
record AheadWord (P : PlacedWord → Type 0) (Q : List PlacedWord → Type 0) (ws : List PlacedWord) : Type 0 where
  pub word : PlacedWord
  pub rest : List PlacedWord
  pub is : P word
  pub then : Q rest
  pub words : ws ≡ word ∷ rest

-- what the words must be if this is allowed next
abbrev Ahead : Expected → List PlacedWord → Type 0
Ahead Declaration ws = AheadText ws
Ahead StartName ws = AheadWord (λ w. w.kind ≡ Name) AheadText ws
Ahead FirstToken ws = AheadWord IsTokenWord AheadTokens ws
Ahead MoreTokens ws = AheadTokens ws
Ahead EppName ws = AheadWord IsTokenWord (AheadWord (λ w. w.kind ≡ Quoted) AheadText) ws
Ahead EppText ws = AheadWord (λ w. w.kind ≡ Quoted) AheadText ws
Ahead NextRule ws = AheadRules ws
Ahead RuleColon ws = AheadWord (λ w. w.kind ≡ Colon) (λ rest. (name : PlacedWord) → AheadAlternatives name rest) ws
Ahead NextSymbol ws = (name : PlacedWord) → AheadAlternatives name ws
Ahead TextEnd ws = ws ≡ []

-- what is ahead after one step is ahead after an equal step
ahead_next : (a b : Role × Expected) (ws : List PlacedWord) → ◌≡◌ {A = Option (Role × Expected)} (Some a) (Some b) → Ahead b.1 ws → Ahead a.1 ws
ahead_next a b ws same ahead = subst (λ (e : Expected). Ahead e ws) (sym (ap (λ (s : Role × Expected). s.1) (same_Some a b same))) ahead

-- a declaration before a text
with_front : (d : TextDeclaration) (t : GrammarText) → IsDeclaration d → IsGrammarText t → IsGrammarText (record t { declarations = d ∷ t.declarations })
with_front d t is rest = record {
  declarations = All-cons IsDeclaration d t.declarations is rest.declarations;
  middle = rest.middle;
  rules = rest.rules;
  close = rest.close;
}

-- `%start` is read
start_front : (w : PlacedWord) (ws : List PlacedWord) → w.kind ≡ StartSign → Ahead StartName ws → AheadText (w ∷ ws)
start_front w ws is a = record {
  text = record a.then.text { declarations = StartIs w a.word ∷ a.then.text.declarations };
  is = with_front (StartIs w a.word) a.then.text (is, a.is) a.then.is;
  words = ap (λ s. w ∷ s) (a.words ∙ ap (λ s. a.word ∷ s) a.then.words);
}

-- `%token` is read
token_front : (w : PlacedWord) (ws : List PlacedWord) → w.kind ≡ TokenSign → Ahead FirstToken ws → AheadText (w ∷ ws)
token_front w ws is a =
    let t = a.then.text in
    let tail = t.middle ∷ (flat_map rule_words t.rules ++ option_to_list t.close) in
    record {
      text = record t { declarations = TokensAre w a.word a.then.more ∷ t.declarations };
      is = with_front (TokensAre w a.word a.then.more) t (is, a.is, a.then.are) a.then.is;
      words = ap (λ s. w ∷ s) (a.words ∙ ap (λ s. a.word ∷ s) (a.then.words ∙ sym (append_assoc a.then.more (flat_map declaration_words t.declarations) tail)));
    }

-- `%epp` is read
epp_front : (w : PlacedWord) (ws : List PlacedWord) → w.kind ≡ EppSign → Ahead EppName ws → AheadText (w ∷ ws)
epp_front w ws is a =
    let t = a.then.then.text in
    let d = EppIs w a.word a.then.word in
    record {
      text = record t { declarations = d ∷ t.declarations };
      is = with_front d t (is, a.is, a.then.is) a.then.then.is;
      words = ap (λ s. w ∷ s) (a.words ∙ ap (λ s. a.word ∷ s) (a.then.words ∙ ap (λ s. a.then.word ∷ s) a.then.then.words));
    }

-- the first `%%` is read
middle_front : (w : PlacedWord) (ws : List PlacedWord) → w.kind ≡ RulesSign → AheadRules ws → AheadText (w ∷ ws)
middle_front w ws is a = record {
  text = record { declarations = []; middle = w; rules = a.rules; close = a.close };
  is = record { declarations = All-nil IsDeclaration; middle = is; rules = a.are; close = a.closes };
  words = ap (λ s. w ∷ s) a.words;
}

-- a sign is read, if a declaration is allowed next
declaration_front : (w : PlacedWord) (ws : List PlacedWord) (kind : WordKind) (step : Role × Expected) → w.kind ≡ kind → declaration kind ≡ Some step → Ahead step.1 ws → AheadText (w ∷ ws)
declaration_front w ws StartSign step is follows ahead = start_front w ws is (ahead_next (Sign, StartName) step ws follows ahead)
declaration_front w ws TokenSign step is follows ahead = token_front w ws is (ahead_next (Sign, FirstToken) step ws follows ahead)
declaration_front w ws EppSign step is follows ahead = epp_front w ws is (ahead_next (Sign, EppName) step ws follows ahead)
declaration_front w ws RulesSign step is follows ahead = middle_front w ws is (ahead_next (Sign, NextRule) step ws follows ahead)
declaration_front w ws _ step is follows ahead = absurd (cc)

-- a word before others
word_front : (P : PlacedWord → Type 0) (Q : List PlacedWord → Type 0) (w : PlacedWord) (ws : List PlacedWord) → P w → Q ws → AheadWord P Q (w ∷ ws)
word_front P Q w ws is then = record { word = w; rest = ws; is = is; then = then; words = refl }

-- a name is read
named_front : (Q : List PlacedWord → Type 0) (w : PlacedWord) (ws : List PlacedWord) (kind : WordKind) (role : Role) (next : Expected) (step : Role × Expected) → w.kind ≡ kind
    → named kind role next ≡ Some step → (Ahead next ws → Q ws) → Ahead step.1 ws → AheadWord (λ x. x.kind ≡ Name) Q (w ∷ ws)
named_front Q w ws Name role next step is follows then ahead = word_front (λ x. x.kind ≡ Name) Q w ws is (then (ahead_next (role, next) step ws follows ahead))
named_front Q w ws _ role next step is follows then ahead = absurd (cc)

-- a name or a quoted word is read
token_word_front : (Q : List PlacedWord → Type 0) (w : PlacedWord) (ws : List PlacedWord) (kind : WordKind) (role : Role) (next : Expected) (step : Role × Expected) → w.kind ≡ kind
    → token kind role next ≡ Some step → (Ahead next ws → Q ws) → Ahead step.1 ws → AheadWord IsTokenWord Q (w ∷ ws)
token_word_front Q w ws Name role next step is follows then ahead = word_front IsTokenWord Q w ws (inl is) (then (ahead_next (role, next) step ws follows ahead))
token_word_front Q w ws Quoted role next step is follows then ahead = word_front IsTokenWord Q w ws (inr is) (then (ahead_next (role, next) step ws follows ahead))
token_word_front Q w ws _ role next step is follows then ahead = absurd (cc)

-- a quoted word is read
quoted_front : (w : PlacedWord) (ws : List PlacedWord) (kind : WordKind) (step : Role × Expected) → w.kind ≡ kind → quoted kind Epp Declaration ≡ Some step → Ahead step.1 ws
    → AheadWord (λ x. x.kind ≡ Quoted) AheadText (w ∷ ws)
quoted_front w ws Quoted step is follows ahead = word_front (λ x. x.kind ≡ Quoted) AheadText w ws is (ahead_next (Epp, Declaration) step ws follows ahead)
quoted_front w ws _ step is follows ahead = absurd (cc)

-- one more token of a list is read
more_front : (w : PlacedWord) (ws : List PlacedWord) → IsTokenWord w → AheadTokens ws → AheadTokens (w ∷ ws)
more_front w ws is a = record {
  more = w ∷ a.more;
  are = All-cons IsTokenWord w a.more is a.are;
  text = a.text;
  is = a.is;
  words = ap (λ s. w ∷ s) a.words;
}

-- the list of tokens ends before a declaration
no_more : (ws : List PlacedWord) → AheadText ws → AheadTokens ws
no_more ws a = record { more = []; are = All-nil IsTokenWord; text = a.text; is = a.is; words = a.words }

-- a word is read, if one more token is allowed next
tokens_front : (w : PlacedWord) (ws : List PlacedWord) (kind : WordKind) (step : Role × Expected) → w.kind ≡ kind → more_tokens kind ≡ Some step → Ahead step.1 ws → AheadTokens (w ∷ ws)
tokens_front w ws Name step is follows ahead = more_front w ws (inl is) (ahead_next (Declared, MoreTokens) step ws follows ahead)
tokens_front w ws Quoted step is follows ahead = more_front w ws (inr is) (ahead_next (Declared, MoreTokens) step ws follows ahead)
tokens_front w ws kind step is follows ahead = no_more (w ∷ ws) (declaration_front w ws kind step is follows ahead)

-- a rule's name is read
rule_front : (w : PlacedWord) (ws : List PlacedWord) → w.kind ≡ Name → Ahead RuleColon ws → AheadRules (w ∷ ws)
rule_front w ws is a =
    let b = a.then w in
    let rs = b.rules in
    let r : TextRule = record { name = w; colon = a.word; firsts = b.firsts; last = b.last } in
    let front = flat_map alternative_words b.firsts ++ alternative_words b.last in
    record {
      rules = r ∷ rs.rules;
      close = rs.close;
      are = All-cons IsRule r rs.rules (record { name = is; colon = a.is; firsts = b.are; last = b.is }) rs.are;
      closes = rs.closes;
      words = ap (λ s. w ∷ s) (a.words ∙ ap (λ s. a.word ∷ s) (b.words ∙ ap (λ s. front ++ s) rs.words
          ∙ sym (append_assoc front (flat_map rule_words rs.rules) (option_to_list rs.close))));
    }

-- the second `%%` is read
close_front : (w : PlacedWord) (ws : List PlacedWord) → w.kind ≡ RulesSign → ws ≡ [] → AheadRules (w ∷ ws)
close_front w ws is end = record { rules = []; close = Some w; are = All-nil IsRule; closes = is; words = ap (λ s. w ∷ s) end }

-- a word is read, if a rule is allowed next
rules_front : (w : PlacedWord) (ws : List PlacedWord) (kind : WordKind) (step : Role × Expected) → w.kind ≡ kind → next_rule kind ≡ Some step → Ahead step.1 ws → AheadRules (w ∷ ws)
rules_front w ws RulesSign step is follows ahead = close_front w ws is (ahead_next (Sign, TextEnd) step ws follows ahead)
rules_front w ws Name step is follows ahead = rule_front w ws is (ahead_next (Defined, RuleColon) step ws follows ahead)
rules_front w ws _ step is follows ahead = absurd (cc)

-- a colon is read
colon_front : (w : PlacedWord) (ws : List PlacedWord) (kind : WordKind) (step : Role × Expected) → w.kind ≡ kind → colon kind ≡ Some step → Ahead step.1 ws → Ahead RuleColon (w ∷ ws)
colon_front w ws Colon step is follows ahead =
    word_front (λ x. x.kind ≡ Colon) (λ rest. (name : PlacedWord) → AheadAlternatives name rest) w ws is (ahead_next (Sign, NextSymbol) step ws follows ahead)
colon_front w ws _ step is follows ahead = absurd (cc)

-- an alternative with one more symbol at its start
with_symbol : (rule : PlacedWord) (sign : WordKind) (x : TextAlternative) (w : PlacedWord) → IsTokenWord w → IsAlternative rule sign x
    → IsAlternative rule sign (record x { symbols = w ∷ x.symbols })
with_symbol rule sign x w is alternative = record {
  of = alternative.of;
  symbols = All-cons IsTokenWord w x.symbols is alternative.symbols;
  end = alternative.end;
}

-- a symbol is read: it is the first symbol of the first alternative
symbol_front : (name w : PlacedWord) (ws rest : List PlacedWord) (firsts : List TextAlternative) (last : TextAlternative) → IsTokenWord w → All (IsAlternative name Bar) firsts
    → IsAlternative name Semicolon last → AheadRules rest → ws ≡ (flat_map alternative_words firsts ++ alternative_words last) ++ rest → AheadAlternatives name (w ∷ ws)
symbol_front name w ws rest [] last is are last_is rules words = record {
  firsts = [];
  last = record last { symbols = w ∷ last.symbols };
  rest = rest;
  are = are;
  is = with_symbol name Semicolon last w is last_is;
  rules = rules;
  words = ap (λ s. w ∷ s) words;
}
symbol_front name w ws rest (x ∷ xs) last is are last_is rules words =
    let y : TextAlternative = record x { symbols = w ∷ x.symbols } in
    record {
      firsts = y ∷ xs;
      last = last;
      rest = rest;
      are = All-cons (IsAlternative name Bar) y xs (with_symbol name Bar x w is (All-head (IsAlternative name Bar) x xs are)) (All-tail (IsAlternative name Bar) x xs are);
      is = last_is;
      rules = rules;
      words = ap (λ s. w ∷ s) words;
    }

-- the same for what is ahead
symbol_ahead : (w : PlacedWord) (ws : List PlacedWord) → IsTokenWord w → Ahead NextSymbol ws → Ahead NextSymbol (w ∷ ws)
symbol_ahead w ws is ahead = λ name. let a = ahead name in symbol_front name w ws a.rest a.firsts a.last is a.are a.is a.rules a.words

-- a `|` is read
bar_front : (w : PlacedWord) (ws : List PlacedWord) → w.kind ≡ Bar → Ahead NextSymbol ws → Ahead NextSymbol (w ∷ ws)
bar_front w ws is ahead = λ name.
    let a = ahead name in
    let x : TextAlternative = record { rule = name; symbols = []; end = w } in
    record {
      firsts = x ∷ a.firsts;
      last = a.last;
      rest = a.rest;
      are = All-cons (IsAlternative name Bar) x a.firsts (record { of = refl; symbols = All-nil IsTokenWord; end = is }) a.are;
      is = a.is;
      rules = a.rules;
      words = ap (λ s. w ∷ s) a.words;
    }

-- a `;` is read
semicolon_front : (w : PlacedWord) (ws : List PlacedWord) → w.kind ≡ Semicolon → AheadRules ws → Ahead NextSymbol (w ∷ ws)
semicolon_front w ws is ahead = λ name. record {
  firsts = [];
  last = record { rule = name; symbols = []; end = w };
  rest = ws;
  are = All-nil (IsAlternative name Bar);
  is = record { of = refl; symbols = All-nil IsTokenWord; end = is };
  rules = ahead;
  words = refl;
}

-- a word of an alternative is read
alternative_front : (w : PlacedWord) (ws : List PlacedWord) (kind : WordKind) (step : Role × Expected) → w.kind ≡ kind → symbol kind ≡ Some step → Ahead step.1 ws → Ahead NextSymbol (w ∷ ws)
alternative_front w ws Bar step is follows ahead = bar_front w ws is (ahead_next (AlternativeEnd, NextSymbol) step ws follows ahead)
alternative_front w ws Semicolon step is follows ahead = semicolon_front w ws is (ahead_next (AlternativeEnd, NextRule) step ws follows ahead)
alternative_front w ws Name step is follows ahead = symbol_ahead w ws (inl is) (ahead_next (Symbol, NextSymbol) step ws follows ahead)
alternative_front w ws Quoted step is follows ahead = symbol_ahead w ws (inr is) (ahead_next (Symbol, NextSymbol) step ws follows ahead)
alternative_front w ws _ step is follows ahead = absurd (cc)

-- a word is read
ahead_front : (e : Expected) (w : PlacedWord) (ws : List PlacedWord) (step : Role × Expected) → after e w.kind ≡ Some step → Ahead step.1 ws → Ahead e (w ∷ ws)
unfolding after
ahead_front Declaration w ws step follows ahead = declaration_front w ws w.kind step refl follows ahead
ahead_front StartName w ws step follows ahead = named_front AheadText w ws w.kind Start Declaration step refl follows (λ a. a) ahead
ahead_front FirstToken w ws step follows ahead = token_word_front AheadTokens w ws w.kind Declared MoreTokens step refl follows (λ a. a) ahead
ahead_front MoreTokens w ws step follows ahead = tokens_front w ws w.kind step refl follows ahead
ahead_front EppName w ws step follows ahead = token_word_front (AheadWord (λ x. x.kind ≡ Quoted) AheadText) w ws w.kind EppOf EppText step refl follows (λ a. a) ahead
ahead_front EppText w ws step follows ahead = quoted_front w ws w.kind step refl follows ahead
ahead_front NextRule w ws step follows ahead = rules_front w ws w.kind step refl follows ahead
ahead_front RuleColon w ws step follows ahead = colon_front w ws w.kind step refl follows ahead
ahead_front NextSymbol w ws step follows ahead = alternative_front w ws w.kind step refl follows ahead
ahead_front TextEnd w ws step follows ahead = absurd (cc)

-- no words are ahead, if the text may end
ahead_none : (e : Expected) → may_end e ≡ true → Ahead e []
ahead_none NextRule ends = record { rules = []; close = None; are = All-nil IsRule; closes = tt; words = refl }
ahead_none TextEnd ends = refl
ahead_none _ ends = absurd (cc)

-- a word is read, by the step that it takes
ahead_by : (e : Expected) (o : TextOutline) (w : PlacedWord) (ws : List PlacedWord) (f : Expected) (p : TextOutline) (r : Option (Role × Expected)) → after e w.kind ≡ r
    → option_and_then (λ (step : Role × Expected). after_words step.1 (with_word o step.0 w) ws) r ≡ Some (f, p)
    → ((g : Expected) (q : TextOutline) → after_words g q ws ≡ Some (f, p) → Ahead g ws) → Ahead e (w ∷ ws)
ahead_by e o w ws f p None is leads rest = absurd (cc)
ahead_by e o w ws f p (Some step) is leads rest = ahead_front e w ws step is (rest step.1 (with_word o step.0 w) leads)

-- words that lead to where the text may end are as they must be
ahead_of : (ws : List PlacedWord) (e : Expected) (o : TextOutline) (f : Expected) (p : TextOutline) → after_words e o ws ≡ Some (f, p) → may_end f ≡ true → Ahead e ws
ahead_of [] e o f p leads ends =
    let same : e ≡ f = ap (λ (s : Expected × TextOutline). s.0) (same_Some (e, o) (f, p) leads) in
    ahead_none e (ap may_end same ∙ ends)
ahead_of (w ∷ ws) e o f p leads ends =
    ahead_by e o w ws f p (after e w.kind) refl leads (λ g q on. ahead_of ws g q f p on ends)

-- the words of an outline are those of a grammar text with that outline
outline_has_text : (words : List PlacedWord) (o : TextOutline) → HaveOutline words o → AreOfGrammarText words o
outline_has_text words o have =
    let a : AheadText words = ahead_of words Declaration no_words have.last o have.shape have.ends in
    let listed = text_has_outline words (grammar_outline a.text) (record { text = a.text; is = a.is; are = a.words; outline = refl }) in
    let same : o ≡ grammar_outline a.text =
    ap (λ (s : Expected × TextOutline). s.1) (same_Some (have.last, o) (listed.last, grammar_outline a.text) (sym have.shape ∙ listed.shape)) in
    record { text = a.text; is = a.is; are = a.words; outline = same }

-- words have an outline if and only if they are those of a grammar text with that outline
pub outlines_are_of_texts : OutlinesAreOfTexts
outlines_are_of_texts words o = (outline_has_text words o, text_has_outline words o)
