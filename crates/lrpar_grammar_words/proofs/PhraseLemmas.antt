-- The words of a grammar text have the outline of its declarations and rules.
use Rattle.std.proofs.Common.{◌≡◌, ◌-◌, ◌+◌, ◌⊎◌, true, List, [], ◌∷◌, ◌++◌, append_assoc, fold, length, Option, Some, None, option_and_then, inl, inr, refl, ap, sym, subst, ◌∙◌, arith}
use Rattle.std.specs.List.{All, flat_map, slice_get}
use Rattle.std.specs.Option.{IfSome, option_to_list}
use Rattle.std.proofs.lemmas.List.{append-nil, get_or_at, length-append}
use Rattle.std.proofs.lemmas.List.Concat.{flat_map_single}
use Rattle.std.proofs.lemmas.List.Elements.{All-head, All-tail}
use Rattle.std.proofs.lemmas.Option.{slice_get-get_or}
use Rattle.lrpar_grammar_words.specs.declared.words.WordKind.{WordKind}
use Rattle.lrpar_grammar_words.specs.declared.words.WordKind.TheVariants.{Name, Quoted, StartSign, TokenSign, EppSign, RulesSign, Bar, Semicolon}
use Rattle.lrpar_grammar_words.specs.declared.word_order.Expected.{Expected}
use Rattle.lrpar_grammar_words.specs.declared.word_order.Expected.TheVariants.{Declaration, StartName, FirstToken, MoreTokens, EppName, EppText, NextRule, RuleColon, NextSymbol, TextEnd}
use Rattle.lrpar_grammar_words.specs.declared.word_order.Role.{Role}
use Rattle.lrpar_grammar_words.specs.declared.word_order.Role.TheVariants.{Sign, Start, Declared, EppOf, Epp, Defined, Symbol, AlternativeEnd}
use Rattle.lrpar_grammar_words.specs.Words.{PlacedWord}
use Rattle.lrpar_grammar_words.specs.WordOrder.{after, declaration, may_end, more_tokens, token}
use Rattle.lrpar_grammar_words.specs.Outline.{HaveOutline, TextAlternative, TextOutline, after_words, ended, no_words, with_word}
use Rattle.lrpar_grammar_words.specs.Phrases.{AreOfGrammarText, EppIs, GrammarText, IsAlternative, IsDeclaration, IsRule, IsTokenWord, StartIs, TextDeclaration, TextRule, TokensAre, alternative_words, declaration_words, declared_of, epp_of, grammar_outline, grammar_words, printed_of, rule_words, start_of}
use Rattle.lrpar_grammar_words.proofs.OutlineLemmas.{after_words_append, ended_is}

-- from what is allowed next and an outline, the words lead to what is allowed after them and their outline
abbrev Leads : Expected → TextOutline → List PlacedWord → Expected → TextOutline → Type 0
Leads e o ws f p = after_words e o ws ≡ Some (f, p)

-- words followed by other words
leads_on : (e : Expected) (o : TextOutline) (xs : List PlacedWord) (f : Expected) (p : TextOutline) (ys : List PlacedWord) (g : Expected) (q : TextOutline)
    → Leads e o xs f p → Leads f p ys g q → Leads e o (xs ++ ys) g q
leads_on e o xs f p ys g q first second =
    after_words_append e o xs ys ∙ ap (option_and_then (λ (step : Expected × TextOutline). after_words step.0 step.1 ys)) first ∙ second

-- one word before other words
leads_by : (e : Expected) (o : TextOutline) (w : PlacedWord) (role : Role) (f : Expected) (ws : List PlacedWord) (g : Expected) (q : TextOutline)
    → after e w.kind ≡ Some (role, f) → Leads f (with_word o role w) ws g q → Leads e o (w ∷ ws) g q
leads_by e o w role f ws g q follows rest =
    ap (option_and_then (λ (step : Role × Expected). after_words step.1 (with_word o step.0 w) ws)) follows ∙ rest

-- the role of a token
token_follows : (w : PlacedWord) (role : Role) (next : Expected) → IsTokenWord w → token w.kind role next ≡ Some (role, next)
token_follows w role next (inl is) = ap (λ kind. token kind role next) is
token_follows w role next (inr is) = ap (λ kind. token kind role next) is

-- the role of one more token of a list
more_follows : (w : PlacedWord) → IsTokenWord w → after MoreTokens w.kind ≡ Some (Declared, MoreTokens)
unfolding after
more_follows w (inl is) = ap (after MoreTokens) is
more_follows w (inr is) = ap (after MoreTokens) is

-- the role of a symbol
symbol_follows : (w : PlacedWord) → IsTokenWord w → after NextSymbol w.kind ≡ Some (Symbol, NextSymbol)
unfolding after
symbol_follows w (inl is) = ap (after NextSymbol) is
symbol_follows w (inr is) = ap (after NextSymbol) is

-- more tokens are declared
tokens_lead : (ws : List PlacedWord) (o : TextOutline) → All IsTokenWord ws → Leads MoreTokens o ws MoreTokens (record o { declared = o.declared ++ ws })
unfolding with_word
tokens_lead [] o are = ap (λ (s : List PlacedWord). Some (MoreTokens, record o { declared = s })) (sym (append-nil o.declared))
tokens_lead (w ∷ ws) o are =
    leads_by MoreTokens o w Declared MoreTokens ws MoreTokens (record o { declared = o.declared ++ (w ∷ ws) }) (more_follows w (All-head IsTokenWord w ws are))
    (tokens_lead ws (with_word o Declared w) (All-tail IsTokenWord w ws are)
    ∙ ap (λ (s : List PlacedWord). Some (MoreTokens, record o { declared = s })) (append_assoc o.declared (w ∷ []) ws))

-- symbols of an alternative are read
symbols_lead : (ws : List PlacedWord) (o : TextOutline) → All IsTokenWord ws → Leads NextSymbol o ws NextSymbol (record o { symbols = o.symbols ++ ws })
unfolding with_word
symbols_lead [] o are = ap (λ (s : List PlacedWord). Some (NextSymbol, record o { symbols = s })) (sym (append-nil o.symbols))
symbols_lead (w ∷ ws) o are =
    leads_by NextSymbol o w Symbol NextSymbol ws NextSymbol (record o { symbols = o.symbols ++ (w ∷ ws) }) (symbol_follows w (All-head IsTokenWord w ws are))
    (symbols_lead ws (with_word o Symbol w) (All-tail IsTokenWord w ws are)
    ∙ ap (λ (s : List PlacedWord). Some (NextSymbol, record o { symbols = s })) (append_assoc o.symbols (w ∷ []) ws))

-- a declaration is allowed next: at the beginning, after a declaration, and after tokens
abbrev IsOpen : Expected → Type 0
IsOpen e = (e ≡ Declaration) ⊎ (e ≡ MoreTokens)

-- what is allowed next if one more token is, other than a token
more_is : (kind : WordKind) (step : Role × Expected) → declaration kind ≡ Some step → more_tokens kind ≡ Some step
more_is Name step is = absurd (cc)
more_is Quoted step is = absurd (cc)
more_is _ step is = is

-- a sign is allowed wherever a declaration is
sign_follows : (e : Expected) (w : PlacedWord) (kind : WordKind) (step : Role × Expected) → IsOpen e → w.kind ≡ kind → declaration kind ≡ Some step
    → after e w.kind ≡ Some step
unfolding after
sign_follows e w kind step (inl at) is follows =
    subst (λ (x : Expected). after x w.kind ≡ Some step) (sym at) (ap declaration is ∙ follows)
sign_follows e w kind step (inr at) is follows =
    subst (λ (x : Expected). after x w.kind ≡ Some step) (sym at) (ap more_tokens is ∙ more_is kind step follows)

-- the outline with one more declaration
abbrev with_declaration : TextOutline → TextDeclaration → TextOutline
with_declaration o (StartIs sign name) = record o { starts = o.starts ++ name ∷ [] }
with_declaration o (TokensAre sign first others) = record o { declared = o.declared ++ (first ∷ others) }
with_declaration o (EppIs sign token printed) = record o { epps = o.epps ++ token ∷ []; epp_texts = o.epp_texts ++ printed ∷ [] }

-- a declaration is read
declaration_leads : (e : Expected) (o : TextOutline) (d : TextDeclaration) → IsOpen e → IsDeclaration d
    → (f : Expected) × IsOpen f × Leads e o (declaration_words d) f (with_declaration o d)
unfolding after with_word
declaration_leads e o (StartIs sign name) ready is = (
  Declaration,
  inl refl,
  leads_by e o sign Sign StartName (name ∷ []) Declaration (with_declaration o (StartIs sign name)) (sign_follows e sign StartSign (Sign, StartName) ready is.0 refl)
      (leads_by StartName o name Start Declaration [] Declaration (with_declaration o (StartIs sign name)) (ap (after StartName) is.1) refl),
)
declaration_leads e o (TokensAre sign first others) ready is = (
  MoreTokens,
  inr refl,
  leads_by e o sign Sign FirstToken (first ∷ others) MoreTokens (with_declaration o (TokensAre sign first others)) (sign_follows e sign TokenSign (Sign, FirstToken) ready is.0 refl)
      (leads_by FirstToken o first Declared MoreTokens others MoreTokens (with_declaration o (TokensAre sign first others)) (token_follows first Declared MoreTokens is.1)
      (tokens_lead others (with_word o Declared first) is.2
      ∙ ap (λ (s : List PlacedWord). Some (MoreTokens, record o { declared = s })) (append_assoc o.declared (first ∷ []) others))),
)
declaration_leads e o (EppIs sign named printed) ready is = (
  Declaration,
  inl refl,
  leads_by e o sign Sign EppName (named ∷ printed ∷ []) Declaration (with_declaration o (EppIs sign named printed)) (sign_follows e sign EppSign (Sign, EppName) ready is.0 refl)
      (leads_by EppName o named EppOf EppText (printed ∷ []) Declaration (with_declaration o (EppIs sign named printed)) (token_follows named EppOf EppText is.1)
      (leads_by EppText (with_word o EppOf named) printed Epp Declaration [] Declaration (with_declaration o (EppIs sign named printed)) (ap (after EppText) is.2) refl)),
)

-- declarations are read
declarations_lead : (ds : List TextDeclaration) (e : Expected) (o : TextOutline) → IsOpen e → All IsDeclaration ds
    → (f : Expected) × IsOpen f × Leads e o (flat_map declaration_words ds) f (fold with_declaration o ds)
declarations_lead [] e o ready are = (e, ready, refl)
declarations_lead (d ∷ ds) e o ready are =
    let one = declaration_leads e o d ready (All-head IsDeclaration d ds are) in
    let rest = declarations_lead ds one.0 (with_declaration o d) one.1 (All-tail IsDeclaration d ds are) in
    (rest.0, rest.1, leads_on e o (declaration_words d) one.0 (with_declaration o d) (flat_map declaration_words ds) rest.0 (fold with_declaration o (d ∷ ds)) one.2 rest.2)

-- the last rule defined so far has that name
abbrev IsLast : TextOutline → PlacedWord → Type 0
IsLast o name = slice_get o.defined (length o.defined - 1) ≡ Some name

-- the outline with one more alternative
abbrev with_alternatives : TextOutline → List TextAlternative → TextOutline
with_alternatives o xs = record o { alternatives = o.alternatives ++ xs; symbols = [] }

-- an alternative is read
alternative_leads : (name : PlacedWord) (sign : WordKind) (next : Expected) (x : TextAlternative) (o : TextOutline) → after NextSymbol sign ≡ Some (AlternativeEnd, next)
    → o.symbols ≡ [] → IsLast o name → IsAlternative name sign x → Leads NextSymbol o (alternative_words x) next (with_alternatives o (x ∷ []))
unfolding with_word
alternative_leads name sign next x o ends none last is =
    let p : TextOutline = record o { symbols = o.symbols ++ x.symbols } in
    let symbols : o.symbols ++ x.symbols ≡ x.symbols = ap (λ (s : List PlacedWord). s ++ x.symbols) none in
    let one : ended p x.end ≡ x ∷ [] =
    ended_is p x.end name last ∙ ap (λ (s : List PlacedWord). record { rule = name; symbols = s; end = x.end } ∷ []) symbols
    ∙ ap (λ (w : PlacedWord). record { rule = w; symbols = x.symbols; end = x.end } ∷ []) (sym is.of) in
    leads_on NextSymbol o x.symbols NextSymbol p (x.end ∷ []) next (with_alternatives o (x ∷ [])) (symbols_lead x.symbols o is.symbols)
    (leads_by NextSymbol p x.end AlternativeEnd next [] next (with_alternatives o (x ∷ [])) (ap (after NextSymbol) is.end ∙ ends)
    (ap (λ (xs : List TextAlternative). Some (next, record o { alternatives = o.alternatives ++ xs; symbols = [] })) one))

-- the alternatives that end with `|` are read
firsts_lead : (name : PlacedWord) (xs : List TextAlternative) (o : TextOutline) → o.symbols ≡ [] → IsLast o name → All (IsAlternative name Bar) xs
    → Leads NextSymbol o (flat_map alternative_words xs) NextSymbol (with_alternatives o xs)
unfolding after
firsts_lead name [] o none last are =
    ap (λ (xs : List TextAlternative). Some (NextSymbol, record o { alternatives = xs })) (sym (append-nil o.alternatives))
    ∙ ap (λ (s : List PlacedWord). Some (NextSymbol, record o { alternatives = o.alternatives ++ []; symbols = s })) none
firsts_lead name (x ∷ xs) o none last are =
    let p = with_alternatives o (x ∷ []) in
    leads_on NextSymbol o (alternative_words x) NextSymbol p (flat_map alternative_words xs) NextSymbol (with_alternatives o (x ∷ xs))
    (alternative_leads name Bar NextSymbol x o refl none last (All-head (IsAlternative name Bar) x xs are))
    (firsts_lead name xs p refl last (All-tail (IsAlternative name Bar) x xs are)
    ∙ ap (λ (ys : List TextAlternative). Some (NextSymbol, record o { alternatives = ys; symbols = [] })) (append_assoc o.alternatives (x ∷ []) xs))

-- the last of a list with one more
last_is : (ws : List PlacedWord) (w : PlacedWord) → slice_get (ws ++ w ∷ []) (length (ws ++ w ∷ []) - 1) ≡ Some w
last_is ws w =
    let len : length (ws ++ w ∷ []) ≡ length ws + 1 = length-append ws (w ∷ []) in
    let place : length (ws ++ w ∷ []) - 1 ≡ length ws = omega arith in
    ap (slice_get (ws ++ w ∷ [])) place ∙ slice_get-get_or (ws ++ w ∷ []) (length ws) w (omega arith)
    ∙ ap (λ (x : PlacedWord). Some x) (get_or_at ws w [] w (length ws) refl)

-- the outline with one more rule
abbrev with_rule : TextOutline → TextRule → TextOutline
with_rule o r = record o { defined = o.defined ++ r.name ∷ []; alternatives = o.alternatives ++ (r.firsts ++ r.last ∷ []); symbols = [] }

-- a rule is read
rule_leads : (o : TextOutline) (r : TextRule) → o.symbols ≡ [] → IsRule r → Leads NextRule o (rule_words r) NextRule (with_rule o r)
unfolding after with_word
rule_leads o r none is =
    let p : TextOutline = record o { defined = o.defined ++ r.name ∷ [] } in
    let q = with_alternatives p r.firsts in
    let last = last_is o.defined r.name in
    leads_by NextRule o r.name Defined RuleColon (r.colon ∷ (flat_map alternative_words r.firsts ++ alternative_words r.last)) NextRule (with_rule o r) (ap (after NextRule) is.name)
    (leads_by RuleColon p r.colon Sign NextSymbol (flat_map alternative_words r.firsts ++ alternative_words r.last) NextRule (with_rule o r) (ap (after RuleColon) is.colon)
    (leads_on NextSymbol p (flat_map alternative_words r.firsts) NextSymbol q (alternative_words r.last) NextRule (with_rule o r) (firsts_lead r.name r.firsts p none last is.firsts)
    (alternative_leads r.name Semicolon NextRule r.last q refl refl last is.last
    ∙ ap (λ (xs : List TextAlternative). Some (NextRule, record p { alternatives = xs; symbols = [] })) (append_assoc o.alternatives r.firsts (r.last ∷ [])))))

-- rules are read
rules_lead : (rs : List TextRule) (o : TextOutline) → o.symbols ≡ [] → All IsRule rs → Leads NextRule o (flat_map rule_words rs) NextRule (fold with_rule o rs)
rules_lead [] o none are = refl
rules_lead (r ∷ rs) o none are =
    leads_on NextRule o (rule_words r) NextRule (with_rule o r) (flat_map rule_words rs) NextRule (fold with_rule o (r ∷ rs))
    (rule_leads o r none (All-head IsRule r rs are)) (rules_lead rs (with_rule o r) refl (All-tail IsRule r rs are))

-- a list of an outline that each step extends
grown : {X D : Type 0} (f : TextOutline → List X) (step : TextOutline → D → TextOutline) (g : D → List X) → ((o : TextOutline) (d : D) → f (step o d) ≡ f o ++ g d)
    → (ds : List D) (o : TextOutline) → f (fold step o ds) ≡ f o ++ flat_map g ds
grown f step g each [] o = sym (append-nil (f o))
grown f step g each (d ∷ ds) o =
    grown f step g each ds (step o d) ∙ ap (λ s. s ++ flat_map g ds) (each o d) ∙ append_assoc (f o) (g d) (flat_map g ds)

-- a list of an outline that no step changes
kept : {X D : Type 0} (f : TextOutline → List X) (step : TextOutline → D → TextOutline) → ((o : TextOutline) (d : D) → f (step o d) ≡ f o)
    → (ds : List D) (o : TextOutline) → f (fold step o ds) ≡ f o
kept f step each [] o = refl
kept f step each (d ∷ ds) o = kept f step each ds (step o d) ∙ each o d

-- what each declaration adds to each list
adds_start : (o : TextOutline) (d : TextDeclaration) → (with_declaration o d).starts ≡ o.starts ++ start_of d
adds_start o (StartIs sign name) = refl
adds_start o _ = sym (append-nil o.starts)

adds_declared : (o : TextOutline) (d : TextDeclaration) → (with_declaration o d).declared ≡ o.declared ++ declared_of d
adds_declared o (TokensAre sign first others) = refl
adds_declared o _ = sym (append-nil o.declared)

adds_epp : (o : TextOutline) (d : TextDeclaration) → (with_declaration o d).epps ≡ o.epps ++ epp_of d
adds_epp o (EppIs sign named printed) = refl
adds_epp o _ = sym (append-nil o.epps)

adds_printed : (o : TextOutline) (d : TextDeclaration) → (with_declaration o d).epp_texts ≡ o.epp_texts ++ printed_of d
adds_printed o (EppIs sign named printed) = refl
adds_printed o _ = sym (append-nil o.epp_texts)

keeps_defined : (o : TextOutline) (d : TextDeclaration) → (with_declaration o d).defined ≡ o.defined
keeps_defined o (StartIs sign name) = refl
keeps_defined o _ = refl

keeps_alternatives : (o : TextOutline) (d : TextDeclaration) → (with_declaration o d).alternatives ≡ o.alternatives
keeps_alternatives o (StartIs sign name) = refl
keeps_alternatives o _ = refl

keeps_symbols : (o : TextOutline) (d : TextDeclaration) → (with_declaration o d).symbols ≡ o.symbols
keeps_symbols o (StartIs sign name) = refl
keeps_symbols o _ = refl

-- outlines of the same lists are the same
same_outline : (x y : TextOutline) → x.starts ≡ y.starts → x.declared ≡ y.declared → x.epps ≡ y.epps → x.epp_texts ≡ y.epp_texts → x.defined ≡ y.defined
    → x.alternatives ≡ y.alternatives → x.symbols ≡ y.symbols → x ≡ y
same_outline x y a b c d e f g =
    let of : TextOutline → TextOutline = λ o. record {
      starts = o.starts;
      declared = o.declared;
      epps = o.epps;
      epp_texts = o.epp_texts;
      defined = o.defined;
      alternatives = o.alternatives;
      symbols = o.symbols;
    } in
    let same : of x ≡ of y = cc in
    same

-- no symbols remain
no_symbols_left : (rs : List TextRule) (o : TextOutline) → o.symbols ≡ [] → (fold with_rule o rs).symbols ≡ []
no_symbols_left [] o none = none
no_symbols_left (r ∷ rs) o none = no_symbols_left rs (with_rule o r) refl

-- the outline of declarations and rules
read_is_listed : (t : GrammarText) → fold with_rule (fold with_declaration no_words t.declarations) t.rules ≡ grammar_outline t
read_is_listed t =
    let ds = t.declarations in
    let rs = t.rules in
    let p = fold with_declaration no_words ds in
    same_outline (fold with_rule p rs) (grammar_outline t)
    (kept (λ o. o.starts) with_rule (λ o r. refl) rs p ∙ grown (λ o. o.starts) with_declaration start_of adds_start ds no_words)
    (kept (λ o. o.declared) with_rule (λ o r. refl) rs p ∙ grown (λ o. o.declared) with_declaration declared_of adds_declared ds no_words)
    (kept (λ o. o.epps) with_rule (λ o r. refl) rs p ∙ grown (λ o. o.epps) with_declaration epp_of adds_epp ds no_words)
    (kept (λ o. o.epp_texts) with_rule (λ o r. refl) rs p ∙ grown (λ o. o.epp_texts) with_declaration printed_of adds_printed ds no_words)
    (grown (λ o. o.defined) with_rule (λ (r : TextRule). r.name ∷ []) (λ o r. refl) rs p
    ∙ ap (λ (s : List PlacedWord). s ++ flat_map (λ (r : TextRule). r.name ∷ []) rs) (kept (λ o. o.defined) with_declaration keeps_defined ds no_words)
    ∙ flat_map_single (λ (r : TextRule). r.name) rs)
    (grown (λ o. o.alternatives) with_rule (λ (r : TextRule). r.firsts ++ r.last ∷ []) (λ o r. refl) rs p
    ∙ ap (λ (s : List TextAlternative). s ++ flat_map (λ (r : TextRule). r.firsts ++ r.last ∷ []) rs) (kept (λ o. o.alternatives) with_declaration keeps_alternatives ds no_words))
    (no_symbols_left rs p (kept (λ o. o.symbols) with_declaration keeps_symbols ds no_words))

-- what is allowed after the rules is read
close_leads : (o : TextOutline) (close : Option PlacedWord) → IfSome close (λ w. w.kind ≡ RulesSign)
    → (f : Expected) × (may_end f ≡ true) × Leads NextRule o (option_to_list close) f o
unfolding after with_word
close_leads o None is = (NextRule, refl, refl)
close_leads o (Some w) is = (TextEnd, refl, leads_by NextRule o w Sign TextEnd [] TextEnd o (ap (after NextRule) is) refl)

-- the words of a grammar text have its outline
pub text_has_outline : (words : List PlacedWord) (o : TextOutline) → AreOfGrammarText words o → HaveOutline words o
unfolding with_word
text_has_outline words o are =
    let t = are.text in
    let before = declarations_lead t.declarations Declaration no_words (inl refl) are.is.declarations in
    let p = fold with_declaration no_words t.declarations in
    let q = fold with_rule p t.rules in
    let none : p.symbols ≡ [] = kept (λ o. o.symbols) with_declaration keeps_symbols t.declarations no_words in
    let further = close_leads q t.close are.is.close in
    let rest = flat_map rule_words t.rules ++ option_to_list t.close in
    let from_rules = leads_on NextRule p (flat_map rule_words t.rules) NextRule q (option_to_list t.close) further.0 q (rules_lead t.rules p none are.is.rules) further.2 in
    let from_middle = leads_by before.0 p t.middle Sign NextRule rest further.0 q
    (sign_follows before.0 t.middle RulesSign (Sign, NextRule) before.1 are.is.middle refl) from_rules in
    let whole = leads_on Declaration no_words (flat_map declaration_words t.declarations) before.0 p (t.middle ∷ rest) further.0 q before.2 from_middle in
    let listed : q ≡ o = read_is_listed t ∙ sym are.outline in
    record {
      last = further.0;
      shape = subst (λ ws. after_words Declaration no_words ws ≡ Some (further.0, o)) (sym are.are)
          (subst (λ (x : TextOutline). after_words Declaration no_words (grammar_words t) ≡ Some (further.0, x)) listed whole);
      ends = further.1;
    }
