-- The names that lines give.
use Rattle.std.proofs.Common.{◌≡◌, ◌≢◌, ℕ, ◌+◌, ◌-◌, ◌<◌, ◌≤◌, ◌==◌, ◌||◌, ◌↔◌, ◌⊎◌, nat_lt, Bool, cond, true, false, Option, None, Some, Result, Ok, Err, List, [], ◌∷◌, get_or, is_some, length, replicate, inl, inr, refl, sym, subst, ◌∙◌, ap, arith, length-set, get_or-set_other, get_or-set_same}
use Rattle.std.specs.List.{Contains, find, position, position_or_len, range_with_len}
use Rattle.std.proofs.lemmas.Bool.{cases_Bool, cases_eq, cases_lt, cond-false, cond-true, false≢true}
use Rattle.std.proofs.lemmas.Bool.Decides.{nat_tests}
use Rattle.std.proofs.lemmas.List.{get_or-replicate, get_or_past, length-replicate}
use Rattle.std.proofs.lemmas.List.FromFn.{get_or-range_with_len, length-range_with_len}
use Rattle.lrpar_grammar.specs.Grammar.{Grammar, GrammarSymbol, Nonterminal, Terminal, rules_len, tokens_len}
use Rattle.lrpar_names.specs.declared.fault.NamesFault.{NamesFault}
use Rattle.lrpar_names.specs.declared.fault.NamesFault.TheVariants.{Empty, Repeated}
use Rattle.lrpar_names.specs.Entries.{Entry, entry_of}
use Rattle.lrpar_names.specs.Faults.{◌>>=◌}
use Rattle.lrpar_names.specs.Laws.{GivesName, IsNamedBy, lines_before_end}
use Rattle.lrpar_names.specs.Messages.{add_line, add_lines, add_words, is_end_sign, read_names, rule_named, rule_or_token, symbol_named, token_named}
use Rattle.lrpar_names.specs.Names.{NameLists, no_names, slot_at, with_words, words_of}
use Rattle.lrpar_names.specs.Parts.{Part, is_comment, pieces, span_of, trimmed, whole}
use Rattle.lrpar_names.proofs.ListLemmas.{member_cases, member_later}

-- the names have a slot for each rule and each token
record Fit (g : Grammar) (names : NameLists) : Type 0 where
  rules : length names.rules ≡ rules_len g
  tokens : length names.tokens ≡ tokens_len g

-- there is such a rule or token
abbrev IsIn : Grammar → GrammarSymbol → Type 0
IsIn g (Nonterminal r) = r < rules_len g
IsIn g (Terminal t) = t < tokens_len g

-- what a search finds is in the list
found_member : (test : ℕ → Bool) (xs : List ℕ) (x : ℕ) → find test xs ≡ Some x → Contains xs x
found_member test [] x is = let clash : None ≡ Some x = is in cc
found_member test (y ∷ ys) x is = elim (cases_Bool (test y)) [
  | inl passes ↦
      let same : Some y ≡ Some x = sym (cond-true (test y) (Some y) (find test ys) passes) ∙ is in
      let here : y ≡ x = cc in
      (0, omega arith, here)
  | inr fails ↦ member_later y ys x (found_member test ys x (sym (cond-false (test y) (Some y) (find test ys) fails) ∙ is))
]

found_within : (test : ℕ → Bool) (n r : ℕ) → find test (range_with_len 1 (n - 1)) ≡ Some r → r < n
found_within test n r is =
    let there = found_member test (range_with_len 1 (n - 1)) r is in
    let long : length (range_with_len 1 (n - 1)) ≡ n - 1 = length-range_with_len 1 (n - 1) in
    let at : get_or (range_with_len 1 (n - 1)) there.0 r ≡ 1 + there.0 = get_or-range_with_len 1 (n - 1) there.0 r (omega (arith, there.1)) in
    omega (arith, there.1, there.2)

position_within : {X : Type 0} (test : X → Bool) (xs : List X) (t : ℕ) → position test xs ≡ Some t → t < length xs
position_within test xs t is =
    let at : ℕ = position_or_len test xs in
    elim (cases_Bool (nat_lt at (length xs))) [
      | inl some ↦
          let same : Some at ≡ Some t = sym (cond-true (nat_lt at (length xs)) (Some at) None some) ∙ is in
          let here : at ≡ t = cc in
          let less : at < length xs = grind (arith, nat_tests, some) in
          omega arith
      | inr none ↦ let clash : None ≡ Some t = sym (cond-false (nat_lt at (length xs)) (Some at) None none) ∙ is in cc
    ]

-- a symbol that is found by its name is one of the grammar
named_in : (g : Grammar) (name : List ℕ) (symbol : GrammarSymbol) (rule token : Option ℕ) → rule_named g name ≡ rule → token_named g name ≡ token
    → rule_or_token rule token ≡ Some symbol → IsIn g symbol
named_in g name symbol (Some r) token by_rule by_token is =
    let same : Nonterminal r ≡ symbol = cc in subst (IsIn g) same (found_within _ (rules_len g) r by_rule)
named_in g name symbol None (Some t) by_rule by_token is =
    let within : t < length g.tokens = position_within _ g.tokens t by_token in
    let less : t < tokens_len g = omega arith in
    let same : Terminal t ≡ symbol = cc in subst (IsIn g) same less
named_in g name symbol None None by_rule by_token is = let clash : None ≡ Some symbol = is in cc

-- two symbols are one or not
symbol_cases : (a b : GrammarSymbol) → (a ≡ b) ⊎ (a ≢ b)
symbol_cases (Nonterminal r) (Nonterminal q) = elim (cases_eq r q) [
  | inl same ↦ inl (ap Nonterminal same)
  | inr other ↦ inr (λ is. other (cc))
]
symbol_cases (Nonterminal r) (Terminal t) = inr (λ is. cc)
symbol_cases (Terminal t) (Nonterminal r) = inr (λ is. cc)
symbol_cases (Terminal t) (Terminal u) = elim (cases_eq t u) [
  | inl same ↦ inl (ap Terminal same)
  | inr other ↦ inr (λ is. other (cc))
]

-- the named symbol has its name
words_same : (g : Grammar) (names : NameLists) (symbol : GrammarSymbol) (words : List ℕ) → Fit g names → IsIn g symbol
    → words_of (with_words names symbol words) symbol ≡ Some words
words_same g names (Nonterminal r) words fit within = get_or-set_same names.rules r (Some words) None (omega (arith, fit.rules))
words_same g names (Terminal t) words fit within = get_or-set_same names.tokens t (Some words) None (omega (arith, fit.tokens))

-- the others have theirs
words_other : (names : NameLists) (symbol other : GrammarSymbol) (words : List ℕ) → other ≢ symbol
    → words_of (with_words names symbol words) other ≡ words_of names other
words_other names (Nonterminal r) (Nonterminal q) words apart = get_or-set_other names.rules r q (Some words) None (λ same. apart (ap Nonterminal same))
words_other names (Nonterminal r) (Terminal t) words apart = refl
words_other names (Terminal t) (Nonterminal r) words apart = refl
words_other names (Terminal t) (Terminal u) words apart = get_or-set_other names.tokens t u (Some words) None (λ same. apart (ap Terminal same))

fit_with : (g : Grammar) (names : NameLists) (symbol : GrammarSymbol) (words : List ℕ) → Fit g names → Fit g (with_words names symbol words)
fit_with g names (Nonterminal r) words fit = record { rules = length-set names.rules r (Some words) ∙ fit.rules; tokens = fit.tokens }
fit_with g names (Terminal t) words fit = record { rules = fit.rules; tokens = length-set names.tokens t (Some words) ∙ fit.tokens }

-- what a line adds: the name that it gives
record AddsName (g : Grammar) (line : Part) (old new : NameLists) : Type 0 where
  fits : Fit g new
  exact : (symbol : GrammarSymbol) (words : List ℕ)
      → (words_of new symbol ≡ Some words) ↔ ((words_of old symbol ≡ Some words) ⊎ GivesName g line symbol words)

-- a line that gives no name
adds_none : (g : Grammar) (line : Part) (old new : NameLists) → Fit g old → new ≡ old → (length line.bytes == 0 || is_comment line) ≡ true
    → AddsName g line old new
adds_none g line old new fit same empty = record {
  fits = subst (Fit g) (sym same) fit;
  exact = λ symbol words. (
    λ is. inl (ap (λ names. words_of names symbol) (sym same) ∙ is),
    λ either. elim either [
      | inl was ↦ ap (λ names. words_of names symbol) same ∙ was
      | inr gives ↦ absurd (false≢true (sym gives.some ∙ empty))
    ],
  );
}

-- a line that gives this name
module _ (g : Grammar) (line : Part) (entry : Entry) (old new : NameLists) (named : GrammarSymbol) (fit : Fit g old)
    (some : (length line.bytes == 0 || is_comment line) ≡ false) (reads : entry_of line ≡ Ok entry)
    (names : symbol_named g entry.name.bytes ≡ Some named) (free : is_some (words_of old named) ≡ false)
    (is : new ≡ with_words old named entry.words.bytes) where
  same_entry : (other : Entry) → entry_of line ≡ Ok other → entry ≡ other
  same_entry other read = cc

  none_yet : (o : Option (List ℕ)) (words : List ℕ) → is_some o ≡ false → o ≢ Some words
  none_yet None words none same = cc
  none_yet (Some x) words none same = false≢true (sym none)

  here : words_of new named ≡ Some entry.words.bytes
  here =
      ap (λ names. words_of names named) is
      ∙ words_same g old named entry.words.bytes fit (named_in g entry.name.bytes named (rule_named g entry.name.bytes) (token_named g entry.name.bytes) refl refl names)

  gives_here : (symbol : GrammarSymbol) (words : List ℕ) → GivesName g line symbol words → (named ≡ symbol) × (entry.words.bytes ≡ words)
  gives_here symbol words gives =
      let same : entry ≡ gives.entry = same_entry gives.entry gives.reads in
      let both : Some named ≡ Some symbol = sym names ∙ ap (λ e. symbol_named g e.name.bytes) same ∙ gives.names in
      let one : named ≡ symbol = cc in
      (one, ap (λ e. e.words.bytes) same ∙ gives.says)

  adds_name : AddsName g line old new
  adds_name = record {
    fits = subst (Fit g) (sym is) (fit_with g old named entry.words.bytes fit);
    exact = λ symbol words. elim (symbol_cases symbol named) [
      | inl same ↦ (
        λ has.
            let both : Some entry.words.bytes ≡ Some words = sym here ∙ ap (words_of new) (sym same) ∙ has in
            let says : entry.words.bytes ≡ words = cc in
            inr (record { entry = entry; some = some; reads = reads; names = names ∙ ap Some (sym same); says = says }),
        λ either. elim either [
          | inl was ↦ absurd (none_yet (words_of old named) words free (ap (words_of old) (sym same) ∙ was))
          | inr gives ↦ ap (words_of new) same ∙ here ∙ ap Some (gives_here symbol words gives).1
        ],
      )
      | inr other ↦
          let stays : words_of new symbol ≡ words_of old symbol =
          ap (λ names. words_of names symbol) is ∙ words_other old named symbol entry.words.bytes other in (
            λ has. inl (sym stays ∙ has),
            λ either. elim either [
              | inl was ↦ stays ∙ was
              | inr gives ↦ absurd (other (sym (gives_here symbol words gives).0))
            ],
          )
    ];
  }

module _ (g : Grammar) (line : Part) (old new : NameLists) (fit : Fit g old) (some : (length line.bytes == 0 || is_comment line) ≡ false) where
  -- by the symbol that is named
  adds_by_symbol : (entry : Entry) (symbol : Option GrammarSymbol) → entry_of line ≡ Ok entry → symbol_named g entry.name.bytes ≡ symbol
      → add_words old line entry symbol ≡ Ok new → AddsName g line old new
  adds_by_symbol entry None reads names is = cc
  adds_by_symbol entry (Some symbol) reads names is = elim (cases_Bool (is_some (words_of old symbol))) [
    | inl has ↦ let clash : Err (Repeated (span_of entry.name)) ≡ Ok new = sym (cond-true (is_some (words_of old symbol)) _ _ has) ∙ is in cc
    | inr free ↦
        let next : cond (length entry.words.bytes == 0) (Err (Empty (span_of line))) (Ok (with_words old symbol entry.words.bytes)) ≡ Ok new =
        sym (cond-false (is_some (words_of old symbol)) _ _ free) ∙ is in
        elim (cases_Bool (length entry.words.bytes == 0)) [
          | inl empty ↦ let clash : Err (Empty (span_of line)) ≡ Ok new = sym (cond-true (length entry.words.bytes == 0) _ _ empty) ∙ next in cc
          | inr full ↦
              let both : Ok (with_words old symbol entry.words.bytes) ≡ Ok new = sym (cond-false (length entry.words.bytes == 0) _ _ full) ∙ next in
              let same : new ≡ with_words old symbol entry.words.bytes = cc in
              adds_name g line entry old new symbol fit some reads names free same
        ]
  ]

  -- by what the line reads as
  adds_by_entry : (read : Result Entry NamesFault) → entry_of line ≡ read
      → (read >>= λ entry. add_words old line entry (symbol_named g entry.name.bytes)) ≡ Ok new → AddsName g line old new
  adds_by_entry (Ok entry) reads is = adds_by_symbol entry (symbol_named g entry.name.bytes) reads refl is
  adds_by_entry (Err fault) reads is = cc

-- what a line adds
line_adds : (g : Grammar) (line : Part) (old new : NameLists) → Fit g old → add_line g old line ≡ Ok new → AddsName g line old new
line_adds g line old new fit is = elim (cases_Bool (length line.bytes == 0 || is_comment line)) [
  | inl empty ↦
      let both : Ok old ≡ Ok new = sym (cond-true (length line.bytes == 0 || is_comment line) _ _ empty) ∙ is in
      let same : new ≡ old = cc in
      adds_none g line old new fit same empty
  | inr some ↦ adds_by_entry g line old new fit some (entry_of line) refl (sym (cond-false (length line.bytes == 0 || is_comment line) _ _ some) ∙ is)
]

-- the names after lines: those before them, and those that the lines give
abbrev AddsAll : Grammar → List Part → NameLists → NameLists → Type 0
AddsAll g lines old new =
    (symbol : GrammarSymbol) (words : List ℕ) → (words_of new symbol ≡ Some words) ↔ ((words_of old symbol ≡ Some words) ⊎ IsNamedBy g lines symbol words)

all_none : (g : Grammar) (old new : NameLists) → old ≡ new → AddsAll g [] old new
all_none g old new same symbol words = (
  λ is. inl (ap (λ names. words_of names symbol) same ∙ is),
  λ either. elim either [
    | inl was ↦ sym (ap (λ names. words_of names symbol) same) ∙ was
    | inr named ↦ let within : named.1.0 < 0 = named.1.1 in absurd (omega arith)
  ],
)

all_more : (g : Grammar) (line : Part) (lines : List Part) (old next new : NameLists) → AddsName g line old next → AddsAll g lines next new
    → AddsAll g (line ∷ lines) old new
all_more g line lines old next new adds more symbol words = (
  λ is. elim ((more symbol words).0 is) [
    | inl was ↦ elim ((adds.exact symbol words).0 was) [
      | inl before ↦ inl before
      | inr gives ↦ inr (line, (0, omega arith, refl), gives)
    ]
    | inr named ↦ inr (named.0, member_later line lines named.0 named.1, named.2)
  ],
  λ either. elim either [
    | inl before ↦ (more symbol words).1 (inl ((adds.exact symbol words).1 (inl before)))
    | inr named ↦ elim (member_cases line lines named.0 named.1) [
      | inl first ↦ (more symbol words).1 (inl ((adds.exact symbol words).1 (inr (subst (λ l. GivesName g l symbol words) (sym first) named.2))))
      | inr later ↦ (more symbol words).1 (inr (named.0, later, named.2))
    ]
  ],
)

step_adds : (g : Grammar) (line : Part) (lines : List Part) (old new : NameLists) (read : Result NameLists NamesFault) → Fit g old
    → add_line g old line ≡ read → (read >>= λ names. add_lines g names lines) ≡ Ok new
    → ((next : NameLists) → Fit g next → add_lines g next lines ≡ Ok new → AddsAll g (lines_before_end lines) next new)
    → AddsAll g (line ∷ lines_before_end lines) old new
step_adds g line lines old new (Ok next) fit adds is rest =
    let here = line_adds g line old next fit adds in
    all_more g line (lines_before_end lines) old next new here (rest next here.fits is)
step_adds g line lines old new (Err fault) fit adds is rest = cc

lines_add : (g : Grammar) (lines : List Part) (old new : NameLists) → Fit g old → add_lines g old lines ≡ Ok new
    → AddsAll g (lines_before_end lines) old new
lines_add g [] old new fit is = let same : old ≡ new = cc in all_none g old new same
lines_add g (line ∷ lines) old new fit is = elim (cases_Bool (is_end_sign (trimmed line))) [
  | inl end ↦
      let both : Ok old ≡ Ok new = sym (cond-true (is_end_sign (trimmed line)) _ _ end) ∙ is in
      let same : old ≡ new = cc in
      subst (λ ls. AddsAll g ls old new) (sym (cond-true (is_end_sign (trimmed line)) [] (trimmed line ∷ lines_before_end lines) end))
      (all_none g old new same)
  | inr on ↦
      subst (λ ls. AddsAll g ls old new) (sym (cond-false (is_end_sign (trimmed line)) [] (trimmed line ∷ lines_before_end lines) on))
      (step_adds g (trimmed line) lines old new (add_line g old (trimmed line)) fit refl
      (sym (cond-false (is_end_sign (trimmed line)) _ _ on) ∙ is) (λ next fits rest. lines_add g lines next new fits rest))
]

-- an empty slot has no name
empty_slot : (n i : ℕ) (words : List ℕ) → slot_at (replicate n None) i ≢ Some words
empty_slot n i words is =
    let slots : List (Option (List ℕ)) = replicate n None in
    elim (cases_lt i n) [
      | inl within ↦ let clash : None ≡ Some words = sym (get_or-replicate n i None None within) ∙ is in cc
      | inr past ↦
          let long : length slots ≡ n = length-replicate n None in
          let beyond : length slots ≤ i = omega arith in
          let clash : None ≡ Some words = sym (get_or_past slots i None beyond) ∙ is in cc
    ]

none_named : (g : Grammar) (symbol : GrammarSymbol) (words : List ℕ) → words_of (no_names g) symbol ≢ Some words
none_named g (Nonterminal r) words = empty_slot (rules_len g) r words
none_named g (Terminal t) words = empty_slot (tokens_len g) t words

-- the names of a messages file are those that its lines give
pub read_names_are : (g : Grammar) (text : List ℕ) (names : NameLists) → read_names g text ≡ Ok names → (symbol : GrammarSymbol) (words : List ℕ)
    → (words_of names symbol ≡ Some words) ↔ IsNamedBy g (lines_before_end (pieces 10 (whole text))) symbol words
read_names_are g text names reads symbol words =
    let fit : Fit g (no_names g) = record { rules = length-replicate (rules_len g) None; tokens = length-replicate (tokens_len g) None } in
    let all = lines_add g (pieces 10 (whole text)) (no_names g) names fit reads symbol words in (
      λ is. elim (all.0 is) [ inl none ↦ absurd (none_named g symbol words none) | inr named ↦ named ],
      λ named. all.1 (inr named),
    )
