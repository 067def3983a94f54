-- The listed parts of a grammar make a grammar with one more token, which no production has.
use Rattle.std.proofs.Common.{inl, inr, ◌≡◌, ◌≢◌, ◌<◌, ◌≤◌, ◌+◌, ℕ, zero, suc, List, [], ◌∷◌, ◌++◌, drop, get_or, length, take, Some, None, ap, refl, subst, sym, ◌∙◌, arith}
use Rattle.std.specs.List.{All, slice_get}
use Rattle.std.specs.Option.{option_map_or}
use Rattle.std.proofs.Math.ListN.{get_or-append}
use Rattle.std.proofs.Math.Seq.{get_or-append_seam}
use Rattle.std.proofs.lemmas.Bool.{cases_lt}
use Rattle.std.proofs.lemmas.List.{get_or-take, length-drop, length-take-le, length_push}
use Rattle.std.proofs.lemmas.Option.{slice_get-get_or, slice_get_past}
use Rattle.lrpar_grammar_places.specs.Span.{Extent, nowhere}
use Rattle.lrpar_grammar_reader.specs.declared.parts.GrammarFault.{GrammarFault}
use Rattle.lrpar_grammar_reader.specs.declared.parts.GrammarFault.TheVariants.{BadStart, BadSymbol, Memory, NoRules, StorageTooSmall}
use Rattle.lrpar_grammar_reader.specs.Grammar.{Grammar, GrammarSymbol, IsDeclaredSymbol, IsWellFormed, Nonterminal, Production, Terminal, added_prod, end_token, prod_span_of, prods_len, rule_of, rules_len, start_prod, symbol_spans_of, symbols_of, tokens_len}
use Rattle.lrpar_grammar_reader.specs.Parts.{AreSound, IsDeclaredProd, IsRefusalOf, Parts}
use Rattle.lrpar_grammar_unmatched.specs.WithToken.{IsUnused, declared_parts, token_named, with_last_token, with_token}

-- a production by its parts
abbrev made_of : ℕ → List GrammarSymbol → List Extent → Extent → Production
made_of r s spans e = record { rule = r; symbols = s; symbol_spans = spans; span = e }

-- productions with the same parts
same_prod : (p q : Production) → p.rule ≡ q.rule → p.symbols ≡ q.symbols → p.symbol_spans ≡ q.symbol_spans → p.span ≡ q.span → p ≡ q
same_prod p q rule symbols spans span =
    ap (λ r. made_of r p.symbols p.symbol_spans p.span) rule ∙ ap (λ s. made_of q.rule s p.symbol_spans p.span) symbols
    ∙ ap (λ s. made_of q.rule q.symbols s p.span) spans ∙ ap (λ s. made_of q.rule q.symbols q.symbol_spans s) span

-- the production of a number, by its parts
pub prod_is : (g : Grammar) (n : ℕ) (p : Production) → n < length g.prods → p.rule ≡ rule_of g n → p.symbols ≡ symbols_of g n
    → p.symbol_spans ≡ symbol_spans_of g n → p.span ≡ prod_span_of g n → slice_get g.prods n ≡ Some p
prod_is g n p within rule symbols spans span =
    let there : slice_get g.prods n ≡ Some (get_or g.prods n p) = slice_get-get_or g.prods n p within in
    let same : p ≡ get_or g.prods n p = same_prod p (get_or g.prods n p)
    (rule ∙ ap (λ o. option_map_or (λ x. x.rule) o 0) there) (symbols ∙ ap (λ o. option_map_or (λ x. x.symbols) o []) there)
    (spans ∙ ap (λ o. option_map_or (λ x. x.symbol_spans) o []) there) (span ∙ ap (λ o. option_map_or (λ x. x.span) o nowhere) there) in
    there ∙ ap Some (sym same)

-- a symbol that the grammar lists is one that it lists with one more token
more_tokens : (rules tokens : ℕ) (s : GrammarSymbol) → IsDeclaredSymbol rules tokens s → IsDeclaredSymbol rules (tokens + 1) s
more_tokens rules tokens (Nonterminal r) is = is
more_tokens rules tokens (Terminal t) is = omega arith

-- it isn't the new token
other_token : (rules tokens : ℕ) (s : GrammarSymbol) → IsDeclaredSymbol rules tokens s → s ≢ Terminal tokens
other_token rules tokens (Nonterminal r) is same = cc
other_token rules tokens (Terminal t) is same = let equal : t ≡ tokens = cc in omega arith

-- a rule alone has no token
lone_rule : (rule token : ℕ) → All (λ symbol. symbol ≢ Terminal token) (Nonterminal rule ∷ [])
lone_rule rule token zero d within same = cc
lone_rule rule token (suc k) d within same = absurd (omega arith)

-- there is a production
some_prods : (g : Grammar) → IsWellFormed g → 0 < length g.prods
some_prods g formed =
    elim (cases_lt 0 (length g.prods)) [
      | inl some ↦ some
      | inr none ↦
          let past : slice_get g.prods (start_prod g) ≡ None = slice_get_past g.prods (start_prod g) (omega arith) in
          let empty : symbols_of g (start_prod g) ≡ [] = ap (λ o. option_map_or (λ x. x.symbols) o []) past in
          let last = sym empty ∙ formed.last_symbols in
          absurd (cc)
    ]

module _ (g : Grammar) (formed : IsWellFormed g) where
  -- a listed production by its number
  rule_at : (k : ℕ) (d : Production) → k < start_prod g → (get_or g.prods k d).rule ≡ rule_of g k
  rule_at k d before =
      let some = some_prods g formed in
      sym (ap (λ o. option_map_or (λ x. x.rule) o 0) (slice_get-get_or g.prods k d (omega arith)))

  symbols_at : (k : ℕ) (d : Production) → k < start_prod g → (get_or g.prods k d).symbols ≡ symbols_of g k
  symbols_at k d before =
      let some = some_prods g formed in
      sym (ap (λ o. option_map_or (λ x. x.symbols) o []) (slice_get-get_or g.prods k d (omega arith)))

  -- the number of listed rules
  rules_declared : length (drop 1 g.rules) + 1 ≡ rules_len g
  rules_declared = omega (arith, length-drop 1 g.rules, formed.start_within, formed.start_added)

  module _ (name : List ℕ) where
    -- one of the listed productions, with one more token
    declared : (k : ℕ) (d : Production) → k < start_prod g
        → IsDeclaredProd (length (drop 1 g.rules) + 1) (length (g.tokens ++ token_named name ∷ [])) (get_or g.prods k d)
    declared k d before = record {
      rule_added = subst (λ r. 0 < r) (sym (rule_at k d before)) (formed.rule_added k before);
      rule_within = let within = formed.rule_within k before in let at = rule_at k d before in omega (arith, rules_declared);
      symbols =
          let all = subst (λ ss. All (IsDeclaredSymbol (rules_len g) (end_token g)) ss) (sym (symbols_at k d before)) (formed.symbols k before) in
          λ i e within.
          let more = more_tokens (rules_len g) (end_token g) (get_or (get_or g.prods k d).symbols i e) (all i e within) in
          subst (λ n. IsDeclaredSymbol (length (drop 1 g.rules) + 1) n (get_or (get_or g.prods k d).symbols i e)) (sym (length_push g.tokens (token_named name)))
          (subst (λ n. IsDeclaredSymbol n (length g.tokens + 1) (get_or (get_or g.prods k d).symbols i e)) (sym rules_declared) more);
    }

    -- the parts make a grammar
    pub sound : (limit : ℕ) → rules_len g ≤ limit → prods_len g ≤ limit → tokens_len g < limit → AreSound limit (with_last_token (declared_parts g) name)
    sound limit rules prods tokens =
        let some = some_prods g formed in
        let front : length (take (start_prod g) g.prods) ≡ start_prod g = length-take-le (start_prod g) g.prods (omega arith) in
        record {
          rules = λ none. let empty : length (drop 1 g.rules) ≡ 0 = ap length none in omega (arith, rules_declared, formed.start_within, formed.start_added);
          storage = record {
            rules = omega (arith, rules_declared);
            tokens = omega (arith, length_push g.tokens (token_named name));
            prods = omega (arith, front);
          };
          start = record { added = formed.start_added; within = omega (arith, rules_declared, formed.start_within) };
          symbols = λ k d within.
              let before : k < start_prod g = omega (arith, front) in
              subst (IsDeclaredProd (length (drop 1 g.rules) + 1) (length (g.tokens ++ token_named name ∷ [])))
              (sym (get_or-take (start_prod g) g.prods k d before)) (declared k d before);
        }

    -- no production has the new token
    pub unused : IsUnused (with_token g name) (end_token g)
    unused p within =
        let some = some_prods g formed in
        let added = added_prod g.start in
        let front = take (start_prod g) g.prods in
        let len : length front ≡ start_prod g = length-take-le (start_prod g) g.prods (omega arith) in
        let there : slice_get (front ++ added ∷ []) p ≡ Some (get_or (front ++ added ∷ []) p added) = slice_get-get_or (front ++ added ∷ []) p added within in
        let lacks : List GrammarSymbol → Type 0 = All (λ symbol. symbol ≢ Terminal (end_token g)) in
        elim (cases_lt p (start_prod g)) [
          | inl before ↦
              let same : get_or (front ++ added ∷ []) p added ≡ get_or g.prods p added =
              get_or-append front (added ∷ []) added p (omega arith) ∙ get_or-take (start_prod g) g.prods p added before in
              let is : symbols_of (with_token g name) p ≡ symbols_of g p =
              ap (λ o. option_map_or (λ x. x.symbols) o []) there ∙ ap (λ x. x.symbols) same ∙ symbols_at p added before in
              let old : lacks (symbols_of g p) = λ k d w. other_token (rules_len g) (end_token g) (get_or (symbols_of g p) k d) (formed.symbols p before k d w) in
              subst lacks (sym is) old
          | inr past ↦
              let last : p ≡ length front = omega (arith, length_push front added) in
              let same : get_or (front ++ added ∷ []) p added ≡ added = ap (λ n. get_or (front ++ added ∷ []) n added) last ∙ get_or-append_seam front added [] added in
              let is : symbols_of (with_token g name) p ≡ Nonterminal g.start ∷ [] =
              ap (λ o. option_map_or (λ x. x.symbols) o []) there ∙ ap (λ x. x.symbols) same in
              subst lacks (sym is) (lone_rule g.start (end_token g))
        ]

-- parts that make a grammar are refused for memory alone
pub refused_for_memory : (limit : ℕ) (x : Parts) (fault : GrammarFault) → AreSound limit x → IsRefusalOf limit x fault → fault ≡ Memory
refused_for_memory limit x NoRules is refused = absurd (is.rules refused)
refused_for_memory limit x StorageTooSmall is refused = absurd (refused.1 is.storage)
refused_for_memory limit x BadStart is refused = absurd (refused.2 is.start)
refused_for_memory limit x BadSymbol is refused = absurd (refused.3 is.symbols)
refused_for_memory limit x Memory is refused = refl
refused_for_memory limit x _ is refused = absurd refused
