-- What sound parts make, and the first fault of parts that aren't sound.
use Rattle.std.proofs.Common.{inl, inr, ◌≡◌, ◌↔◌, ◌<◌, ◌≤◌, ◌+◌, ℕ, suc, List, [], ◌∷◌, ◌++◌, length, map, get_or, Vec, Bool, true, false, Some, Result, Ok, Err, refl, subst, sym, ap, ◌∙◌, arith}
use Rattle.std.specs.List.{slice_get, All}
use Rattle.std.specs.Option.{option_map, option_map_or}
use Rattle.std.specs.Result.{IfErr, IsErrOf, IsErrAnd}
use Rattle.std.proofs.lemmas.Option.{slice_get-get_or, slice_get-map, slice_get_read}
use Rattle.std.proofs.lemmas.List.{length-append, length-map, get_or_append_left, get_or_at}
use Rattle.std.proofs.lemmas.List.Elements.{All-append, All-cons, All-map}
use Rattle.lrpar_grammar_reader.specs.declared.parts.GrammarFault.{GrammarFault}
use Rattle.lrpar_grammar_reader.specs.declared.parts.GrammarFault.TheVariants.{NoRules, StorageTooSmall, BadStart, BadSymbol, Memory}
use Rattle.std.proofs.lemmas.Bool.{cases_lt}
use Rattle.std.specs.declared.alloc.Global.{Global}
use Rattle.lrpar_grammar_places.specs.declared.span.PIdx.{PIdx}
use Rattle.lrpar_grammar_reader.specs.declared.parts.GrammarParts.{GrammarParts}
use Rattle.lrpar_grammar.specs.declared.grammar.prods.SplitProd.{SplitProd}
use Rattle.lrpar_grammar.specs.Kept.{AreRowsOf, IsKept, kept_grammar, split_prod_of}
use Rattle.lrpar_grammar_reader.specs.Grammar.{added_rule, Production, IsDeclaredSymbol, IsWellFormed, added_prod, rule_of, symbols_of, symbol_spans_of, prod_len, prods_len, rules_len, end_token, start_prod, Grammar, HasSpans}
use Rattle.lrpar_grammar_reader.specs.Symbols.{symbol_of}
use Rattle.lrpar_grammar_reader.specs.Parts.{Parts, AreSound, IsFirstFault, IsDeclaredProd, IsRefusalOf, grammar_of, parts_of, prod_of, rule_name_of}

-- only one fault is the first
first_fault_alone : (limit : ℕ) (x : Parts) (found fault : GrammarFault) → IsFirstFault limit x found → IsFirstFault limit x fault → found ≡ fault
first_fault_alone limit x NoRules NoRules a b = refl
first_fault_alone limit x NoRules StorageTooSmall a b = absurd (b.0 a)
first_fault_alone limit x NoRules BadStart a b = absurd (b.0 a)
first_fault_alone limit x NoRules BadSymbol a b = absurd (b.0 a)
first_fault_alone limit x NoRules _ a b = absurd b
first_fault_alone limit x StorageTooSmall NoRules a b = absurd (a.0 b)
first_fault_alone limit x StorageTooSmall StorageTooSmall a b = refl
first_fault_alone limit x StorageTooSmall BadStart a b = absurd (a.1 b.1)
first_fault_alone limit x StorageTooSmall BadSymbol a b = absurd (a.1 b.1)
first_fault_alone limit x StorageTooSmall _ a b = absurd b
first_fault_alone limit x BadStart NoRules a b = absurd (a.0 b)
first_fault_alone limit x BadStart StorageTooSmall a b = absurd (b.1 a.1)
first_fault_alone limit x BadStart BadStart a b = refl
first_fault_alone limit x BadStart BadSymbol a b = absurd (a.2 b.2)
first_fault_alone limit x BadStart _ a b = absurd b
first_fault_alone limit x BadSymbol NoRules a b = absurd (a.0 b)
first_fault_alone limit x BadSymbol StorageTooSmall a b = absurd (b.1 a.1)
first_fault_alone limit x BadSymbol BadStart a b = absurd (b.2 a.2)
first_fault_alone limit x BadSymbol BadSymbol a b = refl
first_fault_alone limit x BadSymbol _ a b = absurd b
first_fault_alone limit x _ fault a b = absurd a

-- sound parts have no first fault
sound_no_fault : (limit : ℕ) (x : Parts) → AreSound limit x → (fault : GrammarFault) → IsFirstFault limit x fault → ⊥
sound_no_fault limit x sound NoRules first = sound.rules first
sound_no_fault limit x sound StorageTooSmall first = first.1 sound.storage
sound_no_fault limit x sound BadStart first = first.2 sound.start
sound_no_fault limit x sound BadSymbol first = first.3 sound.symbols
sound_no_fault limit x sound _ first = first

-- the first fault is returned exactly if it is the first
pub answers_first : {T : Type 0} (limit : ℕ) (x : Parts) (found fault : GrammarFault) → IsFirstFault limit x found
    → (◌≡◌ {A = Result T GrammarFault} (Err found) (Err fault)) ↔ IsFirstFault limit x fault
answers_first limit x found fault first =
    (λ e. let same : found ≡ fault = cc in subst (IsFirstFault limit x) same first, λ h. ap Err (first_fault_alone limit x found fault first h))

-- if the parts are sound, a grammar is returned and no fault is the first
pub answers_grammar : {T : Type 0} (limit : ℕ) (x : Parts) (grm : T) (fault : GrammarFault) → AreSound limit x
    → (◌≡◌ {A = Result T GrammarFault} (Ok grm) (Err fault)) ↔ IsFirstFault limit x fault
answers_grammar limit x grm fault sound = (λ e. absurd (cc), λ h. absurd (sound_no_fault limit x sound fault h))

-- whether an allocation failed
abbrev is_memory : GrammarFault → Bool
is_memory Memory = true
is_memory _ = false

-- and the same if an allocation fails
pub answers_memory : {T : Type 0} (limit : ℕ) (x : Parts) (result : Result T GrammarFault) (fault : GrammarFault) → AreSound limit x
    → IsErrAnd result (λ refusal. refusal ≡ Memory) → is_memory fault ≡ false → IsErrOf result fault ↔ IsFirstFault limit x fault
answers_memory limit x (Ok grm) fault sound memory other = absurd memory
answers_memory limit x (Err refusal) fault sound memory other = (
  λ e. let same : refusal ≡ fault = cc in let both : false ≡ true = sym other ∙ ap is_memory (sym same ∙ memory) in absurd (cc),
  λ h. absurd (sound_no_fault limit x sound fault h),
)

-- the first fault refuses the parts
pub first_refuses : (limit : ℕ) (x : Parts) (fault : GrammarFault) → IsFirstFault limit x fault → IsRefusalOf limit x fault
first_refuses limit x Memory first = absurd first
first_refuses limit x _ first = first

-- so does a failed allocation, if the parts are sound
pub memory_refuses : {T : Type 0} (limit : ℕ) (x : Parts) (result : Result T GrammarFault) → AreSound limit x → IsErrAnd result (λ refusal. refusal ≡ Memory)
    → IfErr result (IsRefusalOf limit x)
memory_refuses limit x (Ok grm) sound memory = absurd memory
memory_refuses limit x (Err refusal) sound memory = subst (IsRefusalOf limit x) (sym memory) sound

-- a listed production in the whole list
pub listed_prod_at : (x : Parts) (p : ℕ) (d : Production) → p < length x.prods → slice_get (grammar_of x).prods p ≡ Some (get_or x.prods p d)
listed_prod_at x p d within =
    slice_get-get_or (x.prods ++ added_prod x.start ∷ []) p d (omega (arith, length-append x.prods (added_prod x.start ∷ [])))
    ∙ ap Some (get_or_append_left x.prods (added_prod x.start ∷ []) d p within)

-- the start production in the whole list
pub start_prod_at : (x : Parts) → slice_get (grammar_of x).prods (start_prod (grammar_of x)) ≡ Some (added_prod x.start)
start_prod_at x =
    let prods = x.prods ++ added_prod x.start ∷ [] in
    let len : length prods ≡ length x.prods + 1 = length-append x.prods (added_prod x.start ∷ []) in
    let place : start_prod (grammar_of x) ≡ length x.prods = omega arith in
    ap (slice_get prods) place ∙ slice_get-get_or prods (length x.prods) (added_prod x.start) (omega arith)
    ∙ ap Some (get_or_at x.prods (added_prod x.start) [] (added_prod x.start) (length x.prods) refl)

-- a number below the start production's is that of a listed production
pub below_start_prod : (x : Parts) (p : ℕ) → p < start_prod (grammar_of x) → p < length x.prods
below_start_prod x p below = omega (arith, length-append x.prods (added_prod x.start ∷ []))

-- each production of the parts has a place for each symbol
pub parts_have_spans : {S : Type 0} (index : S → ℕ) (parts : GrammarParts S) → All HasSpans (parts_of index parts).prods
parts_have_spans index parts =
    All-map HasSpans (prod_of index) parts.prods.items
    (λ k d within. let pairs = (get_or parts.prods.items k d).symbols.items in
    length-map pairs (λ x. x.1) ∙ sym (length-map pairs (λ x. symbol_of index x.0)))

-- sound parts make a well-formed grammar
pub sound_well_formed : (limit : ℕ) (x : Parts) → AreSound limit x → All HasSpans x.prods → IsWellFormed (grammar_of x)
sound_well_formed limit x sound spans =
    let d = added_prod x.start in
    let g = grammar_of x in
    let listed : (p : ℕ) → p < start_prod g → IsDeclaredProd (length x.rules + 1) (length x.tokens) (get_or x.prods p d) =
    λ p below. sound.symbols p d (below_start_prod x p below) in
    record {
      start_added = sound.start.added;
      start_within = let within : x.start ≤ length x.rules = sound.start.within in omega arith;
      last_rule = ap (λ o. option_map_or (λ y. y.rule) o 0) (start_prod_at x);
      last_symbols = ap (λ o. option_map_or (λ y. y.symbols) o []) (start_prod_at x);
      rule_added = λ p below.
          let same : rule_of g p ≡ (get_or x.prods p d).rule = ap (λ o. option_map_or (λ y. y.rule) o 0) (listed_prod_at x p d (below_start_prod x p below)) in
          subst (λ r. 0 < r) (sym same) (listed p below).rule_added;
      rule_within = λ p below.
          let same : rule_of g p ≡ (get_or x.prods p d).rule = ap (λ o. option_map_or (λ y. y.rule) o 0) (listed_prod_at x p d (below_start_prod x p below)) in
          let within : (get_or x.prods p d).rule < length x.rules + 1 = (listed p below).rule_within in
          omega arith;
      symbols = λ p below.
          let same : symbols_of g p ≡ (get_or x.prods p d).symbols = ap (λ o. option_map_or (λ y. y.symbols) o []) (listed_prod_at x p d (below_start_prod x p below)) in
          let count : length x.rules + 1 ≡ rules_len g = omega arith in
          subst (λ w. All (IsDeclaredSymbol (rules_len g) (end_token g)) w) (sym same)
          (subst (λ n. All (IsDeclaredSymbol n (end_token g)) (get_or x.prods p d).symbols) count (listed p below).symbols);
      spans = λ p below.
          let len : prods_len g ≡ length x.prods + 1 = length-append x.prods (added_prod x.start ∷ []) in
          elim (cases_lt p (length x.prods)) [
            | inl listed ↦ ap (λ o. length (option_map_or (λ y. y.symbol_spans) o [])) (listed_prod_at x p d listed)
                ∙ spans p d listed ∙ sym (ap (λ o. length (option_map_or (λ y. y.symbols) o [])) (listed_prod_at x p d listed))
            | inr last ↦
                let place : start_prod g ≡ p = omega arith in
                subst (λ q. length (symbol_spans_of g q) ≡ prod_len g q) place
                (ap (λ o. length (option_map_or (λ y. y.symbol_spans) o [])) (start_prod_at x)
                ∙ sym (ap (λ o. length (option_map_or (λ y. y.symbols) o [])) (start_prod_at x)))
          ];
    }

-- the kept grammar of sound parts is the one that they make
pub kept_is_made : {S : Type 0} (index : S → ℕ) (parts : GrammarParts S) (prods : List (SplitProd S))
    → map (split_prod_of index) prods ≡ map (prod_of index) parts.prods.items ++ added_prod (index parts.start.0) ∷ []
    → kept_grammar index parts.rules.items parts.tokens.items prods parts.start.0 ≡ grammar_of (parts_of index parts)
kept_is_made index parts prods split =
    let x = parts_of index parts in
    ap (λ w. record { rules = added_rule ∷ x.rules; tokens = x.tokens; prods = w; start = x.start }) split

-- it is well formed
pub kept_well_formed : {S : Type 0} (limit : ℕ) (index : S → ℕ) (parts : GrammarParts S) (prods : List (SplitProd S))
    → AreSound limit (parts_of index parts)
    → map (split_prod_of index) prods ≡ map (prod_of index) parts.prods.items ++ added_prod (index parts.start.0) ∷ []
    → IsWellFormed (kept_grammar index parts.rules.items parts.tokens.items prods parts.start.0)
kept_well_formed limit index parts prods sound split =
    subst IsWellFormed (sym (kept_is_made index parts prods split)) (sound_well_formed limit (parts_of index parts) sound (parts_have_spans index parts))

-- its productions can be numbered
pub split_fits : {S : Type 0} (limit : ℕ) (index : S → ℕ) (parts : GrammarParts S) (prods : List (SplitProd S))
    → AreSound limit (parts_of index parts)
    → map (split_prod_of index) prods ≡ map (prod_of index) parts.prods.items ++ added_prod (index parts.start.0) ∷ []
    → length prods ≤ limit
split_fits limit index parts prods sound split =
    let x = parts_of index parts in
    let some : length x.prods < limit = sound.storage.prods in
    let count : length prods ≡ length x.prods + 1 =
    sym (length-map prods (split_prod_of index)) ∙ ap length split ∙ length-append x.prods (added_prod x.start ∷ []) in
    omega arith

-- and are of rules in range
pub split_rules_within : {S : Type 0} (limit : ℕ) (index : S → ℕ) (parts : GrammarParts S) (prods : List (SplitProd S))
    → AreSound limit (parts_of index parts)
    → map (split_prod_of index) prods ≡ map (prod_of index) parts.prods.items ++ added_prod (index parts.start.0) ∷ []
    → All (λ p. p.rule < length parts.rules.items + 1) (map (split_prod_of index) prods)
split_rules_within limit index parts prods sound split =
    let x = parts_of index parts in
    let count : length x.rules ≡ length parts.rules.items = length-map parts.rules.items rule_name_of in
    subst (All (λ p. p.rule < length parts.rules.items + 1)) (sym split)
    (All-append (λ p. p.rule < length parts.rules.items + 1) x.prods (added_prod x.start ∷ [])
    (λ k d within. let below = (sound.symbols k d within).rule_within in omega (arith, below))
    (All-cons (λ p. p.rule < length parts.rules.items + 1) (added_prod x.start) [] (omega arith) (λ k d within. absurd (omega (arith, within)))))

-- the split productions of sound parts, and their numbers by rule, are what a grammar keeps
pub kept_parts : {S : Type 0} (limit : ℕ) (index : S → ℕ) (parts : GrammarParts S) (prods : List (SplitProd S)) (rows : List (Vec (PIdx S) Global))
    → AreSound limit (parts_of index parts)
    → map (split_prod_of index) prods ≡ map (prod_of index) parts.prods.items ++ added_prod (index parts.start.0) ∷ []
    → AreRowsOf index (length parts.rules.items + 1) (map (split_prod_of index) prods) rows
    → IsKept limit index (kept_grammar index parts.rules.items parts.tokens.items prods parts.start.0) rows
kept_parts {S} limit index parts prods rows sound split by_rule =
    let x = parts_of index parts in
    let rules_are : length parts.rules.items + 1 ≡ suc (length (map rule_name_of parts.rules.items)) = omega (arith, length-map parts.rules.items rule_name_of) in
    let prods_are : length (map (split_prod_of index) prods) ≡ length x.prods + 1 = ap length split ∙ length-append x.prods (added_prod x.start ∷ []) in
    record {
      well_formed = kept_well_formed limit index parts prods sound split;
      rules = sound.storage.rules;
      tokens = let few : length x.tokens < limit = sound.storage.tokens in omega arith;
      prods = let few : length x.prods < limit = sound.storage.prods in omega arith;
      by_rule = subst (λ n. AreRowsOf index n (map (split_prod_of index) prods) rows) rules_are by_rule;
    }

-- the rule of a production is one of the grammar
pub rule_of_within : (g : Grammar) (p : ℕ) → IsWellFormed g → p < length g.prods → rule_of g p < rules_len g
rule_of_within g p formed within =
    elim (cases_lt p (start_prod g)) [
      | inl listed ↦ formed.rule_within p listed
      | inr last ↦
          let place : start_prod g ≡ p = omega arith in
          let zero : rule_of g p ≡ 0 = ap (rule_of g) (sym place) ∙ formed.last_rule in
          let some : g.start < rules_len g = formed.start_within in
          omega arith
    ]

-- a kept production in the grammar
pub kept_prod_at : {S : Type 0} (index : S → ℕ) (prods : List (SplitProd S)) (p : ℕ) (prod : SplitProd S) → p < length prods → prod ≡ get_or prods p prod
    → slice_get (map (split_prod_of index) prods) p ≡ Some (split_prod_of index prod)
kept_prod_at index prods p prod within is =
    slice_get-map (split_prod_of index) prods p ∙ ap (option_map (split_prod_of index)) (slice_get_read prods (length prods) p prod refl within is)

-- its rule is one of the grammar
pub kept_rule_within : {S : Type 0} (index : S → ℕ) (g : Grammar) (prods : List (SplitProd S)) (p : ℕ) (prod : SplitProd S)
    → IsWellFormed g → map (split_prod_of index) prods ≡ g.prods → p < length prods → prod ≡ get_or prods p prod → index prod.rule.0 < rules_len g
kept_rule_within index g prods p prod formed are within is =
    let at : slice_get g.prods p ≡ Some (split_prod_of index prod) = subst (λ ps. slice_get ps p ≡ Some (split_prod_of index prod)) are (kept_prod_at index prods p prod within is) in
    let rule : rule_of g p ≡ index prod.rule.0 = ap (λ o. option_map_or (λ x. x.rule) o 0) at in
    let count : length g.prods ≡ length prods = sym (ap length are) ∙ length-map prods (split_prod_of index) in
    let below : rule_of g p < rules_len g = rule_of_within g p formed (omega arith) in
    subst (λ r. r < rules_len g) rule below
