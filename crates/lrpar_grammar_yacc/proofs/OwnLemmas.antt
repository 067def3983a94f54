-- Grammar texts have no parts that are erased.
use Rattle.std.proofs.Common.{inl, inr, ◌≡◌, ◌<◌, ◌≤◌, ◌+◌, ◌++◌, ℕ, List, [], ◌∷◌, length, length-append, drop, take, codes, Option, Some, None, option_and_then, refl, ap, sym, subst, ◌∙◌, arith}
use Rattle.std.specs.Option.{option_map, option_or, option_to_list}
use Rattle.std.proofs.lemmas.Bool.{cases_lt}
use Rattle.lrpar_grammar_words.specs.declared.words.Piece.{Piece}
use Rattle.lrpar_grammar_words.specs.declared.words.WordKind.{WordKind}
use Rattle.lrpar_grammar_words.specs.declared.words.WordKind.TheVariants.{Name, Quoted, StartSign, TokenSign, EppSign, RulesSign, Colon, Bar, Semicolon}
use Rattle.lrpar_grammar_words.specs.declared.word_order.Expected.{Expected}
use Rattle.lrpar_grammar_words.specs.declared.word_order.Expected.TheVariants.{Declaration}
use Rattle.lrpar_grammar_words.specs.declared.word_order.Role.{Role}
use Rattle.lrpar_grammar_words.specs.declared.word_order.Role.TheVariants.{Sign, Start, Declared, EppOf, Epp, Defined, Symbol, AlternativeEnd}
use Rattle.lrpar_grammar_words.specs.Outline.{TextOutline, after_words, no_words, with_word}
use Rattle.lrpar_grammar_words.specs.WordOrder.{after}
use Rattle.lrpar_grammar_words.specs.Words.{IsCutInto, PlacedWord, piece_at, word_at, words_of}
use Rattle.lrpar_grammar_words.specs.Forms.{IsPieceText}
use Rattle.lrpar_grammar_words.proofs.FormLemmas.{text_begins}
use Rattle.lrpar_grammar_yacc.specs.declared.parts.YaccKind.{YaccKind}
use Rattle.lrpar_grammar_yacc.specs.declared.steps.Step.{Step}
use Rattle.lrpar_grammar_yacc.specs.declared.steps.StepKind.TheVariants.{Blank}
use Rattle.lrpar_grammar_yacc.specs.Erasure.{erased_from}
use Rattle.lrpar_grammar_yacc.specs.Laws.{AreOwnErasures}
use Rattle.lrpar_grammar_yacc.specs.Parts.{part_at}
use Rattle.lrpar_grammar_yacc.specs.Steps.{ends, part_of, part_step, parts_from, piece_step, step_at, steps_from, word_kind, word_step}
use Rattle.lrpar_grammar_yacc.proofs.StepLemmas.{steps_more}

-- a word is no part
no_part_of : (role : Role) (place prod : ℕ) (x : Step) → part_of place prod x (word_kind role) ≡ []
no_part_of Sign place prod x = refl
no_part_of Start place prod x = refl
no_part_of Declared place prod x = refl
no_part_of EppOf place prod x = refl
no_part_of Epp place prod x = refl
no_part_of Defined place prod x = refl
no_part_of Symbol place prod x = refl
no_part_of AlternativeEnd place prod x = refl

-- the step over a piece that is allowed
step_over : (kind : YaccKind) (e : Expected) (s : List ℕ) (x : Piece) (y : Step) → piece_at s ≡ Some x → piece_step e x.len x.word ≡ Some y → step_at kind e s ≡ Some y
unfolding step_at
step_over kind e s x y is step =
    ap (λ (found : Option Piece). option_or (option_and_then (λ (x : Piece). piece_step e x.len x.word) found) (option_map (part_step e) (part_at kind e s))) is
    ∙ ap (λ (found : Option Step). option_or found (option_map (part_step e) (part_at kind e s))) step

-- the words of the pieces of s are allowed from here on
record AreAllowed (e : Expected) (o : TextOutline) (at : ℕ) (s : List ℕ) (xs : List Piece) : Type 0 where
  pub cut : IsCutInto s xs
  pub last : Expected × TextOutline
  pub leads : after_words e o (words_of at s xs) ≡ Some last

-- what comes after a step over a word or blanks, if it has no parts
after_step : (kind : YaccKind) (e : Expected) (s : List ℕ) (place prod : ℕ) (y : Step) → step_at kind e s ≡ Some y → 0 < y.len → y.len ≤ length s
    → part_of place prod y y.kind ≡ [] → parts_from (place + y.len) (prod + ends y.kind) (steps_from kind y.next 0 (drop y.len s)) ≡ []
    → parts_from place prod (steps_from kind e 0 s) ≡ []
after_step kind e s place prod y is some most none rest =
    let len : 0 + y.len ≡ y.len = omega arith in
    let steps : steps_from kind e 0 s ≡ y ∷ steps_from kind y.next 0 (drop y.len s) =
    steps_more kind e s 0 y is some (omega arith) ∙ ap (λ n. y ∷ steps_from kind y.next 0 (drop n s)) len in
    ap (parts_from place prod) steps ∙ ap (λ ps. ps ++ parts_from (place + y.len) (prod + ends y.kind) (steps_from kind y.next 0 (drop y.len s))) none ∙ rest

-- a word or blanks have a byte
some_byte : (word : Option WordKind) → IsPieceText word [] → ⊥
some_byte None (inl white) = let len = ap length white.is in omega arith
some_byte None (inr (inl line)) = let len = ap length line.is in omega (arith, len, length-append (codes "//") line.line)
some_byte None (inr (inr closed)) = let len = ap length closed.is in omega (arith, len, length-append (codes "/*") (closed.text ++ codes "*/"))
some_byte (Some Name) word = let len = ap length word.is in omega arith
some_byte (Some Quoted) word = let len = ap length word.is in omega arith
some_byte (Some StartSign) word = let len = ap length word in omega arith
some_byte (Some TokenSign) word = let len = ap length word in omega arith
some_byte (Some EppSign) word = let len = ap length word in omega arith
some_byte (Some RulesSign) word = let len = ap length word in omega arith
some_byte (Some Colon) word = let len = ap length word in omega arith
some_byte (Some Bar) word = let len = ap length word in omega arith
some_byte (Some Semicolon) word = let len = ap length word in omega arith

-- a piece has a byte
piece_some : (s : List ℕ) (x : Piece) → IsPieceText x.word (take x.len s) → 0 < x.len
piece_some s x is = elim (cases_lt 0 x.len) [
  | inl some ↦ some
  | inr none ↦ let zero : x.len ≡ 0 = omega arith in absurd (some_byte x.word (subst (λ n. IsPieceText x.word (take n s)) zero is))
]

-- what the words after a word lead to, if it is allowed
after_word : (found : Option (Role × Expected)) (o : TextOutline) (w : PlacedWord) (ws : List PlacedWord) (last : Expected × TextOutline)
    → ◌≡◌ {A = Option (Expected × TextOutline)} (option_and_then (λ (step : Role × Expected). after_words step.1 (with_word o step.0 w) ws) found) (Some last)
    → (step : Role × Expected) × (found ≡ Some step) × (after_words step.1 (with_word o step.0 w) ws ≡ Some last)
after_word None o w ws last leads = absurd (cc)
after_word (Some step) o w ws last leads = (step, refl, leads)

-- the pieces xs have no parts, wherever they are
abbrev HaveNoParts : YaccKind → List Piece → Type 0
HaveNoParts kind xs = (e : Expected) (o : TextOutline) (at place prod : ℕ) (s : List ℕ) → AreAllowed e o at s xs → parts_from place prod (steps_from kind e 0 s) ≡ []

-- a piece, if those after it have no parts
one_more : (word : Option WordKind) (x : Piece) (xs : List Piece) (kind : YaccKind) (e : Expected) (o : TextOutline) (at place prod : ℕ) (s : List ℕ) → x.word ≡ word
    → AreAllowed e o at s (x ∷ xs) → HaveNoParts kind xs → parts_from place prod (steps_from kind e 0 s) ≡ []
one_more None x xs kind e o at place prod s none allowed next =
    let is : piece_at s ≡ Some x = allowed.cut.0 in
    let ws = words_of (at + x.len) (drop x.len s) xs in
    let begins = text_begins s x is in
    let y : Step = word_step Blank x.len e in
    let step : step_at kind e s ≡ Some y = step_over kind e s x y is (ap (piece_step e x.len) none) in
    let leads : after_words e o ws ≡ Some allowed.last =
    ap (λ word. after_words e o (option_to_list (option_map (λ (kind : WordKind). word_at at s kind x.len) word) ++ ws)) (sym none) ∙ allowed.leads in
    after_step kind e s place prod y step (piece_some s x begins.is) begins.within refl
    (next e o (at + x.len) (place + x.len) (prod + 0) (drop x.len s) (record { cut = allowed.cut.1; last = allowed.last; leads = leads }))
one_more (Some k) x xs kind e o at place prod s word allowed next =
    let is : piece_at s ≡ Some x = allowed.cut.0 in
    let ws = words_of (at + x.len) (drop x.len s) xs in
    let begins = text_begins s x is in
    let w = word_at at s k x.len in
    let leads = ap (λ word. after_words e o (option_to_list (option_map (λ (kind : WordKind). word_at at s kind x.len) word) ++ ws)) (sym word) ∙ allowed.leads in
    let r = after_word (after e k) o w ws allowed.last leads in
    let y : Step = word_step (word_kind r.0.0) x.len r.0.1 in
    let by_kind : piece_step e x.len (Some k) ≡ Some y = ap (option_map (λ (r : Role × Expected). word_step (word_kind r.0) x.len r.1)) r.1 in
    let step : step_at kind e s ≡ Some y = step_over kind e s x y is (ap (piece_step e x.len) word ∙ by_kind) in
    after_step kind e s place prod y step (piece_some s x begins.is) begins.within (no_part_of r.0.0 place prod y)
    (next r.0.1 (with_word o r.0.0 w) (at + x.len) (place + x.len) (prod + ends y.kind) (drop x.len s) (record { cut = allowed.cut.1; last = allowed.last; leads = r.2 }))

-- if the words of the pieces are allowed, there are no parts
no_parts : (xs : List Piece) (kind : YaccKind) → HaveNoParts kind xs
no_parts [] kind = λ e o at place prod s allowed. ap (λ s. parts_from place prod (steps_from kind e 0 s)) allowed.cut
no_parts (x ∷ xs) kind = λ e o at place prod s allowed. one_more x.word x xs kind e o at place prod s refl allowed (no_parts xs kind)

-- a grammar text is its own erasure
pub are_own_erasures : AreOwnErasures
are_own_erasures kind text o outlined =
    let have = outlined.have in
    let allowed : AreAllowed Declaration no_words 0 text outlined.reads.pieces =
    record {
      cut = outlined.reads.cut;
      last = (have.last, o);
      leads = ap (after_words Declaration no_words) (sym outlined.reads.listed) ∙ have.shape;
    } in
    ap (erased_from text 0) (no_parts outlined.reads.pieces kind Declaration no_words 0 0 0 text allowed)
