-- Each alternative is of a defined rule, and has its parts in the order of the text.
use Rattle.std.proofs.Common.{◌≡◌, ◌<◌, ◌≤◌, ◌-◌, ◌++◌, ℕ, List, [], ◌∷◌, length, map, get_or, Option, Some, None, option_map, refl, sym, subst, arith}
use Rattle.std.specs.List.{All, AllPairs, Contains}
use Rattle.std.specs.Option.{option_map_or, option_to_list}
use Rattle.std.proofs.lemmas.Bool.{cond_both}
use Rattle.std.proofs.lemmas.List.{get_or-map, length-map}
use Rattle.std.proofs.lemmas.List.Elements.{All-append, All-cons, All-head, All-nil, All-push, All-weaker, Contains-append_left}
use Rattle.std.proofs.lemmas.List.Quantifiers.{all_pairs_push}
use Rattle.std.proofs.lemmas.Option.{get_or_from_slice_get, slice_get_within}
use Rattle.lrpar_grammar_bison.specs.Words.{PlacedWord}
use Rattle.lrpar_grammar_bison.specs.WordList.{read}
use Rattle.lrpar_grammar_bison.proofs.OrderLemmas.{AreInOrder, LiesBetween, others_in_order, words_in_order}
use Rattle.lrpar_grammar_bison_rules.specs.declared.word_order.Expected.{Expected}
use Rattle.lrpar_grammar_bison_rules.specs.declared.word_order.Expected.TheVariants.{Declaration}
use Rattle.lrpar_grammar_bison_rules.specs.declared.word_order.Role.{Role}
use Rattle.lrpar_grammar_bison_rules.specs.declared.word_order.Role.TheVariants.{Nothing, Start, Token, Alias, Number, LevelNumber, Level, LevelName, Expected as ExpectedRole, ExpectedRr, Glr, DefaultPrec, Defined, Item}
use Rattle.lrpar_grammar_bison_rules.specs.declared.word_order.Step.{Step}
use Rattle.lrpar_grammar_bison_rules.specs.Rules.{AreOfDefinedRules, AreRulesOfText, HaveOrderedItems, FileAlternative, FileItem, Rules, RulesRead, end_word, ended, finished, last_of, no_rules, read_on, rules_read, with_closed, with_first_aliases, with_role, with_step, words_in}
use Rattle.lrpar_grammar_bison_rules.specs.Signs.{sign_of}
use Rattle.lrpar_grammar_bison.specs.Spellings.{CharacterName, respelled, spellings_of}
use Rattle.lrpar_grammar_bison_rules.specs.WordOrder.{after, is_in_alternative}

-- each part ends at or before the start of the next
abbrev AreItemsInOrder : List FileItem → Type 0
AreItemsInOrder items = AllPairs (λ a b. a.word.span.end ≤ b.word.span.start) items

-- The parts so far end at or before the place and are in order, as are those of the alternatives that have ended. Each of these is of a
-- defined rule.
record AreSoundTo (place : ℕ) (r : Rules) : Type 0 where
  pub defined : AreOfDefinedRules r
  pub before : All (λ x. x.word.span.end ≤ place) r.items
  pub apart : AreItemsInOrder r.items
  pub ended : HaveOrderedItems r

-- no words
none_sound : AreSoundTo 0 no_rules
none_sound = record {
  defined = All-nil (λ (x : FileAlternative). Contains no_rules.defined x.rule);
  before = All-nil (λ (x : FileItem). x.word.span.end ≤ 0);
  apart = λ i j d before within. absurd (omega arith);
  ended = All-nil (λ (x : FileAlternative). AreItemsInOrder x.items);
}

-- what ends before a place ends before a later one
later_sound : (place later : ℕ) (r : Rules) → place ≤ later → AreSoundTo place r → AreSoundTo later r
later_sound place later r le sound = record {
  defined = sound.defined;
  before = All-weaker (λ (x : FileItem). x.word.span.end ≤ place) (λ (x : FileItem). x.word.span.end ≤ later) (λ x ends. omega arith) r.items sound.before;
  apart = sound.apart;
  ended = sound.ended;
}

-- what holds of the alternative that a word ends, if there is one
of_ended : (P : FileAlternative → Type 0) (r : Rules) (w : PlacedWord) (last : Option PlacedWord)
    → ((rule : PlacedWord) → last ≡ Some rule → P (record { rule = rule; items = r.items; end = w }))
    → All P (option_to_list (option_map (λ rule. record { rule = rule; items = r.items; end = w }) last))
of_ended P r w None holds = All-nil P
of_ended P r w (Some rule) holds = All-cons P (record { rule = rule; items = r.items; end = w }) [] (holds rule refl) (All-nil P)

-- an alternative ends
closed_sound : (place : ℕ) (r : Rules) (w : PlacedWord) → AreSoundTo place r → AreSoundTo place (with_closed r w)
closed_sound place r w sound =
    let P : FileAlternative → Type 0 = λ x. Contains r.defined x.rule in
    let Q : FileAlternative → Type 0 = λ x. AreItemsInOrder x.items in
    let k = length r.defined - 1 in
    record {
      defined = All-append P r.alternatives (ended r w) sound.defined
          (of_ended P r w (last_of r.defined) (λ rule is. (k, slice_get_within r.defined k rule is, get_or_from_slice_get r.defined k rule rule is)));
      before = All-nil (λ (x : FileItem). x.word.span.end ≤ place);
      apart = λ i j d before within. absurd (omega arith);
      ended = All-append Q r.alternatives (ended r w) sound.ended (of_ended Q r w (last_of r.defined) (λ rule is. sound.apart));
    }

-- one more word, by its role
role_sound : (place later : ℕ) (r : Rules) (role : Role) (w : PlacedWord) → place ≤ w.span.start → w.span.end ≤ later → place ≤ later
    → AreSoundTo place r → AreSoundTo later (with_role r role w)
unfolding with_role
role_sound place later r Nothing w from to le sound = later_sound place later r le sound
role_sound place later r Start w from to le sound = let h = later_sound place later r le sound in record { defined = h.defined; before = h.before; apart = h.apart; ended = h.ended }
role_sound place later r Token w from to le sound = let h = later_sound place later r le sound in record { defined = h.defined; before = h.before; apart = h.apart; ended = h.ended }
role_sound place later r Alias w from to le sound = let h = later_sound place later r le sound in record { defined = h.defined; before = h.before; apart = h.apart; ended = h.ended }
role_sound place later r Number w from to le sound = let h = later_sound place later r le sound in record { defined = h.defined; before = h.before; apart = h.apart; ended = h.ended }
role_sound place later r LevelNumber w from to le sound = let h = later_sound place later r le sound in record { defined = h.defined; before = h.before; apart = h.apart; ended = h.ended }
role_sound place later r (Level kind) w from to le sound = let h = later_sound place later r le sound in record { defined = h.defined; before = h.before; apart = h.apart; ended = h.ended }
role_sound place later r LevelName w from to le sound = let h = later_sound place later r le sound in record { defined = h.defined; before = h.before; apart = h.apart; ended = h.ended }
role_sound place later r ExpectedRole w from to le sound = let h = later_sound place later r le sound in record { defined = h.defined; before = h.before; apart = h.apart; ended = h.ended }
role_sound place later r ExpectedRr w from to le sound = let h = later_sound place later r le sound in record { defined = h.defined; before = h.before; apart = h.apart; ended = h.ended }
role_sound place later r Glr w from to le sound = let h = later_sound place later r le sound in record { defined = h.defined; before = h.before; apart = h.apart; ended = h.ended }
role_sound place later r (DefaultPrec has) w from to le sound = let h = later_sound place later r le sound in record { defined = h.defined; before = h.before; apart = h.apart; ended = h.ended }
role_sound place later r Defined w from to le sound =
    let h = later_sound place later r le sound in
    record {
      defined = All-weaker (λ (x : FileAlternative). Contains r.defined x.rule) (λ (x : FileAlternative). Contains (r.defined ++ w ∷ []) x.rule)
          (λ x known. Contains-append_left r.defined (w ∷ []) x.rule known) r.alternatives h.defined;
      before = h.before;
      apart = h.apart;
      ended = h.ended;
    }
role_sound place later r (Item kind) w from to le sound =
    let h = later_sound place later r le sound in
    record {
      defined = h.defined;
      before = All-push (λ (x : FileItem). x.word.span.end ≤ later) r.items (record { kind = kind; word = w }) h.before to;
      apart = all_pairs_push (λ (a b : FileItem). a.word.span.end ≤ b.word.span.start) r.items (record { kind = kind; word = w }) sound.apart
          (λ k d within. let ends : (get_or r.items k d).word.span.end ≤ place = sound.before k d within in omega arith);
      ended = h.ended;
    }

-- one more word
step_sound : (place to : ℕ) (r : Rules) (step : Step) (w : PlacedWord) → LiesBetween place to w → AreSoundTo place r → AreSoundTo w.span.end (with_step r step w)
step_sound place to r step w lies sound =
    let later : place ≤ w.span.end = omega (arith, lies.start, lies.whole) in
    cond_both step.closes (with_closed r w) r (λ q. AreSoundTo w.span.end (with_role q step.role w))
    (λ _. role_sound place w.span.end (with_closed r w) step.role w lies.start (omega arith) later (closed_sound place r w sound))
    (λ _. role_sound place w.span.end r step.role w lies.start (omega arith) later sound)

-- what is read at a word, by what the word does
by_step : (place to : ℕ) (next : Expected) (r : Rules) (w : PlacedWord) (ws : List PlacedWord) (step : Option Step) → LiesBetween place to w → AreSoundTo place r
    → ((next : Expected) (q : Rules) → AreSoundTo w.span.end q → AreSoundTo to (read_on next q ws).rules)
    → AreSoundTo to (option_map_or (λ (step : Step). read_on step.next (with_step r step w) ws) step (record { rules = r; next = next; refused = Some w })).rules
by_step place to next r w ws None lies sound onward = later_sound place to r (omega (arith, lies.start, lies.whole, lies.end)) sound
by_step place to next r w ws (Some step) lies sound onward = onward step.next (with_step r step w) (step_sound place to r step w lies sound)

-- what is read of words that are in order
read_sound : (place to : ℕ) (next : Expected) (r : Rules) (ws : List PlacedWord) → place ≤ to → AreInOrder place to ws → AreSoundTo place r
    → AreSoundTo to (read_on next r ws).rules
read_sound place to next r [] le order sound = later_sound place to r le sound
read_sound place to next r (w ∷ ws) le order sound =
    let lies = All-head (LiesBetween place to) w ws order.each in
    by_step place to next r w ws (after next (sign_of w ws)) lies sound
    (λ n q kept. read_sound w.span.end to n q ws lies.end (others_in_order place to w ws order) kept)

-- a word with the one name of its symbol lies where the word does
respelled_lies : (spellings : List CharacterName) (from to : ℕ) (w : PlacedWord) → LiesBetween from to w → LiesBetween from to (respelled spellings w)
respelled_lies spellings from to w lies = record { start = lies.start; whole = lies.whole; end = lies.end }

-- so do all
respelled_in_order : (spellings : List CharacterName) (from to : ℕ) (ws : List PlacedWord) → AreInOrder from to ws → AreInOrder from to (map (respelled spellings) ws)
respelled_in_order spellings from to ws order = record {
  each = λ k d within.
      let inside : k < length ws = omega (arith, within, length-map ws (respelled spellings)) in
      subst (LiesBetween from to) (sym (get_or-map (respelled spellings) ws k d d inside)) (respelled_lies spellings from to (get_or ws k d) (order.each k d inside));
  apart = λ i j d before within.
      let inside : j < length ws = omega (arith, within, length-map ws (respelled spellings)) in
      let first = get_or-map (respelled spellings) ws i d d (omega (arith, before, inside)) in
      let second = get_or-map (respelled spellings) ws j d d inside in
      rw (first, second) (order.apart i j d before inside);
}

-- the same with the last alternative ended
finished_sound : (place len : ℕ) (x : RulesRead) → AreSoundTo place x.rules → AreSoundTo place (finished len x)
finished_sound place len x sound =
    cond_both (is_in_alternative x.next) (with_closed x.rules (end_word len)) x.rules (AreSoundTo place) (λ _. closed_sound place x.rules (end_word len) sound) (λ _. sound)

-- the same with those texts alone that are names of tokens
first_sound : (place : ℕ) (r : Rules) → AreSoundTo place r → AreSoundTo place (with_first_aliases r)
first_sound place r sound = record { defined = sound.defined; before = sound.before; apart = sound.apart; ended = sound.ended }

-- the declarations and rules of a text
text_sound : (text : List ℕ) (r : Rules) → AreRulesOfText text r → AreSoundTo (length text) r
text_sound text r are =
    let order = respelled_in_order (spellings_of (read text).words) 0 (length text) (read text).words (words_in_order text) in
    subst (AreSoundTo (length text)) (sym are.is)
    (first_sound (length text) are.all (subst (AreSoundTo (length text)) (sym are.whole.is)
    (finished_sound (length text) (length text) (rules_read (words_in text)) (read_sound 0 (length text) Declaration no_rules (words_in text) (omega arith) order none_sound))))

-- each alternative of a text is of a defined rule
pub text_defined : (text : List ℕ) (r : Rules) → AreRulesOfText text r → AreOfDefinedRules r
text_defined text r are = (text_sound text r are).defined

-- and has its parts in the order of the text
pub text_ordered : (text : List ℕ) (r : Rules) → AreRulesOfText text r → HaveOrderedItems r
text_ordered text r are = (text_sound text r are).ended
