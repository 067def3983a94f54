-- How the words of a file are read, one after another.
use Rattle.std.proofs.Common.{◌≡◌, ◌∙◌, ◌<◌, ◌≤◌, ◌+◌, ◌-◌, ◌∷◌, [], ℕ, List, length, length-drop, map, take, drop, get_or, Option, None, Some, option_map, subst, sym, ap, arith}
use Rattle.std.specs.Option.{option_map_or, option_to_list}
use Rattle.std.proofs.lemmas.List.{drop-map, drop_all, drop_more, get_or-map, length-map, take_all}
use Rattle.lrpar_grammar_bison.specs.declared.words.Word.{Word}
use Rattle.lrpar_grammar_bison.specs.Words.{PlacedWord, placed}
use Rattle.lrpar_grammar_bison_rules.specs.declared.word_order.Expected.{Expected}
use Rattle.lrpar_grammar_bison_rules.specs.declared.word_order.Step.{Step}
use Rattle.lrpar_grammar_bison.specs.WordList.{Reading, read}
use Rattle.lrpar_grammar_bison_rules.specs.declared.rules.RulesFault.{RulesFault}
use Rattle.lrpar_grammar_bison_rules.specs.declared.rules.RulesFault.TheVariants.{Unread, Unexpected, End, Memory}
use Rattle.lrpar_grammar_bison_rules.specs.Rules.{AreRulesOfText, AreRulesOfWords, HasOrderFault, IsOrderFault, IsReadFault, IsRulesFault, IsWhole, Rules, RulesRead, alias_by, ended, last_of, numbered, read_on, rules_read, with_first_aliases, with_step, words_in}
use Rattle.lrpar_grammar_bison_rules.specs.Signs.{sign_of}
use Rattle.lrpar_grammar_bison.specs.Spellings.{all_respelled}
use Rattle.lrpar_grammar_bison_rules.specs.WordOrder.{after}

-- the alternative that a word ends, if a rule is defined
pub ended_is : (r : Rules) (w rule : PlacedWord) → last_of r.defined ≡ Some rule → ended r w ≡ record { rule = rule; items = r.items; end = w } ∷ []
ended_is r w rule found = ap (λ r'. option_to_list (option_map (λ x. record { rule = x; items = r.items; end = w }) r')) found

-- no alternative is ended, if none is
pub ended_none : (r : Rules) (w : PlacedWord) → last_of r.defined ≡ None → ended r w ≡ []
ended_none r w none = ap (λ r'. option_to_list (option_map (λ x. record { rule = x; items = r.items; end = w }) r')) none

-- the text of the last token, if there is one
pub alias_is : (r : Rules) (w token : PlacedWord) → last_of r.tokens ≡ Some token → alias_by r w ≡ record { token = token; text = w } ∷ []
alias_is r w token found = ap (λ t. option_to_list (option_map (λ x. record { token = x; text = w }) t)) found

-- what is read at a word, by what the word does
by_step : Rules → Expected → PlacedWord → List PlacedWord → Option Step → RulesRead
by_step r next w ws step =
    option_map_or (λ (step : Step). read_on step.next (with_step r step w) ws) step (record { rules = r; next = next; refused = Some w })

-- one more word
pub reads_step : (next : Expected) (r : Rules) (ws : List PlacedWord) (i : ℕ) (w : PlacedWord) (step : Step) → i < length ws → get_or ws i w ≡ w
    → after next (sign_of w (drop (i + 1) ws)) ≡ Some step → read_on next r (drop i ws) ≡ read_on step.next (with_step r step w) (drop (i + 1) ws)
unfolding after by_step
reads_step next r ws i w step within is does =
    ap (read_on next r) (drop_more ws i w within ∙ ap (λ x. x ∷ drop (i + 1) ws) is) ∙ ap (by_step r next w (drop (i + 1) ws)) does

-- a word that isn't allowed
pub reads_refused : (next : Expected) (r : Rules) (ws : List PlacedWord) (i : ℕ) (w : PlacedWord) → i < length ws → get_or ws i w ≡ w
    → after next (sign_of w (drop (i + 1) ws)) ≡ None → read_on next r (drop i ws) ≡ record { rules = r; next = next; refused = Some w }
unfolding after by_step
reads_refused next r ws i w within is does =
    ap (read_on next r) (drop_more ws i w within ∙ ap (λ x. x ∷ drop (i + 1) ws) is) ∙ ap (by_step r next w (drop (i + 1) ws)) does

-- no word is left
pub reads_end : (next : Expected) (r : Rules) (ws : List PlacedWord) (i : ℕ) → length ws ≤ i → read_on next r (drop i ws) ≡ record { rules = r; next = next; refused = None }
reads_end next r ws i past = ap (read_on next r) (drop_all i ws past)

-- why words can't be read is why their text has no declarations and rules
pub read_fault : (text : List ℕ) (fault : RulesFault) → IsReadFault text fault → IsRulesFault text fault
read_fault text (Unread place what) is = is
read_fault text (Unexpected span expected) is = absurd is
read_fault text (End expected) is = absurd is
read_fault text Memory is = tt

-- the words of a text that can be read, with one name for each symbol
pub words_are : (text : List ℕ) (words others : List Word) → read text ≡ record { words = map placed words; stuck = None }
    → map placed others ≡ all_respelled (map placed words) → map placed others ≡ words_in text
words_are text words others reads same = same ∙ sym (ap (λ (x : Reading). all_respelled x.words) reads)

-- what is wrong with the order of these words is why their text has no declarations and rules
pub order_fault : (text : List ℕ) (words others : List Word) (fault : RulesFault) → read text ≡ record { words = map placed words; stuck = None }
    → map placed others ≡ all_respelled (map placed words) → IsOrderFault others fault → IsRulesFault text fault
order_fault text words others (Unread place what) reads same is = absurd is
order_fault text words others (Unexpected span expected) reads same is =
    (ap (λ (x : Reading). x.stuck) reads, subst (λ (ws : List PlacedWord). HasOrderFault (rules_read ws) (Unexpected span expected)) (words_are text words others reads same) is)
order_fault text words others (End expected) reads same is =
    (ap (λ (x : Reading). x.stuck) reads, subst (λ (ws : List PlacedWord). HasOrderFault (rules_read ws) (End expected)) (words_are text words others reads same) is)
order_fault text words others Memory reads same is = tt

-- these words make the declarations and rules of their text
pub text_rules : (text : List ℕ) (words others : List Word) (all r : Rules) → read text ≡ record { words = map placed words; stuck = None }
    → map placed others ≡ all_respelled (map placed words) → AreRulesOfWords (length text) others all → r ≡ with_first_aliases all → AreRulesOfText text r
text_rules text words others all r reads same are is = record {
  all = all;
  readable = ap (λ (x : Reading). x.stuck) reads;
  whole = subst (λ (ws : List PlacedWord). IsWhole (length text) (rules_read ws) all) (words_are text words others reads same) are;
  is = is;
}

-- the number of a token, if there is one
pub numbered_is : (found : Option PlacedWord) (w token : PlacedWord) → found ≡ Some token → numbered found w ≡ record { token = token; number = w } ∷ []
numbered_is found w token is = ap (λ t. option_to_list (option_map (λ x. record { token = x; number = w }) t)) is

-- the words after one of them, as plain data
after_word : (words : List Word) (i : ℕ) → map placed (take (length words - (i + 1)) (drop (i + 1) words)) ≡ drop (i + 1) (map placed words)
after_word words i =
    ap (map placed) (take_all (length words - (i + 1)) (drop (i + 1) words) (omega (arith, length-drop (i + 1) words))) ∙ sym (drop-map placed (i + 1) words)

module _ (words : List Word) (i : ℕ) (d : Word) (within : i < length words) (next : Expected) (r : Rules) where
  -- the word, and what it does if it is allowed
  abbrev word : PlacedWord
  word = placed (get_or words i d)

  abbrev does : Option Step
  does = after next (sign_of word (map placed (take (length words - (i + 1)) (drop (i + 1) words))))

  within_placed : i < length (map placed words)
  within_placed = omega (arith, within, length-map words placed)

  is_word : get_or (map placed words) i word ≡ word
  is_word = get_or-map placed words i d word within

  does_so : after next (sign_of word (drop (i + 1) (map placed words))) ≡ does
  does_so = ap (λ ws. after next (sign_of word ws)) (sym (after_word words i))

  -- one more word of some that are stored
  pub reads_word : (step : Step) → does ≡ Some step → read_on next r (drop i (map placed words)) ≡ read_on step.next (with_step r step word) (drop (i + 1) (map placed words))
  reads_word step is = reads_step next r (map placed words) i word step within_placed is_word (does_so ∙ is)

  -- one of them that isn't allowed
  pub reads_no_word : does ≡ None → read_on next r (drop i (map placed words)) ≡ record { rules = r; next = next; refused = Some word }
  reads_no_word is = reads_refused next r (map placed words) i word within_placed is_word (does_so ∙ is)

-- none is left
pub reads_no_more : (words : List Word) (i : ℕ) (next : Expected) (r : Rules) → length words ≤ i
    → read_on next r (drop i (map placed words)) ≡ record { rules = r; next = next; refused = None }
reads_no_more words i next r past = reads_end next r (map placed words) i (omega (arith, past, length-map words placed))
