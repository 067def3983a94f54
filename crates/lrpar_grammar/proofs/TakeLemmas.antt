-- A list of texts, taken one by one: when it lists the productions, and which fault it has.
use Rattle.std.proofs.Common.{◌≡◌, ◌<◌, ◌≤◌, ℕ, List, get_or, length, take, Option, Some, None, string_bytes, refl, subst, sym, ◌∙◌, arith}
use Rattle.std.specs.Option.{IsSome}
use Rattle.std.specs.BTreeMap.{BTreeMap}
use Rattle.std.specs.Borrow.{Bor}
use Rattle.lrpar_grammar_reader.specs.Grammar.{Grammar}
use Rattle.lrpar_grammar.specs.declared.grammar.spelled_fault.SpelledFault.{SpelledFault}
use Rattle.lrpar_grammar.specs.declared.grammar.spelled_fault.SpelledFault.TheVariants.{Unknown, Repeated, Missing, Memory}
use Rattle.lrpar_grammar.specs.Matching.{AreMatched, HaveTexts, IsFirstWithout, IsTextIndexOf}
use Rattle.lrpar_grammar.specs.Spelled.{IsListing, NamedSymbols, SpellEach, SpellsNumbers, count_of, numbered_prods, named_symbols, numbers_at}
use Rattle.lrpar_grammar.specs.SpelledFaults.{GoWell, IsMissingAt, IsMissingOf, IsRepeatedAt, IsRepeatedOf, IsSpelledFault, IsTextFault, IsUnknownAt, IsUnknownOf}
use Rattle.lrpar_grammar.proofs.CountLemmas.{count_before}
use Rattle.lrpar_grammar.proofs.ListingLemmas.{listed_len, spell_len, spells_one}
use Rattle.lrpar_grammar.proofs.MatchingLemmas.{all_of}

-- a value that is there
some_of : (o : Option ℕ) → IsSome o → (t : ℕ) × (o ≡ Some t)
some_of None is = absurd (cc)
some_of (Some t) is = (t, refl)

-- the faults of a text, by the fault that is made
pub unknown_fault : (n : NamedSymbols) (prods texts : List (List ℕ)) (bytes : List ℕ) (at : ℕ) → IsUnknownAt n prods texts bytes at
    → (fault : SpelledFault) → IsUnknownOf bytes at fault → IsTextFault n prods texts fault
unknown_fault n prods texts bytes at bad (Unknown text place) is =
    subst (λ b. IsUnknownAt n prods texts b place) (sym is.0) (subst (IsUnknownAt n prods texts bytes) (sym is.1) bad)
unknown_fault n prods texts bytes at bad (Repeated text place) is = absurd is
unknown_fault n prods texts bytes at bad (Missing text) is = absurd is
unknown_fault n prods texts bytes at bad Memory is = tt

pub repeated_fault : (n : NamedSymbols) (prods texts : List (List ℕ)) (bytes : List ℕ) (at : ℕ) → IsRepeatedAt n prods texts bytes at
    → (fault : SpelledFault) → IsRepeatedOf bytes at fault → IsTextFault n prods texts fault
repeated_fault n prods texts bytes at bad (Repeated text place) is =
    subst (λ b. IsRepeatedAt n prods texts b place) (sym is.0) (subst (IsRepeatedAt n prods texts bytes) (sym is.1) bad)
repeated_fault n prods texts bytes at bad (Unknown text place) is = absurd is
repeated_fault n prods texts bytes at bad (Missing text) is = absurd is
repeated_fault n prods texts bytes at bad Memory is = tt

-- and of a production
pub missing_fault : (g : Grammar) (texts : List (List ℕ)) (p : ℕ) → IsMissingAt (named_symbols g) (numbered_prods g) texts p
    → (fault : SpelledFault) → IsMissingOf g p fault → IsSpelledFault g texts fault
missing_fault g texts p bad (Missing text) is = (p, bad, is)
missing_fault g texts p bad (Unknown text place) is = absurd is
missing_fault g texts p bad (Repeated text place) is = absurd is
missing_fault g texts p bad Memory is = tt

-- the fault of a text is one of the list
pub text_fault : (g : Grammar) (prods texts : List (List ℕ)) (n : NamedSymbols) → prods ≡ numbered_prods g → n ≡ named_symbols g → (fault : SpelledFault)
    → IsTextFault n prods texts fault → IsSpelledFault g texts fault
text_fault g prods texts n prods_are names_are (Unknown text place) is =
    subst (λ m. IsUnknownAt m (numbered_prods g) texts (string_bytes text) place) names_are (subst (λ ps. IsUnknownAt n ps texts (string_bytes text) place) prods_are is)
text_fault g prods texts n prods_are names_are (Repeated text place) is =
    subst (λ m. IsRepeatedAt m (numbered_prods g) texts (string_bytes text) place) names_are (subst (λ ps. IsRepeatedAt n ps texts (string_bytes text) place) prods_are is)
text_fault g prods texts n prods_are names_are (Missing text) is = absurd is
text_fault g prods texts n prods_are names_are Memory is = tt

module _ (n : NamedSymbols) (prods spelled : List (List ℕ)) (first : BTreeMap (Bor (List ℕ)) ℕ) (next free places : List (Option ℕ))
    (matched : AreMatched prods spelled first next free places) (texts : List (List ℕ)) where
  -- the texts are of productions
  pub go_well : SpellEach n texts spelled → GoWell n prods texts
  go_well spell = record { spelled = spelled; spell = spell; each = all_of prods spelled first next free places matched }

  -- a production without a text
  pub missing_at : SpellEach n texts spelled → (p : ℕ) → IsFirstWithout places p → IsMissingAt n prods texts p
  unfolding go_well
  missing_at spell p bad =
      let len = matched.texts_len in
      let below = bad.within in
      let within : p < length prods = omega arith in
      record {
        all = go_well spell;
        within = within;
        few = subst (IsTextIndexOf prods spelled p) bad.none (matched.texts_are p within);
        first = λ q before.
            let place = some_of (get_or places q None) (bad.first q before) in
            (place.0, subst (IsTextIndexOf prods spelled q) place.1 (matched.texts_are q (omega arith)));
      }

module _ (n : NamedSymbols) (prods spelled : List (List ℕ)) (first : BTreeMap (Bor (List ℕ)) ℕ) (next free places : List (Option ℕ))
    (matched : AreMatched prods spelled first next free places) (texts : List (List ℕ)) (place : ℕ) (bytes : List ℕ)
    (within : place < length texts) (is : bytes ≡ numbers_at texts place) (spell : SpellEach n (take place texts) spelled) where
  -- a text that has no form of a production
  pub unread_at : ((numbers : List ℕ) → SpellsNumbers n bytes numbers → ⊥) → IsUnknownAt n prods texts bytes place
  unread_at unread = record {
    within = within;
    is = is;
    before = go_well n prods spelled first next free places matched (take place texts) spell;
    unknown = λ p below spells. unread (numbers_at prods p) spells;
  }

  -- a text of a production that isn't there
  pub unknown_at : (numbers : List ℕ) → SpellsNumbers n bytes numbers → count_of numbers prods ≡ 0 → IsUnknownAt n prods texts bytes place
  unknown_at numbers spells none = record {
    within = within;
    is = is;
    before = go_well n prods spelled first next free places matched (take place texts) spell;
    unknown = λ p below again.
        let less = count_before numbers prods p below (spells_one n bytes (numbers_at prods p) numbers again spells) in
        absurd (omega arith);
  }

  -- a text too many
  pub repeated_at : (numbers : List ℕ) → SpellsNumbers n bytes numbers → (0 < count_of numbers prods) × (count_of numbers prods ≤ count_of numbers spelled)
      → IsRepeatedAt n prods texts bytes place
  unfolding go_well
  repeated_at numbers spells full = record {
    within = within;
    is = is;
    before = go_well n prods spelled first next free places matched (take place texts) spell;
    numbers = numbers;
    spells = spells;
    known = full.0;
    full = full.1;
  }

-- the texts list the productions
pub listing : (g : Grammar) (prods texts spelled : List (List ℕ)) (first : BTreeMap (Bor (List ℕ)) ℕ) (next free places : List (Option ℕ))
    → prods ≡ numbered_prods g → AreMatched prods spelled first next free places → SpellEach (named_symbols g) texts spelled
    → HaveTexts places (length places) → IsListing g texts places
listing g prods texts spelled first next free places prods_are so_far spell all =
    let matched : AreMatched (numbered_prods g) spelled first next free places = subst (λ ps. AreMatched ps spelled first next free places) prods_are so_far in
    let count = listed_len g in
    let len = matched.texts_len in
    record {
      spelled = spelled;
      spell = spell;
      len = len ∙ count;
      each_prod = λ p within.
          let place = some_of (get_or places p None) (all p (omega arith)) in
          record { place = place.0; at = place.1; is = subst (IsTextIndexOf (numbered_prods g) spelled p) place.1 (matched.texts_are p (omega arith)) };
      each_text = λ t within. matched.taken t (let same = spell_len (named_symbols g) texts spelled spell in omega arith);
    }
