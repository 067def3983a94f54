-- Precedences by names: a map of them, and the slots of tokens and productions.
use Rattle.std.proofs.Common.{◌≡◌, ◌<◌, ◌+◌, ◌++◌, ◌∷◌, ◌==◌, ◌∙◌, ℕ, zero, suc, Bool, true, false, cond, List, [], Option, Some, None, Bor, bytes_eq, drop, get_or, length, map, take, slice_get, slice_index_or, refl, sym, ap, subst}
use Rattle.std.specs.BTreeMap.{BTreeMap}
use Rattle.std.specs.Cmp.Lexicographic.{nat_list_eq_equiv}
use Rattle.std.specs.List.{flat_map, range_with_len}
use Rattle.std.specs.Map.{lookup, update}
use Rattle.std.specs.Option.{is_some, option_and_then, option_map_or, option_or}
use Rattle.std.proofs.lemmas.List.{append_assoc, drop_more, get_or-map, map-append, take_more}
use Rattle.std.proofs.lemmas.Slice.Eq.{bytes_eq-Decides}
use Rattle.lrpar_grammar_places.proofs.ListLemmas.{map-take_more}
use Rattle.lrpar_grammar.specs.Grammar.{TokenName}
use Rattle.lrpar_grammar_words.specs.declared.words.Word.{Word}
use Rattle.lrpar_grammar_words.specs.Words.{PlacedWord, placed}
use Rattle.lrpar_grammar_yacc.specs.declared.declarations.Level.{Level}
use Rattle.lrpar_grammar_yacc.specs.declared.declarations.Prec.{Prec}
use Rattle.lrpar_grammar_yacc.specs.Declares.{TextLevel, TextPrec, level_of, prec_of}
use Rattle.lrpar_table_precedence.specs.declared.precedence.Precedence.{Precedence}
use Rattle.lrpar_table_levels.specs.ByName.{HasPrecedences, names_at, prec_of_prod, precedence_in, text_level_at}
use Rattle.lrpar_table_levels.proofs.FilledLemmas.{empty_from_test, lookup_push, or_none}
use Rattle.lrpar_table_levels.proofs.LevelLemmas.{flat_more}

-- what is there, or something else
or_some : (o other : Option Precedence) → is_some o ≡ true → option_or o other ≡ o
or_some None other is = absurd (cc)
or_some (Some x) other is = refl

-- equal names, by the test the other way round
same_names : (a b : List ℕ) → bytes_eq a b ≡ true → b ≡ a
same_names a b is = sym ((bytes_eq-Decides a b).0 is)

module _ (m : BTreeMap (Bor (List ℕ)) Precedence) (es : List (List ℕ × Precedence)) (name : List ℕ) (x : Precedence) (has : HasPrecedences m es) where
  -- one more name, which isn't there
  pub name_put : (n : BTreeMap (Bor (List ℕ)) Precedence) → precedence_in m name ≡ None
      → ((q : List ℕ) → precedence_in n q ≡ update bytes_eq (precedence_in m) name (Some x) q) → HasPrecedences n (es ++ (name, x) ∷ [])
  name_put n none put q =
      put q
      ∙ by_test (bytes_eq name q) refl
      ∙ sym (lookup_push (bytes_eq q) es (name, x))
    where
      by_test : (b : Bool) → bytes_eq name q ≡ b
          → cond b (Some x) (precedence_in m q) ≡ option_or (lookup (bytes_eq q) es) (cond (bytes_eq q name) (Some x) None)
      by_test true is =
          let none_here : lookup (bytes_eq q) es ≡ None = sym (has q) ∙ ap (precedence_in m) (same_names name q is) ∙ none in
          let there : bytes_eq q name ≡ true = nat_list_eq_equiv.symm q name ∙ is in
          sym (ap (λ o. option_or o (cond (bytes_eq q name) (Some x) None)) none_here ∙ ap (λ b. cond b (Some x) None) there)
      by_test false is =
          let there : bytes_eq q name ≡ false = nat_list_eq_equiv.symm q name ∙ is in
          has q ∙ sym (ap (λ b. option_or (lookup (bytes_eq q) es) (cond b (Some x) None)) there ∙ or_none (lookup (bytes_eq q) es))

  -- one more name, which is there already
  pub name_kept : is_some (precedence_in m name) ≡ true → HasPrecedences m (es ++ (name, x) ∷ [])
  name_kept some q =
      has q
      ∙ by_test (bytes_eq q name) refl
      ∙ sym (lookup_push (bytes_eq q) es (name, x))
    where
      by_test : (b : Bool) → bytes_eq q name ≡ b → lookup (bytes_eq q) es ≡ option_or (lookup (bytes_eq q) es) (cond b (Some x) None)
      by_test true is =
          let here : is_some (lookup (bytes_eq q) es) ≡ true = ap is_some (sym (has q)) ∙ ap (λ s. is_some (precedence_in m s)) (sym (same_names q name is)) ∙ some in
          sym (or_some (lookup (bytes_eq q) es) (Some x) here)
      by_test false is = sym (or_none (lookup (bytes_eq q) es))

-- the entries of words with one precedence
abbrev pub entries_of : Precedence → List Word → List (List ℕ × Precedence)
entries_of x words = map (λ w. (w.name, x)) (map placed words)

-- those of one more word
pub entries_more : (es : List (List ℕ × Precedence)) (x : Precedence) (words : List Word) (i : ℕ) (d : Word) → i < length words
    → es ++ entries_of x (take (i + 1) words) ≡ (es ++ entries_of x (take i words)) ++ ((placed (get_or words i d)).name, x) ∷ []
entries_more es x words i d within =
    let w = get_or words i d in
    let f : PlacedWord → List ℕ × Precedence = λ w. (w.name, x) in
    let more : entries_of x (take (i + 1) words) ≡ entries_of x (take i words) ++ ((placed w).name, x) ∷ [] =
    ap (entries_of x) (take_more words i d within) ∙ ap (map f) (map-append placed (take i words) (w ∷ []))
    ∙ map-append f (map placed (take i words)) (placed w ∷ []) in
    ap (λ s. es ++ s) more ∙ sym (append_assoc es (entries_of x (take i words)) (((placed w).name, x) ∷ []))

-- a map with one more word
module _ (words : List Word) (i : ℕ) (d : Word) (x : Precedence) (es : List (List ℕ × Precedence)) (m all : BTreeMap (Bor (List ℕ)) Precedence)
    (within : i < length words) (has : HasPrecedences m (es ++ entries_of x (take i words))) where
  pub word_put : (n : BTreeMap (Bor (List ℕ)) Precedence) → all ≡ n → is_some (precedence_in m (placed (get_or words i d)).name) ≡ false
      → ((q : List ℕ) → precedence_in n q ≡ update bytes_eq (precedence_in m) (placed (get_or words i d)).name (Some x) q)
      → HasPrecedences all (es ++ entries_of x (take (i + 1) words))
  word_put n is none put =
      let name = (placed (get_or words i d)).name in
      subst (HasPrecedences all) (sym (entries_more es x words i d within))
      (subst (λ k. HasPrecedences k ((es ++ entries_of x (take i words)) ++ (name, x) ∷ [])) (sym is)
      (name_put m (es ++ entries_of x (take i words)) name x has n (empty_from_test (precedence_in m name) none) put))

  pub word_kept : all ≡ m → is_some (precedence_in m (placed (get_or words i d)).name) ≡ true
      → HasPrecedences all (es ++ entries_of x (take (i + 1) words))
  word_kept is some =
      let name = (placed (get_or words i d)).name in
      subst (HasPrecedences all) (sym (entries_more es x words i d within))
      (subst (λ k. HasPrecedences k ((es ++ entries_of x (take i words)) ++ (name, x) ∷ [])) (sym is)
      (name_kept m (es ++ entries_of x (take i words)) name x has some))

-- the entries of one more level
pub level_more : (levels : List Level) (n : ℕ) (level : Level) (x : Precedence) (words : List Word) → n < length levels → level ≡ get_or levels n level
    → x ≡ record { level = n; kind = level.kind } → words ≡ level.names.items
    → flat_map (names_at (map level_of levels)) (range_with_len 0 n) ++ entries_of x words
    ≡ flat_map (names_at (map level_of levels)) (range_with_len 0 (n + 1))
level_more levels n level x words within is precedence words_are =
    let plain = map level_of levels in
    let here : text_level_at plain n ≡ level_of level = get_or-map level_of levels n level _ within ∙ ap level_of (sym is) in
    let own : entries_of x words ≡ names_at plain n =
    ap (λ p. entries_of p words) precedence ∙ ap (entries_of (record { level = n; kind = level.kind })) words_are
    ∙ ap (λ (l : TextLevel). map (λ (w : PlacedWord). (w.name, record { level = n; kind = l.kind })) l.names) (sym here) in
    ap (λ s. flat_map (names_at plain) (range_with_len 0 n) ++ s) own ∙ sym (flat_more (names_at plain) n)

-- the precedences of names so far, and of one more
pub name_slots : {X : Type 0} (name : X → List ℕ) (f : List ℕ → Option Precedence) (xs : List X) (i : ℕ) (x : X) (before after : List (Option Precedence)) (o : Option Precedence)
    → i < length xs → x ≡ get_or xs i x → o ≡ f (name x) → before ≡ map f (map name (take i xs)) → after ≡ before ++ o ∷ []
    → after ≡ map f (map name (take (i + 1) xs))
name_slots name f xs i x before after o within is own so_far pushed =
    pushed ∙ ap (λ s. s ++ o ∷ []) so_far ∙ ap (λ p. map f (map name (take i xs)) ++ p ∷ []) own
    ∙ sym (ap (map f) (map-take_more name xs i x within is) ∙ map-append f (map name (take i xs)) (name x ∷ []))

-- the slots of tokens, by their names
pub slot_of_token : (f h : List ℕ → Option Precedence) → ((q : List ℕ) → f q ≡ h q) → (tokens : List TokenName) (t : ℕ)
    → slice_index_or (map f (map (λ token. token.name) tokens)) t None ≡ option_and_then (λ token. h token.name) (slice_get tokens t)
slot_of_token f h same [] t = refl
slot_of_token f h same (token ∷ tokens) zero = same token.name
slot_of_token f h same (token ∷ tokens) (suc t) = slot_of_token f h same tokens t

-- the first `%prec` of a production among the rest
pub prec_here : (precs : List Prec) (i : ℕ) (d : Prec) (p : ℕ) → i < length precs
    → prec_of_prod (map prec_of (drop i precs)) p
    ≡ cond ((get_or precs i d).prod == p) (Some (prec_of (get_or precs i d))) (prec_of_prod (map prec_of (drop (i + 1) precs)) p)
prec_here precs i d p within = ap (λ s. prec_of_prod (map prec_of s) p) (drop_more precs i d within)

-- the precedence of a production, by what the names and its last token have
pub named_or : (f h : List ℕ → Option Precedence) → ((q : List ℕ) → f q ≡ h q) → (o : Option TextPrec) (a b : Option Precedence) → a ≡ b
    → option_map_or (λ (x : TextPrec). f x.name.name) o a ≡ option_map_or (λ (x : TextPrec). h x.name.name) o b
named_or f h same None a b is = is
named_or f h same (Some x) a b is = same x.name.name
