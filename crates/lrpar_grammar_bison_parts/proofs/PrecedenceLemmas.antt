-- Precedences of tokens and productions, one after another.
use Rattle.std.proofs.Common.{◌≡◌, ◌<◌, ◌≤◌, ◌+◌, ◌++◌, ◌||◌, [], ◌∷◌, ℕ, List, Bool, true, false, cond, bytes_eq, nat_cmp, map, take, drop, get_or, length, length-take-le, Bor, Option, Some, None, option_map, refl, ap, sym, subst, ◌∙◌, arith}
use Rattle.std.specs.BTreeMap.{BTreeMap, get_by}
use Rattle.std.specs.Cmp.Lexicographic.{slice_cmp}
use Rattle.std.specs.List.{find, list_any}
use Rattle.std.specs.Map.{update}
use Rattle.std.specs.Option.{is_some}
use Rattle.std.proofs.lemmas.List.{drop_more, length-map, map_more}
use Rattle.std.proofs.lemmas.Slice.Eq.{bytes_eq-Decides}
use Rattle.lrpar_grammar_places.specs.Span.{Extent}
use Rattle.lrpar_grammar_reader.specs.Grammar.{GrammarSymbol, Production}
use Rattle.lrpar_grammar_words.specs.Words.{PlacedWord as PlacedTextWord}
use Rattle.lrpar_table_precedence.specs.declared.precedence.Precedence.{Precedence}
use Rattle.lrpar_grammar_bison_parts.specs.declared.precedences.Rank.{Rank}
use Rattle.lrpar_grammar_bison_parts.specs.Precedences.{MapsRanks, NamedRank, Ranking, has_rank, named_rank_of, prod_slot, prod_slots, rank_with, repeated_after}
use Rattle.lrpar_grammar_bison_rules.proofs.AliasLemmas.{first_more, put}

-- whether there is a first one, and whether there is any
any_first : {X Y : Type 0} (f : X → Y) (p : X → Bool) (xs : List X) → is_some (option_map f (find p xs)) ≡ list_any p xs
any_first f p [] = refl
any_first {X} f p (x ∷ xs) = step (p x) refl (any_first f p xs)
  where
    step : (b : Bool) → p x ≡ b → is_some (option_map f (find p xs)) ≡ list_any p xs → is_some (option_map f (find p (x ∷ xs))) ≡ list_any p (x ∷ xs)
    step true met rest = ap (λ b. is_some (option_map f (cond b (Some x) (find p xs)))) met ∙ sym (ap (λ b. b || list_any p xs) met)
    step false unmet rest = ap (λ b. is_some (option_map f (cond b (Some x) (find p xs)))) unmet ∙ rest ∙ sym (ap (λ b. b || list_any p xs) unmet)

-- a token is in the map if it is among those that the map has
pub among_ranks : (m : BTreeMap (Bor (List ℕ)) Precedence) (ranks : List NamedRank) (name : List ℕ) (b : Bool) → MapsRanks m ranks
    → b ≡ is_some (get_by (λ k. slice_cmp nat_cmp name k.now) m) → has_rank ranks name ≡ b
among_ranks m ranks name b maps is =
    sym (is ∙ ap is_some (maps name) ∙ any_first (λ (x : NamedRank). x.precedence) (λ (x : NamedRank). bytes_eq x.word.name name) ranks)

-- the precedences that a map has, with that of a new token
pub rank_more : (m n : BTreeMap (Bor (List ℕ)) Precedence) (before : List NamedRank) (x : NamedRank) → MapsRanks m before
    → is_some (get_by (λ k. slice_cmp nat_cmp x.word.name k.now) m) ≡ false
    → ((q : List ℕ) → get_by (λ k. slice_cmp nat_cmp q k.now) n ≡ update bytes_eq (λ ds. get_by (λ k. slice_cmp nat_cmp ds k.now) m) x.word.name (Some x.precedence) q)
    → MapsRanks n (before ++ x ∷ [])
rank_more m n before x maps new puts q =
    let absent : is_some (rank_with before x.word.name) ≡ false = ap is_some (sym (maps x.word.name)) ∙ new in
    puts q ∙ ap (cond (bytes_eq x.word.name q) (Some x.precedence)) (maps q)
    ∙ put (rank_with before q) (bytes_eq x.word.name q) x.precedence
    (λ same. subst (λ s. is_some (rank_with before s) ≡ false) ((bytes_eq-Decides x.word.name q).0 same) absent)
    ∙ sym (first_more (λ (y : NamedRank). y.precedence) (λ (y : NamedRank). bytes_eq y.word.name q) before x)

-- the rest of the tokens, by the first of them
repeated_by : (ranks : List Rank) (i : ℕ) (d : Rank) (before : List NamedRank) → i < length ranks
    → repeated_after before (map named_rank_of (drop i ranks))
    ≡ cond (has_rank before (named_rank_of (get_or ranks i d)).word.name) (Some (named_rank_of (get_or ranks i d)).word.span)
    (repeated_after (before ++ named_rank_of (get_or ranks i d) ∷ []) (map named_rank_of (drop (i + 1) ranks)))
repeated_by ranks i d before within = ap (λ s. repeated_after before (map named_rank_of s)) (drop_more ranks i d within)

-- a token that is among those before
pub repeated_here : (ranks : List Rank) (i : ℕ) (d : Rank) (before : List NamedRank) (span : Extent) → i < length ranks
    → span ≡ (named_rank_of (get_or ranks i d)).word.span → has_rank before (named_rank_of (get_or ranks i d)).word.name ≡ true
    → ◌≡◌ {A = Option Extent} (repeated_after before (map named_rank_of (drop i ranks))) (Some span)
repeated_here ranks i d before span within is among =
    let x = named_rank_of (get_or ranks i d) in
    repeated_by ranks i d before within
    ∙ ap (λ b. cond b (Some x.word.span) (repeated_after (before ++ x ∷ []) (map named_rank_of (drop (i + 1) ranks)))) among ∙ ap (λ (s : Extent). Some s) (sym is)

-- a token that isn't
pub repeated_later : (ranks : List Rank) (i : ℕ) (d : Rank) → i < length ranks
    → has_rank (map named_rank_of (take i ranks)) (named_rank_of (get_or ranks i d)).word.name ≡ false
    → repeated_after (map named_rank_of (take i ranks)) (map named_rank_of (drop i ranks))
    ≡ repeated_after (map named_rank_of (take (i + 1) ranks)) (map named_rank_of (drop (i + 1) ranks))
repeated_later ranks i d within other =
    let x = named_rank_of (get_or ranks i d) in
    let before = map named_rank_of (take i ranks) in
    repeated_by ranks i d before within
    ∙ ap (λ b. cond b (Some x.word.span) (repeated_after (before ++ x ∷ []) (map named_rank_of (drop (i + 1) ranks)))) other
    ∙ ap (λ b. repeated_after b (map named_rank_of (drop (i + 1) ranks))) (sym (map_more named_rank_of ranks i d within))

-- the precedence of one more production
slots_more : (ranking : Ranking) (words : List (Option PlacedTextWord)) (prods : List Production) (p : Production)
    → prod_slots ranking words (prods ++ p ∷ []) ≡ prod_slots ranking words prods ++ prod_slot ranking p.symbols (get_or words (length prods) None) ∷ []
slots_more ranking [] [] p = refl
slots_more ranking (w ∷ ws) [] p = refl
slots_more ranking [] (q ∷ qs) p = ap (λ s. prod_slot ranking q.symbols None ∷ s) (slots_more ranking [] qs p)
slots_more ranking (w ∷ ws) (q ∷ qs) p = ap (λ s. prod_slot ranking q.symbols w ∷ s) (slots_more ranking ws qs p)

-- the precedence of one more production that is stored
pub slot_more : {X : Type 0} (f : X → Production) (ranking : Ranking) (words : List (Option PlacedTextWord)) (prods : List X) (i : ℕ) (x : X) (symbols : List GrammarSymbol) (word : Option PlacedTextWord)
    (old new : List (Option Precedence)) (slot : Option Precedence)
    → i < length prods → x ≡ get_or prods i x → symbols ≡ (f x).symbols → word ≡ get_or words i None → slot ≡ prod_slot ranking symbols word → new ≡ old ++ slot ∷ []
    → old ≡ prod_slots ranking words (map f (take i prods)) → new ≡ prod_slots ranking words (map f (take (i + 1) prods))
slot_more f ranking words prods i x symbols word old new slot within is its own made pushed so_far =
    let before = map f (take i prods) in
    let within' : i ≤ length prods = omega (arith, within) in
    let len : length before ≡ i = length-map (take i prods) f ∙ length-take-le i prods within' in
    let all : map f (take (i + 1) prods) ≡ before ++ f x ∷ [] = map_more f prods i x within ∙ ap (λ y. before ++ f y ∷ []) (sym is) in
    let here : slot ≡ prod_slot ranking (f x).symbols (get_or words (length before) None) =
    made ∙ ap (λ s. prod_slot ranking s word) its ∙ ap (prod_slot ranking (f x).symbols) (own ∙ ap (λ n. get_or words n None) (sym len)) in
    pushed ∙ ap (λ s. s ++ slot ∷ []) so_far ∙ ap (λ z. prod_slots ranking words before ++ z ∷ []) here ∙ sym (ap (prod_slots ranking words) all ∙ slots_more ranking words before (f x))
