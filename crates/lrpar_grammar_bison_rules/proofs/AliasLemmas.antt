-- Texts of tokens, one after another.
use Rattle.std.proofs.Common.{◌≡◌, ◌<◌, ◌+◌, ◌&&◌, [], ◌∷◌, ◌++◌, ℕ, List, Bool, true, false, not, cond, drop, get_or, length, map, bytes_eq, nat_cmp, Bor, Option, Some, None, option_map, refl, ap, sym, subst, ◌∙◌}
use Rattle.std.specs.BTreeMap.{BTreeMap, get_by}
use Rattle.std.specs.Cmp.Lexicographic.{slice_cmp}
use Rattle.std.specs.List.{find}
use Rattle.std.specs.Map.{update}
use Rattle.std.specs.Option.{is_some, option_or}
use Rattle.std.proofs.lemmas.Bool.{and_parts}
use Rattle.std.proofs.lemmas.List.{drop_more}
use Rattle.std.proofs.lemmas.List.Folds.{find-append}
use Rattle.std.proofs.lemmas.Slice.Eq.{bytes_eq-Decides}
use Rattle.lrpar_grammar_bison.specs.declared.words.Word.{Word}
use Rattle.lrpar_grammar_bison.specs.Words.{PlacedWord, placed}
use Rattle.lrpar_grammar_bison_rules.specs.Aliases.{FileAlias, MapsAliases, alias_of, has_text, is_new, is_predefined, token_with, turned, with_aliases}
use Rattle.lrpar_grammar_bison_rules.specs.declared.aliases.Alias.{Alias}

-- what the first element with a property gives, with one more element
pub first_more : {X Y : Type 0} (f : X → Y) (p : X → Bool) (before : List X) (x : X)
    → option_map f (find p (before ++ x ∷ [])) ≡ option_or (option_map f (find p before)) (cond (p x) (Some (f x)) None)
first_more {X} f p before x = ap (option_map f) (find-append p before (x ∷ [])) ∙ either (find p before) (p x)
  where
    either : (found : Option X) (b : Bool) → option_map f (option_or found (cond b (Some x) None)) ≡ option_or (option_map f found) (cond b (Some (f x)) None)
    either None true = refl
    either None false = refl
    either (Some y) b = refl

-- the token that has a text, if one more does
token_more : (before : List FileAlias) (x : FileAlias) (text : List ℕ)
    → token_with (before ++ x ∷ []) text ≡ option_or (token_with before text) (cond (bytes_eq x.text.name text) (Some x.token) None)
token_more before x text = first_more (λ (y : FileAlias). y.token) (λ (y : FileAlias). bytes_eq y.text.name text) before x

-- a text that is there already has the token that it had
had : (old : Option PlacedWord) (b : Bool) (new : PlacedWord) → (b ≡ true → is_some old ≡ true) → old ≡ option_or old (cond b (Some new) None)
had (Some w) b new has = refl
had None true new has = absurd (let no = has refl in cc)
had None false new has = refl

-- the value that a look-up finds, as plain data
found_some : (found : Option Word) → is_some (option_map placed found) ≡ is_some found
found_some None = refl
found_some (Some w) = refl

-- the texts that a map has, with one that it has already
pub alias_had : (m : BTreeMap (Bor (List ℕ)) Word) (before : List FileAlias) (x : FileAlias)
    → MapsAliases m before → is_some (get_by (λ k. slice_cmp nat_cmp x.text.name k.now) m) ≡ true → MapsAliases m (before ++ x ∷ [])
alias_had m before x maps has q =
    let present : is_some (token_with before x.text.name) ≡ true = ap is_some (sym (maps x.text.name)) ∙ found_some (get_by (λ k. slice_cmp nat_cmp x.text.name k.now) m) ∙ has in
    maps q
    ∙ had (token_with before q) (bytes_eq x.text.name q) x.token
    (λ same. subst (λ s. is_some (token_with before s) ≡ true) ((bytes_eq-Decides x.text.name q).0 same) present)
    ∙ sym (token_more before x q)

-- a new text has the new value
pub put : {X : Type 0} (old : Option X) (b : Bool) (new : X) → (b ≡ true → is_some old ≡ false) → cond b (Some new) old ≡ option_or old (cond b (Some new) None)
put (Some w) true new has = absurd (let no = has refl in cc)
put (Some w) false new has = refl
put None true new has = refl
put None false new has = refl

-- the value at a text, as plain data
at_text : (b : Bool) (token : Word) (old : Option Word) → option_map placed (cond b (Some token) old) ≡ cond b (Some (placed token)) (option_map placed old)
at_text true token old = refl
at_text false token old = refl

-- the texts that a map has, with a new one
pub alias_more : (m n : BTreeMap (Bor (List ℕ)) Word) (before : List FileAlias) (x : FileAlias) (token : Word) → placed token ≡ x.token
    → MapsAliases m before → is_some (get_by (λ k. slice_cmp nat_cmp x.text.name k.now) m) ≡ false
    → ((q : List ℕ) → get_by (λ k. slice_cmp nat_cmp q k.now) n ≡ update bytes_eq (λ ds. get_by (λ k. slice_cmp nat_cmp ds k.now) m) x.text.name (Some token) q)
    → MapsAliases n (before ++ x ∷ [])
alias_more m n before x token is maps new puts q =
    let absent : is_some (token_with before x.text.name) ≡ false = ap is_some (sym (maps x.text.name)) ∙ found_some (get_by (λ k. slice_cmp nat_cmp x.text.name k.now) m) ∙ new in
    ap (option_map placed) (puts q) ∙ at_text (bytes_eq x.text.name q) token (get_by (λ k. slice_cmp nat_cmp q k.now) m)
    ∙ ap (λ w. cond (bytes_eq x.text.name q) (Some w) (option_map placed (get_by (λ k. slice_cmp nat_cmp q k.now) m))) is
    ∙ ap (cond (bytes_eq x.text.name q) (Some x.token)) (maps q)
    ∙ put (token_with before q) (bytes_eq x.text.name q) x.token
    (λ same. subst (λ s. is_some (token_with before s) ≡ false) ((bytes_eq-Decides x.text.name q).0 same) absent)
    ∙ sym (token_more before x q)

-- a map has a text if a token has it
pub among_texts : (m : BTreeMap (Bor (List ℕ)) Word) (aliases : List FileAlias) (text : List ℕ) → MapsAliases m aliases
    → is_some (get_by (λ k. slice_cmp nat_cmp text k.now) m) ≡ has_text aliases text
among_texts m aliases text maps = sym (found_some (get_by (λ k. slice_cmp nat_cmp text k.now) m)) ∙ ap is_some (maps text)

-- what isn't so
not_true : (b : Bool) → not b ≡ true → b ≡ false
not_true true is = absurd (let no = is in cc)
not_true false is = refl

-- the text of a new one is no token's
pub text_absent : (aliases : List FileAlias) (x : FileAlias) → is_new aliases x ≡ true → has_text aliases x.text.name ≡ false
text_absent aliases x new =
    let others = (and_parts (not (is_predefined x.token.name)) (not (has_text aliases x.text.name) && not (has_text (map turned aliases) x.token.name)) new).1 in
    not_true (has_text aliases x.text.name) (and_parts (not (has_text aliases x.text.name)) (not (has_text (map turned aliases) x.token.name)) others).0

-- and its token has no text
pub token_absent : (aliases : List FileAlias) (x : FileAlias) → is_new aliases x ≡ true → has_text (map turned aliases) x.token.name ≡ false
token_absent aliases x new =
    let others = (and_parts (not (is_predefined x.token.name)) (not (has_text aliases x.text.name) && not (has_text (map turned aliases) x.token.name)) new).1 in
    not_true (has_text (map turned aliases) x.token.name) (and_parts (not (has_text aliases x.text.name)) (not (has_text (map turned aliases) x.token.name)) others).1

-- one more text
pub aliases_step : (kept : List FileAlias) (aliases : List Alias) (i : ℕ) (d : Alias) (b : Bool) → i < length aliases → is_new kept (alias_of (get_or aliases i d)) ≡ b
    → with_aliases kept (map alias_of (drop i aliases))
    ≡ with_aliases (cond b (kept ++ alias_of (get_or aliases i d) ∷ []) kept) (map alias_of (drop (i + 1) aliases))
aliases_step kept aliases i d b within is =
    let x = alias_of (get_or aliases i d) in
    ap (λ s. with_aliases kept (map alias_of s)) (drop_more aliases i d within)
    ∙ ap (λ b. with_aliases (cond b (kept ++ x ∷ []) kept) (map alias_of (drop (i + 1) aliases))) is
