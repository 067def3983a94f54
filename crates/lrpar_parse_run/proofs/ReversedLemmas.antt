-- Lists whose end is in reverse.
use Rattle.std.proofs.Common.{◌≡◌, ℕ, ◌+◌, ◌-◌, ◌<◌, List, [], ◌∷◌, ◌++◌, length, take, drop, get_or, reverse, ap, arith, subst, sym, ◌∙◌, ◌≤◌, append_assoc, drop-cons, add-one, length-drop}
use Rattle.std.specs.List.{AllZip}
use Rattle.std.proofs.lemmas.List.{append-nil, drop_all, take_all, take_more, same_from_push, reverse-append}
use Rattle.lrpar_parse_run.specs.ZipLaws.{zip_push}

-- the last item of such a list is the first one that is left
pub last_reversed : {A : Type 0} (kept all old new : List A) (i : ℕ) (x : A) → old ≡ kept ++ reverse (drop i all) → i < length all
    → old ≡ new ++ x ∷ [] → (new ≡ kept ++ reverse (drop (i + 1) all)) × (x ≡ get_or all i x)
last_reversed kept all old new i x is more popped =
    let first : drop i all ≡ (get_or all i x ∷ []) ++ drop (i + 1) all = rw (add-one, drop-cons all i x) in
    let turned : kept ++ reverse (drop i all) ≡ (kept ++ reverse (drop (i + 1) all)) ++ get_or all i x ∷ [] =
    ap (λ xs. kept ++ reverse xs) first
    ∙ ap (λ xs. kept ++ xs) (reverse-append (get_or all i x ∷ []) (drop (i + 1) all))
    ∙ sym (append_assoc kept (reverse (drop (i + 1) all)) (get_or all i x ∷ [])) in
    same_from_push new (kept ++ reverse (drop (i + 1) all)) x (get_or all i x) (sym popped ∙ is ∙ turned)

-- one more of a list from which elements are taken at the front
pub zip_take_more : {A B : Type 0} (R : A → B → Type 0) (all : List A) (vs : List B) (i : ℕ) (x : A) (v : B) → i < length all → x ≡ get_or all i x
    → AllZip R (take i all) vs → R x v → AllZip R (take (i + 1) all) (vs ++ v ∷ [])
zip_take_more R all vs i x v more is given last =
    rw (take_more all i x more, sym is) (zip_push R (take i all) vs x v given last)

-- if no item of the last `count` is left, those before them are kept, and what holds for the taken ones holds for all of the last
pub all_taken : {A : Type 0} (P : List A → Type 0) (all left : List A) (at count i : ℕ) → at + count ≡ length all → count ≤ i
    → left ≡ take at all ++ reverse (drop i (drop at all)) → P (take i (drop at all))
    → (left ≡ take (length all - count) all) × P (drop (length all - count) all)
all_taken {A} P all left at count i whole end is holds =
    let from : at ≡ length all - count = omega (arith, whole) in
    let short : length (drop at all) ≤ i = omega (arith, whole, end, length-drop at all) in
    let kept = is ∙ ap (λ (xs : List A). take at all ++ reverse xs) (drop_all i (drop at all) short) ∙ append-nil (take at all) in
    let taken = subst P (take_all i (drop at all) short) holds in
    (subst (λ (n : ℕ). left ≡ take n all) from kept, subst (λ (n : ℕ). P (drop n all)) from taken)

-- lists that are related place by place are related by a weaker relation, too
pub zip_wider : {A B : Type 0} (R Q : A → B → Type 0) → ((x : A) (y : B) → R x y → Q x y) → (xs : List A) (ys : List B) → AllZip R xs ys → AllZip Q xs ys
zip_wider R Q wider [] [] h = tt
zip_wider R Q wider [] (y ∷ ys) h = absurd h
zip_wider R Q wider (x ∷ xs) [] h = absurd h
zip_wider R Q wider (x ∷ xs) (y ∷ ys) h = (wider x y h.0, zip_wider R Q wider xs ys h.1)
