-- The rules that are active in a state, one after the other.
use Rattle.std.proofs.Common.{◌≡◌, ℕ, ◌+◌, ◌<◌, Bool, cond, List, [], ◌∷◌, ◌++◌, length, map, drop, get_or, inl, inr, sym, ◌∙◌, ap, append-nil, append_assoc, arith}
use Rattle.std.proofs.lemmas.Bool.{cases_Bool, cond-false, cond-true}
use Rattle.std.proofs.lemmas.List.{drop_more, get_or-map, length-map}
use Rattle.lrpar_lexer_lrlex.specs.declared.states.Starts as code
use Rattle.lrpar_lexer_lrlex.specs.StateRules.{active_from, is_active, plain_starts}

-- one more rule
pub active_step : (index : ℕ) (exclusive : Bool) (state : ℕ) (starts : List code.Starts) (before after : List ℕ) (start : code.Starts) (test : Bool)
    → index < length starts → start ≡ get_or starts index start → test ≡ is_active exclusive state (plain_starts start)
    → after ≡ before ++ cond test (index ∷ []) []
    → after ++ active_from (index + 1) exclusive state (drop (index + 1) (map plain_starts starts))
    ≡ before ++ active_from index exclusive state (drop index (map plain_starts starts))
active_step index exclusive state starts before after start test within read is put =
    let all = map plain_starts starts in
    let rest = active_from (index + 1) exclusive state (drop (index + 1) all) in
    let at : get_or all index (plain_starts start) ≡ plain_starts start = get_or-map plain_starts starts index start _ within ∙ ap plain_starts (sym read) in
    let split : drop index all ≡ plain_starts start ∷ drop (index + 1) all =
    drop_more all index (plain_starts start) (omega (arith, length-map starts plain_starts)) ∙ ap (λ s. s ∷ drop (index + 1) all) at in
    let whole : active_from index exclusive state (drop index all) ≡ cond test (index ∷ rest) rest =
    ap (active_from index exclusive state) split ∙ ap (λ t. cond t (index ∷ rest) rest) (sym is) in
    elim (cases_Bool test) [
      | inl passes ↦
          ap (λ l. l ++ rest) (put ∙ ap (λ l. before ++ l) (cond-true test (index ∷ []) [] passes)) ∙ append_assoc before (index ∷ []) rest
          ∙ ap (λ l. before ++ l) (sym (whole ∙ cond-true test (index ∷ rest) rest passes))
      | inr fails ↦
          ap (λ l. l ++ rest) (put ∙ ap (λ l. before ++ l) (cond-false test (index ∷ []) [] fails) ∙ append-nil before)
          ∙ ap (λ l. before ++ l) (sym (whole ∙ cond-false test (index ∷ rest) rest fails))
    ]
