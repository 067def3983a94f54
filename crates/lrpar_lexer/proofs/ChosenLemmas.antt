-- The best match of some chosen patterns, and of one more.
use Rattle.std.proofs.Common.{◌≡◌, ℕ, ◌+◌, ◌<◌, ◌≤◌, List, [], ◌∷◌, length, get_or, Option, Some, option_map, sym, subst, ◌∙◌, ap, arith, slice_get, ⊎_elim}
use Rattle.std.specs.List.{All, AllZip, Contains}
use Rattle.std.specs.Option.{IfSome}
use Rattle.std.proofs.lemmas.Bool.{cases_lt}
use Rattle.std.proofs.lemmas.List.{length-map}
use Rattle.std.proofs.lemmas.List.Elements.{Contains-push}
use Rattle.std.proofs.lemmas.Option.{IfSome_then, slice_get-get_or, slice_get-map}
use Rattle.regex.specs.Patterns.{Re, empty}
use Rattle.regex_meta.specs.declared.program.Program.{Program}
use Rattle.lrpar_lexer.specs.declared.matching.Winner.{Winner}
use Rattle.lrpar_lexer.specs.Anchored.{FindsAtStart}
use Rattle.lrpar_lexer.specs.Matching.{Improves, IsCovered, IsMatchLen, better, chosen_of}
use Rattle.lrpar_lexer.proofs.WinnerLemmas.{improves_one, match_of_program}

-- the pattern at a place of the chosen ones is the one with the index there
chosen_at : (patterns : List Re) (chosen : List ℕ) (place d : ℕ) (pattern : Re) → place < length chosen
    → All (λ i. i < length patterns) chosen → slice_get (chosen_of patterns chosen) place ≡ Some pattern
    → slice_get patterns (get_or chosen place d) ≡ Some pattern
chosen_at patterns chosen place d pattern within all is =
    let there : slice_get (chosen_of patterns chosen) place ≡ Some (get_or patterns (get_or chosen place d) empty) =
    slice_get-map (λ i. get_or patterns i empty) chosen place
    ∙ ap (option_map (λ i. get_or patterns i empty)) (slice_get-get_or chosen place d within) in
    slice_get-get_or patterns (get_or chosen place d) empty (all place d within) ∙ sym there ∙ is

-- so it is compared by the search with that index
pub chosen_improves : (programs : List Program) (patterns : List Re) (rest : List ℕ) (chosen : List ℕ) (place d : ℕ) (best : Option Winner)
    (found : Option ℕ) (known : ℕ → Type 0) → place < length chosen → AllZip FindsAtStart programs patterns → All (λ i. i < length patterns) chosen
    → IfSome found known
    → ((program : Program) (pattern : Re) → slice_get programs (get_or chosen place d) ≡ Some program → FindsAtStart program pattern
    → IsMatchLen rest pattern found)
    → Improves (chosen_of patterns chosen) rest (place ∷ []) best (better best place found)
chosen_improves programs patterns rest chosen place d best found known within find all has asks =
    improves_one (chosen_of patterns chosen) rest best place found
    (IfSome_then found has (λ _ _. omega (arith, within, length-map chosen (λ i. get_or patterns i empty))))
    (λ pattern is. match_of_program programs patterns rest (get_or chosen place d) found find asks pattern
    (chosen_at patterns chosen place d pattern within all is))

-- those before a place were compared
abbrev pub AreCoveredBelow : List Re → List ℕ → ℕ → Option Winner → Type 0
AreCoveredBelow patterns rest bound best =
    (place : ℕ) (pattern : Re) → place < bound → slice_get patterns place ≡ Some pattern → IsCovered rest best place pattern

-- and the one there
pub covered_below_more : (patterns : List Re) (rest : List ℕ) (bound : ℕ) (old new : Option Winner) → Improves patterns rest (bound ∷ []) old new
    → AreCoveredBelow patterns rest bound old → AreCoveredBelow patterns rest (bound + 1) new
covered_below_more patterns rest bound old new improves covered place pattern below is = ⊎_elim
    (λ (before : place < bound). improves.kept place pattern (covered place pattern before is))
    (λ (last : bound ≤ place).
    let same : bound ≡ place = omega (arith, below, last) in
    improves.tried place pattern (subst (Contains (bound ∷ [])) same (Contains-push [] bound)) is)
    (cases_lt place bound)
