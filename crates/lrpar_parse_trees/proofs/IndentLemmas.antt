-- A line after its spaces, and spaces that stay for the next line.
use Rattle.std.proofs.Common.{◌≡◌, ◌+◌, ◌-◌, ◌<◌, ◌≤◌, ℕ, List, [], ◌∷◌, ◌++◌, Result, Ok, Err, OnOk, is_ok, if◌then◌else◌, arith, ap, length, replicate, take, subst, sym, ◌∙◌, append_assoc}
use Rattle.std.specs.Str.{IsUtf8}
use Rattle.std.specs.List.{slice_index}
use Rattle.std.proofs.lemmas.List.{get_or-replicate, get_or-take, length-replicate, length-take, length_push, replicate_more, take-append-le, take-replicate, take-take}
use Rattle.std.proofs.lemmas.Str.{lead_after_ascii}
use Rattle.std.specs.declared.alloc.AllocError.{AllocError}
use Rattle.lrpar_grammar.specs.Grammar.{Grammar}
use Rattle.lrpar_grammar.specs.Sentence.{LexemeFacts}
use Rattle.lrpar_parse_trees.specs.declared.node.Node.{Node}
use Rattle.lrpar_parse_trees.specs.declared.node.Node.TheOpen.{Node-F}
use Rattle.lrpar_parse_trees.specs.declared.node.Node.TheViews.{out-Node}
use Rattle.lrpar_parse_trees.specs.TreeText.{layer_met, met_line, root_at}

-- a line is its spaces and what comes after them
layer_indented : {X S : Type 0} (facts : X → LexemeFacts) (index : S → ℕ) (g : Grammar) (input : List ℕ) (layer : Node-F X S (Node X S)) (level : ℕ)
    → met_line facts index g input (layer_met level layer) ≡ replicate level 32 ++ met_line facts index g input (layer_met 0 layer)
layer_indented facts index g input (Node-F.Term x) level = append_assoc (replicate level 32) _ (10 ∷ [])
layer_indented facts index g input (Node-F.Nonterm ridx nodes) level = append_assoc (replicate level 32) _ (10 ∷ [])

pub line_indented : {X S : Type 0} (facts : X → LexemeFacts) (index : S → ℕ) (g : Grammar) (input : List ℕ) (node : Node X S) (level : ℕ)
    → met_line facts index g input (root_at level node) ≡ replicate level 32 ++ met_line facts index g input (root_at 0 node)
line_indented {X = X} {S = S} facts index g input node level = layer_indented facts index g input (out-Node X S node) level

pub line_after_spaces : (r : Result (Unit {0}) AllocError) (old mid new spaces rest line : List ℕ) → OnOk r (new ≡ mid ++ rest) → mid ≡ old ++ spaces
    → line ≡ spaces ++ rest → OnOk r (new ≡ old ++ line)
line_after_spaces (Ok x) old mid new spaces rest line added indented whole =
    added ∙ ap (λ s. s ++ rest) indented ∙ append_assoc old spaces rest ∙ ap (λ s. old ++ s) (sym whole)
line_after_spaces (Err e) old mid new spaces rest line added indented whole = tt

-- what holds after a step holds if it succeeds
pub if_done : {E : Type 0} (r : Result (Unit {0}) E) (P : Type 0) → P → OnOk r P
if_done (Ok x) P holds = holds
if_done (Err e) P holds = tt

-- a line can be cut after its spaces
pub cut_fits : (line : List ℕ) (n : ℕ) → take n line ≡ replicate n 32 → n ≤ length line
cut_fits line n is = omega (arith, ap length is, length-take n line, length-replicate {A = ℕ} n 32)

pub cut_leads : (line : List ℕ) (n : ℕ) → IsUtf8 line → take n line ≡ replicate n 32 → 0 < n → n < length line → 128 ≤ slice_index line n → 192 ≤ slice_index line n
cut_leads line n utf8 is some inside high =
    let last : n - 1 < n = omega arith in
    let next : n - 1 + 1 ≡ n = omega arith in
    let space = sym (get_or-take {A = ℕ} n line (n - 1) 0 last) ∙ ap (λ s. slice_index s (n - 1)) is ∙ get_or-replicate {A = ℕ} n (n - 1) 32 0 last in
    subst (λ k. k < length line → 128 ≤ slice_index line k → 192 ≤ slice_index line k) next
    (lead_after_ascii line (n - 1) utf8 (omega (arith, space))) inside high

-- one space more
pub indent_more : (r : Result (Unit {0}) AllocError) (line cut more : List ℕ) (n : ℕ) → take n line ≡ replicate n 32 → cut ≡ take n line
    → more ≡ (if is_ok r then cut ++ 32 ∷ [] else cut) → OnOk r (more ≡ replicate (n + 1) 32)
indent_more (Ok x) line cut more n is same added = added ∙ ap (λ s. s ++ 32 ∷ []) (same ∙ is) ∙ replicate_more n 32
indent_more (Err e) line cut more n is same added = tt

-- fewer spaces
pub indent_less : (line : List ℕ) (m n : ℕ) → m ≤ n → take n line ≡ replicate n 32 → take m line ≡ replicate m 32
indent_less line m n less is = sym (take-take m n line less) ∙ ap (take m) is ∙ take-replicate m n 32 less

-- the rest of the line
pub indent_stays : (old new rest : List ℕ) (n : ℕ) → old ≡ replicate n 32 → new ≡ old ++ rest → take n new ≡ replicate n 32
indent_stays old new rest n is added =
    let count : length (replicate {A = ℕ} n 32) ≡ n = length-replicate {A = ℕ} n 32 in
    let room : n ≤ length (replicate {A = ℕ} n 32) = omega (arith, count) in
    ap (take n) (added ∙ ap (λ s. s ++ rest) is) ∙ take-append-le n (replicate n 32) rest room ∙ take-replicate n n 32 (omega arith)

-- a text of spaces alone
pub spaces_alone : (line : List ℕ) (n : ℕ) → line ≡ replicate n 32 → line ≡ replicate (length line) 32
spaces_alone line n is = is ∙ ap (λ k. replicate k 32) (sym (ap length is ∙ length-replicate n 32))

pub spaces_counted : (line : List ℕ) (n : ℕ) → line ≡ replicate n 32 → length line ≡ n
spaces_counted line n is = ap length is ∙ length-replicate n 32

-- a list without its last element is shorter
pub shorter : {A : Type 0} (all front : List A) (x : A) → all ≡ front ++ x ∷ [] → length front ≤ length all
shorter all front x is = omega (arith, ap length is, length_push front x)
