-- The text that `Debug` writes of a tree, and what a loop has left of it.
use denote.Ref.{Bor}
use Rattle.std.proofs.Common.{◌≡◌, ℕ, List, [], ◌∷◌, ◌++◌, Vec, Option, Some, None, IsOk, Result, map, refl, ap, sym, ◌∙◌, append-nil, subst}
use Rattle.std.specs.declared.alloc.Global.{Global}
use Rattle.std.specs.declared.fmt.Error.{Error}
use Rattle.std.specs.declared.fmt.Formatter.{Formatter}
use Rattle.std.proofs.Output.{then_text_assoc}
use Rattle.std.proofs.Debugs.{Shows, displays_from, shows_from, shows_then}
use Rattle.std.specs.Fmt.{◌++?◌, DisplaysOnOk, IsPlainFormatter, comma_space, debug_items}
use Rattle.lrpar_grammar_places.specs.declared.span.RIdx.{RIdx}
use Rattle.lrpar_parse_trees.specs.declared.node.Node.{Node}
use Rattle.lrpar_parse_trees.specs.declared.node.Node.TheVariants.{Term, Nonterm, rolls-Term, rolls-Nonterm}
use Rattle.lrpar_parse_trees.specs.declared.node.Node.TheOpen.{Node-F}
use Rattle.lrpar_parse_trees.specs.declared.node.Node.TheFolds.{fold-roll-Node}
use Rattle.lrpar_parse_trees.specs.Shown.{shown, shown_step, shown_end, shown_lexeme, shown_rule}

nothing_then : (o : Option (List ℕ)) → Some [] ++? o ≡ o
nothing_then None = refl
nothing_then (Some a) = refl

then_nothing : (o : Option (List ℕ)) → o ++? Some [] ≡ o
then_nothing None = refl
then_nothing (Some a) = ap Some (append-nil a)

items_map : {A : Type 0} (text : A → Option (List ℕ)) (lead : List ℕ) (xs : List A) → debug_items (λ t. t) lead (map text xs) ≡ debug_items text lead xs
items_map text lead [] = refl
items_map text lead (x ∷ xs) = ap (λ t. Some lead ++? text x ++? t) (items_map text comma_space xs)

-- a node of either kind
pub shown_term : {X S : Type 0} (lexeme : X → Option (List ℕ)) (number : S → Option (List ℕ)) (node : Node X S) (x : X) → node ≡ Term x
    → shown lexeme number node ≡ shown_lexeme (lexeme x)
shown_term {X = X} {S = S} lexeme number node x is =
    ap (shown lexeme number) is ∙ ap (shown lexeme number) (sym (rolls-Term x))
    ∙ fold-roll-Node X S (Option (List ℕ)) (shown_step lexeme number) (Node-F.Term x)

pub shown_nonterm : {X S : Type 0} (lexeme : X → Option (List ℕ)) (number : S → Option (List ℕ)) (node : Node X S) (r : RIdx S) (nodes : Vec (Node X S) Global)
    → node ≡ Nonterm r nodes → shown lexeme number node ≡ shown_rule (number r.0) ++? debug_items (shown lexeme number) [] nodes.items ++? shown_end
shown_nonterm {X = X} {S = S} lexeme number node r nodes is =
    ap (shown lexeme number) is ∙ ap (shown lexeme number) (sym (rolls-Nonterm r nodes))
    ∙ fold-roll-Node X S (Option (List ℕ)) (shown_step lexeme number) (Node-F.Nonterm r nodes)
    ∙ ap (λ t. shown_rule (number r.0) ++? t ++? shown_end) (items_map (shown lexeme number) [] nodes.items)

-- what is left after the current trees, the last list first
abbrev pub later_shown : {A : Type 0} → (A → Option (List ℕ)) → List (Bor (List A)) → Option (List ℕ)
later_shown text [] = Some []
later_shown text (rest ∷ rests) = later_shown text rests ++? (debug_items text comma_space rest.now ++? shown_end)

later_push : {A : Type 0} (text : A → Option (List ℕ)) (rests : List (Bor (List A))) (rest : Bor (List A))
    → later_shown text (rests ++ rest ∷ []) ≡ (debug_items text comma_space rest.now ++? shown_end) ++? later_shown text rests
later_push text [] rest =
    let all = debug_items text comma_space rest.now ++? shown_end in nothing_then all ∙ sym (then_nothing all)
later_push text (r ∷ rs) rest =
    let first = debug_items text comma_space rest.now ++? shown_end in
    let last = debug_items text comma_space r.now ++? shown_end in
    ap (λ t. t ++? last) (later_push text rs rest) ∙ then_text_assoc first (later_shown text rs) last

-- all that is left, with current trees after a mark
abbrev pub left_shown : {A : Type 0} → (A → Option (List ℕ)) → List ℕ → List A → List (Bor (List A)) → Option (List ℕ)
left_shown text mark nodes left = (debug_items text mark nodes ++? shown_end) ++? later_shown text left

-- the first of the current trees, and what is left then
left_first : {A : Type 0} (text : A → Option (List ℕ)) (mark : List ℕ) (node : A) (rest nodes : List A) (left : List (Bor (List A))) → nodes ≡ node ∷ rest
    → left_shown text mark nodes left ≡ Some mark ++? (text node ++? left_shown text comma_space rest left)
left_first text mark node rest nodes left is =
    let items = debug_items text comma_space rest in
    ap (λ ns. left_shown text mark ns left) is
    ∙ ap (λ t. t ++? later_shown text left) (then_text_assoc (Some mark) (text node ++? items) shown_end)
    ∙ then_text_assoc (Some mark) ((text node ++? items) ++? shown_end) (later_shown text left)
    ∙ ap (λ t. Some mark ++? (t ++? later_shown text left)) (then_text_assoc (text node) items shown_end)
    ∙ ap (λ t. Some mark ++? t) (then_text_assoc (text node) (items ++? shown_end) (later_shown text left))

pub left_term : {X S : Type 0} (lexeme : X → Option (List ℕ)) (number : S → Option (List ℕ)) (mark : List ℕ) (node : Node X S) (x : X) (rest nodes : List (Node X S))
    (left : List (Bor (List (Node X S)))) → nodes ≡ node ∷ rest → node ≡ Term x
    → left_shown (shown lexeme number) mark nodes left ≡ Some mark ++? (shown_lexeme (lexeme x) ++? left_shown (shown lexeme number) comma_space rest left)
left_term lexeme number mark node x rest nodes left is at =
    left_first (shown lexeme number) mark node rest nodes left is
    ∙ ap (λ t. Some mark ++? (t ++? left_shown (shown lexeme number) comma_space rest left)) (shown_term lexeme number node x at)

pub left_nonterm : {X S : Type 0} (lexeme : X → Option (List ℕ)) (number : S → Option (List ℕ)) (mark : List ℕ) (node : Node X S) (r : RIdx S) (below : Vec (Node X S) Global)
    (rest : Bor (List (Node X S))) (nodes inner : List (Node X S)) (left aside : List (Bor (List (Node X S)))) → nodes ≡ node ∷ rest.now → node ≡ Nonterm r below
    → inner ≡ below.items → aside ≡ left ++ rest ∷ []
    → left_shown (shown lexeme number) mark nodes left ≡ Some mark ++? (shown_rule (number r.0) ++? left_shown (shown lexeme number) [] inner aside)
left_nonterm lexeme number mark node r below rest nodes inner left aside is at same put =
    let text = shown lexeme number in
    let items = debug_items text [] below.items ++? shown_end in
    left_first text mark node rest.now nodes left is
    ∙ ap (λ t. Some mark ++? (t ++? left_shown text comma_space rest.now left)) (shown_nonterm lexeme number node r below at)
    ∙ ap (λ t. Some mark ++? t) (then_text_assoc (shown_rule (number r.0)) items (left_shown text comma_space rest.now left))
    ∙ ap (λ t. Some mark ++? (shown_rule (number r.0) ++? (items ++? t))) (sym (ap (later_shown text) put ∙ later_push text left rest))
    ∙ ap (λ ns. Some mark ++? (shown_rule (number r.0) ++? left_shown text [] ns aside)) (sym same)

-- no current tree is left: the end of a rule, and what was put aside last
pub left_end : {A : Type 0} (text : A → Option (List ℕ)) (mark : List ℕ) (nodes : List A) (rest : Bor (List A)) (left aside : List (Bor (List A)))
    → nodes ≡ [] → aside ≡ left ++ rest ∷ [] → left_shown text mark nodes aside ≡ shown_end ++? left_shown text comma_space rest.now left
left_end text mark nodes rest left aside none put =
    ap (λ ns. left_shown text mark ns aside) none
    ∙ ap (λ t. t ++? later_shown text aside) (nothing_then shown_end)
    ∙ ap (λ t. shown_end ++? t) (ap (later_shown text) put ∙ later_push text left rest)

pub left_last : {A : Type 0} (text : A → Option (List ℕ)) (mark : List ℕ) (nodes : List A) (left : List (Bor (List A)))
    → nodes ≡ [] → left ≡ [] → left_shown text mark nodes left ≡ shown_end
left_last text mark nodes left none empty =
    ap (λ ns. left_shown text mark ns left) none
    ∙ ap (λ t. t ++? later_shown text left) (nothing_then shown_end)
    ∙ ap (λ t. shown_end ++? t) (ap (later_shown text) empty)
    ∙ then_nothing shown_end

module _ {W : Type 0} (took : W → List ℕ → W → Type 0) where
  -- whoever writes what is left from f on has written the whole from the beginning on
  abbrev pub Continues : Formatter W → Option (List ℕ) → Formatter W → Option (List ℕ) → Type 0
  Continues began whole f left = IsPlainFormatter began → (h : Formatter W) → (IsPlainFormatter f → Shows took f left h) → Shows took began whole h

  pub continues_first : (f : Formatter W) (whole left : Option (List ℕ)) → whole ≡ left → Continues f whole f left
  continues_first f whole left is plain h next = subst (λ t. Shows took f t h) (sym is) (next plain)

  -- a part of what is left was written, or two parts of it, or all of it
  pub continues_then : (began f g : Formatter W) (r : Result (Unit {0}) Error) (whole left part more : Option (List ℕ)) → left ≡ part ++? more
      → DisplaysOnOk took f r part g → IsOk r → Continues began whole f left → Continues began whole g more
  continues_then began f g r whole left part more is wrote ok before plain h next =
      before plain h (λ p. subst (λ t. Shows took f t h) (sym is) (shows_then took f g h part more (shows_from took f g r part wrote p ok) next))

  pub continues_two : (began f g h : Formatter W) (r s : Result (Unit {0}) Error) (whole left first second more : Option (List ℕ))
      → left ≡ first ++? (second ++? more) → DisplaysOnOk took f r first g → IsOk r → DisplaysOnOk took g s second h → IsOk s
      → Continues began whole f left → Continues began whole h more
  continues_two began f g h r s whole left first second more is wrote ok wrote' ok' before =
      continues_then began g h s whole (second ++? more) second more refl wrote' ok'
      (continues_then began f g r whole left first (second ++? more) is wrote ok before)

  pub continues_last : (began f g : Formatter W) (whole left part : Option (List ℕ)) → left ≡ part
      → (IsPlainFormatter f → Shows took f part g) → Continues began whole f left → IsPlainFormatter began → Shows took began whole g
  continues_last began f g whole left part is wrote before plain = before plain g (λ p. subst (λ t. Shows took f t g) (sym is) (wrote p))

  -- a text in two parts
  pub displays_two : (f g h : Formatter W) (r s : Result (Unit {0}) Error) (whole first second : Option (List ℕ)) → whole ≡ first ++? second
      → DisplaysOnOk took f r first g → IsOk r → DisplaysOnOk took g s second h → DisplaysOnOk took f s whole h
  displays_two f g h r s whole first second is wrote ok wrote' =
      subst (λ t. DisplaysOnOk took f s t h) (sym is) (displays_from took f h s (first ++? second) (λ plain ok'.
      shows_then took f g h first second (shows_from took f g r first wrote plain ok) (λ p. shows_from took g h s second wrote' p ok')))
