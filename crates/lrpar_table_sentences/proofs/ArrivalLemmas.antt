-- What is kept of states, once no step is open, are minimal access strings.
use Rattle.std.proofs.Common.{◌≡◌, ◌<◌, ◌≤◌, ◌+◌, ◌∙◌, refl, sym, ap, subst, inl, inr, arith, ℕ, List, [], ◌∷◌, ◌++◌, Option, Some, None, length, min, reverse}
use Rattle.std.specs.Option.{option_map}
use Rattle.std.proofs.lemmas.Bool.{cases_lt}
use Rattle.std.proofs.lemmas.List.{append-nil, append_assoc, get_or_past, map-append, reverse-append, reverse-reverse}
use Rattle.lrpar_grammar.specs.Grammar.{Grammar, GrammarSymbol, IsWellFormed}
use Rattle.lrpar_grammar.specs.Tree.{Forest}
use Rattle.lrpar_table_rows.specs.Graph.{Graph}
use Rattle.lrpar_table_rows.specs.Table.{IsClosed, Table, states_len}
use Rattle.lrpar_table_build.specs.Built.{IsBuilt}
use Rattle.lrpar_table_items.specs.Canonical.{AreSame, sets_of}
use Rattle.lrpar_table_items.specs.ItemSets.{IsReachedBy}
use Rattle.lrpar_table_sentences.specs.Choices.{AreShortest, ChoiceOf}
use Rattle.lrpar_table_sentences.specs.Lens.{added, len_at, sum_of_lens}
use Rattle.lrpar_table_sentences.specs.Texts.{AreTreesOf, forest_width}
use Rattle.lrpar_table_sentences.specs.AccessLens.{AreEdges, AreRightAccesses, EdgeOf, Goes, IsWalk, LeadBack, NoStepIsOpen, Starts}
use Rattle.lrpar_table_sentences.specs.AccessStrings.{AreAccessStrings, IsPathTo, IsShortestAccess, IsShortestAccessIfAny, StepOf, StepsLead, AccessOf, symbols_in, access_at}
use Rattle.lrpar_table_sentences.proofs.LenLemmas.{added_assoc, forest_follows_fit, have_len, option_cases, total_from_zero, total_is_shortest, total_least, trees_kept}
use Rattle.lrpar_table_sentences.proofs.WalkLemmas.{path_walk, walk_path}
use Rattle.lrpar_table_sentences.proofs.AccessLemmas.{no_walk}

added_swap : (most : ℕ) (a b : Option ℕ) → added most a b ≡ added most b a
added_swap most (Some a) (Some b) = let same : min (a + b) most ≡ min (b + a) most = omega arith in ap (λ (n : ℕ). Some n) same
added_swap most (Some a) None = refl
added_swap most None (Some b) = refl
added_swap most None None = refl

-- the length of symbols is the sum of both parts, and symbols in reverse have the same length
total_both : (most : ℕ) (choices : List (Option ChoiceOf)) (xs ys : List GrammarSymbol)
    → sum_of_lens most choices (xs ++ ys) ≡ added most (sum_of_lens most choices xs) (sum_of_lens most choices ys)
total_both most choices [] ys = sym (total_from_zero most choices ys)
total_both most choices (x ∷ xs) ys =
    ap (added most (len_at choices x)) (total_both most choices xs ys) ∙ sym (added_assoc most (len_at choices x) (sum_of_lens most choices xs) (sum_of_lens most choices ys))

pub total_reverse : (most : ℕ) (choices : List (Option ChoiceOf)) (ss : List GrammarSymbol) → sum_of_lens most choices (reverse ss) ≡ sum_of_lens most choices ss
total_reverse most choices [] = refl
total_reverse most choices (s ∷ ss) =
    let x = len_at choices s in
    ap (sum_of_lens most choices) (reverse-append (s ∷ []) ss)
    ∙ total_both most choices (reverse ss) (s ∷ [])
    ∙ ap (λ (o : Option ℕ). added most o (added most x (Some 0))) (total_reverse most choices ss)
    ∙ added_swap most (sum_of_lens most choices ss) (added most x (Some 0))
    ∙ added_assoc most x (Some 0) (sum_of_lens most choices ss)
    ∙ ap (added most x) (total_from_zero most choices ss)

-- the symbols of steps in reverse
symbols_reverse : (steps : List StepOf) → symbols_in (reverse steps) ≡ reverse (symbols_in steps)
symbols_reverse [] = refl
symbols_reverse (step ∷ steps) =
    ap symbols_in (reverse-append (step ∷ []) steps)
    ∙ map-append (λ (x : StepOf). x.symbol) (reverse steps) (step ∷ [])
    ∙ ap (λ xs. xs ++ step.symbol ∷ []) (symbols_reverse steps)
    ∙ sym (reverse-append (step.symbol ∷ []) (symbols_in steps))

-- steps that lead back are a walk, and in reverse they lead there
lead_walk : (table : Table) (s : ℕ) (steps : List StepOf) → LeadBack table s steps → IsWalk table s (symbols_in steps)
lead_walk table s [] is = subst (λ n. IsWalk table n []) (sym is) Starts
lead_walk table s (step ∷ steps) lead = Goes step.from s step.symbol (symbols_in steps) (lead_walk table step.from steps lead.2) lead.0 lead.1

lead_onto : (table : Table) (s last : ℕ) (steps rest : List StepOf) → LeadBack table s steps → StepsLead table s rest last
    → StepsLead table table.start (reverse steps ++ rest) last
lead_onto table s last [] rest is lead = subst (λ n. StepsLead table n rest last) is lead
lead_onto table s last (step ∷ steps) rest back lead =
    let onto = lead_onto table step.from last steps (step ∷ rest) back.2 (refl, (s, back.1, lead)) in
    let same : reverse (step ∷ steps) ++ rest ≡ reverse steps ++ (step ∷ rest) =
    ap (λ xs. xs ++ rest) (reverse-append (step ∷ []) steps) ∙ append_assoc (reverse steps) (step ∷ []) rest in
    subst (λ xs. StepsLead table table.start xs last) (sym same) onto

module _ (g : Grammar) (graph : Graph) (table : Table) (well : IsWellFormed g) (built : IsBuilt g graph table) (closed : IsClosed table) (most : ℕ)
    (choices : List (Option ChoiceOf)) (shortest : AreShortest g most choices) (edges : List EdgeOf) (are : AreEdges table choices edges)
    (accesses : List (Option AccessOf)) (right : AreRightAccesses table most choices accesses) where
  -- what is kept is kept of a state
  state_low : (s : ℕ) (access : AccessOf) → access_at accesses s ≡ Some access → s < states_len table
  state_low s access at =
      elim (cases_lt s (length accesses)) [
        | inl low ↦ let count = right.states in omega (arith, count, low)
        | inr past ↦ let none = get_or_past accesses s None past in absurd (cc)
      ]

  -- symbols of a path that have trees are a walk with a length
  path_total : (s : ℕ) (symbols : List GrammarSymbol) (trees : Forest ℕ) → s < states_len table → IsPathTo g graph s symbols → AreTreesOf g symbols trees
      → (len : ℕ) × IsWalk table s (reverse symbols) × (sum_of_lens most choices (reverse symbols) ≡ Some len) × (len ≤ forest_width trees)
  path_total s symbols trees low path fit =
      let len = have_len g most choices shortest symbols (trees, fit) in (
        len.0,
        path_walk g graph table well built closed (reverse symbols) s low path,
        total_reverse most choices symbols ∙ len.1,
        total_least g most choices shortest.right symbols len.0 trees len.1 fit,
      )

  -- the steps that lead back, in reverse
  back_total : (steps : List StepOf) (len : ℕ) → sum_of_lens most choices (symbols_in steps) ≡ Some len → sum_of_lens most choices (symbols_in (reverse steps)) ≡ Some len
  back_total steps len total =
      ap (sum_of_lens most choices) (symbols_reverse steps) ∙ total_reverse most choices (symbols_in steps) ∙ total

  back_path : (s : ℕ) (steps : List StepOf) → LeadBack table s steps → IsPathTo g graph s (symbols_in (reverse steps))
  back_path s steps lead =
      let same : reverse (symbols_in (reverse steps)) ≡ symbols_in steps = ap reverse (symbols_reverse steps) ∙ reverse-reverse (symbols_in steps) in
      subst (λ (w : List GrammarSymbol). AreSame (sets_of graph s) (IsReachedBy g w)) (sym same)
      (walk_path g graph table well built closed s (symbols_in steps) (lead_walk table s steps lead))

  access_shortest : (s : ℕ) (access : AccessOf) → access_at accesses s ≡ Some access → IsShortestAccess g graph most s access.len
  access_shortest s access at =
      let back = right.back s access at in
      let symbols = symbols_in (reverse back.0) in
      let kept = trees_kept g most choices shortest.right symbols access.len (back_total back.0 access.len back.3) in
      record {
        some = (symbols, kept.0, back_path s back.0 back.2, forest_follows_fit g most choices shortest.right kept.0 symbols kept.1, kept.2);
        least = λ others trees path fit.
            let fact = path_total s others trees (state_low s access at) path fit in
            let least = right.least s fact.0 access (reverse others) at fact.1 fact.2 in
            let wide = fact.3 in
            omega (arith, least, wide);
      }

  pub are_accesses : NoStepIsOpen most accesses edges → AreAccessStrings g graph table most accesses
  are_accesses done = record {
    states = right.states ∙ sym built.resolved.states;
    lens = λ s low.
        elim (option_cases (access_at accesses s)) as (λ _. IsShortestAccessIfAny g graph most s (option_map (λ (access : AccessOf). access.len) (access_at accesses s))) [
          | inl none ↦
              subst (λ (o : Option AccessOf). IsShortestAccessIfAny g graph most s (option_map (λ (access : AccessOf). access.len) o)) (sym none)
              (λ symbols trees path fit.
              let fact = path_total s symbols trees (let count = built.resolved.states in omega (arith, count, low)) path fit in
              no_walk table most choices edges are accesses right done s fact.0 (reverse symbols) none fact.1 fact.2)
          | inr some ↦
              subst (λ (o : Option AccessOf). IsShortestAccessIfAny g graph most s (option_map (λ (access : AccessOf). access.len) o)) (sym some.1)
              (access_shortest s some.0 some.1)
        ];
    paths = λ s access at.
        let back = right.back s access at in (
          back.0,
          back.1,
          record {
            lead = subst (λ xs. StepsLead table table.start xs s) (append-nil (reverse back.0)) (lead_onto table s s back.0 [] back.2 refl);
            path = back_path s back.0 back.2;
            len = access.len;
            own = total_is_shortest g most choices shortest.right (symbols_in (reverse back.0)) access.len (back_total back.0 access.len back.3);
            least = access_shortest s access at;
          },
        );
  }
