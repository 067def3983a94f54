-- Runs over tokens, one token after the other.
use Rattle.std.proofs.Common.{◌≡◌, ◌<◌, ◌∙◌, ◌++◌, ◌∷◌, ◌+◌, [], ap, arith, subst, sym, ℕ, List, get_or, length, take}
use Rattle.std.proofs.lemmas.List.{get_or-map, length-map, take_more}
use Rattle.lrpar_grammar_places.specs.declared.span.TIdx.{TIdx}
use Rattle.lrpar_table_stacks.specs.Expected.{tokens_of}
use Rattle.lrpar_table_stacks.specs.Reduction.{Feeds}
use Rattle.lrpar_table_check.specs.Checked.{Checked}
use Rattle.lrpar_table_stops.specs.Runs.{Continues, RunsTo, Starts}

-- no token is fed yet
pub runs_to_start : (d : Checked) (tokens st : List ℕ) → st ≡ d.table.start ∷ [] → RunsTo d (take 0 tokens) st
runs_to_start d tokens st is = subst (λ after. RunsTo d (take 0 tokens) after) (sym is) Starts

module _ {S : Type 0} (index : S → ℕ) (d : Checked) (tokens : List (TIdx S)) (i : ℕ) (t : TIdx S) (low : i < length tokens) (is : t ≡ get_or tokens i t) where
  -- the token at a place
  token_at : get_or (tokens_of index tokens) i (index t.0) ≡ index t.0
  token_at = get_or-map (λ t. index t.0) tokens i t (index t.0) low ∙ ap (λ (t : TIdx S). index t.0) (sym is)

  low_of : i < length (tokens_of index tokens)
  low_of = let count = length-map tokens (λ t. index t.0) in omega (arith, count, low)

  -- one more token is fed
  pub runs_more : (prods mid after : List ℕ) → RunsTo d (take i (tokens_of index tokens)) mid → Feeds d.grammar d.table (index t.0) mid prods after
      → RunsTo d (take (i + 1) (tokens_of index tokens)) after
  runs_more prods mid after runs feeds =
      let more : take (i + 1) (tokens_of index tokens) ≡ take i (tokens_of index tokens) ++ index t.0 ∷ [] =
      take_more (tokens_of index tokens) i (index t.0) low_of ∙ ap (λ y. take i (tokens_of index tokens) ++ y ∷ []) token_at in
      subst (λ ts. RunsTo d ts after) (sym more) (Continues (take i (tokens_of index tokens)) (index t.0) prods mid after runs feeds)
