-- What precedences decide between a shift and a reduction: yacc's rule, as in Aho, Johnson and Ullman, 'Deterministic Parsing of
-- Ambiguous Grammars'.
use Rattle.std.specs.Prelude.{ℕ, List, [], Option, Some, None, slice_index_or}
use Rattle.std.specs.Ordering.{nat_cmp}
use Rattle.std.specs.declared.cmp.Ordering.{Ordering}
use Rattle.std.specs.declared.cmp.Ordering.TheVariants.{Less, Equal, Greater}
use Rattle.lrpar_table_precedence.specs.declared.precedence.AssocKind.{AssocKind}
use Rattle.lrpar_table_precedence.specs.declared.precedence.AssocKind.TheVariants.{Left, Right, Nonassoc, Undeclared}
use Rattle.lrpar_table_precedence.specs.declared.precedence.Precedence.{Precedence}
use Rattle.lrpar_table_precedence.specs.declared.precedence.Resolution.{Resolution}
use Rattle.lrpar_table_precedence.specs.declared.precedence.Resolution.TheVariants.{Shift, Reduce, Error}

-- how a conflict is resolved if both have one level: by a reduction if it is left-associative, by the shift if it is right-associative,
-- to an error if it is nonassociative, and not at all if its associativity isn't declared
abbrev pub by_kind : AssocKind → Option Resolution
by_kind Left = Some Reduce
by_kind Right = Some Shift
by_kind Nonassoc = Some Error
by_kind Undeclared = None

-- how a conflict is resolved by the levels of the production and the token: the higher one wins, and at one level its associativity
-- decides
abbrev pub by_levels : Ordering → AssocKind → Option Resolution
by_levels Less kind = Some Shift
by_levels Equal kind = by_kind kind
by_levels Greater kind = Some Reduce

-- how a production's precedence against a token's resolves a conflict, if it does
abbrev pub against : Precedence → Precedence → Option Resolution
against prod token = by_levels (nat_cmp prod.level token.level) token.kind

-- what a production's precedence against a token's decides: nothing, unless both have one
abbrev pub decided : Option Precedence → Option Precedence → Option Resolution
decided (Some prod) (Some token) = against prod token
decided (Some prod) None = None
decided None token = None

-- the precedences of tokens and of productions, by their numbers; a number past the list has none
pub record PrecedenceLists : Type 0 where
  pub tokens : List (Option Precedence)
  pub prods : List (Option Precedence)

-- no precedences at all
abbrev pub no_precedences : PrecedenceLists
no_precedences = record { tokens = []; prods = [] }

-- slot n of a list; out of range, it is empty
abbrev pub slot_at : List (Option Precedence) → ℕ → Option Precedence
slot_at slots n = slice_index_or slots n None

-- the precedence of token t
abbrev pub token_precedence : PrecedenceLists → ℕ → Option Precedence
token_precedence lists t = slot_at lists.tokens t

-- the precedence of production p
abbrev pub prod_precedence : PrecedenceLists → ℕ → Option Precedence
prod_precedence lists p = slot_at lists.prods p

-- p against t: how a conflict between the reduction by p and the shift of t is resolved, if it is
abbrev pub resolution_of : PrecedenceLists → ℕ → ℕ → Option Resolution
resolution_of lists p t = decided (prod_precedence lists p) (token_precedence lists t)
