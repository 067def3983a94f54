-- The precedences that the declarations of a `.y` file make, as they are found: from the names of its levels, which a map keeps.
use Rattle.std.specs.Prelude.{◌≡◌, ◌<◌, ◌++◌, ℕ, List, Option, length, map, Vec}
use Rattle.std.specs.BTreeMap.{BTreeMap}
use Rattle.std.specs.Borrow.{Bor}
use Rattle.std.specs.Option.{option_map_or}
use Rattle.lrpar_grammar.specs.Grammar.{Grammar, prods_len}
use Rattle.lrpar_grammar_words.specs.Words.{placed}
use Rattle.lrpar_grammar_words.specs.declared.words.Word.{Word}
use Rattle.lrpar_grammar_yacc.specs.Declares.{declarations_of, level_of, prec_of}
use Rattle.lrpar_grammar_yacc.specs.declared.declarations.Declarations.{Declarations}
use Rattle.lrpar_grammar_yacc.specs.declared.declarations.Level.{Level}
use Rattle.lrpar_grammar_yacc.specs.declared.declarations.Prec.{Prec}
use Rattle.lrpar_table_levels.specs.ByName.{HasPrecedences, name_entries, prec_of_prod, precedence_in, prod_by_name, token_by_name}
use Rattle.lrpar_table_precedence.specs.Precedence.{PrecedenceLists, prod_precedence, slot_at, token_precedence}
use Rattle.lrpar_table_precedence.specs.declared.precedence.Precedence.{Precedence}

-- each token has the precedence that is declared for its name
abbrev pub HasTokensByName : Grammar → Declarations → PrecedenceLists → Type 0
HasTokensByName g d made = (t : ℕ) → token_precedence made t ≡ token_by_name g (declarations_of d).levels t

-- each production of the grammar has the precedence that is declared for it
abbrev pub HasProdsByName : Grammar → Declarations → PrecedenceLists → Type 0
HasProdsByName g d made = (p : ℕ) → p < prods_len g → prod_precedence made p ≡ prod_by_name g (declarations_of d) p

-- the map has the names of the levels, each with its precedence
abbrev pub HasNamesOf : List Level → BTreeMap (Bor (List ℕ)) Precedence → Type 0
HasNamesOf levels names = HasPrecedences names (name_entries (map level_of levels))

-- the words were added with this precedence, after the entries that the map has: of equal names the first counts
abbrev pub AddsNames : List Word → Precedence → BTreeMap (Bor (List ℕ)) Precedence → BTreeMap (Bor (List ℕ)) Precedence → Type 0
AddsNames words precedence old new =
    (entries : List (List ℕ × Precedence)) → HasPrecedences old entries
    → HasPrecedences new (entries ++ map (λ w. (w.name, precedence)) (map placed words))

-- these are the precedences that the names of the grammar's tokens have
abbrev pub AreNamePrecedences : {A : Type 0} → Grammar → BTreeMap (Bor (List ℕ)) Precedence → Vec (Option Precedence) A → Type 0
AreNamePrecedences g names tokens = tokens.items ≡ map (precedence_in names) (map (λ token. token.name) g.tokens)

-- each production with a `%prec` got the precedence of its name, and each other one has what it had
abbrev pub AssignsPrecs : BTreeMap (Bor (List ℕ)) Precedence → List Prec → List (Option Precedence) → List (Option Precedence) → Type 0
AssignsPrecs names precs old new =
    (p : ℕ) → p < length old
    → slot_at new p ≡ option_map_or (λ x. precedence_in names x.name.name) (prec_of_prod (map prec_of precs) p) (slot_at old p)
