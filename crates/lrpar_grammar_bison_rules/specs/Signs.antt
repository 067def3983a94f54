-- The words of a `.y` file by what they are to its declarations and rules.
use Rattle.std.specs.Prelude.{Bool, true, false, ◌&&◌, ◌||◌, List, [], ◌∷◌, if◌then◌else◌}
use Rattle.std.specs.Option.{option_map_or}
use Rattle.lrpar_grammar_bison.specs.declared.words.WordKind.{WordKind}
use Rattle.lrpar_grammar_bison.specs.declared.words.WordKind.TheVariants.{Colon, Directive as DirectiveWord, Label, Name}
use Rattle.lrpar_grammar_bison.specs.Words.{PlacedWord}
use Rattle.lrpar_grammar_bison_rules.specs.declared.signs.Sign.{Sign}
use Rattle.lrpar_grammar_bison_rules.specs.declared.signs.Sign.TheVariants.{Directive, RuleName, Other}
use Rattle.lrpar_grammar_bison_rules.specs.Directives.{directive_named}

-- `:`
abbrev pub is_colon : WordKind → Bool
is_colon Colon = true
is_colon _ = false

-- a label
abbrev pub is_label : WordKind → Bool
is_label Label = true
is_label _ = false

-- a `:` comes first
abbrev pub is_colon_first : List PlacedWord → Bool
is_colon_first [] = false
is_colon_first (w ∷ ws) = is_colon w.kind

-- a `:` comes first, perhaps after a label
abbrev pub begins_rule : List PlacedWord → Bool
begins_rule [] = false
begins_rule (w ∷ ws) = is_colon w.kind || (is_label w.kind && is_colon_first ws)

-- what a word of that kind and name is, with these words after it
abbrev pub sign_by : WordKind → PlacedWord → List PlacedWord → Sign
sign_by DirectiveWord w after = option_map_or (λ d. Directive d) (directive_named w.name) (Other w.kind)
sign_by Name w after = if begins_rule after then RuleName else Other w.kind
sign_by _ w after = Other w.kind

-- what a word is, with these words after it
abbrev pub sign_of : PlacedWord → List PlacedWord → Sign
sign_of w after = sign_by w.kind w after
