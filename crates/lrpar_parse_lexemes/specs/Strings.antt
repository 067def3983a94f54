-- Calls that add a text to a string.
use Rattle.std.specs.Prelude.{ℕ, List, OnOk, Result, String}
use Rattle.lrpar_grammar_places.specs.Strings.{Appends}

-- if the call succeeded, the text was added at the end
abbrev pub Pushes : {A T E : Type 0} → List ℕ → String A → String A → Result T E → Type 0
Pushes text old new result = OnOk result (Appends old new text)
