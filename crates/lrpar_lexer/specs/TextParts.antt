-- Parts of a text.
use Rattle.std.specs.Prelude.{◌≡◌, ℕ, List, [], slice_range}
use Rattle.lrpar_grammar_places.specs.Span.{Extent, IsPartOf}

-- these are the bytes of the text at the span, if it starts and ends in the text, each between two characters
abbrev pub IsPartAt : List ℕ → Extent → List ℕ → Type 0
IsPartAt text span part = IsPartOf text span → part ≡ slice_range text span.start span.end

-- these are no bytes, if the span doesn't start and end so
abbrev pub IsEmptyOutside : List ℕ → Extent → List ℕ → Type 0
IsEmptyOutside text span part = ¬ (IsPartOf text span) → part ≡ []
