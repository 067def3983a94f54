-- The entries of a state, with keys and values stored side by side.
use Rattle.std.proofs.Common.{◌≡◌, ◌<◌, ◌∙◌, sym, ap, subst, arith, ℕ, List, length, map, slice_index_or}
use Rattle.std.specs.List.{zip}
use Rattle.std.proofs.lemmas.List.{get_or-map, length-map}
use Rattle.std.proofs.lemmas.Slice.Zip.{get_or-zip, length-zip}

-- keys and values side by side, which are the entries of a state
module _ {K V X : Type 0} (number : K → ℕ) (value : V → X) (ks : List K) (vs : List V) (es : List (ℕ × X)) (paired : length vs ≡ length ks)
    (is : map (λ e. (number e.0, value e.1)) (zip ks vs) ≡ es) where
  -- there are as many entries as keys
  pub entries_len : length es ≡ length ks
  entries_len =
      let zipped = length-zip ks vs in
      let mapped = length-map (zip ks vs) (λ (e : K × V). let made : ℕ × X = (number e.0, value e.1) in made) in
      let same = ap (λ (l : List (ℕ × X)). length l) is in
      omega (arith, zipped, mapped, same, paired)

  -- a key that was read with its value is the entry at that place
  pub entry_read : (i : ℕ) (k : K) (v : V) → i < length ks → k ≡ slice_index_or ks i k → v ≡ slice_index_or vs i v
      → ◌≡◌ {A = ℕ × X} (number k, value v) (slice_index_or es i (number k, value v))
  entry_read i k v below key at =
      let f : K × V → ℕ × X = λ e. (number e.0, value e.1) in
      let zipped = length-zip ks vs in
      let here = get_or-zip ks vs i (k, v) below (omega (arith, below, paired)) in
      let image = get_or-map f (zip ks vs) i (k, v) (number k, value v) (omega (arith, below, paired, zipped)) in
      let read : f (k, v) ≡ f (slice_index_or (zip ks vs) i (k, v)) = ap f (same_pair k (slice_index_or ks i k) v (slice_index_or vs i v) key at ∙ sym here) in
      subst (λ (l : List (ℕ × X)). ◌≡◌ {A = ℕ × X} (number k, value v) (slice_index_or l i (number k, value v))) is (read ∙ sym image)
    where
      same_pair : (j k : K) (w v : V) → j ≡ k → w ≡ v → ◌≡◌ {A = K × V} (j, w) (k, v)
      same_pair j k w v key value = cc

  -- so there is an entry at the place of such a key, and it is that key with its value
  pub entry_at : (i : ℕ) (k : K) (v : V) → i < length ks → k ≡ slice_index_or ks i k → v ≡ slice_index_or vs i v
      → (i < length es) × ◌≡◌ {A = ℕ × X} (number k, value v) (slice_index_or es i (number k, value v))
  entry_at i k v below key at =
      let len : length es ≡ length ks = entries_len in
      let within : i < length es = omega (arith, len, below) in
      (within, entry_read i k v below key at)
