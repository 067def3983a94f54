-- Sets of tokens in words of 64 bits: bit t % 64 of word t / 64 says whether token t is in the set.
use Rattle.std.specs.Prelude.{◌≡◌, ◌==◌, ◌&&◌, ◌||◌, ◌<◌, ◌≤◌, ◌/◌, ◌%◌, ◌+◌, ◌*◌, ℕ, Bool, IsTrue, true, false, List, length, map, nat_lt, slice_index_or}
use Rattle.std.specs.Int.{bit_at}
use Rattle.std.specs.List.{range_with_len}
use Rattle.std.specs.declared.cmp.Ordering.{Ordering}
use Rattle.std.specs.declared.cmp.Ordering.TheVariants.{Less, Equal, Greater}

-- bit i of the word
abbrev pub bit : ℕ → ℕ → Bool
bit word i = bit_at word i == 1

-- word k; past the last one, a word without bits
abbrev pub word_at : List ℕ → ℕ → ℕ
word_at words k = slice_index_or words k 0

-- the bit for token t: number t % 64 of word t / 64
abbrev pub token_bit : List ℕ → ℕ → Bool
token_bit words t = bit (word_at words (t / 64)) (t % 64)

-- the bits for the tokens below `len`
abbrev pub bits_of : ℕ → List ℕ → List Bool
bits_of len words = map (token_bit words) (range_with_len 0 len)

-- words for the tokens below `len`: there is a word for each, and no bit for another token
pub record AreWordsFor (len : ℕ) (words : List ℕ) : Type 0 where
  pub room : length words ≡ len / 64 + 1
  pub none : (t : ℕ) → len ≤ t → token_bit words t ≡ false

-- the words have no bit
abbrev pub HaveNone : List ℕ → Type 0
HaveNone words = (t : ℕ) → token_bit words t ≡ false

-- words for the tokens below `len`, without bits
pub record AreEmptyWordsFor (len : ℕ) (words : List ℕ) : Type 0 where
  pub are : AreWordsFor len words
  pub none : HaveNone words

-- the words have a bit
abbrev pub HaveAny : List ℕ → Type 0
HaveAny words = (t : ℕ) × IsTrue (token_bit words t)

-- the words and the others have a bit in common
abbrev pub HaveOneBoth : List ℕ → List ℕ → Type 0
HaveOneBoth words others = (t : ℕ) × IsTrue (token_bit words t) × IsTrue (token_bit others t)

-- the bit for the token was added
abbrev pub AddsBit : List ℕ → List ℕ → ℕ → Type 0
AddsBit old new token = (t : ℕ) → token_bit new t ≡ (token_bit old t || t == token)

-- the word has those bits of word k that are for tokens below `end`
abbrev pub IsWordBelow : List ℕ → ℕ → ℕ → ℕ → Type 0
IsWordBelow words k end word = (i : ℕ) → i < 64 → bit word i ≡ (nat_lt (64 * k + i) end && bit (word_at words k) i)

-- the words have all bits of the others for tokens below `end`
abbrev pub CoverBelow : List ℕ → List ℕ → ℕ → Type 0
CoverBelow words others end = (t : ℕ) → t < end → IsTrue (token_bit others t) → IsTrue (token_bit words t)

-- the bits of the others for tokens below `end` were added to the words
abbrev pub AddsBelow : List ℕ → List ℕ → List ℕ → ℕ → Type 0
AddsBelow old new others end = (t : ℕ) → token_bit new t ≡ (token_bit old t || (nat_lt t end && token_bit others t))

-- the first token for which the words and the others have different bits, and which of them have it
pub record DifferAt (words others : List ℕ) (bit other : Bool) : Type 0 where
  pub token : ℕ
  pub before : (t : ℕ) → t < token → token_bit words t ≡ token_bit others t
  pub here : token_bit words token ≡ bit
  pub there : token_bit others token ≡ other

-- the words are compared with the others by the first bit in which they differ
abbrev pub AreComparedAs : List ℕ → List ℕ → Ordering → Type 0
AreComparedAs words others Less = DifferAt words others false true
AreComparedAs words others Equal = (t : ℕ) → token_bit words t ≡ token_bit others t
AreComparedAs words others Greater = DifferAt words others true false
