-- Which edges may have the ends of another one.
use Rattle.std.specs.Prelude.{◌≡◌, ℕ, ◌+◌, ◌*◌, ◌/◌, ◌%◌, ◌^◌, ◌<◌, Bool, true, ◌==◌, List, length, fold, slice_index, slice_index_or, bit_and, bit_or}
use Rattle.cm_spec.specs.Graph.{ends_at}
use Rattle.cm_witness_gather.specs.declared.candidates.Hits.{Hits}

-- if two of these places have edges with the same ends, these pass the test
abbrev pub FindsEqual : (List ℕ → Bool) → List (List ℕ) → List ℕ → Type 0
FindsEqual test edges places = (i j : ℕ) → i < j → j < length places → ends_at edges (slice_index places i) ≡ ends_at edges (slice_index places j) → test (ends_at edges (slice_index places j)) ≡ true

-- the ends of an edge, mixed into a number below 2 ^ 64
unfoldable pub mixed : List ℕ → ℕ
mixed ends = fold (λ h v. (h + v) % 2 ^ 64 * 0x9e3779b97f4a7c15 % 2 ^ 64) 0 ends

-- their slot in a table of this many words: the word, and three of its bits or fewer
unfoldable pub word_of : ℕ → List ℕ → ℕ
word_of words ends = mixed ends / 2 ^ 32 * words / 2 ^ 32

unfoldable pub bits_of : List ℕ → ℕ
bits_of ends = bit_or (bit_or (2 ^ (mixed ends / 2 ^ 26 % 64)) (2 ^ (mixed ends / 2 ^ 20 % 64))) (2 ^ (mixed ends / 2 ^ 14 % 64))

-- what hit the word
abbrev pub hits_of : List Hits → List ℕ → Hits
hits_of words ends = slice_index_or words (word_of (length words) ends) (record { once = 0; twice = 0 })

-- whether marked edges hit each bit of the slot, and whether each was hit twice: so it is for an edge that was marked once or twice
unfoldable pub is_once : List Hits → List ℕ → Bool
is_once words ends = bit_and (hits_of words ends).once (bits_of ends) == bits_of ends

unfoldable pub is_twice : List Hits → List ℕ → Bool
is_twice words ends = bit_and (hits_of words ends).twice (bits_of ends) == bits_of ends
