-- Lemmas about fields that stand at an offset, and about the end, which the proofs of what a file says cite. No contract needs them.
use Rattle.std.proofs.Common.{◌≡◌, ℕ, ◌<◌, ◌≤◌, ◌^◌, List, [], ◌∷◌, length, arith, refl, Ok, w32, lit<}
use Rattle.std.specs.Int.{Width, byte_len, to_le_bytes, w8}
use Rattle.std.proofs.lemmas.Bool.{le-leb}
use Rattle.cm_dump_items.specs.ItemLaws.{ltb_no}
use Rattle.cm_dump_items.specs.Reading.{end_at, field_at, item_at}
use Rattle.cm_dump_items.specs.WidthLaws.{IsWidth, of_four, of_one}

pub field_there : (w : Width) → IsWidth w → (bytes : List ℕ) (at low high x : ℕ) → item_at bytes at (byte_len w) ≡ Ok (to_le_bytes w x) → x < 256 ^ byte_len w → low ≤ x → x ≤ high → field_at w bytes at low high ≡ Ok x
unfolding field_at
field_there w known bytes at low high x is fits above below = rw (is, known.back x fits, le-leb low x above, le-leb x high below) refl

pub number_there : (bytes : List ℕ) (at low high x : ℕ) → item_at bytes at 4 ≡ Ok (to_le_bytes w32 x) → x < 2 ^ 32 → low ≤ x → x ≤ high → field_at w32 bytes at low high ≡ Ok x
number_there bytes at low high x is fits above below = field_there w32 of_four bytes at low high x is fits above below

pub zero_there : (bytes : List ℕ) (at : ℕ) → item_at bytes at 1 ≡ Ok (0 ∷ []) → field_at w8 bytes at 0 0 ≡ Ok 0
zero_there bytes at is = field_there w8 of_one bytes at 0 0 0 is (lit< tt) (omega arith) (omega arith)

pub end_there : (bytes : List ℕ) (at : ℕ) → length bytes ≡ at → end_at bytes at ≡ Ok tt
unfolding end_at
end_there bytes at is = rw (ltb_no at (length bytes) (omega (arith, is))) refl
