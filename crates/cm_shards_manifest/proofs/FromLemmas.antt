-- Items that stand one after another in bytes.
use Rattle.std.proofs.Common.{◌≡◌, ◌∙◌, ℕ, ◌+◌, ◌<◌, ◌≤◌, ◌^◌, List, [], ◌++◌, length, length-append, sym, arith, refl, append_assoc, Ok}
use Rattle.std.specs.Int.{Width, byte_len, to_le_bytes, w64}
use Rattle.std.proofs.lemmas.Nat.{from_le_bytes-to_le_bytes_8, le_bytes_8}
use Rattle.cm_dump_items.specs.ItemLaws.{item_there}
use Rattle.cm_dump_items.specs.Reading.{field_at, item_at}
use Rattle.cm_dump_items.specs.ThereLaws.{field_there}
use Rattle.cm_dump_items.specs.WidthLaws.{IsWidth}

pub of_eight : IsWidth w64
of_eight = record { long = λ n. refl; back = from_le_bytes-to_le_bytes_8; same = le_bytes_8 }

-- these are the bytes from an offset on
pub record From (bytes : List ℕ) (at : ℕ) (rest : List ℕ) : Type 0 where
  pub first : List ℕ
  pub is : bytes ≡ first ++ rest
  pub long : length first ≡ at

pub from_start : (bytes : List ℕ) → From bytes 0 bytes
from_start bytes = record { first = []; is = refl; long = refl }

-- the bytes of the first piece are an item
pub from_item : (bytes : List ℕ) (at n : ℕ) (ys zs : List ℕ) → From bytes at (ys ++ zs) → length ys ≡ n → item_at bytes at n ≡ Ok ys
from_item bytes at n ys zs from long = item_there bytes from.first ys zs at n from.is from.long long

-- and the others follow it
pub from_next : (bytes : List ℕ) (at next : ℕ) (ys zs : List ℕ) → From bytes at (ys ++ zs) → at + length ys ≡ next → From bytes next zs
from_next bytes at next ys zs from place = record {
  first = from.first ++ ys;
  is = from.is ∙ sym (append_assoc from.first ys zs);
  long = omega (arith, length-append from.first ys, from.long, place);
}

-- a number in its range
pub from_field : (w : Width) → IsWidth w → (bytes : List ℕ) (at low high x : ℕ) (zs : List ℕ) → From bytes at (to_le_bytes w x ++ zs) → x < 256 ^ byte_len w → low ≤ x → x ≤ high → field_at w bytes at low high ≡ Ok x
from_field w known bytes at low high x zs from fits above below = field_there w known bytes at low high x (from_item bytes at (byte_len w) (to_le_bytes w x) zs from (known.long x)) fits above below
