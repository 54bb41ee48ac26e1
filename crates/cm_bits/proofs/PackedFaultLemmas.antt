-- When packed bytes are an image.
use Rattle.std.specs.Prelude.{◌≡◌, ◌≢◌, ℕ, ◌-◌, ◌*◌, ◌/◌, ◌%◌, ◌^◌, ◌<◌, ◌≤◌, List, length, slice_index, nat_le, Some, None}
use Rattle.std.specs.List.{position_or_len, position}
use Rattle.std.proofs.Common.{arith}
use Rattle.std.proofs.Math.Nat.{zero-div, mul-le-mul_left}
use Rattle.std.proofs.lemmas.List.{get_or_past}
use Rattle.cm_spec.specs.Image.{packed_len}
use Rattle.cm_bits.specs.declared.fault.ImageFault.TheVariants.{BadCell, BadPadding}
use Rattle.cm_bits.specs.Fault.{packed_fault}
use Rattle.cm_bits.specs.FaultLaws.{no_fault, cell_fault, padding_fault}
use Rattle.cm_bits.specs.PackedLaws.{le-packed_len, first_lt}
use Rattle.cm_bits.proofs.FaultLemmas.{found, not_found}

pub fault-large : (d p n k : ℕ) (bs : List ℕ) → 0 < p → length bs ≡ packed_len p n → position (λ b. nat_le (d ^ p) b) bs ≡ Some k → packed_fault d p n bs ≡ Some (BadCell (p * k))
unfolding packed_fault
fault-large d p n k bs q len e =
    let both = found (λ b. nat_le (d ^ p) b) bs k e in
    rw both.0 (cell_fault n (p * k) _ _ (first_lt p n k q (omega (arith, both.1))))

none_first : (d p n : ℕ) (bs : List ℕ) → 0 < p → length bs ≡ packed_len p n → position (λ b. nat_le (d ^ p) b) bs ≡ None → n ≤ p * position_or_len (λ b. nat_le (d ^ p) b) bs
none_first d p n bs q len e =
    let all : packed_len p n ≤ position_or_len (λ b. nat_le (d ^ p) b) bs = omega (arith, not_found (λ b. nat_le (d ^ p) b) bs e) in
    omega (arith, le-packed_len p n q, mul-le-mul_left p all)

pub fault-padding : (d p n : ℕ) (bs : List ℕ) → 0 < p → length bs ≡ packed_len p n → position (λ b. nat_le (d ^ p) b) bs ≡ None → n % p ≢ 0 → slice_index bs (length bs - 1) / d ^ (n % p) ≢ 0 → packed_fault d p n bs ≡ Some (BadPadding (length bs - 1))
unfolding packed_fault
fault-padding d p n bs q len e used full =
    let last : length bs - 1 ≡ n / p = omega arith in
    let full' : slice_index bs (n / p) / d ^ (n % p) ≢ 0 = rw last at full in
    padding_fault n _ _ _ (none_first d p n bs q len e) (omega (arith, full'))

pub fault-full : (d p n : ℕ) (bs : List ℕ) → 0 < p → length bs ≡ packed_len p n → position (λ b. nat_le (d ^ p) b) bs ≡ None → n % p ≡ 0 → packed_fault d p n bs ≡ None
unfolding packed_fault
fault-full d p n bs q len e used =
    no_fault n _ _ _ (none_first d p n bs q len e) (rw (get_or_past bs (n / p) 0 (omega arith)) (zero-div _))

pub fault-clear : (d p n : ℕ) (bs : List ℕ) → 0 < p → length bs ≡ packed_len p n → position (λ b. nat_le (d ^ p) b) bs ≡ None → n % p ≢ 0 → slice_index bs (length bs - 1) / d ^ (n % p) ≡ 0 → packed_fault d p n bs ≡ None
unfolding packed_fault
fault-clear d p n bs q len e used clear =
    let last : length bs - 1 ≡ n / p = omega arith in
    let clear' : slice_index bs (n / p) / d ^ (n % p) ≡ 0 = rw last at clear in
    no_fault n _ _ _ (none_first d p n bs q len e) clear'
