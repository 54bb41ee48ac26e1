-- Cells of as many bits as a fingerprint: each number of these bits is one that a cell may have.
use Rattle.std.proofs.Common.{◌≡◌, ℕ, ◌+◌, ◌-◌, ◌/◌, ◌<◌, ◌≤◌, ◌^◌, List, length, get_or, sym, arith, Bool, true, false, if◌then◌else◌, Some, None, inl, inr, lit<}
use Rattle.std.specs.Prelude.{nat_le, nat_lt}
use Rattle.std.specs.List.{position_or_len, range_with_len}
use Rattle.std.proofs.Math.Nat.{pow-le-pow_right}
use Rattle.std.proofs.lemmas.Bool.{cases_lt, leb-false}
use Rattle.std.proofs.lemmas.List.FromFn.{get_or-range_with_len}
use Rattle.std.proofs.lemmas.List.Sums.{fails_before_first}
use Rattle.std.proofs.lemmas.Nat.{mod_below, pow_pos}
use Rattle.cm_bits.specs.Fault.{bytes_number, field_cells, fields_fault}
use Rattle.cm_bits.specs.FieldsLaws.{all_fields}
use Rattle.cm_bits.specs.declared.fault.ImageFault.{ImageFault}
use Rattle.cm_bits.specs.declared.fault.ImageFault.TheVariants as image
use Rattle.cm_dump_images.specs.ImageLaws.{none_some, some_same}
use Rattle.cm_dump_images.specs.Images.{IsCellsFault}
use Rattle.cm_dump_items.specs.ItemLaws.{ltb_no}
use Rattle.cm_dump_items.specs.declared.fault.LoadFault.{LoadFault}
use Rattle.cm_dump_items.specs.declared.fault.LoadFault.TheVariants as faults
use Rattle.cm_filter.specs.Filters.{IsFingerprint}
use Rattle.cm_spec.specs.Image.{width_of}
use Rattle.cm_filter_file.specs.Loads.{IsReadFault}

-- they have no more bits than a fingerprint
width_most : (w : ℕ) → IsFingerprint w → width_of (2 ^ w) ≤ w
unfolding width_of
width_most w is =
    let f : ℕ → Bool = λ v. nat_le (2 ^ w) (2 ^ v) in
    let first : ℕ = position_or_len f (range_with_len 1 26) in
    let here : 1 + (w - 1) ≡ w = omega (arith, is.0) in
    let inside : w - 1 < 26 = omega (arith, is.0, is.1) in
    elim (cases_lt (w - 1) first) [
      | inl before ↦
          let item : get_or (range_with_len 1 26) (w - 1) 0 ≡ 1 + (w - 1) = get_or-range_with_len 1 26 (w - 1) 0 inside in
          let failed : f (get_or (range_with_len 1 26) (w - 1) 0) ≡ false = fails_before_first f (range_with_len 1 26) (w - 1) 0 before in
          let failed_here : nat_le (2 ^ w) (2 ^ w) ≡ false = rw (item, here) at failed in
          absurd (omega (arith, leb-false (2 ^ w) (2 ^ w) failed_here))
      | inr past ↦ omega (arith, past, here)
    ]

padding_or : (t : Bool) (last : ℕ) (f : ImageFault) → (if t then Some (image.BadPadding last) else None) ≡ Some f → f ≡ image.BadPadding last
padding_or true last f is = sym (some_same is)
padding_or false last f is = absurd (none_some f is)

-- only their padding can be at fault
pub only_padding : (w n : ℕ) (bytes : List ℕ) (f : ImageFault) → IsFingerprint w → fields_fault (width_of (2 ^ w)) n (2 ^ w) bytes ≡ Some f → f ≡ image.BadPadding (length bytes - 1)
unfolding fields_fault
only_padding w n bytes f fingerprint is =
    let v : ℕ = width_of (2 ^ w) in
    let narrow : 2 ^ v ≤ 2 ^ w = pow-le-pow_right (lit< tt) (width_most w fingerprint) in
    let all : n ≤ position_or_len (λ c. nat_le (2 ^ w) c) (field_cells v n (bytes_number bytes)) =
    all_fields v n (2 ^ w) (bytes_number bytes) (λ k l. omega (arith, mod_below (bytes_number bytes / (2 ^ v) ^ k) (2 ^ v) (pow_pos v), narrow)) in
    let none : nat_lt (position_or_len (λ c. nat_le (2 ^ w) c) (field_cells v n (bytes_number bytes))) n ≡ false = ltb_no _ _ all in
    padding_or _ _ f (rw none at is)

cell_or_padding : (i last : ℕ) → image.BadCell i ≡ image.BadPadding last → ⊥
cell_or_padding i last is = cc

-- and so no cell is
pub cells_kind : (w n : ℕ) (fault : LoadFault) → IsFingerprint w → IsCellsFault (fields_fault (width_of (2 ^ w)) n (2 ^ w)) fault → IsReadFault fault
cells_kind w n faults.Memory fingerprint kind = tt
cells_kind w n faults.Read fingerprint kind = tt
cells_kind w n (faults.Truncated at) fingerprint kind = tt
cells_kind w n faults.BadMagic fingerprint kind = absurd kind
cells_kind w n faults.BadAlgorithm fingerprint kind = absurd kind
cells_kind w n (faults.BadField at) fingerprint kind = tt
cells_kind w n (faults.BadPadding at) fingerprint kind = tt
cells_kind w n (faults.BadCell at) fingerprint kind = absurd (cell_or_padding kind.1 (length kind.0 - 1) (only_padding w n kind.0 (image.BadCell kind.1) fingerprint kind.2))
cells_kind w n (faults.BadCount at) fingerprint kind = absurd kind
cells_kind w n (faults.BadRank at) fingerprint kind = absurd kind
cells_kind w n faults.Trailing fingerprint kind = absurd kind
