-- Lemmas about cells at fault and cells with no fault. No contract needs them.
use Rattle.std.specs.Prelude.{◌≡◌, ℕ, ◌≤◌, List, length, refl, nat_le, None, ◌<◌, Some}
use Rattle.std.specs.List.{position_or_len}
use Rattle.std.proofs.Common.{arith, sym, ◌∙◌, inl, inr}
use Rattle.std.proofs.lemmas.Bool.{lt-leb, le-ltb, cases_lt, cases_eq, lt-ltb}
use Rattle.std.proofs.lemmas.List.Sums.{position_or_len_is}
use Rattle.cm_bits.specs.Bound.{AllBelow}
use Rattle.cm_bits.specs.Fault.{fault_of}
use Rattle.cm_bits.specs.declared.fault.ImageFault.TheVariants.{BadCell, BadPadding}

-- no fault if the lowest cell at fault is past the n cells and the padding is 0
pub no_fault : (n first padding last : ℕ) → n ≤ first → padding ≡ 0 → fault_of n first padding last ≡ None
no_fault n first padding last a b = rw (b, le-ltb first n a) refl

-- the bytes are all small, and so the search for a large one finds none
pub all_small : (m : ℕ) (bs : List ℕ) → AllBelow m bs → position_or_len (λ b. nat_le m b) bs ≡ length bs
all_small m bs h = position_or_len_is _ bs (length bs) 0 (omega arith) (λ k l. lt-leb m _ (h k l)) (λ l. absurd (omega arith))

pub cell_fault : (n first padding last : ℕ) → first < n → fault_of n first padding last ≡ Some (BadCell first)
cell_fault n first padding last a = rw (lt-ltb first n a) refl

pub padding_fault : (n first padding last : ℕ) → n ≤ first → 0 < padding → fault_of n first padding last ≡ Some (BadPadding last)
padding_fault n first padding last a b = rw (le-ltb first n a, lt-ltb 0 padding b) refl

pub sound_fault : (n first padding last : ℕ) → fault_of n first padding last ≡ None → (n ≤ first) × (padding ≡ 0)
sound_fault n first padding last e = elim (cases_lt first n) [
  | inl a ↦ let h : Some (BadCell first) ≡ None = sym (cell_fault n first padding last a) ∙ e in cc
  | inr a ↦ elim (cases_eq padding 0) [
    | inl z ↦ (a, z)
    | inr z ↦ let h : Some (BadPadding last) ≡ None = sym (padding_fault n first padding last a (omega arith)) ∙ e in cc
  ]
]
