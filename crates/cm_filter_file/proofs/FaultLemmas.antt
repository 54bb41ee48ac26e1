-- The faults of bytes that are no filter file.
use Rattle.std.proofs.Common.{◌≡◌, ℕ, List, length, suc, zero, Bool, true, false, if◌then◌else◌, ◌^◌, ◌+◌, ◌-◌, subst, Option, Some, None, Result, Ok, Err, sym, refl}
use Rattle.std.specs.Int.{Width, byte_len, w8, w32}
use Rattle.cm_bits.specs.declared.fault.ImageFault.{ImageFault}
use Rattle.cm_bits.specs.declared.fault.ImageFault.TheVariants as image
use Rattle.cm_dump_images.specs.Images.{fault_at, fields_at, image_at, unless_bad}
use Rattle.cm_dump_items.specs.Reading.{◌>>=◌, end_at, field_at, item_at, zeros_at}
use Rattle.cm_dump_items.specs.declared.fault.LoadFault.{LoadFault}
use Rattle.cm_dump_items.specs.BackLaws.{field_range}
use Rattle.cm_dump_items.specs.StepLaws.{ok_same, step}
use Rattle.cm_filter.specs.Filters.{IsFingerprint}
use Rattle.cm_filter.specs.declared.limits.TheConstants.{MAX_FINGERPRINT, MIN_FINGERPRINT}
use Rattle.cm_spec.specs.declared.limits.TheConstants.{MAX_KEYS}
use Rattle.cm_filter_file.specs.FilterFiles.{IsFileFault, cells_at, filter_at, header_at, magic_at}
use Rattle.cm_filter_file.specs.declared.header.Header.{Header}
use Rattle.cm_filter_file.proofs.WidthLemmas.{only_padding}

-- what is read has no other fault
abbrev Only : {A : Type 0} → Result A LoadFault → Type 0
Only (Ok x) = Unit {0}
Only (Err e) = IsFileFault e

only_then : {A B : Type 0} (r : Result A LoadFault) (f : A → Result B LoadFault) → Only r → ((x : A) → r ≡ Ok x → Only (f x)) → Only (r >>= f)
only_then (Ok x) f first next = next x refl
only_then (Err e) f first next = first

only_if : {A : Type 0} (t : Bool) (e : LoadFault) (x : A) → IsFileFault e → Only (if t then (let r : Result A LoadFault = Ok x in r) else Err e)
only_if true e x is = tt
only_if false e x is = is

only_unless : {A : Type 0} (t : Bool) (e : LoadFault) (x : A) → IsFileFault e → Only (if t then (let r : Result A LoadFault = Err e in r) else Ok x)
only_unless true e x is = is
only_unless false e x is = tt

only_item : (bytes : List ℕ) (at n : ℕ) → Only (item_at bytes at n)
unfolding item_at
only_item bytes at n = only_unless _ _ _ tt

only_field : (w : Width) (bytes : List ℕ) (at low high : ℕ) → Only (field_at w bytes at low high)
unfolding field_at
only_field w bytes at low high = only_then _ _ (only_item bytes at (byte_len w)) (λ item is. only_if _ _ _ tt)

only_zeros : (bytes : List ℕ) (at n : ℕ) → Only (zeros_at bytes at n)
unfolding zeros_at
only_zeros bytes at zero = tt
only_zeros bytes at (suc n) = only_then _ _ (only_field w8 bytes at 0 0) (λ first is. only_zeros bytes (at + 1) n)

only_magic : (bytes : List ℕ) → Only (magic_at bytes)
unfolding magic_at
only_magic bytes = only_then _ _ (only_item bytes 0 8) (λ item is. only_if _ _ _ tt)

only_header : (bytes : List ℕ) → Only (header_at bytes)
unfolding header_at
only_header bytes =
    only_then _ _ (only_magic bytes) (λ begun _. only_then _ _ (only_field _ bytes _ _ _) (λ w _. only_then _ _ (only_zeros bytes 9 3) (λ none _. only_then _ _ (only_field _ bytes _ _ _) (λ keys _. only_then _ _ (only_field _ bytes _ _ _) (λ ratio _. only_then _ _ (only_field _ bytes _ _ _) (λ seed _. tt))))))

header_bits : (bytes : List ℕ) (h : Header) → header_at bytes ≡ Ok h → IsFingerprint h.w
unfolding header_at
header_bits bytes h is =
    let begun = step (magic_at bytes) _ h is in
    let w = step (field_at w8 bytes 8 MIN_FINGERPRINT MAX_FINGERPRINT) _ h begun.next in
    let zeros = step (zeros_at bytes 9 3) _ h w.next in
    let keys = step (field_at w32 bytes 12 1 MAX_KEYS) _ h zeros.next in
    let ratio = step (field_at w32 bytes 16 1000000 10000000) _ h keys.next in
    let seed = step (field_at w32 bytes 20 0 4294967295) _ h ratio.next in
    subst (λ (x : Header). IsFingerprint x.w) (ok_same seed.next) (field_range w8 bytes 8 MIN_FINGERPRINT MAX_FINGERPRINT w.value w.was)

only_unless_bad : (at last : ℕ) (place : ℕ → ℕ) (o : Option ImageFault) (item : List ℕ) → ((f : ImageFault) → o ≡ Some f → f ≡ image.BadPadding last) → Only (unless_bad at place o item)
only_unless_bad at last place None item padding = tt
only_unless_bad at last place (Some f) item padding = subst (λ (g : ImageFault). IsFileFault (fault_at at place g)) (sym (padding f refl)) tt

only_fields : (w : ℕ) (bytes : List ℕ) (at n : ℕ) → IsFingerprint w → Only (fields_at bytes at n (2 ^ w))
unfolding image_at
only_fields w bytes at n fingerprint =
    only_then _ _ (only_item bytes at _) (λ item _. only_unless_bad at (length item - 1) _ _ item (λ f is. only_padding w n item f fingerprint is))

only_end : (bytes : List ℕ) (at : ℕ) → Only (end_at bytes at)
unfolding end_at
only_end bytes at = only_unless _ _ _ tt

only_cells : (bytes : List ℕ) (h : Header) → IsFingerprint h.w → Only (cells_at bytes h)
unfolding cells_at
only_cells bytes h fingerprint = only_then _ _ (only_fields h.w bytes 24 _ fingerprint) (λ image _. only_then _ _ (only_end bytes _) (λ ended _. tt))

only_filter : (bytes : List ℕ) → Only (filter_at bytes)
unfolding filter_at
only_filter bytes = only_then _ _ (only_header bytes) (λ h is. only_cells bytes h (header_bits bytes h is))

pub file_faults : (bytes : List ℕ) (fault : LoadFault) → filter_at bytes ≡ Err fault → IsFileFault fault
file_faults bytes fault is = rw is at (only_filter bytes)
