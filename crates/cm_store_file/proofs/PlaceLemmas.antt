-- Places, and the bytes that are their image.
use Rattle.std.proofs.Common.{◌≡◌, ◌∙◌, ℕ, ◌+◌, ◌*◌, ◌/◌, ◌%◌, ◌<◌, ◌≤◌, ◌^◌, List, length, ap, sym, subst, arith, refl, Bool, true, false, if◌then◌else◌, Some, None, Result, Ok, Err, lit<}
use Rattle.std.specs.Prelude.{nat_le, nat_lt, slice_index}
use Rattle.std.specs.List.{position_or_len}
use Rattle.std.proofs.lemmas.Bool.{leb-false}
use Rattle.std.proofs.lemmas.List.{ext_get_or}
use Rattle.std.proofs.lemmas.List.FromFn.{length-map-range_with_len, get_or-map-range_with_len}
use Rattle.std.proofs.lemmas.List.Sums.{fails_before_first}
use Rattle.cm_bits.specs.Bound.{AllBelow}
use Rattle.cm_bits.specs.DigitsLaws.{digit-digits_sum, digits_sum-digits, digits_sum-same}
use Rattle.cm_bits.specs.Fault.{plain_cell, plain_fault}
use Rattle.cm_bits.specs.FaultLaws.{sound_fault}
use Rattle.cm_bits.specs.declared.fault.ImageFault.{ImageFault}
use Rattle.cm_bits.specs.declared.fault.ImageFault.TheVariants as image
use Rattle.cm_dump_images.specs.ImageLaws.{none_some, some_same}
use Rattle.cm_dump_items.specs.BackLaws.{Small}
use Rattle.cm_dump_items.specs.ItemLaws.{ge_of, ltb_no}
use Rattle.cm_dump_items.specs.StepLaws.{ok_err, ok_same}
use Rattle.cm_spec.specs.Image.{plain_byte}
use Rattle.cm_spec.specs.Lists.{list_of}
use Rattle.cm_store_file.specs.StoreFiles.{places_bytes, places_in}
use Rattle.cm_store_file.specs.declared.fault.StoreLoad.{StoreLoad}
use Rattle.cm_store_file.specs.declared.fault.StoreLoad.TheVariants.{BadPlace}

fault_or : (t : Bool) (lowest last : ℕ) (f : ImageFault) → (if t then Some (image.BadCell lowest) else if nat_lt 0 0 then Some (image.BadPadding last) else None) ≡ Some f → (t ≡ true) × (f ≡ image.BadCell lowest)
fault_or true lowest last f is = (refl, sym (some_same is))
fault_or false lowest last f is = absurd (none_some f is)

-- a fault of an image of places is about a place
pub bad_place : (n bound : ℕ) (bytes : List ℕ) (f : ImageFault) → plain_fault n bound bytes ≡ Some f → (i : ℕ) × (f ≡ image.BadCell i) × (places_in n bound bytes ≡ Err (BadPlace i))
unfolding plain_fault
bad_place n bound bytes f is =
    let parts = fault_or _ _ 0 f is in
    let long : length (list_of (plain_cell bytes) n) ≡ n = length-map-range_with_len (plain_cell bytes) 0 n in
    (position_or_len (λ c. nat_le bound c) (list_of (plain_cell bytes) n), parts.1, rw (long, parts.0) refl)

padding_is_none : (i q : ℕ) → image.BadPadding q ≡ image.BadCell i → ⊥
padding_is_none i q is = cc

pub no_padding : (n bound : ℕ) (bytes : List ℕ) (q : ℕ) → plain_fault n bound bytes ≡ Some (image.BadPadding q) → ⊥
no_padding n bound bytes q is = let bad = bad_place n bound bytes (image.BadPadding q) is in padding_is_none bad.0 q bad.1

same_cell : (i j : ℕ) → image.BadCell i ≡ image.BadCell j → i ≡ j
same_cell i j is = cc

pub bad_cell : (n bound : ℕ) (bytes : List ℕ) (i : ℕ) → plain_fault n bound bytes ≡ Some (image.BadCell i) → places_in n bound bytes ≡ Err (BadPlace i)
bad_cell n bound bytes i is =
    let bad = bad_place n bound bytes (image.BadCell i) is in
    rw (same_cell i bad.0 bad.1) bad.2

-- the cells of an image of places are the places
cell_there : (n : ℕ) (xs bytes : List ℕ) → length xs ≡ n → AllBelow (2 ^ 32) xs → bytes ≡ list_of (plain_byte xs) (4 * n) → (i : ℕ) → i < n → plain_cell bytes i ≡ slice_index xs i
unfolding plain_byte
cell_there n xs bytes size small is i l =
    digits_sum-same 256 _ (λ k. slice_index xs i / 256 ^ k % 256) 4 (λ k m.
    let place : (4 * i + k) / 4 ≡ i = omega arith in
    let part : (4 * i + k) % 4 ≡ k = omega arith in
    ap (λ (b : List ℕ). slice_index b (4 * i + k)) is
    ∙ get_or-map-range_with_len (λ q. slice_index xs (q / 4) / 256 ^ (q % 4) % 256) 0 (4 * n) (4 * i + k) (4 * i + k) 0 (omega arith) (omega arith)
    ∙ rw (place, part) refl)
    ∙ digits_sum-digits 256 4 (slice_index xs i) (lit< tt) (small i (omega (arith, l, size)))

pub cells_there : (n : ℕ) (xs bytes : List ℕ) → length xs ≡ n → AllBelow (2 ^ 32) xs → bytes ≡ list_of (plain_byte xs) (4 * n) → list_of (plain_cell bytes) n ≡ xs
cells_there n xs bytes size small is =
    let long : length (list_of (plain_cell bytes) n) ≡ n = length-map-range_with_len (plain_cell bytes) 0 n in
    ext_get_or 0 (list_of (plain_cell bytes) n) xs (long ∙ sym size) (λ i l.
    let here : i < n = omega (arith, l, long) in
    get_or-map-range_with_len (plain_cell bytes) 0 n i i 0 here (omega arith) ∙ cell_there n xs bytes size small is i here)

-- an image without a fault
pub places_known : (n bound : ℕ) (xs bytes : List ℕ) → length xs ≡ n → AllBelow (2 ^ 32) xs → bytes ≡ list_of (plain_byte xs) (4 * n) → plain_fault n bound bytes ≡ None → places_in n bound bytes ≡ Ok xs
unfolding plain_fault
places_known n bound xs bytes size small is none =
    let cells : list_of (plain_cell bytes) n ≡ xs = cells_there n xs bytes size small is in
    let sound = rw cells at (sound_fault n _ 0 0 none).0 in
    rw cells (rw (size, ltb_no _ n sound) refl)

-- bytes from which places are read are their image
image_there : (n : ℕ) (image : List ℕ) → Small image → length image ≡ 4 * n → places_bytes (list_of (plain_cell image) n) ≡ image
unfolding plain_byte
image_there n image small whole =
    let places : List ℕ = list_of (plain_cell image) n in
    let long : length places ≡ n = length-map-range_with_len (plain_cell image) 0 n in
    let room : length (places_bytes places) ≡ 4 * length places = length-map-range_with_len (plain_byte places) 0 (4 * length places) in
    ext_get_or 0 (places_bytes places) image (omega (arith, room, long, whole)) (λ q l.
    let here : q < 4 * length places = omega (arith, l, room) in
    let inside : q / 4 < n = omega (arith, here, long) in
    let byte : 4 * (q / 4) + q % 4 ≡ q = omega arith in
    get_or-map-range_with_len (plain_byte places) 0 (4 * length places) q q 0 here (omega arith)
    ∙ ap (λ (x : ℕ). x / 256 ^ (q % 4) % 256) (get_or-map-range_with_len (plain_cell image) 0 n (q / 4) (q / 4) 0 inside (omega arith))
    ∙ digit-digits_sum 256 (λ k. slice_index image (4 * (q / 4) + k)) 4 (q % 4) (lit< tt) (λ i m. small (4 * (q / 4) + i)) (omega arith)
    ∙ ap (slice_index image) byte)

pub record ReadsPlaces (n bound : ℕ) (image places : List ℕ) : Type 0 where
  pub long : length places ≡ n
  pub below : AllBelow bound places
  pub image_is : places_bytes places ≡ image

unless_low : (t : Bool) (e : StoreLoad) (xs ys : List ℕ) → (if t then (let r : Result (List ℕ) StoreLoad = Err e in r) else Ok xs) ≡ Ok ys → (t ≡ false) × (xs ≡ ys)
unless_low true e xs ys is = absurd (ok_err ys e (sym is))
unless_low false e xs ys is = (refl, ok_same is)

pub places_read : (n bound : ℕ) (image places : List ℕ) → Small image → length image ≡ 4 * n → places_in n bound image ≡ Ok places → ReadsPlaces n bound image places
places_read n bound image places small whole is =
    let xs : List ℕ = list_of (plain_cell image) n in
    let parts = unless_low _ _ xs places is in
    let all : length xs ≤ position_or_len (λ place. nat_le bound place) xs = ge_of _ _ parts.0 in
    let made : ReadsPlaces n bound image xs = record {
      long = length-map-range_with_len (plain_cell image) 0 n;
      below = λ k l. leb-false bound _ (fails_before_first (λ place. nat_le bound place) xs k 0 (omega (arith, l, all)));
      image_is = image_there n image small whole;
    } in
    subst (ReadsPlaces n bound image) parts.1 made
