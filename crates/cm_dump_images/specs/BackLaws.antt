-- Lemmas about the bytes from which an image was read, which the proofs of what a file says cite. No contract needs them.
use Rattle.std.proofs.Common.{◌≡◌, ◌∙◌, ℕ, ◌*◌, ◌/◌, ◌%◌, ◌<◌, ◌^◌, ◌≤◌, List, length, ap, sym, subst, arith, refl, Bool, true, false, if◌then◌else◌, Option, Some, None, Ok, lit<}
use Rattle.std.specs.Prelude.{nat_le, slice_index}
use Rattle.std.specs.List.{position_or_len}
use Rattle.std.proofs.Math.Nat.{lt-div-mul-add}
use Rattle.std.proofs.lemmas.Bool.{leb-false}
use Rattle.std.proofs.lemmas.List.{ext_get_or}
use Rattle.std.proofs.lemmas.List.FromFn.{length-map-range_with_len, get_or-map-range_with_len}
use Rattle.std.proofs.lemmas.List.Sums.{fails_before_first}
use Rattle.std.proofs.lemmas.Nat.{pow_pos}
use Rattle.cm_bits.specs.Bound.{AllBelow}
use Rattle.cm_bits.specs.DigitsLaws.{digit-digits_sum, digits_sum-digits, digits_sum-same, pow_pow}
use Rattle.cm_bits.specs.Fault.{bytes_number, field_cells, fields_fault}
use Rattle.cm_bits.specs.FieldsLaws.{field_cells-at, length-field_cells}
use Rattle.cm_bits.specs.declared.fault.ImageFault.{ImageFault}
use Rattle.cm_dump_items.specs.BackLaws.{Small, Stands, stands}
use Rattle.cm_dump_items.specs.ItemLaws.{ge_of}
use Rattle.cm_dump_items.specs.Reading.{item_at}
use Rattle.cm_dump_items.specs.StepLaws.{ok_err, ok_same, step}
use Rattle.cm_spec.specs.Dump.{fields_image}
use Rattle.cm_spec.specs.Image.{digits_sum, fields_byte, fields_len, fields_number, width_of}
use Rattle.cm_dump_images.specs.Images.{image_at, unless_bad}

none_or : (t u : Bool) (x y : ImageFault) → (if t then Some x else if u then Some y else None) ≡ None → (t ≡ false) × (u ≡ false)
none_or true u x y is = absurd (grind (arith, is))
none_or false true x y is = absurd (grind (arith, is))
none_or false false x y is = (refl, refl)

below_power : (x d : ℕ) → 0 < d → x / d ≡ 0 → x < d
below_power x d some none =
    let whole = lt-div-mul-add {a = x} {b = d} some in
    let least = rw none at whole in
    omega (arith, least)

power_some : (w n : ℕ) → 0 < (2 ^ w) ^ n
power_some w n =
    let e : (2 ^ w) ^ n ≡ 2 ^ (w * n) = sym (pow_pow 2 w n) in
    rw e (pow_pos (w * n))

digit_of_bytes : (bytes : List ℕ) (q : ℕ) → Small bytes → q < length bytes → bytes_number bytes / 256 ^ q % 256 ≡ slice_index bytes q
unfolding bytes_number
digit_of_bytes bytes q small l = digit-digits_sum 256 (slice_index bytes) (length bytes) q (lit< tt) (λ i m. small i) l

-- cells without a fault are below the bound, and the bytes are their image
pub record IsImage (m n : ℕ) (bytes cells : List ℕ) : Type 0 where
  pub long : length cells ≡ n
  pub below : AllBelow m cells
  pub image : fields_image m cells ≡ bytes

pub fields_read : (m n : ℕ) (bytes : List ℕ) → Small bytes → length bytes ≡ fields_len (width_of m) n → fields_fault (width_of m) n m bytes ≡ None → IsImage m n bytes (field_cells (width_of m) n (bytes_number bytes))
unfolding fields_fault fields_image fields_byte fields_number
fields_read m n bytes small whole none =
    let w : ℕ = width_of m in
    let number : ℕ = bytes_number bytes in
    let cells : List ℕ = field_cells w n number in
    let long : length cells ≡ n = length-field_cells w n number in
    let parts = none_or _ _ _ _ none in
    let first : n ≤ position_or_len (λ c. nat_le m c) cells = ge_of _ _ parts.0 in
    let clear : number < (2 ^ w) ^ n = below_power number ((2 ^ w) ^ n) (power_some w n) (omega (arith, ge_of _ _ parts.1)) in
    let same : fields_number w cells ≡ number =
    ap (digits_sum (2 ^ w) (slice_index cells)) long
    ∙ digits_sum-same (2 ^ w) _ (λ i. number / (2 ^ w) ^ i % 2 ^ w) n (λ i l. field_cells-at w n number i l)
    ∙ digits_sum-digits (2 ^ w) n number (pow_pos w) clear in
    let room : fields_len w (length cells) ≡ fields_len w n = ap (fields_len w) long in
    record {
      long = long;
      below = λ k l. leb-false m _ (fails_before_first (λ c. nat_le m c) cells k 0 (omega (arith, l, first, long)));
      image = ext_get_or 0 _ bytes (length-map-range_with_len _ 0 _ ∙ room ∙ sym whole) (λ q l.
          let here : q < fields_len w (length cells) = omega (arith, l, length-map-range_with_len (fields_byte w cells) 0 (fields_len w (length cells))) in
          get_or-map-range_with_len (fields_byte w cells) 0 (fields_len w (length cells)) q q 0 here (omega arith)
          ∙ ap (λ (x : ℕ). x / 256 ^ q % 256) same
          ∙ digit_of_bytes bytes q small (omega (arith, here, room, whole)));
    }

unless_ok : (at : ℕ) (place : ℕ → ℕ) (o : Option ImageFault) (xs ys : List ℕ) → unless_bad at place o xs ≡ Ok ys → (o ≡ None) × (xs ≡ ys)
unless_ok at place None xs ys is = (refl, ok_same is)
unless_ok at place (Some f) xs ys is = absurd (ok_err ys _ (sym is))

pub record ReadsImage (bytes : List ℕ) (at size : ℕ) (fault : List ℕ → Option ImageFault) (item : List ℕ) : Type 0 where
  pub there : Stands bytes at size item
  pub none : fault item ≡ None

pub image_back : (bytes : List ℕ) (at size : ℕ) (place : ℕ → ℕ) (fault : List ℕ → Option ImageFault) (item : List ℕ) → image_at bytes at size place fault ≡ Ok item → ReadsImage bytes at size fault item
unfolding image_at
image_back bytes at size place fault item is =
    let s = step (item_at bytes at size) _ item is in
    let parts = unless_ok at place (fault s.value) s.value item s.next in
    let made : ReadsImage bytes at size fault s.value = record { there = stands bytes at size s.value s.was; none = parts.0 } in
    subst (λ (xs : List ℕ). ReadsImage bytes at size fault xs) parts.1 made
