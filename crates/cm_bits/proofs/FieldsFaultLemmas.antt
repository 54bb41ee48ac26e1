-- When bytes are an image of cells of w bits.
use Rattle.std.specs.Prelude.{◌≡◌, ◌≢◌, ℕ, suc, ◌+◌, ◌-◌, ◌*◌, ◌/◌, ◌%◌, ◌^◌, ◌<◌, ◌≤◌, List, ◌++◌, length, slice_index, replicate, take, refl, nat_le, Option, Some, None}
use Rattle.std.specs.List.{position, position_or_len}
use Rattle.std.proofs.Common.{arith, ap, sym, ◌∙◌, inl, inr, lit<}
use Rattle.std.proofs.Math.Nat.{pow-suc, zero-div, div-div-eq-div-mul, mod-eq_of_lt, div-eq_of_lt, one-le-pow, div-add-mod}
use Rattle.std.proofs.lemmas.Nat.{mod_below, div_below, pow_pos}
use Rattle.std.proofs.lemmas.Bool.{cases_lt, leb-false, lt-leb, le-leb, le-ltb}
use Rattle.std.proofs.lemmas.List.{get_or_past, get_or_append_left, get_or-append_right, length-append, take_at}
use Rattle.std.proofs.lemmas.List.FromFn.{fill_by_all}
use Rattle.std.proofs.lemmas.List.Sums.{fails_before_first}
use Rattle.cm_spec.specs.Image.{digits_sum, fields_len, fields_byte}
use Rattle.cm_spec.specs.Lists.{list_of}
use Rattle.cm_bits.specs.Bound.{AllBelow}
use Rattle.cm_bits.specs.declared.fault.ImageFault.TheVariants.{BadCell}
use Rattle.cm_bits.specs.Fault.{bytes_number, fault_of, field_cells, fields_fault}
use Rattle.cm_bits.specs.Held.{IsFields}
use Rattle.cm_bits.specs.DigitsLaws.{digits_sum-same, digits_sum-lt, digit-digits_sum, digits_sum-short, pow_add, pow_pow}
use Rattle.cm_bits.specs.FieldsLaws.{length-field_cells, field_cells-at}
use Rattle.cm_bits.specs.FaultLaws.{cell_fault, sound_fault}
use Rattle.cm_bits.proofs.FaultLemmas.{found, not_found, finds, finds_none}
use Rattle.cm_bits.proofs.FieldsLemmas.{fields_number-field_cells}
use Rattle.cm_bits.specs.AppendLaws.{cell_of_zeros}

-- what is past the cells stands in one byte
pub padding_is : (w n : ℕ) (bytes : List ℕ) → length bytes ≡ fields_len w n → ((k : ℕ) → slice_index bytes k < 256) → bytes_number bytes / (2 ^ w) ^ n ≡ slice_index bytes (n * w / 8) / 2 ^ (n * w % 8)
unfolding bytes_number
padding_is w n bytes len h =
    let a : ℕ = n * w / 8 in
    let r : ℕ = n * w % 8 in
    let number : ℕ = digits_sum 256 (slice_index bytes) (length bytes) in
    let place : (2 ^ w) ^ n ≡ 256 ^ a * 2 ^ r = sym (pow_pow 2 w n) ∙ ap (λ k. 2 ^ k) (let t : w * n ≡ 8 * a + r = omega arith in t) ∙ pow_add 2 (8 * a) r ∙ ap (λ k. k * 2 ^ r) (pow_pow 2 8 a) in
    let top : digits_sum 256 (slice_index bytes) (length bytes) < 256 ^ length bytes = digits_sum-lt 256 (slice_index bytes) (length bytes) (λ i l. h i) in
    rw (place, ← div-div-eq-div-mul (digits_sum 256 (slice_index bytes) (length bytes)) (256 ^ a) (2 ^ r))
    (ap (λ x. x / 2 ^ r) (elim (cases_lt a (length bytes)) [
      | inl l ↦
          let one : length bytes ≡ suc a = omega arith in
          let small : digits_sum 256 (slice_index bytes) (length bytes) / 256 ^ a < 256 =
          div_below _ (256 ^ a) 256 (one-le-pow a 256 (lit< tt)) (let p : 256 ^ length bytes ≡ 256 ^ a * 256 = rw one (pow-suc 256 a) in omega arith) in
          sym (mod-eq_of_lt small) ∙ digit-digits_sum 256 (slice_index bytes) (length bytes) a (lit< tt) (λ i m. h i) l
      | inr l ↦
          let same : length bytes ≡ a = omega arith in
          div-eq_of_lt (let p : 256 ^ length bytes ≡ 256 ^ a = ap (λ k. 256 ^ k) same in omega arith) ∙ sym (get_or_past bytes a 0 l)
    ]))

-- the lowest cell that is not below the bound
pub bad_at : (w n bound i number : ℕ) → i < n → ((k : ℕ) → k < i → number / (2 ^ w) ^ k % 2 ^ w < bound) → bound ≤ number / (2 ^ w) ^ i % 2 ^ w → position (λ c. nat_le bound c) (field_cells w n number) ≡ Some i
bad_at w n bound i number l h b =
    let len : length (field_cells w n number) ≡ n = length-field_cells w n number in
    finds (λ c. nat_le bound c) (field_cells w n number) i (omega arith)
    (λ k m. rw (field_cells-at w n number k (omega arith)) (lt-leb bound _ (h k m)))
    (rw (field_cells-at w n number i l) (le-leb bound _ b))

pub bad_none : (w n bound number : ℕ) → ((k : ℕ) → k < n → number / (2 ^ w) ^ k % 2 ^ w < bound) → position (λ c. nat_le bound c) (field_cells w n number) ≡ None
bad_none w n bound number h =
    let len : length (field_cells w n number) ≡ n = length-field_cells w n number in
    finds_none (λ c. nat_le bound c) (field_cells w n number) (λ k m. rw (field_cells-at w n number k (omega arith)) (lt-leb bound _ (h k (omega arith))))

pub fields_fault-at : (w n bound i : ℕ) (bytes : List ℕ) → position (λ c. nat_le bound c) (field_cells w n (bytes_number bytes)) ≡ Some i → fields_fault w n bound bytes ≡ Some (BadCell i)
unfolding fields_fault
fields_fault-at w n bound i bytes e =
    let both = found (λ c. nat_le bound c) (field_cells w n (bytes_number bytes)) i e in
    rw both.0 (cell_fault n i _ _ (omega (arith, both.1, length-field_cells w n (bytes_number bytes))))

-- a search that finds none passes all cells
pub all_sound : (w n bound number : ℕ) → position (λ c. nat_le bound c) (field_cells w n number) ≡ None → n ≤ position_or_len (λ c. nat_le bound c) (field_cells w n number)
all_sound w n bound number e = omega (arith, not_found (λ c. nat_le bound c) (field_cells w n number) e, length-field_cells w n number)

-- with no cell at fault, the padding decides
pub fields_fault-past : (w n bound : ℕ) (bytes : List ℕ) → position (λ c. nat_le bound c) (field_cells w n (bytes_number bytes)) ≡ None → fields_fault w n bound bytes ≡ fault_of n n (bytes_number bytes / (2 ^ w) ^ n) (length bytes - 1)
unfolding fields_fault
fields_fault-past w n bound bytes e = rw (le-ltb _ n (all_sound w n bound (bytes_number bytes) e), le-ltb n n (omega arith)) refl

-- bytes are the image of the cells of their number
pub image-fields : (w n : ℕ) (bytes : List ℕ) → length bytes ≡ fields_len w n → ((k : ℕ) → slice_index bytes k < 256) → bytes_number bytes < (2 ^ w) ^ n → bytes ≡ list_of (fields_byte w (field_cells w n (bytes_number bytes))) (fields_len w n)
unfolding fields_byte bytes_number
image-fields w n bytes len h clear =
    fill_by_all _ bytes (fields_len w n) 0 len (λ q l.
    sym (ap (λ x. x / 256 ^ q % 256) (fields_number-field_cells w n (bytes_number bytes) clear)
    ∙ digit-digits_sum 256 (slice_index bytes) (length bytes) q (lit< tt) (λ i m. h i) (omega arith)))

pub sound_cells : (w n bound number : ℕ) → n ≤ position_or_len (λ c. nat_le bound c) (field_cells w n number) → AllBelow bound (field_cells w n number)
sound_cells w n bound number h k l =
    leb-false bound _ (fails_before_first (λ c. nat_le bound c) (field_cells w n number) k 0 (omega (arith, length-field_cells w n number)))

-- the last byte if the cells do not end with a byte
pub padding_last : (w n : ℕ) (bytes : List ℕ) → length bytes ≡ fields_len w n → ((k : ℕ) → slice_index bytes k < 256) → n * w % 8 ≢ 0 → bytes_number bytes / (2 ^ w) ^ n ≡ slice_index bytes (length bytes - 1) / 2 ^ (n * w % 8)
padding_last w n bytes len h ne =
    let last : length bytes - 1 ≡ n * w / 8 = omega arith in
    padding_is w n bytes len h ∙ rw last refl

pub padding_none : (w n : ℕ) (bytes : List ℕ) → length bytes ≡ fields_len w n → ((k : ℕ) → slice_index bytes k < 256) → n * w % 8 ≡ 0 → bytes_number bytes / (2 ^ w) ^ n ≡ 0
padding_none w n bytes len h e =
    padding_is w n bytes len h ∙ rw (get_or_past bytes (n * w / 8) 0 (omega arith)) (zero-div _)

pub image_at : (w v n : ℕ) (bytes xs : List ℕ) → w ≡ v → bytes ≡ list_of (fields_byte w xs) (fields_len w n) → bytes ≡ list_of (fields_byte v xs) (fields_len v n)
image_at w v n bytes xs e h = rw e at h

-- bytes with eight zeros after them
pub spare_len : (bytes : List ℕ) → length (bytes ++ replicate 8 0) ≡ length bytes + 8
spare_len bytes = length-append bytes (replicate 8 0)

spare_past : (bytes : List ℕ) (k : ℕ) → length bytes ≤ k → slice_index (bytes ++ replicate 8 0) k ≡ 0
spare_past bytes k l = get_or-append_right bytes (replicate 8 0) (length bytes) k 0 refl l ∙ cell_of_zeros 8 (k - length bytes)

pub spare_fit : (bytes : List ℕ) → ((k : ℕ) → slice_index bytes k < 256) → (k : ℕ) → slice_index (bytes ++ replicate 8 0) k < 256
spare_fit bytes h k = elim (cases_lt k (length bytes)) [
  | inl l ↦ rw (get_or_append_left bytes (replicate 8 0) 0 k l) (h k)
  | inr l ↦ rw (spare_past bytes k l) (lit< tt)
]

pub spare_number : (bytes : List ℕ) → bytes_number (bytes ++ replicate 8 0) ≡ bytes_number bytes
unfolding bytes_number
spare_number bytes =
    rw (spare_len bytes)
    (digits_sum-short 256 (slice_index (bytes ++ replicate 8 0)) (length bytes + 8) (length bytes) (omega arith) (λ i l m. spare_past bytes i l)
    ∙ digits_sum-same 256 (slice_index (bytes ++ replicate 8 0)) (slice_index bytes) (length bytes) (λ i l. get_or_append_left bytes (replicate 8 0) 0 i l))

-- what checked bytes owe a table
pub record FieldsRead (w n bound : ℕ) (bytes held : List ℕ) : Type 0 where
  pub fields : IsFields w n held
  pub in_bound : AllBelow bound (field_cells w n (bytes_number held))
  pub image : bytes ≡ list_of (fields_byte w (field_cells w n (bytes_number held))) (fields_len w n)

-- bytes without a fault have nothing past the cells, which are below the bound
pub sound_fields : (w n bound : ℕ) (bytes : List ℕ) → fields_fault w n bound bytes ≡ None → (bytes_number bytes < (2 ^ w) ^ n) × AllBelow bound (field_cells w n (bytes_number bytes))
unfolding fields_fault
sound_fields w n bound bytes e =
    let both = sound_fault n (position_or_len (λ c. nat_le bound c) (field_cells w n (bytes_number bytes))) (bytes_number bytes / (2 ^ w) ^ n) (length bytes - 1) e in
    let power : 0 < (2 ^ w) ^ n = one-le-pow n (2 ^ w) (pow_pos w) in
    let clear : bytes_number bytes < (2 ^ w) ^ n =
    let whole = div-add-mod (bytes_number bytes) ((2 ^ w) ^ n) in
    let below = mod_below (bytes_number bytes) ((2 ^ w) ^ n) power in
    let none : (2 ^ w) ^ n * (bytes_number bytes / (2 ^ w) ^ n) ≡ 0 = rw both.1 (omega arith) in
    omega arith in
    (clear, sound_cells w n bound (bytes_number bytes) both.0)

pub fields_read : (w n bound : ℕ) (bytes held : List ℕ) → length bytes ≡ fields_len w n → ((k : ℕ) → slice_index bytes k < 256) → held ≡ bytes ++ replicate 8 0 → fields_fault w n bound bytes ≡ None → FieldsRead w n bound bytes held
fields_read w n bound bytes held len h is e =
    let both = sound_fields w n bound bytes e in
    let number : bytes_number held ≡ bytes_number bytes = ap bytes_number is ∙ spare_number bytes in
    record {
      fields = record {
        len = ap length is ∙ spare_len bytes ∙ ap (λ l. l + 8) len;
        fit = λ k. rw is (spare_fit bytes h k);
        clear = rw number both.0;
      };
      in_bound = rw number both.1;
      image = rw number (image-fields w n bytes len h both.0);
    }

-- the same of bytes that are given with zeros after them
pub fields_given : (w n bound len : ℕ) (bytes held given : List ℕ) → length bytes ≡ fields_len w n → len ≡ length bytes → held ≡ bytes ++ replicate 8 0 → given ≡ held → ((k : ℕ) → slice_index given k < 256) → fields_fault w n bound (take len given) ≡ None → FieldsRead w n bound bytes held
fields_given w n bound len bytes held given size is zeros same fit e =
    let whole : given ≡ bytes ++ replicate 8 0 = same ∙ zeros in
    let first : take len given ≡ bytes = ap (take len) whole ∙ take_at bytes (replicate 8 0) len (sym is) in
    let small : (k : ℕ) → slice_index bytes k < 256 = λ k. elim (cases_lt k (length bytes)) [
      | inl l ↦ let here : slice_index given k ≡ slice_index bytes k = ap (λ bs. slice_index bs k) whole ∙ get_or_append_left bytes (replicate 8 0) 0 k l in omega (arith, fit k, here)
      | inr l ↦ rw (get_or_past bytes k 0 l) (lit< tt)
    ] in
    fields_read w n bound bytes held size small zeros (rw first at e)

-- bytes with zeros after them have the same cells
pub spare_search : (w n bound : ℕ) (r : Option ℕ) (bytes held : List ℕ) → held ≡ bytes ++ replicate 8 0 → r ≡ position (λ c. nat_le bound c) (field_cells w n (bytes_number held)) → position (λ c. nat_le bound c) (field_cells w n (bytes_number bytes)) ≡ r
spare_search w n bound r bytes held is e = sym (e ∙ ap (λ x. position (λ c. nat_le bound c) (field_cells w n x)) (ap bytes_number is ∙ spare_number bytes))
