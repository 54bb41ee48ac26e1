-- Eight bytes of a list within the number of all.
use Rattle.std.specs.Prelude.{◌≡◌, ℕ, zero, suc, take, drop, ◌++◌, ◌+◌, ◌-◌, ◌*◌, ◌/◌, ◌%◌, ◌^◌, ◌<◌, ◌≤◌, List, length, slice_index, refl}
use Rattle.std.proofs.Math.Seq.{take-append_seam}
use Rattle.std.proofs.Common.{arith, ap, sym, subst, ◌∙◌, inl, inr, lit<}
use Rattle.std.proofs.Math.Nat.{one-le-pow, pow-zero, div-one}
use Rattle.std.proofs.lemmas.Nat.{mod_below}
use Rattle.std.proofs.lemmas.Bool.{cases_lt}
use Rattle.std.proofs.lemmas.List.{get_or_past, get_or-take, get_or-drop, get_or_append_left, get_or-append_right, length-append, length-take, length-drop}
use Rattle.std.specs.Int.{bytes_low_first, byte_at, to_le_bytes, w64}
use borrow.Rule.Slice.PartMut.{put_mid}
use Rattle.cm_spec.specs.Image.{digits_sum}
use Rattle.cm_bits.specs.Fault.{bytes_number}
use Rattle.cm_bits.specs.Held.{PutsWindow, window_at}
use Rattle.cm_bits.specs.DigitsLaws.{digits_sum-same, digits_sum-lt, digits_sum-digits, digits_above, digit_lowest, digits_sum-short, pow_add, digits_sum-append}

-- the digits below a place, the eight from there on, and those above
parts : (b : ℕ) (f : ℕ → ℕ) (n at : ℕ) → at + 8 ≤ n → digits_sum b f n ≡ digits_sum b f at + b ^ at * (digits_sum b (λ k. f (at + k)) 8 + b ^ 8 * digits_sum b (λ k. f (at + 8 + k)) (n - (at + 8)))
parts b f n at l =
    let split : n ≡ at + 8 + (n - (at + 8)) = omega arith in
    let high : digits_sum b f (at + 8 + (n - (at + 8))) ≡ digits_sum b f (at + 8) + digits_sum b (λ k. f (at + 8 + k)) (n - (at + 8)) * b ^ (at + 8) = digits_sum-append b f (at + 8) (n - (at + 8)) in
    let low : digits_sum b f (at + 8) ≡ digits_sum b f at + digits_sum b (λ k. f (at + k)) 8 * b ^ at = digits_sum-append b f at 8 in
    ap (digits_sum b f) split ∙ high ∙ rw (low, pow_add b at 8) (omega arith)

-- bytes past the end are 0, and add nothing
padded : (bytes : List ℕ) (n : ℕ) → length bytes ≤ n → digits_sum 256 (slice_index bytes) n ≡ bytes_number bytes
unfolding bytes_number
padded bytes n l = digits_sum-short 256 (slice_index bytes) n (length bytes) l (λ i m k. get_or_past bytes i 0 m)

-- a window is part of the number, with zeros past the end
pub window_is : (bytes : List ℕ) (at : ℕ) → ((k : ℕ) → slice_index bytes k < 256) → window_at bytes at ≡ bytes_number bytes / 256 ^ at % 2 ^ 64
unfolding window_at
window_is bytes at h =
    let n : ℕ = length bytes + (at + 8) in
    let low : digits_sum 256 (slice_index bytes) at < 256 ^ at = digits_sum-lt 256 (slice_index bytes) at (λ i m. h i) in
    let window : digits_sum 256 (λ k. slice_index bytes (at + k)) 8 < 256 ^ 8 = digits_sum-lt 256 (λ k. slice_index bytes (at + k)) 8 (λ i m. h (at + i)) in
    let high : ℕ = digits_sum 256 (λ k. slice_index bytes (at + 8 + k)) (n - (at + 8)) in
    sym (rw (← padded bytes n (omega arith), parts 256 (slice_index bytes) n at (omega arith), digits_above (256 ^ at) (digits_sum 256 (slice_index bytes) at) (digits_sum 256 (λ k. slice_index bytes (at + k)) 8 + 256 ^ 8 * high) (one-le-pow at 256 (lit< tt)) low)
    (digit_lowest (256 ^ 8) (digits_sum 256 (λ k. slice_index bytes (at + k)) 8) high window))

-- a window written trades its number in that of all
pub number_put : (at x : ℕ) (old new : List ℕ) → at + 8 ≤ length old → x < 2 ^ 64 → PutsWindow at x old new → bytes_number new + window_at old at * 256 ^ at ≡ bytes_number old + x * 256 ^ at
unfolding window_at bytes_number
number_put at x old new l m w =
    let low : digits_sum 256 (slice_index new) at ≡ digits_sum 256 (slice_index old) at = digits_sum-same 256 (slice_index new) (slice_index old) at (λ i k. w.before i k) in
    let window : digits_sum 256 (λ k. slice_index new (at + k)) 8 ≡ x =
    digits_sum-same 256 (λ k. slice_index new (at + k)) (λ k. x / 256 ^ k % 256) 8 (λ i k. w.put i k) ∙ digits_sum-digits 256 8 x (lit< tt) m in
    let high : digits_sum 256 (λ k. slice_index new (at + 8 + k)) (length old - (at + 8)) ≡ digits_sum 256 (λ k. slice_index old (at + 8 + k)) (length old - (at + 8)) =
    digits_sum-same 256 (λ k. slice_index new (at + 8 + k)) (λ k. slice_index old (at + 8 + k)) (length old - (at + 8)) (λ i k. w.after (at + 8 + i) (omega arith)) in
    rw (w.len, parts 256 (slice_index new) (length old) at l, parts 256 (slice_index old) (length old) at l, low, window, high) (omega arith)

-- bytes stay bytes
pub fit_put : (at x : ℕ) (old new : List ℕ) → PutsWindow at x old new → ((k : ℕ) → slice_index old k < 256) → (k : ℕ) → slice_index new k < 256
fit_put at x old new w h k = elim (cases_lt k at) [
  | inl l ↦ rw (w.before k l) (h k)
  | inr l ↦ elim (cases_lt k (at + 8)) [
    | inl m ↦
        let place : at + (k - at) ≡ k = omega arith in
        let put : slice_index new (at + (k - at)) ≡ x / 256 ^ (k - at) % 256 = w.put (k - at) (omega arith) in
        let here : slice_index new k ≡ x / 256 ^ (k - at) % 256 = rw place at put in
        rw here (mod_below (x / 256 ^ (k - at)) 256 (lit< tt))
    | inr m ↦ rw (w.after k m) (h k)
  ]
]

byte_is : (i n : ℕ) → byte_at i n ≡ n / 256 ^ i % 256
byte_is zero n = rw (pow-zero 256, div-one) refl
byte_is (suc i) n = refl

-- byte j of a number's lowest bytes
low_byte : (i m j n : ℕ) → j < m → slice_index (bytes_low_first i m n) j ≡ n / 256 ^ (i + j) % 256
low_byte i zero j n l = absurd (omega arith)
low_byte i (suc m) zero n l = let e : i + 0 ≡ i = omega arith in rw e (byte_is i n)
low_byte i (suc m) (suc j) n l = let e : i + suc j ≡ suc i + j = omega arith in rw e (low_byte (suc i) m j n (omega arith))

low_bytes_len : (i m n : ℕ) → length (bytes_low_first i m n) ≡ m
low_bytes_len i zero n = refl
low_bytes_len i (suc m) n = let e : length (bytes_low_first (suc i) m n) ≡ m = low_bytes_len (suc i) m n in omega arith

-- what is written over a part of a list
pub puts : (at x : ℕ) (old ys : List ℕ) → at + 8 ≤ length old → ys ≡ to_le_bytes w64 x → PutsWindow at x old (put_mid at (at + 8 - at) old ys)
puts at x old ys l e =
    let width : at + 8 - at ≡ 8 = omega arith in
    let eight : length ys ≡ 8 = ap length e ∙ low_bytes_len 0 8 x in
    let front : length (take at old) ≡ at = omega (arith, length-take {A = ℕ} at old) in
    let rest : List ℕ = drop 8 (drop at old) in
    let left : length rest ≡ length old - at - 8 = length-drop 8 (drop at old) ∙ omega (arith, length-drop {A = ℕ} at old) in
    rw width record {
      len = length-append (take at old) (ys ++ rest) ∙ omega (arith, length-append {A = ℕ} ys rest);
      put = λ k m.
          get_or-append_right (take at old) (ys ++ rest) at (at + k) 0 front (omega arith)
          ∙ (let same : at + k - at ≡ k = omega arith in rw same (get_or_append_left ys rest 0 k (omega arith) ∙ ap (λ bs. slice_index bs k) e ∙ low_byte 0 8 k x m ∙ (let none : 0 + k ≡ k = omega arith in rw none refl)));
      before = λ k m. get_or_append_left (take at old) (ys ++ rest) 0 k (omega arith) ∙ get_or-take at old k 0 m;
      after = λ k m.
          get_or-append_right (take at old) (ys ++ rest) at k 0 front (omega arith)
          ∙ get_or-append_right ys rest 8 (k - at) 0 eight (omega arith)
          ∙ get_or-drop 8 (drop at old) (k - at - 8) 0
          ∙ get_or-drop at old (8 + (k - at - 8)) 0
          ∙ (let same : at + (8 + (k - at - 8)) ≡ k = omega arith in ap (slice_index old) same);
    }

-- the same in a `Vec`, whose room past its elements is not read
pub puts_back : (at x len : ℕ) (old ys : List ℕ) → at + 8 ≤ length old → len ≡ length old → ys ≡ to_le_bytes w64 x → PutsWindow at x old (take len (put_mid at (at + 8 - at) old ys ++ drop (length (put_mid at (at + 8 - at) old ys)) old))
puts_back at x len old ys l n e =
    let put : PutsWindow at x old (put_mid at (at + 8 - at) old ys) = puts at x old ys l e in
    let whole : len ≡ length (put_mid at (at + 8 - at) old ys) = n ∙ sym put.len in
    let same : take len (put_mid at (at + 8 - at) old ys ++ drop (length (put_mid at (at + 8 - at) old ys)) old) ≡ put_mid at (at + 8 - at) old ys =
    ap (λ k. take k (put_mid at (at + 8 - at) old ys ++ drop (length (put_mid at (at + 8 - at) old ys)) old)) whole ∙ take-append_seam (put_mid at (at + 8 - at) old ys) (drop (length (put_mid at (at + 8 - at) old ys)) old) in
    let P : List ℕ → Type 0 = PutsWindow at x old in
    subst P (sym same) put
