-- The marks of the bytes that end a line.
use Rattle.std.proofs.Common.{◌≡◌, ◌↔◌, ◌∙◌, ◌⊎◌, inl, inr, ℕ, ◌+◌, ◌/◌, ◌%◌, ◌^◌, ◌<◌, ◌≤◌, Bool, true, false, cond, eqb, List, Some, length, drop, map, get_or, sym, ap, arith, length-drop, length-take, shr-shr, take}
use Rattle.std.specs.Int.{bit_at}
use Rattle.std.specs.Simd.Lanes.{mask_l}
use Rattle.std.proofs.lemmas.Bool.{cases_Bool, cases_lt, eq-eqb, eqb-true, eqb-false}
use Rattle.std.proofs.lemmas.List.{get_or-drop, get_or-map, get_or-take, get_or_past, length-map}
use Rattle.std.proofs.lemmas.Simd.{bit_mask_l}
use Rattle.memchr.specs.Find.{IsFirstByte, is_byte}
use Rattle.cm_keys.specs.Buffering.{MarksEnds}

-- which of the first 64 bytes end a line
abbrev pub ends_of : ℕ → List ℕ → List Bool
ends_of end bytes = map (λ (x : ℕ). eqb x end) (take 64 bytes)

bit_is : (x end bit : ℕ) → bit ≡ cond (eqb x end) 1 0 → (bit ≡ 1) ↔ (x ≡ end)
bit_is x end bit is = go (cases_Bool (eqb x end)) where
  go : (eqb x end ≡ true) ⊎ (eqb x end ≡ false) → (bit ≡ 1) ↔ (x ≡ end)
  go (inl t) = (λ set. eqb-true x end t, λ same. is ∙ ap (λ (b : Bool). cond {A = ℕ} b 1 0) t)
  go (inr f) = (λ set. absurd (omega (arith, set, is ∙ ap (λ (b : Bool). cond {A = ℕ} b 1 0) f)), λ same. absurd (eqb-false x end f same))

bit_near : (end : ℕ) (bytes : List ℕ) (marks i : ℕ) → 64 ≤ length bytes → marks ≡ mask_l (ends_of end bytes) → i < 64 → (bit_at marks i ≡ 1) ↔ (get_or bytes i 0 ≡ end)
bit_near end bytes marks i long is low =
    let p : ℕ → Bool = λ x. eqb x end in
    let inside : i < length (take 64 bytes) = omega (arith, low, long, length-take 64 bytes) in
    bit_is (get_or bytes i 0) end (bit_at marks i)
    (ap (λ (m : ℕ). bit_at m i) is ∙ bit_mask_l (ends_of end bytes) i
    ∙ ap (λ (b : Bool). cond {A = ℕ} b 1 0) (get_or-map p (take 64 bytes) i 0 false inside ∙ ap p (get_or-take 64 bytes i 0 low)))

bit_far : (end : ℕ) (bytes : List ℕ) (marks i : ℕ) → 64 ≤ length bytes → marks ≡ mask_l (ends_of end bytes) → 64 ≤ i → bit_at marks i ≡ 0
bit_far end bytes marks i long is high =
    let past : get_or (ends_of end bytes) i false ≡ false = get_or_past (ends_of end bytes) i false (omega (arith, high, length-map (take 64 bytes) (λ (x : ℕ). eqb x end), length-take 64 bytes, long)) in
    ap (λ (m : ℕ). bit_at m i) is ∙ bit_mask_l (ends_of end bytes) i ∙ ap (λ (b : Bool). cond {A = ℕ} b 1 0) past

pub marks_all : (end : ℕ) (bytes : List ℕ) (marks : ℕ) → 64 ≤ length bytes → marks ≡ mask_l (ends_of end bytes) → (i : ℕ) → i < 64 → get_or bytes i 0 ≡ end → bit_at marks i ≡ 1
marks_all end bytes marks long is i low same = (bit_near end bytes marks i long is low).1 same

pub marks_of_near : (end : ℕ) (bytes : List ℕ) (marks : ℕ) → 64 ≤ length bytes → marks ≡ mask_l (ends_of end bytes) → MarksEnds end bytes marks
marks_of_near end bytes marks long is =
    let low : (i : ℕ) → bit_at marks i ≡ 1 → i < 64 = λ i set. go i set (cases_lt i 64) in
    record {
      ends = λ i set. (omega (arith, long, low i set), (bit_near end bytes marks i long is (low i set)).0 set);
      all = λ i j less set same. marks_all end bytes marks long is i (omega (arith, less, low j set)) same;
    }
  where
    go : (i : ℕ) → bit_at marks i ≡ 1 → (i < 64) ⊎ (64 ≤ i) → i < 64
    go i set (inl low) = low
    go i set (inr high) = absurd (omega (arith, set, bit_far end bytes marks i long is high))

-- the lowest mark is that of the first byte that ends a line
pub first_marked : (end : ℕ) (bytes : List ℕ) (marks n : ℕ) → MarksEnds end bytes marks → bit_at marks n ≡ 1 → ((i : ℕ) → i < n → bit_at marks i ≡ 0) → IsFirstByte (is_byte end) bytes (Some n)
first_marked end bytes marks n h set none =
    let there = h.ends n set in (
      record {
        low = omega arith;
        high = there.0;
        before = λ k low less passes. absurd (omega (arith, none k less, h.all k n less set (eqb-true (get_or bytes k 0) end passes)));
      },
      eq-eqb (get_or bytes n 0) end there.1,
    )

-- past byte n the marks are those of the bytes that are left
pub marks_after : (end : ℕ) (bytes : List ℕ) (marks n : ℕ) → MarksEnds end bytes marks → MarksEnds end (drop (n + 1) bytes) (marks / 2 ^ n / 2 ^ 1)
marks_after end bytes marks n h =
    let bit : (i : ℕ) → bit_at (marks / 2 ^ n / 2 ^ 1) i ≡ bit_at marks (n + (1 + i)) = λ i. ap (λ (x : ℕ). x % 2) (shr-shr (marks / 2 ^ n) 1 i ∙ shr-shr marks n (1 + i)) in
    let at : (i : ℕ) → get_or (drop (n + 1) bytes) i 0 ≡ get_or bytes (n + (1 + i)) 0 = λ i. get_or-drop (n + 1) bytes i 0 ∙ ap (λ (k : ℕ). get_or bytes k 0) (omega arith) in
    record {
      ends = λ i set.
          let there = h.ends (n + (1 + i)) (sym (bit i) ∙ set) in
          (omega (arith, there.0, length-drop (n + 1) bytes), at i ∙ there.1);
      all = λ i j less set same. bit i ∙ h.all (n + (1 + i)) (n + (1 + j)) (omega (arith, less)) (sym (bit j) ∙ set) (sym (at i) ∙ same);
    }
