-- Words of bytes that are read together with bytes before them, and shifted.
use Rattle.std.proofs.Common.{◌≡◌, ◌∙◌, ℕ, zero, suc, ◌+◌, ◌-◌, ◌*◌, ◌/◌, ◌^◌, ◌<◌, ◌≤◌, ⊎_elim, min, List, length, ap, arith}
use Rattle.std.specs.Prelude.{slice_index}
use Rattle.std.proofs.lemmas.Bool.{cases_lt}
use Rattle.std.proofs.lemmas.List.{get_or_past}
use Rattle.cm_spec.specs.Lookup2.{word_at}

-- the numbers of a list of bytes
abbrev pub AreBytes : List ℕ → Type 0
AreBytes bytes = (i : ℕ) → slice_index bytes i < 256

past : (bytes : List ℕ) (i : ℕ) → length bytes ≤ i → slice_index bytes i ≡ 0
past bytes i le = get_or_past bytes i 0 le

-- the second word of a tail of 4 to 7 bytes
second_word : (bytes : List ℕ) (n : ℕ) → AreBytes bytes → length bytes ≡ n + 4 → n < 4 → word_at bytes n / 2 ^ (8 * (4 - n)) ≡ word_at bytes 4
second_word bytes zero small long few =
    omega (arith, small 0, small 1, small 2, small 3, past bytes 4 (omega (arith, long)), past bytes 5 (omega (arith, long)), past bytes 6 (omega (arith, long)), past bytes 7 (omega (arith, long)))
second_word bytes (suc zero) small long few =
    omega (arith, small 1, small 2, small 3, small 4, past bytes 5 (omega (arith, long)), past bytes 6 (omega (arith, long)), past bytes 7 (omega (arith, long)))
second_word bytes (suc (suc zero)) small long few =
    omega (arith, small 2, small 3, small 4, small 5, past bytes 6 (omega (arith, long)), past bytes 7 (omega (arith, long)))
second_word bytes (suc (suc (suc zero))) small long few =
    omega (arith, small 3, small 4, small 5, small 6, past bytes 7 (omega (arith, long)))
second_word bytes (suc (suc (suc (suc n)))) small long few = absurd (omega (arith, few))

-- the third word of a tail of 8 to 11 bytes
third_word : (bytes : List ℕ) (n : ℕ) → AreBytes bytes → length bytes ≡ n + 8 → n < 4
    → word_at bytes (n + 4) / 2 ^ (8 * (4 - n)) ≡ slice_index bytes 8 + 256 * slice_index bytes 9 + 65536 * slice_index bytes 10
third_word bytes zero small long few =
    omega (arith, small 4, small 5, small 6, small 7, past bytes 8 (omega (arith, long)), past bytes 9 (omega (arith, long)), past bytes 10 (omega (arith, long)))
third_word bytes (suc zero) small long few =
    omega (arith, small 5, small 6, small 7, small 8, past bytes 9 (omega (arith, long)), past bytes 10 (omega (arith, long)))
third_word bytes (suc (suc zero)) small long few =
    omega (arith, small 6, small 7, small 8, small 9, past bytes 10 (omega (arith, long)))
third_word bytes (suc (suc (suc zero))) small long few = omega (arith, small 7, small 8, small 9, small 10)
third_word bytes (suc (suc (suc (suc n)))) small long few = absurd (omega (arith, few))

-- no byte of four
no_byte : (bytes : List ℕ) (i : ℕ) → AreBytes bytes → word_at bytes i / 2 ^ (8 * (4 - 0)) ≡ 0
no_byte bytes i small = omega (arith, small i, small (i + 1), small (i + 2), small (i + 3))

-- the second word of a tail, from the four bytes that end with its last one or with byte 7
pub second_of : (bytes : List ℕ) (n : ℕ) → AreBytes bytes → 4 ≤ length bytes → n ≡ min (length bytes - 4) 4 → word_at bytes n / 2 ^ (8 * (4 - n)) ≡ word_at bytes 4
second_of bytes n small long is = ⊎_elim
    (λ few. second_word bytes n small (omega (arith, few, long, is)) few)
    (λ all. rw (let four : n ≡ 4 = omega (arith, is, all) in four) (omega arith))
    (cases_lt n 4)

-- the third word of a tail, from its last four bytes
pub third_of : (bytes : List ℕ) (n : ℕ) → AreBytes bytes → 4 ≤ length bytes → length bytes < 12 → n ≡ length bytes - 8
    → word_at bytes (length bytes - 4) / 2 ^ (8 * (4 - n)) ≡ slice_index bytes 8 + 256 * slice_index bytes 9 + 65536 * slice_index bytes 10
third_of bytes n small long short is = ⊎_elim
    (λ few. rw (let none : n ≡ 0 = omega (arith, is, few) in none)
    (no_byte bytes (length bytes - 4) small ∙ omega (arith, past bytes 8 (omega (arith, few)), past bytes 9 (omega (arith, few)), past bytes 10 (omega (arith, few)))))
    (λ more. let there : length bytes - 4 ≡ n + 4 = omega (arith, is, more) in
    ap (λ (i : ℕ). word_at bytes i / 2 ^ (8 * (4 - n))) there ∙ third_word bytes n small (omega (arith, is, more)) (omega (arith, is, short)))
    (cases_lt (length bytes) 8)
