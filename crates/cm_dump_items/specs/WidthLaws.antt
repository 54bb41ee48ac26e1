-- Lemmas about numbers of a width as bytes, which the proofs of writers and readers cite. No contract needs them.
use Rattle.std.proofs.Common.{◌≡◌, ℕ, ◌%◌, ◌<◌, ◌^◌, List, [], ◌∷◌, length, get_or, ap, arith, refl, w32}
use Rattle.std.specs.Int.{Width, byte_len, from_le_bytes, to_le_bytes, w8, w16}
use Rattle.std.proofs.lemmas.Nat.{from_le_bytes-to_le_bytes_2, from_le_bytes-to_le_bytes_4, le_bytes_2, le_bytes_4}

-- numbers of a width are bytes, and come back from them
pub record IsWidth (w : Width) : Type 0 where
  pub long : (n : ℕ) → length (to_le_bytes w n) ≡ byte_len w
  pub back : (n : ℕ) → n < 256 ^ byte_len w → from_le_bytes w (to_le_bytes w n) ≡ n
  pub same : (bs : List ℕ) (n : ℕ) → length bs ≡ byte_len w → ((i : ℕ) → get_or bs i 0 < 256) → n ≡ from_le_bytes w bs → to_le_bytes w n ≡ bs

one_byte : (bs : List ℕ) (n : ℕ) → length bs ≡ 1 → ((i : ℕ) → get_or bs i 0 < 256) → n ≡ from_le_bytes w8 bs → to_le_bytes w8 n ≡ bs
one_byte [] n long small is = absurd (omega (arith, long))
one_byte (b ∷ []) n long small is = let same : n % 256 ≡ b = omega (arith, is, small 0) in ap (λ (x : ℕ). x ∷ []) same
one_byte (b ∷ c ∷ bs) n long small is = absurd (omega (arith, long))

pub of_one : IsWidth w8
of_one = record {
  long = λ n. refl;
  back = λ n fits. let few : n < 256 = fits in let same : n % 256 ≡ n = omega (arith, few) in same;
  same = one_byte;
}

pub of_two : IsWidth w16
of_two = record { long = λ n. refl; back = from_le_bytes-to_le_bytes_2; same = le_bytes_2 }

pub of_four : IsWidth w32
of_four = record { long = λ n. refl; back = from_le_bytes-to_le_bytes_4; same = le_bytes_4 }
