-- Truth values.
use Rattle.std.proofs.Common.{◌≡◌, Bool, true, false, ◌&&◌, sym, refl}

pub and_true : (b : Bool) → (b && true) ≡ b
and_true true = refl
and_true false = refl

pub same_from : {a b : Bool} → (a ≡ true → b ≡ true) → (b ≡ true → a ≡ true) → a ≡ b
same_from {a} {b} to from = go a b to from where
  go : (a b : Bool) → (a ≡ true → b ≡ true) → (b ≡ true → a ≡ true) → a ≡ b
  go true b t f = sym (t refl)
  go false true t f = f refl
  go false false t f = refl
