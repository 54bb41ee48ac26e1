-- What a test and a step of reading say of the whole.
use Rattle.std.proofs.Common.{◌≡◌, ◌⊎◌, inl, inr, refl, arith, ℕ, Bool, true, false, Option, None, Some, Result, Ok, Err, if◌then◌else◌}
use Rattle.std.proofs.lemmas.Option.{none-some}
use Rattle.std.specs.Option.{ok_or, option_or}
use Rattle.cm_witness_report.specs.Fields as fields
use Rattle.cm_witness_report.specs.Reading as reading

pub ok_err : {A B : Type 0} (x : A) (e : B) → (let r : Result A B = Ok x in r) ≡ Err e → ⊥
ok_err x e is = grind (arith, is)

pub err_ok : {A B : Type 0} (x : A) (e : B) → (let r : Result A B = Err e in r) ≡ Ok x → ⊥
err_ok x e is = grind (arith, is)

pub ok_same : {A B : Type 0} {x y : A} → (let r : Result A B = Ok x in r) ≡ Ok y → x ≡ y
ok_same is = grind (arith, is)

pub err_same : {A B : Type 0} {x y : B} → (let r : Result A B = Err x in r) ≡ Err y → x ≡ y
err_same is = grind (arith, is)

pub guard_some : {A : Type 0} (b : Bool) (o : Option A) (y : A) → (if b then o else None) ≡ Some y → (b ≡ true) × (o ≡ Some y)
guard_some true o y is = (refl, is)
guard_some false o y is = absurd (none-some y is)

pub none_from : {A : Type 0} (o : Option A) → ((x : A) → o ≡ Some x → ⊥) → o ≡ None
none_from None never = refl
none_from (Some x) never = absurd (never x refl)

-- one of two
pub or_some : {A : Type 0} (o p : Option A) (x : A) → option_or o p ≡ Some x → (o ≡ Some x) ⊎ (p ≡ Some x)
or_some None p x is = inr is
or_some (Some y) p x is = inl is

pub or_first : {A : Type 0} (o p : Option A) (x : A) → o ≡ Some x → option_or o p ≡ Some x
or_first o p x is = rw is refl

-- a part that was there, and what was read after it
pub record Step {A B : Type 0} (o : Option A) (f : A → Option B) (y : B) : Type 0 where
  pub value : A
  pub was : o ≡ Some value
  pub next : f value ≡ Some y

pub step : {A B : Type 0} (o : Option A) (f : A → Option B) (y : B) → fields.◌>>=◌ o f ≡ Some y → Step o f y
step None f y is = absurd (none-some y is)
step (Some x) f y is = record { value = x; was = refl; next = is }

pub found_then : {A B : Type 0} (o : Option A) (f : A → Option B) (x : A) (y : Option B) → o ≡ Some x → f x ≡ y → fields.◌>>=◌ o f ≡ y
found_then o f x y is next = rw is next

-- the same of results
pub record OkStep {A B : Type 0} (r : Result A ℕ) (f : A → Result B ℕ) (y : Result B ℕ) : Type 0 where
  pub value : A
  pub was : r ≡ Ok value
  pub next : f value ≡ y

pub ok_step : {A B : Type 0} (r : Result A ℕ) (f : A → Result B ℕ) (y : B) → reading.◌>>=◌ r f ≡ Ok y → OkStep r f (Ok y)
ok_step (Err n) f y is = absurd (err_ok y n is)
ok_step (Ok x) f y is = record { value = x; was = refl; next = is }

pub err_step : {A B : Type 0} (r : Result A ℕ) (f : A → Result B ℕ) (n : ℕ) → reading.◌>>=◌ r f ≡ Err n → (r ≡ Err n) ⊎ OkStep r f (Err n)
err_step (Err m) f n is = inl (let e : m ≡ n = err_same is in rw e refl)
err_step (Ok x) f n is = inr (record { value = x; was = refl; next = is })

pub ok_then : {A B : Type 0} (r : Result A ℕ) (f : A → Result B ℕ) (x : A) (y : Result B ℕ) → r ≡ Ok x → f x ≡ y → reading.◌>>=◌ r f ≡ y
ok_then r f x y is next = rw is next

pub err_then : {A B : Type 0} (r : Result A ℕ) (f : A → Result B ℕ) (n : ℕ) → r ≡ Err n → reading.◌>>=◌ r f ≡ Err n
err_then r f n is = rw is refl

pub or_ok : {A : Type 0} (o : Option A) (n : ℕ) (x : A) → ok_or o n ≡ Ok x → o ≡ Some x
or_ok None n x is = absurd (err_ok x n is)
or_ok (Some y) n x is = let e : y ≡ x = ok_same is in rw e refl

pub or_err : {A : Type 0} (o : Option A) (n m : ℕ) → ok_or o n ≡ Err m → n ≡ m
or_err None n m is = err_same is
or_err (Some y) n m is = absurd (ok_err y m is)

pub ok_or_some : {A : Type 0} (o : Option A) (n : ℕ) (x : A) → o ≡ Some x → ok_or o n ≡ Ok x
ok_or_some o n x is = rw is refl
