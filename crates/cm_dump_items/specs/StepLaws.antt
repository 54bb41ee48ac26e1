-- Lemmas about what is read after an item, which the proofs of readers cite. No contract needs them.
use Rattle.std.proofs.Common.{◌≡◌, sym, arith, refl, ℕ, Bool, true, false, Result, Ok, Err, if◌then◌else◌}
use Rattle.std.specs.Prelude.{IfOk, OnOk}
use Rattle.cm_dump_items.specs.declared.fault.LoadFault.{LoadFault}
use Rattle.cm_dump_items.specs.declared.fault.LoadFault.TheVariants as faults
use Rattle.cm_dump_items.specs.Reading.{◌>>=◌, Fails, HasLoadCause, IsByteFault}

pub ok_err : {A B : Type 0} (x : A) (e : B) → (let r : Result A B = Ok x in r) ≡ Err e → ⊥
ok_err x e is = grind (arith, is)

pub ok_same : {A B : Type 0} {x y : A} → (let r : Result A B = Ok x in r) ≡ Ok y → x ≡ y
ok_same is = grind (arith, is)

-- a step that found no fault
pub record Step {A B : Type 0} (r : Result A LoadFault) (f : A → Result B LoadFault) (y : B) : Type 0 where
  pub value : A
  pub was : r ≡ Ok value
  pub next : f value ≡ Ok y

pub step : {A B : Type 0} (r : Result A LoadFault) (f : A → Result B LoadFault) (y : B) → (r >>= f) ≡ Ok y → Step r f y
step (Ok x) f y is = record { value = x; was = refl; next = is }
step (Err e) f y is = absurd (ok_err y e (sym is))

pub if_next : {A : Type 0} (t : Bool) (e : LoadFault) (r : Result A LoadFault) (y : A) → (if t then r else Err e) ≡ Ok y → (t ≡ true) × (r ≡ Ok y)
if_next true e r y is = (refl, is)
if_next false e r y is = absurd (ok_err y e (sym is))

pub if_ok : {A : Type 0} (t : Bool) (e : LoadFault) (x y : A) → (if t then (let r : Result A LoadFault = Ok x in r) else Err e) ≡ Ok y → (t ≡ true) × (x ≡ y)
if_ok t e x y is = let parts = if_next t e (Ok x) y is in (parts.0, ok_same parts.1)

-- a fault of an item is one of all that is read with it
pub fails_then : {A B : Type 0} (f : LoadFault) (r : Result A LoadFault) (next : A → Result B LoadFault) → Fails f r → Fails f (r >>= next)
fails_then faults.Memory r next is = tt
fails_then faults.Read r next is = tt
fails_then (faults.Truncated a) r next is = rw is refl
fails_then faults.BadMagic r next is = rw is refl
fails_then faults.BadAlgorithm r next is = rw is refl
fails_then (faults.BadField a) r next is = rw is refl
fails_then (faults.BadPadding a) r next is = rw is refl
fails_then (faults.BadCell a) r next is = rw is refl
fails_then (faults.BadCount a) r next is = rw is refl
fails_then (faults.BadRank a) r next is = rw is refl
fails_then faults.Trailing r next is = rw is refl

-- a fault of bytes in memory is the one that they have
pub byte_fault : {A : Type 0} (f : LoadFault) (r : Result A LoadFault) → IsByteFault f → Fails f r → r ≡ Err f
byte_fault faults.Memory r never is = absurd never
byte_fault faults.Read r never is = absurd never
byte_fault (faults.Truncated a) r of is = is
byte_fault faults.BadMagic r of is = is
byte_fault faults.BadAlgorithm r of is = is
byte_fault (faults.BadField a) r of is = is
byte_fault (faults.BadPadding a) r of is = is
byte_fault (faults.BadCell a) r of is = is
byte_fault (faults.BadCount a) r of is = is
byte_fault (faults.BadRank a) r of is = is
byte_fault faults.Trailing r of is = is

-- what follows from a clause about what a call returned
pub on_ok : {A B : Type 0} {P Q : Type 0} (r : Result A B) → (P → Q) → OnOk r P → OnOk r Q
on_ok (Ok x) next is = next is
on_ok (Err e) next is = tt

pub for_ok : {A B : Type 0} (r : Result A B) (P Q : A → Type 0) → ((x : A) → P x → Q x) → IfOk r P → IfOk r Q
for_ok (Ok x) P Q next is = next x is
for_ok (Err e) P Q next is = tt

-- what a fault says of the count of faults is the same for any call
pub cause_then : (A B : Type 0) (before now : ℕ) (f : LoadFault) → HasLoadCause {T = A} before now (Err f) → HasLoadCause {T = B} before now (Err f)
cause_then A B before now faults.Memory is = is
cause_then A B before now faults.Read is = is
cause_then A B before now (faults.Truncated a) is = is
cause_then A B before now faults.BadMagic is = is
cause_then A B before now faults.BadAlgorithm is = is
cause_then A B before now (faults.BadField a) is = is
cause_then A B before now (faults.BadPadding a) is = is
cause_then A B before now (faults.BadCell a) is = is
cause_then A B before now (faults.BadCount a) is = is
cause_then A B before now (faults.BadRank a) is = is
cause_then A B before now faults.Trailing is = is
