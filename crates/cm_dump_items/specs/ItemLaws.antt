-- Lemmas about items at an offset, which the proofs of readers cite. No contract needs them.
use Rattle.std.proofs.Common.{◌≡◌, ◌∙◌, ℕ, ◌+◌, ◌<◌, ◌≤◌, List, ◌++◌, length, take, drop, ap, sym, arith, refl, length-append, Bool, true, false, nat_lt, Result, Ok, Err, if◌then◌else◌}
use Rattle.std.proofs.lemmas.List.{drop_at, take_at}
use Rattle.cm_dump_items.specs.declared.fault.LoadFault.{LoadFault}
use Rattle.cm_dump_items.specs.declared.fault.LoadFault.TheVariants as faults
use Rattle.cm_dump_items.specs.Reading.{item_at}
use Rattle.cm_dump_items.specs.StepLaws.{ok_err, ok_same}

pub ltb_no : (m n : ℕ) → n ≤ m → nat_lt m n ≡ false
ltb_no m n le = grind (arith, le)

pub ltb_yes : (m n : ℕ) → m < n → nat_lt m n ≡ true
ltb_yes m n lt = grind (arith, lt)

pub lt_of : (m n : ℕ) → nat_lt m n ≡ true → m < n
lt_of m n is = grind (arith, is)

pub ge_of : (m n : ℕ) → nat_lt m n ≡ false → n ≤ m
ge_of m n is = grind (arith, is)

-- an item that is read is whole
pub whole_or : (t : Bool) (f : LoadFault) (l m : List ℕ) → (if t then (let r : Result (List ℕ) LoadFault = Err f in r) else Ok l) ≡ Ok m → (t ≡ false) × (l ≡ m)
whole_or true f l m is = absurd (ok_err m f (sym is))
whole_or false f l m is = (refl, ok_same is)

-- the file is too short for an item of four bytes
pub item_short : (bytes : List ℕ) (at n : ℕ) → length bytes ≡ n → n < at + 4 → item_at bytes at 4 ≡ Err (faults.Truncated n)
unfolding item_at
item_short bytes at n end short = rw (ltb_yes (length bytes) (at + 4) (omega (arith, end, short))) (ap (λ (k : ℕ). let r : Result (List ℕ) LoadFault = Err (faults.Truncated k) in r) end)

-- bytes that hold the item
pub item_there : (bytes xs ys zs : List ℕ) (at n : ℕ) → bytes ≡ xs ++ (ys ++ zs) → length xs ≡ at → length ys ≡ n → item_at bytes at n ≡ Ok ys
unfolding item_at
item_there bytes xs ys zs at n is first long =
    let whole : at + n ≤ length bytes = omega (arith, ap length is, length-append xs (ys ++ zs), length-append ys zs, first, long) in
    let e : take n (drop at bytes) ≡ ys = ap (λ (l : List ℕ). take n (drop at l)) is ∙ ap (λ (l : List ℕ). take n l) (drop_at xs (ys ++ zs) at first) ∙ take_at ys zs n long in
    rw (ltb_no (length bytes) (at + n) whole) (ap (λ (l : List ℕ). let r : Result (List ℕ) LoadFault = Ok l in r) e)
