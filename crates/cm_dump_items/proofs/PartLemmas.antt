-- The items of a part of a file that is in memory.
use Rattle.std.proofs.Common.{◌≡◌, ◌∙◌, ℕ, ◌+◌, ◌<◌, ◌≤◌, List, length, take, drop, ap, sym, arith, nat_lt, Result, Ok, Err}
use Rattle.std.proofs.lemmas.List.{take-take}
use Rattle.cm_dump_items.specs.declared.fault.LoadFault.{LoadFault}
use Rattle.cm_dump_items.specs.declared.fault.LoadFault.TheVariants as faults
use Rattle.cm_dump_items.specs.ItemLaws.{ge_of, ltb_no, ltb_yes, whole_or}
use Rattle.cm_dump_items.specs.Reading.{IsPart, item_at}

-- the first bytes of a part are an item
pub part_item : (bytes part : List ℕ) (at room n : ℕ) → IsPart bytes at room part → n ≤ length part → item_at bytes at n ≡ Ok (take n part)
unfolding item_at
part_item bytes part at room n is inside =
    let whole : at + n ≤ length bytes = omega (arith, is.inside, inside) in
    let e : take n (drop at bytes) ≡ take n part = sym (ap (λ (l : List ℕ). take n l) is.given ∙ take-take n (length part) (drop at bytes) inside) in
    rw (ltb_no (length bytes) (at + n) whole) (ap (λ (l : List ℕ). let r : Result (List ℕ) LoadFault = Ok l in r) e)

-- a part that is too short for an item ends with the file
pub part_cut : (bytes part : List ℕ) (at room n : ℕ) → IsPart bytes at room part → n ≤ room → length part < n → item_at bytes at n ≡ Err (faults.Truncated (at + length part))
unfolding item_at
part_cut bytes part at room n is few short =
    let end : length bytes ≡ at + length part = is.end (omega (arith, few, short)) in
    rw (ltb_yes (length bytes) (at + n) (omega (arith, end, short))) (ap (λ (k : ℕ). let r : Result (List ℕ) LoadFault = Err (faults.Truncated k) in r) end)

-- an item is a part of its own
pub item_part : (bytes item : List ℕ) (at n : ℕ) → item_at bytes at n ≡ Ok item → length item ≡ n → IsPart bytes at n item
unfolding item_at
item_part bytes item at n is long =
    let parts = whole_or (nat_lt (length bytes) (at + n)) (faults.Truncated (length bytes)) (take n (drop at bytes)) item is in
    let whole : at + n ≤ length bytes = ge_of (length bytes) (at + n) parts.0 in
    record {
      given = sym parts.1 ∙ ap (λ (k : ℕ). take k (drop at bytes)) (sym long);
      inside = omega (arith, whole, long);
      end = λ short. absurd (omega (arith, short, long));
    }
