-- Lemmas about ranks as they are read, which the proofs of readers cite. No contract needs them.
use Rattle.std.proofs.Common.{◌≡◌, ◌≢◌, ◌∙◌, ℕ, zero, suc, ◌+◌, ◌*◌, ◌<◌, ◌≤◌, List, [], ◌∷◌, length, take, drop, ap, sym, arith, refl, length-drop, length-take, drop-cons, Bool, true, false, Result, Ok, Err, w32}
use Rattle.std.specs.Cmp.Lexicographic.{pointwise, bytes_decides}
use Rattle.std.specs.Int.{to_le_bytes}
use Rattle.std.specs.Prelude.{nat_eq, slice_index}
use Rattle.std.proofs.lemmas.List.{drop-drop, drop-take, take-append-drop, take-append-le}
use Rattle.cm_dump_items.specs.Reading.{Fills, item_at}
use Rattle.cm_dump_items.specs.declared.fault.LoadFault.{LoadFault}
use Rattle.cm_dump_items.specs.declared.fault.LoadFault.TheVariants as faults
use Rattle.cm_dump_items.specs.ItemLaws.{ltb_no}
use Rattle.cm_rank.specs.Ranks.{rank_bytes}
use Rattle.cm_dump.specs.Spelling.{ranks_at}

pub same_bytes : (xs ys : List ℕ) → xs ≡ ys → pointwise nat_eq xs ys ≡ true
same_bytes xs ys is = (bytes_decides xs ys).1 is

not_so : (t : Bool) → (t ≡ true → ⊥) → t ≡ false
not_so true never = absurd (never refl)
not_so false never = refl

other_bytes : (xs ys : List ℕ) → xs ≢ ys → pointwise nat_eq xs ys ≡ false
other_bytes xs ys other = not_so (pointwise nat_eq xs ys) (λ is. other ((bytes_decides xs ys).0 is))

-- the first k ranks are there
pub ranks_right : (bytes : List ℕ) (at : ℕ) (ranks : List ℕ) (k : ℕ) → k ≤ length ranks → ((i : ℕ) → i < k → item_at bytes (at + 4 * i) 4 ≡ Ok (to_le_bytes w32 (slice_index ranks i))) → ranks_at bytes at ranks ≡ ranks_at bytes (at + 4 * k) (drop k ranks)
unfolding ranks_at
ranks_right bytes at ranks zero few right = let z : at + 4 * 0 ≡ at = omega arith in rw z refl
ranks_right bytes at [] (suc k) few right = absurd (omega (arith, few))
ranks_right bytes at (r ∷ rs) (suc k) few right =
    let z : at + 4 * 0 ≡ at = omega arith in
    let first : item_at bytes at 4 ≡ Ok (to_le_bytes w32 r) = rw z at (right 0 (omega arith)) in
    let next : at + 4 + 4 * k ≡ at + 4 * suc k = omega arith in
    let rest = ranks_right bytes (at + 4) rs k (omega (arith, few)) (λ i l. let e : at + 4 * suc i ≡ at + 4 + 4 * i = omega arith in rw e at (right (suc i) (omega (arith, l)))) in
    rw (first, same_bytes (to_le_bytes w32 r) (to_le_bytes w32 r) refl) (rw next at rest)

-- and so are all of them
pub ranks_all : (bytes : List ℕ) (at : ℕ) (ranks : List ℕ) → ((i : ℕ) → i < length ranks → item_at bytes (at + 4 * i) 4 ≡ Ok (to_le_bytes w32 (slice_index ranks i))) → ranks_at bytes at ranks ≡ Ok tt
unfolding ranks_at
ranks_all bytes at [] right = refl
ranks_all bytes at (r ∷ rs) right =
    let z : at + 4 * 0 ≡ at = omega arith in
    let first : item_at bytes at 4 ≡ Ok (to_le_bytes w32 r) = rw z at (right 0 (omega arith)) in
    rw (first, same_bytes (to_le_bytes w32 r) (to_le_bytes w32 r) refl) (ranks_all bytes (at + 4) rs (λ i l. let e : at + 4 * suc i ≡ at + 4 + 4 * i = omega arith in rw e at (right (suc i) (omega (arith, l)))))

-- then there is another one
pub ranks_wrong : (bytes : List ℕ) (at : ℕ) (ranks : List ℕ) (k : ℕ) (item : List ℕ) → k < length ranks → ((i : ℕ) → i < k → item_at bytes (at + 4 * i) 4 ≡ Ok (to_le_bytes w32 (slice_index ranks i)))
    → item_at bytes (at + 4 * k) 4 ≡ Ok item → item ≢ to_le_bytes w32 (slice_index ranks k) → ranks_at bytes at ranks ≡ Err (faults.BadRank (at + 4 * k))
unfolding ranks_at
ranks_wrong bytes at ranks k item inside right there other =
    ranks_right bytes at ranks k (omega (arith, inside)) right
    ∙ rw (drop-cons ranks k 0 inside, there, other_bytes item (to_le_bytes w32 (slice_index ranks k)) other) refl

-- then the bytes end
pub ranks_cut : (bytes : List ℕ) (at : ℕ) (ranks : List ℕ) (k : ℕ) (fault : LoadFault) → k < length ranks → ((i : ℕ) → i < k → item_at bytes (at + 4 * i) 4 ≡ Ok (to_le_bytes w32 (slice_index ranks i)))
    → item_at bytes (at + 4 * k) 4 ≡ Err fault → ranks_at bytes at ranks ≡ Err fault
unfolding ranks_at
ranks_cut bytes at ranks k fault inside right cut =
    ranks_right bytes at ranks k (omega (arith, inside)) right ∙ rw (drop-cons ranks k 0 inside, cut) refl

front_same : (xs : List ℕ) (got k : ℕ) → k ≤ got → got ≤ length xs → take k xs ≡ take k (take got xs)
front_same xs got k inside whole =
    ap (λ (l : List ℕ). take k l) (sym (take-append-drop got xs)) ∙ take-append-le k (take got xs) (drop got xs) (omega (arith, length-take got xs, inside, whole))

part_same : (xs ys : List ℕ) (got a n : ℕ) → take got xs ≡ take got ys → a + n ≤ got → got ≤ length xs → got ≤ length ys → take n (drop a xs) ≡ take n (drop a ys)
part_same xs ys got a n same inside whole other =
    sym (drop-take a n xs)
    ∙ ap (λ (l : List ℕ). drop a l) (front_same xs got (a + n) inside whole ∙ ap (λ (l : List ℕ). take (a + n) l) same ∙ sym (front_same ys got (a + n) inside other))
    ∙ drop-take a n ys

-- a rank of a part that was filled is one of the bytes
pub rank_there : (bytes part : List ℕ) (at got i : ℕ) → Fills bytes at got part → got ≤ length part → at + got ≤ length bytes → 4 * i + 4 ≤ got → item_at bytes (at + 4 * i) 4 ≡ Ok (rank_bytes part i)
unfolding item_at
rank_there bytes part at got i fills long whole inside =
    let same : take 4 (drop (4 * i) part) ≡ take 4 (drop (4 * i) (drop at bytes)) = part_same part (drop at bytes) got (4 * i) 4 fills.given inside long (omega (arith, length-drop at bytes, whole)) in
    let there : take 4 (drop (at + 4 * i) bytes) ≡ take 4 (drop (4 * i) part) = ap (λ (l : List ℕ). take 4 l) (sym (drop-drop (4 * i) at bytes)) ∙ sym same in
    rw (ltb_no (length bytes) (at + 4 * i + 4) (omega (arith, whole, inside))) (ap (λ (l : List ℕ). let r : Result (List ℕ) LoadFault = Ok l in r) there)
