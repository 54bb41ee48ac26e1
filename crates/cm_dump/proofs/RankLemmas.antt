-- Ranks as bytes, and as they are read.
use Rattle.std.proofs.Common.{◌≡◌, ◌≢◌, ◌∙◌, ℕ, suc, ◌+◌, ◌-◌, ◌*◌, ◌/◌, ◌<◌, ◌≤◌, List, [], ◌∷◌, ◌++◌, length, take, drop, ap, sym, arith, refl, length-append, length-take, append_assoc, Bool, true, false, if◌then◌else◌, Result, Ok, Err, w32, inl, inr}
use Rattle.std.specs.Cmp.Lexicographic.{pointwise, bytes_decides}
use Rattle.std.specs.Int.{to_le_bytes}
use Rattle.std.specs.List.{flat_map}
use Rattle.std.specs.Prelude.{nat_eq, not, slice_index, slice_range}
use Rattle.std.proofs.Math.Seq.{take-add}
use Rattle.std.proofs.lemmas.Bool.{cases_eq}
use Rattle.std.proofs.lemmas.Grind.{flat_map-append}
use Rattle.std.proofs.lemmas.List.{get_or-drop, get_or-take, take-append-drop, take_more}
use Rattle.cm_dump_items.specs.Reading.{◌>>=◌, Fails, Fills, item_at}
use Rattle.cm_dump_items.specs.declared.fault.LoadFault.{LoadFault}
use Rattle.cm_dump_items.specs.declared.fault.LoadFault.TheVariants as faults
use Rattle.cm_dump_items.specs.StepLaws.{if_next, ok_err, step}
use Rattle.cm_dump_items.specs.ItemLaws.{item_short, item_there}
use Rattle.cm_dump.specs.Dumps.{ranks_image}
use Rattle.cm_dump.specs.Parts.{AreRanks}
use Rattle.cm_dump.specs.RankLaws.{rank_there, ranks_all, ranks_cut, ranks_wrong, same_bytes}
use Rattle.cm_dump.specs.Spelling.{ranks_at}
use Rattle.cm_rank.specs.Ranks.{rank_bytes}

-- ---- bytes

pub length-ranks_image : (ranks : List ℕ) → length (ranks_image ranks) ≡ 4 * length ranks
unfolding ranks_image
length-ranks_image [] = refl
length-ranks_image (r ∷ rs) = length-append (to_le_bytes w32 r) (flat_map (to_le_bytes w32) rs) ∙ omega (arith, length-ranks_image rs)

-- some ranks and the next ones
pub image_more : (ranks : List ℕ) (at k : ℕ) → ranks_image (take at ranks) ++ ranks_image (take k (drop at ranks)) ≡ ranks_image (take (at + k) ranks)
unfolding ranks_image
image_more ranks at k = sym (flat_map-append (to_le_bytes w32) (take at ranks) (take k (drop at ranks))) ∙ ap (flat_map (to_le_bytes w32)) (sym (take-add at k ranks))

-- some ranks, the next ones and the rest
pub image_whole : (ranks : List ℕ) (at k : ℕ) → ranks_image (take at ranks) ++ (ranks_image (take k (drop at ranks)) ++ ranks_image (drop (at + k) ranks)) ≡ ranks_image ranks
unfolding ranks_image
image_whole ranks at k =
    let f : List ℕ → List ℕ = flat_map (to_le_bytes w32) in
    sym (append_assoc (f (take at ranks)) (f (take k (drop at ranks))) (f (drop (at + k) ranks)))
    ∙ ap (λ (l : List ℕ). l ++ f (drop (at + k) ranks)) (image_more ranks at k)
    ∙ sym (flat_map-append (to_le_bytes w32) (take (at + k) ranks) (drop (at + k) ranks))
    ∙ ap f (take-append-drop (at + k) ranks)

-- some ranks and one more
pub image_next : (ranks : List ℕ) (k : ℕ) → k < length ranks → ranks_image (take k ranks) ++ to_le_bytes w32 (slice_index ranks k) ≡ ranks_image (take (k + 1) ranks)
unfolding ranks_image
image_next ranks k inside =
    sym (flat_map-append (to_le_bytes w32) (take k ranks) (slice_index ranks k ∷ [])) ∙ ap (flat_map (to_le_bytes w32)) (sym (take_more ranks k 0 inside))

-- ---- a piece of them

so_not : (t : Bool) → not t ≡ false → t ≡ true
so_not true is = refl
so_not false is = sym is

-- one rank more of a part is the one that it is to be
pub same_rank : (part ranks bytes : List ℕ) (from i rank : ℕ) (differs : Bool) → AreRanks part (drop from ranks) i → rank ≡ slice_index ranks (from + i) → bytes ≡ to_le_bytes w32 rank
    → differs ≡ not (pointwise nat_eq (slice_range part (4 * i) (4 * i + 4)) bytes) → differs ≡ false → AreRanks part (drop from ranks) (i + 1)
same_rank part ranks bytes from i rank differs before is spelled test no_other k l = elim (cases_eq k i) [
  | inr other ↦ before k (omega (arith, l, other))
  | inl same ↦
      let four : 4 * i + 4 - 4 * i ≡ 4 = omega arith in
      let equal : pointwise nat_eq (slice_range part (4 * i) (4 * i + 4)) bytes ≡ true = so_not _ (sym test ∙ no_other) in
      let there : take 4 (drop (4 * i) part) ≡ bytes = rw four at ((bytes_decides (slice_range part (4 * i) (4 * i + 4)) bytes).0 equal) in
      rw same (there ∙ spelled ∙ ap (to_le_bytes w32) (is ∙ sym (get_or-drop from ranks i 0)))
]

-- the ranks of a part that was filled are the first of some
piece_right : (bytes part ranks : List ℕ) (at got count i : ℕ) → Fills bytes at got part → got ≤ length part → at + got ≤ length bytes → 4 * i ≤ got → i ≤ count → AreRanks part ranks i
    → (k : ℕ) → k < i → item_at bytes (at + 4 * k) 4 ≡ Ok (to_le_bytes w32 (slice_index (take count ranks) k))
piece_right bytes part ranks at got count i fills long whole inside few are k l =
    rank_there bytes part at got k fills long whole (omega (arith, inside, l)) ∙ ap (λ (r : List ℕ). let o : Result (List ℕ) LoadFault = Ok r in o) (are k l ∙ ap (to_le_bytes w32) (sym (get_or-take count ranks k 0 (omega (arith, l, few)))))

pub piece_wrong : (bytes part ranks : List ℕ) (at got count i : ℕ) → Fills bytes at got part → got ≤ length part → at + got ≤ length bytes → 4 * i + 4 ≤ got → i < count → count ≤ length ranks → AreRanks part ranks i
    → rank_bytes part i ≢ to_le_bytes w32 (slice_index ranks i) → ranks_at bytes at (take count ranks) ≡ Err (faults.BadRank (at + 4 * i))
piece_wrong bytes part ranks at got count i fills long whole inside few all are other =
    ranks_wrong bytes at (take count ranks) i (rank_bytes part i) (omega (arith, length-take count ranks, few, all))
    (piece_right bytes part ranks at got count i fills long whole (omega (arith, inside)) (omega (arith, few)) are)
    (rank_there bytes part at got i fills long whole inside)
    (λ is. other (is ∙ ap (to_le_bytes w32) (get_or-take count ranks i 0 few)))

pub piece_cut : (bytes part ranks : List ℕ) (at got count : ℕ) → Fills bytes at got part → got < length part → length part ≡ 4 * count → at + got ≤ length bytes → count ≤ length ranks → AreRanks part ranks (got / 4)
    → ranks_at bytes at (take count ranks) ≡ Err (faults.Truncated (at + got))
piece_cut bytes part ranks at got count fills short long whole all are =
    let end : length bytes ≡ at + got = fills.end short in
    ranks_cut bytes at (take count ranks) (got / 4) (faults.Truncated (at + got)) (omega (arith, length-take count ranks, short, long, all))
    (piece_right bytes part ranks at got count (got / 4) fills (omega (arith, short)) whole (omega arith) (omega (arith, short, long)) are)
    (item_short bytes (at + 4 * (got / 4)) (at + got) end (omega arith))

pub piece_all : (bytes part ranks : List ℕ) (at got count : ℕ) → Fills bytes at got part → got ≡ length part → length part ≡ 4 * count → at + got ≤ length bytes → count ≤ length ranks → AreRanks part ranks (got / 4) → ranks_at bytes at (take count ranks) ≡ Ok tt
piece_all bytes part ranks at got count fills full long whole all are =
    let size : length (take count ranks) ≡ got / 4 = omega (arith, length-take count ranks, all, full, long) in
    ranks_all bytes at (take count ranks) (λ k l. piece_right bytes part ranks at got count (got / 4) fills (omega (arith, full)) whole (omega arith) (omega (arith, full, long)) are k (omega (arith, l, size)))

-- ---- pieces in a row

pub ranks_after : (bytes : List ℕ) (at : ℕ) (xs ys : List ℕ) → ranks_at bytes at xs ≡ Ok tt → ranks_at bytes at (xs ++ ys) ≡ ranks_at bytes (at + 4 * length xs) ys
unfolding ranks_at
ranks_after bytes at [] ys is = let z : at + 4 * 0 ≡ at = omega arith in rw z refl
ranks_after bytes at (x ∷ xs) ys is =
    let s = step (item_at bytes at 4) _ tt is in
    let test = if_next (pointwise nat_eq s.value (to_le_bytes w32 x)) _ _ tt s.next in
    let next : at + 4 + 4 * length xs ≡ at + 4 * suc (length xs) = omega arith in
    rw (s.was, test.0) (rw next at (ranks_after bytes (at + 4) xs ys test.1))

stop_if : (t : Bool) (a b : Result (Unit {0}) LoadFault) (e f : LoadFault) → (a ≡ Err f → b ≡ Err f) → (if t then a else Err e) ≡ Err f → (if t then b else Err e) ≡ Err f
stop_if true a b e f next is = next is
stop_if false a b e f next is = is

stop_step : (r : Result (List ℕ) LoadFault) (test : List ℕ → Bool) (a b : Result (Unit {0}) LoadFault) (e f : LoadFault) → (a ≡ Err f → b ≡ Err f) → (r >>= (λ item. if test item then a else Err e)) ≡ Err f → (r >>= (λ item. if test item then b else Err e)) ≡ Err f
stop_step (Ok item) test a b e f next is = stop_if (test item) a b e f next is
stop_step (Err g) test a b e f next is = is

ranks_stop : (bytes : List ℕ) (at : ℕ) (xs ys : List ℕ) (f : LoadFault) → ranks_at bytes at xs ≡ Err f → ranks_at bytes at (xs ++ ys) ≡ Err f
unfolding ranks_at
ranks_stop bytes at [] ys f is = absurd (ok_err tt f is)
ranks_stop bytes at (x ∷ xs) ys f is =
    stop_step (item_at bytes at 4) (λ item. pointwise nat_eq item (to_le_bytes w32 x)) (ranks_at bytes (at + 4) xs) (ranks_at bytes (at + 4) (xs ++ ys)) (faults.BadRank at) f (λ e. ranks_stop bytes (at + 4) xs ys f e) is

-- after some ranks the next ones are there
pub ranks_more : (bytes : List ℕ) (at : ℕ) (ranks : List ℕ) (done k : ℕ) → done ≤ length ranks → ranks_at bytes at (take done ranks) ≡ Ok tt → ranks_at bytes (at + 4 * done) (take k (drop done ranks)) ≡ Ok tt → ranks_at bytes at (take (done + k) ranks) ≡ Ok tt
ranks_more bytes at ranks done k inside before now =
    let long : length (take done ranks) ≡ done = omega (arith, length-take done ranks, inside) in
    rw (take-add done k ranks) (ranks_after bytes at (take done ranks) (take k (drop done ranks)) before ∙ rw long now)

ranks_ended : (bytes : List ℕ) (at : ℕ) (ranks : List ℕ) (done k : ℕ) (f : LoadFault) → done ≤ length ranks → ranks_at bytes at (take done ranks) ≡ Ok tt → ranks_at bytes (at + 4 * done) (take k (drop done ranks)) ≡ Err f → ranks_at bytes at ranks ≡ Err f
ranks_ended bytes at ranks done k f inside before now =
    let long : length (take done ranks) ≡ done = omega (arith, length-take done ranks, inside) in
    let next : ranks_at bytes at (take (done + k) ranks) ≡ Err f = rw (take-add done k ranks) (ranks_after bytes at (take done ranks) (take k (drop done ranks)) before ∙ rw long now) in
    ap (ranks_at bytes at) (sym (take-append-drop (done + k) ranks)) ∙ ranks_stop bytes at (take (done + k) ranks) (drop (done + k) ranks) f next

-- or the first fault of them is the first of all
pub ranks_fault : (bytes : List ℕ) (at : ℕ) (ranks : List ℕ) (done k : ℕ) (f : LoadFault) → done ≤ length ranks → ranks_at bytes at (take done ranks) ≡ Ok tt → Fails f (ranks_at bytes (at + 4 * done) (take k (drop done ranks))) → Fails f (ranks_at bytes at ranks)
ranks_fault bytes at ranks done k faults.Memory inside before is = tt
ranks_fault bytes at ranks done k faults.Read inside before is = tt
ranks_fault bytes at ranks done k (faults.Truncated a) inside before is = ranks_ended bytes at ranks done k _ inside before is
ranks_fault bytes at ranks done k faults.BadMagic inside before is = ranks_ended bytes at ranks done k _ inside before is
ranks_fault bytes at ranks done k faults.BadAlgorithm inside before is = ranks_ended bytes at ranks done k _ inside before is
ranks_fault bytes at ranks done k (faults.BadField a) inside before is = ranks_ended bytes at ranks done k _ inside before is
ranks_fault bytes at ranks done k (faults.BadPadding a) inside before is = ranks_ended bytes at ranks done k _ inside before is
ranks_fault bytes at ranks done k (faults.BadCell a) inside before is = ranks_ended bytes at ranks done k _ inside before is
ranks_fault bytes at ranks done k (faults.BadCount a) inside before is = ranks_ended bytes at ranks done k _ inside before is
ranks_fault bytes at ranks done k (faults.BadRank a) inside before is = ranks_ended bytes at ranks done k _ inside before is
ranks_fault bytes at ranks done k faults.Trailing inside before is = ranks_ended bytes at ranks done k _ inside before is

-- ---- bytes that hold all ranks

pub ranks_there : (bytes xs ranks zs : List ℕ) (at : ℕ) → bytes ≡ xs ++ (ranks_image ranks ++ zs) → length xs ≡ at → ranks_at bytes at ranks ≡ Ok tt
unfolding ranks_at ranks_image
ranks_there bytes xs [] zs at is first = refl
ranks_there bytes xs (r ∷ rs) zs at is first =
    let cut : bytes ≡ xs ++ (to_le_bytes w32 r ++ (flat_map (to_le_bytes w32) rs ++ zs)) = is ∙ ap (λ (l : List ℕ). xs ++ l) (append_assoc (to_le_bytes w32 r) (flat_map (to_le_bytes w32) rs) zs) in
    let item : item_at bytes at 4 ≡ Ok (to_le_bytes w32 r) = item_there bytes xs (to_le_bytes w32 r) (flat_map (to_le_bytes w32) rs ++ zs) at 4 cut first refl in
    let next = ranks_there bytes (xs ++ to_le_bytes w32 r) rs zs (at + 4) (cut ∙ sym (append_assoc xs (to_le_bytes w32 r) (flat_map (to_le_bytes w32) rs ++ zs))) (length-append xs (to_le_bytes w32 r) ∙ ap (λ (k : ℕ). k + 4) first) in
    rw (item, same_bytes (to_le_bytes w32 r) (to_le_bytes w32 r) refl) next
