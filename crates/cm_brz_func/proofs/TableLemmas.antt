-- The cells of buckets in one table.
use Rattle.std.proofs.Common.{◌≡◌, ◌∙◌, ℕ, ◌+◌, ◌-◌, ◌*◌, ◌/◌, ◌<◌, ◌≤◌, List, [], ◌∷◌, ◌++◌, length, take, drop, get_or, inl, inr, ap, sym, arith, length-append, length-take, length-drop, cond, replicate}
use Rattle.std.specs.Prelude.{slice_index}
use Rattle.std.specs.List.{All}
use Rattle.std.proofs.lemmas.Bool.{cases_lt}
use Rattle.std.proofs.lemmas.List.{drop-append-le, ext_get_or, get_or_append_left, get_or-drop, get_or-map, get_or-take, get_or_past, length-map, map-append, take-append-le, take-take}
use Rattle.std.proofs.lemmas.List.Elements.{All-append, All-cons, All-from_get_or, All-nil}
use Rattle.std.proofs.lemmas.List.FromFn.{get_or-map-range_with_len, length-map-range_with_len}
use Rattle.std.proofs.lemmas.List.Sums.{sum_by-append}
use Rattle.std.proofs.Math.Seq.{drop-append_seam, take-add, take-length}
use Rattle.std.specs.List.{count_by}
use Rattle.cm_bits.specs.AppendLaws.{length-filled_up, zeros_after}
use Rattle.cm_bits.specs.Appending.{filled_up}
use Rattle.cm_bits.specs.DigitsLaws.{digits_sum-same}
use Rattle.cm_rank.specs.Ranks.{rank_of}
use Rattle.cm_spec.specs.Cells.{is_busy}
use Rattle.cm_spec.specs.Image.{packed_byte, packed_len}
use Rattle.cm_spec.specs.Lists.{list_of}
use Rattle.cm_brz_func.specs.Functions.{Bucket}
use Rattle.cm_brz_func.specs.Kept.{LiesIn, bucket_in, buckets_of, cells_in, none_held}
use Rattle.cm_brz_func.specs.declared.held.Held.{Held}

pub length-cells_in : (table : List ℕ) (h : Held) → LiesIn table h → length (cells_in table h) ≡ 3 * h.third
length-cells_in table h lies = omega (arith, lies.within, length-take (3 * h.third) (drop h.start table), length-drop h.start table)

cell_at : (table : List ℕ) (h : Held) (v : ℕ) → v < 3 * h.third → slice_index (cells_in table h) v ≡ slice_index table (h.start + v)
cell_at table h v inside = get_or-take (3 * h.third) (drop h.start table) v 0 inside ∙ get_or-drop h.start table v 0

-- the rank of a vertex is the difference of two ranks in the table
pub rank_in : (table : List ℕ) (h : Held) (v r : ℕ) → LiesIn table h → v ≤ 3 * h.third → rank_of 3 table h.start + r ≡ rank_of 3 table (h.start + v) → r ≡ rank_of 3 (cells_in table h) v
rank_in table h v r lies inside is =
    let parts : rank_of 3 table (h.start + v) ≡ rank_of 3 table h.start + count_by (is_busy 3) (take v (drop h.start table)) = ap (count_by (is_busy 3)) (take-add h.start v table) ∙ sum_by-append (λ (x : ℕ). cond {A = ℕ} (is_busy 3 x) 1 0) (take h.start table) (take v (drop h.start table)) in
    let same : take v (cells_in table h) ≡ take v (drop h.start table) = take-take v (3 * h.third) (drop h.start table) inside in
    rw same (omega (arith, parts, is))

-- ---- images

-- the bytes of a bucket's cells are bytes of the table
byte_in : (table : List ℕ) (h : Held) (q : ℕ) → LiesIn table h → q < packed_len 4 (3 * h.third) → packed_byte 4 4 table (h.start / 4 + q) ≡ packed_byte 4 4 (cells_in table h) q
unfolding packed_byte
byte_in table h q lies inside =
    digits_sum-same 4 _ _ 4 (λ i l.
    let place : 4 * (h.start / 4 + q) + i ≡ h.start + (4 * q + i) = omega (arith, lies.whole) in
    ap (slice_index table) place ∙ elim (cases_lt (4 * q + i) (3 * h.third)) [
      | inl m ↦ sym (cell_at table h (4 * q + i) m)
      | inr m ↦ lies.clear (4 * q + i) m (omega (arith, inside, l)) ∙ sym (get_or_past (cells_in table h) (4 * q + i) 0 (omega (arith, length-cells_in table h lies, m)))
    ])

-- they end where the table's do, or before
pub image_within : (table : List ℕ) (h : Held) → LiesIn table h → h.start / 4 + packed_len 4 (3 * h.third) ≤ packed_len 4 (length table)
image_within table h lies = omega (arith, lies.whole, lies.within)

pub image_in : (table bytes : List ℕ) (h : Held) → LiesIn table h → bytes ≡ list_of (packed_byte 4 4 table) (packed_len 4 (length table))
    → take (packed_len 4 (3 * h.third)) (drop (h.start / 4) bytes) ≡ list_of (packed_byte 4 4 (cells_in table h)) (packed_len 4 (length (cells_in table h)))
image_in table bytes h lies is =
    let n : ℕ = packed_len 4 (3 * h.third) in
    let many : packed_len 4 (length (cells_in table h)) ≡ n = ap (packed_len 4) (length-cells_in table h lies) in
    let all : length bytes ≡ packed_len 4 (length table) = ap length is ∙ length-map-range_with_len (packed_byte 4 4 table) 0 _ in
    let long : length (take n (drop (h.start / 4) bytes)) ≡ n = omega (arith, all, image_within table h lies, length-take n (drop (h.start / 4) bytes), length-drop (h.start / 4) bytes) in
    rw many (ext_get_or 0 _ _ (long ∙ sym (length-map-range_with_len (packed_byte 4 4 (cells_in table h)) 0 n)) (λ q l.
    let inside : q < n = omega (arith, l, long) in
    get_or-take n (drop (h.start / 4) bytes) q 0 inside ∙ get_or-drop (h.start / 4) bytes q 0
    ∙ ap (λ (b : List ℕ). slice_index b (h.start / 4 + q)) is
    ∙ get_or-map-range_with_len (packed_byte 4 4 table) 0 (packed_len 4 (length table)) (h.start / 4 + q) (h.start / 4 + q) 0 (omega (arith, inside, image_within table h lies)) (omega arith)
    ∙ byte_in table h q lies inside
    ∙ sym (get_or-map-range_with_len (packed_byte 4 4 (cells_in table h)) 0 n q q 0 inside (omega arith))))

-- ---- one bucket more

-- the table with the cells of a bucket appended
abbrev pub with_cells : List ℕ → List ℕ → List ℕ
with_cells table cells = filled_up 4 table ++ cells

pub length-with_cells : (table cells : List ℕ) → length (with_cells table cells) ≡ 4 * packed_len 4 (length table) + length cells
length-with_cells table cells = length-append (filled_up 4 table) cells ∙ ap (λ n. n + length cells) (length-filled_up 4 table (omega arith))

-- a part of a list stays as others are appended
cut_stays : (xs ys : List ℕ) (from n : ℕ) → from + n ≤ length xs → take n (drop from (xs ++ ys)) ≡ take n (drop from xs)
cut_stays xs ys from n inside = ap (take n) (drop-append-le from xs ys (omega (arith, inside))) ∙ take-append-le n (drop from xs) ys (omega (arith, inside, length-drop from xs))

-- the cells of the buckets before stay
cells_stay : (table cells : List ℕ) (h : Held) → LiesIn table h → cells_in (with_cells table cells) h ≡ cells_in table h
cells_stay table cells h lies =
    cut_stays (filled_up 4 table) cells h.start (3 * h.third) (omega (arith, lies.within, length-append table (replicate (4 * packed_len 4 (length table) - length table) 0)))
    ∙ cut_stays table (replicate (4 * packed_len 4 (length table) - length table) 0) h.start (3 * h.third) lies.within

-- and they lie there as before
lies_still : (table cells : List ℕ) (h : Held) → LiesIn table h → LiesIn (with_cells table cells) h
lies_still table cells h lies = record {
  whole = lies.whole;
  within = omega (arith, lies.within, length-with_cells table cells);
  clear = λ k from below.
      let inside : h.start + k < length (filled_up 4 table) = omega (arith, lies.whole, lies.within, below, length-filled_up 4 table (omega arith)) in
      get_or_append_left (filled_up 4 table) cells 0 (h.start + k) inside ∙ zeros_after table _ (h.start + k) ∙ lies.clear k from below;
}

-- those of the new one lie after them
pub record IsNext (table cells : List ℕ) (h : Held) : Type 0 where
  pub start : h.start ≡ 4 * packed_len 4 (length table)
  pub many : 3 * h.third ≡ length cells

lies_next : (table cells : List ℕ) (h : Held) → IsNext table cells h → LiesIn (with_cells table cells) h
lies_next table cells h next = record {
  whole = omega (arith, next.start);
  within = omega (arith, next.start, next.many, length-with_cells table cells);
  clear = λ k from below. get_or_past (with_cells table cells) (h.start + k) 0 (omega (arith, from, next.start, next.many, length-with_cells table cells));
}

cells_next : (table cells : List ℕ) (h : Held) → IsNext table cells h → cells_in (with_cells table cells) h ≡ cells
cells_next table cells h next =
    let start : h.start ≡ length (filled_up 4 table) = next.start ∙ sym (length-filled_up 4 table (omega arith)) in
    rw (start, next.many, drop-append_seam) (take-length cells)

-- all of them
pub lie_then : (table cells : List ℕ) (kept : List Held) (h : Held) → All (LiesIn table) kept → IsNext table cells h → All (LiesIn (with_cells table cells)) (kept ++ h ∷ [])
lie_then table cells kept h all next =
    All-append (LiesIn (with_cells table cells)) kept (h ∷ [])
    (All-from_get_or (LiesIn (with_cells table cells)) kept none_held (λ i l. lies_still table cells (get_or kept i none_held) (all i none_held l)))
    (All-cons (LiesIn (with_cells table cells)) h [] (lies_next table cells h next) (All-nil (LiesIn (with_cells table cells))))

buckets_stay : (table cells : List ℕ) (kept : List Held) → All (LiesIn table) kept → buckets_of (with_cells table cells) kept ≡ buckets_of table kept
buckets_stay table cells kept all =
    let bucket : ℕ → List ℕ → Bucket = λ i t. bucket_in t (get_or kept i none_held) in
    let none : Bucket = bucket_in [] none_held in
    ext_get_or none (buckets_of (with_cells table cells) kept) (buckets_of table kept) (length-map kept (bucket_in (with_cells table cells)) ∙ sym (length-map kept (bucket_in table))) (λ i l.
    let inside : i < length kept = omega (arith, l, length-map kept (bucket_in (with_cells table cells))) in
    let h : Held = get_or kept i none_held in
    get_or-map (bucket_in (with_cells table cells)) kept i none_held none inside
    ∙ ap (λ (c : List ℕ). record { size = h.size; seed = h.seed; cells = c }) (cells_stay table cells h (all i none_held inside))
    ∙ sym (get_or-map (bucket_in table) kept i none_held none inside))

pub buckets_then : (table cells : List ℕ) (kept : List Held) (h : Held) → All (LiesIn table) kept → IsNext table cells h → buckets_of (with_cells table cells) (kept ++ h ∷ []) ≡ buckets_of table kept ++ record { size = h.size; seed = h.seed; cells = cells } ∷ []
buckets_then table cells kept h all next =
    map-append (bucket_in (with_cells table cells)) kept (h ∷ [])
    ∙ ap (λ (bs : List Bucket). bs ++ bucket_in (with_cells table cells) h ∷ []) (buckets_stay table cells kept all)
    ∙ ap (λ (c : List ℕ). buckets_of table kept ++ record { size = h.size; seed = h.seed; cells = c } ∷ []) (cells_next table cells h next)
