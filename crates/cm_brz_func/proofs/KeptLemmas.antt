-- Buckets that are kept, and one more of them.
use Rattle.std.proofs.Common.{◌≡◌, ◌≢◌, ◌∙◌, ◌⊎◌, ℕ, ◌+◌, ◌<◌, ◌≤◌, ◌^◌, List, [], ◌∷◌, ◌++◌, length, take, get_or, inl, inr, ap, sym, subst, arith, length-append}
use Rattle.std.specs.Prelude.{slice_index_or}
use Rattle.std.specs.List.{All}
use Rattle.std.proofs.lemmas.Bool.{cases_lt}
use Rattle.std.proofs.lemmas.List.{get_or-map, get_or_default, get_or_past, length-map, take-append-le}
use Rattle.std.proofs.lemmas.List.Elements.{All-append, All-cons, All-nil}
use Rattle.std.proofs.lemmas.List.Sums.{sum_by_more, sum_by_more_le, sum_by_push}
use Rattle.std.proofs.Math.ListN.{get_or-append}
use Rattle.std.proofs.Math.Seq.{get_or-append_seam, take-length}
use Rattle.cm_brz_func.specs.Functions.{Brz, Bucket, IsBrz, IsBucket, bucket_cells, bucket_count, keys_in, no_bucket, offset_of}
use Rattle.cm_bits.specs.Bound.{AllBelow}
use Rattle.cm_spec.specs.declared.limits.TheConstants.{MAX_BUCKET, MAX_KEYS}
use Rattle.cm_brz_func.specs.Pushing.{Counts}
use Rattle.cm_brz_func.specs.Kept.{AreKept, IsSized, LiesIn, all_held, bucket_in, buckets_of, none_held, offset_at}
use Rattle.cm_brz_func.specs.declared.held.Held.{Held}
use Rattle.cm_brz_func.specs.declared.held.Kept.{Kept}
use Rattle.cm_brz_func.proofs.HeldLemmas.{held_is, length_all_held, none_kept}
use Rattle.cm_brz_func.proofs.SizeLemmas.{few_cells, some_third}
use Rattle.cm_brz_func.proofs.TableLemmas.{IsNext, buckets_then, length-cells_in, length-with_cells, lie_then, with_cells}

-- the function of buckets as they are kept
abbrev pub first_of : ℕ → ℕ → ℕ → ℕ → List ℕ → List Held → Brz
first_of m c b s table kept = record { keys = m; ratio = c; width = b; split = s; buckets = buckets_of table kept }

-- with one more
abbrev pub then_one : List Held → Held → List Held
then_one kept h = kept ++ h ∷ []

keys_then : (before : List Bucket) (bucket : Bucket) (after : List Bucket) → after ≡ before ++ bucket ∷ [] → keys_in after ≡ keys_in before + bucket.size
keys_then before bucket after is = ap keys_in is ∙ sum_by_push (λ (b : Bucket). b.size) before bucket

each_then : (c : ℕ) (before : List Bucket) (bucket : Bucket) (after : List Bucket) → after ≡ before ++ bucket ∷ [] → All (IsBucket c) before → IsBucket c bucket → All (IsBucket c) after
each_then c before bucket after is all one =
    subst (λ (bs : List Bucket). All (IsBucket c) bs) (sym is) (All-append (IsBucket c) before (bucket ∷ []) all (All-cons (IsBucket c) bucket [] one (All-nil (IsBucket c))))

-- the offsets of the buckets so far stay, and that of the next is the number of their keys
offset_then : (kept : List Held) (h : Held) (before : List Bucket) (bucket : Bucket) (after : List Bucket) (i : ℕ) → after ≡ before ++ bucket ∷ [] → length before ≡ length kept → (i < length kept → (get_or kept i none_held).offset ≡ offset_of before i) → h.offset ≡ keys_in before → i < length kept + 1 → (get_or (then_one kept h) i none_held).offset ≡ offset_of after i
offset_then kept h before bucket after i is size old last inside = go (cases_lt i (length kept)) where
  there : (j : ℕ) → j ≤ length kept → offset_of after j ≡ offset_of before j
  there j le = ap (λ (bs : List Bucket). keys_in (take j bs)) is ∙ ap keys_in (take-append-le j before (bucket ∷ []) (omega (arith, le, size)))

  go : (i < length kept) ⊎ (length kept ≤ i) → (get_or (then_one kept h) i none_held).offset ≡ offset_of after i
  go (inl l) = ap (λ (x : Held). x.offset) (get_or-append kept (h ∷ []) none_held i l) ∙ (old l ∙ sym (there i (omega (arith, l))))
  go (inr m) =
      let at : i ≡ length kept = omega (arith, m, inside) in
      let whole : take (length kept) before ≡ before = ap (λ (n : ℕ). take n before) (sym size) ∙ take-length before in
      rw at (ap (λ (x : Held). x.offset) (get_or-append_seam kept h [] none_held) ∙ (last ∙ sym (there (length kept) (omega arith) ∙ ap keys_in whole)))

-- the next bucket
pub record IsNextOf (m c count held : ℕ) (kept : List Held) (h : Held) (cells : List ℕ) : Type 0 where
  pub offset : h.offset ≡ held
  pub one : IsBucket c (record { size = h.size; seed = h.seed; cells = cells })
  pub room : length kept < count
  pub within : held + h.size ≤ m
  pub all : length kept + 1 ≡ count → m ≤ held + h.size

pub kept_then : (m c b s count held : ℕ) (table cells : List ℕ) (kept : List Held) (h : Held) → AreKept (first_of m c b s table kept) table kept count held → IsNext table cells h → IsNextOf m c count held kept h cells
    → AreKept (first_of m c b s (with_cells table cells) (then_one kept h)) (with_cells table cells) (then_one kept h) count (held + h.size)
kept_then m c b s count held table cells kept h are next of =
    let long : length (then_one kept h) ≡ length kept + 1 = length-append kept (h ∷ []) in
    let is = buckets_then table cells kept h are.lie next in
    let bucket : Bucket = record { size = h.size; seed = h.seed; cells = cells } in
    record {
      keys = are.keys;
      ratio = are.ratio;
      width = are.width;
      split = are.split;
      count = are.count;
      few = omega (arith, long, of.room);
      each = each_then c (buckets_of table kept) bucket _ is are.each of.one;
      lie = lie_then table cells kept h are.lie next;
      offsets = λ i inside. offset_then kept h (buckets_of table kept) bucket _ i is (length-map kept (bucket_in table)) (are.offsets i) (of.offset ∙ are.held) (omega (arith, inside, long));
      held = ap (λ (n : ℕ). n + h.size) are.held ∙ sym (keys_then (buckets_of table kept) bucket _ is);
      within = of.within;
      all = λ last. omega (arith, of.all (omega (arith, last, long)), of.within);
      short = omega (arith, are.short, long, length-with_cells table cells, few_cells h.size c cells are.ratio of.one.cells);
    }

-- a function with all of its buckets
pub kept_all : (m c b s count held : ℕ) (table : List ℕ) (kept : List Held) → AreKept (first_of m c b s table kept) table kept count held → length (buckets_of table kept) ≡ bucket_count m b → IsBrz (first_of m c b s table kept)
kept_all m c b s count held table kept are all = record {
  keys = are.keys;
  ratio = are.ratio;
  width = are.width;
  split = are.split;
  count = all;
  each = are.each;
  all = sym are.held ∙ are.all (sym (length-map kept (bucket_in table)) ∙ (all ∙ sym are.count));
}

-- bucket j as it is kept
pub record IsKeptAt (f : Brz) (table : List ℕ) (j : ℕ) (h : Held) : Type 0 where
  pub bucket : bucket_in table h ≡ slice_index_or f.buckets j no_bucket
  pub offset : h.offset ≡ offset_of f.buckets j
  pub valid : IsBucket f.ratio (bucket_in table h)
  pub lies : LiesIn table h
  pub within : h.offset + h.size ≤ f.keys
  pub few : f.keys ≤ MAX_KEYS
  pub some : h.size ≢ 0 → 0 < h.third

pub kept_at : {m c b s count held j : ℕ} {table : List ℕ} {f : Brz} {h : Held} (kept : List Kept) → AreKept (first_of m c b s table (all_held c held kept)) table (all_held c held kept) count held → first_of m c b s table (all_held c held kept) ≡ f → j < length f.buckets
    → h ≡ get_or (all_held c held kept) j none_held → IsKeptAt f table j h
kept_at {m = m} {c = c} {b = b} {s = s} {held = held} {j = j} {table = table} {h = h} kept are view there is =
    subst (λ (g : Brz). j < length g.buckets → IsKeptAt g table j h) view first there
  where
    hs : List Held
    hs = all_held c held kept

    first : j < length (buckets_of table hs) → IsKeptAt (first_of m c b s table hs) table j h
    first inside =
        let within : j < length hs = omega (arith, inside, length-map hs (bucket_in table)) in
        let there : bucket_in table h ≡ slice_index_or (buckets_of table hs) j no_bucket = ap (bucket_in table) is ∙ sym (get_or-map (bucket_in table) hs j none_held no_bucket within) in
        let offset : h.offset ≡ offset_of (buckets_of table hs) j = ap (λ (k : Held). k.offset) is ∙ are.offsets j within in
        let size : h.size ≡ (slice_index_or (buckets_of table hs) j no_bucket).size = ap (λ (k : Bucket). k.size) there in
        let most : offset_of (buckets_of table hs) j + (slice_index_or (buckets_of table hs) j no_bucket).size ≤ keys_in (buckets_of table hs) = sum_by_more_le (λ (k : Bucket). k.size) (buckets_of table hs) j no_bucket inside in
        let valid : IsBucket c (bucket_in table h) = subst (IsBucket c) (sym there) (are.each j no_bucket inside) in
        let lies : LiesIn table h = subst (LiesIn table) (sym is) (are.lie j none_held within) in
        record {
          bucket = there;
          offset = offset;
          valid = valid;
          lies = lies;
          within = omega (arith, offset, size, most, are.held, are.within);
          few = are.keys.1;
          some = λ any. some_third h.size c h.third any (sym (length-cells_in table h lies) ∙ valid.cells);
        }

-- the offsets of the buckets are as they were kept
offset_is : (m c b s count held : ℕ) (table : List ℕ) (kept : List Kept) (j : ℕ) → AreKept (first_of m c b s table (all_held c held kept)) table (all_held c held kept) count held → j ≤ length kept
    → offset_at kept held j ≡ offset_of (buckets_of table (all_held c held kept)) j
offset_is m c b s count held table kept j are inside = go (cases_lt j (length kept)) where
  hs : List Held
  hs = all_held c held kept

  many : length (buckets_of table hs) ≡ length kept
  many = length-map hs (bucket_in table) ∙ length_all_held c held kept

  go : (j < length kept) ⊎ (length kept ≤ j) → offset_at kept held j ≡ offset_of (buckets_of table hs) j
  go (inl l) =
      ap (λ (k : Kept). k.offset) (get_or_default kept j (record { start = 0; offset = held; seed = 0 }) none_kept l)
      ∙ ap (λ (h : Held). h.offset) (sym (held_is c held kept j l))
      ∙ are.offsets j (omega (arith, l, length_all_held c held kept))
  go (inr p) =
      let end : j ≡ length (buckets_of table hs) = omega (arith, inside, p, many) in
      let whole : take j (buckets_of table hs) ≡ buckets_of table hs = ap (λ (i : ℕ). take i (buckets_of table hs)) end ∙ take-length (buckets_of table hs) in
      ap (λ (k : Kept). k.offset) (get_or_past kept j (record { start = 0; offset = held; seed = 0 }) p) ∙ are.held ∙ sym (ap keys_in whole)

-- so each has its keys before those of the next one
pub sized_at : {m c b s count held : ℕ} {table : List ℕ} {f : Brz} (kept : List Kept) (j : ℕ) → AreKept (first_of m c b s table (all_held c held kept)) table (all_held c held kept) count held → first_of m c b s table (all_held c held kept) ≡ f → j < length f.buckets
    → IsSized kept held j
sized_at {m = m} {c = c} {b = b} {s = s} {count = count} {held = held} {table = table} kept j are view there =
    let buckets : List Bucket = buckets_of table (all_held c held kept) in
    let inside : j < length buckets = subst (λ (g : Brz). j < length g.buckets) (sym view) there in
    let within : j < length kept = omega (arith, inside, length-map (all_held c held kept) (bucket_in table), length_all_held c held kept) in
    let this = offset_is m c b s count held table kept j are (omega (arith, within)) in
    let next = offset_is m c b s count held table kept (j + 1) are (omega (arith, within)) in
    let more = sum_by_more (λ (k : Bucket). k.size) buckets j no_bucket inside in
    record { inside = within; rises = omega (arith, this, next, more); few = omega (arith, this, next, more, (are.each j no_bucket inside).few) }

-- a bucket that can be the next one is a bucket of the function
pub is_bucket : (f : Brz) (size seed : ℕ) (cells : List ℕ) → Counts f (record { size = size; seed = seed; cells = cells }) → size ≤ MAX_BUCKET → seed < 2 ^ 32 → (size ≡ 0 → seed ≡ 0) → length cells ≡ bucket_cells size f.ratio → AllBelow 4 cells
    → IsBucket f.ratio (record { size = size; seed = seed; cells = cells })
is_bucket f size seed cells counted few fits unseeded long below = record { few = few; seed = fits; unseeded = unseeded; cells = long; below = below; busy = counted.busy }
