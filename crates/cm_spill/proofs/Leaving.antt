-- What is left of a run that is read.
use Rattle.std.proofs.Common.{◌≡◌, ◌∙◌, ℕ, ◌+◌, ◌<◌, ◌≤◌, List, [], ◌∷◌, ◌++◌, length, get_or, take, drop, refl, ap, sym, subst, arith, append_assoc, append-nil, length-append, inl, inr, Option, None, Some}
use Rattle.std.specs.Prelude.{Err}
use Rattle.std.specs.List.{flat_map}
use Rattle.std.proofs.lemmas.Grind.{flat_map-append}
use Rattle.std.proofs.lemmas.List.{drop-drop}
use Rattle.std.proofs.lemmas.List.Elements.{All-head, All-tail}
use Rattle.std.proofs.Math.Seq.{take-append_seam, drop-append_seam}
use Rattle.byteorder.specs.Endian.{little_number}
use Rattle.cm_spill.specs.Records.{Record, EndsAt, IsRecords, IsShort, encoded}
use Rattle.cm_spill.specs.Reading.{AreLeft, IsAhead, IsHeaderAt, IsBelow, IsHeaderOf, IsHeaderRead, IsNextOf, IsPassed, IsWithin, Finds, Peeks, Position, RunLeft}
use Rattle.cm_spill.specs.Reads.{ArePassed, FindsRun}
use Rattle.cm_spill.specs.declared.fault.SpillError.{SpillError}
use Rattle.cm_spill.specs.declared.fault.SpillError.TheVariants as faults
use Rattle.cm_spill.specs.declared.header.Header.{Header}
use Rattle.cm_spill.proofs.Coding.{length-encoded, parts_of, Parts}

-- the next record ends within its run
pub long_left : (x : List ℕ) (run : RunLeft) (r : Record) (rs : List Record) → AreLeft x run (r ∷ rs) → run.next + (10 + length r.key) ≤ run.until
long_left x run r rs left = omega (arith, left.until, length-append (encoded r) (flat_map encoded rs), length-encoded r)

-- at the end of a run none is left
pub none_left : (x : List ℕ) (run : RunLeft) (records : List Record) → AreLeft x run records → run.next ≡ run.until → records ≡ []
none_left x run [] left end = refl
none_left x run (r ∷ rs) left end = absurd (omega (arith, end, long_left x run r rs left))

-- before its end some are left
pub some_left : (x : List ℕ) (run : RunLeft) (records : List Record) → AreLeft x run records → (run.next ≡ run.until → ⊥) → (r : Record) × (rs : List Record) × (records ≡ r ∷ rs)
some_left x run [] left more = absurd (more (omega (arith, left.until)))
some_left x run (r ∷ rs) left more = (r, rs, refl)

-- what the header says of the next record
pub passed_by : (bucket : ℕ) (records : List Record) (h : Header) → IsHeaderOf records h → bucket < h.bucket → IsPassed bucket records
passed_by bucket [] h of above = absurd of
passed_by bucket (r ∷ rs) h of above = omega (arith, of.0, above)

pub below_bucket : (bucket least : ℕ) (records : List Record) (h : Header) → IsHeaderOf records h → h.bucket < bucket → IsBelow bucket least records
below_bucket bucket least [] h of below = of
below_bucket bucket least (r ∷ rs) h of below = inl (omega (arith, of.0, below))

pub below_line : (bucket least : ℕ) (records : List Record) (h : Header) → IsHeaderOf records h → h.bucket ≤ bucket → bucket ≤ h.bucket → h.line < least → IsBelow bucket least records
below_line bucket least [] h of low high below = of
below_line bucket least (r ∷ rs) h of low high below = inr (omega (arith, of.0, low, high), omega (arith, of.1, below))

pub next_by : (bucket least : ℕ) (records : List Record) (h : Header) → IsHeaderOf records h → h.bucket ≤ bucket → bucket ≤ h.bucket → least ≤ h.line → IsNextOf bucket least records
next_by bucket least [] h of low high above = of
next_by bucket least (r ∷ rs) h of low high above = (omega (arith, of.0, low, high), omega (arith, of.1, above))

-- a fault of the header is one of what was looked for
pub finds_fault : (bucket least : ℕ) (records : List Record) (fault : SpillError) → Peeks records (Err fault) → Finds bucket least records (Err fault)
finds_fault bucket least records faults.Memory peeks = peeks
finds_fault bucket least records faults.Failed peeks = tt
finds_fault bucket least records (faults.Damaged offset expected found) peeks = absurd peeks

-- the bytes from the next record on
next_bytes : (x : List ℕ) (run : RunLeft) (r : Record) (rs : List Record) (left : AreLeft x run (r ∷ rs)) → drop run.next x ≡ encoded r ++ (flat_map encoded rs ++ left.rest)
next_bytes x run r rs left = left.are ∙ append_assoc (encoded r) (flat_map encoded rs) left.rest

next_parts : (x : List ℕ) (run : RunLeft) (r : Record) (rs : List Record) (left : AreLeft x run (r ∷ rs)) → Parts r (drop run.next x) (flat_map encoded rs ++ left.rest)
next_parts x run r rs left = subst (λ (b : List ℕ). Parts r b (flat_map encoded rs ++ left.rest)) (sym (next_bytes x run r rs left)) (parts_of r _ (All-head IsShort r rs left.short))

-- a header that was read there
pub header_left : (x : List ℕ) (run : RunLeft) (r : Record) (rs : List Record) (at : ℕ) (h : Header) → AreLeft x run (r ∷ rs) → at ≡ run.next → IsHeaderAt (drop at x) h → IsHeaderOf (r ∷ rs) h
header_left x run r rs at h left here is =
    let p = next_parts x run r rs left in
    let same = ap (λ (i : ℕ). drop i x) here in (
      is.1 ∙ ap (little_number 4) same ∙ p.bucket,
      is.2 ∙ ap (λ (b : List ℕ). little_number 4 (drop 4 b)) same ∙ p.line,
      is.3 ∙ ap (λ (b : List ℕ). little_number 2 (drop 8 b)) same ∙ p.len,
    )

-- there is a whole header
pub header_whole : (x : List ℕ) (run : RunLeft) (r : Record) (rs : List Record) (at : ℕ) → AreLeft x run (r ∷ rs) → at ≡ run.next → 10 ≤ length (drop at x)
header_whole x run r rs at left here =
    omega (arith, ap (λ (i : ℕ). length (drop i x)) here, ap length (next_bytes x run r rs left), length-append (encoded r) (flat_map encoded rs ++ left.rest), length-encoded r)

-- the same records are left if more of the next one was read
pub left_with : (x : List ℕ) (run : RunLeft) (header : Option Header) (ahead : Position) (records : List Record) → AreLeft x run records → IsAhead x ahead
    → IsHeaderRead records (record { until = run.until; next = run.next; header = header; ahead = ahead }) header
    → AreLeft x (record { until = run.until; next = run.next; header = header; ahead = ahead }) records
left_with x run header ahead records left is read = record {
  ahead = is;
  header = read;
  short = left.short;
  rest = left.rest;
  are = left.are;
  until = left.until;
  inside = left.inside;
  before = left.before;
  after = left.after;
  all = left.all;
  place = left.place;
}

-- the key of the next record
pub key_left : (x : List ℕ) (run : RunLeft) (r : Record) (rs : List Record) (at len : ℕ) → AreLeft x run (r ∷ rs) → at ≡ run.next + 10 → len ≡ length r.key → take len (drop at x) ≡ r.key
key_left x run r rs at len left here long =
    let p = next_parts x run r rs left in
    ap (λ (i : ℕ). take len (drop i x)) here
    ∙ ap (λ (b : List ℕ). take len b) (sym (drop-drop 10 run.next x) ∙ p.key)
    ∙ ap (λ (n : ℕ). take n (r.key ++ (flat_map encoded rs ++ left.rest))) long
    ∙ take-append_seam r.key (flat_map encoded rs ++ left.rest)

-- after the next record the others are left
pub left_after : (x : List ℕ) (run : RunLeft) (r : Record) (rs : List Record) (next : ℕ) (ahead : Position) → AreLeft x run (r ∷ rs) → next ≡ run.next + (10 + length r.key) → IsAhead x ahead → ahead.at ≡ next
    → AreLeft x (record { until = run.until; next = next; header = None; ahead = ahead }) rs
left_after x run r rs next ahead left moved is at =
    let long : next ≡ run.next + length (encoded r) = omega (arith, moved, length-encoded r) in
    record {
      ahead = is;
      header = at;
      short = All-tail IsShort r rs left.short;
      rest = left.rest;
      are = ap (λ (i : ℕ). drop i x) long ∙ sym (drop-drop (length (encoded r)) run.next x) ∙ ap (λ (b : List ℕ). drop (length (encoded r)) b) (next_bytes x run r rs left) ∙ drop-append_seam (encoded r) (flat_map encoded rs ++ left.rest);
      until = omega (arith, left.until, long, length-append (encoded r) (flat_map encoded rs));
      inside = left.inside;
      before = left.before ++ r ∷ [];
      after = left.after;
      all = subst (IsRecords x) (sym (append_assoc left.before (r ∷ []) (rs ++ left.after))) left.all;
      place = omega (arith, long, left.place, ap length (flat_map-append encoded left.before (r ∷ [])), length-append (flat_map encoded left.before) (flat_map encoded (r ∷ [])), ap length (append-nil (encoded r)));
    }

-- where the next record ends
pub next_ends : (x : List ℕ) (run : RunLeft) (r : Record) (rs : List Record) (b line end : ℕ) (key : List ℕ) → AreLeft x run (r ∷ rs) → r.bucket ≡ b → line ≡ r.line → key ≡ r.key → end ≡ run.next + (10 + length key)
    → EndsAt x (record { bucket = b; line = line; key = key }) end
next_ends x run r rs b line end key left bucket is same moved =
    let t : Record = record { bucket = b; line = line; key = key } in
    let one : r ≡ t = ap (λ (n : ℕ). let t : Record = record { bucket = n; line = r.line; key = r.key } in t) bucket
    ∙ ap (λ (n : ℕ). let t : Record = record { bucket = b; line = n; key = r.key } in t) (sym is)
    ∙ ap (λ (k : List ℕ). let t : Record = record { bucket = b; line = line; key = k } in t) (sym same) in
    (left.before, rs ++ left.after, subst (λ (t : Record). IsRecords x (left.before ++ t ∷ (rs ++ left.after))) one left.all, omega (arith, moved, left.place))

-- a run with room to read ahead, of which nothing was read ahead yet
abbrev pub reserved : RunLeft → ℕ → RunLeft
reserved run room = record { until = run.until; next = run.next; header = run.header; ahead = record { at = run.ahead.at; ready = []; room = room } }

pub reserved_within : (run : RunLeft) (room : ℕ) → IsWithin run run.header → IsWithin (reserved run room) run.header
reserved_within run room within = go run.header within where
  go : (header : Option Header) → IsWithin run header → IsWithin (reserved run room) header
  go None is = is
  go (Some h) is = is

pub reserved_left : (x : List ℕ) (run : RunLeft) (room : ℕ) (records : List Record) → AreLeft x run records → AreLeft x (reserved run room) records
reserved_left x run room records left = left_with x run run.header (record { at = run.ahead.at; ready = []; room = room }) records left (drop run.ahead.at x, refl) (go run.header left.header) where
  go : (header : Option Header) → IsHeaderRead records run header → IsHeaderRead records (reserved run room) header
  go None is = is
  go (Some h) is = is

-- a fault of a run is one of what was looked for
pub finds_run_fault : (bucket least from at : ℕ) (left : List (List Record)) (fault : SpillError) → from ≤ at → at < length left → ArePassed bucket from at left → ((d : List Record) → Finds bucket least (get_or left at d) (Err fault)) → FindsRun bucket least from left at (Err fault)
finds_run_fault bucket least from at left faults.Memory low inside passed finds = finds []
finds_run_fault bucket least from at left faults.Failed low inside passed finds = tt
finds_run_fault bucket least from at left (faults.Damaged offset expected found) low inside passed finds = (low, inside, passed, finds)
