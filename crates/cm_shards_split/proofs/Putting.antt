-- One line more in the shards, and what waits appended.
use Rattle.std.proofs.Common.{◌≡◌, ◌≢◌, ◌∙◌, ℕ, ◌+◌, ◌<◌, ◌≤◌, List, [], ◌∷◌, ◌++◌, length, map, get_or, set, take, Option, Result, Ok, Err, inl, inr, refl, ap, sym, subst, arith, append_assoc, append-nil}
use Rattle.std.specs.Prelude.{OnOk}
use Rattle.std.specs.Option.{option_map}
use Rattle.std.proofs.lemmas.Bool.{cases_eq, cases_lt}
use Rattle.std.proofs.lemmas.List.{get_or_append_left, get_or_push, length_push, map-append, get_or-map, get_or-set_other, get_or-set_same, length-map, length-set, map-set, set-get_or}
use Rattle.std.proofs.lemmas.List.FromFn.{fill_by_all}
use Rattle.cm_io.specs.Files.{Files, IsThere}
use Rattle.cm_io.specs.declared.fault.DiskFault.{DiskFault}
use Rattle.cm_io.specs.declared.fault.DiskFault.TheVariants as disk_fault
use Rattle.cm_io_append.specs.Extending.{Extends, extended}
use Rattle.cm_route.specs.Routes.{shard_of}
use Rattle.cm_shards_split.specs.Names.{shard_path}
use Rattle.cm_shards_split.specs.Parts.{AreNew, HasPrefixes, HavePaths, Puts, PutsLine, Stands, StandsTo, Written, counts_of, paths_of, waiting_of}
use Rattle.cm_shards_split.specs.Placed.{placed}
use Rattle.cm_shards_split.specs.Plans.{Plan}
use Rattle.cm_shards_split.specs.Shares.{ended, share_bytes, share_count, shares}
use Rattle.cm_shards_split.specs.declared.part.Part.{Part}
use Rattle.cm_shards_split.proofs.Sharing.{count_elsewhere, count_few, count_here, prefix_longer, prefix_of, prefix_with, share_append, share_elsewhere, share_here, split_at}
use Rattle.cm_shards_split.proofs.Writing.{shard_extended, shard_there}

-- the path of a part, what waits, and its count
path_at : (parts : List Part) (k : ℕ) (d : Part) → k < length parts → get_or (paths_of parts) k [] ≡ (get_or parts k d).path
path_at parts k d inside = get_or-map (λ part. part.path) parts k d [] inside

waiting_at : (parts : List Part) (k : ℕ) (d : Part) → k < length parts → get_or (waiting_of parts) k [] ≡ (get_or parts k d).waiting
waiting_at parts k d inside = get_or-map (λ part. part.waiting) parts k d [] inside

count_at : (parts : List Part) (k : ℕ) (d : Part) → k < length parts → get_or (counts_of parts) k 0 ≡ (get_or parts k d).count
count_at parts k d inside = get_or-map (λ part. part.count) parts k d 0 inside

-- the path of a shard
shard_at : {dir : List ℕ} {parts : List Part} (k : ℕ) (d : Part) → HavePaths dir parts → k < length parts → (get_or parts k d).path ≡ shard_path dir k
shard_at {parts = parts} k d have inside = sym (path_at parts k d inside) ∙ have.paths k inside

-- another part of the same path
paths_kept : {dir : List ℕ} {parts : List Part} (k : ℕ) (d new : Part) → HavePaths dir parts → k < length parts → new.path ≡ (get_or parts k d).path → HavePaths dir (set parts k new)
paths_kept {dir = dir} {parts = parts} k d new have inside path =
    let same : paths_of (set parts k new) ≡ paths_of parts =
    map-set (λ part. part.path) parts k new
    ∙ ap (set (paths_of parts) k) (path ∙ sym (path_at parts k d inside))
    ∙ set-get_or (paths_of parts) k [] in
    let long : length (set parts k new) ≡ length parts = length-set parts k new in
    record { few = omega (arith, have.few, long); paths = λ j within. ap (λ (l : List (List ℕ)). get_or l j []) same ∙ have.paths j (omega (arith, within, long)) }

pub many_parts : {p : Plan} {lines : List (List ℕ)} {parts : List Part} {files : Option Files} → Stands p lines parts files → length parts ≡ p.route.shards
many_parts {parts = parts} stands = sym (length-map parts (λ part. part.waiting)) ∙ stands.split.many_waiting

-- the file of a part is there, and its count is small
pub part_there : {p : Plan} {lines : List (List ℕ)} {parts : List Part} {files : Option Files} (k : ℕ) (d : Part) → Stands p lines parts files → k < length parts
    → IsThere (get_or parts k d).path files
part_there {p = p} {parts = parts} {files = files} k d stands inside =
    let many = many_parts stands in
    let there : IsThere (shard_path p.dir k) (option_map (placed p.dir stands.written []) p.base) = shard_there p.dir p.base stands.written k (omega (arith, inside, many, stands.split.many_written)) (omega (arith, many, stands.split.many_written, stands.paths.few)) in
    subst (λ (path : List ℕ). IsThere path files) (sym (shard_at k d stands.paths inside)) (subst (IsThere (shard_path p.dir k)) (sym stands.files_are) there)

pub part_few : {p : Plan} {lines : List (List ℕ)} {parts : List Part} {files : Option Files} (k : ℕ) (d : Part) → Stands p lines parts files → k < length parts
    → (get_or parts k d).count ≤ length lines
part_few {p = p} {lines = lines} {parts = parts} k d stands inside =
    let many = many_parts stands in
    omega (arith, count_at parts k d inside, stands.split.counts_are k (omega (arith, inside, many)), count_few p.route lines k)

-- the files with a piece behind those of a shard
extends_files : {p : Plan} {lines : List (List ℕ)} {parts : List Part} {old new : Option Files} (k : ℕ) (d : Part) (piece : List ℕ) (stands : Stands p lines parts old) → k < length parts
    → new ≡ extended (get_or parts k d).path piece old → Written p.dir p.base (set stands.written k (get_or stands.written k [] ++ piece)) new
extends_files {p = p} {parts = parts} {old = old} k d piece stands inside is =
    let many = many_parts stands in
    is
    ∙ ap (λ (path : List ℕ). extended path piece old) (shard_at k d stands.paths inside)
    ∙ ap (extended (shard_path p.dir k) piece) stands.files_are
    ∙ shard_extended p.dir p.base stands.written k piece (omega (arith, inside, many, stands.split.many_written)) (omega (arith, many, stands.split.many_written, stands.paths.few))

-- what is written is a prefix of each share, also of those of further lines
pub prefixes_of : {p : Plan} {lines : List (List ℕ)} {parts : List Part} {files : Option Files} → Stands p lines parts files → HasPrefixes p lines files
prefixes_of {p = p} {lines = lines} {parts = parts} stands = record {
  written = stands.written;
  files_are = stands.files_are;
  few = omega (arith, stands.split.many_written);
  prefixes = λ k inside. prefix_of (get_or stands.written k []) (get_or (waiting_of parts) k []) (share_bytes p.route p.end lines k) (stands.split.bytes k (omega (arith, inside, stands.split.many_written)));
}

pub prefixes_more : {p : Plan} {lines : List (List ℕ)} {files : Option Files} (more : List (List ℕ)) → HasPrefixes p lines files → HasPrefixes p (lines ++ more) files
prefixes_more {p = p} {lines = lines} more has = record {
  written = has.written;
  files_are = has.files_are;
  few = has.few;
  prefixes = λ k inside. rw (share_append p.route p.end lines more k) (prefix_longer (get_or has.written k []) (share_bytes p.route p.end lines k) (share_bytes p.route p.end more k) (has.prefixes k inside));
}

-- a prefix of what waits for a shard was appended
pub prefixes_after : {p : Plan} {lines : List (List ℕ)} {parts : List Part} {old new : Option Files} (k : ℕ) (d : Part) (n : ℕ) → Stands p lines parts old → k < length parts
    → new ≡ extended (get_or parts k d).path (take n (get_or parts k d).waiting) old → HasPrefixes p lines new
prefixes_after {p = p} {lines = lines} {parts = parts} k d n stands inside is =
    let piece = take n (get_or parts k d).waiting in
    let written = stands.written in
    let now = set written k (get_or written k [] ++ piece) in
    let many = many_parts stands in
    let in_written : k < length written = omega (arith, inside, many, stands.split.many_written) in
    let long : length now ≡ length written = length-set written k (get_or written k [] ++ piece) in
    let waits = waiting_at parts k d inside in
    record {
      written = now;
      files_are = extends_files k d piece stands inside is;
      few = omega (arith, long, stands.split.many_written);
      prefixes = λ j within. elim (cases_eq j k) [
        | inl same ↦ rw (same, get_or-set_same written k (get_or written k [] ++ piece) [] in_written) (prefix_with (get_or written k []) (get_or parts k d).waiting (share_bytes p.route p.end lines k) n (ap (λ (l : List ℕ). get_or written k [] ++ l) (sym waits) ∙ stands.split.bytes k (omega (arith, inside, many))))
        | inr other ↦ rw (get_or-set_other written k j (get_or written k [] ++ piece) [] other) (prefix_of (get_or written j []) (get_or (waiting_of parts) j []) (share_bytes p.route p.end lines j) (stands.split.bytes j (omega (arith, within, long, stands.split.many_written))))
      ];
    }

-- Other bytes of a shard are written and wait, and it has another count: these are the shares of other lines, by which no other shard
-- changes.
stands_at : {p : Plan} {lines : List (List ℕ)} {parts : List Part} {old new : Option Files} (k : ℕ) (d part : Part) (w : List ℕ) (then_lines : List (List ℕ)) (stands : Stands p lines parts old) → k < length parts
    → part.path ≡ (get_or parts k d).path → Written p.dir p.base (set stands.written k w) new
    → ((j : ℕ) → j ≢ k → share_bytes p.route p.end then_lines j ≡ share_bytes p.route p.end lines j) → ((j : ℕ) → j ≢ k → share_count p.route then_lines j ≡ share_count p.route lines j)
    → w ++ part.waiting ≡ share_bytes p.route p.end then_lines k → part.count ≡ share_count p.route then_lines k → Stands p then_lines (set parts k part) new
stands_at {p = p} {parts = parts} k d part w then_lines stands inside path files shares counted here count =
    let many = many_parts stands in
    let split = split_at k then_lines w part.waiting part.count stands.split (omega (arith, inside, many)) shares counted here count in
    let waits : waiting_of (set parts k part) ≡ set (waiting_of parts) k part.waiting = map-set (λ part. part.waiting) parts k part in
    let counts : counts_of (set parts k part) ≡ set (counts_of parts) k part.count = map-set (λ part. part.count) parts k part in
    record {
      written = set stands.written k w;
      files_are = files;
      paths = paths_kept k d part stands.paths inside path;
      split = rw (waits, counts) split;
    }

-- what waits for a shard was appended
pub stands_flushed : {p : Plan} {lines : List (List ℕ)} {parts : List Part} {old new : Option Files} (k : ℕ) (d part : Part) → Stands p lines parts old → k < length parts
    → new ≡ extended (get_or parts k d).path (get_or parts k d).waiting old → part.waiting ≡ [] → part.path ≡ (get_or parts k d).path → part.count ≡ (get_or parts k d).count → Stands p lines (set parts k part) new
stands_flushed {p = p} {lines = lines} {parts = parts} k d part stands inside is none path count =
    let many = many_parts stands in
    let below : k < p.route.shards = omega (arith, inside, many) in
    let piece = (get_or parts k d).waiting in
    stands_at k d part (get_or stands.written k [] ++ piece) lines stands inside path (extends_files k d piece stands inside is) (λ j other. refl) (λ j other. refl)
    (ap (λ (l : List ℕ). (get_or stands.written k [] ++ piece) ++ l) none ∙ append-nil (get_or stands.written k [] ++ piece) ∙ ap (λ (l : List ℕ). get_or stands.written k [] ++ l) (sym (waiting_at parts k d inside)) ∙ stands.split.bytes k below)
    (count ∙ sym (count_at parts k d inside) ∙ stands.split.counts_are k below)

-- a line was added to what waits for its shard, which was appended before, or not
line_added : {p : Plan} {lines : List (List ℕ)} {parts : List Part} {old new : Option Files} (k : ℕ) (d part : Part) (line w : List ℕ) (stands : Stands p lines parts old) → k < length parts
    → shard_of p.route line ≡ k → part.path ≡ (get_or parts k d).path → part.count ≡ (get_or parts k d).count + 1 → Written p.dir p.base (set stands.written k w) new
    → w ++ part.waiting ≡ (get_or stands.written k [] ++ (get_or parts k d).waiting) ++ ended p.end line → Stands p (lines ++ line ∷ []) (set parts k part) new
line_added {p = p} {lines = lines} {parts = parts} k d part line w stands inside shard path count files bytes =
    let many = many_parts stands in
    let below : k < p.route.shards = omega (arith, inside, many) in
    let so_far : get_or stands.written k [] ++ (get_or parts k d).waiting ≡ share_bytes p.route p.end lines k = ap (λ (l : List ℕ). get_or stands.written k [] ++ l) (sym (waiting_at parts k d inside)) ∙ stands.split.bytes k below in
    let counted : (get_or parts k d).count ≡ share_count p.route lines k = sym (count_at parts k d inside) ∙ stands.split.counts_are k below in
    stands_at k d part w (lines ++ line ∷ []) stands inside path files
    (λ j other. share_elsewhere p.route p.end lines line j (λ is. other (sym is ∙ shard)))
    (λ j other. count_elsewhere p.route lines line j (λ is. other (sym is ∙ shard)))
    (bytes ∙ ap (λ (l : List ℕ). l ++ ended p.end line) so_far ∙ sym (share_here p.route p.end lines line k shard))
    (count ∙ ap (λ (n : ℕ). n + 1) counted ∙ sym (count_here p.route lines line k shard))

pub line_put : {p : Plan} {lines : List (List ℕ)} {parts : List Part} (old new : Option Files) (k : ℕ) (d part : Part) (line : List ℕ) (result : Result (Unit {0}) DiskFault) → Stands p lines parts old → k < length parts
    → shard_of p.route line ≡ k → Puts (get_or parts k d) part old new (ended p.end line) result → part.path ≡ (get_or parts k d).path → OnOk result (part.count ≡ (get_or parts k d).count + 1)
    → PutsLine p (lines ++ line ∷ []) (set parts k part) new result
line_put {p = p} {parts = parts} old new k d part line (Ok _) stands inside shard (inl puts) path count =
    let here = get_or stands.written k [] in
    let held = (get_or parts k d).waiting in
    let files : new ≡ option_map (placed p.dir (set stands.written k here) []) p.base = puts.1 ∙ stands.files_are ∙ ap (λ (l : List (List ℕ)). option_map (placed p.dir l []) p.base) (sym (set-get_or stands.written k [])) in
    line_added k d part line here stands inside shard path count files (ap (λ (l : List ℕ). here ++ l) puts.0 ∙ sym (append_assoc here held (ended p.end line)))
line_put {p = p} {parts = parts} old new k d part line (Ok _) stands inside shard (inr puts) path count =
    let here = get_or stands.written k [] in
    let held = (get_or parts k d).waiting in
    line_added k d part line (here ++ held) stands inside shard path count (extends_files k d held stands inside puts.1) (ap (λ (l : List ℕ). (here ++ held) ++ l) puts.0)
line_put old new k d part line (Err disk_fault.Failed) stands inside shard puts path count = prefixes_more (line ∷ []) (prefixes_after k d puts.0 stands inside puts.1)
line_put {p = p} {lines = lines} old new k d part line (Err disk_fault.Memory) stands inside shard puts path count =
    prefixes_more (line ∷ []) (subst (HasPrefixes p lines) (sym puts) (prefixes_of stands))

-- one shard more that has no line
pushed_at : {X : Type 0} (f : Part → X) (parts : List Part) (part : Part) (d : X) (P : ℕ → X) → ((k : ℕ) → k < length parts → get_or (map f parts) k d ≡ P k) → f part ≡ P (length parts) → (k : ℕ) → k < length (parts ++ part ∷ []) → get_or (map f (parts ++ part ∷ [])) k d ≡ P k
pushed_at f parts part d P at is k inside =
    let long : length (map f parts) ≡ length parts = length-map parts f in
    let both : map f (parts ++ part ∷ []) ≡ map f parts ++ f part ∷ [] = map-append f parts (part ∷ []) in
    let more : length (parts ++ part ∷ []) ≡ length parts + 1 = length_push parts part in
    elim (cases_lt k (length parts)) [
      | inl below ↦ ap (λ l. get_or l k d) both ∙ get_or_append_left (map f parts) (f part ∷ []) d k (omega (arith, below, long)) ∙ at k below
      | inr past ↦ let last : length parts ≡ k = omega (arith, past, inside, more) in ap (λ l. get_or l k d) both ∙ get_or_push (map f parts) (f part) d k (omega (arith, long, last)) ∙ is ∙ ap P last
    ]

pub new_pushed : {dir : List ℕ} {n : ℕ} {parts : List Part} (part : Part) → AreNew dir n parts → part.path ≡ shard_path dir n → part.waiting ≡ [] → part.count ≡ 0 → AreNew dir (n + 1) (parts ++ part ∷ [])
new_pushed {dir = dir} {n = n} {parts = parts} part new path none count = record {
  many = omega (arith, new.many, length_push parts part);
  paths = pushed_at (λ part. part.path) parts part [] (shard_path dir) new.paths (path ∙ ap (shard_path dir) (sym new.many));
  none = pushed_at (λ part. part.waiting) parts part [] (λ k. []) new.none none;
  counts = pushed_at (λ part. part.count) parts part 0 (λ k. 0) new.counts count;
}

-- all is appended: the files have the shares
pub all_flushed : {p : Plan} {lines : List (List ℕ)} {parts : List Part} {files : Option Files} → StandsTo p lines (length parts) parts files → Written p.dir p.base (shares p.route p.end lines) files
all_flushed {p = p} {lines = lines} {parts = parts} to =
    let stands = to.stands in
    let many = many_parts stands in
    let whole : stands.written ≡ shares p.route p.end lines = fill_by_all (share_bytes p.route p.end lines) stands.written p.route.shards [] stands.split.many_written (λ k below.
    sym (append-nil (get_or stands.written k [])) ∙ ap (λ (l : List ℕ). get_or stands.written k [] ++ l) (sym (to.none k (omega (arith, below, many)))) ∙ stands.split.bytes k below) in
    stands.files_are ∙ ap (λ (l : List (List ℕ)). option_map (placed p.dir l []) p.base) whole

-- nothing waits for one shard more
pub flushed_next : {p : Plan} {lines : List (List ℕ)} {parts : List Part} {old new : Option Files} (k : ℕ) (d part : Part) → StandsTo p lines k parts old → k < length parts
    → new ≡ extended (get_or parts k d).path (get_or parts k d).waiting old → part.waiting ≡ [] → part.path ≡ (get_or parts k d).path → part.count ≡ (get_or parts k d).count → StandsTo p lines (k + 1) (set parts k part) new
flushed_next {parts = parts} k d part to inside is none path count =
    let waits : waiting_of (set parts k part) ≡ set (waiting_of parts) k part.waiting = map-set (λ part. part.waiting) parts k part in
    record {
      stands = stands_flushed k d part to.stands inside is none path count;
      none = λ j below. ap (λ (l : List (List ℕ)). get_or l j []) waits ∙ (elim (cases_eq j k) [
        | inl same ↦ ap (λ (i : ℕ). get_or (set (waiting_of parts) k part.waiting) i []) same ∙ get_or-set_same (waiting_of parts) k part.waiting [] (omega (arith, inside, length-map parts (λ (part : Part). part.waiting))) ∙ none
        | inr other ↦ get_or-set_other (waiting_of parts) k j part.waiting [] other ∙ to.none j (omega (arith, below, other))
      ]);
    }

-- the counts are those before
pub counts_kept : (parts : List Part) (k : ℕ) (d part : Part) → k < length parts → part.count ≡ (get_or parts k d).count → counts_of (set parts k part) ≡ counts_of parts
counts_kept parts k d part inside count = map-set (λ part. part.count) parts k part ∙ ap (set (counts_of parts) k) (count ∙ sym (count_at parts k d inside)) ∙ set-get_or (counts_of parts) k 0

-- what waits for a shard could not be appended
pub prefixes_failed : {p : Plan} {lines : List (List ℕ)} {parts : List Part} (old new : Option Files) (k : ℕ) (d : Part) (fault : DiskFault) → Stands p lines parts old → k < length parts
    → Extends (get_or parts k d).path (get_or parts k d).waiting old new (Err fault) → HasPrefixes p lines new
prefixes_failed old new k d disk_fault.Failed stands inside extends = prefixes_after k d extends.0 stands inside extends.1
prefixes_failed {p = p} {lines = lines} old new k d disk_fault.Memory stands inside extends = subst (HasPrefixes p lines) (sym extends) (prefixes_of stands)
