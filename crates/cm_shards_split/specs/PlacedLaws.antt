-- Lemmas about the files of a split.
use Rattle.std.proofs.Common.{◌≡◌, ◌≢◌, ◌∙◌, ℕ, zero, suc, ◌+◌, ◌<◌, ◌≤◌, List, [], ◌∷◌, ◌++◌, length, get_or, set, Bool, true, false, cond, Option, Some, refl, ap, sym, arith}
use Rattle.std.specs.Cmp.Lexicographic.{slice_cmp, nat_list_cmp_total}
use Rattle.std.specs.FinMap as map
use Rattle.std.specs.Ordering.{eq_by_cmp, nat_cmp}
use Rattle.std.proofs.lemmas.Map.Views.{tells_apart}
use Rattle.cm_io.specs.Files.{Files, file_at}
use Rattle.cm_io_append.specs.ExtendingLaws.{get_other, get_same}
use Rattle.cm_io.specs.FilesLaws.{insert_twice, same_path}
use Rattle.cm_shards_split.specs.Names.{counts_path, shard_path}
use Rattle.cm_shards_split.specs.NamesLaws.{no_shard, same_shard}
use Rattle.cm_shards_split.specs.Placed.{placed, put_shares}

-- whether two paths are one
abbrev pub is_path : List ℕ → List ℕ → Bool
is_path p q = eq_by_cmp (slice_cmp nat_cmp) p q

-- two writes to different paths, in the other order
twice_other : (b c : Bool) (x y z : Option (List ℕ)) → (b ≡ true → c ≡ true → ⊥) → cond b x (cond c y z) ≡ cond c y (cond b x z)
twice_other true true x y z other = absurd (other refl refl)
twice_other true false x y z other = refl
twice_other false c x y z other = refl

pub insert_other : (files : Files) (p q first second : List ℕ) → q ≢ p → map.insert (map.insert files p first) q second ≡ map.insert (map.insert files q second) p first
insert_other files p q first second other = map.same_map nat_list_cmp_total same_path _ _ (λ r.
    map.get-insert nat_list_cmp_total (map.insert files p first) q second r
    ∙ ap (cond (is_path r q) (Some second)) (map.get-insert nat_list_cmp_total files p first r)
    ∙ twice_other (is_path r q) (is_path r p) (Some second) (Some first) (map.get files r) (λ is_q is_p. other (sym (tells_apart same_path r q is_q) ∙ tells_apart same_path r p is_p))
    ∙ sym (ap (cond (is_path r p) (Some first)) (map.get-insert nat_list_cmp_total files q second r))
    ∙ sym (map.get-insert nat_list_cmp_total (map.insert files q second) p first r))

-- a further shard
put_next : (dir : List ℕ) (k : ℕ) (parts : List (List ℕ)) (bytes : List ℕ) (files : Files) → k + length parts < 10000 → map.insert (put_shares dir k parts files) (shard_path dir (k + length parts)) bytes ≡ put_shares dir k (parts ++ bytes ∷ []) files
put_next dir k [] bytes files few = ap (λ (n : ℕ). map.insert files (shard_path dir n) bytes) (omega arith)
put_next dir k (part ∷ parts) bytes files few =
    insert_other (put_shares dir (k + 1) parts files) (shard_path dir k) (shard_path dir (k + length (part ∷ parts))) part bytes (λ same. absurd (omega (arith, same_shard dir (k + length (part ∷ parts)) k few (omega (arith, few)) same)))
    ∙ ap (λ (m : Files). map.insert m (shard_path dir k) part) (ap (λ (n : ℕ). map.insert (put_shares dir (k + 1) parts files) (shard_path dir n) bytes) (omega arith) ∙ put_next dir (k + 1) parts bytes files (omega (arith, few)))

-- other bytes of a shard
put_set : (dir : List ℕ) (k i : ℕ) (parts : List (List ℕ)) (bytes : List ℕ) (files : Files) → i < length parts → k + length parts ≤ 10000 → map.insert (put_shares dir k parts files) (shard_path dir (k + i)) bytes ≡ put_shares dir k (set parts i bytes) files
put_set dir k i [] bytes files inside few = absurd (omega (arith, inside))
put_set dir k zero (part ∷ parts) bytes files inside few =
    ap (λ (n : ℕ). map.insert (put_shares dir k (part ∷ parts) files) (shard_path dir n) bytes) (omega arith) ∙ insert_twice (put_shares dir (k + 1) parts files) (shard_path dir k) part bytes
put_set dir k (suc i) (part ∷ parts) bytes files inside few =
    insert_other (put_shares dir (k + 1) parts files) (shard_path dir k) (shard_path dir (k + suc i)) part bytes (λ same. absurd (omega (arith, same_shard dir (k + suc i) k (omega (arith, inside, few)) (omega (arith, inside, few)) same)))
    ∙ ap (λ (m : Files). map.insert m (shard_path dir k) part) (ap (λ (n : ℕ). map.insert (put_shares dir (k + 1) parts files) (shard_path dir n) bytes) (omega arith) ∙ put_set dir (k + 1) i parts bytes files (omega (arith, inside)) (omega (arith, few)))

-- the bytes of a shard
put_at : (dir : List ℕ) (k i : ℕ) (parts : List (List ℕ)) (files : Files) → i < length parts → k + length parts ≤ 10000 → file_at (put_shares dir k parts files) (shard_path dir (k + i)) ≡ Some (get_or parts i [])
put_at dir k i [] files inside few = absurd (omega (arith, inside))
put_at dir k zero (part ∷ parts) files inside few =
    ap (λ (n : ℕ). file_at (put_shares dir k (part ∷ parts) files) (shard_path dir n)) (omega arith) ∙ get_same (put_shares dir (k + 1) parts files) (shard_path dir k) part
put_at dir k (suc i) (part ∷ parts) files inside few =
    get_other (put_shares dir (k + 1) parts files) (shard_path dir k) part (shard_path dir (k + suc i)) (λ same. absurd (omega (arith, same_shard dir (k + suc i) k (omega (arith, inside, few)) (omega (arith, inside, few)) same)))
    ∙ ap (λ (n : ℕ). file_at (put_shares dir (k + 1) parts files) (shard_path dir n)) (omega arith)
    ∙ put_at dir (k + 1) i parts files (omega (arith, inside)) (omega (arith, few))

put_kept : (dir : List ℕ) (k : ℕ) (parts : List (List ℕ)) (files : Files) (q : List ℕ) → ((i : ℕ) → i < k + length parts → q ≢ shard_path dir i) → file_at (put_shares dir k parts files) q ≡ file_at files q
put_kept dir k [] files q other = refl
put_kept dir k (part ∷ parts) files q other = get_other (put_shares dir (k + 1) parts files) (shard_path dir k) part q (other k (omega arith)) ∙ put_kept dir (k + 1) parts files q (λ i below. other i (omega (arith, below)))

-- The first file that is made is that of the counts.
pub placed_none : (dir text : List ℕ) (files : Files) → map.insert files (counts_path dir) text ≡ placed dir [] text files
unfolding placed
placed_none dir text files = refl

-- another text of the counts
pub placed_text : (dir : List ℕ) (parts : List (List ℕ)) (first second : List ℕ) (files : Files) → map.insert (placed dir parts first files) (counts_path dir) second ≡ placed dir parts second files
unfolding placed
placed_text dir parts first second files = insert_twice (put_shares dir 0 parts files) (counts_path dir) first second

-- a further shard, and other bytes of one
pub placed_next : (dir : List ℕ) (parts : List (List ℕ)) (text bytes : List ℕ) (files : Files) → length parts < 10000 → map.insert (placed dir parts text files) (shard_path dir (length parts)) bytes ≡ placed dir (parts ++ bytes ∷ []) text files
unfolding placed
placed_next dir parts text bytes files few =
    insert_other (put_shares dir 0 parts files) (counts_path dir) (shard_path dir (length parts)) text bytes (λ same. no_shard dir (length parts) (sym same))
    ∙ ap (λ (m : Files). map.insert m (counts_path dir) text) (ap (λ (n : ℕ). map.insert (put_shares dir 0 parts files) (shard_path dir n) bytes) (omega arith) ∙ put_next dir 0 parts bytes files (omega (arith, few)))

pub placed_set : (dir : List ℕ) (i : ℕ) (parts : List (List ℕ)) (text bytes : List ℕ) (files : Files) → i < length parts → length parts ≤ 10000 → map.insert (placed dir parts text files) (shard_path dir i) bytes ≡ placed dir (set parts i bytes) text files
unfolding placed
placed_set dir i parts text bytes files inside few =
    insert_other (put_shares dir 0 parts files) (counts_path dir) (shard_path dir i) text bytes (λ same. no_shard dir i (sym same))
    ∙ ap (λ (m : Files). map.insert m (counts_path dir) text) (ap (λ (n : ℕ). map.insert (put_shares dir 0 parts files) (shard_path dir n) bytes) (omega arith) ∙ put_set dir 0 i parts bytes files inside (omega (arith, few)))

-- the files at the paths of the shards, at that of the counts, and at others
pub placed_at : (dir : List ℕ) (i : ℕ) (parts : List (List ℕ)) (text : List ℕ) (files : Files) → i < length parts → length parts ≤ 10000 → file_at (placed dir parts text files) (shard_path dir i) ≡ Some (get_or parts i [])
unfolding placed
placed_at dir i parts text files inside few =
    get_other (put_shares dir 0 parts files) (counts_path dir) text (shard_path dir i) (λ same. no_shard dir i (sym same)) ∙ ap (λ (n : ℕ). file_at (put_shares dir 0 parts files) (shard_path dir n)) (omega arith) ∙ put_at dir 0 i parts files inside (omega (arith, few))

pub placed_counts : (dir : List ℕ) (parts : List (List ℕ)) (text : List ℕ) (files : Files) → file_at (placed dir parts text files) (counts_path dir) ≡ Some text
unfolding placed
placed_counts dir parts text files = get_same (put_shares dir 0 parts files) (counts_path dir) text

pub placed_kept : (dir : List ℕ) (parts : List (List ℕ)) (text : List ℕ) (files : Files) (q : List ℕ) → q ≢ counts_path dir → ((i : ℕ) → i < length parts → q ≢ shard_path dir i) → file_at (placed dir parts text files) q ≡ file_at files q
unfolding placed
placed_kept dir parts text files q counts other = get_other (put_shares dir 0 parts files) (counts_path dir) text q counts ∙ put_kept dir 0 parts files q (λ i below. other i (omega (arith, below)))
