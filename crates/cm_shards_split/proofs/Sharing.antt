-- The shares of one line more, and of the first of some lines.
use Rattle.std.proofs.Common.{◌≡◌, ◌≢◌, ◌∙◌, ℕ, ◌+◌, ◌<◌, ◌≤◌, min, List, [], ◌∷◌, ◌++◌, length, get_or, set, take, Bool, true, false, cond, refl, ap, sym, inl, inr, arith, append-nil, ne_eqb, eq-eqb, length-append}
use Rattle.std.specs.List.{flat_map}
use Rattle.std.specs.Prelude.{◌==◌}
use Rattle.std.proofs.Math.Seq.{take-append-add, take-append_seam}
use Rattle.std.proofs.lemmas.Bool.{cases_eq}
use Rattle.std.proofs.lemmas.Grind.{flat_map-append}
use Rattle.std.proofs.lemmas.List.{get_or-set_other, get_or-set_same, length-set, take-append-le, take_min}
use Rattle.std.proofs.lemmas.List.Elements.{filter-append}
use Rattle.std.proofs.lemmas.List.Sums.{count_by-le-length, length-filter}
use Rattle.cm_route.specs.Routes.{Route, shard_of}
use Rattle.cm_shards_split.specs.Parts.{AreSplit}
use Rattle.cm_shards_split.specs.Shares.{ended, share, share_bytes, share_count}

-- the share of lines and of further ones
pub share_append : (route : Route) (end : ℕ) (lines more : List (List ℕ)) (k : ℕ) → share_bytes route end (lines ++ more) k ≡ share_bytes route end lines k ++ share_bytes route end more k
unfolding share_bytes
share_append route end lines more k = ap (flat_map (ended end)) (filter-append (λ line. shard_of route line == k) lines more) ∙ flat_map-append (ended end) (share route k lines) (share route k more)

one_line : (end : ℕ) (line : List ℕ) (b : Bool) → flat_map (ended end) (cond b (line ∷ []) []) ≡ cond b (ended end line) []
one_line end line true = append-nil (ended end line)
one_line end line false = refl

share_one : (route : Route) (end : ℕ) (line : List ℕ) (k : ℕ) → share_bytes route end (line ∷ []) k ≡ cond (shard_of route line == k) (ended end line) []
unfolding share_bytes
share_one route end line k = one_line end line (shard_of route line == k)

-- of one line more, if it is of the shard, and if not
pub share_here : (route : Route) (end : ℕ) (lines : List (List ℕ)) (line : List ℕ) (k : ℕ) → shard_of route line ≡ k → share_bytes route end (lines ++ line ∷ []) k ≡ share_bytes route end lines k ++ ended end line
share_here route end lines line k is =
    share_append route end lines (line ∷ []) k
    ∙ ap (λ (l : List ℕ). share_bytes route end lines k ++ l) (share_one route end line k ∙ ap (λ (b : Bool). cond b (ended end line) []) (eq-eqb (shard_of route line) k is))

pub share_elsewhere : (route : Route) (end : ℕ) (lines : List (List ℕ)) (line : List ℕ) (k : ℕ) → shard_of route line ≢ k → share_bytes route end (lines ++ line ∷ []) k ≡ share_bytes route end lines k
share_elsewhere route end lines line k other =
    share_append route end lines (line ∷ []) k
    ∙ ap (λ (l : List ℕ). share_bytes route end lines k ++ l) (share_one route end line k ∙ ap (λ (b : Bool). cond b (ended end line) []) (ne_eqb (shard_of route line) k other))
    ∙ append-nil (share_bytes route end lines k)

count_one : (line : List ℕ) (b : Bool) → length (cond b (line ∷ []) []) ≡ cond b 1 0
count_one line true = refl
count_one line false = refl

-- the counts likewise
count_more : (route : Route) (lines : List (List ℕ)) (line : List ℕ) (k : ℕ) → share_count route (lines ++ line ∷ []) k ≡ share_count route lines k + cond (shard_of route line == k) 1 0
unfolding share_count
count_more route lines line k =
    ap length (filter-append (λ line. shard_of route line == k) lines (line ∷ []))
    ∙ length-append (share route k lines) (share route k (line ∷ []))
    ∙ ap (λ (n : ℕ). length (share route k lines) + n) (count_one line (shard_of route line == k))

pub count_here : (route : Route) (lines : List (List ℕ)) (line : List ℕ) (k : ℕ) → shard_of route line ≡ k → share_count route (lines ++ line ∷ []) k ≡ share_count route lines k + 1
count_here route lines line k is = count_more route lines line k ∙ ap (λ (b : Bool). share_count route lines k + cond b 1 0) (eq-eqb (shard_of route line) k is)

pub count_elsewhere : (route : Route) (lines : List (List ℕ)) (line : List ℕ) (k : ℕ) → shard_of route line ≢ k → share_count route (lines ++ line ∷ []) k ≡ share_count route lines k
count_elsewhere route lines line k other =
    let same : share_count route (lines ++ line ∷ []) k ≡ share_count route lines k + 0 = count_more route lines line k ∙ ap (λ (b : Bool). share_count route lines k + cond b 1 0) (ne_eqb (shard_of route line) k other) in
    omega (arith, same)

-- there are no more than lines
pub count_few : (route : Route) (lines : List (List ℕ)) (k : ℕ) → share_count route lines k ≤ length lines
unfolding share_count
count_few route lines k = omega (arith, length-filter (λ line. shard_of route line == k) lines, count_by-le-length (λ line. shard_of route line == k) lines)

-- the shares of no lines
pub share_none : (route : Route) (end k : ℕ) → share_bytes route end [] k ≡ []
unfolding share_bytes
share_none route end k = refl

pub count_none : (route : Route) (k : ℕ) → share_count route [] k ≡ 0
unfolding share_count
count_none route k = refl

-- A shard has other bytes written and waiting, and another count; all others are as they were.
pub split_at : {route : Route} {end : ℕ} {lines written waiting : List (List ℕ)} {counts : List ℕ} (k : ℕ) (then_lines : List (List ℕ)) (w v : List ℕ) (c : ℕ) → AreSplit route end lines written waiting counts → k < route.shards
    → ((j : ℕ) → j ≢ k → share_bytes route end then_lines j ≡ share_bytes route end lines j) → ((j : ℕ) → j ≢ k → share_count route then_lines j ≡ share_count route lines j)
    → w ++ v ≡ share_bytes route end then_lines k → c ≡ share_count route then_lines k → AreSplit route end then_lines (set written k w) (set waiting k v) (set counts k c)
split_at {route = route} {end = end} {lines = lines} {written = written} {waiting = waiting} {counts = counts} k then_lines w v c split below shares counted here count =
    let in_written : k < length written = omega (arith, below, split.many_written) in
    let in_waiting : k < length waiting = omega (arith, below, split.many_waiting) in
    let in_counts : k < length counts = omega (arith, below, split.many_counts) in
    record {
      many_written = length-set written k w ∙ split.many_written;
      many_waiting = length-set waiting k v ∙ split.many_waiting;
      many_counts = length-set counts k c ∙ split.many_counts;
      bytes = λ j inside. elim (cases_eq j k) [
        | inl same ↦ rw same (ap (λ (l : List ℕ). l ++ get_or (set waiting k v) k []) (get_or-set_same written k w [] in_written) ∙ ap (λ (l : List ℕ). w ++ l) (get_or-set_same waiting k v [] in_waiting) ∙ here)
        | inr other ↦ ap (λ (l : List ℕ). l ++ get_or (set waiting k v) j []) (get_or-set_other written k j w [] other) ∙ ap (λ (l : List ℕ). get_or written j [] ++ l) (get_or-set_other waiting k j v [] other) ∙ split.bytes j inside ∙ sym (shares j other)
      ];
      counts_are = λ j inside. elim (cases_eq j k) [
        | inl same ↦ rw same (get_or-set_same counts k c 0 in_counts ∙ count)
        | inr other ↦ get_or-set_other counts k j c 0 other ∙ split.counts_are j inside ∙ sym (counted j other)
      ];
    }

-- what is written of a share is a prefix of it, also with a prefix of what waits
pub prefix_of : (xs ys bytes : List ℕ) → xs ++ ys ≡ bytes → (n : ℕ) × (xs ≡ take n bytes)
prefix_of xs ys bytes is = (length xs, sym (take-append_seam xs ys) ∙ ap (take (length xs)) is)

pub prefix_with : (xs ys bytes : List ℕ) (n : ℕ) → xs ++ ys ≡ bytes → (m : ℕ) × (xs ++ take n ys ≡ take m bytes)
prefix_with xs ys bytes n is = (length xs + n, sym (take-append-add xs ys n) ∙ ap (take (length xs + n)) is)

-- a prefix of the first of two pieces is one of both
pub prefix_longer : (part xs ys : List ℕ) → ((n : ℕ) × (part ≡ take n xs)) → (m : ℕ) × (part ≡ take m (xs ++ ys))
prefix_longer part xs ys prefix =
    let m = min prefix.0 (length xs) in
    let inside : m ≤ length xs = omega arith in
    (m, prefix.1 ∙ sym (take_min prefix.0 xs) ∙ sym (take-append-le m xs ys inside))
