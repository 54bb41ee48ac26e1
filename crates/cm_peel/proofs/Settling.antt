-- The edges of the places that wait for one block are taken; and what holds when none waits.
use Rattle.std.proofs.Common.{◌≡◌, ◌≢◌, ◌⊎◌, ℕ, suc, ◌+◌, ◌-◌, ◌*◌, ◌/◌, ◌%◌, ◌<◌, ◌≤◌, Bool, true, false, not, cond, eqb, ltb, ◌&&◌, ◌||◌, List, [], ◌∷◌, ◌++◌, length, get_or, set, take, drop, replicate, sym, refl, ap, ◌∙◌, subst, inl, inr, arith, length-append, get_or-set_other}
use Rattle.std.specs.List.{All, filter}
use Rattle.std.proofs.Math.ListN.{length-set}
use Rattle.std.proofs.lemmas.Bool.{both_ways, cases_Bool, cases_eq, cases_lt, eq-eqb, ne_eqb, lt-ltb, le-ltb, and_parts, and_from, and_left, and_right, or_cases, cond-false, false≢true}
use Rattle.std.proofs.lemmas.Grind.{same_number_lists}
use Rattle.std.proofs.lemmas.List.{get_or-set_same, get_or_past}
use Rattle.std.proofs.lemmas.List.Elements.{All-from_get_or, Contains-get_or}
use Rattle.std.proofs.lemmas.List.Sorted.{length_permutation}
use Rattle.cm_spec.specs.Lists.{has, numbers_from}
use Rattle.cm_peel.specs.AtRound.{AreTaken, is_listed, least, tag_of}
use Rattle.cm_peel.specs.CoreLaws.{filter_no_longer}
use Rattle.cm_peel.specs.Marks.{is_marked}
use Rattle.cm_peel.specs.Peeling.{is_taken}
use Rattle.cm_peel.specs.SetLaws.{Rises-filter, Rises-numbers, has-filter, has-from_Contains, has-numbers_high, length-numbers, AreApart, Rises-apart}
use Rattle.cm_peel.specs.Waiting.{AreMarked, AreWaiting, Leads, edge_blocks, edge_tags, freed_in, marked_of}
use Rattle.cm_peel.proofs.Leading.{cond_same, least_same, listed_at, listed_from, listed_same, taken_none}
use Rattle.cm_peel.proofs.Listing.{kept_moved}
use Rattle.cm_peel.proofs.Marked.{has_marked}
use Rattle.cm_peel.proofs.Marking.{unmarked}
use Rattle.cm_peel.proofs.Sets.{and_true, same_from}
use Rattle.cm_peel.proofs.Taking.{AreApart-append, has-append, least-le, least-low, least-unlisted, or_none}
use Rattle.cm_peel.proofs.Waits.{piece_set}
use Rattle.cm_spec.specs.declared.limits.TheConstants.{MAX_EDGES}

-- the places of a block as they are read
pub block_read : (blocks each : ℕ) (freed : List ℕ) (b : ℕ) → b < blocks → take (blocks + b * each + get_or freed b 0 - (blocks + b * each)) (drop (blocks + b * each) (set freed b 0)) ≡ freed_in blocks each freed b
block_read blocks each freed b low =
    let s : ℕ = blocks + b * each in
    let n : ℕ = get_or freed b 0 in
    let moved : s + n - s ≡ n = omega arith in
    ap (λ k. take k (drop s (set freed b 0))) moved ∙ piece_set freed b 0 s n (inl (omega arith))

pub block_inside : (many blocks each : ℕ) (freed waiting : List ℕ) (b : ℕ) → AreWaiting many blocks each freed waiting → b < blocks → All (λ q. q / 4 < many) (freed_in blocks each freed b)
block_inside many blocks each freed waiting b r low = All-from_get_or (λ q. q / 4 < many) (freed_in blocks each freed b) 0 (λ i h. (r.block b _ low (has-from_Contains (freed_in blocks each freed b) _ (Contains-get_or (freed_in blocks each freed b) i 0 h))).1)

-- no place waits for a block any more
waiting_left : (many blocks each : ℕ) (freed waiting : List ℕ) (b : ℕ) → AreWaiting many blocks each freed waiting → b < blocks → AreWaiting many blocks each (set freed b 0) (filter (λ q. not (eqb (q / 524288) b)) waiting)
waiting_left many blocks each freed waiting b r low = record {
  within = omega (arith, r.within, long);
  few = omega (arith, r.few, long);
  short = r.short;
  all = r.all;
  fits = λ k h. fits k h (cases_eq k b);
  block = λ k q h m. block k q h m (cases_eq k b);
  inside = λ q m. r.inside q (and_parts (has waiting q) _ (sym (has-filter other waiting q) ∙ m)).0;
  same = λ q h. same q h (cases_eq (q / 524288) b);
} where
  other : ℕ → Bool
  other q = not (eqb (q / 524288) b)

  long : length (set freed b 0) ≡ length freed
  long = length-set freed b 0

  inner : b < length freed
  inner = omega (arith, r.within, low)

  none : freed_in blocks each (set freed b 0) b ≡ []
  none = ap (λ k. take k (drop (blocks + b * each) (set freed b 0))) (get_or-set_same freed b 0 0 inner)

  there : (k : ℕ) → k ≢ b → freed_in blocks each (set freed b 0) k ≡ freed_in blocks each freed k
  there k differ = ap (λ n. take n (drop (blocks + k * each) (set freed b 0))) (get_or-set_other freed b k 0 0 differ) ∙ piece_set freed b 0 (blocks + k * each) (get_or freed k 0) (inl (omega arith))

  fits : (k : ℕ) → k < blocks → (k ≡ b) ⊎ (k ≡ b → ⊥) → get_or (set freed b 0) k 0 ≤ each
  fits k h (inl at) = omega (arith, ap (λ j. get_or (set freed b 0) j 0) at, get_or-set_same freed b 0 0 inner)
  fits k h (inr differ) = omega (arith, r.fits k h, get_or-set_other freed b k 0 0 differ)

  block : (k q : ℕ) → k < blocks → has (freed_in blocks each (set freed b 0) k) q ≡ true → (k ≡ b) ⊎ (k ≡ b → ⊥) → (q / 524288 ≡ k) × (q / 4 < many)
  block k q h m (inl at) = absurd (false≢true (ap (λ (xs : List ℕ). has xs q) (sym (ap (freed_in blocks each (set freed b 0)) at ∙ none)) ∙ m))
  block k q h m (inr differ) = r.block k q h (ap (λ (xs : List ℕ). has xs q) (sym (there k differ)) ∙ m)

  same : (q : ℕ) → q / 4 < many → (q / 524288 ≡ b) ⊎ (q / 524288 ≡ b → ⊥) → has (filter other waiting) q ≡ has (freed_in blocks each (set freed b 0) (q / 524288)) q
  same q h (inl at) = has-filter other waiting q ∙ (and_right (has waiting q) _ (ap not (eq-eqb _ _ at)) ∙ sym (ap (λ (xs : List ℕ). has xs q) (ap (freed_in blocks each (set freed b 0)) at ∙ none)))
  same q h (inr differ) = has-filter other waiting q ∙ (ap (λ c. has waiting q && not c) (ne_eqb _ _ differ) ∙ (and_true (has waiting q) ∙ (r.same q h ∙ ap (λ (xs : List ℕ). has xs q) (sym (there (q / 524288) differ)))))

-- the byte of an edge that is taken
pub no_more : (t : ℕ) (places bytes bytes' next next' : List ℕ) (e : ℕ) → AreTaken t places bytes bytes' next next' → e < length bytes → get_or bytes' e 0 ≤ get_or bytes e 0
no_more t places bytes bytes' next next' e r h = by (eqb (get_or bytes e 0 / 4) (t % 2)) (r.byte e h) where
  by : (c : Bool) → get_or bytes' e 0 ≡ cond c (get_or bytes e 0) (least (tag_of (suc t)) places e (get_or bytes e 0)) → get_or bytes' e 0 ≤ get_or bytes e 0
  by true w = omega (arith, w)
  by false w = omega (arith, w, least-le (tag_of (suc t)) places e (get_or bytes e 0))

-- an edge that isn't taken has a byte of 8 or more
untaken_high : (bytes : List ℕ) (e : ℕ) → not (is_taken bytes e) ≡ true → 8 ≤ get_or bytes e 0
untaken_high bytes e h = elim (cases_lt (get_or bytes e 0) 8) [
  | inl low ↦ absurd (false≢true (ap not (sym (lt-ltb _ 8 low)) ∙ h))
  | inr high ↦ high
]

-- what is newly marked is taken
fresh_taken : (t : ℕ) (places bytes bytes' fresh : List ℕ) (e : ℕ) → AreTaken t places bytes bytes' [] fresh → has fresh e ≡ true → e < length bytes → (8 ≤ get_or bytes e 0) × (is_taken bytes' e ≡ true)
fresh_taken t places bytes bytes' fresh e r m h =
    let both = and_parts (is_listed places e) _ (sym (ap (λ (xs : List ℕ). has xs e) r.next_is ∙ r.members e) ∙ m) in
    let high : 8 ≤ get_or bytes e 0 = untaken_high bytes e both.1 in
    let other : eqb (get_or bytes e 0 / 4) (t % 2) ≡ false = ne_eqb _ _ (λ s. absurd (omega (arith, s))) in
    let tag : tag_of (suc t) ≤ 4 = omega arith in
    (high, lt-ltb _ 8 (omega (arith, r.byte e h ∙ cond-false _ (get_or bytes e 0) (least (tag_of (suc t)) places e (get_or bytes e 0)) other, least-low (tag_of (suc t)) places e (get_or bytes e 0) tag both.0)))

AreApart-filter : (p : ℕ → Bool) (xs : List ℕ) → AreApart xs → AreApart (filter p xs)
AreApart-filter p [] a = tt
AreApart-filter p (x ∷ xs) a = go (p x) (AreApart-filter p xs a.1) where
  go : (c : Bool) → AreApart (filter p xs) → AreApart (cond c (x ∷ filter p xs) (filter p xs))
  go true ih = (has-filter p xs x ∙ ap (λ b. b && p x) a.0, ih)
  go false ih = ih

-- the edges of a block's places are taken and marked
pub leads_block : (t blocks each b count : ℕ) (marks marks' bytes bytes' freed after next : List ℕ) → b < blocks → length marks' ≡ length marks → AreMarked (edge_tags bytes marks) (edge_tags bytes' marks') t (freed_in blocks each freed b) count → Leads (edge_blocks t blocks each marks bytes freed) after next → Leads (edge_blocks t blocks each marks' bytes' (set freed b 0)) after next
leads_block t blocks each b count marks marks' bytes bytes' freed after next low long a r = record {
  all_marks = omega (arith, r.all_marks, long, a.taken.bytes_long);
  few_marks = omega (arith, r.few_marks, long);
  old = λ e m. old e (or_cases (is_marked marks e) (has a.fresh e) (sym (a.marked e) ∙ m));
  waiting = left;
  waits = subst (λ n. AreWaiting n blocks each (set freed b 0) left) (sym a.taken.bytes_long) (waiting_left (length bytes) blocks each freed r.waiting b r.waits low);
  fresh = fresh;
  taken = record {
    fresh = fresh;
    next_is = refl;
    apart = AreApart-filter (λ e. not (has a.fresh e)) r.fresh (subst AreApart (sym r.taken.next_is) r.taken.apart);
    members = λ e. has-filter (λ e. not (has a.fresh e)) r.fresh e ∙ members e (cases_eq (e / 131072) b);
    bytes_long = r.taken.bytes_long ∙ sym a.taken.bytes_long;
    byte = λ e h. byte e (omega (arith, h, a.taken.bytes_long)) (cases_eq (e / 131072) b);
  };
  members = λ e. r.members e ∙ (split (is_marked marks e) (has r.fresh e) (has a.fresh e) (within e) ∙ (ap (λ c. c || (has r.fresh e && not (has a.fresh e))) (sym (a.marked e)) ∙ ap (λ c. is_marked marks' e || c) (sym (has-filter (λ e. not (has a.fresh e)) r.fresh e))));
} where
  part : List ℕ
  part = freed_in blocks each freed b

  left : List ℕ
  left = filter (λ q. not (eqb (q / 524288) b)) r.waiting

  fresh : List ℕ
  fresh = filter (λ e. not (has a.fresh e)) r.fresh

  here : (q : ℕ) → q / 524288 ≡ b → has r.waiting q ≡ has part q
  here q at = same_from (λ m. sym (eq (r.waits.inside q m)) ∙ m) (λ n. eq (r.waits.block b q low n).1 ∙ n) where
    eq : q / 4 < length bytes → has r.waiting q ≡ has part q
    eq h = r.waits.same q h ∙ ap (λ k. has (freed_in blocks each freed k) q) at

  part_only : (q : ℕ) → q / 524288 ≢ b → has part q ≡ false
  part_only q differ = elim (cases_Bool (has part q)) [
    | inl m ↦ absurd (differ (r.waits.block b q low m).0)
    | inr n ↦ n
  ]

  left_none : (q : ℕ) → q / 524288 ≡ b → has left q ≡ false
  left_none q at = has-filter (λ q. not (eqb (q / 524288) b)) r.waiting q ∙ and_right (has r.waiting q) _ (ap not (eq-eqb _ _ at))

  left_same : (q : ℕ) → q / 524288 ≢ b → has left q ≡ has r.waiting q
  left_same q differ = has-filter (λ q. not (eqb (q / 524288) b)) r.waiting q ∙ (ap (λ c. has r.waiting q && not c) (ne_eqb _ _ differ) ∙ and_true (has r.waiting q))

  unlisted : (xs : List ℕ) (e : ℕ) → ((q : ℕ) → q / 4 ≡ e → has xs q ≡ false) → is_listed xs e ≡ false
  unlisted xs e none = listed_same xs [] e none

  in_waiting : (e : ℕ) → has r.fresh e ≡ (is_listed r.waiting e && not (is_taken bytes e))
  in_waiting e = ap (λ (xs : List ℕ). has xs e) r.taken.next_is ∙ r.taken.members e

  in_part : (e : ℕ) → has a.fresh e ≡ (is_listed part e && not (is_taken bytes e))
  in_part e = ap (λ (xs : List ℕ). has xs e) a.taken.next_is ∙ a.taken.members e

  below : (e : ℕ) → has a.fresh e ≡ true → e < length bytes
  below e m =
      let f = listed_at part e (and_parts (is_listed part e) _ (sym (in_part e) ∙ m)).0 in
      subst (λ x. x < length bytes) f.2 (r.waits.block b f.0 low f.1).1

  old : (e : ℕ) → (is_marked marks e ≡ true) ⊎ (has a.fresh e ≡ true) → is_taken bytes' e ≡ true
  old e (inl m) = elim (cases_lt e (length bytes)) [
    | inl h ↦ lt-ltb _ 8 (omega (arith, no_more t part bytes bytes' [] a.fresh e a.taken h, ltb_low (get_or bytes e 0) (r.old e m)))
    | inr past ↦ lt-ltb _ 8 (omega (arith, get_or_past bytes' e 0 (omega (arith, past, a.taken.bytes_long))))
  ] where
    ltb_low : (x : ℕ) → ltb x 8 ≡ true → x < 8
    ltb_low x m = elim (cases_lt x 8) [
      | inl less ↦ less
      | inr more ↦ absurd (both_ways _ (le-ltb x 8 more) m)
    ]
  old e (inr m) = (fresh_taken t part bytes bytes' a.fresh e a.taken m (below e m)).1

  within : (e : ℕ) → has a.fresh e ≡ true → has r.fresh e ≡ true
  within e m =
      let both = and_parts (is_listed part e) _ (sym (in_part e) ∙ m) in
      let f = listed_at part e both.0 in
      in_waiting e ∙ and_from _ _ (listed_from r.waiting f.0 e (here f.0 (r.waits.block b f.0 low f.1).0 ∙ f.1) f.2) both.1

  split : (m f g : Bool) → (g ≡ true → f ≡ true) → (m || f) ≡ ((m || g) || (f && not g))
  split true f g h = refl
  split false true true h = refl
  split false true false h = refl
  split false false true h = absurd (false≢true (h refl))
  split false false false h = refl

  -- a place of the edge lies in the block, or not
  block_of : (e q : ℕ) → q / 4 ≡ e → q / 524288 ≡ e / 131072
  block_of e q at = omega (arith, at)

  byte_other : (e : ℕ) → (e / 131072 ≡ b → ⊥) → get_or bytes' e 0 ≡ get_or bytes e 0
  byte_other e differ = elim (cases_lt e (length bytes)) [
    | inl h ↦ a.taken.byte e h ∙ (ap (λ n. cond (eqb (get_or bytes e 0 / 4) (t % 2)) (get_or bytes e 0) n) (least-unlisted (tag_of (suc t)) part e (get_or bytes e 0) (unlisted part e (λ q at. part_only q (λ s. differ (sym (block_of e q at) ∙ s))))) ∙ cond_same (eqb (get_or bytes e 0 / 4) (t % 2)) (get_or bytes e 0))
    | inr past ↦ get_or_past bytes' e 0 (omega (arith, past, a.taken.bytes_long)) ∙ sym (get_or_past bytes e 0 past)
  ]

  members : (e : ℕ) → (e / 131072 ≡ b) ⊎ (e / 131072 ≡ b → ⊥) → (has r.fresh e && not (has a.fresh e)) ≡ (is_listed left e && not (is_taken bytes' e))
  members e (inl at) =
      let same : is_listed r.waiting e ≡ is_listed part e = listed_same r.waiting part e (λ q f. here q (block_of e q f ∙ at)) in
      let both : has r.fresh e ≡ has a.fresh e = in_waiting e ∙ (ap (λ c. c && not (is_taken bytes e)) same ∙ sym (in_part e)) in
      ap (λ c. c && not (has a.fresh e)) both ∙ (never (has a.fresh e) ∙ sym (and_left _ (not (is_taken bytes' e)) (unlisted left e (λ q f. left_none q (block_of e q f ∙ at))))) where
        never : (c : Bool) → (c && not c) ≡ false
        never true = refl
        never false = refl
  members e (inr differ) =
      let apart : has a.fresh e ≡ false = in_part e ∙ and_left _ (not (is_taken bytes e)) (unlisted part e (λ q f. part_only q (λ s. differ (sym (block_of e q f) ∙ s)))) in
      let same : is_listed r.waiting e ≡ is_listed left e = listed_same r.waiting left e (λ q f. sym (left_same q (λ s. differ (sym (block_of e q f) ∙ s)))) in
      ap (λ c. has r.fresh e && not c) apart ∙ (and_true (has r.fresh e) ∙ (in_waiting e ∙ (ap (λ c. c && not (is_taken bytes e)) same ∙ ap (λ n. is_listed left e && not (ltb n 8)) (sym (byte_other e differ)))))

  byte : (e : ℕ) → e < length bytes → (e / 131072 ≡ b) ⊎ (e / 131072 ≡ b → ⊥) → get_or after e 0 ≡ cond (eqb (get_or bytes' e 0 / 4) (t % 2)) (get_or bytes' e 0) (least (tag_of (suc t)) left e (get_or bytes' e 0))
  byte e h (inl at) =
      let x : ℕ = get_or bytes' e 0 in
      let same : get_or after e 0 ≡ get_or bytes' e 0 = r.taken.byte e h ∙ (ap (λ n. cond (eqb (get_or bytes e 0 / 4) (t % 2)) (get_or bytes e 0) n) (least_same (tag_of (suc t)) r.waiting part e (get_or bytes e 0) (λ q f. here q (block_of e q f ∙ at))) ∙ sym (a.taken.byte e h)) in
      same ∙ sym (ap (λ n. cond (eqb (get_or bytes' e 0 / 4) (t % 2)) (get_or bytes' e 0) n) (least-unlisted (tag_of (suc t)) left e x (unlisted left e (λ q f. left_none q (block_of e q f ∙ at)))) ∙ cond_same (eqb (get_or bytes' e 0 / 4) (t % 2)) x)
  byte e h (inr differ) = subst (λ x. get_or after e 0 ≡ cond (eqb (x / 4) (t % 2)) x (least (tag_of (suc t)) left e x)) (sym (byte_other e differ)) (r.taken.byte e h
      ∙ ap (λ n. cond (eqb (get_or bytes e 0 / 4) (t % 2)) (get_or bytes e 0) n) (least_same (tag_of (suc t)) r.waiting left e (get_or bytes e 0) (λ q f. sym (left_same q (λ s. differ (sym (block_of e q f) ∙ s))))))

-- how many are marked then
pub marked_few : (marks : List ℕ) → length (marked_of marks) ≤ 64 * length marks
marked_few marks = omega (arith, filter_no_longer (is_marked marks) (numbers_from 0 (64 * length marks)), length-numbers 0 (64 * length marks))

pub marked_count : (t blocks each b count : ℕ) (marks marks' bytes bytes' freed after next : List ℕ) → b < blocks → length marks' ≡ length marks → AreMarked (edge_tags bytes marks) (edge_tags bytes' marks') t (freed_in blocks each freed b) count → Leads (edge_blocks t blocks each marks bytes freed) after next → length (marked_of marks') ≡ length (marked_of marks) + count
marked_count t blocks each b count marks marks' bytes bytes' freed after next low long a r =
    let moved = kept_moved (is_marked marks') all (64 * length marks') apart same (λ e m. inside e (or_cases (has (marked_of marks) e) (has a.fresh e) (sym (has-append (marked_of marks) a.fresh e) ∙ m))) in
    omega (arith, length_permutation _ _ moved, length-append (marked_of marks) a.fresh, a.many) where
      all : List ℕ
      all = marked_of marks ++ a.fresh

      below : (e : ℕ) → has a.fresh e ≡ true → e < length bytes
      below e m =
          let f = listed_at (freed_in blocks each freed b) e (and_parts (is_listed (freed_in blocks each freed b) e) _ (sym (ap (λ (xs : List ℕ). has xs e) a.taken.next_is ∙ a.taken.members e) ∙ m)).0 in
          subst (λ x. x < length bytes) f.2 (r.waits.block b f.0 low f.1).1

      apart : AreApart (marked_of marks ++ a.fresh)
      apart = AreApart-append (marked_of marks) a.fresh (Rises-apart 0 (marked_of marks) (Rises-filter (is_marked marks) 0 _ (Rises-numbers 0 (64 * length marks)))) (subst AreApart (sym a.taken.next_is) a.taken.apart) (λ e m. elim (cases_Bool (has a.fresh e)) [
        | inr n ↦ n
        | inl n ↦
            let high : 8 ≤ get_or bytes e 0 = (fresh_taken t (freed_in blocks each freed b) bytes bytes' a.fresh e a.taken n (below e n)).0 in
            absurd (both_ways _ (le-ltb _ 8 high) (r.old e (sym (has_marked marks e) ∙ m)))
      ])

      same : (e : ℕ) → is_marked marks' e ≡ has (marked_of marks ++ a.fresh) e
      same e = a.marked e ∙ (ap (λ c. c || has a.fresh e) (sym (has_marked marks e)) ∙ sym (has-append (marked_of marks) a.fresh e))

      inside : (e : ℕ) → (has (marked_of marks) e ≡ true) ⊎ (has a.fresh e ≡ true) → e < 64 * length marks'
      inside e (inl m) = omega (arith, has-numbers_high 0 (64 * length marks) e (and_parts (has (numbers_from 0 (64 * length marks)) e) _ (sym (has-filter (is_marked marks) (numbers_from 0 (64 * length marks)) e) ∙ m)).0, long)
      inside e (inr m) = omega (arith, below e m, r.all_marks, long)

-- before a place waits, and once none waits
pub leads_begun : (t blocks each : ℕ) (marks bytes freed : List ℕ) → blocks + blocks * each ≤ length freed → length freed ≤ 67109056 → each ≤ 16384 → length bytes ≤ 131072 * blocks → length bytes ≤ 64 * length marks → 64 * length marks ≤ MAX_EDGES → marks ≡ replicate (length marks) 0 → ((b : ℕ) → b < blocks → get_or freed b 0 ≡ 0) → Leads (edge_blocks t blocks each marks bytes freed) bytes []
leads_begun t blocks each marks bytes freed within few short all room fits clear empty = record {
  all_marks = room;
  few_marks = fits;
  old = λ e m. absurd (both_ways _ (unmarked marks e clear) m);
  waiting = [];
  waits = record {
    within = within;
    few = few;
    short = short;
    all = all;
    fits = λ b low. omega (arith, empty b low);
    block = λ b q low m. absurd (false≢true (ap (λ (xs : List ℕ). has xs q) (sym (none b low)) ∙ m));
    inside = λ q m. absurd (false≢true m);
    same = λ q h. ap (λ (xs : List ℕ). has xs q) (sym (none (q / 524288) (omega (arith, all))));
  };
  fresh = [];
  taken = taken_none t bytes [];
  members = λ e. sym (ap (λ c. c || false) (unmarked marks e clear));
} where
  none : (b : ℕ) → b < blocks → freed_in blocks each freed b ≡ []
  none b low = ap (λ n. take n (drop (blocks + b * each) freed)) (empty b low)

pub leads_ended : (t blocks each : ℕ) (marks bytes freed after next : List ℕ) → Leads (edge_blocks t blocks each marks bytes freed) after next → ((b : ℕ) → b < blocks → get_or freed b 0 ≡ 0) → (after ≡ bytes) × ((e : ℕ) → has (marked_of marks) e ≡ has next e)
leads_ended t blocks each marks bytes freed after next r empty = (same_number_lists after bytes r.taken.bytes_long (λ e h. r.taken.byte e (omega (arith, h, r.taken.bytes_long)) ∙ (ap (λ n. cond (eqb (get_or bytes e 0 / 4) (t % 2)) (get_or bytes e 0) n) (least-unlisted (tag_of (suc t)) r.waiting e (get_or bytes e 0) (unlisted e)) ∙ cond_same (eqb (get_or bytes e 0 / 4) (t % 2)) (get_or bytes e 0))), λ e. has_marked marks e ∙ sym (r.members e ∙ (ap (λ c. is_marked marks e || c) (ap (λ (xs : List ℕ). has xs e) r.taken.next_is ∙ (r.taken.members e ∙ and_left _ (not (is_taken bytes e)) (unlisted e))) ∙ or_none (is_marked marks e)))) where
  none : (q : ℕ) → has r.waiting q ≡ false
  none q = elim (cases_Bool (has r.waiting q)) [
    | inr n ↦ n
    | inl m ↦
        let h : q / 4 < length bytes = r.waits.inside q m in
        let zero : freed_in blocks each freed (q / 524288) ≡ [] = ap (λ n. take n (drop (blocks + q / 524288 * each) freed)) (empty (q / 524288) (omega (arith, h, r.waits.all))) in
        absurd (false≢true (ap (λ (xs : List ℕ). has xs q) (sym zero) ∙ (sym (r.waits.same q h) ∙ m)))
  ]

  unlisted : (e : ℕ) → is_listed r.waiting e ≡ false
  unlisted e = listed_same r.waiting [] e (λ q at. none q)
