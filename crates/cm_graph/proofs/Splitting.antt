-- Half-edges that wait in buckets, and those that are in the slots of their edges.
use Rattle.std.proofs.Common.{◌≡◌, ◌≢◌, ◌⊎◌, ◌+◌, ◌-◌, ◌*◌, ◌/◌, ◌%◌, ◌<◌, ◌≤◌, ℕ, zero, suc, true, false, cond, eqb, List, [], ◌∷◌, ◌++◌, length, get_or, set, map, replicate, Option, Some, None, Vec, Global, sym, refl, ap, ◌∙◌, subst, inl, inr, arith, get_or-set_same, get_or-set_other}
use Rattle.std.specs.List.{All, AllPairs, position_or_len, sum_by}
use Rattle.std.specs.Option.{is_some}
use Rattle.std.proofs.lemmas.Bool.{cases_Bool, cases_eq, cases_lt, eq-eqb, ne_eqb}
use Rattle.std.proofs.lemmas.List.{ext_get_or, get_or_past, get_or_push, get_or_append_left, get_or-map, get_or-replicate, length-map, length-replicate, length_push, map-set}
use Rattle.std.proofs.lemmas.List.Elements.{All-push}
use Rattle.std.proofs.lemmas.List.Sums.{sum_by-append, sum_by-cons, sum_by-set}
use Rattle.std.proofs.lemmas.Option.{none-some}
use Rattle.cm_spec.specs.Graph.{AreEdges, ends_at}
use Rattle.cm_graph_edges.specs.Graph.{Links, all_linked, halves_of, lies_in, slot_touches}
use Rattle.cm_graph.specs.Next.{AreNext, halves_at, half_at, with_half}
use Rattle.cm_graph.specs.Waiting.{AreFirst, AreSplit, Buckets, IsEnd, IsMore, IsSame, count_waiting, times_in, times_of, times_there, times_waiting, waiting_in}
use Rattle.cm_graph_edges.specs.declared.incidence.Half.{Half}
use Rattle.cm_graph.proofs.Linking.{links_eq}
use Rattle.cm_graph.proofs.Positions.{bare_half, in_less, long, other_edges, place_edge, place_is, place_position, touched_at}

-- a slot with a half-edge
with_here : (slot : List (Option ℕ)) (j v : ℕ) → get_or (with_half slot j v) j None ≡ Some v
with_here [] zero v = refl
with_here [] (suc j) v = with_here [] j v
with_here (x ∷ xs) zero v = refl
with_here (x ∷ xs) (suc j) v = with_here xs j v

with_other : (slot : List (Option ℕ)) (j v i : ℕ) → i ≢ j → get_or slot i None ≡ get_or (with_half slot j v) i None
with_other [] zero v zero ne = absurd (ne refl)
with_other [] zero v (suc i) ne = refl
with_other [] (suc j) v zero ne = refl
with_other [] (suc j) v (suc i) ne = with_other [] j v i (λ e. ne (ap suc e))
with_other (x ∷ xs) zero v zero ne = absurd (ne refl)
with_other (x ∷ xs) zero v (suc i) ne = refl
with_other (x ∷ xs) (suc j) v zero ne = refl
with_other (x ∷ xs) (suc j) v (suc i) ne = with_other xs j v i (λ e. ne (ap suc e))

with_length : (slot : List (Option ℕ)) (j v k : ℕ) → j < k → length slot ≤ k → length (with_half slot j v) ≤ k
with_length [] zero v k h l = omega (arith, h)
with_length [] (suc j) v k h l = omega (arith, h, with_length [] j v (k - 1) (omega (arith, h)) (omega arith))
with_length (x ∷ xs) zero v k h l = l
with_length (x ∷ xs) (suc j) v k h l = omega (arith, h, l, with_length xs j v (k - 1) (omega (arith, h)) (omega (arith, l)))

-- slots with one half-edge more
abbrev pub with_in : List (List (Option ℕ)) → Half → List (List (Option ℕ))
with_in less h = set less (h.place / 4) (with_half (halves_at less (h.place / 4)) (h.place % 4) h.vertex)

with_in_at : (less : List (List (Option ℕ))) (h : Half) → h.place / 4 < length less → halves_at (with_in less h) (h.place / 4) ≡ with_half (halves_at less (h.place / 4)) (h.place % 4) h.vertex
with_in_at less h within = get_or-set_same less (h.place / 4) (with_half (halves_at less (h.place / 4)) (h.place % 4) h.vertex) [] within

put_next : (less : List (List (Option ℕ))) (h : Half) → h.place / 4 < length less → half_at less (h.place / 4) (h.place % 4) ≡ None → AreNext less (with_in less h) h
put_next less h within none = record {
  within = within;
  is = ap (set less (h.place / 4)) (sym (with_in_at less h within));
  none = none;
  some = ap (λ slot. get_or slot (h.place % 4) None) (with_in_at less h within) ∙ with_here (halves_at less (h.place / 4)) (h.place % 4) h.vertex;
  others = λ i ne. with_other (halves_at less (h.place / 4)) (h.place % 4) h.vertex i ne ∙ ap (λ slot. get_or slot i None) (sym (with_in_at less h within));
}

-- how often places are there
abbrev one_if : Option ℕ → ℕ
one_if x = cond {A = ℕ} (is_some x) 1 0

there_more : {less more : List (List (Option ℕ))} {h : Half} → AreNext less more h → (q : ℕ) → times_there q more ≡ times_there q less + cond {A = ℕ} (eqb h.place q) 1 0
there_more {less} {more} {h} n q = go (cases_eq h.place q) where
  beside : h.place ≢ q → (q / 4 ≡ h.place / 4) ⊎ (q / 4 ≢ h.place / 4) → half_at more (q / 4) (q % 4) ≡ half_at less (q / 4) (q % 4)
  beside ne (inr other) = ap (λ slot. get_or slot (q % 4) None) (other_edges n (q / 4) other)
  beside ne (inl same) =
      let position : q % 4 ≢ h.place % 4 = (λ is. ne (omega (arith, same, is, place_is h.place, place_is q))) in
      ap (λ e. half_at more e (q % 4)) same ∙ (sym (n.others (q % 4) position) ∙ ap (λ e. half_at less e (q % 4)) (sym same))

  go : (h.place ≡ q) ⊎ (h.place ≢ q) → times_there q more ≡ times_there q less + cond {A = ℕ} (eqb h.place q) 1 0
  go (inl same) =
      let now : one_if (half_at more (q / 4) (q % 4)) ≡ 1 = ap one_if (ap (λ p. half_at more (p / 4) (p % 4)) (sym same) ∙ n.some) in
      let was : one_if (half_at less (q / 4) (q % 4)) ≡ 0 = ap one_if (ap (λ p. half_at less (p / 4) (p % 4)) (sym same) ∙ n.none) in
      let one : cond {A = ℕ} (eqb h.place q) 1 0 ≡ 1 = ap (λ x. cond {A = ℕ} x 1 0) (eq-eqb h.place q same) in
      omega (arith, now, was, one)
  go (inr other) =
      let now : one_if (half_at more (q / 4) (q % 4)) ≡ one_if (half_at less (q / 4) (q % 4)) = ap one_if (beside other (cases_eq (q / 4) (h.place / 4))) in
      let none : cond {A = ℕ} (eqb h.place q) 1 0 ≡ 0 = ap (λ x. cond {A = ℕ} x 1 0) (ne_eqb h.place q other) in
      omega (arith, now, none)

none_of : (x : Option ℕ) → one_if x ≡ 0 → x ≡ None
none_of None e = refl
none_of (Some v) e = let z : ⊥ = omega (arith, e) in absurd z

some_of : (x : Option ℕ) (y : ℕ) → one_if x ≡ 1 → ((v : ℕ) → x ≡ Some v → v ≡ y) → x ≡ Some y
some_of None y e is = let z : ⊥ = omega (arith, e) in absurd z
some_of (Some v) y e is = ap Some (is v refl)

zero_of : (x : Option ℕ) → ((v : ℕ) → x ≡ Some v → ⊥) → one_if x ≡ 0
zero_of None never = refl
zero_of (Some v) never = absurd (never v refl)

-- how often places wait
abbrev items : Vec Half Global → List Half
items v = v.items

times_push : (q : ℕ) (xs : List Half) (h : Half) → times_in q (xs ++ h ∷ []) ≡ times_in q xs + cond {A = ℕ} (eqb h.place q) 1 0
times_push q xs h =
    let one : Half → ℕ = (λ x. cond {A = ℕ} (eqb x.place q) 1 0) in
    omega (arith, sum_by-append (λ (x : Half). cond {A = ℕ} (eqb x.place q) 1 0) xs (h ∷ []), sum_by-cons (λ (x : Half). cond {A = ℕ} (eqb x.place q) 1 0) h [])

none_in : (q : ℕ) (lists : List (List Half)) → ((i : ℕ) → get_or lists i [] ≡ []) → sum_by (times_in q) lists ≡ 0
none_in q [] none = refl
none_in q (x ∷ xs) none =
    let here : times_in q x ≡ 0 = ap (times_in q) (none 0) in
    omega (arith, sum_by-cons (times_in q) x xs, here, none_in q xs (λ i. none (suc i)))

-- one bucket in the place of another
module _ (buckets : Buckets) (b : ℕ) (v : Vec Half Global) (within : b < length buckets) where
  inside : b < length (map items buckets)
  inside = omega (arith, within, length-map buckets items)

  pub waiting_here : waiting_in (set buckets b v) b ≡ v.items
  waiting_here = ap (λ (xs : List (List Half)). get_or xs b []) (map-set items buckets b v) ∙ get_or-set_same (map items buckets) b v.items [] inside

  pub waiting_other : (i : ℕ) → i ≢ b → waiting_in (set buckets b v) i ≡ waiting_in buckets i
  waiting_other i ne = ap (λ (xs : List (List Half)). get_or xs i []) (map-set items buckets b v) ∙ get_or-set_other (map items buckets) b i v.items [] ne

  waiting_changed : (q : ℕ) → times_waiting q (set buckets b v) + times_in q (waiting_in buckets b) ≡ times_waiting q buckets + times_in q v.items
  waiting_changed q = ap (λ (xs : List (List Half)). sum_by (times_in q) xs + times_in q (waiting_in buckets b)) (map-set items buckets b v) ∙ sum_by-set (times_in q) (map items buckets) b v.items [] inside

-- how many wait, with one fewer and with one more in a bucket, and if none does
module _ (buckets : Buckets) (b : ℕ) (v : Vec Half Global) (h : Half) (within : b < length buckets) where
  count_changed : count_waiting (set buckets b v) + length (waiting_in buckets b) ≡ count_waiting buckets + length v.items
  count_changed = ap (λ (xs : List (List Half)). sum_by length xs + length (waiting_in buckets b)) (map-set items buckets b v) ∙ sum_by-set length (map items buckets) b v.items [] (inside buckets b v within)

  pub count_popped : waiting_in buckets b ≡ v.items ++ h ∷ [] → count_waiting (set buckets b v) + 1 ≡ count_waiting buckets
  count_popped last = omega (arith, count_changed, ap length last, length_push v.items h)

  pub count_pushed : v.items ≡ waiting_in buckets b ++ h ∷ [] → count_waiting (set buckets b v) ≡ count_waiting buckets + 1
  count_pushed last = omega (arith, count_changed, ap length last, length_push (waiting_in buckets b) h)

  pub count_kept : v.items ≡ waiting_in buckets b → count_waiting (set buckets b v) ≡ count_waiting buckets
  count_kept same = omega (arith, count_changed, ap length same)

count_empty : (lists : List (List Half)) → ((i : ℕ) → get_or lists i [] ≡ []) → sum_by length lists ≡ 0
count_empty [] none = refl
count_empty (x ∷ xs) none = omega (arith, sum_by-cons (λ (y : List Half). length y) x xs, ap length (none 0), count_empty xs (λ i. none (suc i)))

pub count_none : (buckets : Buckets) → ((b : ℕ) → waiting_in buckets b ≡ []) → count_waiting buckets ≡ 0
count_none buckets none = count_empty (map items buckets) none

-- a bucket, as it stands in the list
pub taken : (buckets : Buckets) (b : ℕ) (v : Vec Half Global) → b < length buckets → v ≡ get_or buckets b v → waiting_in buckets b ≡ v.items
taken buckets b v within is = get_or-map items buckets b v [] within ∙ ap items (sym is)

-- the last half-edge of a bucket is put into the words
module _ {k n : ℕ} {edges : List (List ℕ)} {l : Links} {buckets : Buckets} (s : AreSplit k n edges l buckets) (b : ℕ) (v : Vec Half Global) (h : Half) (within : b < length buckets) (last : waiting_in buckets b ≡ v.items ++ h ∷ []) where
  all_ends : All (IsEnd k edges) (v.items ++ h ∷ [])
  all_ends = subst (All (IsEnd k edges)) last (s.wait b)

  pub end : IsEnd k edges h
  end = subst (IsEnd k edges) (get_or_push v.items h h (length v.items) refl) (all_ends (length v.items) h (omega (arith, length_push v.items h)))

  once_less : (q : ℕ) → times_waiting q (set buckets b v) + cond {A = ℕ} (eqb h.place q) 1 0 ≡ times_waiting q buckets
  once_less q = omega (arith, waiting_changed buckets b v within q, ap (times_in q) last, times_push q v.items h)

  bare : half_at l.slots (h.place / 4) (h.place % 4) ≡ None
  bare =
      let one : cond {A = ℕ} (eqb h.place h.place) 1 0 ≡ 1 = ap (λ x. cond {A = ℕ} x 1 0) (eq-eqb h.place h.place refl) in
      none_of (half_at l.slots (h.place / 4) (h.place % 4)) (omega (arith, s.once h.place, once_less h.place, one))

  edge : h.place / 4 < length l.slots
  edge = omega (arith, end.edge, s.long)

  abbrev ends : List ℕ
  ends = ends_at edges (h.place / 4)

  pub vertex : h.vertex < l.vertices
  vertex =
      let ended = s.ended (h.place / 4) [] end.edge in
      let below : get_or ends (h.place % 4) 0 < n = ended.1.0 (h.place % 4) 0 (omega (arith, end.position, ended.0)) in
      omega (arith, below, end.vertex, s.vertices)

  pub next : AreNext l.slots (with_in l.slots h) h
  next = put_next l.slots h edge bare

  pub apart : slot_touches h.vertex (halves_at l.slots (h.place / 4)) ≡ false
  apart = go (cases_Bool (slot_touches h.vertex slot)) where
    slot : List (Option ℕ)
    slot = halves_at l.slots (h.place / 4)

    at : ℕ
    at = position_or_len (lies_in h.vertex) slot

    distinct : AllPairs (λ u w. u ≢ w) ends
    distinct = (s.ended (h.place / 4) [] end.edge).1.1

    wide : length ends ≡ k
    wide = (s.ended (h.place / 4) [] end.edge).0

    inner : (at < length slot) ⊎ (length slot ≤ at) → get_or slot at None ≡ Some h.vertex → at < length slot
    inner (inl below) is = below
    inner (inr past) is = absurd (none-some h.vertex (sym (get_or_past slot at None past) ∙ is))

    never : get_or slot at None ≡ Some h.vertex → (at < h.place % 4) ⊎ (h.place % 4 ≤ at) → (at ≡ h.place % 4) ⊎ (at ≢ h.place % 4) → ⊥
    never is order (inl same) = none-some h.vertex (sym bare ∙ (ap (λ i. get_or slot i None) (sym same) ∙ is))
    never is (inl before) (inr other) = distinct at (h.place % 4) 0 before (omega (arith, end.position, wide)) (sym (s.there (h.place / 4) at h.vertex is) ∙ end.vertex)
    never is (inr after) (inr other) =
        let below : at < length slot = inner (cases_lt at (length slot)) is in
        distinct (h.place % 4) at 0 (omega (arith, after, other)) (omega (arith, below, s.short (h.place / 4), wide)) (sym end.vertex ∙ s.there (h.place / 4) at h.vertex is)

    go : (slot_touches h.vertex slot ≡ true) ⊎ (slot_touches h.vertex slot ≡ false) → slot_touches h.vertex slot ≡ false
    go (inr none) = none
    go (inl some) = absurd (never (touched_at h.vertex slot some) (cases_lt at (h.place % 4)) (cases_eq at (h.place % 4)))

  pub popped_same : IsSame l.slots buckets (with_in l.slots h) (set buckets b v)
  popped_same q = omega (arith, once_less q, there_more next q)

  pub popped : AreSplit k n edges (record { vertices = l.vertices; slots = with_in l.slots h }) (set buckets b v)
  popped = record {
    width = s.width;
    ended = s.ended;
    vertices = s.vertices;
    long = long next ∙ s.long;
    short = λ e. short e (cases_eq e (h.place / 4));
    there = λ e i u is. there e i u (in_less next e i u is);
    wait = λ i. wait i (cases_eq i b);
    once = λ q. omega (arith, popped_same q, s.once q);
  } where
    short : (e : ℕ) → (e ≡ h.place / 4) ⊎ (e ≢ h.place / 4) → length (halves_at (with_in l.slots h) e) ≤ k
    short e (inl same) = subst (λ i. length (halves_at (with_in l.slots h) i) ≤ k) (sym same) (subst (λ (slot : List (Option ℕ)). length slot ≤ k) (sym (with_in_at l.slots h edge)) (with_length (halves_at l.slots (h.place / 4)) (h.place % 4) h.vertex k end.position (s.short (h.place / 4))))
    short e (inr other) = subst (λ (slot : List (Option ℕ)). length slot ≤ k) (sym (other_edges next e other)) (s.short e)

    there : (e i u : ℕ) → ((e ≡ h.place / 4) × (i ≡ h.place % 4) × (u ≡ h.vertex)) ⊎ (half_at l.slots e i ≡ Some u) → u ≡ get_or (ends_at edges e) i 0
    there e i u (inr was) = s.there e i u was
    there e i u (inl x) = x.2 ∙ (end.vertex ∙ (ap (λ f. get_or (ends_at edges f) (h.place % 4) 0) (sym x.0) ∙ ap (λ j. get_or (ends_at edges e) j 0) (sym x.1)))

    wait : (i : ℕ) → (i ≡ b) ⊎ (i ≢ b) → All (IsEnd k edges) (waiting_in (set buckets b v) i)
    wait i (inr other) = subst (All (IsEnd k edges)) (sym (waiting_other buckets b v within i other)) (s.wait i)
    wait i (inl same) = subst (λ j. All (IsEnd k edges) (waiting_in (set buckets b v) j)) (sym same) (subst (All (IsEnd k edges)) (sym (waiting_here buckets b v within)) (λ j d below.
        subst (IsEnd k edges) (get_or_append_left v.items (h ∷ []) d j below) (all_ends j d (omega (arith, below, length_push v.items h)))))

-- a half-edge comes into a bucket
module _ {k n : ℕ} {edges : List (List ℕ)} {l : Links} {buckets : Buckets} (s : AreSplit k n edges l buckets) (b : ℕ) (v : Vec Half Global) (h : Half) (within : b < length buckets) (last : v.items ≡ waiting_in buckets b ++ h ∷ []) (end : IsEnd k edges h) (new : times_of h.place l.slots buckets ≡ 0) where
  pub pushed_more : IsMore h.place l.slots buckets l.slots (set buckets b v)
  pushed_more q = omega (arith, waiting_changed buckets b v within q, ap (times_in q) last, times_push q (waiting_in buckets b) h)

  pub pushed : AreSplit k n edges l (set buckets b v)
  pushed = record {
    width = s.width;
    ended = s.ended;
    vertices = s.vertices;
    long = s.long;
    short = s.short;
    there = s.there;
    wait = λ i. wait i (cases_eq i b);
    once = λ q. once q (cases_eq h.place q);
  } where
    wait : (i : ℕ) → (i ≡ b) ⊎ (i ≢ b) → All (IsEnd k edges) (waiting_in (set buckets b v) i)
    wait i (inr other) = subst (All (IsEnd k edges)) (sym (waiting_other buckets b v within i other)) (s.wait i)
    wait i (inl same) = subst (λ j. All (IsEnd k edges) (waiting_in (set buckets b v) j)) (sym same) (subst (All (IsEnd k edges)) (sym (waiting_here buckets b v within ∙ last)) (All-push (IsEnd k edges) (waiting_in buckets b) h (s.wait b) end))

    once : (q : ℕ) → (h.place ≡ q) ⊎ (h.place ≢ q) → times_of q l.slots (set buckets b v) ≤ 1
    once q (inl same) =
        let was : times_of q l.slots buckets ≡ 0 = ap (λ p. times_of p l.slots buckets) (sym same) ∙ new in
        let one : cond {A = ℕ} (eqb h.place q) 1 0 ≡ 1 = ap (λ x. cond {A = ℕ} x 1 0) (eq-eqb h.place q same) in
        omega (arith, pushed_more q, was, one)
    once q (inr other) =
        let none : cond {A = ℕ} (eqb h.place q) 1 0 ≡ 0 = ap (λ x. cond {A = ℕ} x 1 0) (ne_eqb h.place q other) in
        omega (arith, pushed_more q, s.once q, none)

-- if nothing is linked and nothing waits
module _ (k n : ℕ) (edges : List (List ℕ)) (buckets : Buckets) (none : (b : ℕ) → waiting_in buckets b ≡ []) where
  bare_times : (q : ℕ) → times_of q (replicate (length edges) []) buckets ≡ 0
  bare_times q = omega (arith, none_in q (map items buckets) none, zero_of (half_at (replicate (length edges) []) (q / 4) (q % 4)) (λ v is. bare_half (length edges) (q / 4) (q % 4) v is))

  pub bare_first : AreFirst k 0 (replicate (length edges) []) buckets
  bare_first = record { past = λ q h. bare_times q; all = λ q h p. let z : ⊥ = omega (arith, h) in absurd z }

  pub bare_split : k ≤ 4 → AreEdges k n edges → AreSplit k n edges (record { vertices = n; slots = replicate (length edges) [] }) buckets
  bare_split width ended = record {
    width = width;
    ended = ended;
    vertices = refl;
    long = length-replicate (length edges) [];
    short = λ e. short e (cases_lt e (length edges));
    there = λ e i v is. absurd (bare_half (length edges) e i v is);
    wait = λ b. subst (All (IsEnd k edges)) (sym (none b)) (λ i d below. let z : ⊥ = omega (arith, below) in absurd z);
    once = λ q. omega (arith, bare_times q);
  } where
    slots : List (List (Option ℕ))
    slots = replicate (length edges) []

    short : (e : ℕ) → (e < length edges) ⊎ (length edges ≤ e) → length (halves_at slots e) ≤ k
    short e (inl below) = subst (λ (slot : List (Option ℕ)). length slot ≤ k) (sym (get_or-replicate (length edges) e [] [] below)) (omega arith)
    short e (inr past) = subst (λ (slot : List (Option ℕ)). length slot ≤ k) (sym (get_or_past slots e [] (omega (arith, past, length-replicate (length edges) (let z : List (Option ℕ) = [] in z))))) (omega arith)

-- if all are added, and nothing waits
module _ {k n : ℕ} {edges : List (List ℕ)} {l : Links} {buckets : Buckets} (s : AreSplit k n edges l buckets) (f : AreFirst k (4 * length edges) l.slots buckets) (none : (b : ℕ) → waiting_in buckets b ≡ []) where
  half_there : (e j : ℕ) → e < length edges → j < k → half_at l.slots e j ≡ Some (get_or (ends_at edges e) j 0)
  half_there e j below position =
      let four : j < 4 = omega (arith, position, s.width) in
      let one : times_of (4 * e + j) l.slots buckets ≡ 1 = f.all (4 * e + j) (omega (arith, below, four)) (omega (arith, position, place_position e j four)) in
      let now : one_if (half_at l.slots ((4 * e + j) / 4) ((4 * e + j) % 4)) ≡ 1 = omega (arith, one, none_in (4 * e + j) (map items buckets) none) in
      some_of (half_at l.slots e j) (get_or (ends_at edges e) j 0) (ap one_if (ap (λ i. half_at l.slots i j) (sym (place_edge e j four)) ∙ ap (half_at l.slots ((4 * e + j) / 4)) (sym (place_position e j four))) ∙ now) (s.there e j)

  slot_whole : (e : ℕ) → e < length edges → halves_at l.slots e ≡ halves_of (ends_at edges e)
  slot_whole e below = ext_get_or None slot (halves_of ends) (omega (arith, whole, wide, length-map ends Some)) (λ j within.
      half_there e j below (omega (arith, within, whole)) ∙ sym (get_or-map Some ends j 0 None (omega (arith, within, whole, wide)))) where
        slot : List (Option ℕ)
        slot = halves_at l.slots e

        ends : List ℕ
        ends = ends_at edges e

        wide : length ends ≡ k
        wide = (s.ended e [] below).0

        full : (length slot < k) ⊎ (k ≤ length slot) → length slot ≡ k
        full (inr many) = omega (arith, many, s.short e)
        full (inl few) = absurd (none-some _ (sym (get_or_past slot (length slot) None (omega arith)) ∙ half_there e (length slot) below few))

        whole : length slot ≡ k
        whole = full (cases_lt (length slot) k)

  pub linked_whole_all : l ≡ all_linked n edges
  linked_whole_all = links_eq l.vertices n l.slots (map halves_of edges) s.vertices (ext_get_or [] l.slots (map halves_of edges) (s.long ∙ sym (length-map edges halves_of)) (λ e within.
      let below : e < length edges = omega (arith, within, s.long) in
      slot_whole e below ∙ sym (get_or-map halves_of edges e [] [] below)))

-- one half-edge after another is added
pub first_more : {k t : ℕ} {before after : List (List (Option ℕ))} {waited waiting : Buckets} → AreFirst k t before waited → IsMore t before waited after waiting → AreFirst k (t + 1) after waiting
first_more {k} {t} {before} {after} {waited} {waiting} f m = record { past = past; all = λ q h p. all q (cases_eq t q) h p } where
  other : (q : ℕ) → t ≢ q → times_of q after waiting ≡ times_of q before waited
  other q ne =
      let none : cond {A = ℕ} (eqb t q) 1 0 ≡ 0 = ap (λ x. cond {A = ℕ} x 1 0) (ne_eqb t q ne) in
      omega (arith, m q, none)

  past : (q : ℕ) → t + 1 ≤ q → times_of q after waiting ≡ 0
  past q h = other q (λ is. let z : ⊥ = omega (arith, h, is) in z) ∙ f.past q (omega (arith, h))

  all : (q : ℕ) → (t ≡ q) ⊎ (t ≢ q) → q < t + 1 → q % 4 < k → times_of q after waiting ≡ 1
  all q (inr ne) h p = other q ne ∙ f.all q (omega (arith, h, ne)) p
  all q (inl same) h p =
      let was : times_of q before waited ≡ 0 = f.past q (omega (arith, same)) in
      let one : cond {A = ℕ} (eqb t q) 1 0 ≡ 1 = ap (λ x. cond {A = ℕ} x 1 0) (eq-eqb t q same) in
      omega (arith, m q, was, one)

-- an edge has no half-edge beyond its ends
pub first_next : {k : ℕ} {slots : List (List (Option ℕ))} {buckets : Buckets} (e : ℕ) → k ≤ 4 → AreFirst k (4 * e + k) slots buckets → AreFirst k (4 * (e + 1)) slots buckets
first_next {k} e width f = record {
  past = λ q h. f.past q (omega (arith, h, width));
  all = λ q h p. f.all q (omega (arith, h, p, place_is q)) p;
}

-- nothing waits past the last bucket
pub none_left : (buckets : Buckets) → ((b : ℕ) → b < length buckets → waiting_in buckets b ≡ []) → (b : ℕ) → waiting_in buckets b ≡ []
none_left buckets none b = go (cases_lt b (length buckets)) where
  go : (b < length buckets) ⊎ (length buckets ≤ b) → waiting_in buckets b ≡ []
  go (inl below) = none b below
  go (inr past) = get_or_past (map items buckets) b [] (omega (arith, past, length-map buckets items))
