-- The whole lines in the buffer.
use Rattle.std.proofs.Common.{◌≡◌, ◌∙◌, ℕ, zero, suc, ◌+◌, ◌-◌, ◌<◌, ◌≤◌, ◌==◌, List, [], ◌∷◌, ◌++◌, length, take, drop, ap, arith, append_assoc, refl, length-take, count_by, Bool, true, false, if◌then◌else◌}
use Rattle.std.specs.Prelude.{All}
use Rattle.std.proofs.lemmas.List.Elements.{All-cons, All-head, All-nil, All-tail, All-weaker}
use Rattle.std.proofs.lemmas.List.Sums.{count_by_more_yes, sum_by-append, sum_by-cons, sum_by-take-le}
use Rattle.memchr.specs.Find.{Nowhere, Passes, is_byte}
use Rattle.cm_keys.specs.Lines.{push_first, pieces}
use Rattle.cm_keys.specs.Buffering.{TakesLines, ready_in, line_rule}
use Rattle.cm_keys.proofs.PieceLemmas.{not_true, ready_after, ready_split, same_byte}

-- A text with an end behind it is some lines: as many as it has ends, and one more.
pub record IsSplit (end : ℕ) (text : List ℕ) : Type 0 where
  pub first : List ℕ
  pub later : List (List ℕ)
  pub many : length (first ∷ later) ≡ count_by (is_byte end) text + 1
  pub short : All (λ line. length line ≤ length text) (first ∷ later)
  pub front : (more : List ℕ) → pieces end (text ++ end ∷ more) ≡ (first ∷ later) ++ pieces end more

longer : (b : ℕ) (bs : List ℕ) (lines : List (List ℕ)) → All (λ line. length line ≤ length bs) lines → All (λ line. length line ≤ length (b ∷ bs)) lines
longer b bs lines short = All-weaker (λ line. length line ≤ length bs) (λ line. length line ≤ length (b ∷ bs)) (λ line le. omega (arith, le)) lines short

counted : (end b : ℕ) (bs : List ℕ) → count_by (is_byte end) (b ∷ bs) ≡ (if b == end then 1 else 0) + count_by (is_byte end) bs
counted end b bs = sum_by-cons (λ x. if is_byte end x then 1 else 0) b bs

split_next : (end b : ℕ) (bs : List ℕ) (t : Bool) → (b == end) ≡ t → IsSplit end bs → IsSplit end (b ∷ bs)
split_next end b bs true is s = record {
  first = [];
  later = s.first ∷ s.later;
  many = omega (arith, s.many, counted end b bs, ap {B = ℕ} (λ (t : Bool). if t then 1 else 0) is);
  short = All-cons (λ line. length line ≤ length (b ∷ bs)) [] (s.first ∷ s.later) (omega arith) (longer b bs (s.first ∷ s.later) s.short);
  front = λ more. rw is (ap (λ (lines : List (List ℕ)). [] ∷ lines) (s.front more));
}
split_next end b bs false is s =
    let short_first = All-head (λ line. length line ≤ length bs) s.first s.later s.short in
    let short_later = All-tail (λ line. length line ≤ length bs) s.first s.later s.short in
    record {
      first = b ∷ s.first;
      later = s.later;
      many = omega (arith, s.many, counted end b bs, ap {B = ℕ} (λ (t : Bool). if t then 1 else 0) is);
      short = All-cons (λ line. length line ≤ length (b ∷ bs)) (b ∷ s.first) s.later (omega (arith, short_first)) (longer b bs s.later short_later);
      front = λ more. rw is (ap (push_first b) (s.front more));
    }

split : (end : ℕ) (text : List ℕ) → IsSplit end text
split end [] = record {
  first = [];
  later = [];
  many = refl;
  short = All-cons (λ line. length line ≤ 0) [] [] (omega arith) (All-nil (λ line. length line ≤ 0));
  front = λ more. rw (same_byte end) refl;
}
split end (b ∷ bs) = split_next end b bs (b == end) refl (split end bs)

count_none : (end : ℕ) (hay : List ℕ) → Nowhere (Passes (is_byte end) hay) 0 (length hay) → count_by (is_byte end) hay ≡ 0
count_none end [] f = refl
count_none end (b ∷ bs) f =
    let is : (b == end) ≡ false = not_true (b == end) (f 0 (omega arith) (omega arith)) in
    let later = count_none end bs (λ k low high. f (suc k) (omega arith) (omega (arith, high))) in
    omega (arith, later, counted end b bs, ap {B = ℕ} (λ (t : Bool). if t then 1 else 0) is)

pub nowhere_after : (end : ℕ) (hay : List ℕ) (n : ℕ) → Nowhere (Passes (is_byte end) hay) n (length hay) → Nowhere (Passes (is_byte end) (drop n hay)) 0 (length (drop n hay))
nowhere_after end hay zero f = f
nowhere_after end [] (suc n) f = λ k low high. absurd (omega (arith, high))
nowhere_after end (b ∷ bs) (suc n) f = nowhere_after end bs n (λ k low high. f (suc k) (omega (arith, low)) (omega (arith, high)))

-- All lines up to the last end pass.
pub lines_taken : (end longest : ℕ) (buf : List ℕ) (start until last : ℕ) → last < length (ready_in buf start until) → Passes (is_byte end) (ready_in buf start until) last
    → Nowhere (Passes (is_byte end) (ready_in buf start until)) (last + 1) (length (ready_in buf start until)) → until ≤ longest + 1
    → TakesLines (line_rule longest end) (ready_in buf start until) (ready_in buf (start + (last + 1)) until) (count_by (is_byte end) (ready_in buf start until))
lines_taken end longest buf start until last inside at after room =
    let hay = ready_in buf start until in
    let left = ready_in buf (start + (last + 1)) until in
    let front = take last hay in
    let s = split end front in
    let is : hay ≡ front ++ end ∷ left = ready_split end buf start until last inside at in
    let later : left ≡ drop (last + 1) hay = ready_after buf start until last inside in
    let none : count_by (is_byte end) left ≡ 0 = ap (count_by (is_byte end)) later ∙ count_none end (drop (last + 1) hay) (nowhere_after end hay (last + 1) after) in
    let sums : count_by (is_byte end) hay ≡ count_by (is_byte end) front + count_by (is_byte end) (end ∷ left) =
    ap (count_by (is_byte end)) is ∙ sum_by-append (λ x. if is_byte end x then 1 else 0) front (end ∷ left) in
    let short : length front ≤ longest = omega (arith, inside, room, length-take last hay, length-take (until - start) (drop start buf)) in
    record {
      lines = s.first ∷ s.later;
      many = omega (arith, s.many, sums, none, counted end end left, ap {B = ℕ} (λ (t : Bool). if t then 1 else 0) (same_byte end));
      short = All-weaker (λ line. length line ≤ length front) (λ line. length line ≤ longest) (λ line le. omega (arith, le, short)) (s.first ∷ s.later) s.short;
      front = λ more. ap (λ (bytes : List ℕ). pieces end (bytes ++ more)) is ∙ ap (pieces end) (append_assoc front (end ∷ left) more) ∙ s.front (left ++ more);
    }

pub some_counted : (end : ℕ) (hay : List ℕ) (last : ℕ) → last < length hay → Passes (is_byte end) hay last → 0 < count_by (is_byte end) hay
some_counted end hay last inside at =
    omega (arith, count_by_more_yes (is_byte end) hay last 0 inside at, sum_by-take-le (λ x. if is_byte end x then 1 else 0) hay (last + 1))
