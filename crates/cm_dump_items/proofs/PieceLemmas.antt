-- A source that is read in pieces.
use Rattle.std.proofs.Common.{◌≡◌, ◌∙◌, ℕ, ◌+◌, ◌-◌, ◌<◌, ◌≤◌, ◌==◌, List, ◌++◌, length, take, drop, ap, sym, arith, length-append, length-drop, length-take, eq-eqb, false, inl, inr}
use Rattle.std.proofs.lemmas.Bool.{cases_lt, false≢true}
use Rattle.std.proofs.lemmas.List.{drop-drop, drop-take, take_all, take-append-le, take_at}
use Rattle.std.proofs.lemmas.List.Edits.{paste_all}
use Rattle.std.proofs.Math.Seq.{paste, take-add, take-append-add}
use Rattle.cm_dump_items.specs.Reading.{Fills}
use Rattle.cm_dump_items.specs.Unreads.{IsNext, Unread, unread_of}

pub unread_len : (buf : List ℕ) (from until : ℕ) → from ≤ until → until ≤ length buf → length (take (until - from) (drop from buf)) ≡ until - from
unread_len buf from until order inside = omega (arith, length-take (until - from) (drop from buf), length-drop from buf, order, inside)

not_more : (until n : ℕ) → until ≤ n → (until == n) ≡ false → until < n
not_more until n le other = elim (cases_lt until n) [
  | inl l ↦ l
  | inr ge ↦ absurd (false≢true (sym other ∙ eq-eqb until n (omega (arith, le, ge))))
]

-- a buffer that was filled from its start
pub next_filled : (bytes buf : List ℕ) (place at until : ℕ) → until ≤ length buf → Fills bytes at until buf → place ≡ at + until → place ≤ length bytes → IsNext bytes place at (unread_of buf 0 until)
next_filled bytes buf place at until inside fills here whole =
    let size : length (take (until - 0) (drop 0 buf)) ≡ until = unread_len buf 0 until (omega arith) inside ∙ omega arith in
    let same : take (until - 0) (drop 0 buf) ≡ take until buf = ap (λ (n : ℕ). take n buf) (let e : until - 0 ≡ until = omega arith in e) in
    record {
      given = same ∙ fills.given ∙ ap (λ (n : ℕ). take n (drop at bytes)) (sym size);
      moved = omega (arith, here, size);
      inside = whole;
      end = λ ended. fills.end (not_more until (length buf) inside ended) ∙ sym here;
    }

-- the bytes that a full buffer keeps
pub next_kept : (bytes buf : List ℕ) (place at from until : ℕ) → from ≤ until → until ≡ length buf → IsNext bytes place at (unread_of buf from until) → drop from buf ≡ take (length buf - from) (drop at bytes)
next_kept bytes buf place at from until order full next =
    let size : length (take (until - from) (drop from buf)) ≡ until - from = unread_len buf from until order (omega (arith, full)) in
    let all : take (until - from) (drop from buf) ≡ drop from buf = take_all (until - from) (drop from buf) (omega (arith, length-drop from buf, full)) in
    let count : until - from ≡ length buf - from = omega (arith, full) in
    sym all ∙ next.given ∙ ap (λ (n : ℕ). take n (drop at bytes)) (size ∙ count)

-- they are moved to its start
pub moved_front : (buf : List ℕ) (from : ℕ) → from ≤ length buf → take (length buf - from) (paste buf 0 (drop from buf) (length buf - from)) ≡ drop from buf
moved_front buf from inside =
    let n : ℕ = length buf - from in
    let size : n ≡ length (drop from buf) = sym (length-drop from buf) in
    ap (λ (l : List ℕ). take n l) (paste_all buf 0 (drop from buf) n size) ∙ take_at (drop from buf) (drop (0 + n) buf) n (sym size)

-- and more is read after them
pub filled_more : (bytes mid ys : List ℕ) (at kept got : ℕ) → take kept mid ≡ take kept (drop at bytes) → kept ≤ length mid → length ys ≡ length (take (length mid - kept) (drop kept mid)) → Fills bytes (at + kept) got ys → got ≤ length ys
    → Fills bytes at (kept + got) (take kept mid ++ (ys ++ drop (length mid - kept) (drop kept mid)))
filled_more bytes mid ys at kept got same inside long fills few =
    let rest : List ℕ = drop (length mid - kept) (drop kept mid) in
    let front : length (take kept mid) ≡ kept = omega (arith, length-take kept mid, inside) in
    let left : take (kept + got) (take kept mid ++ (ys ++ rest)) ≡ take kept mid ++ take got ys =
    ap (λ (k : ℕ). take (k + got) (take kept mid ++ (ys ++ rest))) (sym front) ∙ take-append-add (take kept mid) (ys ++ rest) got ∙ ap (λ (l : List ℕ). take kept mid ++ l) (take-append-le got ys rest few) in
    let right : take (kept + got) (drop at bytes) ≡ take kept (drop at bytes) ++ take got (drop (at + kept) bytes) =
    take-add kept got (drop at bytes) ∙ ap (λ (l : List ℕ). take kept (drop at bytes) ++ take got l) (drop-drop kept at bytes) in
    let none : length rest ≡ 0 = omega (arith, length-drop (length mid - kept) (drop kept mid), length-drop kept mid) in
    let whole : length (take kept mid ++ (ys ++ rest)) ≡ kept + length ys = omega (arith, length-append (take kept mid) (ys ++ rest), length-append ys rest, front, none) in
    record {
      given = left ∙ ap (λ (l : List ℕ). l ++ take got ys) same ∙ ap (λ (l : List ℕ). take kept (drop at bytes) ++ l) fills.given ∙ sym right;
      end = λ short. fills.end (omega (arith, short, whole)) ∙ omega arith;
    }

-- some of the bytes are used
pub unread_skip : (buf : List ℕ) (from until n : ℕ) → n ≤ until - from → unread_of buf (from + n) until ≡ (let u : Unread = record { rest = drop n (take (until - from) (drop from buf)); more = until == length buf } in u)
unread_skip buf from until n inside =
    let split : n + (until - (from + n)) ≡ until - from = omega (arith, inside) in
    let moved : drop n (take (until - from) (drop from buf)) ≡ take (until - (from + n)) (drop (from + n) buf) =
    ap (λ (k : ℕ). drop n (take k (drop from buf))) (sym split) ∙ drop-take n (until - (from + n)) (drop from buf) ∙ ap (λ (l : List ℕ). take (until - (from + n)) l) (drop-drop n from buf) in
    ap (λ (l : List ℕ). let u : Unread = record { rest = l; more = until == length buf } in u) (sym moved)
