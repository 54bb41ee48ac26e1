-- Bytes that are read ahead of a place.
use Rattle.std.proofs.Common.{◌≡◌, ◌∙◌, ℕ, ◌+◌, ◌-◌, ◌<◌, ◌≤◌, List, [], ◌∷◌, ◌++◌, length, take, drop, ap, sym, arith, append_assoc, append-nil, length-append, length-drop}
use Rattle.std.specs.Prelude.{Result, Ok, Err, OnOk, false, is_err}
use Rattle.std.proofs.lemmas.Bool.{false≢true}
use Rattle.std.proofs.lemmas.List.{drop-append-le, drop-drop, take-append-drop, length-take, length-take-le, take_all, take-take, drop-take}
use Rattle.std.proofs.Math.Seq.{take-append_seam}
use Rattle.byteorder.specs.Endian.{little_number}
use Rattle.byteorder.specs.Numbers.{little_from-append}
use Rattle.cm_spill.specs.Reading.{IsHeaderAt}
use Rattle.cm_spill.specs.declared.header.Header.{Header}
use Rattle.cm_spill.proofs.Laying.{written_back}

-- a call that was tested to be fine
pub from_ok : {T E P : Type 0} → (r : Result T E) → is_err r ≡ false → OnOk r P → P
from_ok (Ok x) fine holds = holds
from_ok (Err e) fine holds = absurd (false≢true (sym fine))

-- what was read into a piece, of which the bytes are then these
pub piece_read : (n len : ℕ) (buf old : List ℕ) → len ≡ length old → length buf ≡ length old → take (n - 0) (take len (buf ++ drop (length buf) old)) ≡ take n buf
piece_read n len buf old long same =
    let whole : n - 0 ≡ n = omega arith in
    ap (λ (i : ℕ). take i (take len (buf ++ drop (length buf) old))) whole ∙ ap (λ (b : List ℕ). take n b) (written_back len old buf long same)

-- the first of the bytes that wait in a piece
pub first_ready : (piece : List ℕ) (from until n : ℕ) → from + n ≤ until → take (from + n - from) (drop from piece) ≡ take n (take (until - from) (drop from piece))
first_ready piece from until n inside =
    let count : from + n - from ≡ n = omega arith in
    ap (λ (i : ℕ). take i (drop from piece)) count ∙ sym (take-take n (until - from) (drop from piece) (omega (arith, inside)))

-- and those after them
pub rest_ready : (piece : List ℕ) (from until n : ℕ) → from + n ≤ until → take (until - (from + n)) (drop (from + n) piece) ≡ drop n (take (until - from) (drop from piece))
rest_ready piece from until n inside =
    let m = until - (from + n) in
    let whole : until - from ≡ n + m = omega (arith, inside) in
    ap (λ (b : List ℕ). take m b) (sym (drop-drop n from piece)) ∙ sym (ap (λ (i : ℕ). drop n (take i (drop from piece))) whole ∙ drop-take n m (drop from piece))

-- the bytes that wait after some were taken
pub ahead_moved : (bytes ready rest : List ℕ) (at n : ℕ) → n ≤ length ready → drop at bytes ≡ ready ++ rest → drop (at + n) bytes ≡ drop n ready ++ rest
ahead_moved bytes ready rest at n few is = sym (drop-drop n at bytes) ∙ ap (λ (b : List ℕ). drop n b) is ∙ drop-append-le n ready rest few

-- the bytes of a piece that wait
pub length-ready : (piece : List ℕ) (from until : ℕ) → from ≤ until → until ≤ length piece → length (take (until - from) (drop from piece)) ≡ until - from
length-ready piece from until order inside = length-take-le (until - from) (drop from piece) (omega (arith, order, inside, length-drop from piece))

-- what was taken so far, and what is left
pub taken_more : (bytes ready rest buf : List ℕ) (start at n : ℕ) → n ≤ length ready → drop at bytes ≡ ready ++ rest → drop start bytes ≡ buf ++ drop at bytes → drop start bytes ≡ (buf ++ take n ready) ++ drop (at + n) bytes
taken_more bytes ready rest buf start at n few is whole =
    whole
    ∙ ap (λ (b : List ℕ). buf ++ b) (is ∙ ap (λ (b : List ℕ). b ++ rest) (sym (take-append-drop n ready)) ∙ append_assoc (take n ready) (drop n ready) rest ∙ ap (λ (b : List ℕ). take n ready ++ b) (sym (ahead_moved bytes ready rest at n few is)))
    ∙ sym (append_assoc buf (take n ready) (drop (at + n) bytes))

-- all that was asked for was taken
pub taken_whole : (all buf tail : List ℕ) (len : ℕ) → all ≡ buf ++ tail → length buf ≤ len → len ≤ length buf → buf ≡ take len all
taken_whole all buf tail len is few enough =
    let long : len ≡ length buf = omega (arith, few, enough) in
    sym (ap (λ (b : List ℕ). take len b) is ∙ ap (λ (n : ℕ). take n (buf ++ tail)) long ∙ take-append_seam buf tail)

-- all that there is was taken
pub taken_end : (all buf tail : List ℕ) (len : ℕ) → all ≡ buf ++ tail → tail ≡ [] → length buf ≤ len → buf ≡ take len all
taken_end all buf tail len is none few =
    let whole : all ≡ buf = is ∙ ap (λ (b : List ℕ). buf ++ b) none ∙ append-nil buf in
    sym (take_all len buf few) ∙ ap (λ (b : List ℕ). take len b) (sym whole)

-- with more bytes behind, a header is the same
pub header_more : (bytes ready rest : List ℕ) (h : Header) → IsHeaderAt ready h → bytes ≡ ready ++ rest → IsHeaderAt bytes h
header_more bytes ready rest h is whole =
    let long = is.0 in (
      omega (arith, long, ap length whole, length-append ready rest),
      is.1 ∙ sym (ap (little_number 4) whole ∙ little_from-append 4 ready rest (omega (arith, long))),
      is.2 ∙ sym (ap (λ (b : List ℕ). little_number 4 (drop 4 b)) whole ∙ ap (little_number 4) (drop-append-le 4 ready rest (omega (arith, long))) ∙ little_from-append 4 (drop 4 ready) rest (omega (arith, long, length-drop 4 ready))),
      is.3 ∙ sym (ap (λ (b : List ℕ). little_number 2 (drop 8 b)) whole ∙ ap (little_number 2) (drop-append-le 8 ready rest (omega (arith, long))) ∙ little_from-append 2 (drop 8 ready) rest (omega (arith, long, length-drop 8 ready))),
    )

-- a header of which all bytes were read
pub header_read : (bytes buf : List ℕ) (h : Header) → IsHeaderAt buf h → buf ≡ take 10 bytes → IsHeaderAt bytes h
header_read bytes buf h is read = header_more bytes buf (drop 10 bytes) h is (sym (take-append-drop 10 bytes) ∙ ap (λ (b : List ℕ). b ++ drop 10 bytes) (sym read))

-- no whole header is there
pub header_cut : (bytes buf : List ℕ) → buf ≡ take 10 bytes → length buf < 10 → length bytes < 10
header_cut bytes buf read short = omega (arith, ap length read, length-take 10 bytes, short)

-- the bytes that were ready and those read since, after more were read if none was ready
pub order_more : (old more buf ready now : List ℕ) → old ++ more ≡ buf ++ ready → (0 < length ready → now ≡ ready) → (all : List ℕ) × (old ++ all ≡ buf ++ now)
order_more old more buf [] now is kept = (more ++ now, sym (append_assoc old more now) ∙ ap (λ (b : List ℕ). b ++ now) (is ∙ append-nil buf))
order_more old more buf (x ∷ xs) now is kept = (more, is ∙ ap (λ (b : List ℕ). buf ++ b) (sym (kept (omega arith))))

-- after some of them were taken
pub order_taken : (whole buf ready : List ℕ) (n : ℕ) → whole ≡ buf ++ ready → whole ≡ (buf ++ take n ready) ++ drop n ready
order_taken whole buf ready n is = is ∙ ap (λ (b : List ℕ). buf ++ b) (sym (take-append-drop n ready)) ∙ sym (append_assoc buf (take n ready) (drop n ready))
