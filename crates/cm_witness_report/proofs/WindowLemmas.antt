-- The first line of the bytes that were read.
use Rattle.std.proofs.Common.{◌≡◌, ◌∙◌, ◌⊎◌, inl, inr, ◌<◌, ◌≤◌, ◌+◌, ◌-◌, ◌==◌, ◌^◌, ℕ, suc, zero, List, [], ◌∷◌, ◌++◌, ap, append-nil, append_assoc, sym, subst, refl, arith, Bool, true, false, Option, None, Some, length, length-append, length-take, length-drop, take, drop, slice_index, codes}
use Rattle.std.specs.Fmt.{decimal}
use Rattle.std.specs.Option.{IfSome, option_map}
use Rattle.std.proofs.lemmas.Bool.{cases_Bool, cond-false, cond-true, false_from_ne_true, false≢true}
use Rattle.std.proofs.lemmas.Fmt.{length-decimal-le}
use Rattle.std.proofs.lemmas.List.{drop-append-le, drop-drop, drop-take, take-append-le}
use Rattle.std.proofs.lemmas.Option.{none-some}
use Rattle.std.proofs.Math.Seq.{take-append-add}
use Rattle.cm_algo_names.specs.declared.algorithm.Algorithm.TheVariants.{Chm, Bdz, BdzPh, Brz}
use Rattle.cm_witness_gather.specs.Reports.{edge_line, pair_line, third_part}
use Rattle.cm_witness_gather.specs.declared.certificate.CoreEdge.{CoreEdge}
use Rattle.cm_witness_gather.specs.declared.certificate.Pair.{Pair}
use Rattle.cm_witness_report.specs.Lines.{front_line, is_empty, is_line, lines_in, push_first}
use Rattle.cm_witness_report.specs.Parts.{head_at, next_edge, next_pair}
use Rattle.cm_witness_report.specs.Reports.{IsEdge, IsHead, IsPair, IsSmall, head_text}
use Rattle.cm_witness_report.specs.Windows.{TakesLine, first_of, left_bytes, waiting}
use Rattle.cm_witness_report.specs.declared.parts.Head.{Head}
use Rattle.cm_witness_report.specs.declared.parts.Head.TheVariants.{Core, Overfull}
use Rattle.cm_witness_report.proofs.HeadLemmas.{bucket_text, head_sound}
use Rattle.cm_witness_report.proofs.LineLemmas.{edge_whole, head_whole, lines_whole, pair_whole}
use Rattle.cm_witness_report.proofs.PartLemmas.{next_edge_sound, next_pair_sound}
use Rattle.cm_witness_report.proofs.Tests.{none_from}

-- the first line ends at the first byte 10
pub front_some : (hay : List ℕ) (n : ℕ) → n < length hay → ((k : ℕ) → k < n → (slice_index hay k == 10) ≡ true → ⊥) → (slice_index hay n == 10) ≡ true → front_line hay ≡ take (suc n) hay
front_some [] n inside before here = absurd (omega (arith, inside))
front_some (b ∷ hay) zero inside before here = cond-true (b == 10) (b ∷ []) (b ∷ front_line hay) here
front_some (b ∷ hay) (suc n) inside before here =
    let miss : (b == 10) ≡ false = false_from_ne_true (b == 10) (before 0 (omega arith)) in
    cond-false (b == 10) (b ∷ []) (b ∷ front_line hay) miss ∙ ap (λ (l : List ℕ). b ∷ l) (front_some hay n (omega (arith, inside)) (λ k l. before (suc k) (omega (arith, l))) here)

pub front_none : (hay : List ℕ) → ((k : ℕ) → k < length hay → (slice_index hay k == 10) ≡ true → ⊥) → front_line hay ≡ hay
front_none [] before = refl
front_none (b ∷ hay) before =
    let miss : (b == 10) ≡ false = false_from_ne_true (b == 10) (before 0 (omega arith)) in
    cond-false (b == 10) (b ∷ []) (b ∷ front_line hay) miss ∙ ap (λ (l : List ℕ). b ∷ l) (front_none hay (λ k l. before (suc k) (omega (arith, l))))

-- it is the start of the bytes
front_split : (w : List ℕ) → w ≡ front_line w ++ drop (length (front_line w)) w
front_split [] = refl
front_split (b ∷ w) = elim (cases_Bool (b == 10)) [
  | inl hit ↦ let e : front_line (b ∷ w) ≡ b ∷ [] = cond-true (b == 10) (b ∷ []) (b ∷ front_line w) hit in ap (λ (f : List ℕ). f ++ drop (length f) (b ∷ w)) (sym e)
  | inr miss ↦ let e : front_line (b ∷ w) ≡ b ∷ front_line w = cond-false (b == 10) (b ∷ []) (b ∷ front_line w) miss in ap (λ (l : List ℕ). b ∷ l) (front_split w) ∙ ap (λ (f : List ℕ). f ++ drop (length f) (b ∷ w)) (sym e)
]

-- the first line is the first of the lines
first_pushed : (b : ℕ) (ls : List (List ℕ)) (l : List ℕ) (rest : List (List ℕ)) → ls ≡ l ∷ rest → push_first b ls ≡ (b ∷ l) ∷ rest
first_pushed b ls l rest is = ap (push_first b) is

pub lines_front : (b : ℕ) (bs : List ℕ) → (ls : List (List ℕ)) × (lines_in (b ∷ bs) ≡ front_line (b ∷ bs) ∷ ls)
lines_front b [] = elim (cases_Bool (b == 10)) [
  | inl hit ↦ ([], cond-true (b == 10) ((b ∷ []) ∷ []) (push_first b []) hit ∙ ap (λ (f : List ℕ). f ∷ []) (sym (cond-true (b == 10) (b ∷ []) (b ∷ []) hit)))
  | inr miss ↦ ([], cond-false (b == 10) ((b ∷ []) ∷ []) (push_first b []) miss ∙ ap (λ (f : List ℕ). f ∷ []) (sym (cond-false (b == 10) (b ∷ []) (b ∷ []) miss)))
]
lines_front b (c ∷ bs) = elim (cases_Bool (b == 10)) [
  | inl hit ↦ (lines_in (c ∷ bs), cond-true (b == 10) ((b ∷ []) ∷ lines_in (c ∷ bs)) (push_first b (lines_in (c ∷ bs))) hit ∙ ap (λ (f : List ℕ). f ∷ lines_in (c ∷ bs)) (sym (cond-true (b == 10) (b ∷ []) (b ∷ front_line (c ∷ bs)) hit)))
  | inr miss ↦
      let next = lines_front c bs in
      (next.0, cond-false (b == 10) ((b ∷ []) ∷ lines_in (c ∷ bs)) (push_first b (lines_in (c ∷ bs))) miss ∙ first_pushed b (lines_in (c ∷ bs)) (front_line (c ∷ bs)) next.0 next.1 ∙ ap (λ (f : List ℕ). f ∷ next.0) (sym (cond-false (b == 10) (b ∷ []) (b ∷ front_line (c ∷ bs)) miss)))
]

found_front : {X : Type 0} (f : List ℕ → Option X) (bytes : List ℕ) (x : X) → first_of f (lines_in bytes) ≡ Some x → f (front_line bytes) ≡ Some x
found_front f [] x is = absurd (none-some x is)
found_front f (b ∷ bs) x is = let e = lines_front b bs in ap (first_of f) (sym e.1) ∙ is

some_line : (l : List ℕ) → is_line l ≡ true → 0 < length l
some_line [] is = absurd (false≢true is)
some_line (b ∷ l) is = omega arith

-- a whole line that ends within some bytes is their first line
front_within : (w more : List ℕ) → is_line (front_line (w ++ more)) ≡ true → length (front_line (w ++ more)) ≤ length w → front_line w ≡ front_line (w ++ more)
front_within [] more is short = let some = some_line (front_line more) is in absurd (omega (arith, some, short))
front_within (b ∷ w) more is short = elim (cases_Bool (b == 10)) [
  | inl hit ↦ cond-true (b == 10) (b ∷ []) (b ∷ front_line w) hit ∙ sym (cond-true (b == 10) (b ∷ []) (b ∷ front_line (w ++ more)) hit)
  | inr miss ↦
      let e : front_line (b ∷ (w ++ more)) ≡ b ∷ front_line (w ++ more) = cond-false (b == 10) (b ∷ []) (b ∷ front_line (w ++ more)) miss in
      let later : is_line (front_line (w ++ more)) ≡ true = sym (cond-false (b == 10) (is_empty (front_line (w ++ more))) (is_line (front_line (w ++ more))) miss) ∙ sym (ap is_line e) ∙ is in
      cond-false (b == 10) (b ∷ []) (b ∷ front_line w) miss ∙ ap (λ (l : List ℕ). b ∷ l) (front_within w more later (omega (arith, short, ap length e))) ∙ sym e
]

-- some of the bytes are used
pub waiting_skip : (buf : List ℕ) (from until n : ℕ) → n ≤ length (waiting buf from until) → waiting buf (from + n) until ≡ drop n (waiting buf from until)
waiting_skip buf from until n inside =
    let split : n + (until - (from + n)) ≡ until - from = omega (arith, inside, length-take (until - from) (drop from buf)) in
    sym (
    ap (λ (k : ℕ). drop n (take k (drop from buf))) (sym split) ∙ drop-take n (until - (from + n)) (drop from buf) ∙ ap (λ (l : List ℕ). take (until - (from + n)) l) (drop-drop n from buf)
    )

-- more bytes are read after them
pub waiting_more : (buf got : List ℕ) (from until n room : ℕ) → from ≤ until → until ≤ length buf → n ≤ length got → waiting (take until buf ++ (got ++ drop room (drop until buf))) from (until + n) ≡ waiting buf from until ++ take n got
waiting_more buf got from until n room order inside few =
    let rest : List ℕ = got ++ drop room (drop until buf) in
    let a : List ℕ = take (until - from) (drop from buf) in
    let size : length a ≡ until - from = omega (arith, length-take (until - from) (drop from buf), length-drop from buf, inside) in
    let split : from + (until - from) ≡ until = omega (arith, order) in
    let cut : drop from (take until buf) ≡ a = ap (λ (k : ℕ). drop from (take k buf)) (sym split) ∙ drop-take from (until - from) buf in
    let front : drop from (take until buf ++ rest) ≡ a ++ rest = drop-append-le from (take until buf) rest (omega (arith, length-take until buf, order, inside)) ∙ ap (λ (l : List ℕ). l ++ rest) cut in
    let count : (until + n) - from ≡ length a + n = omega (arith, size, order) in
    ap (λ (l : List ℕ). take ((until + n) - from) l) front ∙ ap (λ (k : ℕ). take k (a ++ rest)) count ∙ take-append-add a rest n ∙ ap (λ (l : List ℕ). a ++ l) (take-append-le n got (drop room (drop until buf)) few)

-- what is left of a source stays the same
pub left_same : (told' told : Option (List ℕ)) (place' place : ℕ) (w' w : List ℕ) → told' ≡ told → ((bytes : List ℕ) → told ≡ Some bytes → w' ++ drop place' bytes ≡ w ++ drop place bytes) → left_bytes told' place' w' ≡ left_bytes told place w
left_same told' None place' place w' w same each = ap (λ (t : Option (List ℕ)). option_map (λ (all : List ℕ). w' ++ drop place' all) t) same
left_same told' (Some bytes) place' place w' w same each = ap (λ (t : Option (List ℕ)). option_map (λ (all : List ℕ). w' ++ drop place' all) t) same ∙ ap (λ (l : List ℕ). let o : Option (List ℕ) = Some l in o) (each bytes refl)

-- a line in which something is found is whole, and it is not long
pub record IsGood (l : List ℕ) : Type 0 where
  pub whole : is_line l ≡ true
  pub short : length l ≤ 128

found_later : {X : Type 0} (f : List ℕ → Option X) → ((l : List ℕ) (x : X) → f l ≡ Some x → IsGood l) → (w more : List ℕ) → (more ≡ []) ⊎ (128 ≤ length w) → f (front_line w) ≡ None → (x : X) → f (front_line (w ++ more)) ≡ Some x → ⊥
found_later f good w more (inl none) is x found = none-some x (sym is ∙ ap (λ (t : List ℕ). f (front_line t)) (sym (ap (λ (t : List ℕ). w ++ t) none ∙ append-nil w)) ∙ found)
found_later f good w more (inr many) is x found =
    let g = good (front_line (w ++ more)) x found in
    none-some x (sym is ∙ ap f (front_within w more g.whole (omega (arith, g.short, many))) ∙ found)

-- the first line of the bytes that were read is that of all bytes, if there are no others or those that were read are enough
pub takes_line : {X : Type 0} (f : List ℕ → Option X) → ((l : List ℕ) (x : X) → f l ≡ Some x → IsGood l) → (w more : List ℕ) (o : Option X) → (more ≡ []) ⊎ (128 ≤ length w) → f (front_line w) ≡ o → TakesLine f (w ++ more) (drop (length (front_line w)) w ++ more) o
takes_line f good w more (Some x) enough is =
    let l : List ℕ = front_line w in
    let all : w ++ more ≡ l ++ (drop (length l) w ++ more) = ap (λ (t : List ℕ). t ++ more) (front_split w) ∙ append_assoc l (drop (length l) w) more in
    (l, ap lines_in all ∙ lines_whole l (drop (length l) w ++ more) (good l x is).whole, is)
takes_line f good w more None enough is = none_from (first_of f (lines_in (w ++ more))) (λ x found. found_later f good w more enough is x (found_front f (w ++ more) x found))

-- how long the lines of a report are
number_len : (n : ℕ) (rest : List ℕ) → n < 2 ^ 32 → length (decimal n ++ rest) ≤ 10 + length rest
number_len n rest small = let few : length (decimal n) ≤ 10 = length-decimal-le 10 n (omega arith) (omega (arith, small)) (omega (arith, small)) in omega (arith, few, length-append (decimal n) rest)

third_len : (o : Option ℕ) → IfSome o IsSmall → length (third_part o ++ (10 ∷ [])) ≤ 12
third_len None small = omega arith
third_len (Some v) small = let l = number_len v (10 ∷ []) small in omega (arith, l)

edge_good : (third : Bool) (e : CoreEdge) → IsEdge third e → IsGood (edge_line e)
edge_good third e is =
    let c = third_len e.third is.last in
    let b = number_len e.second (third_part e.third ++ (10 ∷ [])) is.second in
    let a = number_len e.first (codes " " ++ (decimal e.second ++ (third_part e.third ++ (10 ∷ [])))) is.first in
    let l = number_len e.line (codes " " ++ (decimal e.first ++ (codes " " ++ (decimal e.second ++ (third_part e.third ++ (10 ∷ [])))))) is.line in
    record { whole = edge_whole third e is; short = omega (arith, a, b, c, l) }

pair_good : (p : Pair) → IsPair p → IsGood (pair_line p)
pair_good p is =
    let b = number_len p.again (10 ∷ []) is.small in
    let a = number_len p.first (codes " " ++ (decimal p.again ++ (10 ∷ []))) (omega (arith, is.order, is.small)) in
    record { whole = pair_whole p is; short = omega (arith, a, b) }

-- the two last numbers of a first line
ends_len : (seed n : ℕ) → IsSmall seed → n < 2 ^ 32 → length (codes " seed " ++ (decimal seed ++ (codes " edges " ++ (decimal n ++ (10 ∷ []))))) ≤ 34
ends_len seed n small few =
    let b = number_len n (10 ∷ []) few in
    let a = number_len seed (codes " edges " ++ (decimal n ++ (10 ∷ []))) small in
    omega (arith, a, b)

head_short : (h : Head) → IsHead h → length (head_text h) ≤ 128
head_short (Core Chm None seed n) is = let l = ends_len seed n is.2 (omega (arith, is.4)) in omega (arith, l)
head_short (Core Bdz None seed n) is = let l = ends_len seed n is.2 (omega (arith, is.4)) in omega (arith, l)
head_short (Core BdzPh None seed n) is = let l = ends_len seed n is.2 (omega (arith, is.4)) in omega (arith, l)
head_short (Core Brz None seed n) is = let l = ends_len seed n is.2 (omega (arith, is.4)) in omega (arith, l)
head_short (Core Chm (Some p) seed n) is = absurd (false≢true (sym is.0))
head_short (Core Bdz (Some p) seed n) is = absurd (false≢true (sym is.0))
head_short (Core BdzPh (Some p) seed n) is = absurd (false≢true (sym is.0))
head_short (Core Brz (Some p) seed n) is =
    let tail : List ℕ = codes " seed " ++ (decimal seed ++ (codes " edges " ++ (decimal n ++ (10 ∷ [])))) in
    let l = ends_len seed n is.2 (omega (arith, is.4)) in
    let b = number_len p.bucket tail is.1.1 in
    let a = number_len p.split (codes " bucket " ++ (decimal p.bucket ++ tail)) is.1.0 in
    omega (arith, ap length (bucket_text p seed n), a, b, l)
head_short (Overfull seed bucket count) is =
    let c = number_len count (10 ∷ []) is.2 in
    let b = number_len bucket (codes " keys " ++ (decimal count ++ (10 ∷ []))) is.1 in
    let a = number_len seed (codes " bucket " ++ (decimal bucket ++ (codes " keys " ++ (decimal count ++ (10 ∷ []))))) is.0 in
    omega (arith, a, b, c)

pub head_good_at : (l : List ℕ) (h : Head) → head_at l ≡ Some h → IsGood l
head_good_at l h is = let line = head_sound l h is in subst IsGood (sym line.text_is) (record { whole = head_whole h line.head; short = head_short h line.head })

pub edge_good_at : (third : Bool) (last left : ℕ) (l : List ℕ) (e : CoreEdge) → next_edge third last left l ≡ Some e → IsGood l
edge_good_at third last left l e is = let line = next_edge_sound third last left l e is in subst IsGood (sym line.text_is) (edge_good third e line.edge)

pub pair_good_at : (last : ℕ) (l : List ℕ) (p : Pair) → next_pair last l ≡ Some p → IsGood l
pair_good_at last l p is = let line = next_pair_sound last l p is in subst IsGood (sym line.text_is) (pair_good p line.pair)
