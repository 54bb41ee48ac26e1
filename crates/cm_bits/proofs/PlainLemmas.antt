-- When plain bytes are an image.
use Rattle.std.specs.Prelude.{◌≡◌, ℕ, ◌+◌, ◌*◌, ◌/◌, ◌%◌, ◌<◌, ◌≤◌, List, [], ◌∷◌, ◌++◌, length, slice_index, nat_le, Some}
use Rattle.std.specs.List.{position_or_len}
use Rattle.std.proofs.Common.{arith, ap, sym, ◌∙◌, lit<}
use Rattle.std.proofs.lemmas.Bool.{lt-leb, le-leb}
use Rattle.std.proofs.lemmas.List.FromFn.{length-map-range_with_len, get_or-map-range_with_len, fill_by_all, map-range_with_len_more}
use Rattle.std.proofs.lemmas.List.Sums.{position_or_len_is}
use Rattle.cm_spec.specs.Image.{plain_byte}
use Rattle.cm_spec.specs.Lists.{list_of}
use Rattle.cm_bits.specs.Bound.{AllBelow}
use Rattle.cm_bits.specs.declared.fault.ImageFault.TheVariants.{BadCell}
use Rattle.cm_bits.specs.Fault.{plain_cell, plain_fault}
use Rattle.cm_bits.specs.DigitsLaws.{digit-digits_sum}
use Rattle.cm_bits.specs.FaultLaws.{cell_fault}

pub plain_fault-at : (n bound i : ℕ) (bytes : List ℕ) → i < n → ((k : ℕ) → k < i → plain_cell bytes k < bound) → bound ≤ plain_cell bytes i → plain_fault n bound bytes ≡ Some (BadCell i)
unfolding plain_fault
plain_fault-at n bound i bytes l h b =
    let len : length (list_of (plain_cell bytes) n) ≡ n = length-map-range_with_len (plain_cell bytes) 0 n in
    let e : position_or_len (λ c. nat_le bound c) (list_of (plain_cell bytes) n) ≡ i =
    position_or_len_is _ (list_of (plain_cell bytes) n) i 0 (omega arith)
    (λ k m. rw (get_or-map-range_with_len (plain_cell bytes) 0 n k k 0 (omega arith) (omega arith)) (lt-leb bound _ (h k m)))
    (λ m. rw (get_or-map-range_with_len (plain_cell bytes) 0 n i i 0 l (omega arith)) (le-leb bound _ b)) in
    rw e (cell_fault n i 0 0 l)

-- bytes are the image of their cells
pub image-plain : (n : ℕ) (bytes : List ℕ) → length bytes ≡ 4 * n → ((k : ℕ) → slice_index bytes k < 256) → bytes ≡ list_of (plain_byte (list_of (plain_cell bytes) n)) (4 * n)
unfolding plain_byte
image-plain n bytes len small =
    fill_by_all _ bytes (4 * n) 0 len (λ q l.
    let whole : 4 * (q / 4) + q % 4 ≡ q = omega arith in
    sym (rw (get_or-map-range_with_len (plain_cell bytes) 0 n (q / 4) (q / 4) 0 (omega arith) (omega arith))
    (digit-digits_sum 256 (λ k. slice_index bytes (4 * (q / 4) + k)) 4 (q % 4) (lit< tt) (λ i m. small _) (omega arith)
    ∙ ap (slice_index bytes) whole)))

pub in_list : (bound n : ℕ) (f : ℕ → ℕ) (xs : List ℕ) → xs ≡ list_of f n → ((k : ℕ) → k < n → f k < bound) → AllBelow bound xs
in_list bound n f xs e h k l =
    let len : length xs ≡ n = ap length e ∙ length-map-range_with_len f 0 n in
    rw (e, get_or-map-range_with_len f 0 n k k 0 (omega arith) (omega arith)) (h k (omega arith))

pub more_cells : (n : ℕ) (f : ℕ → ℕ) (xs ys : List ℕ) (x : ℕ) → xs ≡ list_of f n → x ≡ f n → ys ≡ xs ++ x ∷ [] → ys ≡ list_of f (n + 1)
more_cells n f xs ys x e h p = rw (p, e, h) (sym (map-range_with_len_more f 0 n n (omega arith)))
