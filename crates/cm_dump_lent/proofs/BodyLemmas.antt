-- A function by BDZ and the end of its dump.
use Rattle.std.proofs.Common.{◌≡◌, ◌≢◌, ◌∙◌, ℕ, ◌+◌, ◌*◌, ◌^◌, List, length, refl, Ok, Err, count_by}
use Rattle.std.specs.Int.{div_ceil}
use Rattle.std.proofs.lemmas.Bool.{eq-eqb, ne_eqb}
use Rattle.cm_bdz.specs.Functions.{Bdz}
use Rattle.cm_dump.specs.declared.front.Header.{Header}
use Rattle.cm_dump.specs.Spelling.{counted, ranked_at, ranks_at}
use Rattle.cm_dump_items.specs.Reading.{◌>>=◌, end_at}
use Rattle.cm_dump_items.specs.declared.fault.LoadFault.TheVariants as faults
use Rattle.cm_rank.specs.Ranks.{sampled}
use Rattle.cm_spec.specs.Cells.{is_busy}
use Rattle.cm_spec.specs.Image.{packed_len}
use Rattle.cm_dump_lent.proofs.RankLemmas.{length-sampled}

-- the function of a header and cells
abbrev pub bdz_of : Header → List ℕ → Bdz
bdz_of h cells = record { keys = h.keys; ratio = h.ratio; seed = h.seed; shift = h.b; cells = cells }

-- the count is wrong
pub ranked_uncounted : (dump : List ℕ) (h : Header) (cells : List ℕ) → count_by (is_busy 3) cells ≢ h.keys → ranked_at dump h cells ≡ Err (faults.BadCount 24)
unfolding ranked_at counted
ranked_uncounted dump h cells other = rw (ne_eqb _ _ other) refl

-- the count is right, and the ranks of n cells and the end are left
pub ranked_counted : (dump : List ℕ) (h : Header) (cells : List ℕ) (n : ℕ) → length cells ≡ n → count_by (is_busy 3) cells ≡ h.keys
    → ranked_at dump h cells ≡ (ranks_at dump (24 + packed_len 4 n) (sampled 3 h.b cells) >>= (λ _. end_at dump (24 + packed_len 4 n + 4 * div_ceil n (2 ^ h.b)) >>= (λ _. Ok (bdz_of h cells))))
unfolding ranked_at counted
ranked_counted dump h cells n long count = rw (eq-eqb _ _ count, length-sampled h.b cells, long) refl

-- the ranks are right too, and the end is left
pub ranked_to_end : (dump : List ℕ) (h : Header) (cells : List ℕ) (n : ℕ) → length cells ≡ n → count_by (is_busy 3) cells ≡ h.keys → ranks_at dump (24 + packed_len 4 n) (sampled 3 h.b cells) ≡ Ok tt
    → ranked_at dump h cells ≡ (end_at dump (24 + packed_len 4 n + 4 * div_ceil n (2 ^ h.b)) >>= (λ _. Ok (bdz_of h cells)))
ranked_to_end dump h cells n long count ranked = ranked_counted dump h cells n long count ∙ rw ranked refl
