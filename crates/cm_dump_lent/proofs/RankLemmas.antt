-- The ranks of a dump, as they are compared in its bytes.
use Rattle.std.proofs.Common.{◌≡◌, ◌≢◌, ◌∙◌, ℕ, ◌+◌, ◌*◌, ◌/◌, ◌^◌, ◌<◌, ◌≤◌, List, length, take, drop, ap, sym, arith, refl, Result, Ok, Err, w32}
use Rattle.std.specs.Int.{div_ceil, to_le_bytes}
use Rattle.std.specs.Prelude.{slice_index}
use Rattle.std.proofs.lemmas.List.{take_all}
use Rattle.std.proofs.lemmas.List.FromFn.{get_or-map-range_with_len, length-map-range_with_len}
use Rattle.cm_dump.specs.RankLaws.{rank_there, ranks_all, ranks_cut, ranks_wrong}
use Rattle.cm_dump.specs.Spelling.{ranks_at}
use Rattle.cm_dump_items.specs.ItemLaws.{item_short}
use Rattle.cm_dump_items.specs.Reading.{Fills, item_at}
use Rattle.cm_dump_items.specs.declared.fault.LoadFault.{LoadFault}
use Rattle.cm_dump_items.specs.declared.fault.LoadFault.TheVariants as faults
use Rattle.cm_rank.specs.Ranks.{HoldRanks, rank_bytes, rank_of, sampled}

pub length-sampled : (b : ℕ) (cells : List ℕ) → length (sampled 3 b cells) ≡ div_ceil (length cells) (2 ^ b)
unfolding sampled
length-sampled b cells = length-map-range_with_len (λ k. rank_of 3 cells (k * 2 ^ b)) 0 (div_ceil (length cells) (2 ^ b))

rank_is : (b : ℕ) (cells : List ℕ) (i : ℕ) → i < div_ceil (length cells) (2 ^ b) → rank_of 3 cells (i * 2 ^ b) ≡ slice_index (sampled 3 b cells) i
unfolding sampled
rank_is b cells i inside = sym (get_or-map-range_with_len (λ k. rank_of 3 cells (k * 2 ^ b)) 0 (div_ceil (length cells) (2 ^ b)) i i 0 inside (omega arith))

-- bytes of a dump from an offset on
pub record IsFrom (dump : List ℕ) (at : ℕ) (part : List ℕ) : Type 0 where
  pub given : part ≡ take (length part) (drop at dump)
  pub inside : at + length part ≤ length dump

there : (dump part : List ℕ) (at i : ℕ) → IsFrom dump at part → 4 * i + 4 ≤ length part → item_at dump (at + 4 * i) 4 ≡ Ok (rank_bytes part i)
there dump part at i from inside =
    let all : take (length part) part ≡ part = take_all (length part) part (omega arith) in
    let fills : Fills dump at (length part) part = record { given = all ∙ from.given; end = λ short. absurd (omega (arith, short)) } in
    rank_there dump part at (length part) i fills (omega arith) from.inside inside

-- the first k ranks are those of the cells
held : (dump part cells : List ℕ) (at b k : ℕ) → IsFrom dump at part → 4 * k ≤ length part → k ≤ div_ceil (length cells) (2 ^ b) → HoldRanks 3 b cells part k
    → (i : ℕ) → i < k → item_at dump (at + 4 * i) 4 ≡ Ok (to_le_bytes w32 (slice_index (sampled 3 b cells) i))
held dump part cells at b k from whole few hold i l =
    there dump part at i from (omega (arith, whole, l))
    ∙ ap (λ (r : List ℕ). let o : Result (List ℕ) LoadFault = Ok r in o) (hold i l ∙ ap (to_le_bytes w32) (rank_is b cells i (omega (arith, l, few))))

-- then another rank is there
pub wrong : (dump part cells : List ℕ) (at b k : ℕ) → IsFrom dump at part → length part ≤ 4 * div_ceil (length cells) (2 ^ b) → k < length part / 4 → HoldRanks 3 b cells part k
    → rank_bytes part k ≢ to_le_bytes w32 (rank_of 3 cells (k * 2 ^ b)) → ranks_at dump at (sampled 3 b cells) ≡ Err (faults.BadRank (at + 4 * k))
wrong dump part cells at b k from most inside hold other =
    let few : k < div_ceil (length cells) (2 ^ b) = omega (arith, inside, most) in
    ranks_wrong dump at (sampled 3 b cells) k (rank_bytes part k) (omega (arith, few, length-sampled b cells))
    (held dump part cells at b k from (omega (arith, inside)) (omega (arith, few)) hold)
    (there dump part at k from (omega (arith, inside)))
    (λ is. other (is ∙ ap (to_le_bytes w32) (sym (rank_is b cells k few))))

-- then the dump ends
pub cut : (dump part cells : List ℕ) (at b : ℕ) → IsFrom dump at part → length part < 4 * div_ceil (length cells) (2 ^ b) → length dump ≡ at + length part → HoldRanks 3 b cells part (length part / 4)
    → ranks_at dump at (sampled 3 b cells) ≡ Err (faults.Truncated (length dump))
cut dump part cells at b from short end hold =
    let k : ℕ = length part / 4 in
    let few : k < div_ceil (length cells) (2 ^ b) = omega (arith, short) in
    ranks_cut dump at (sampled 3 b cells) k (faults.Truncated (length dump)) (omega (arith, few, length-sampled b cells))
    (held dump part cells at b k from (omega arith) (omega (arith, few)) hold)
    (item_short dump (at + 4 * k) (length dump) refl (omega (arith, end)))

-- all ranks are there
pub all : (dump part cells : List ℕ) (at b : ℕ) → IsFrom dump at part → length part ≡ 4 * div_ceil (length cells) (2 ^ b) → HoldRanks 3 b cells part (length part / 4) → ranks_at dump at (sampled 3 b cells) ≡ Ok tt
all dump part cells at b from long hold =
    ranks_all dump at (sampled 3 b cells) (λ i l. held dump part cells at b (length part / 4) from (omega arith) (omega (arith, long)) hold i (omega (arith, l, long, length-sampled b cells)))
