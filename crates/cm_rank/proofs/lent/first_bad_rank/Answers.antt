use Rattle.std.proofs.Common.{◌≡◌, ◌∙◌, ℕ, ◌+◌, ◌*◌, ◌%◌, ◌^◌, ◌<◌, ◌≤◌, List, length, Fits, w8, get_or, inl, inr, ap, arith}
use Rattle.std.specs.Int.{to_le_bytes, w32}
use Rattle.std.specs.Prelude.{min}
use Rattle.std.proofs.lemmas.Bool.{cases_eq}
use Rattle.cm_rank.specs.RankLaws.{rank_written}
use Rattle.cm_rank.specs.Ranks.{HoldRanks, rank_bytes, rank_of}
use Rattle.cm_rank.proofs.RankLemmas.{block_end}
use Rattle.cm_rank.proofs.lent.first_bad_rank.Goals as goal

-- one rank more is right
held_more : (idle shift k rank : ℕ) (cells bytes : List ℕ) → HoldRanks idle shift cells bytes k → rank_bytes bytes k ≡ to_le_bytes w32 rank → rank ≡ rank_of idle cells (k * 2 ^ shift) → HoldRanks idle shift cells bytes (k + 1)
held_more idle shift k rank cells bytes before written is i inside = elim (cases_eq i k) [
  | inl same ↦ rw same (written ∙ ap (to_le_bytes w32) is)
  | inr other ↦ before i (omega (arith, inside, other))
]

pub loop-k-preserved : goal.loop-k-preserved
loop-k-preserved g c =
    let cells : List ℕ = g.C.Lookup.cells c.args.cells.now in
    let bytes : List ℕ = c.args.bytes.now in
    let so_far = c.loop-k.invariant in
    let step : ℕ = 1 * 2 ^ c.args.b % 4294967296 in
    let until : c.min.result ≡ min (length cells) (c.loop-k.k * step + step) = c.min.ensures ∙ ap (λ (n : ℕ). min n (c.loop-k.k * step + step)) so_far.len in
    let end : rank_of c.args.idle cells c.min.result ≡ rank_of c.args.idle cells ((c.loop-k.k + 1) * step) = ap (rank_of c.args.idle cells) until ∙ block_end c.args.idle step c.loop-k.k cells in
    let small : (k : ℕ) → get_or bytes k 0 < 256 = λ k. let fits : Fits w8 (get_or bytes k 0) = c.type_inv.bytes k in omega (arith, fits) in
    let here : 4 * c.loop-k.k + 4 ≤ length bytes = omega (arith, c.loop-k-test.true) in
    let place : rank_of c.args.idle cells (c.loop-k.k * step) ≡ rank_of c.args.idle cells (c.loop-k.k * 2 ^ c.args.b) = ap (λ (n : ℕ). rank_of c.args.idle cells (c.loop-k.k * n)) so_far.step in
    let same : c.rank_at.result ≡ c.loop-k.rank = omega (arith, c.if-rank_at-rank.false) in
    record {
      step = so_far.step;
      len = so_far.len;
      many = so_far.many;
      rank = omega (arith, so_far.rank, c.count_busy-rank.ensures.busy, end);
      right = held_more c.args.idle c.args.b c.loop-k.k c.rank_at.result cells bytes so_far.right (rank_written bytes c.loop-k.k c.rank_at.result small here c.rank_at.ensures.rank) (omega (arith, same, so_far.rank, place));
    }
