use Rattle.std.proofs.Common.{◌≡◌, ◌∙◌, ℕ, ◌+◌, ◌*◌, ◌%◌, ◌^◌, ◌<◌, List, length, refl, ap, arith}
use Rattle.std.specs.Prelude.{min}
use Rattle.std.proofs.lemmas.List.FromFn.{length-map-range_with_len}
use Rattle.std.proofs.lemmas.Nat.{one_shl, pow_pos}
use Rattle.cm_rank.proofs.RankLemmas.{block_end, few_blocks, rank_le_all, samples_more, stands_for}
use Rattle.cm_rank.specs.Ranks.{rank_of}
use Rattle.cm_rank.proofs.table.RankTable.build.Goals as goal

pub loop-k-init : goal.loop-k-init
loop-k-init g c =
    let none : 0 * (1 * 2 ^ c.args.b % 4294967296) ≡ 0 = omega arith in
    record {
      step = one_shl c.args.b 32 (omega (arith, c.requires.high));
      len = c.len-len.ensures;
      all = rw c.len-len.ensures at c.div_ceil-blocks.ensures;
      rank = rw none refl;
      ranks = c.in_ok-ranks.ensures.items;
    }

pub overflow_add-rank : goal.overflow_add-rank
overflow_add-rank g c =
    omega (arith, c.loop-k.invariant.rank, c.count_busy-rank.ensures.busy, rank_le_all c.args.idle (g.C.Lookup.cells c.args.cells.now) c.min.result, g.met.C.Lookup.in_room c.args.cells.now)

pub loop-k-preserved : goal.loop-k-preserved
loop-k-preserved g c =
    let cells : List ℕ = g.C.Lookup.cells c.args.cells.now in
    let so_far = c.loop-k.invariant in
    let step : ℕ = 1 * 2 ^ c.args.b % 4294967296 in
    let until : c.min.result ≡ min (length cells) (c.loop-k.k * step + step) = c.min.ensures ∙ ap (λ (n : ℕ). min n (c.loop-k.k * step + step)) so_far.len in
    let end : rank_of c.args.idle cells c.min.result ≡ rank_of c.args.idle cells ((c.loop-k.k + 1) * step) = ap (rank_of c.args.idle cells) until ∙ block_end c.args.idle step c.loop-k.k cells in
    record {
      step = so_far.step;
      len = so_far.len;
      all = so_far.all;
      rank = omega (arith, so_far.rank, c.count_busy-rank.ensures.busy, end);
      ranks = samples_more step c.args.idle c.loop-k.k cells c.loop-k.ranks.items c.push.new.self.items c.loop-k.rank so_far.rank so_far.ranks c.in_ok-push.ensures.items;
    }

pub invariant_of-result : goal.invariant_of-result
invariant_of-result g c =
    let cells : List ℕ = g.C.Lookup.cells c.args.cells.now in
    let step : ℕ = 1 * 2 ^ c.args.b % 4294967296 in
    let some : 0 < step = rw c.loop-k.invariant.step (pow_pos c.args.b) in
    let many : length c.loop-k.ranks.items ≡ c.loop-k.k = ap length c.loop-k.invariant.ranks ∙ length-map-range_with_len _ 0 _ in
    (c.requires.high, omega (arith, many, c.loop-k.auto.k-end, c.loop-k.invariant.all, few_blocks step (length cells) some, g.met.C.Lookup.in_room c.args.cells.now))

pub returns-clause-stands : goal.returns-clause-stands
returns-clause-stands g c =
    stands_for _ c.args.idle c.args.b c.loop-k.k (g.C.Lookup.cells c.args.cells.now) c.loop-k.ranks.items (omega (arith, c.loop-k.auto.k-end, c.loop-k-test.false, c.loop-k.invariant.all)) c.loop-k.invariant.step c.loop-k.invariant.ranks
