use Rattle.std.proofs.Common.{◌≡◌, ◌∙◌, ℕ, ◌/◌, ◌^◌, arith}
use Rattle.cm_rank.specs.RankLaws.{length-ranks_in, rank_in_list}
use Rattle.cm_rank.specs.Ranks.{Samples, rank_in, ranks_in}
use Rattle.cm_rank.proofs.RankLemmas.{sampled_rank_is, step_is}
use Rattle.cm_rank.proofs.lent.LentRanks.rank.Goals as goal

pub rank_at-requires : goal.rank_at-requires
rank_at-requires g c =
    let there = rw (← c.self.view_is) at c.requires.there in
    rw (step_is c.self.inside.b c.self.invariant.1) (record { inside = omega (arith, there, length-ranks_in c.self.inside.bytes.now) })

pub returns : goal.returns
returns g c =
    let cells = g.C.Lookup.cells c.args.cells.now in
    let bytes = c.self.inside.bytes.now in
    let block : ℕ = c.args.i / 2 ^ c.self.inside.b in
    let t : Samples = record { idle = c.self.inside.idle; shift = c.self.inside.b; ranks = ranks_in bytes } in
    let there = rw (← c.self.view_is) at c.requires.there in
    let read : c.rank_at.result ≡ rank_in bytes block = rw (step_is c.self.inside.b c.self.invariant.1) at c.rank_at.ensures.rank in
    record { rank = rw (← c.self.view_is) (sampled_rank_is t cells c.args.i c.rank_at.result c.rank_after.result (read ∙ rank_in_list bytes block there) c.rank_after.ensures.rank) }
