use Rattle.std.proofs.Common.{◌≡◌, ◌+◌, ◌*◌, ◌/◌, ◌^◌, arith}
use Rattle.cm_rank.proofs.RankLemmas.{step_is}
use Rattle.cm_rank.specs.Ranks.{rank_of}
use Rattle.cm_rank.proofs.after.rank_after.Goals as goal

pub returns : goal.returns
returns g c =
    let cells = g.C.Lookup.cells c.args.cells.now in
    let busy : rank_of c.args.idle cells (c.args.i / 2 ^ c.args.b * 2 ^ c.args.b) + c.count_after.result ≡ rank_of c.args.idle cells c.args.i = rw (step_is c.args.b c.requires.small) at c.count_after.ensures.busy in
    record { rank = omega (arith, busy, c.saturating_add.ensures) }
