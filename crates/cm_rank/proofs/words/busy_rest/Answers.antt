use Rattle.std.proofs.Common.{◌≡◌, ◌+◌, ◌-◌, arith}
use Rattle.cm_rank.proofs.WordLemmas.{word_busy}
use Rattle.cm_rank.proofs.words.busy_rest.Goals as goal

pub returns-then-from-bytes : goal.returns-then-from-bytes
returns-then-from-bytes g c =
    let cells = g.C.Lookup.cells c.args.cells.now in
    let end : c.args.from + (c.args.until - c.args.from) ≡ c.args.until = omega (arith, c.requires.order) in
    let busy = word_busy cells c.cell_bytes-bytes.result.now c.args.from (c.args.until - c.args.from) c.busy_at.result c.cell_bytes-bytes.ensures.cells c.requires.whole (omega (arith, end, c.requires.inside)) c.busy_at.ensures.busy in
    record { busy = rw end at busy }
