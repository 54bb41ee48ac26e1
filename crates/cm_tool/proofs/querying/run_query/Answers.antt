use Rattle.std.proofs.Common.{◌≡◌}
use Rattle.cm_tool.proofs.querying.run_query.Goals as goal

pub returns : goal.returns
returns g c =
    let job = c.args.job.now in
    let keys : c.as_str.result.now ≡ job.keys = c.as_str.ensures.bytes in
    let function : c.as_str-2.result.now ≡ job.function = c.as_str-2.ensures.bytes in
    record { asks = rw (keys, function) at c.ask.ensures.asks }
