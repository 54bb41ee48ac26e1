use Rattle.std.proofs.Common.{◌≡◌}
use Rattle.cm_filter_dump.proofs.testing.run_test.Goals as goal

pub returns : goal.returns
returns g c =
    let keys : c.as_str.result.now ≡ c.args.job.now.keys = c.as_str.ensures.bytes in
    let filter : c.as_str-2.result.now ≡ c.args.job.now.filter = c.as_str-2.ensures.bytes in
    record { asks = rw (keys, filter) at c.ask.ensures.asks }
