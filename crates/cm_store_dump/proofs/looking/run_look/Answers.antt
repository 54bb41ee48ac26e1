use Rattle.std.proofs.Common.{◌≡◌}
use Rattle.cm_store_dump.proofs.looking.run_look.Goals as goal

pub returns : goal.returns
returns g c =
    let keys : c.as_str.result.now ≡ c.args.job.now.keys = c.as_str.ensures.bytes in
    let store : c.as_str-2.result.now ≡ c.args.job.now.store = c.as_str-2.ensures.bytes in
    record { asks = rw (keys, store) at c.ask.ensures.asks }
