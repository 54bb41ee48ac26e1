use Rattle.std.proofs.Common.{◌∙◌}
use Rattle.cm_shards_files.proofs.SumLemmas.{loads_from}
use Rattle.cm_shards_files.proofs.file.read_function.Goals as goal

pub returns-clause-loads : goal.returns-clause-loads
returns-clause-loads g c =
    let hashed = c.new-hashed.result in
    let all = c.load_all-loaded in
    rw c.with_sum.ensures.file (loads_from (g.D.Disk.state c.args.disk.now).files c.args.path.now hashed.told hashed.place all.new.source.place hashed.faults all.new.source.faults all.result c.finish-reader.result.1
    (λ files is. rw c.new-hashed.ensures.state (c.in-Ok.ensures.reader files is)) all.ensures.spelled all.ensures.end (rw c.new-hashed.ensures.state c.in-Ok.ensures.fresh) all.ensures.cause (λ quiet bytes is. c.finish-reader.ensures.sum quiet bytes (all.ensures.told ∙ is)))
