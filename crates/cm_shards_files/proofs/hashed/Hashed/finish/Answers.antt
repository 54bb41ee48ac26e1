use Rattle.std.proofs.Common.{take}
use Rattle.cm_shards_files.proofs.hashed.Hashed.finish.Goals as goal

pub returns-clause-sum : goal.returns-clause-sum
returns-clause-sum g c = rw (← c.self.view_is) (λ quiet x is.
    let has = c.self.invariant quiet x is in
    record {
      len = has.counted;
      inside = has.inside;
      digest = c.finalize-digest.ensures (take (g.S.Source.place c.self.inside.source) x) has.holds;
    })
