use Rattle.std.proofs.Common.{sym, subst}
use Rattle.cm_shards_files.specs.Loading.{DecidesManifest}
use Rattle.cm_shards_files.proofs.ReadLemmas.{fails_by, spells_by}
use Rattle.cm_shards_files.proofs.loading.manifest_of.Goals as goal

pub returns-in-Ok-read_manifest-clause-reads : goal.returns-in-Ok-read_manifest-clause-reads
returns-in-Ok-read_manifest-clause-reads g c = λ files is.
    let decides = subst (DecidesManifest files c.args.path.now) (sym c.as_slice.ensures.value) (c.in-Ok.ensures.decides files is) in
    spells_by files c.args.path.now c.as_slice.result.now c.in-Ok-read_manifest.manifest decides c.in-Ok-read_manifest.ensures.spelled

pub returns-clause-reads : goal.returns-clause-reads
returns-clause-reads g c = λ files is.
    let decides = subst (DecidesManifest files c.args.path.now) (sym c.as_slice.ensures.value) (c.in-Ok.ensures.decides files is) in
    rw c.unread.ensures.fault (fails_by files c.args.path.now c.as_slice.result.now c.in-Err.fault decides c.in-Err.ensures.spelled)
