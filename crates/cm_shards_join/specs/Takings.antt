-- The functions that were taken so far, as the code keeps them.
use Rattle.std.specs.Prelude.{◌≡◌, ◌≤◌, ◌*◌, length}
use Rattle.cm_shards_join.specs.Taking.{Taken}
use Rattle.cm_shards_join.specs.declared.taking.Taking.{Taking}
use Rattle.cm_shards_manifest.specs.Manifests.{AreShards, spans}
use Rattle.cm_spec.specs.declared.limits.TheConstants.{MAX_VERTICES}

abbrev pub taken_by : Taking → Taken
taken_by t = record { algorithm = t.algorithm; shards = t.shards.items }

-- their offsets are the sums of spans, and the sum of all spans is at hand
pub record IsTaking (t : Taking) : Type 0 where
  pub are : AreShards 0 t.shards.items
  pub total : t.total ≡ spans t.shards.items
  pub few : t.total ≤ length t.shards.items * MAX_VERTICES
