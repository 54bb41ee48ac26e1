use Rattle.std.proofs.Common.{◌≡◌, ◌≤◌, ◌*◌, length, take}
use Rattle.cm_dump.specs.Dumps.{buckets_image}
use Rattle.cm_dump.specs.Forms.{version_2}
use Rattle.cm_dump.proofs.buckets.buckets_len.Given as goal

abbrev pub invariant-loop-j : goal.invariant-loop-j
invariant-loop-j l = record {
  is : l.len ≡ length (buckets_image version_2 (take l.j l.brz.buckets));
  near : l.len ≤ 268435456 * l.j;
}
