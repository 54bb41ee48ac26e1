use Rattle.std.proofs.Common.{◌≡◌, ◌-◌, ◌≤◌, ℕ, length, true}
use Rattle.cm_keys.specs.Streams.{told_by}
use Rattle.cm_shards_files.specs.declared.taken.TheConstants.{MOST_KEYS}
use Rattle.cm_shards_query.specs.Taking.{HasTaken}
use Rattle.cm_shards_query.proofs.taking.gather.Given as goal

abbrev pub invariant-more : goal.invariant-more
invariant-more g l = record {
  ready : l.lines.usable ≡ true;
  same : told_by l.lines ≡ told_by l.fn.lines;
  quiet : l.lines.faults ≡ l.fn.lines.faults;
  some : length l.fn.keys ≤ length l.keys;
  takes : (before : ℕ) → HasTaken before l.fn.keys l.fn.lines → HasTaken before l.keys l.lines;
}

abbrev pub decreases-more : goal.decreases-more
decreases-more g l = MOST_KEYS - length l.keys
