use Rattle.std.proofs.Common.{◌≡◌, ◌≤◌, ◌+◌, ◌*◌, ℕ, List, true, length, sum, take}
use Rattle.cm_brz.specs.BrzOf.{AreBuilt}
use Rattle.cm_brz_split.specs.Puts.{keys_in_bucket}
use Rattle.cm_brz_split.specs.Records.{Record}
use Rattle.cm_brz_func.specs.Functions.{keys_in}
use Rattle.cm_brz.proofs.buckets.build_buckets.Given as goal

abbrev pub invariant-loop-j : goal.invariant-loop-j
invariant-loop-j g l =
    let B = g.B.Store in
    record {
      usable : B.usable l.store ≡ true;
      sealed_still : B.sealed l.store ≡ true;
      asks : B.may_ask l.store l.j;
      none : (i : ℕ) → l.j ≤ i → (B.given l.store i ≡ 0) × (B.given_last l.store i ≡ 0);
      known_still : B.known l.store ≡ B.known l.fn.store;
      still : B.faults l.store ≡ B.faults l.fn.store;
      same : l.parts ≡ record l.fn.parts { buckets = l.parts.buckets };
      count : length l.parts.buckets ≡ l.j;
      held : keys_in l.parts.buckets ≡ sum (take l.j l.sizes);
      steps : l.steps ≤ l.fn.steps + 24 * sum (take l.j l.sizes) * length l.seeds;
      holds : (records : List Record) → B.holds l.fn.store records → B.holds l.store records;
      built : (records : List Record) → B.holds l.fn.store records → AreBuilt (keys_in_bucket records) l.fn.parts.ratio l.seeds l.parts.buckets;
    }
