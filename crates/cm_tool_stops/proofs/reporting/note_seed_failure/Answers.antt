use Rattle.std.proofs.Common.{rules, ◌≡◌}
use Rattle.std.specs.Prelude.{decimal}
use Rattle.cm_spec.specs.declared.limits.TheConstants.{MAX_BUCKET}
use Rattle.cm_tool_stops.proofs.reporting.note_seed_failure.Goals as goal

pub returns-in-NoSeed-clause-noted : goal.returns-in-NoSeed-clause-noted
returns-in-NoSeed-clause-noted g c = rw c.in-NoSeed.is c.note_pieces.ensures.noted

pub returns-in-NoSeedFor-clause-noted : goal.returns-in-NoSeedFor-clause-noted
returns-in-NoSeedFor-clause-noted g c =
    let number : c.as_bytes-text.result.now ≡ decimal c.in-NoSeedFor.bucket = search rules in
    rw c.in-NoSeedFor.is (rw number at c.note_pieces-in-NoSeedFor.ensures.noted)

pub returns-in-NoSplit-clause-noted : goal.returns-in-NoSplit-clause-noted
returns-in-NoSplit-clause-noted g c =
    let number : c.as_bytes-text-in-NoSplit.result.now ≡ decimal MAX_BUCKET = search rules in
    rw c.in-NoSplit.is (rw number at c.note_pieces-in-NoSplit.ensures.noted)
