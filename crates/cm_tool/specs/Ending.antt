-- What the jobs of `cmph` come to.
use Rattle.cm_io.specs.Files.{Files}
pub use Rattle.cm_tool_stops.specs.Ending.{Outcome, printing, refusal}
use Rattle.cm_tool.specs.Said.{cmph}
use Rattle.cm_tool_stops.specs.Messages.{seed_failure_message}
use Rattle.cm_tool_builds.specs.Results.{FailureReport}

-- out gets the report, and err says why there is no function
abbrev pub reporting : Files → FailureReport → Outcome
reporting files shown = record { status = 1; out = shown.report; err = seed_failure_message cmph shown.failure; files = files }
