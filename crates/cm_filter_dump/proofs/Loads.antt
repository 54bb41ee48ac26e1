-- From what the reader of filter files says to what a file says that is asked for keys.
use Rattle.std.proofs.Common.{ℕ, List, Result, Err, ap}
use Rattle.std.specs.Result.{result_map_both}
use Rattle.cm_filter.specs.Filters.{Filter}
use Rattle.cm_filter_dump.specs.Asked.{file_in, unloaded_from}
use Rattle.cm_filter_dump.specs.declared.files.BadFilter.{BadFilter}
use Rattle.cm_filter_dump.specs.declared.files.FilterFile.{FilterFile}
use Rattle.cm_filter_file.specs.Loads.{HasFilterCause, IsFault}
use Rattle.cm_filter_file.specs.declared.fault.FilterFault.{FilterFault}
use Rattle.cm_filter_file.specs.declared.fault.FilterFault.TheVariants as faults
use Rattle.cm_tool_asking.specs.Loads.{IsLoadCause, IsSpelled}

abbrev as_file : Result Filter FilterFault → Result FilterFile BadFilter
as_file read = result_map_both (λ f. record { filter = f }) (λ fault. record { fault = fault }) read

-- the cause of a failed load
pub unloaded_cause : (fault : FilterFault) (r r_now : ℕ) → HasFilterCause {T = Filter} r r_now (Err fault) → IsLoadCause r r_now (unloaded_from fault)
unloaded_cause faults.Memory r r_now cause = cause
unloaded_cause faults.Read r r_now cause = cause
unloaded_cause (faults.Truncated at) r r_now cause = cause
unloaded_cause faults.BadMagic r r_now cause = cause
unloaded_cause (faults.BadField at) r r_now cause = cause
unloaded_cause (faults.BadPadding at) r r_now cause = cause
unloaded_cause faults.Trailing r r_now cause = cause

-- and what the bytes have then
pub unloaded_by : (fault : FilterFault) (bytes : List ℕ) → IsFault bytes fault → IsSpelled file_in bytes (Err (unloaded_from fault))
unloaded_by faults.Memory bytes is = tt
unloaded_by faults.Read bytes is = tt
unloaded_by (faults.Truncated at) bytes is = ap as_file is
unloaded_by faults.BadMagic bytes is = ap as_file is
unloaded_by (faults.BadField at) bytes is = ap as_file is
unloaded_by (faults.BadPadding at) bytes is = ap as_file is
unloaded_by faults.Trailing bytes is = ap as_file is
