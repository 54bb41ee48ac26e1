-- From what the reader of store files says to what a file says that is asked for keys.
use Rattle.std.proofs.Common.{ℕ, List, Result, Err, ap}
use Rattle.std.specs.Result.{result_map_both}
use Rattle.cm_store.specs.Stores.{Store}
use Rattle.cm_store_dump.specs.Asked.{file_in, unloaded_from}
use Rattle.cm_store_dump.specs.declared.files.BadStore.{BadStore}
use Rattle.cm_store_dump.specs.declared.files.StoreFile.{StoreFile}
use Rattle.cm_store_file.specs.Loads.{FailsAs, HasStoreCause}
use Rattle.cm_store_file.specs.StoreFiles.{store_in}
use Rattle.cm_store_file.specs.declared.fault.StoreLoad.{StoreLoad}
use Rattle.cm_store_file.specs.declared.fault.StoreLoad.TheVariants as faults
use Rattle.cm_tool_asking.specs.Loads.{IsLoadCause, IsSpelled}

abbrev as_file : Result Store StoreLoad → Result StoreFile BadStore
as_file read = result_map_both (λ s. record { store = s }) (λ fault. record { fault = fault }) read

-- the cause of a failed load
pub unloaded_cause : (fault : StoreLoad) (r r_now : ℕ) → HasStoreCause {T = Store} r r_now (Err fault) → IsLoadCause r r_now (unloaded_from fault)
unloaded_cause faults.Memory r r_now cause = cause
unloaded_cause faults.Read r r_now cause = cause
unloaded_cause (faults.Truncated at) r r_now cause = cause
unloaded_cause faults.BadMagic r r_now cause = cause
unloaded_cause (faults.BadField at) r r_now cause = cause
unloaded_cause faults.BadIndex r r_now cause = cause
unloaded_cause (faults.BadPlace place) r r_now cause = cause
unloaded_cause (faults.BadRecord at) r r_now cause = cause
unloaded_cause faults.Trailing r r_now cause = cause

-- and what the bytes have then
pub unloaded_by : (fault : StoreLoad) (bytes : List ℕ) → FailsAs fault (store_in bytes) → IsSpelled file_in bytes (Err (unloaded_from fault))
unloaded_by faults.Memory bytes is = tt
unloaded_by faults.Read bytes is = tt
unloaded_by (faults.Truncated at) bytes is = ap as_file is
unloaded_by faults.BadMagic bytes is = ap as_file is
unloaded_by (faults.BadField at) bytes is = ap as_file is
unloaded_by faults.BadIndex bytes is = ap as_file is
unloaded_by (faults.BadPlace place) bytes is = ap as_file is
unloaded_by (faults.BadRecord at) bytes is = ap as_file is
unloaded_by faults.Trailing bytes is = ap as_file is
