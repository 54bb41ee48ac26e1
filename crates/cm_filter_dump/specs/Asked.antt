-- What a filter file is that is asked for keys.
use Rattle.std.specs.Prelude.{ℕ, List, Result}
use Rattle.std.specs.Result.{result_map_both}
use Rattle.cm_dump_items.specs.declared.fault.LoadFault.{LoadFault}
use Rattle.cm_dump_items.specs.declared.fault.LoadFault.TheVariants as load_faults
use Rattle.cm_filter_dump.specs.Program.{naming}
use Rattle.cm_filter_dump.specs.declared.files.BadFilter.{BadFilter}
use Rattle.cm_filter_dump.specs.declared.files.FilterFile.{FilterFile}
use Rattle.cm_filter_file.specs.FilterFiles.{filter_in}
use Rattle.cm_filter_file.specs.declared.fault.FilterFault.{FilterFault}
use Rattle.cm_filter_file.specs.declared.fault.FilterFault.TheVariants as faults
use Rattle.cm_filter_members.specs.Written.{filter_replies}
use Rattle.cm_filter_words.specs.declared.jobs.FilterTest.{FilterTest}
use Rattle.cm_tool_asking.specs.Asking.{Asking}
use Rattle.cm_tool_asking.specs.Meanings.{Meaning}
use Rattle.cm_tool_asking.specs.declared.unloaded.Unloaded.{Unloaded}
use Rattle.cm_tool_asking.specs.declared.unloaded.Unloaded.TheVariants as unloaded
use Rattle.cm_tool_stops.specs.Messages.{bad_dump}
use Rattle.cm_tool_stops.specs.Named.{Named}

-- the same fault of a function file
abbrev pub load_fault_of : FilterFault → LoadFault
load_fault_of faults.Memory = load_faults.Memory
load_fault_of faults.Read = load_faults.Read
load_fault_of (faults.Truncated at) = load_faults.Truncated at
load_fault_of faults.BadMagic = load_faults.BadMagic
load_fault_of (faults.BadField at) = load_faults.BadField at
load_fault_of (faults.BadPadding at) = load_faults.BadPadding at
load_fault_of faults.Trailing = load_faults.Trailing

-- the message of a file that is no filter: that of a function file with this fault
abbrev pub bad_filter : BadFilter → Named → List ℕ
bad_filter bad names = bad_dump names.program names.function (load_fault_of bad.fault)

-- why no filter was loaded
abbrev pub unloaded_from : FilterFault → Unloaded BadFilter
unloaded_from faults.Memory = unloaded.Memory
unloaded_from faults.Read = unloaded.Read
unloaded_from fault = unloaded.Bad (record { fault = fault })

-- the filter whose file the bytes are, or their first fault
abbrev pub file_in : List ℕ → Result FilterFile BadFilter
file_in bytes = result_map_both (λ f. record { filter = f }) (λ fault. record { fault = fault }) (filter_in bytes)

abbrev pub file_meaning : Meaning FilterFile BadFilter
file_meaning = record { spelling = file_in; replies = λ file. filter_replies file.filter }

-- the test of keys of a job
abbrev pub asking_of : FilterTest → Asking FilterFile BadFilter
asking_of job = record { named = naming job.keys job.filter; first = job.first; end = job.end; meaning = file_meaning; message = bad_filter }
