-- What a store file is that is asked for keys.
use Rattle.std.specs.Prelude.{ℕ, List, [], ◌∷◌, codes, Result}
use Rattle.std.specs.Result.{result_map_both}
use Rattle.cm_io.specs.Writing.{joined}
use Rattle.cm_store_dump.specs.Program.{naming}
use Rattle.cm_store_dump.specs.declared.files.BadStore.{BadStore}
use Rattle.cm_store_dump.specs.declared.files.StoreFile.{StoreFile}
use Rattle.cm_store_file.specs.StoreFiles.{store_in}
use Rattle.cm_store_file.specs.declared.fault.StoreLoad.{StoreLoad}
use Rattle.cm_store_file.specs.declared.fault.StoreLoad.TheVariants as faults
use Rattle.cm_store_values.specs.Written.{store_replies}
use Rattle.cm_store_words.specs.declared.jobs.StoreLook.{StoreLook}
use Rattle.cm_tool_asking.specs.Asking.{Asking}
use Rattle.cm_tool_asking.specs.Meanings.{Meaning}
use Rattle.cm_tool_asking.specs.declared.unloaded.Unloaded.{Unloaded}
use Rattle.cm_tool_asking.specs.declared.unloaded.Unloaded.TheVariants as unloaded
use Rattle.cm_tool_stops.specs.Named.{Named}

-- the message of a file that is no store: the same for each fault
abbrev pub bad_store : BadStore → Named → List ℕ
bad_store bad names = joined (names.program ∷ codes ": " ∷ names.function ∷ codes ": bad store\n" ∷ [])

-- why no store was loaded
abbrev pub unloaded_from : StoreLoad → Unloaded BadStore
unloaded_from faults.Memory = unloaded.Memory
unloaded_from faults.Read = unloaded.Read
unloaded_from fault = unloaded.Bad (record { fault = fault })

-- the store whose file the bytes are, or their first fault
abbrev pub file_in : List ℕ → Result StoreFile BadStore
file_in bytes = result_map_both (λ s. record { store = s }) (λ fault. record { fault = fault }) (store_in bytes)

abbrev pub file_meaning : Meaning StoreFile BadStore
file_meaning = record { spelling = file_in; replies = λ file. store_replies file.store }

-- the look-up of a job
abbrev pub asking_of : StoreLook → Asking StoreFile BadStore
asking_of job = record { named = naming job.keys job.store; first = job.first; end = job.end; meaning = file_meaning; message = bad_store }
