-- What is said on err. Each message begins with the name of the program that is given.
use Rattle.std.specs.Prelude.{ℕ, List, [], ◌∷◌, Option, None, Some, codes, decimal}
use Rattle.cm_dump_items.specs.declared.fault.LoadFault.{LoadFault}
use Rattle.cm_dump_items.specs.declared.fault.LoadFault.TheVariants as faults
use Rattle.cm_io.specs.Writing.{joined}
use Rattle.cm_io.specs.declared.key_pass.KeyFault.{KeyFault}
use Rattle.cm_io.specs.declared.key_pass.KeyFault.TheVariants.{Read, TooLong, TooMany}
use Rattle.cm_spec.specs.declared.limits.TheConstants.{MAX_BUCKET, MAX_KEYS}
use Rattle.cm_witness_gather.specs.declared.failure.SeedFailure.{SeedFailure}
use Rattle.cm_witness_gather.specs.declared.failure.SeedFailure.TheVariants.{NoSeed, NoSeedFor, NoSplit}
use Rattle.cm_words_arguments.specs.declared.fault.UsageFault.{UsageFault}
use Rattle.cm_words_arguments.specs.declared.fault.UsageFault.TheVariants as usage

abbrev pub out_of_memory : List ℕ → List ℕ
out_of_memory program = joined (program ∷ codes ": out of memory\n" ∷ [])

-- what is wrong with arguments that ask for no job; a hint follows where they are refused as a whole
abbrev pub usage_message : List ℕ → List ℕ → UsageFault → List ℕ
usage_message program hint usage.Memory = out_of_memory program
usage_message program hint usage.Words = joined (program ∷ codes ": bad arguments" ∷ hint ∷ codes "\n" ∷ [])
usage_message program hint (usage.BadValue letter) = joined (program ∷ codes ": bad value of -" ∷ (letter ∷ []) ∷ codes "\n" ∷ [])
usage_message program hint usage.NoFile = joined (program ∷ codes ": no keys file\n" ∷ [])

-- why keys have no function
abbrev pub seed_failure_message : List ℕ → SeedFailure → List ℕ
seed_failure_message program NoSeed = joined (program ∷ codes ": no seed of the list gives an empty core\n" ∷ [])
seed_failure_message program (NoSeedFor bucket) = joined (program ∷ codes ": bucket " ∷ decimal bucket ∷ codes " has no seed with an empty core\n" ∷ [])
seed_failure_message program NoSplit = joined (program ∷ codes ": every split has a bucket with more than " ∷ decimal MAX_BUCKET ∷ codes " keys\n" ∷ [])

abbrev pub cannot_read : List ℕ → List ℕ → List ℕ
cannot_read program file = joined (program ∷ codes ": " ∷ file ∷ codes ": cannot read\n" ∷ [])

abbrev pub cannot_write : List ℕ → List ℕ → List ℕ
cannot_write program file = joined (program ∷ codes ": " ∷ file ∷ codes ": cannot write\n" ∷ [])

abbrev pub cannot_write_out : List ℕ → List ℕ
cannot_write_out program = joined (program ∷ codes ": cannot write standard output\n" ∷ [])

abbrev pub cannot_use_spill : List ℕ → List ℕ → List ℕ
cannot_use_spill program dir = joined (program ∷ codes ": " ∷ dir ∷ codes ": cannot use the spill file\n" ∷ [])

abbrev pub spill_damaged : List ℕ → List ℕ → ℕ → ℕ → ℕ → List ℕ
spill_damaged program dir offset expected found = joined (program ∷ codes ": " ∷ dir ∷ codes ": spill damaged at " ∷ decimal offset ∷ codes ": expected " ∷ decimal expected ∷ codes ", found " ∷ decimal found ∷ codes "\n" ∷ [])

-- what is wrong with bytes that are no dump
abbrev pub fault_words : LoadFault → List ℕ
fault_words faults.Memory = codes "out of memory"
fault_words faults.Read = codes "cannot read"
fault_words (faults.Truncated at) = codes "truncated at "
fault_words faults.BadMagic = codes "bad magic"
fault_words faults.BadAlgorithm = codes "bad algorithm"
fault_words (faults.BadField at) = codes "bad field at "
fault_words (faults.BadPadding at) = codes "bad padding at "
fault_words (faults.BadCell at) = codes "bad cell at "
fault_words (faults.BadCount at) = codes "bad count at "
fault_words (faults.BadRank at) = codes "bad rank at "
fault_words faults.Trailing = codes "trailing bytes"

-- at which byte it is wrong, if one is named
abbrev pub fault_place : LoadFault → Option ℕ
fault_place faults.Memory = None
fault_place faults.Read = None
fault_place (faults.Truncated at) = Some at
fault_place faults.BadMagic = None
fault_place faults.BadAlgorithm = None
fault_place (faults.BadField at) = Some at
fault_place (faults.BadPadding at) = Some at
fault_place (faults.BadCell at) = Some at
fault_place (faults.BadCount at) = Some at
fault_place (faults.BadRank at) = Some at
fault_place faults.Trailing = None

-- a place in decimal, if there is one
abbrev pub place_text : Option ℕ → List ℕ
place_text None = []
place_text (Some at) = decimal at

abbrev pub bad_dump : List ℕ → List ℕ → LoadFault → List ℕ
bad_dump program file fault = joined (program ∷ codes ": " ∷ file ∷ codes ": bad dump: " ∷ fault_words fault ∷ place_text (fault_place fault) ∷ codes "\n" ∷ [])

abbrev pub keys_changed : List ℕ → List ℕ → ℕ → ℕ → List ℕ
keys_changed program file first again = joined (program ∷ codes ": " ∷ file ∷ codes ": keys changed: " ∷ decimal first ∷ codes ", then " ∷ decimal again ∷ codes "\n" ∷ [])

abbrev pub no_keys : List ℕ → List ℕ → List ℕ
no_keys program file = joined (program ∷ codes ": " ∷ file ∷ codes ": no keys\n" ∷ [])

abbrev pub line_too_long : List ℕ → List ℕ → ℕ → List ℕ
line_too_long program file line = joined (program ∷ codes ": " ∷ file ∷ codes ": line " ∷ decimal line ∷ codes " is too long\n" ∷ [])

abbrev pub too_many_keys : List ℕ → List ℕ → List ℕ
too_many_keys program file = joined (program ∷ codes ": " ∷ file ∷ codes ": more than " ∷ decimal MAX_KEYS ∷ codes " keys\n" ∷ [])

abbrev pub records_too_large : List ℕ → List ℕ → ℕ → List ℕ
records_too_large program file line = joined (program ∷ codes ": " ∷ file ∷ codes ": records are too large at line " ∷ decimal line ∷ codes "\n" ∷ [])

-- what is said of the fault at the end of the keys
abbrev pub fault_message : List ℕ → List ℕ → KeyFault → List ℕ
fault_message program file Read = cannot_read program file
fault_message program file (TooLong line) = line_too_long program file line
fault_message program file TooMany = too_many_keys program file
