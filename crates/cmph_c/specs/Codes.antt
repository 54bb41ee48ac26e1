-- The codes of faults, and their places.
use Rattle.std.specs.Prelude.{ℕ}
use Rattle.cm_dump_items.specs.declared.fault.LoadFault.{LoadFault}
use Rattle.cm_dump_items.specs.declared.fault.LoadFault.TheVariants as faults
use Rattle.cm_keys_lent.specs.declared.ends.EndsFault.{EndsFault}
use Rattle.cm_keys_lent.specs.declared.ends.EndsFault.TheVariants as ends
use Rattle.cmph_c.specs.declared.codes.Place.{Place}
use Rattle.cmph_c.specs.declared.codes.TheConstants.{MEMORY, TRUNCATED, BAD_MAGIC, BAD_ALGORITHM, BAD_FIELD, BAD_PADDING, BAD_CELL, BAD_COUNT, BAD_RANK, TRAILING, TOO_MANY_KEYS, BAD_END}

-- a place with nothing more to say than a number
abbrev pub at_only : ℕ → Place
at_only at = record { at = at; again = 0 }

-- the code of a fault of the bytes of a function
abbrev pub code_by : LoadFault → ℕ
code_by (faults.Truncated at) = TRUNCATED
code_by faults.BadMagic = BAD_MAGIC
code_by faults.BadAlgorithm = BAD_ALGORITHM
code_by (faults.BadField at) = BAD_FIELD
code_by (faults.BadPadding at) = BAD_PADDING
code_by (faults.BadCell at) = BAD_CELL
code_by (faults.BadCount at) = BAD_COUNT
code_by (faults.BadRank at) = BAD_RANK
code_by faults.Trailing = TRAILING
code_by fault = MEMORY

-- and its offset
abbrev pub place_by : LoadFault → ℕ
place_by (faults.Truncated at) = at
place_by faults.BadAlgorithm = 8
place_by (faults.BadField at) = at
place_by (faults.BadPadding at) = at
place_by (faults.BadCell at) = at
place_by (faults.BadCount at) = at
place_by (faults.BadRank at) = at
place_by fault = 0

-- the code of a fault of the ends of keys
abbrev pub ends_code : EndsFault → ℕ
ends_code ends.TooMany = TOO_MANY_KEYS
ends_code (ends.BadEnd key) = BAD_END

-- and the index of the key
abbrev pub ends_place : EndsFault → ℕ
ends_place ends.TooMany = 0
ends_place (ends.BadEnd key) = key
