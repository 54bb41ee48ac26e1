-- How many bytes dumps have, before anything is built.
use Rattle.std.specs.Prelude.{ℕ, ◌+◌, ◌*◌, ◌^◌}
use Rattle.std.specs.Int.{div_ceil}
use Rattle.cm_algo_names.specs.declared.algorithm.Algorithm.{Algorithm}
use Rattle.cm_algo_names.specs.declared.algorithm.Algorithm.TheVariants.{Bdz, BdzPh, Brz, Chm}
use Rattle.cm_dump.specs.declared.header.TheConstants.{HEADER_LEN}
use Rattle.cm_spec.specs.Bdz.{bdz_size}
use Rattle.cm_spec.specs.Chm.{chm_size}
use Rattle.cm_spec.specs.Image.{fields_len, packed_len, width_of}
use Rattle.cm_tool_builds.specs.declared.plan.Plan.{Plan}

-- How many bytes the dump of a function of some keys has after its header, by the algorithm, its parameter b and the ratio: the image of the
-- cells, and by BDZ the rank of every 2^b-th of them, in four bytes each. By BRZ it is not a matter of these numbers alone, and 0 stands for it.
abbrev pub body_len_by : Algorithm → ℕ → ℕ → ℕ → ℕ
body_len_by Chm b c keys = fields_len (width_of keys) (chm_size keys c)
body_len_by Bdz b c keys = packed_len 4 (bdz_size keys c) + 4 * div_ceil (bdz_size keys c) (2 ^ b)
body_len_by BdzPh b c keys = packed_len 5 (bdz_size keys c)
body_len_by Brz b c keys = 0

-- how many bytes the dump of a function of some keys has that is built by this plan: by CHM, BDZ or BDZ_PH
abbrev pub dump_len_by : Plan → ℕ → ℕ
dump_len_by plan keys = HEADER_LEN + body_len_by plan.algorithm plan.b plan.c keys
