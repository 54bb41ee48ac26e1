-- The numbers of keys that are split into shards, each of which has a function of its own.
use Rattle.std.specs.Prelude.{◌≡◌, ◌+◌, ◌≤◌, ◌<◌, ℕ, List, [], All, length, take, slice_index_or, Option, option_map}
use Rattle.std.specs.List.{concat, sum_by}
use Rattle.cm_func.specs.Functions.{IsFunction, answer_by, place_by, span_by}
use Rattle.cm_func.specs.declared.function.Func.{Func}
use Rattle.cm_func.specs.declared.function.Func.TheVariants as func
use Rattle.cm_io.specs.declared.key_pass.TheConstants.{MAX_KEY_LEN}
use Rattle.cm_route.specs.Routes.{Route, shard_of}
use Rattle.cm_route.specs.declared.route.TheConstants.{MAX_SHARDS}
use Rattle.cm_shards_files.specs.FunctionFiles.{keys_by}
use Rattle.cm_shards_files.specs.declared.taken.TheConstants.{MOST_KEYS}

-- the route of keys into shards, and the functions of the shards, in their order
pub record Sharded : Type 0 where
  pub route : Route
  pub functions : List Func

-- each shard has a function
pub record IsSharded (s : Sharded) : Type 0 where
  pub some : 1 ≤ s.route.shards
  pub few : s.route.shards ≤ MAX_SHARDS
  pub each : length s.functions ≡ s.route.shards
  pub valid : All IsFunction s.functions

-- the value of an index past the end
abbrev pub no_function : Func
no_function = func.Bdz (record { keys = 0; ratio = 0; seed = 0; shift = 0; cells = [] })

-- the function of shard k, counted from 0
abbrev pub function_at : List Func → ℕ → Func
function_at functions k = slice_index_or functions k no_function

-- the numbers of shard k begin after those of the shards before it
abbrev pub offset_of : List Func → ℕ → ℕ
offset_of functions k = sum_by span_by (take k functions)

-- all numbers are below the sum of the spans
abbrev pub total_of : Sharded → ℕ
total_of s = sum_by span_by s.functions

-- how many keys the functions were built over
abbrev pub key_total : Sharded → ℕ
key_total s = sum_by keys_by s.functions

-- the number of a key of shard k: what the function of this shard answers, after the numbers of the shards before it
abbrev pub number_by : List Func → ℕ → List ℕ → Option ℕ
number_by functions k key = option_map (λ v. offset_of functions k + v) (answer_by (function_at functions k) key)

-- the number of a key, by its shard
abbrev pub number_in : Sharded → List ℕ → Option ℕ
number_in s key = number_by s.functions (shard_of s.route key) key

-- where the function of a key's shard looks it up
abbrev pub place_in : Sharded → List ℕ → List ℕ
place_in s key = place_by (function_at s.functions (shard_of s.route key)) key

-- one more key of any length has room beside these
abbrev pub HasRoom : List (List ℕ) → Type 0
HasRoom keys = (length keys < MOST_KEYS) × (length (concat keys) ≤ MAX_KEY_LEN)
