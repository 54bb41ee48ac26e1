-- What a test job does: over generated keys each algorithm builds a function, which is saved and loaded, and answers every key.
use Rattle.std.specs.Prelude.{ℕ, List, [], ◌∷◌, ◌++◌, codes, decimal, length, None, Result, Ok, Err}
use Rattle.cm_algo_names.specs.Names.{name_of}
use Rattle.cm_algo_names.specs.declared.algorithm.Algorithm.{Algorithm}
use Rattle.cm_algo_names.specs.declared.algorithm.Algorithm.TheVariants.{Bdz, Brz}
use Rattle.cm_dump.specs.Dumps.{dump_of}
use Rattle.cm_func.specs.Functions.{answer_by}
use Rattle.cm_func.specs.declared.function.Func.{Func}
use Rattle.cm_keys.specs.declared.keys.TheConstants.{LINE_END}
use Rattle.cm_keys_made.specs.Texts.{made_text}
use Rattle.cm_words_values.specs.Options.{algorithms, usual_ratio}
use Rattle.cm_io.specs.Files.{Files}
use Rattle.cm_io.specs.Passes.{Told}
use Rattle.cm_io.specs.Writing.{joined}
use Rattle.cm_query.specs.Sums.{answer_sum}
use Rattle.cm_keys.specs.Lines.{keys_in}
use Rattle.cm_tool.specs.Ending.{Outcome, printing, reporting}
use Rattle.cm_tool_cells.specs.Seeds.{seeds_of}
use Rattle.cm_tool_builds.specs.Results.{FailureReport, result_by}
use Rattle.cm_tool_builds.specs.declared.plan.Plan.{Plan}
use Rattle.cm_words.specs.declared.jobs.TestJob.{TestJob}

-- the default parameter b
abbrev pub usual_b : Algorithm → ℕ
usual_b Bdz = 7
usual_b Brz = 128
usual_b algorithm = 0

-- how an algorithm is tested: as by a build with all defaults except the buffer
abbrev pub test_plan : Algorithm → ℕ → Plan
test_plan algorithm buffer = record { algorithm = algorithm; c = usual_ratio algorithm; b = usual_b algorithm; buffer = buffer }

-- n generated keys, one a line
unfoldable pub generated : ℕ → Told
generated n = keys_in None LINE_END (made_text n)

-- the line of a function that was built over n keys: its algorithm, how many keys, how many bytes its dump has, and the sum of its answers
abbrev pub line_text : Algorithm → ℕ → ℕ → ℕ → List ℕ
line_text algorithm n bytes sum = joined (name_of algorithm ∷ codes " " ∷ decimal n ∷ codes " " ∷ decimal bytes ∷ codes " " ∷ decimal sum ∷ codes "\n" ∷ [])

unfoldable pub test_line : Algorithm → ℕ → Func → List (ℕ × List ℕ) → List ℕ
test_line algorithm n f keys = line_text algorithm n (length (dump_of f)) (answer_sum (answer_by f) keys)

-- the function of an algorithm over the keys of a job, or what is shown of keys that have none
unfoldable pub test_result : TestJob → Algorithm → Result Func FailureReport
test_result job algorithm = result_by algorithm (usual_b algorithm) (generated job.keys).keys (usual_ratio algorithm) (seeds_of job.seed job.count)

-- an algorithm is tested, and what the further ones come to counts only if it has a function
abbrev pub tested_then : TestJob → Algorithm → Files → Result Func FailureReport → Outcome → Outcome
tested_then job algorithm files (Ok f) next = record next { out = test_line algorithm job.keys f (generated job.keys).keys ++ next.out }
tested_then job algorithm files (Err shown) next = reporting files shown

-- the outcome of a test by these algorithms, in this order
abbrev pub tested_by : TestJob → Files → List Algorithm → Outcome
tested_by job files [] = printing [] files
tested_by job files (algorithm ∷ next) = tested_then job algorithm files (test_result job algorithm) (tested_by job files next)

-- and by all algorithms
abbrev pub test_outcome : TestJob → Files → Outcome
test_outcome job files = tested_by job files algorithms
