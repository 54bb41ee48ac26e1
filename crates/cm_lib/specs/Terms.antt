-- The definitions that the clauses of a caller need, from the crates below.

-- the keys of a text: `keys_in first end bytes` are the lines of the bytes, each with its number, and the fault at their end
pub use Rattle.cm_io.specs.Passes.{Told}
pub use Rattle.cm_keys.specs.Lines.{keys_in}
pub use Rattle.cm_spec.specs.Built.{key_at}
-- keys in memory: `keys_in bytes ends` are those that stand one after another, each up to its end
pub use Rattle.cm_keys_lent.specs.Pass.{FailsEnds, IsLentPass, LentPass}
pub use Rattle.cm_keys_lent.specs.Ends as lent
-- builds: the algorithms, the ranges of a plan, the function of keys, and why there is none
pub use Rattle.cm_algo_names.specs.declared.algorithm.Algorithm.TheVariants.{Bdz, BdzPh, Brz, Chm}
pub use Rattle.cm_tool_builds.specs.Plans.{IsPlan}
pub use Rattle.cm_tool_builds.specs.FuncOf.{IsFuncOf}
pub use Rattle.cm_tool_builds.specs.Faults.{FailsFunc, HasFuncCause, HasFuncForm}
-- functions: what one keeps, what it answers and below which number, and that the answers to its own keys are apart
pub use Rattle.cm_func.specs.declared.function.Func.{Func}
pub use Rattle.cm_func.specs.Functions.{IsFunction, answer_by, span_by}
pub use Rattle.cm_bdz.specs.Numbering.{AnswersApart}
-- keys that are looked up together
pub use Rattle.cm_query_batch.specs.Waiting.{AreAnswers, Refills, RefillsBy, WaitingKeys}
-- dumps: the bytes of a function, the function that bytes spell, and how a load fails
pub use Rattle.cm_dump.specs.Dumps.{dump_of}
pub use Rattle.cm_dump.specs.Spelling.{spelling_of}
pub use Rattle.cm_dump_items.specs.Reading.{Fails}
-- lent memory: the function that bytes are and why they are none, builds into a buffer, how many bytes that takes, and the numbers and shards of many keys
pub use Rattle.cm_dump_lent.specs.Opened.{IsOpenFault, LacksIndex, func_by, lent_answer}
pub use Rattle.cm_lib_lent.specs.Builds.{FailsLent, FailsSpilled, IsLentFunc, IsLentKind, IsSaved, IsSpilledKind, spill_len_of, told_of}
pub use Rattle.cm_lib_lent.specs.Numbers.{ArePut, number_or_none}
pub use Rattle.cm_lib_lent.specs.Rooms.{dump_len_by}
pub use Rattle.cm_route.specs.Routes.{shard_of}
-- what a pass, a source or a sink of a caller's own has to keep
pub use Rattle.cm_spec.specs.declared.limits.TheConstants.{MAX_KEYS}
pub use Rattle.cm_io.specs.declared.key_pass.TheConstants.{MAX_KEY_LEN}
pub use Rattle.cm_spec.specs.Lookup2.{words}
pub use Rattle.cm_io.specs.Passes.{GivesFour, GivesKey, HasKeyCause, PassesKeys, failure_of}
pub use Rattle.cm_io.specs.Causes.{HasCause}
pub use Rattle.cm_io.specs.Reading.{Gives}
pub use Rattle.cm_io.specs.States.{SinkState}
pub use Rattle.cm_io.specs.Writing.{Writes}
