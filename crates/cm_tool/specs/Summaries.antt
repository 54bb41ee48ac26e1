-- What is said of a function.
use Rattle.std.specs.Prelude.{length}
use Rattle.cm_func.specs.declared.function.Func.{Func}
use Rattle.cm_func.specs.declared.function.Func.TheVariants as func
use Rattle.cm_tool.specs.declared.built.Summary.{Summary}

-- how many keys and cells a function has, or for BRZ keys and buckets, and its seed, for BRZ that of the split
abbrev pub summary_of : Func → Summary
summary_of (func.Chm f) = record { keys = f.keys; cells = length f.cells; seed = f.seed }
summary_of (func.Bdz f) = record { keys = f.keys; cells = length f.cells; seed = f.seed }
summary_of (func.BdzPh f) = record { keys = f.keys; cells = length f.cells; seed = f.seed }
summary_of (func.Brz f) = record { keys = f.keys; cells = length f.buckets; seed = f.split }
