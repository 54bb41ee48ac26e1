-- What a query of `cmph` asks, for the driver of queries.
use Rattle.cm_dump_items.specs.declared.fault.LoadFault.{LoadFault}
use Rattle.cm_tool_asking.specs.Asking.{Asking}
use Rattle.cm_tool_files.specs.Asked.{func_meaning}
use Rattle.cm_tool_files.specs.declared.asked.AskedFunc.{AskedFunc}
use Rattle.cm_tool_stops.specs.Messages as messages
use Rattle.cm_tool.specs.Said.{naming}
use Rattle.cm_words.specs.declared.jobs.QueryJob.{QueryJob}

-- the query of a job
abbrev pub asking_of : QueryJob → Asking AskedFunc LoadFault
asking_of job = record {
  named = naming job.keys job.function;
  first = job.first;
  end = job.end;
  meaning = func_meaning;
  message = λ fault names. messages.bad_dump names.program names.function fault;
}
