-- A job and bytes for the worked examples.
use Rattle.std.specs.Prelude.{None, Some, codes}
use Rattle.cm_shards_words.specs.declared.jobs.SplitJob.{SplitJob}
use Rattle.cm_words_values.specs.declared.limits.TheConstants.{LINE_FEED, ZERO_BYTE}

-- the job of `cmph_shards -n 2 -d d k`
abbrev pub plain_job : SplitJob
plain_job = record { keys = codes "k"; dir = codes "d"; shards = 2; first = None; end = LINE_FEED }

-- and that of `cmph_shards -n 2 -d d -z -k 2 k`
abbrev pub zero_job : SplitJob
zero_job = record { keys = codes "k"; dir = codes "d"; shards = 2; first = Some 2; end = ZERO_BYTE }
