-- The jobs that the worked examples are about.
use Rattle.std.specs.Prelude.{[], ◌∷◌, false, codes, None}
use Rattle.cm_shards_words.specs.declared.jobs.AskJob.{AskJob}
use Rattle.cm_shards_words.specs.declared.jobs.JoinJob.{JoinJob}
use Rattle.cm_shards_words.specs.declared.jobs.SplitJob.{SplitJob}
use Rattle.cm_words_values.specs.declared.limits.TheConstants.{LINE_FEED}

-- the split of `cmph_shards -n 4 -d out keys`
abbrev pub plain_split : SplitJob
plain_split = record { keys = codes "keys"; dir = codes "out"; shards = 4; first = None; end = LINE_FEED }

-- the join of `cmph_shards -j -m all one`
abbrev pub plain_join : JoinJob
plain_join = record { manifest = codes "all"; dir = None; functions = codes "one" ∷ [] }

-- the query of `cmph_shards -m all keys`
abbrev pub plain_ask : AskJob
plain_ask = record { manifest = codes "all"; keys = codes "keys"; first = None; end = LINE_FEED; test = false }
