-- The jobs that the worked examples are about.
use Rattle.std.specs.Prelude.{codes, None}
use Rattle.cm_store_words.specs.declared.jobs.StoreBuild.{StoreBuild}
use Rattle.cm_store_words.specs.declared.jobs.StoreLook.{StoreLook}
use Rattle.cm_words_values.specs.declared.limits.TheConstants.{LINE_FEED}

-- the build of `cmph_store -g lines`
abbrev pub plain_build : StoreBuild
plain_build = record {
  lines = codes "lines";
  store = codes "lines.rec";
  first = None;
  end = LINE_FEED;
  c = 1230000;
  b = 7;
  seed = 1;
  count = 100;
}

-- the look-up of `cmph_store keys`
abbrev pub plain_look : StoreLook
plain_look = record { keys = codes "keys"; store = codes "keys.rec"; first = None; end = LINE_FEED }
