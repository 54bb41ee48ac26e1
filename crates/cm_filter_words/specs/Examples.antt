-- The jobs that the worked examples are about.
use Rattle.std.specs.Prelude.{codes, None}
use Rattle.cm_filter_words.specs.declared.jobs.FilterBuild.{FilterBuild}
use Rattle.cm_filter_words.specs.declared.jobs.FilterTest.{FilterTest}
use Rattle.cm_words_values.specs.declared.limits.TheConstants.{LINE_FEED}

-- the build of `cmph_filter -g keys`
abbrev pub plain_build : FilterBuild
plain_build = record {
  keys = codes "keys";
  filter = codes "keys.flt";
  first = None;
  end = LINE_FEED;
  c = 1230000;
  seed = 1;
  count = 100;
  w = 8;
}

-- the test of `cmph_filter keys`
abbrev pub plain_test : FilterTest
plain_test = record { keys = codes "keys"; filter = codes "keys.flt"; first = None; end = LINE_FEED }
