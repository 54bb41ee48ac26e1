-- The values of the options among what clap found.
use Rattle.std.specs.Prelude.{Bool, List, codes, Ok, ◌&&◌, is_none, not}
use Rattle.clap.specs.Words.{Row, first_of}
use Rattle.cm_words_values.specs.Options.{Checked, algorithm_value, and_then, bits_value, buffer_value, count_value, first_value, hash_value, ratio_value, seed_value, test_value}
use Rattle.cm_words_arguments.specs.Options.{is_set}
use Rattle.cm_words.specs.declared.values.Values.{Values}

-- the job is a build: it generates a function file, and is neither a test nor an upgrade
abbrev pub is_build : List Row → Bool
is_build rows = is_set (codes "generate") rows && (is_none (first_of (codes "test") rows) && not (is_set (codes "upgrade") rows))

-- the values of all options, or the first fault in the order of the letters a, b, c, f, k, M, r, s, T
abbrev pub values_of : List Row → Checked Values
values_of rows =
    and_then (algorithm_value (first_of (codes "algorithm") rows)) (λ algorithm.
    and_then (bits_value (is_build rows) algorithm (first_of (codes "bits") rows)) (λ bits.
    and_then (ratio_value algorithm (first_of (codes "ratio") rows)) (λ ratio.
    and_then (hash_value (first_of (codes "hash") rows)) (λ hash.
    and_then (first_value (first_of (codes "first") rows)) (λ first.
    and_then (buffer_value (first_of (codes "buffer") rows)) (λ buffer.
    and_then (count_value (first_of (codes "count") rows)) (λ count.
    and_then (seed_value (first_of (codes "seed") rows)) (λ seed.
    and_then (test_value (first_of (codes "test") rows)) (λ test. Ok (record {
      algorithm = algorithm;
      bits = bits;
      ratio = ratio;
      first = first;
      buffer = buffer;
      count = count;
      seed = seed;
      test = test;
    }))))))))))
