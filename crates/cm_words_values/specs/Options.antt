-- What the values of the options stand for.
use Rattle.std.specs.Prelude.{ℕ, ◌*◌, Bool, true, List, [], ◌∷◌, codes, Option, Some, None, Result, Ok, Err, if◌then◌else◌, find, ok_or, option_map}
use Rattle.std.specs.Str.{bytes_eq}
use Rattle.cm_algo_names.specs.Names.{name_of}
use Rattle.cm_algo_names.specs.declared.algorithm.Algorithm.{Algorithm}
use Rattle.cm_algo_names.specs.declared.algorithm.Algorithm.TheVariants.{Chm, Bdz, BdzPh, Brz}
use Rattle.cm_words_values.specs.Digits.{millionths_of, whole_of}
use Rattle.cm_words_values.specs.declared.fault.BadValue.{BadValue}
use Rattle.cm_spec.specs.declared.limits.TheConstants.{MAX_WIDTH, MIN_WIDTH}
use Rattle.cm_words_values.specs.declared.limits.TheConstants.{MAX_SEEDS, MAX_TEST_KEYS, MEGABYTE}

abbrev pub Text : Type 0
Text = List ℕ

abbrev pub Checked : Type 0 → Type 0
Checked A = Result A BadValue

-- what is read next, by the value that was read before
abbrev pub and_then : {A B E : Type 0} → Result A E → (A → Result B E) → Result B E
and_then (Ok x) next = next x
and_then (Err fault) next = Err fault

-- the value of the option with this letter, or what stands for one that isn't given
abbrev pub value_or : {A : Type 0} → ℕ → (Text → Option A) → A → Option Text → Checked A
value_or letter read missing None = Ok missing
value_or letter read missing (Some text) = ok_or (read text) (record { letter = letter })

-- a whole number in a range
abbrev pub number_value : ℕ → ℕ → ℕ → ℕ → Option Text → Checked ℕ
number_value letter least most = value_or letter (whole_of least most)

-- the same, of an option that stands for nothing if it isn't given
abbrev pub optional_value : ℕ → ℕ → ℕ → Option Text → Checked (Option ℕ)
optional_value letter least most = value_or letter (λ t. option_map (λ n. Some n) (whole_of least most t)) None

-- all algorithms
abbrev pub algorithms : List Algorithm
algorithms = Chm ∷ Bdz ∷ BdzPh ∷ Brz ∷ []

-- the algorithm with this name
abbrev pub named : Text → Option Algorithm
named name = find (λ a. bytes_eq name (name_of a)) algorithms

-- -a
abbrev pub algorithm_value : Option Text → Checked Algorithm
algorithm_value = value_or 97 named Chm

-- -b: the sampling of ranks in a build by bdz, and the average size of a bucket in one by brz; elsewhere any number, which
-- counts for nothing
abbrev pub bits_value : Bool → Algorithm → Option Text → Checked ℕ
bits_value true Bdz = number_value 98 3 10 7
bits_value true Brz = number_value 98 MIN_WIDTH MAX_WIDTH 128
bits_value _ _ = λ text. and_then (number_value 98 0 4294967295 0 text) (λ _. Ok 0)

-- the ratio in millionths if -c isn't given
abbrev pub usual_ratio : Algorithm → ℕ
usual_ratio Chm = 2090000
usual_ratio _ = 1230000

-- -c
abbrev pub ratio_value : Algorithm → Option Text → Checked ℕ
ratio_value algorithm = value_or 99 millionths_of (usual_ratio algorithm)

-- the one hash function
abbrev pub hash_of : Text → Option (Unit {0})
hash_of name = if bytes_eq name (codes "jenkins") then Some tt else None

-- -f
abbrev pub hash_value : Option Text → Checked (Unit {0})
hash_value = value_or 102 hash_of tt

-- -k
abbrev pub first_value : Option Text → Checked (Option ℕ)
first_value = optional_value 107 1 4294967295

-- -M, in bytes
abbrev pub buffer_value : Option Text → Checked ℕ
buffer_value text = and_then (number_value 77 1 1024 1 text) (λ megabytes. Ok (megabytes * MEGABYTE))

-- -r
abbrev pub count_value : Option Text → Checked ℕ
count_value = number_value 114 1 MAX_SEEDS 100

-- -s
abbrev pub seed_value : Option Text → Checked ℕ
seed_value = number_value 115 0 4294967295 1

-- -T
abbrev pub test_value : Option Text → Checked (Option ℕ)
test_value = optional_value 84 1 MAX_TEST_KEYS
