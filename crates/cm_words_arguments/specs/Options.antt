-- What clap found of an option, and how a bad value is reported.
use Rattle.std.specs.Prelude.{ℕ, ◌++◌, Bool, false, nat_lt, List, codes, Option, Result, Ok, Err, if◌then◌else◌, unwrap_or}
use Rattle.std.specs.Option.{option_map_or}
use Rattle.std.specs.Str.{bytes_eq}
use Rattle.clap.specs.Words.{Row, Text, count_of, first_of}
use Rattle.cm_words_values.specs.Options.{Checked}
use Rattle.cm_words_values.specs.declared.limits.TheConstants.{LINE_FEED, ZERO_BYTE}
use Rattle.cm_words_arguments.specs.declared.fault.UsageFault.{UsageFault}
use Rattle.cm_words_arguments.specs.declared.fault.UsageFault.TheVariants.{BadValue}

abbrev pub Read : Type 0 → Type 0
Read A = Result A UsageFault

-- a bad value as a fault of the arguments
abbrev pub as_usage : {A : Type 0} → Checked A → Read A
as_usage (Ok x) = Ok x
as_usage (Err bad) = Err (BadValue bad.letter)

-- a flag is given
abbrev pub is_set : Text → List Row → Bool
is_set id rows = option_map_or (λ t. bytes_eq t (codes "true")) (first_of id rows) false

-- a flag is given once or more often
abbrev pub is_counted : Text → List Row → Bool
is_counted id rows = nat_lt 0 (count_of id rows)

-- the byte that ends lines, by a flag for byte 0
abbrev pub end_of : List Row → ℕ
end_of rows = if is_set (codes "zero") rows then ZERO_BYTE else LINE_FEED

-- the path that is given, or else that of the keys file with an ending
abbrev pub path_or : Option Text → Text → Text → Text
path_or given keys ending = unwrap_or given (keys ++ ending)
