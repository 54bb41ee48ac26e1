-- The files of a job that makes one of another, or that asks what was made.
use Rattle.std.specs.Prelude.{ℕ, List, codes, Option, Some, None, Ok, Err}
use Rattle.clap.specs.Words.{Row, Text, first_of}
use Rattle.cm_words_arguments.specs.Options.{Read, end_of, path_or}
use Rattle.cm_words_arguments.specs.declared.fault.UsageFault.TheVariants.{Words}
use Rattle.cm_words_arguments.specs.declared.files.Files.{Files}
use Rattle.cm_words_values.specs.Limits.{IsEnd, IsFirst}

-- the file whose lines are read, which clap requires, and the one that is made, which is named or has that path with an ending
abbrev pub files_over : Option Text → Text → Option ℕ → List Row → Read Files
files_over None ending first rows = Err Words
files_over (Some input) ending first rows = Ok (record { input = input; made = path_or (first_of (codes "made") rows) input ending; first = first; end = end_of rows })

abbrev pub files_of : Text → Option ℕ → List Row → Read Files
files_of ending first rows = files_over (first_of (codes "input") rows) ending first rows

pub record AreFiles (files : Files) : Type 0 where
  pub first : IsFirst files.first
  pub end : IsEnd files.end
