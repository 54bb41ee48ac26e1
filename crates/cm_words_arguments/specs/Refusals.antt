-- What a fault of clap's means, and with it the arguments of a command.
use Rattle.std.specs.Prelude.{Bool, true, false, List, [], ◌∷◌, Err, if◌then◌else◌}
use Rattle.clap.specs.Words.{App, Kinds, Row, Text, fault_of, matches_of}
use Rattle.clap.specs.declared.error.kind.ErrorKind.{ErrorKind}
use Rattle.clap.specs.declared.error.kind.ErrorKind.TheVariants.{OutOfMemory}
use Rattle.cm_words_arguments.specs.Options.{Read}
use Rattle.cm_words_arguments.specs.declared.fault.UsageFault.{UsageFault}
use Rattle.cm_words_arguments.specs.declared.fault.UsageFault.TheVariants.{Memory, Words}

abbrev pub fault_of_kind : ErrorKind → UsageFault
fault_of_kind OutOfMemory = Memory
fault_of_kind _ = Words

-- clap has a fault for the arguments
abbrev pub is_refused : Kinds → Bool
is_refused [] = false
is_refused (kind ∷ kinds) = true

-- What the arguments of a command mean, if what clap finds means this. The first argument is the program's name.
abbrev pub read_by : {A : Type 0} → App → (List Row → Read A) → List Text → Read A
read_by app meaning words = if is_refused (fault_of app words) then Err Words
    else meaning (matches_of app words)
