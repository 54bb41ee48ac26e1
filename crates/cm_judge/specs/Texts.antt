-- What is printed of a verdict, and said of a file that is no report.
use Rattle.std.specs.Prelude.{ℕ, List, [], ◌∷◌, codes, decimal}
use Rattle.cm_io.specs.Writing.{joined}
use Rattle.cm_judge_verdict.specs.declared.verdict.Reason.TheVariants.{Count, Ends, Missing, NoBucket, NoKey, NoPair, Once}
use Rattle.cm_judge_verdict.specs.declared.verdict.Verdict.{Verdict}
use Rattle.cm_judge_verdict.specs.declared.verdict.Verdict.TheVariants.{Fails, Holds}

-- the name of the program, with which each message begins
abbrev pub program : List ℕ
program = codes "cmph_judge"

-- the text of a verdict: one line, which ends with a line feed
abbrev pub verdict_text : Verdict → List ℕ
verdict_text Holds = codes "true\n"
verdict_text (Fails NoBucket) = codes "false: no such bucket\n"
verdict_text (Fails (NoKey line)) = joined (codes "false: line " ∷ decimal line ∷ codes " is no key\n" ∷ [])
verdict_text (Fails (Ends line)) = joined (codes "false: line " ∷ decimal line ∷ codes " has other vertices\n" ∷ [])
verdict_text (Fails (Once vertex)) = joined (codes "false: vertex " ∷ decimal vertex ∷ codes " is touched once\n" ∷ [])
verdict_text (Fails (Missing line)) = joined (codes "false: line " ∷ decimal line ∷ codes " is missing\n" ∷ [])
verdict_text (Fails (Count count)) = joined (codes "false: the bucket has " ∷ decimal count ∷ codes " keys\n" ∷ [])
verdict_text (Fails (NoPair line)) = joined (codes "false: pair of line " ∷ decimal line ∷ codes "\n" ∷ [])

-- what is said of a file that is no report, by the first line at which it is none
abbrev pub bad_report : List ℕ → List ℕ → ℕ → List ℕ
bad_report program file line = joined (program ∷ codes ": " ∷ file ∷ codes ": bad report at line " ∷ decimal line ∷ codes "\n" ∷ [])
