-- What a test says of lines, under a function from the bytes of a line to its number.
use Rattle.std.specs.Prelude.{◌≡◌, ◌<◌, ◌==◌, ℕ, List, [], ◌∷◌, length, Option, None, Some, unwrap_or, Bool, if◌then◌else◌}
use Rattle.cm_query.specs.Repeats.{is_repeated}
use Rattle.cm_query_batch.specs.Earlier.{with_earlier}
use Rattle.cm_shards_query.specs.declared.verdict.Verdict.{Verdict}
use Rattle.cm_shards_query.specs.declared.verdict.Verdict.TheVariants.{Count, Holds, Repeated, Unknown}
use Rattle.cm_spec.specs.Built.{key_at}

-- what is wrong with a line that has this number or none, which an earlier line has or not
abbrev pub fault_by : ℕ → Option ℕ → Bool → Option Verdict
fault_by line None repeated = Some (Unknown line)
fault_by line (Some v) repeated = if repeated then Some (Repeated line v) else None

-- what is wrong with a line after these earlier ones
abbrev pub fault_at : (List ℕ → Option ℕ) → List (ℕ × List ℕ) → ℕ × List ℕ → Option Verdict
fault_at f earlier k = fault_by k.0 (f k.1) (is_repeated f earlier (f k.1))

-- the first that is there
abbrev pub first_some : {A : Type 0} → List (Option A) → Option A
first_some [] = None
first_some (None ∷ rest) = first_some rest
first_some (Some x ∷ rest) = Some x

-- what is wrong with the first line at fault, if one is
abbrev pub first_fault : (List ℕ → Option ℕ) → List (ℕ × List ℕ) → Option Verdict
first_fault f lines = first_some (with_earlier (fault_at f) [] lines)

-- the verdict on lines of which none is at fault, by their number and that of the keys
abbrev pub count_verdict : ℕ → ℕ → Verdict
count_verdict lines keys = if lines == keys then Holds else Count lines keys

-- the verdict on all lines: what is wrong with the first line at fault, or else what their number says
abbrev pub verdict_of : (List ℕ → Option ℕ) → ℕ → List (ℕ × List ℕ) → Verdict
verdict_of f keys lines = unwrap_or (first_fault f lines) (count_verdict (length lines) keys)

-- the status of a verdict
abbrev pub verdict_status : Verdict → ℕ
verdict_status Holds = 0
verdict_status (Unknown line) = 1
verdict_status (Repeated line value) = 1
verdict_status (Count lines keys) = 1

-- Each line has a number, no two lines have the same, and there are as many lines as keys.
pub record IsNumbering (f : List ℕ → Option ℕ) (keys : ℕ) (lines : List (ℕ × List ℕ)) : Type 0 where
  pub each : (i : ℕ) → i < length lines → (v : ℕ) × (f (key_at lines i) ≡ Some v)
  pub apart : (i j : ℕ) → i < length lines → j < length lines → f (key_at lines i) ≡ f (key_at lines j) → i ≡ j
  pub count : length lines ≡ keys
