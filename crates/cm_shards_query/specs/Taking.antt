-- Lines that were taken together, and those of them that wait.
use Rattle.std.specs.Prelude.{◌≡◌, ◌<◌, ◌+◌, ◌++◌, ℕ, List, [], ◌∷◌, length, drop, None, Bool, true, false, Result, Ok, Err}
use Rattle.std.specs.Option.{ForSome}
use Rattle.cm_io.specs.Passes.{Ends, Told}
use Rattle.cm_keys.specs.Streams.{GivesLine, LineStream, told_by}
use Rattle.cm_keys.specs.declared.lines.LineFault.{LineFault}
use Rattle.cm_query_batch.specs.Waiting.{Takes}

-- keys as lines, numbered after this many earlier lines
abbrev pub numbered : ℕ → List (List ℕ) → List (ℕ × List ℕ)
numbered before [] = []
numbered before (key ∷ keys) = (before + 1, key) ∷ numbered (before + 1) keys

-- These keys are those of the lines that were yielded after this many earlier ones.
pub record HasTaken (before : ℕ) (keys : List (List ℕ)) (stream : LineStream) : Type 0 where
  pub count : stream.count ≡ before + length keys
  pub are : ForSome (told_by stream) (λ told. drop before told.keys ≡ numbered before keys ++ drop stream.count told.keys)

-- The next lines were taken; or there is no further one, or the lines failed.
abbrev pub FillsLines : LineStream → LineStream → List (List ℕ) → Result Bool LineFault → Type 0
FillsLines old new keys (Ok true) = HasTaken old.count keys new × (0 < length keys)
FillsLines old new keys (Ok false) = (keys ≡ []) × (new.count ≡ old.count) × ForSome (told_by old) (λ told. Ends told old.count None)
FillsLines old new keys (Err fault) = (keys ≡ []) × (new.count ≡ old.count) × ForSome (told_by old) (λ told. GivesLine told old.count new.count [] (Err fault))

-- A line waits, or there is no further one, or the lines failed.
abbrev pub RefillsLines : Told → ℕ → ℕ → List (ℕ × List ℕ) → List (ℕ × List ℕ) → Result Bool LineFault → Type 0
RefillsLines told before now old new (Ok true) = Takes told before now old new
RefillsLines told before now old new (Ok false) = Ends told before None
RefillsLines told before now old new (Err fault) = GivesLine told before now [] (Err fault)

-- how many lines were yielded then: if none waits any more, more were asked for
abbrev pub RefillsLinesBy : ℕ → ℕ → ℕ → ℕ → Result Bool LineFault → Type 0
RefillsLinesBy before now old new (Ok true) = (0 < new) × (now + old ≡ before + new)
RefillsLinesBy before now old new (Ok false) = (old ≡ 0) × (now ≡ before)
RefillsLinesBy before now old new (Err fault) = (old ≡ 0) × (now ≡ before)
