-- Keys that were taken together, and those of them that wait for their lines.
use Rattle.std.specs.Prelude.{◌≡◌, ◌<◌, ◌≤◌, ◌+◌, ◌-◌, ◌++◌, ℕ, List, [], length, map, take, drop, All, Option, None, Some, IfSome, Bool, true, false, Result, Ok, Err, IfErr, OnOk, OnErr}
use Rattle.std.specs.Option.{ForSome}
use Rattle.cm_io.specs.Passes.{Told, Ends, GivesKey, HasKeyCause}
use Rattle.cm_io.specs.declared.key_pass.KeyFault.{KeyFault}
use Rattle.cm_io.specs.declared.key_pass.KeyPass.{Ghosts}
use Rattle.cm_query_batch.specs.declared.taken.Spot.{Spot}
use Rattle.cm_spec.specs.declared.limits.TheConstants.{MAX_KEYS}

-- a key with its line, whose bytes stand among these
abbrev pub key_in : List ℕ → Spot → ℕ × List ℕ
key_in bytes s = (s.line, take (s.until - s.from) (drop s.from bytes))

-- its bytes do stand there
abbrev pub StandsIn : List ℕ → Spot → Type 0
StandsIn bytes s = (s.from ≤ s.until) × (s.until ≤ length bytes)

-- keys that were taken together, with their lines, and how many bytes they have
pub record TakenKeys : Type 0 where
  pub keys : List (ℕ × List ℕ)
  pub bytes : ℕ

-- the keys that wait, and their answers
pub record WaitingKeys : Type 0 where
  pub keys : List (ℕ × List ℕ)
  pub answers : List (Option ℕ)

-- the answers are those of a function, below its span
pub record AreAnswers (f : List ℕ → Option ℕ) (span : ℕ) (waiting : WaitingKeys) : Type 0 where
  pub are : waiting.answers ≡ map (λ k. f k.1) waiting.keys
  pub inside : All (λ a. IfSome a (λ v. v < span)) waiting.answers

-- the keys that wait and those that the pass has not yielded are still the same
abbrev pub Takes : Told → ℕ → ℕ → List (ℕ × List ℕ) → List (ℕ × List ℕ) → Type 0
Takes told before now old new = new ++ drop now told.keys ≡ old ++ drop before told.keys

-- A key waits, or there is no further one, or the pass failed.
abbrev pub Refills : Told → ℕ → ℕ → List (ℕ × List ℕ) → List (ℕ × List ℕ) → Result Bool KeyFault → Type 0
Refills told before now old new (Ok true) = Takes told before now old new
Refills told before now old new (Ok false) = Ends told before None
Refills told before now old new (Err fault) = GivesKey told before now 0 [] (Err fault)

-- how many keys the pass yielded then: if none waits any more, it was called
abbrev pub RefillsBy : ℕ → ℕ → ℕ → ℕ → Result Bool KeyFault → Type 0
RefillsBy before now old new (Ok true) = (0 < new) × (now + old ≡ before + new)
RefillsBy before now old new (Ok false) = (old ≡ 0) × (now ≡ before)
RefillsBy before now old new (Err fault) = (old ≡ 0) × (now ≡ before)

-- No key waited, and the next keys of a pass were taken, which wait now; or there is no further key, or the pass failed.
pub record FillsBatch {P : Type 0} (K : Ghosts P) (old new : P) (waiting : List (ℕ × List ℕ)) (result : Result Bool KeyFault) : Type 0 where
  pub told : K.told new ≡ K.told old
  pub cause : HasKeyCause (K.faults old) (K.faults new) result
  pub failed : IfErr result (λ fault. K.failure new ≡ Some fault)
  pub usable : OnOk result (K.usable new ≡ true)
  pub unusable : OnErr result (K.usable new ≡ false)
  pub few : K.place new ≤ MAX_KEYS
  pub counts : RefillsBy (K.place old) (K.place new) 0 (length waiting) result
  pub refills : ForSome (K.told old) (λ told. Refills told (K.place old) (K.place new) [] waiting result)
