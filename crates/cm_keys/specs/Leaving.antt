-- What is left of the keys of a text after some were yielded.
use Rattle.std.specs.Prelude.{◌≡◌, ◌-◌, ◌+◌, ◌≤◌, ◌++◌, ℕ, List, length, Option, None, Some, Bool, true, drop, take}
use Rattle.std.specs.Option.{ForSome}
use Rattle.cm_io.specs.Passes.{Told}
use Rattle.cm_keys.specs.Buffering.{LineRule}
use Rattle.cm_keys.specs.Lines.{keys_from, lines_of, pieces}

-- the lines to read, after some
abbrev pub looked_at_after : ℕ → Option ℕ → List (List ℕ) → List (List ℕ)
looked_at_after given None lines = lines
looked_at_after given (Some first) lines = take (first - given) lines

-- the keys of the pieces that are left
abbrev pub keys_after : ℕ → ℕ → Option ℕ → ℕ → List (List ℕ) → Told
keys_after max longest first given ps = keys_from max longest (given + 1) (looked_at_after given first ps)

-- After some keys of the whole, these are left.
pub record IsLeft (whole : Told) (given : ℕ) (left : Told) : Type 0 where
  pub keys : drop given whole.keys ≡ left.keys
  pub count : given + length left.keys ≡ length whole.keys
  pub fault : whole.fault ≡ left.fault

-- the bytes that are left: those of the source, if they are known; how many of them were read; and the buffered ones
pub record BytesLeft : Type 0 where
  pub told : Option (List ℕ)
  pub place : ℕ
  pub ready : List ℕ

abbrev pub bytes_left : Option (List ℕ) → ℕ → List ℕ → BytesLeft
bytes_left told place ready = record { told = told; place = place; ready = ready }

-- Of the keys of all the bytes, after some were yielded, those of the bytes that are left.
abbrev pub Leaves : ℕ → LineRule → Option ℕ → ℕ → BytesLeft → Type 0
Leaves max rule first given left = ForSome left.told (λ all.
    IsLeft (lines_of max rule.longest rule.end first all) given (keys_after max rule.longest first given (pieces rule.end (left.ready ++ drop left.place all))))

-- What holds between two calls: at most `max` keys were yielded, and while a key may be asked for, the keys that are left are those of
-- the bytes that are left.
pub record IsPassing (max : ℕ) (rule : LineRule) (first : Option ℕ) (given : ℕ) (usable : Bool) (bytes : BytesLeft) : Type 0 where
  pub few : given ≤ max
  pub left : usable ≡ true → Leaves max rule first given bytes
