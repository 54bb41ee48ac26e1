-- The pass over keys that are lent.
use Rattle.std.specs.Prelude.{◌<◌, ◌≤◌, ℕ, List, length}
use Rattle.cm_spec.specs.declared.limits.TheConstants.{MAX_KEYS}
use Rattle.cm_keys_lent.specs.Ends.{AreEnds, BadEnd}
use Rattle.cm_keys_lent.specs.declared.ends.EndsFault.{EndsFault}
use Rattle.cm_keys_lent.specs.declared.ends.EndsFault.TheVariants as faults

-- the bytes and the ends of the keys, and how many of them the pass has yielded
pub record LentPass : Type 0 where
  pub bytes : List ℕ
  pub ends : List ℕ
  pub given : ℕ

-- What is known of a pass.
pub record IsLentPass (p : LentPass) : Type 0 where
  pub ends : AreEnds p.bytes p.ends
  pub few : length p.ends ≤ MAX_KEYS
  pub within : p.given ≤ length p.ends

-- Bytes and ends are refused for this.
abbrev pub FailsEnds : List ℕ → List ℕ → EndsFault → Type 0
FailsEnds bytes ends faults.TooMany = MAX_KEYS < length ends
FailsEnds bytes ends (faults.BadEnd key) = (length ends ≤ MAX_KEYS) × BadEnd bytes ends key
