-- The generated keys as the lines of a text.
use Rattle.std.specs.Prelude.{◌≡◌, ◌<◌, ◌+◌, ℕ, List, length, None, slice_index_or}
use Rattle.cm_io.specs.Passes.{Told}
use Rattle.cm_keys_made.specs.Texts.{made_key}

-- These are n keys without a fault: key number i, from 0 on, is the generated one, of line i + 1.
pub record AreMade (n : ℕ) (told : Told) : Type 0 where
  pub many : length told.keys ≡ n
  pub fine : told.fault ≡ None
  pub each : (i : ℕ) (d : ℕ × List ℕ) → i < n → slice_index_or told.keys i d ≡ (i + 1, made_key i)
