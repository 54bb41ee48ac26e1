-- The source of generated keys, as contracts see it.
use Rattle.std.specs.Prelude.{ℕ}

-- how many keys it has, and how many bytes were read
pub record MadeSource : Type 0 where
  pub keys : ℕ
  pub place : ℕ

-- a source at its start
abbrev pub new_source : ℕ → MadeSource
new_source n = record { keys = n; place = 0 }
