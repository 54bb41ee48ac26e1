-- The result of a read.
use Rattle.std.specs.Prelude.{◌≡◌, ◌<◌, ◌≤◌, ◌+◌, ◌-◌, ℕ, List, ◌++◌, length, take, drop}

-- A read at a place returned n of the known bytes of a source, at least one unless it has come to their end.
pub record Gives (bytes : List ℕ) (before now room n : ℕ) (buf : List ℕ) : Type 0 where
  pub given : drop before bytes ≡ take n buf ++ drop now bytes
  pub moved : now ≡ before + n
  pub inside : now ≤ length bytes
  pub some : 0 < room → before < length bytes → 0 < n

-- A read from an offset returned n of the bytes there, at least one unless the offset is at their end or past it.
pub record GivesAt (bytes : List ℕ) (offset room n : ℕ) (buf : List ℕ) : Type 0 where
  pub given : drop offset bytes ≡ take n buf ++ drop (offset + n) bytes
  pub inside : n ≤ length bytes - offset
  pub some : 0 < room → offset < length bytes → 0 < n
