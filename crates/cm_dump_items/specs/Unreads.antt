-- The bytes of a source that were read and not used yet.
use Rattle.std.specs.Prelude.{◌≡◌, ◌+◌, ◌-◌, ◌≤◌, ◌==◌, ℕ, List, Bool, false, length, take, drop}

-- they, and whether the source may have more
pub record Unread : Type 0 where
  pub rest : List ℕ
  pub more : Bool

-- they are those of a buffer from one place up to another, and the source has ended unless the buffer is filled
abbrev pub unread_of : List ℕ → ℕ → ℕ → Unread
unread_of buf from until = record { rest = take (until - from) (drop from buf); more = until == length buf }

-- they are those from an offset on, and the source stands after them
pub record IsNext (bytes : List ℕ) (place at : ℕ) (unread : Unread) : Type 0 where
  pub given : unread.rest ≡ take (length unread.rest) (drop at bytes)
  pub moved : place ≡ at + length unread.rest
  pub inside : place ≤ length bytes
  pub end : unread.more ≡ false → length bytes ≡ place
