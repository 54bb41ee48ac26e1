-- A spill on a file: its name, and what is known of its bytes.
use Rattle.std.specs.Prelude.{◌≡◌, ◌<◌, ℕ, List, ◌++◌, length, take, Option, IfSome, Some, codes}
use Rattle.std.specs.Fmt.{decimal}
use Rattle.std.specs.Path.{path_join}
use Rattle.std.specs.Io.KnownBytes.{Appends, Consumes, IsAtEnd}

-- the path of the spill of the process with this number, in a directory
abbrev pub spill_path_of : List ℕ → ℕ → List ℕ
spill_path_of dir number = path_join dir (codes "cmph-" ++ decimal number ++ codes ".spill")

-- The file was moved to its end, and took the piece there.
pub record AppendsAtEnd {F : Type 0} (position : F → Option ℕ) (bytes contents : F → Option (List ℕ)) (old new : F) (piece : List ℕ) : Type 0 where
  pub moved : F
  pub moves : IfSome (position old) (λ _. IfSome (bytes old) (λ xs. position moved ≡ Some (length xs)))
  pub appends : Appends (contents moved) (contents new) piece

-- The file was moved to the offset, and the n bytes that come next there were read: none only at the end, or if the buffer has no room.
pub record GivesFrom {F : Type 0} (position : F → Option ℕ) (remaining : F → Option (List ℕ)) (old new : F) (offset room n : ℕ) (buf : List ℕ) : Type 0 where
  pub moved : F
  pub moves : IfSome (position old) (λ _. position moved ≡ Some offset)
  pub gives : Consumes (remaining moved) (remaining new) (take n buf)
  pub end : n ≡ 0 → 0 < room → IsAtEnd (remaining new)
