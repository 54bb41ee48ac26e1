-- How the passes end after the one that counted the keys.
use Rattle.std.specs.Prelude.{◌≡◌, ℕ, ◌==◌, Bool, List, [], ◌∷◌, ◌++◌, if◌then◌else◌, length, None}
use Rattle.cm_io.specs.Passes.{IsToldFault}
use Rattle.cm_brz_func.specs.Functions.{bucket_of}
use Rattle.cm_io.specs.Passes.{Told}
use Rattle.cm_witness_gather.specs.Noted.{AreNoted}
use Rattle.cm_io.specs.declared.pass_fault.PassFault.{PassFault}
use Rattle.cm_io.specs.declared.pass_fault.PassFault.TheVariants.{Memory, Key, Changed}
use Rattle.cm_witness_gather.specs.declared.certificate.Pair.{Pair}

-- there are m keys, with no fault at their end
pub record AreCounted (m : ℕ) (told : Told) : Type 0 where
  pub many : length told.keys ≡ m
  pub whole : told.fault ≡ None

-- the failures of a later pass over known keys: it never finds another number of them
abbrev pub FailsAgain : Told → PassFault → Type 0
FailsAgain told Memory = Unit {0}
FailsAgain told (Key fault) = IsToldFault told fault
FailsAgain told (Changed first now) = ⊥

-- the next of the keys that were left is passed, and noted if it is here, in this bucket
pub record NotesNext (left rest : List (ℕ × List ℕ)) (k split bucket : ℕ) (here : Bool) (noted : List (ℕ × List ℕ)) (found : List Pair) (noted' : List (ℕ × List ℕ)) (found' : List Pair) : Type 0 where
  pub key : ℕ × List ℕ
  pub is : left ≡ key ∷ rest
  pub here_is : here ≡ (bucket_of key.1 split k == bucket)
  pub notes : (earlier : List (ℕ × List ℕ)) → AreNoted earlier noted found → AreNoted (earlier ++ (if here then key ∷ [] else [])) noted' found'
