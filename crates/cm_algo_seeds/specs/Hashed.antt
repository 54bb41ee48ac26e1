-- What the next of some keys yields when it is hashed.
use Rattle.std.specs.Prelude.{◌≡◌, ℕ, List, [], ◌∷◌, drop, Option, None, Some, Result, Ok, Err}
use Rattle.cm_io.specs.declared.key_pass.KeyFault.{KeyFault}
use Rattle.cm_io.specs.Passes.{Told, Ends, GivesKey}
use Rattle.cm_spec.specs.Lookup2.{words}

-- The hash values of the next of the known keys, or what comes after the last.
abbrev pub GivesWords : Told → ℕ → ℕ → ℕ → Result (Option (List ℕ)) KeyFault → Type 0
GivesWords told before now seed (Ok (Some hashed)) = (k : ℕ × List ℕ) × (drop before told.keys ≡ k ∷ drop now told.keys) × (hashed ≡ words k.1 seed)
GivesWords told before now seed (Ok None) = Ends told before None
GivesWords told before now seed (Err fault) = GivesKey told before now 0 [] (Err fault)
