-- What is loaded from a file.
use Rattle.std.specs.Prelude.{◌≡◌, ◌≤◌, ℕ, List, Some, Result, Ok, Err}
use Rattle.cm_io.specs.Causes.{Rose}
use Rattle.cm_io.specs.Files.{Files, file_at}
use Rattle.cm_tool_asking.specs.declared.unloaded.Unloaded.{Unloaded}
use Rattle.cm_tool_asking.specs.declared.unloaded.Unloaded.TheVariants.{Memory, Read, Bad}

-- `Read` exactly if the count of reading rose
abbrev pub IsLoadCause : {F : Type 0} → ℕ → ℕ → Unloaded F → Type 0
IsLoadCause r r' Memory = r' ≡ r
IsLoadCause r r' Read = (r ≤ r') × Rose r r'
IsLoadCause r r' (Bad fault) = r' ≡ r

abbrev pub HasLoadCause : {L F : Type 0} → ℕ → ℕ → Result L (Unloaded F) → Type 0
HasLoadCause r r' (Ok x) = r' ≡ r
HasLoadCause r r' (Err fault) = IsLoadCause r r' fault

-- what was loaded is what the bytes spell, or they have this fault
abbrev pub IsSpelled : {L F : Type 0} → (List ℕ → Result L F) → List ℕ → Result L (Unloaded F) → Type 0
IsSpelled spelling bytes (Ok x) = spelling bytes ≡ Ok x
IsSpelled spelling bytes (Err Memory) = Unit {0}
IsSpelled spelling bytes (Err Read) = Unit {0}
IsSpelled spelling bytes (Err (Bad fault)) = spelling bytes ≡ Err fault

-- the bytes of the file spell this
abbrev pub Spells : {L F : Type 0} → (List ℕ → Result L F) → Files → List ℕ → L → Type 0
Spells spelling files path x = (bytes : List ℕ) × (file_at files path ≡ Some bytes) × (spelling bytes ≡ Ok x)

-- they spell nothing, and this is what is wrong with them
abbrev pub IsBad : {L F : Type 0} → (List ℕ → Result L F) → Files → List ℕ → F → Type 0
IsBad spelling files path fault = (bytes : List ℕ) × (file_at files path ≡ Some bytes) × (spelling bytes ≡ Err fault)

-- what was loaded from a file, or why nothing was
abbrev pub Loads : {L F : Type 0} → (List ℕ → Result L F) → Files → List ℕ → Result L (Unloaded F) → Type 0
Loads spelling files path (Ok x) = Spells spelling files path x
Loads spelling files path (Err Memory) = Unit {0}
Loads spelling files path (Err Read) = Unit {0}
Loads spelling files path (Err (Bad fault)) = IsBad spelling files path fault
