-- From the cells of keys to the store of records.
use Rattle.std.proofs.Common.{◌≡◌, ◌∙◌, ℕ, List, length, ap, arith, Option, None, Some}
use Rattle.cm_algo_seeds.specs.Fails.{FailsBuild, HasBuildFailure}
use Rattle.cm_algo_seeds.specs.declared.fault.BuildFault.{BuildFault}
use Rattle.cm_algo_seeds.specs.declared.fault.BuildFault.TheVariants as build_fault
use Rattle.cm_bdz.specs.Functions.{Bdz}
use Rattle.cm_bdz.specs.Numbering.{bdz_under}
use Rattle.cm_io.specs.declared.key_pass.KeyFault.{KeyFault}
use Rattle.cm_spec.specs.Bdz.{bdz_rule}
use Rattle.cm_spec.specs.Built.{cells_under}
use Rattle.cm_store.specs.Builds.{FailsKeys, fault_from}
use Rattle.cm_store.specs.Stores.{Store}

-- the index of the cells of a build is that of its keys
pub index_is : (keys : List (ℕ × List ℕ)) (m c ratio seed shift : ℕ) (cells : List ℕ) → m ≡ length keys → c ≡ ratio → cells ≡ cells_under bdz_rule keys ratio seed
    → (let f : Bdz = record { keys = m; ratio = c; seed = seed; shift = shift; cells = cells } in f) ≡ bdz_under keys ratio seed shift
index_is keys m c ratio seed shift cells many same cells_are =
    ap (λ (n : ℕ). let f : Bdz = record { keys = n; ratio = c; seed = seed; shift = shift; cells = cells } in f) many
    ∙ ap (λ (r : ℕ). let f : Bdz = record { keys = length keys; ratio = r; seed = seed; shift = shift; cells = cells } in f) same
    ∙ ap (λ (xs : List ℕ). let f : Bdz = record { keys = length keys; ratio = ratio; seed = seed; shift = shift; cells = xs } in f) cells_are

-- a store is known by its parts
pub by_parts : (s : Store) (index : Bdz) (places bytes : List ℕ) → s.index ≡ index → s.places ≡ places → s.bytes ≡ bytes → s ≡ (let t : Store = record { index = index; places = places; bytes = bytes } in t)
by_parts s index places bytes i p b =
    ap (λ (x : Bdz). let t : Store = record { index = x; places = s.places; bytes = s.bytes } in t) i
    ∙ ap (λ (x : List ℕ). let t : Store = record { index = index; places = x; bytes = s.bytes } in t) p
    ∙ ap (λ (x : List ℕ). let t : Store = record { index = index; places = places; bytes = x } in t) b

none_some : (fault : KeyFault) → (let none : Option KeyFault = None in none) ≡ Some fault → ⊥
none_some fault is = grind (arith, is)

-- why there are no cells of keys in memory
pub fails_keys : (keys : List (ℕ × List ℕ)) (c : ℕ) (seeds : List ℕ) (fault : BuildFault) → FailsBuild bdz_rule (record { keys = keys; fault = None }) c seeds fault → HasBuildFailure None fault → FailsKeys keys c seeds (fault_from fault)
fails_keys keys c seeds build_fault.Memory fails failed = tt
fails_keys keys c seeds build_fault.NoKeys fails failed = fails.0
fails_keys keys c seeds (build_fault.Cored made) fails failed = record { some = fails.0; none = fails.2; cored = fails.3; shows = fails.4 }
fails_keys keys c seeds (build_fault.Key fault) fails failed = absurd (none_some fault failed)
fails_keys keys c seeds (build_fault.Changed first again) fails failed = absurd fails
