-- What a call does to a pass over keys.
use Rattle.std.specs.Prelude.{◌≡◌, ℕ, Result, IfErr}
use Rattle.std.specs.Option.{ForSome}
use Rattle.cm_io.specs.PassFaults.{FailsPass, HasOtherCount, HasPassCause, HasPassFailure}
use Rattle.cm_io.specs.declared.key_pass.KeyPass.{Ghosts}
use Rattle.cm_io.specs.declared.pass_fault.PassFault.{PassFault}

-- it passes the keys, of which there are to be m, as often as it likes: it leaves what is known of them, and fails as the pass does, or if
-- there are others
pub record PassesKeys {P T : Type 0} (K : Ghosts P) (old new : P) (m : ℕ) (result : Result T PassFault) : Type 0 where
  pub told : K.told new ≡ K.told old
  pub cause : HasPassCause (K.faults old) (K.faults new) result
  pub failed : IfErr result (HasPassFailure (K.failure new))
  pub changed : IfErr result (HasOtherCount m (K.place new))
  pub fault : IfErr result (λ fault. ForSome (K.told old) (λ told. FailsPass told m fault))
