-- Lemmas about where a query stops, for those who call it.
use Rattle.std.proofs.Common.{ℕ, arith, subst, sym}
use Rattle.cm_io.specs.Passes.{Told}
use Rattle.cm_query_batch.specs.Stops.{IsReached, StopsAt}
use Rattle.cm_query_batch.specs.declared.fault.QueryFault.{QueryFault}
use Rattle.cm_query_batch.specs.declared.fault.QueryFault.TheVariants.{Memory, Key, Write}

-- what `StopsAt` says of the keys yielded holds also of the keys reached
pub stops_reached : (told : Told) (given reached : ℕ) (fault : QueryFault) → StopsAt told given fault → IsReached given reached fault → StopsAt told reached fault
stops_reached told given reached Memory stops is = is
stops_reached told given reached (Key fault) stops is = subst (λ (n : ℕ). StopsAt told n (Key fault)) (sym is) stops
stops_reached told given reached Write stops is = (is.0, omega (arith, is.1, stops.1))
