-- Lemmas about the status of a build that stopped, for those who call its steps.
use Rattle.std.proofs.Common.{◌≡◌, ◌⊎◌, ◌↔◌, ℕ, ◌<◌, ◌^◌, inl, inr, refl, arith}
use Rattle.cm_tool_building.specs.Leaves.{IsOutCause, IsStopCause}
use Rattle.cm_tool_stops.specs.DoesLaws.{neither}
use Rattle.cm_tool_stops.specs.Ends.{status_of}
use Rattle.cm_tool_stops.specs.declared.stop.Stop.TheVariants.{Memory, Read, Write, WriteOut, Refused, Changed, Spill, SpillDamaged, NoKeys, TooLong, TooMany, TooLarge}
use Rattle.cm_tool_stops.specs.declared.stop.Stop.{Stop}

-- it is not 0
pub stop_failed : {P : Type 0} (stop : Stop) → status_of stop ≡ 0 → P
stop_failed Memory zero = absurd (omega arith)
stop_failed Read zero = absurd (omega arith)
stop_failed Write zero = absurd (omega arith)
stop_failed WriteOut zero = absurd (omega arith)
stop_failed (Refused failure) zero = absurd (omega arith)
stop_failed (Changed first again) zero = absurd (omega arith)
stop_failed Spill zero = absurd (omega arith)
stop_failed (SpillDamaged offset expected found) zero = absurd (omega arith)
stop_failed NoKeys zero = absurd (omega arith)
stop_failed (TooLong line) zero = absurd (omega arith)
stop_failed TooMany zero = absurd (omega arith)
stop_failed (TooLarge line) zero = absurd (omega arith)

-- it is 4 exactly if the count of reading rose
pub stop_read : (stop : Stop) (r r_now w w_now : ℕ) → IsStopCause r r_now w w_now stop → r < 2 ^ 63 → (status_of stop ≡ 4) ↔ (r < r_now)
stop_read Memory r r_now w w_now cause low = (λ four. absurd (omega (arith, four)), λ rose. absurd (omega (arith, rose, cause.0)))
stop_read Read r r_now w w_now cause low = (λ _. cause.1 low, λ _. refl)
stop_read Write r r_now w w_now cause low = (λ four. absurd (omega (arith, four)), λ rose. absurd (omega (arith, rose, cause.0)))
stop_read WriteOut r r_now w w_now cause low = (λ four. absurd (omega (arith, four)), λ rose. absurd (omega (arith, rose, cause.0)))
stop_read (Refused failure) r r_now w w_now cause low = (λ four. absurd (omega (arith, four)), λ rose. absurd (omega (arith, rose, cause.0)))
stop_read (Changed first again) r r_now w w_now cause low = (λ four. absurd (omega (arith, four)), λ rose. absurd (omega (arith, rose, cause.0)))
stop_read Spill r r_now w w_now cause low = (λ four. absurd (omega (arith, four)), λ rose. absurd (omega (arith, rose, cause.0)))
stop_read (SpillDamaged offset expected found) r r_now w w_now cause low = (λ four. absurd (omega (arith, four)), λ rose. absurd (omega (arith, rose, cause.0)))
stop_read NoKeys r r_now w w_now cause low = (λ four. absurd (omega (arith, four)), λ rose. absurd (omega (arith, rose, cause.0)))
stop_read (TooLong line) r r_now w w_now cause low = (λ four. absurd (omega (arith, four)), λ rose. absurd (omega (arith, rose, cause.0)))
stop_read TooMany r r_now w w_now cause low = (λ four. absurd (omega (arith, four)), λ rose. absurd (omega (arith, rose, cause.0)))
stop_read (TooLarge line) r r_now w w_now cause low = (λ four. absurd (omega (arith, four)), λ rose. absurd (omega (arith, rose, cause.0)))

-- it is 5 exactly if the count of writing or that of out rose
pub stop_write : (stop : Stop) (r r_now w w_now o o_now : ℕ) → IsStopCause r r_now w w_now stop → IsOutCause o o_now stop → w < 2 ^ 63 → o < 2 ^ 63 → (status_of stop ≡ 5) ↔ ((w < w_now) ⊎ (o < o_now))
stop_write Memory r r_now w w_now o o_now cause out low few = (λ five. absurd (omega (arith, five)), λ either. neither w w_now o o_now cause.1 out either)
stop_write Read r r_now w w_now o o_now cause out low few = (λ five. absurd (omega (arith, five)), λ either. neither w w_now o o_now cause.2 out either)
stop_write Write r r_now w w_now o o_now cause out low few = (λ _. inl (cause.2 low), λ _. refl)
stop_write WriteOut r r_now w w_now o o_now cause out low few = (λ _. inr (out.1 few), λ _. refl)
stop_write (Refused failure) r r_now w w_now o o_now cause out low few = (λ five. absurd (omega (arith, five)), λ either. neither w w_now o o_now cause.1 out either)
stop_write (Changed first again) r r_now w w_now o o_now cause out low few = (λ five. absurd (omega (arith, five)), λ either. neither w w_now o o_now cause.1 out either)
stop_write Spill r r_now w w_now o o_now cause out low few = (λ _. inl (cause.2 low), λ _. refl)
stop_write (SpillDamaged offset expected found) r r_now w w_now o o_now cause out low few = (λ five. absurd (omega (arith, five)), λ either. neither w w_now o o_now cause.1 out either)
stop_write NoKeys r r_now w w_now o o_now cause out low few = (λ five. absurd (omega (arith, five)), λ either. neither w w_now o o_now cause.1 out either)
stop_write (TooLong line) r r_now w w_now o o_now cause out low few = (λ five. absurd (omega (arith, five)), λ either. neither w w_now o o_now cause.1 out either)
stop_write TooMany r r_now w w_now o o_now cause out low few = (λ five. absurd (omega (arith, five)), λ either. neither w w_now o o_now cause.1 out either)
stop_write (TooLarge line) r r_now w w_now o o_now cause out low few = (λ five. absurd (omega (arith, five)), λ either. neither w w_now o o_now cause.1 out either)
