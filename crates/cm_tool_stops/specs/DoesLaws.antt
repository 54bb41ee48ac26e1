-- Lemmas about what a run does, for those who show it of a job, and for those who use it.
use Rattle.std.proofs.Common.{◌≡◌, ◌≢◌, ◌⊎◌, ◌↔◌, ℕ, ◌<◌, List, true, false, inl, inr, refl, arith}
use Rattle.cm_io.specs.States.{DiskState, IsSent, Outside, SinkState, outside}
use Rattle.cm_spec.specs.Lists.{has}
use Rattle.cm_tool_stops.specs.Does.{Does, Frame}

-- neither count rose
pub neither : {P : Type 0} (w w_now o o_now : ℕ) → w_now ≡ w → o_now ≡ o → (w < w_now) ⊎ (o < o_now) → P
neither w w_now o o_now same quiet (inl rose) = absurd (omega (arith, rose, same))
neither w w_now o o_now same quiet (inr rose) = absurd (omega (arith, rose, quiet))

-- a run with another status than 4 read all that it asked for
pub no_read : (old new : Outside) (status : ℕ) → status ≢ 4 → new.disk.read_faults ≡ old.disk.read_faults → (status ≡ 4) ↔ (old.disk.read_faults < new.disk.read_faults)
no_read old new status other same = (λ four. absurd (other four), λ rose. absurd (omega (arith, same, rose)))

-- a status that a list lacks is none of the list's
pub unlisted : (list : List ℕ) (status n : ℕ) → has list status ≡ false → has list n ≡ true → status ≢ n
unlisted list status n lacks has_n same = absurd (cc)

-- a run for which memory ran out before it began
pub unbegun : (f : Frame) (disk : DiskState) (out err_old err_new : SinkState) → has f.statuses 6 ≡ true → IsSent err_old err_new → f.leaves (outside disk out err_old) (outside disk out err_new) 6 → f.ends (outside disk out err_old) (outside disk out err_new) 6
    → Does f (outside disk out err_old) (outside disk out err_new) 6
unbegun f disk out err_old err_new listed sent leaves ends = record {
  status = listed;
  read = λ _. (λ four. absurd (omega (arith, four)), λ rose. absurd (omega (arith, rose)));
  write = λ _. (λ five. absurd (omega (arith, five)), λ either. neither disk.write_faults disk.write_faults out.faults out.faults refl refl either);
  outcome = λ _ _ six. absurd (six refl);
  missing = λ files known none. record { status_is = inr refl; files_are = refl; out = refl };
  unchanged = λ files known seven. absurd (omega (arith, seven));
  kept = λ _. refl;
  silent = λ _. refl;
  out = λ _. refl;
  unwritten = λ _. refl;
  unspilled = λ _. refl;
  left = λ _. leaves;
  sent = λ empty _. inl empty;
  err_sent = λ _. sent;
  err = ends;
}
