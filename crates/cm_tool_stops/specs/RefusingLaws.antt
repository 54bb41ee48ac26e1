-- Lemmas about arguments that ask for no job, for top calls.
use Rattle.std.proofs.Common.{◌≡◌, ◌⊎◌, ◌∙◌, ℕ, List, Err, ap, inl, inr, refl, subst}
use Rattle.cm_io.specs.States.{DiskState, IsSent, SinkState, outside}
use Rattle.cm_tool_stops.specs.Ends.{Says, usage_status_of}
use Rattle.cm_tool_stops.specs.Messages.{out_of_memory, usage_message}
use Rattle.cm_tool_stops.specs.Refusing.{Refuses}
use Rattle.cm_words_arguments.specs.Options.{Read}
use Rattle.cm_words_arguments.specs.declared.fault.UsageFault.{UsageFault}
use Rattle.cm_words_arguments.specs.declared.fault.UsageFault.TheVariants.{Memory}

-- what is said if memory ran out
pub no_memory : (program hint : List ℕ) (err_old err_new : SinkState) (fault : UsageFault) → fault ≡ Memory → Says err_old err_new (usage_message program hint fault) → Says err_old err_new (out_of_memory program)
no_memory program hint err_old err_new fault memory says = subst (λ f. Says err_old err_new (usage_message program hint f)) memory says

-- what the report of a fault does, if the arguments have another or this one
pub refuses : {A : Type 0} (program hint : List ℕ) (bad fault : UsageFault) (disk : DiskState) (out err_old err_new : SinkState) (status : ℕ) → (fault ≡ Memory) ⊎ (let r : Read A = Err fault in r ≡ Err bad) → status ≡ usage_status_of fault
    → Says err_old err_new (usage_message program hint fault) → IsSent err_old err_new → Refuses program hint bad (outside disk out err_old) (outside disk out err_new) status
refuses program hint bad fault disk out err_old err_new status (inl memory) is says sent = record {
  disk = refl;
  out = refl;
  err_sent = λ _. sent;
  err = inr (is ∙ ap usage_status_of memory, no_memory program hint err_old err_new fault memory says);
}
refuses program hint bad fault disk out err_old err_new status (inr same) is says sent =
    let named : fault ≡ bad = cc in
    record {
      disk = refl;
      out = refl;
      err_sent = λ _. sent;
      err = inl (is ∙ ap usage_status_of named, subst (λ f. Says err_old err_new (usage_message program hint f)) named says);
    }
