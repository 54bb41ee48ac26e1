-- From a text that was written to what a run that prints promises.
use Rattle.std.proofs.Common.{◌≡◌, ◌∙◌, ◌⊎◌, ◌↔◌, ℕ, ◌<◌, ◌^◌, List, [], take, inl, inr, refl, arith}
use Rattle.cm_io.specs.States.{DiskState, IsSent, SinkState, outside}
use Rattle.cm_io.specs.Writing.{then_bytes}
use Rattle.cm_io.specs.WritingLaws.{then_nothing}
use Rattle.cm_spec.specs.Lists.{has}
use Rattle.cm_tool.specs.Printing.{Prints, print_frame}
use Rattle.cm_tool.specs.Said.{cmph}
use Rattle.cm_tool_stops.specs.DoesLaws.{unbegun}
use Rattle.cm_tool_stops.specs.Ending.{printing}
use Rattle.cm_tool_stops.specs.Ends.{IsPrintMessage, Says}
use Rattle.cm_tool_stops.specs.Messages.{out_of_memory}

pub nothing_said : (err : SinkState) → Says err err []
nothing_said err = record { front = (0, then_nothing err.written); whole = λ _ _. then_nothing err.written }

says_none : (old new : SinkState) → new.written ≡ old.written → Says old new []
says_none old new same = record { front = (0, same ∙ then_nothing old.written); whole = λ _ _. same ∙ then_nothing old.written }

-- what the end of a text says of a run
pub record EndsText (text : List ℕ) (out out_now err err_now : SinkState) (status : ℕ) : Type 0 where
  pub is : (status ≡ 0) ⊎ (status ≡ 5)
  pub front : (n : ℕ) × (out_now.written ≡ then_bytes out.written (take n text))
  pub whole : status ≡ 0 → out_now.written ≡ then_bytes out.written text
  pub cause : out.faults < 2 ^ 63 → (status ≡ 5) ↔ (out.faults < out_now.faults)
  pub sent : IsSent out out_now
  pub err_sent : err.waits ≡ 0 → IsSent err err_now
  pub done : status ≡ 0 → err_now.written ≡ err.written
  pub said : (said : List ℕ) × IsPrintMessage cmph status said × Says err err_now said

done_or_failed : (text : List ℕ) (disk : DiskState) (out out_now err err_now : SinkState) (status : ℕ) → (status ≡ 0) ⊎ (status ≡ 5) → EndsText text out out_now err err_now status → Prints text (outside disk out err) (outside disk out_now err_now) status
done_or_failed text disk out out_now err err_now status (inl zero) ends = record {
  does = record {
    status = rw zero refl;
    read = λ _. (λ four. absurd (omega (arith, zero, four)), λ rose. absurd (omega (arith, rose)));
    write = λ low. (
      λ five. absurd (omega (arith, zero, five)),
      λ either. elim either [
        | inl rose ↦ absurd (omega (arith, rose))
        | inr rose ↦ (ends.cause (low.out (λ none. absurd (cc)))).1 rose
      ],
    );
    outcome = λ _ _ _ files is. record { outcome = printing text files; is = refl; status_is = zero; out = ends.whole zero; err = says_none err err_now (ends.done zero); files_are = is };
    missing = λ files is none. absurd (cc);
    unchanged = λ files is seven. absurd (omega (arith, zero, seven));
    kept = λ _. refl;
    silent = λ lacks. absurd (let here : has (print_frame text).prints 0 ≡ _ = rw zero at lacks in cc);
    out = λ none. absurd (cc);
    unwritten = λ _. refl;
    unspilled = λ _. refl;
    left = λ _. tt;
    sent = λ _. ends.sent;
    err_sent = ends.err_sent;
    err = ends.said;
  };
  front = ends.front;
}
done_or_failed text disk out out_now err err_now status (inr five) ends = record {
  does = record {
    status = rw five refl;
    read = λ _. (λ four. absurd (omega (arith, five, four)), λ rose. absurd (omega (arith, rose)));
    write = λ low. (
      λ is. inr ((ends.cause (low.out (λ none. absurd (cc)))).0 is),
      λ _. five,
    );
    outcome = λ _ other. absurd (other five);
    missing = λ files is none. absurd (cc);
    unchanged = λ files is seven. absurd (omega (arith, five, seven));
    kept = λ _. refl;
    silent = λ lacks. absurd (let here : has (print_frame text).prints 5 ≡ _ = rw five at lacks in cc);
    out = λ none. absurd (cc);
    unwritten = λ _. refl;
    unspilled = λ _. refl;
    left = λ _. tt;
    sent = λ _. ends.sent;
    err_sent = ends.err_sent;
    err = ends.said;
  };
  front = ends.front;
}

pub prints : (text : List ℕ) (disk : DiskState) (out out_now err err_now : SinkState) (status : ℕ) → EndsText text out out_now err err_now status → Prints text (outside disk out err) (outside disk out_now err_now) status
prints text disk out out_now err err_now status ends = done_or_failed text disk out out_now err err_now status ends.is ends

-- memory ran out before the text was printed
pub unprinted : (text : List ℕ) (disk : DiskState) (out err err_now : SinkState) → Says err err_now (out_of_memory cmph) → IsSent err err_now → Prints text (outside disk out err) (outside disk out err_now) 6
unprinted text disk out err err_now says sent = record {
  does = unbegun (print_frame text) disk out err err_now refl sent tt (out_of_memory cmph, record { done = λ e. absurd (omega arith); write = λ e. absurd (omega arith); memory = λ e. refl }, says);
  front = (0, then_nothing out.written);
}
