-- Lemmas about notes to one sink, one after another.
use Rattle.std.proofs.Common.{◌≡◌, ℕ, ◌+◌, ◌<◌, ◌≤◌, ◌^◌, min, List, [], ◌++◌, length, take, Bool, true, false, Option, inl, inr, refl, sym, ◌∙◌, ap, arith}
use Rattle.std.proofs.lemmas.Bool.{false≢true}
use Rattle.std.proofs.lemmas.List.{take_min, take_all, take-append-le}
use Rattle.std.proofs.Math.Seq.{take-append-add}
use Rattle.cm_io.specs.Writing.{then_bytes}
use Rattle.cm_io.specs.Causes.{Rose}
use Rattle.cm_io.specs.WritingLaws.{then_nothing, then_twice}
use Rattle.cm_io.specs.States.{IsSent, SinkState}
use Rattle.cm_io.specs.Noting.{HasNoted, Noted}

-- the first note
pub noted_first : {f g : Bool} {a b : SinkState} {text : List ℕ} → f ≡ false → Noted f g a b text → HasNoted g a b text
noted_first is noted = noted.wrote is

after_all : (a b c : SinkState) (text piece : List ℕ) (g : Bool) → (b.written ≡ then_bytes a.written text) × (b.faults ≡ a.faults) → HasNoted g b c piece → HasNoted g a c (text ++ piece)
after_all a b c text piece g so_far next = record {
  all = λ fine. ((next.all fine).0 ∙ ap (λ (w : Option (List ℕ)). then_bytes w piece) so_far.0 ∙ then_twice a.written text piece, omega (arith, so_far.1, (next.all fine).1));
  part = λ bad.
      let p = next.part bad in
      let n = p.0.0 in (
        (length text + n, p.0.1 ∙ ap (λ (w : Option (List ℕ)). then_bytes w (take n piece)) so_far.0 ∙ then_twice a.written text (take n piece) ∙ ap (then_bytes a.written) (sym (take-append-add text piece n))),
        omega (arith, so_far.1, p.1),
        λ small. omega (arith, so_far.1, small, p.2),
      );
}

after_part : (a b c : SinkState) (text piece : List ℕ) (g : Bool) → ((n : ℕ) × (b.written ≡ then_bytes a.written (take n text))) × (a.faults ≤ b.faults) × Rose a.faults b.faults → (g ≡ true) × (c ≡ b) → HasNoted g a c (text ++ piece)
after_part a b c text piece g so_far next = record {
  all = λ fine. cc (fine, next.0);
  part = λ bad.
      let n = so_far.0.0 in
      let m = min n (length text) in
      let in_text : m ≤ length text = omega arith in
      rw next.1 (
        (m, so_far.0.1 ∙ ap (then_bytes a.written) (sym (take_min n text) ∙ sym (take-append-le m text piece in_text))),
        so_far.1,
        so_far.2,
      );
}

-- One note more, to the same sink.
pub noted_next : {f g : Bool} {a b c : SinkState} {text piece : List ℕ} → HasNoted f a b text → Noted f g b c piece → HasNoted g a c (text ++ piece)
noted_next {f = false} {g = g} so_far next = after_all _ _ _ _ _ g (so_far.all refl) (next.wrote refl)
noted_next {f = true} {g = g} so_far next = after_part _ _ _ _ _ g (so_far.part refl) (next.silent refl)

-- notes, and then further ones
pub noted_more : {f g h : Bool} {a b c : SinkState} {text piece : List ℕ} → Noted f g a b text → Noted g h b c piece → Noted f h a c (text ++ piece)
noted_more {f = false} first next = record { wrote = λ fine. noted_next (first.wrote refl) next; silent = λ bad. absurd (false≢true bad) }
noted_more {f = true} first next = record {
  wrote = λ fine. absurd (false≢true (sym fine));
  silent = λ bad. let s = first.silent refl in let t = next.silent s.0 in (t.0, t.1 ∙ s.1);
}

-- no note
pub noted_nothing : (failed : Bool) (err : SinkState) → Noted failed failed err err []
noted_nothing failed err = record {
  wrote = λ fine. record { all = λ _. (then_nothing err.written, refl); part = λ bad. absurd (false≢true (sym fine ∙ bad)) };
  silent = λ bad. (bad, refl);
}

-- If nothing is buffered unless a note has failed, all is sent on or the count rose.
pub noted_sent : {f : Bool} {a b : SinkState} {text : List ℕ} → HasNoted f a b text → (f ≡ false → b.waits ≡ 0) → IsSent a b
noted_sent {f = false} noted sent = λ small. inl (sent refl)
noted_sent {f = true} noted sent = λ small. inr ((noted.part refl).2 small)

-- a prefix of what was noted
pub noted_front : {f : Bool} {a b : SinkState} {text : List ℕ} → HasNoted f a b text → (n : ℕ) × (b.written ≡ then_bytes a.written (take n text))
noted_front {f = false} {a = a} {text = text} noted = (length text, (noted.all refl).0 ∙ ap (then_bytes a.written) (sym (take_all (length text) text (omega arith))))
noted_front {f = true} noted = (noted.part refl).0

-- all of it, if no write has failed
pub noted_all : {f : Bool} {a b : SinkState} {text : List ℕ} → HasNoted f a b text → a.faults < 2 ^ 63 → b.faults ≡ a.faults → b.written ≡ then_bytes a.written text
noted_all {f = false} noted small same = (noted.all refl).0
noted_all {f = true} {a = a} {b = b} noted small same = let rose : a.faults < b.faults = (noted.part refl).2 small in absurd (omega arith)
