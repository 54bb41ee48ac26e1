use Rattle.std.proofs.Common.{◌∙◌, ◌+◌, ◌∷◌, ap, arith, length, refl, subst, sym, Option, Some}
use Rattle.cm_spill.specs.Reading.{AreLeft, IsHeaderRead, RunLeft}
use Rattle.cm_spill.specs.declared.header.Header.{Header}
use Rattle.cm_spill.proofs.Leaving.{key_left, left_after}
use Rattle.cm_spill.proofs.run.Run.take.Goals as goal

pub returns-clause-takes : goal.returns-clause-takes
returns-clause-takes g c = λ x told r rs left.
    let was = subst (λ (v : RunLeft). AreLeft x v (r ∷ rs)) (sym c.self.view_is) left in
    let run : RunLeft = record { until = c.self.inside.end; next = c.self.inside.next; header = c.self.inside.header; ahead = c.self.inside.ahead } in
    let read : IsHeaderRead (r ∷ rs) run (Some c.in-Some.header) = subst (λ (h : Option Header). IsHeaderRead (r ∷ rs) run h) c.in-Some.is was.header in
    let key = c.in_ok-take.ensures.bytes x told was.ahead ∙ key_left x run r rs c.self.inside.ahead.at c.in-Some.header.len was read.0 read.1.2 in
    (read.1.1, key, refl)

pub returns-clause-left : goal.returns-clause-left
returns-clause-left g c = λ x told r rs left.
    let was = subst (λ (v : RunLeft). AreLeft x v (r ∷ rs)) (sym c.self.view_is) left in
    let run : RunLeft = record { until = c.self.inside.end; next = c.self.inside.next; header = c.self.inside.header; ahead = c.self.inside.ahead } in
    let read : IsHeaderRead (r ∷ rs) run (Some c.in-Some.header) = subst (λ (h : Option Header). IsHeaderRead (r ∷ rs) run h) c.in-Some.is was.header in
    let key = c.in_ok-take.ensures.bytes x told was.ahead ∙ key_left x run r rs c.self.inside.ahead.at c.in-Some.header.len was read.0 read.1.2 in
    left_after x run r rs (c.self.inside.next + (10 + c.in-Some.header.len)) c.take.new.self was (omega (arith, read.1.2)) (c.in_ok-take.ensures.ahead x told was.ahead)
    (omega (arith, c.in_ok-take.ensures.at, read.0, read.1.2, ap length key))
