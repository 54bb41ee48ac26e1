use Rattle.std.proofs.Common.{◌∙◌, ◌+◌, ◌∷◌, ap, arith, subst, sym, ℕ, Some}
use Rattle.cm_spill.specs.Reading.{AreLeft, RunLeft}
use Rattle.cm_spill.proofs.Leaving.{header_left, header_whole, left_with, long_left}
use Rattle.cm_spill.proofs.run.Run.read_header.Goals as goal

pub returns-then-self-clause-left : goal.returns-then-self-clause-left
returns-then-self-clause-left g c = λ x told r rs left.
    let was = subst (λ (v : RunLeft). AreLeft x v (r ∷ rs)) (sym c.self.view_is) left in
    absurd (omega (arith, c.if-self.true, long_left x _ r rs was))

pub returns-in-None-clause-left : goal.returns-in-None-clause-left
returns-in-None-clause-left g c = λ x told r rs left.
    let was = subst (λ (v : RunLeft). AreLeft x v (r ∷ rs)) (sym c.self.view_is) left in
    let here = ap (λ (v : RunLeft). v.ahead.at) c.self.view_is ∙ c.requires.within ∙ ap (λ (v : RunLeft). v.next) (sym c.self.view_is) in
    let none = c.in-None.is in
    let found = c.in_ok-header.ensures.none in
    absurd (omega (arith, (rw none at found) x told was.ahead, header_whole x _ r rs c.self.inside.ahead.at was here))

pub returns-then-end-self-clause-left : goal.returns-then-end-self-clause-left
returns-then-end-self-clause-left g c = λ x told r rs left.
    let was = subst (λ (v : RunLeft). AreLeft x v (r ∷ rs)) (sym c.self.view_is) left in
    let here = ap (λ (v : RunLeft). v.ahead.at) c.self.view_is ∙ c.requires.within ∙ ap (λ (v : RunLeft). v.next) (sym c.self.view_is) in
    let some = c.in-Some.is in
    let found = c.in_ok-header.ensures.header in
    let head = (rw some at found) x told was.ahead in
    let h = header_left x _ r rs c.self.inside.ahead.at c.in-Some.header was here head in
    absurd (omega (arith, c.if-end-self.true, long_left x _ r rs was, h.2))

pub returns-clause-left : goal.returns-clause-left
returns-clause-left g c = λ x told r rs left.
    let was = subst (λ (v : RunLeft). AreLeft x v (r ∷ rs)) (sym c.self.view_is) left in
    let here = ap (λ (v : RunLeft). v.ahead.at) c.self.view_is ∙ c.requires.within ∙ ap (λ (v : RunLeft). v.next) (sym c.self.view_is) in
    let some = c.in-Some.is in
    let found = c.in_ok-header.ensures.header in
    let moved = c.in_ok-header.ensures.at in
    let head = (rw some at found) x told was.ahead in
    let h = header_left x _ r rs c.self.inside.ahead.at c.in-Some.header was here head in
    left_with x _ (Some c.in-Some.header) c.take_header.new.self (r ∷ rs) was (c.in_ok-header.ensures.ahead x told was.ahead) ((rw some at moved) ∙ ap (λ (i : ℕ). i + 10) here, h)
