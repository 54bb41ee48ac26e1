use Rattle.std.proofs.Common.{◌<◌, ◌∙◌, ap, arith, refl}
use Rattle.cm_keys.specs.declared.lines.TheConstants.{MAX_LINES}
use Rattle.cm_keys.proofs.NextLemmas.{key_leaves, key_gives, long_gives, many_gives, ready_some}
use Rattle.cm_keys.proofs.lines.Lines.next.Goals as goal

pub returns-in-Ok-true-clause-gives : goal.returns-in-Ok-true-clause-gives
returns-in-Ok-true-clause-gives g c =
    let more = c.has_more.new.self in
    rw c.stop.ensures.fault (rw (← c.self.view_is) (many_gives _ _ _ _ _ _ _ _ _ _ _ (c.self.invariant.left (ap (λ stream. stream.usable) c.self.view_is ∙ c.requires.usable)) c.in-Ok-true.ensures.left c.in-Ok-true.ensures.told
    (ready_some _ more.buf more.start more.until (c.in-Ok-true.ensures.more c.in-Ok-true.field-0-test) more.in_buf more.size) (c.is_open.ensures.open c.if-not-is_open.false) (omega (arith, c.if-self.true))))

pub invariant_of-self-in-Ok-Key : goal.invariant_of-self-in-Ok-Key
invariant_of-self-in-Ok-Key g c =
    let self = c.self.inside in
    let line = rw c.in-Ok-Key.field-0-is at c.in-Ok-Key.ensures.line in
    let few : self.count < MAX_LINES = omega (arith, c.if-self.false, c.self.invariant.few) in
    record {
      few = omega (arith, few);
      left = λ _. key_leaves _ _ _ _ _ _ _ _ _ _ _ _ (c.self.invariant.left (ap (λ stream. stream.usable) c.self.view_is ∙ c.requires.usable)) line.0 c.in-Ok-Key.ensures.told (c.is_open.ensures.open c.if-not-is_open.false) few line.1;
    }

pub returns-in-Ok-Key-clause-gives : goal.returns-in-Ok-Key-clause-gives
returns-in-Ok-Key-clause-gives g c =
    let self = c.self.inside in
    let line = rw c.in-Ok-Key.field-0-is at c.in-Ok-Key.ensures.line in
    let few : self.count < MAX_LINES = omega (arith, c.if-self.false, c.self.invariant.few) in
    rw (← c.self.view_is) (λ told is. (key_gives _ _ _ _ _ _ _ _ _ _ _ _ (c.self.invariant.left (ap (λ stream. stream.usable) c.self.view_is ∙ c.requires.usable)) line.0 c.in-Ok-Key.ensures.told (c.is_open.ensures.open c.if-not-is_open.false) few line.1 told is, refl))

pub returns-in-Ok-TooLong-clause-gives : goal.returns-in-Ok-TooLong-clause-gives
returns-in-Ok-TooLong-clause-gives g c =
    let self = c.self.inside in
    let line = rw c.in-Ok-TooLong.field-0-is at c.in-Ok-TooLong.ensures.line in
    let few : self.count < MAX_LINES = omega (arith, c.if-self.false, c.self.invariant.few) in
    rw c.stop-in-Ok-TooLong.ensures.fault (rw (← c.self.view_is) (long_gives _ _ _ _ _ _ _ _ (c.self.invariant.left (ap (λ stream. stream.usable) c.self.view_is ∙ c.requires.usable)) line (c.is_open.ensures.open c.if-not-is_open.false) few))
