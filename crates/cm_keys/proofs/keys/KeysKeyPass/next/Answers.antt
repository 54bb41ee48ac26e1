use Rattle.std.proofs.Common.{◌<◌, ◌∙◌, ap, arith, refl}
use Rattle.std.specs.Option.{option_map}
use Rattle.cm_io.specs.declared.key_pass.TheConstants.{MAX_KEY_LEN}
use Rattle.cm_spec.specs.declared.limits.TheConstants.{MAX_KEYS}
use Rattle.cm_keys.specs.Lines.{lines_of}
use Rattle.cm_keys.proofs.GivenLemmas.{key_is_given}
use Rattle.cm_keys.proofs.NextLemmas.{key_leaves, key_gives, long_gives, many_gives, none_gives, ready_some}
use Rattle.cm_keys.proofs.keys.KeysKeyPass.next.Goals as goal

pub returns-in-Ok-true-clause-gives : goal.returns-in-Ok-true-clause-gives
returns-in-Ok-true-clause-gives g c =
    let more = c.has_more.new.self in
    rw c.keep.ensures.fault (rw (← c.self.view_is) (many_gives _ _ _ _ _ _ _ _ _ _ _ (c.self.invariant.left (ap (λ pass. pass.usable) c.self.view_is ∙ c.requires.usable)) c.in-Ok-true.ensures.left c.in-Ok-true.ensures.told
    (ready_some _ more.buf more.start more.until (c.in-Ok-true.ensures.more c.in-Ok-true.field-0-test) more.in_buf more.size) (c.is_open.ensures.open c.if-not-is_open.false) (omega (arith, c.if-self-eq-MAX_KEYS.true))))

pub returns-in-Ok-false-clause-gives : goal.returns-in-Ok-false-clause-gives
returns-in-Ok-false-clause-gives g c =
    let none = c.in-Ok-false.ensures.none c.in-Ok-false.field-0-test in
    rw (← c.self.view_is) (none_gives _ _ _ _ _ _ _ _ _ _ _ (c.self.invariant.left (ap (λ pass. pass.usable) c.self.view_is ∙ c.requires.usable)) c.in-Ok-false.ensures.left c.in-Ok-false.ensures.told none.0 none.1)

pub invariant_of-self-in-Ok-Key : goal.invariant_of-self-in-Ok-Key
invariant_of-self-in-Ok-Key g c =
    let self = c.self.inside in
    let line = rw c.in-Ok-Key.field-0-is at c.in-Ok-Key.ensures.line in
    let few : self.given < MAX_KEYS = omega (arith, c.if-self-eq-MAX_KEYS.false, c.self.invariant.few) in
    record {
      few = omega (arith, few);
      left = λ _. key_leaves _ _ _ _ _ _ _ _ _ _ _ _ (c.self.invariant.left (ap (λ pass. pass.usable) c.self.view_is ∙ c.requires.usable)) line.0 c.in-Ok-Key.ensures.told (c.is_open.ensures.open c.if-not-is_open.false) few line.1;
    }

pub returns-in-Ok-Key-clause-gives : goal.returns-in-Ok-Key-clause-gives
returns-in-Ok-Key-clause-gives g c =
    let self = c.self.inside in
    let line = rw c.in-Ok-Key.field-0-is at c.in-Ok-Key.ensures.line in
    let few : self.given < MAX_KEYS = omega (arith, c.if-self-eq-MAX_KEYS.false, c.self.invariant.few) in
    rw (← c.self.view_is) (key_gives _ _ _ _ _ _ _ _ _ _ _ _ (c.self.invariant.left (ap (λ pass. pass.usable) c.self.view_is ∙ c.requires.usable)) line.0 c.in-Ok-Key.ensures.told (c.is_open.ensures.open c.if-not-is_open.false) few line.1)

pub returns-in-Ok-TooLong-clause-gives : goal.returns-in-Ok-TooLong-clause-gives
returns-in-Ok-TooLong-clause-gives g c =
    let self = c.self.inside in
    let line = rw c.in-Ok-TooLong.field-0-is at c.in-Ok-TooLong.ensures.line in
    let few : self.given < MAX_KEYS = omega (arith, c.if-self-eq-MAX_KEYS.false, c.self.invariant.few) in
    rw c.keep-in-Ok-TooLong.ensures.fault (rw (← c.self.view_is) (long_gives _ _ _ _ _ _ _ _ (c.self.invariant.left (ap (λ pass. pass.usable) c.self.view_is ∙ c.requires.usable)) line (c.is_open.ensures.open c.if-not-is_open.false) few))

pub returns-in-Ok-Key-clause-gave : goal.returns-in-Ok-Key-clause-gave
returns-in-Ok-Key-clause-gave g c =
    let self = c.self.inside in
    let line = rw c.in-Ok-Key.field-0-is at c.in-Ok-Key.ensures.line in
    let few : self.given < MAX_KEYS = omega (arith, c.if-self-eq-MAX_KEYS.false, c.self.invariant.few) in
    rw (← c.self.view_is) (λ keys gave. key_is_given _ _ _ _ _ _ keys (ap (option_map (lines_of MAX_KEYS MAX_KEY_LEN c.self.inside.end c.self.inside.first)) c.in-Ok-Key.ensures.told) refl
    (key_gives _ _ _ _ _ _ _ _ _ _ _ _ (c.self.invariant.left (ap (λ pass. pass.usable) c.self.view_is ∙ c.requires.usable)) line.0 c.in-Ok-Key.ensures.told (c.is_open.ensures.open c.if-not-is_open.false) few line.1) gave)
