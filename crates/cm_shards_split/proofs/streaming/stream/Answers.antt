use Rattle.std.proofs.Common.{◌∙◌, Bool, Option, Ok, None, subst}
use Rattle.cm_io.specs.Passes.{Told}
use Rattle.cm_keys.specs.Streams.{told_by}
use Rattle.cm_shards_split.specs.Plans.{plan}
use Rattle.cm_shards_split.specs.Streaming.{HasEnded, StepsTo}
use Rattle.cm_shards_split.proofs.streaming.stream.Goals as goal

pub returns-in-Ok-false-clause-ends : goal.returns-in-Ok-false-clause-ends
returns-in-Ok-false-clause-ends g c = λ dir base streaming.
    let p = plan dir base c.args.route.now c.args.end in
    let files = (g.D.Disk.state c.step.new.disk).files in
    let now = c.in-Ok-false.ensures.steps dir base (c.loop-i.invariant.streaming dir base streaming) in
    let ended : HasEnded p (told_by c.step.new.lines) None c.step.new.parts files = subst (λ (b : Bool). StepsTo p c.step.new.lines c.step.new.parts files (Ok b)) c.in-Ok-false.field-0-test now in
    subst (λ (told : Option Told). HasEnded p told None c.step.new.parts files) (c.step.ensures.told ∙ c.loop-i.invariant.told) ended

pub returns-in-Ok-false-step-clause-ends : goal.returns-in-Ok-false-step-clause-ends
returns-in-Ok-false-step-clause-ends g c = λ dir base streaming.
    let p = plan dir base c.args.route.now c.args.end in
    let files = (g.D.Disk.state c.step-2.new.disk).files in
    let now = c.in-Ok-false-step.ensures.steps dir base (c.loop-i.invariant.streaming dir base streaming) in
    let ended : HasEnded p (told_by c.step-2.new.lines) None c.step-2.new.parts files = subst (λ (b : Bool). StepsTo p c.step-2.new.lines c.step-2.new.parts files (Ok b)) c.in-Ok-false-step.field-0-test now in
    subst (λ (told : Option Told). HasEnded p told None c.step-2.new.parts files) (c.step-2.ensures.told ∙ c.loop-i.invariant.told) ended
