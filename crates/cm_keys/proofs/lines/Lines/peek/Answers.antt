use Rattle.std.proofs.Common.{[], ◌<◌, ◌∙◌, ap, refl, rules}
use Rattle.cm_io.specs.declared.key_pass.TheConstants.{MAX_KEY_LEN}
use Rattle.cm_keys.specs.Buffering.{left_bytes, ready_in}
use Rattle.cm_keys.specs.declared.lines.TheConstants.{MAX_LINES}
use Rattle.cm_keys.proofs.NextLemmas.{key_gives}
use Rattle.cm_keys.proofs.PieceLemmas.{read_whole}
use Rattle.cm_keys.proofs.StreamLemmas.{none_buffered}
use Rattle.cm_keys.proofs.lines.Lines.peek.Goals as goal

pub returns-in-Some-clause-gives : goal.returns-in-Some-clause-gives
returns-in-Some-clause-gives g c =
    let self = c.self.inside in
    let few : self.count < MAX_LINES = c.may_yield.ensures.few c.if-not-may_yield.false in
    let takes = c.in-Some.ensures.line.1 in
    let old = left_bytes (g.S.Source.told self.bytes.source) (g.S.Source.place self.bytes.source) (ready_in self.bytes.buf self.bytes.start self.bytes.until) in
    rw (← c.self.view_is) (λ told is. (
      key_gives _ _ _ _ _ _ _ _ _ _ _ _ (c.self.invariant.left (ap (λ stream. stream.usable) c.self.view_is ∙ c.requires.usable))
          (read_whole MAX_KEY_LEN c.self.inside.end [] _ old old _ _ _ _ _ _ refl refl refl refl takes)
          refl (c.may_yield.ensures.open c.if-not-may_yield.false) few takes.4 told is,
      refl,
    ))

pub returns-then-not-may_yield-clause-none_stands : goal.returns-then-not-may_yield-clause-none_stands
returns-then-not-may_yield-clause-none_stands g c = λ key. none_buffered c.args.self.now key (search rules)

pub returns-in-None-clause-none_stands : goal.returns-in-None-clause-none_stands
returns-in-None-clause-none_stands g c = λ key. none_buffered c.args.self.now key (search rules)
