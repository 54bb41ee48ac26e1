use Rattle.std.proofs.Common.{[], ◌∙◌, ap, arith, refl}
use Rattle.cm_io.specs.declared.key_pass.TheConstants.{MAX_KEY_LEN}
use Rattle.cm_keys.specs.Buffering.{left_bytes, ready_in}
use Rattle.cm_keys.proofs.NextLemmas.{key_leaves}
use Rattle.cm_keys.proofs.PieceLemmas.{line_inside, line_passed, read_whole}
use Rattle.cm_keys.proofs.lines.Lines.pass.Goals as goal

pub pass_line-requires : goal.pass_line-requires
pass_line-requires g c =
    let stands = rw (← c.self.view_is) at c.requires.stands in
    record { waits = line_inside MAX_KEY_LEN c.self.inside.end c.args.len _ stands.1.2 stands.0 stands.1.3 stands.2 }

pub invariant_of-self : goal.invariant_of-self
invariant_of-self g c =
    let self = c.self.inside in
    let stands = rw (← c.self.view_is) at c.requires.stands in
    let buffered = stands.1 in
    let takes = line_passed MAX_KEY_LEN c.self.inside.end c.args.len _ buffered.2 stands.0 _ buffered.3 stands.2 c.pass_line.ensures.ready in
    let same = ap g.S.Source.told c.pass_line.ensures.source in
    let old = left_bytes (g.S.Source.told self.bytes.source) (g.S.Source.place self.bytes.source) (ready_in self.bytes.buf self.bytes.start self.bytes.until) in
    record {
      few = omega (arith, buffered.1);
      left = λ _. key_leaves _ _ _ _ _ _ _ _ _ _ _ _ (c.self.invariant.left (ap (λ stream. stream.usable) c.self.view_is ∙ c.requires.usable))
          (read_whole MAX_KEY_LEN c.self.inside.end [] _ old old _ _ _ _ _ _ refl refl same (ap g.S.Source.place c.pass_line.ensures.source) takes)
          same buffered.0 buffered.1 takes.4;
    }
