use Rattle.std.proofs.Common.{[], ◌∙◌, ap, arith, refl}
use Rattle.std.specs.Option.{option_map}
use Rattle.cm_io.specs.declared.key_pass.TheConstants.{MAX_KEY_LEN}
use Rattle.cm_spec.specs.declared.limits.TheConstants.{MAX_KEYS}
use Rattle.cm_keys.specs.Buffering.{left_bytes, ready_in}
use Rattle.cm_keys.specs.Lines.{lines_of}
use Rattle.cm_keys.proofs.GivenLemmas.{key_is_given}
use Rattle.cm_keys.proofs.PieceLemmas.{line_inside, line_passed, read_whole}
use Rattle.cm_keys.proofs.NextLemmas.{key_leaves, key_gives}
use Rattle.cm_keys.proofs.keys.KeysKeyPass.pass.Goals as goal

pub pass_line-requires : goal.pass_line-requires
pass_line-requires g c =
    let stands = rw (← c.self.view_is) at c.requires.stands in
    record { waits = line_inside MAX_KEY_LEN c.self.inside.end c.args.len _ stands.1.2 stands.0 stands.1.3 stands.2 }

pub invariant_of-self : goal.invariant_of-self
invariant_of-self g c =
    let self = c.self.inside in
    let stands = rw (← c.self.view_is) at c.requires.stands in
    let at_hand = stands.1 in
    let takes = line_passed MAX_KEY_LEN c.self.inside.end c.args.len _ at_hand.2 stands.0 _ at_hand.3 stands.2 c.pass_line.ensures.ready in
    let same = ap g.S.Source.told c.pass_line.ensures.source in
    let old = left_bytes (g.S.Source.told self.bytes.source) (g.S.Source.place self.bytes.source) (ready_in self.bytes.buf self.bytes.start self.bytes.until) in
    record {
      few = omega (arith, at_hand.1);
      left = λ _. key_leaves _ _ _ _ _ _ _ _ _ _ _ _ (c.self.invariant.left (ap (λ pass. pass.usable) c.self.view_is ∙ c.requires.usable))
          (read_whole MAX_KEY_LEN c.self.inside.end [] _ old old _ _ _ _ _ _ refl refl same (ap g.S.Source.place c.pass_line.ensures.source) takes)
          same at_hand.0 at_hand.1 takes.4;
    }

pub returns-clause-gives : goal.returns-clause-gives
returns-clause-gives g c =
    let self = c.self.inside in
    let same = ap g.S.Source.told c.pass_line.ensures.source in
    let old = left_bytes (g.S.Source.told self.bytes.source) (g.S.Source.place self.bytes.source) (ready_in self.bytes.buf self.bytes.start self.bytes.until) in
    rw (← c.self.view_is) (λ key at_hand long told is.
    let takes = line_passed MAX_KEY_LEN c.self.inside.end c.args.len _ at_hand.2 key _ at_hand.3 long c.pass_line.ensures.ready in
    key_gives _ _ _ _ _ _ _ _ _ _ _ _ (c.self.invariant.left (ap (λ pass. pass.usable) c.self.view_is ∙ c.requires.usable))
    (read_whole MAX_KEY_LEN c.self.inside.end [] _ old old _ _ _ _ _ _ refl refl same (ap g.S.Source.place c.pass_line.ensures.source) takes)
    same at_hand.0 at_hand.1 takes.4 told is)

pub returns-clause-gave : goal.returns-clause-gave
returns-clause-gave g c =
    let self = c.self.inside in
    let same = ap g.S.Source.told c.pass_line.ensures.source in
    let old = left_bytes (g.S.Source.told self.bytes.source) (g.S.Source.place self.bytes.source) (ready_in self.bytes.buf self.bytes.start self.bytes.until) in
    rw (← c.self.view_is) (λ keys key gave at_hand long.
    let takes = line_passed MAX_KEY_LEN c.self.inside.end c.args.len _ at_hand.2 key _ at_hand.3 long c.pass_line.ensures.ready in
    key_is_given _ _ _ _ _ _ keys (ap (option_map (lines_of MAX_KEYS MAX_KEY_LEN c.self.inside.end c.self.inside.first)) same) refl
    (key_gives _ _ _ _ _ _ _ _ _ _ _ _ (c.self.invariant.left (ap (λ pass. pass.usable) c.self.view_is ∙ c.requires.usable))
    (read_whole MAX_KEY_LEN c.self.inside.end [] _ old old _ _ _ _ _ _ refl refl same (ap g.S.Source.place c.pass_line.ensures.source) takes)
    same at_hand.0 at_hand.1 takes.4) gave)
