use Rattle.std.proofs.Common.{◌∙◌, ap, arith, refl}
use Rattle.std.specs.Option.{option_map}
use Rattle.cm_io.specs.declared.key_pass.TheConstants.{MAX_KEY_LEN}
use Rattle.cm_spec.specs.declared.limits.TheConstants.{MAX_KEYS}
use Rattle.cm_keys.specs.declared.buffered.TheConstants.{ROOM}
use Rattle.cm_keys.specs.Lines.{lines_of}
use Rattle.cm_keys.proofs.GivenLemmas.{some_are_given}
use Rattle.cm_keys.proofs.NextLemmas.{lines_give, lines_leave}
use Rattle.cm_keys.proofs.keys.KeysKeyPass.skip.Goals as goal

pub invariant_of-self : goal.invariant_of-self
invariant_of-self g c =
    let many = c.may_give_many.ensures in
    let few = many.few c.if-not-may_give_many.false in
    record {
      few = omega (arith, few, c.skip_lines-count.ensures.few);
      left = λ _. lines_leave MAX_KEYS MAX_KEY_LEN c.self.inside.end _ _ _ ROOM _ _ _ _ _ _ (c.self.invariant.left (ap (λ pass. pass.usable) c.self.view_is ∙ c.requires.usable))
          (ap g.S.Source.told c.skip_lines-count.ensures.source) (ap g.S.Source.place c.skip_lines-count.ensures.source) c.skip_lines-count.ensures.lines
          c.skip_lines-count.ensures.few few (many.within c.if-not-may_give_many.false);
    }

pub returns-clause-gives : goal.returns-clause-gives
returns-clause-gives g c = λ some.
    let many = c.may_give_many.ensures in
    rw (← c.self.view_is) (lines_give MAX_KEYS MAX_KEY_LEN c.self.inside.end _ _ _ ROOM _ _ _ _ (c.self.invariant.left (ap (λ pass. pass.usable) c.self.view_is ∙ c.requires.usable))
    c.skip_lines-count.ensures.lines c.skip_lines-count.ensures.few (many.few c.if-not-may_give_many.false) (many.within c.if-not-may_give_many.false) some)

pub returns-clause-gave : goal.returns-clause-gave
returns-clause-gave g c =
    let many = c.may_give_many.ensures in
    rw (← c.self.view_is) (λ keys gave. some_are_given _ _ _ _ _ keys (ap (option_map (lines_of MAX_KEYS MAX_KEY_LEN c.self.inside.end c.self.inside.first)) (ap g.S.Source.told c.skip_lines-count.ensures.source)) refl
    (λ some. lines_give MAX_KEYS MAX_KEY_LEN c.self.inside.end _ _ _ ROOM _ _ _ _ (c.self.invariant.left (ap (λ pass. pass.usable) c.self.view_is ∙ c.requires.usable))
    c.skip_lines-count.ensures.lines c.skip_lines-count.ensures.few (many.few c.if-not-may_give_many.false) (many.within c.if-not-may_give_many.false) some) gave)
