use Rattle.std.proofs.Common.{◌∙◌, sym}
use Rattle.cm_brz_split.specs.SpilledLaws.{new_holds, spilled}
use Rattle.cm_brz.proofs.build.brz.Goals as goal

pub returns-clause-spilled : goal.returns-clause-spilled
returns-clause-spilled g c =
    let made = c.brz_over-made in
    spilled made.result made.new.store (g.S.Spill.told c.into_spill.result) (g.P.KeyPass.told c.args.keys.now) c.into_spill.ensures.known made.ensures.sealed
    (λ known. made.ensures.put (new_holds c.in-Ok.store _ _ _ c.in-Ok.ensures.state c.in-Ok.ensures.holds (sym made.ensures.known ∙ known)))
