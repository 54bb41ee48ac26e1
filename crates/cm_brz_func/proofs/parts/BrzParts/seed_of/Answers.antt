use Rattle.std.proofs.Common.{arith}
use Rattle.std.proofs.lemmas.Grind.{common_steps}
use Rattle.cm_brz_func.proofs.HeldLemmas.{held_is}
use Rattle.cm_brz_func.proofs.KeptLemmas.{sized_at}
use Rattle.cm_brz_func.proofs.parts.BrzParts.seed_of.Goals as goal

pub index-requires : goal.index-requires
index-requires c = omega (arith, (sized_at c.self.inside.kept.items c.args.j c.self.invariant c.self.view_is c.requires.inside).inside)

pub returns : goal.returns
returns c =
    let p = c.self.inside in
    let sized = sized_at p.kept.items c.args.j c.self.invariant c.self.view_is c.requires.inside in
    grind (arith, common_steps, held_is p.c p.held p.kept.items c.args.j sized.inside)
