use Rattle.std.proofs.Common.{◌∙◌, ℕ, ◌-◌, get_or, ap, sym}
use Rattle.cm_brz_func.specs.Kept.{held_of}
use Rattle.cm_brz_func.specs.declared.held.Kept.{Kept}
use Rattle.cm_brz_func.proofs.HeldLemmas.{held_is, none_kept}
use Rattle.cm_brz_func.proofs.held.held_at.Goals as goal

pub returns : goal.returns
returns c =
    let k : Kept = get_or c.args.kept.now c.args.j none_kept in
    record { held = rw c.third_of.ensures.third (ap (λ (o : ℕ). held_of c.args.c k (o - k.offset)) c.next_offset.ensures.offset ∙ sym (held_is c.args.c c.args.held c.args.kept.now c.args.j c.requires.sized.inside)) }
