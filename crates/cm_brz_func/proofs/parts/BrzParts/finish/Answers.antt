use Rattle.std.proofs.Common.{◌≡◌, length, subst, sym}
use Rattle.cm_bits.specs.Held.{packed_cells}
use Rattle.cm_brz_func.specs.Functions.{Brz, IsBrz, bucket_count}
use Rattle.cm_brz_func.specs.Kept.{all_held}
use Rattle.cm_brz_func.proofs.KeptLemmas.{kept_all}
use Rattle.cm_brz_func.proofs.parts.BrzParts.finish.Goals as goal

pub of-requires : goal.of-requires
of-requires c =
    let p = c.self.inside in
    let all = subst (λ (f : Brz). length f.buckets ≡ bucket_count f.keys f.width) (sym c.self.view_is) c.requires.all in
    record { valid = subst IsBrz c.self.view_is (kept_all p.m p.c p.b p.split p.count p.held (packed_cells 4 4 p.cells.n p.cells.bytes.items) (all_held p.c p.held p.kept.items) c.self.invariant all) }
