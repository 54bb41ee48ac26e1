-- A lemma about the file of a path that was written, for those who know what was saved.
use Rattle.std.proofs.Common.{◌≡◌, ◌∙◌, ℕ, List, Some, ap, Bool, cond}
use Rattle.std.specs.Cmp.{eq_by_cmp_equiv}
use Rattle.std.specs.Cmp.Lexicographic.{nat_list_cmp_total}
use Rattle.std.specs.FinMap as map
use Rattle.cm_io.specs.Files.{Files, file_at}

-- the file of a path that was written
pub written_at : (files : Files) (path bytes : List ℕ) → file_at (map.insert files path bytes) path ≡ Some bytes
written_at files path bytes =
    map.get-insert nat_list_cmp_total files path bytes path ∙ ap (λ (b : Bool). cond b (Some bytes) (map.get files path)) ((eq_by_cmp_equiv nat_list_cmp_total).refl path)
