-- The version that bytes name.
use Rattle.std.proofs.Common.{◌≡◌, ap, sym, refl, List, ℕ, length, take, nat_lt, Ok, if◌then◌else◌}
use Rattle.std.specs.Cmp.Lexicographic.{pointwise}
use Rattle.std.specs.Prelude.{nat_eq}
use Rattle.cm_dump_items.specs.ItemLaws.{whole_or}
use Rattle.cm_dump_items.specs.Reading.{item_at}
use Rattle.cm_dump_items.specs.declared.fault.LoadFault.TheVariants as faults
use Rattle.cm_dump.specs.declared.versions.Version.{Version}
use Rattle.cm_dump.specs.declared.versions.Version.TheVariants as version
use Rattle.cm_dump.specs.Forms.{form_of, version_1, version_2, version_of}
use Rattle.cm_dump.specs.Headings.{magic_at}

-- the first bytes name the version
first_bytes : (bytes xs : List ℕ) → item_at bytes 0 8 ≡ Ok xs → take 8 bytes ≡ xs
unfolding item_at
first_bytes bytes xs is = (whole_or (nat_lt (length bytes) 8) (faults.Truncated (length bytes)) (take 8 bytes) xs is).1

by_first : (bytes xs : List ℕ) → item_at bytes 0 8 ≡ Ok xs → (if pointwise nat_eq xs version_2.magic then version.Two else version.One) ≡ version_of bytes
by_first bytes xs is = ap (λ (l : List ℕ). if pointwise nat_eq l version_2.magic then version.Two else version.One) (sym (first_bytes bytes xs is))

pub names : (w : Version) (bytes : List ℕ) → item_at bytes 0 8 ≡ Ok (form_of w).magic → w ≡ version_of bytes
names version.One bytes is = by_first bytes version_1.magic is
names version.Two bytes is = by_first bytes version_2.magic is

-- the magic of a version is there
pub magic_known : (w : Version) (bytes : List ℕ) → item_at bytes 0 8 ≡ Ok (form_of w).magic → magic_at (form_of (version_of bytes)) bytes ≡ Ok tt
unfolding magic_at
magic_known w bytes is = rw (← names w bytes is) (go w is) where
  go : (u : Version) → item_at bytes 0 8 ≡ Ok (form_of u).magic → magic_at (form_of u) bytes ≡ Ok tt
  go version.One there = rw there refl
  go version.Two there = rw there refl
