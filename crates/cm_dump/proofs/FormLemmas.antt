-- What holds of both versions of the dump.
use Rattle.std.proofs.Common.{◌≡◌, ℕ, ◌<◌, ◌≤◌, ◌^◌, length, arith, refl, lit<, lit≤}
use Rattle.std.specs.Int.{byte_len}
use Rattle.cm_dump_items.specs.WidthLaws.{IsWidth, of_one, of_two}
use Rattle.cm_spec.specs.declared.limits.TheConstants.{MAX_BUCKET, MAX_KEYS, MAX_WIDTH, MIN_WIDTH}
use Rattle.cm_dump.specs.declared.front.Algorithm.{Algorithm}
use Rattle.cm_dump.specs.declared.front.Algorithm.TheVariants as algorithm
use Rattle.cm_dump.specs.declared.versions.Version.{Version}
use Rattle.cm_dump.specs.declared.versions.Version.TheVariants as version
use Rattle.cm_dump.specs.Dumps.{kind_bytes}
use Rattle.cm_dump.specs.Forms.{Form, form_of}
use Rattle.cm_dump.specs.Headings.{most_b}

-- a version's numbers are within the limits of functions
pub record IsForm (v : Form) : Type 0 where
  pub magic : length v.magic ≡ 8
  pub kind : (algorithm b : ℕ) → length (kind_bytes v algorithm b) ≡ 4
  pub size : IsWidth v.size
  pub size_fits : v.most_size < 256 ^ byte_len v.size
  pub narrow : byte_len v.size ≤ 2
  pub few : v.most_size ≤ MAX_BUCKET
  pub least : v.least_width ≡ MIN_WIDTH
  pub most : v.most_width ≤ MAX_WIDTH
  pub keys : v.most_keys ≤ MAX_KEYS

pub form_facts : (w : Version) → IsForm (form_of w)
form_facts version.One = record {
  magic = refl;
  kind = λ algorithm b. refl;
  size = of_one;
  size_fits = lit< tt;
  narrow = lit≤ tt;
  few = lit≤ tt;
  least = refl;
  most = lit≤ tt;
  keys = lit≤ tt;
}
form_facts version.Two = record {
  magic = refl;
  kind = λ algorithm b. refl;
  size = of_two;
  size_fits = lit< tt;
  narrow = lit≤ tt;
  few = lit≤ tt;
  least = refl;
  most = lit≤ tt;
  keys = lit≤ tt;
}

-- a parameter fits its bytes
pub parameter_fits : (w : Version) (a : Algorithm) (b : ℕ) → b ≤ most_b (form_of w) a → b < 256 ^ byte_len (form_of w).b
parameter_fits version.One algorithm.Chm b most = let few : b < 256 = omega (arith, most) in few
parameter_fits version.One algorithm.Bdz b most = let few : b < 256 = omega (arith, most) in few
parameter_fits version.One algorithm.BdzPh b most = let few : b < 256 = omega (arith, most) in few
parameter_fits version.One algorithm.Brz b most = let few : b < 256 = omega (arith, most) in few
parameter_fits version.Two algorithm.Chm b most = let few : b < 65536 = omega (arith, most) in few
parameter_fits version.Two algorithm.Bdz b most = let few : b < 65536 = omega (arith, most) in few
parameter_fits version.Two algorithm.BdzPh b most = let few : b < 65536 = omega (arith, most) in few
parameter_fits version.Two algorithm.Brz b most = let few : b < 65536 = omega (arith, most) in few
