-- What the versions of the dump differ in.
use Rattle.std.specs.Prelude.{ℕ, List, codes, nat_eq, take, if◌then◌else◌}
use Rattle.std.specs.Cmp.Lexicographic.{pointwise}
use Rattle.std.specs.Int.{Width, w8, w16}
use Rattle.cm_dump.specs.declared.versions.Version.{Version}
use Rattle.cm_dump.specs.declared.versions.Version.TheVariants as version
use Rattle.cm_spec.specs.Dump.{magic}
use Rattle.cm_spec.specs.declared.limits.TheConstants.{MAX_BUCKET, MAX_KEYS, MAX_WIDTH, MIN_WIDTH}

-- A version of the dump, by the numbers in which versions differ.
pub record Form : Type 0 where
  -- the first bytes, of which there are eight
  pub magic : List ℕ
  -- where the parameter b stands in the bytes 9 to 11, and how wide it is; the others of these bytes are zero
  pub b_at : ℕ
  pub b : Width
  -- how wide the number of keys of a bucket is, and the greatest such number
  pub size : Width
  pub most_size : ℕ
  -- how many keys a bucket has on average at least, and at most
  pub least_width : ℕ
  pub most_width : ℕ
  -- how many keys a function has at most
  pub most_keys : ℕ

-- version 1, which is read
abbrev pub version_1 : Form
version_1 = record { magic = magic; b_at = 9; b = w8; size = w8; most_size = 255; least_width = 64; most_width = 175; most_keys = 16777216 }

-- version 2, which is read and written, and has the limits of functions
abbrev pub version_2 : Form
version_2 = record { magic = codes "CMPHDMP2"; b_at = 10; b = w16; size = w16; most_size = MAX_BUCKET; least_width = MIN_WIDTH; most_width = MAX_WIDTH; most_keys = MAX_KEYS }

abbrev pub form_of : Version → Form
form_of version.One = version_1
form_of version.Two = version_2

-- the version that the first bytes name: version 2 if they are its magic, and else version 1, by which bytes without a magic are refused
abbrev pub version_of : List ℕ → Version
version_of bytes = if pointwise nat_eq (take 8 bytes) version_2.magic then version.Two else version.One
