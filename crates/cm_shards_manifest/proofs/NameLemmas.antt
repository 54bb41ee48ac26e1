-- Names that are read: texts.
use Rattle.std.proofs.Common.{◌≡◌, ℕ, List, Bool, true, false, refl, Ok, Err}
use Rattle.std.specs.Prelude.{IsUtf8}
use Rattle.std.specs.Str.{is_utf8}
use Rattle.std.proofs.lemmas.Str.{IsUtf8-from_is_utf8, is_utf8-from_IsUtf8}
use Rattle.cm_dump_items.specs.declared.fault.LoadFault.TheVariants as faults
use Rattle.cm_dump_items.specs.Reading.{item_at}
use Rattle.cm_shards_manifest.specs.ManifestItems.{name_at}

not_utf8 : (t : Bool) (item : List ℕ) → is_utf8 item ≡ t → (IsUtf8 item → ⊥) → t ≡ false
not_utf8 true item is none = absurd (none (IsUtf8-from_is_utf8 item is))
not_utf8 false item is none = refl

pub name_known : (bytes item : List ℕ) (at n : ℕ) → item_at bytes at n ≡ Ok item → IsUtf8 item → name_at bytes at n ≡ Ok item
unfolding name_at
name_known bytes item at n is text = rw (is, is_utf8-from_IsUtf8 item text) refl

pub name_refused : (bytes item : List ℕ) (at n : ℕ) → item_at bytes at n ≡ Ok item → (IsUtf8 item → ⊥) → name_at bytes at n ≡ Err (faults.BadField at)
unfolding name_at
name_refused bytes item at n is none = rw (is, not_utf8 (is_utf8 item) item refl none) refl
