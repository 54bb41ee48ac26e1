-- Where parts make no store.
use Rattle.std.specs.Prelude.{ℕ}
use Rattle.cm_store.specs.declared.store.PlacesFault.{PlacesFault}
use Rattle.cm_store.specs.declared.store.PlacesFault.TheVariants.{BadRecord}

abbrev pub place_of : PlacesFault → ℕ
place_of (BadRecord at) = at
