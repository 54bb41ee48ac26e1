-- What is read of a manifest.
use Rattle.std.proofs.Common.{◌≡◌, ◌∙◌, ℕ, List, Ok, Err, sym}
use Rattle.cm_io.specs.Files.{Files}
use Rattle.cm_shards_files.specs.Loading.{DecidesManifest, SpellsManifest}
use Rattle.cm_shards_files.specs.Steps.{ReadsManifest, fault_unread}
use Rattle.cm_shards_manifest.specs.Loads.{FailsAs}
use Rattle.cm_shards_manifest.specs.ManifestFiles.{manifest_in}
use Rattle.cm_shards_manifest.specs.Manifests.{Manifest}
use Rattle.cm_shards_manifest.specs.declared.fault.ManifestUnread.{ManifestUnread}
use Rattle.cm_shards_manifest.specs.declared.fault.ManifestUnread.TheVariants.{Memory, Bad}

-- bytes that decide it have the manifest of the file
pub spells_by : (files : Files) (path begin : List ℕ) (m : Manifest) → DecidesManifest files path begin → manifest_in begin ≡ Ok m → SpellsManifest files path m
spells_by files path begin m decides is = (decides.bytes, decides.there, sym decides.same ∙ is)

-- or its fault
pub fails_by : (files : Files) (path begin : List ℕ) (fault : ManifestUnread) → DecidesManifest files path begin → FailsAs fault (manifest_in begin) → ReadsManifest files path (Err (fault_unread fault))
fails_by files path begin Memory decides is = tt
fails_by files path begin (Bad fault) decides is = (decides.bytes, decides.there, sym decides.same ∙ is)
