use Rattle.std.proofs.Common.{◌∙◌, sym}
use Rattle.cm_shards_manifest.proofs.FolderLemmas.{slash_none}
use Rattle.std.proofs.Math.Utf8.{encode}
use Rattle.cm_shards_manifest.proofs.paths.no_slashes.Goals as goal

pub returns-in-None : goal.returns-in-None
unfolding encode
returns-in-None c = record { text = sym (slash_none c.loop-i.rest.now c.in-None.ensures.cases) ∙ c.loop-i.invariant.same }
