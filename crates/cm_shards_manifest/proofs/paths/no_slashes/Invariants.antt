use Rattle.std.proofs.Common.{◌≡◌, ◌+◌, length}
use denote.Shadow.{shadow}
use denote.Text.{Utf8}
use Rattle.cm_shards_manifest.specs.Paths.{no_slashes}
use Rattle.cm_shards_manifest.proofs.paths.no_slashes.Given as goal

abbrev pub invariant-loop-i : goal.invariant-loop-i
invariant-loop-i l = record {
  same : no_slashes l.rest ≡ no_slashes l.text;
  long : length l.rest + l.i ≡ length l.text;
  is_text : shadow (Utf8 l.rest);
}
