use Rattle.std.proofs.Common.{◌≡◌, ◌≤◌, ◌+◌, ◌*◌, length}
use Rattle.std.specs.Option.{ForSome}
use Rattle.cm_brz_func.specs.Functions.{bucket_count}
use Rattle.cm_dump_items.specs.Unreads.{IsNext}
use Rattle.cm_dump_items.specs.declared.piece.TheConstants.{ENOUGH}
use Rattle.cm_dump.specs.Spelling.{brz_at, left_of, rest_at}
use Rattle.cm_dump.specs.Forms.{form_of}
use Rattle.cm_dump.proofs.rest.load_brz.Given as goal

abbrev pub invariant-buckets : goal.invariant-buckets
invariant-buckets g l =
    let told = g.S.Source.told in
    record {
      same : told l.source ≡ told l.fn.source;
      quiet : g.S.Source.faults l.source ≡ g.S.Source.faults l.fn.source;
      keys : l.parts.keys ≡ l.fn.header.keys;
      ratio : l.parts.ratio ≡ l.fn.header.ratio;
      width : l.parts.width ≡ l.fn.header.b;
      split : l.parts.split ≡ l.fn.header.seed;
      few : length l.parts.buckets ≤ bucket_count l.fn.header.keys l.fn.header.b;
      near : l.at ≤ 24 + ENOUGH * length l.parts.buckets;
      next : ForSome (told l.source) (λ bytes. IsNext bytes (g.S.Source.place l.source) l.at l.piece);
      right : ForSome (told l.source) (λ bytes. brz_at (form_of l.fn.version) bytes l.fn.header ≡ rest_at (form_of l.fn.version) bytes l.at (left_of l.parts) l.parts);
    }

abbrev pub decreases-buckets : goal.decreases-buckets
decreases-buckets g l = left_of l.parts
