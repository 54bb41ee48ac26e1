use Rattle.std.proofs.Common.{◌<◌, ◌+◌, Bool, leb, length, set, take, ap, ◌∙◌, arith}
use Rattle.std.proofs.Math.ListN.{length-set}
use Rattle.cm_peel.proofs.Chunks.{byte_small}
use mir.Val.{bool_byte}
use Rattle.cm_peel.proofs.Ending.{is_untaken, untaken_byte}
use Rattle.cm_peel.proofs.Listing.{kept_written, kept_more, kept_all}
use Rattle.cm_peel.proofs.peeled.untaken.Goals as goal

pub edges-preserved : goal.edges-preserved
edges-preserved c =
    let inv = c.edges.invariant in
    let more : c.edges.e < length c.args.bytes.now.items = kept_more (is_untaken c.args.bytes.now.items) c.edges.list.items c.edges.at c.edges.e _ (omega (arith, c.edges-test.true, inv.long)) inv.within (inv.long ∙ c.requires.many) inv.listed in
    record {
      long = length-set _ _ _ ∙ inv.long;
      place = omega (arith, c.edges-test.true, byte_small (leb 8 c.index.result.now));
      within = omega arith;
      listed = ap (λ (b : Bool). take (c.edges.at + bool_byte b) (set c.edges.list.items c.edges.at c.edges.e)) (untaken_byte c.args.bytes.now.items c.edges.e c.index.result.now more c.index.ensures)
          ∙ kept_written (is_untaken c.args.bytes.now.items) c.edges.list.items c.edges.at c.edges.e (omega (arith, c.edges-test.true, inv.long)) inv.listed;
    }

pub returns : goal.returns
returns c =
    let inv = c.edges.invariant in
    kept_all (is_untaken c.args.bytes.now.items) c.edges.list.items c.edges.at c.edges.e _ (omega (arith, c.edges-test.false, inv.place, inv.long)) inv.within (inv.long ∙ c.requires.many) inv.listed
