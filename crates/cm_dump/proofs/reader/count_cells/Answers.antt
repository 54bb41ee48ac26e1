use Rattle.std.proofs.Common.{rules, inl, inr, lit<}
use Rattle.std.proofs.lemmas.Bool.{cases_eq}
use Rattle.cm_bits.specs.PackedLaws.{AllBelow-packed_cells}
use Rattle.cm_dump_items.specs.StepLaws.{ok_err}
use Rattle.cm_dump.proofs.reader.count_cells.Goals as goal

pub returns-in-Ok-clause-valid : goal.returns-in-Ok-clause-valid
returns-in-Ok-clause-valid c =
    let e = c.in-Ok.ensures in
    let t = c.args.cells in
    record {
      keys = rw e.keys c.requires.keys;
      ratio = rw e.ratio c.requires.ratio;
      seed = search rules;
      shift = rw e.shift c.requires.b;
      size = rw (e.cells, e.keys, e.ratio) c.requires.size;
      below = rw e.cells (AllBelow-packed_cells 4 4 t.n t.bytes.items (lit< tt));
      busy = rw (e.cells, e.keys) (elim (cases_eq _ _) [
        | inl same ↦ same
        | inr other ↦ absurd (ok_err _ _ (e.counted other))
      ]);
    }
