use Rattle.std.proofs.Common.{◌≡◌, ℕ, List, [], Option, length, map}
use Rattle.cm_bits.specs.Held.{packed_cells}
use Rattle.cm_query.specs.Marks.{AreMarks, Marked}
use Rattle.cm_query.proofs.marks.Marks.mark_all.Given as goal

abbrev pub invariant-loop-i : goal.invariant-loop-i
invariant-loop-i l =
    let cells = packed_cells 2 8 l.self-inside.cells.n l.self-inside.cells.bytes.items in
    let here : Marked = record { cells = cells; repeated = l.self-inside.repeated.items } in
    record {
      start : l.self-inside.next ≡ 0;
      long : length l.self-inside.repeated.items ≡ l.i;
      size : length cells ≡ length l.fn.self.cells;
      marks : (f : List ℕ → Option ℕ) (reached waiting : List (ℕ × List ℕ)) → l.answers ≡ map (λ k. f k.1) waiting → AreMarks f reached [] l.fn.self → AreMarks f reached waiting here;
    }
