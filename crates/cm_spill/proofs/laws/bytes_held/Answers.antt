use Rattle.std.proofs.Common.{◌∙◌, ◌+◌, ◌++◌, ap, sym, length}
use Rattle.std.proofs.lemmas.List.Sums.{sum_by-append}
use Rattle.std.proofs.lemmas.List.Sorted.{sum_by-IsPermutation}
use Rattle.cm_spill.specs.Records.{size}
use Rattle.cm_spill.specs.Stores.{held_by}
use Rattle.cm_spill.proofs.Coding.{length-encodings}
use Rattle.cm_spill.proofs.laws.bytes_held.Goals as goal

pub returns : goal.returns
returns c = record {
  held = λ store bytes puts known held.
      let h = held bytes known in
      sum_by-IsPermutation size (h.written ++ store.waiting) puts h.same
      ∙ sum_by-append size h.written store.waiting
      ∙ ap (λ n. n + held_by store) (sym (ap length h.records.are ∙ length-encodings h.written));
}
