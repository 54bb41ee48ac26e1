use Rattle.std.proofs.Common.{◌≡◌, ◌∙◌, ◌++◌, List, ap, append-nil, subst, sym}
use Rattle.std.specs.Prelude.{filter}
use Rattle.std.specs.List.Sorted.{IsPermutation}
use Rattle.cm_spill.specs.Records.{Record, is_of}
use Rattle.cm_spill.proofs.laws.all_written.Goals as goal

pub returns : goal.returns
returns c = record {
  written = λ store bytes puts known none held.
      let h = held bytes known in
      let all : h.written ++ store.waiting ≡ h.written = ap (λ (l : List Record). h.written ++ l) none ∙ append-nil h.written in (
        h.written,
        h.records,
        subst (λ (l : List Record). IsPermutation l puts) all h.same,
        λ bucket. ap (filter (is_of bucket)) (sym all) ∙ h.each bucket,
      );
}
