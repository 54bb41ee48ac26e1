use Rattle.std.proofs.Common.{◌≡◌, ◌<◌, ℕ, false, length, get_or}
use Rattle.std.specs.Option.{ForSome}
use Rattle.cm_brz_split.specs.Split.{is_split}
use Rattle.cm_brz_split.proofs.split.choose_split.Given as goal

abbrev pub invariant-loop-i : goal.invariant-loop-i
invariant-loop-i g l =
    let P = g.P.KeyPass in
    record {
      same : P.told l.keys ≡ P.told l.fn.keys;
      quiet : P.faults l.keys ≡ P.faults l.fn.keys;
      long : length l.sizes ≡ l.buckets;
      fails : ForSome (P.told l.fn.keys) (λ told. (j : ℕ) → j < l.i → is_split told.keys l.buckets (get_or l.seeds j 0) ≡ false);
    }
