use Rattle.std.proofs.Common.{◌≡◌, get_or, set, subst, List, [], ◌∷◌}
use Rattle.std.specs.List.{AllZip}
use Rattle.std.specs.Option.{ForSome}
use Rattle.std.proofs.lemmas.Result.{on_err_weaker, on_ok_weaker}
use Rattle.cm_spill.specs.Records.{Record}
use Rattle.cm_spill.specs.Reading.{AreLeft, HasSameEnd, IsStill, RunLeft}
use Rattle.cm_spill.proofs.Standing.{all_same_ends, all_still, still_set}
use Rattle.cm_spill.proofs.Zipping.{zip_at, zip_both, zip_set}
use Rattle.cm_spill.proofs.lookup.take_from.Goals as goal

pub returns-clause-takes : goal.returns-clause-takes
returns-clause-takes g c = λ x told left r rs all first.
    let e : RunLeft = get_or c.args.runs.now c.args.at c.index-runs-at.result in
    let here : AreLeft x e (r ∷ rs) = subst (AreLeft x e) first (zip_at (AreLeft x) c.args.runs.now left c.args.at c.index-runs-at.result [] all c.requires.there) in
    c.take.ensures.takes x told r rs here

pub returns-clause-left : goal.returns-clause-left
returns-clause-left g c =
    on_ok_weaker {Q = ForSome (g.P.Spill.told c.args.spill.now) (λ x. (left : List (List Record)) (r : Record) (rs : List Record) → AllZip (AreLeft x) c.args.runs.now left → get_or left c.args.at [] ≡ r ∷ rs → AllZip (AreLeft x) (set c.args.runs.now c.args.at c.take.new.self) (set left c.args.at rs))} _ (λ later x told left r rs all first.
    let e : RunLeft = get_or c.args.runs.now c.args.at c.index-runs-at.result in
    let here : AreLeft x e (r ∷ rs) = subst (AreLeft x e) first (zip_at (AreLeft x) c.args.runs.now left c.args.at c.index-runs-at.result [] all c.requires.there) in
    zip_both (AreLeft x) c.args.runs.now left c.args.at c.take.new.self rs all (later x told r rs here)) c.take.ensures.left

pub returns-clause-still : goal.returns-clause-still
returns-clause-still g c =
    on_err_weaker {Q = AllZip IsStill (set c.args.runs.now c.args.at c.take.new.self) c.args.runs.now} _ (λ kept.
    still_set c.args.runs.now c.args.runs.now c.args.at c.take.new.self c.index-runs-at.result (all_still c.args.runs.now) c.requires.there (c.take.ensures.until, kept.0)) c.take.ensures.kept

pub returns-clause-ends : goal.returns-clause-ends
returns-clause-ends g c =
    zip_set HasSameEnd c.args.runs.now c.args.runs.now c.args.at c.take.new.self c.index-runs-at.result (all_same_ends c.args.runs.now) c.take.ensures.until
