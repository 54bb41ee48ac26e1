-- The struct has no bytes, and the walk says what its slots are.
use Rattle.cm_graph.proofs.Walks.{[], ◌∷◌, refl, proved, ftrue, vstruct, vnil, named, ‵, raw, ◌$◌, ◌∵◌, !, qed, done, move, split, keep, fjoin, suffices, enter, no_more, returns, agg, alloc_all, pass_all, free_all, look_at, sets, RefOf, yes, shr_vals, shr_Tells, pure_i, plain, nothing, alive, Stays, says, stay_dropped, Goes-dropped, walk_of, ends_at, the_row, owns, types_at, ◌⊛◌}
use Rattle.cm_graph.specs.contracts.slots.Slots.same as f
use Rattle.cm_graph.proofs.slots.Slots.same.Statement.{statement}
use Rattle.cm_graph.proofs.slots.Slots.same.Code as code

abbrev stayed : Stays f.ended.signature.params f.ended.kept
stayed = (stay_dropped _ yes, tt)

pub same_spec : {M : Type 1} → statement M
same_spec 𝓤 𝓛 𝓜 𝓡 wired =
    let c = f.clauses 𝓛 𝓜.mem 𝓡.returns in let W = walk_of 𝓛 f.ended stayed c in
    proved 𝓛 f.ended stayed c 𝓜 𝓡 (Goes-dropped 𝓛 1 (RefOf (0 ∷ []) tt (plain (λ _. the_row)) (λ _. tt)) yes (λ κs x w. refl), tt)
    f.Key.name code.function (code.unfolded 𝓤 𝓛.H 𝓜 𝓡 wired) (λ κs. (shr_vals, tt)) (λ κs. (shr_Tells (named 0) κs.0 the_row, tt)) (λ κs qs bounds a g are.
    let y : W.Ghost = ((κs, qs, bounds, a, (shr_vals a.0, tt)), g) in
    let made : the_row.Denot = record { each = a.0.now.each } in
    qed 𝓛 ((raw (alive 𝓛 f.signature κs qs) ⊛ ‵ (owns (types_at f.signature.params κs) a y.0.4)) ∷ ‵ ftrue ∷ []) ∵ split ! $ keep ! (0 ∷ []) $
    enter ! _ _ _ _ _ $ alloc_all ! (λ l. pass_all ! refl ((tt, tt), tt) $
    sets ! (agg ! (no_more !)) refl (tt, tt) $
    returns ! (look_at ! 0 refl) $ free_all ! refl $
    suffices ! _ (ends_at 𝓛 f.ended stayed c y (vstruct vnil) made (tt, tt) (tt, tt)) $ says ! refl $
    pure_i ! (the_row.own_val made (vstruct vnil ∷ [])) ((λ vss. (tt, tt)), tt) ((tt, (refl, tt)), tt) $
    nothing ! $ nothing ! $ fjoin ! $ move ! (2 ∷ 0 ∷ 1 ∷ []) $ done !))
