-- The struct has no bytes, and the walk says what its slots are.
use Rattle.cm_graph.proofs.Walks.{[], ◌∷◌, refl, map, set, Some, w32, proved, ftrue, vstruct, vnil, named, ‵, raw, ◌$◌, ◌∵◌, !, qed, done, move, split, keep, fjoin, suffices, enter, no_more, returns, agg, alloc_all, pass_all, free_all, look_at, sets, u32, RefOf, SliceRefOf, yes, uint_vals, uint_Tells, shr_vals, shr_Tells, shr_slice_vals, shr_slice_Tells, pure_i, plain, nothing, alive, Stays, says, stay_dropped, Goes-dropped, walk_of, ends_at, the_row, owns, types_at, ◌⊛◌}
use Rattle.cm_graph.specs.contracts.slots.Slots.linked as f
use Rattle.cm_graph.proofs.slots.Slots.linked.Statement.{statement}
use Rattle.cm_graph.proofs.slots.Slots.linked.Code as code

abbrev stayed : Stays f.ended.signature.params f.ended.kept
stayed = (stay_dropped _ yes, (stay_dropped _ yes, (stay_dropped _ yes, tt)))

pub linked_spec : {M : Type 1} → statement M
linked_spec 𝓤 𝓛 𝓜 𝓡 wired =
    let c = f.clauses 𝓛 𝓜.mem 𝓡.returns in let W = walk_of 𝓛 f.ended stayed c in
    proved 𝓛 f.ended stayed c 𝓜 𝓡 (Goes-dropped 𝓛 2 (RefOf (0 ∷ []) tt (plain (λ _. the_row)) (λ _. tt)) yes (λ κs x w. refl), (Goes-dropped 𝓛 2 (plain (λ _. u32)) yes (λ κs x w. refl), (Goes-dropped 𝓛 2 (SliceRefOf (1 ∷ []) tt (plain (λ _. u32)) (λ _. tt)) yes (λ κs x w. refl), tt)))
    f.Key.name code.function (code.unfolded 𝓤 𝓛.H 𝓜 𝓡 wired) (λ κs. (shr_vals, (uint_vals w32, (shr_slice_vals, tt)))) (λ κs. (shr_Tells (named 0) κs.0 the_row, (uint_Tells w32, (shr_slice_Tells (named 1) κs.1.0 u32, tt)))) (λ κs qs bounds a g are.
    let y : W.Ghost = ((κs, qs, bounds, a, (shr_vals a.0, (uint_vals w32 a.1.0, (shr_slice_vals a.1.1.0, tt)))), g) in
    let made : the_row.Denot = record { each = set a.0.now.each a.1.0 (map Some a.1.1.0.now) } in
    qed 𝓛 ((raw (alive 𝓛 f.signature κs qs) ⊛ ‵ (owns (types_at f.signature.params κs) a y.0.4)) ∷ ‵ ftrue ∷ []) ∵ split ! $ keep ! (0 ∷ []) $
    enter ! _ _ _ _ _ $ alloc_all ! (λ l. pass_all ! refl ((tt, tt), ((tt, record { fits = are.1.0.1 }), ((tt, (tt, (record { fits = are.1.1.0.0.1.0 }, tt))), tt))) $
    sets ! (agg ! (no_more !)) refl (tt, tt) $
    returns ! (look_at ! 0 refl) $ free_all ! refl $
    suffices ! _ (ends_at 𝓛 f.ended stayed c y (vstruct vnil) made (tt, (tt, (tt, tt))) (tt, (tt, (tt, tt)))) $ says ! refl $
    pure_i ! (the_row.own_val made (vstruct vnil ∷ [])) ((λ vss. (tt, tt)), tt) ((tt, (refl, tt)), tt) $
    nothing ! $ nothing ! $ fjoin ! $ nothing ! $ fjoin ! $ nothing ! $ fjoin ! $ move ! (2 ∷ 0 ∷ 1 ∷ []) $ done !))
