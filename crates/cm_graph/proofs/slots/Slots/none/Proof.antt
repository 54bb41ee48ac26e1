-- The struct has no bytes, and the walk says what its slots are.
use Rattle.cm_graph.proofs.Walks.{[], ◌∷◌, refl, replicate, w32, proved, ftrue, vstruct, vnil, ‵, raw, ◌$◌, ◌∵◌, !, qed, done, drop, join, suffices, enter, no_more, returns, agg, alloc_all, pass_all, free_all, look_at, sets, u32, yes, uint_vals, uint_Tells, pure_i, plain, nothing, on_entry, Stays, says, stay_dropped, Goes-dropped, walk_of, ends_at, the_row}
use Rattle.cm_graph.specs.contracts.slots.Slots.none as f
use Rattle.cm_graph.proofs.slots.Slots.none.Statement.{statement}
use Rattle.cm_graph.proofs.slots.Slots.none.Code as code

abbrev stayed : Stays f.ended.signature.params f.ended.kept
stayed = (stay_dropped _ yes, tt)

pub none_spec : {M : Type 1} → statement M
none_spec 𝓤 𝓛 𝓜 𝓡 wired =
    let c = f.clauses 𝓛 𝓜.mem 𝓡.returns in let W = walk_of 𝓛 f.ended stayed c in
    proved 𝓛 f.ended stayed c 𝓜 𝓡 (Goes-dropped 𝓛 0 (plain (λ _. u32)) yes (λ κs x w. refl), tt)
    f.Key.name code.function (code.unfolded 𝓤 𝓛.H 𝓜 𝓡 wired) (λ κs. (uint_vals w32, tt)) (λ κs. (uint_Tells w32, tt)) (λ κs qs bounds a g are.
    let y : W.Ghost = ((κs, qs, bounds, a, (uint_vals w32 a.0, tt)), g) in
    let made : the_row.Denot = record { each = replicate a.0 [] } in
    qed 𝓛 (raw (on_entry 𝓛 f.signature κs qs a y.0.4) ∷ ‵ ftrue ∷ []) ∵ drop ! $ drop ! $
    enter ! _ _ _ _ _ $ alloc_all ! (λ l. pass_all ! refl ((tt, record { fits = are.0.1 }), tt) $
    sets ! (agg ! (no_more !)) refl (tt, tt) $
    returns ! (look_at ! 0 refl) $ free_all ! refl $
    suffices ! _ (ends_at 𝓛 f.ended stayed c y (vstruct vnil) made (tt, tt) (tt, tt)) $ says ! refl $
    pure_i ! (the_row.own_val made (vstruct vnil ∷ [])) ((λ vss. (tt, tt)), tt) ((tt, (refl, tt)), tt) $
    nothing ! $ nothing ! $ join ! $ nothing ! $ done !))
