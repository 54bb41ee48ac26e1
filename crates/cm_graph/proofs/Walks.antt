-- The names that the walks of `src/slots.rt` cite.
pub use Rattle.std.proofs.Common.{◌≡◌, ◌/◌, ◌%◌, ℕ, List, [], ◌∷◌, get_or, map, refl, set, replicate, Option, Some, None, length, w32, lit<}
pub use Rattle.std.proofs.raw_atomic.Walks.{proved}
pub use base.Fml.{ftrue}
pub use mir.Syntax.{named}
pub use mir.Val.{Val, vstruct, vnil}
pub use types.Kit.{‵, raw, ◌$◌, ◌∵◌, !, qed, done, drop, join, fjoin, suffices, move, split, keep, ◌⊛◌}
pub use types.Run.{enter, no_more, returns}
pub use types.Part.{agg}
pub use types.ByLocal.{alloc_all, pass_all, free_all, look_at, sets}
pub use denote.Builtin.{u32, RefOf, SliceRefOf}
pub use denote.Exit.{yes}
pub use denote.Plain.{uint_vals, uint_Tells}
pub use denote.Ref.{shr_vals, shr_Tells}
pub use denote.RattleType.{owns}
pub use denote.Shadow.{pure_i}
pub use denote.Signature.{plain, types_at}
pub use denote.Slice.{shr_slice_vals, shr_slice_Tells}
pub use denote.Steps.{nothing}
pub use denote.Triple.Entry.{on_entry, alive}
pub use denote.Triple.Walked.{Stays, says, stay_dropped, Goes-dropped, walk_of, ends_at}
pub use Rattle.cm_graph.specs.contracts.slots.Slots.{the_row}
