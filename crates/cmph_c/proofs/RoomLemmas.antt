-- How many bytes the files of functions have.
use Rattle.std.specs.Prelude.{◌≡◌, ◌≢◌, ℕ, ◌+◌, List, Bool, true, false, None, Some, length, refl, if◌then◌else◌}
use Rattle.std.proofs.Common.{arith, ap, sym, eqb, ◌∙◌}
use Rattle.std.proofs.lemmas.List.FromFn.{length-map-range_with_len}
use Rattle.std.proofs.lemmas.Option.{none-some, same_Some}
use Rattle.cm_algo_names.specs.declared.algorithm.Algorithm.TheVariants as algorithm
use Rattle.cm_dump.specs.Dumps.{dump_of}
use Rattle.cm_func.specs.declared.function.Func.{Func}
use Rattle.cm_keys_lent.specs.Ends.{key_in}
use Rattle.cm_keys_lent.specs.Pass.{LentPass}
use Rattle.cm_lib_lent.specs.Builds.{IsLentFunc}
use Rattle.cm_lib_lent.specs.Rooms.{dump_len_by}
use Rattle.cm_tool_builds.specs.declared.plan.Plan as planned
use Rattle.cm_tool_cells.specs.Seeds.{seeds_of}
use Rattle.cmph_c.specs.Answering.{pass_of}
use Rattle.cmph_c.specs.Building.{IsBuildable, IsBuilt, IsPlanFor, IsRoomFor}
use Rattle.cmph_c.specs.declared.building.Plan.{Plan}
use Rattle.cmph_c.specs.declared.function.TheConstants.{BDZ, BDZ_PH, CHM}

-- the plans of builds by the same numbers differ in nothing that dumps depend on
pub same_len : (p : Plan) (q r : planned.Plan) (keys : ℕ) → IsPlanFor p q → IsPlanFor p r → dump_len_by q keys ≡ dump_len_by r keys
same_len p q r keys a b =
    let algorithm : q.algorithm ≡ r.algorithm = same_Some _ _ (sym a.algorithm ∙ b.algorithm) in
    let parameter : q.b ≡ r.b = a.b ∙ sym b.b in
    let ratio : q.c ≡ r.c = a.ratio ∙ sym b.ratio in
    rw (algorithm, parameter, ratio) refl

never : (t u v : Bool) → (if t then Some algorithm.Chm else if u then Some algorithm.Bdz else if v then Some algorithm.BdzPh else None) ≡ Some algorithm.Brz → ⊥
never true u v is = grind (arith, is)
never false true v is = grind (arith, is)
never false false true is = grind (arith, is)
never false false false is = absurd (none-some _ is)

-- none is by BRZ
pub not_brz : (p : Plan) (q : planned.Plan) → IsPlanFor p q → q.algorithm ≢ algorithm.Brz
not_brz p q for is = never (eqb p.algorithm CHM) (eqb p.algorithm BDZ) (eqb p.algorithm BDZ_PH) (for.algorithm ∙ ap Some is)

-- what a build writes
pub written_is : (p : Plan) (bytes ends old new : List ℕ) (written keys n : ℕ) → ((plan : planned.Plan) (seeds : List ℕ) (pass : LentPass) (f : Func) → plan.algorithm ≢ algorithm.Brz → IsLentFunc plan seeds pass f → length (dump_of f) ≡ dump_len_by plan (length pass.ends)) → (IsBuildable p keys → IsRoomFor p keys n) → length ends ≡ keys → IsBuilt p bytes ends written old new → written ≡ n
written_is p bytes ends old new written keys n law room many built =
    let made = built.saved.made in
    let keys_many = length-map-range_with_len {X = ℕ × List ℕ} (λ i. (i + 1, key_in bytes ends i)) 0 (length ends) in
    let buildable : IsBuildable p keys = record { good = built.good; some = omega (arith, made.many.0, keys_many, many); few = omega (arith, made.many.1, keys_many, many) } in
    built.saved.len
    ∙ law built.plan (seeds_of p.seed p.tries) (pass_of bytes ends) built.saved.func (not_brz p built.plan built.planned) made
    ∙ ap (dump_len_by built.plan) many
    ∙ sym (room buildable built.plan built.planned)
