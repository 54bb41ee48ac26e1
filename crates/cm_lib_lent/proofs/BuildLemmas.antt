-- Builds of keys in memory: what they leave in the room, and their refusals.
use Rattle.std.specs.Prelude.{◌≡◌, ◌≢◌, ◌≤◌, ◌++◌, ℕ, List, Result, Ok, Err, IfErr, IfOk, drop, length, refl}
use Rattle.std.proofs.Common.{arith, ap, ◌∙◌, lit<}
use Rattle.std.proofs.lemmas.Option.{none-some}
use Rattle.std.proofs.Math.Seq.{drop-append_seam, take-append_seam}
use Rattle.cm_algo_names.specs.declared.algorithm.Algorithm.{Algorithm}
use Rattle.cm_algo_names.specs.declared.algorithm.Algorithm.TheVariants.{Bdz, BdzPh, Brz, Chm}
use Rattle.cm_keys_lent.specs.Pass.{LentPass}
use Rattle.cm_dump.specs.Dumps.{dump_of}
use Rattle.cm_func.specs.declared.function.Func.{Func}
use Rattle.cm_io.specs.declared.key_pass.KeyFault.TheVariants as key
use Rattle.cm_lib_lent.specs.Builds.{FailsLent, FailsSpilled, HasDump, IsLentFunc, IsLentKind, IsSaved, LacksDump, spill_len_of, told_of}
use Rattle.cm_lib_lent.specs.declared.building.LentFault.{LentFault}
use Rattle.cm_lib_lent.specs.declared.building.LentFault.TheVariants as lent
use Rattle.cm_tool_builds.specs.Faults.{FailsFunc, HasFuncCause, HasFuncForm}
use Rattle.cm_tool_builds.specs.declared.fault.FuncFault.{FuncFault}
use Rattle.cm_tool_builds.specs.declared.fault.FuncFault.TheVariants as fault
use Rattle.cm_tool_builds.specs.declared.plan.Plan.{Plan}

-- the file of a function stands first in the room, and the rest is as it was
pub dump_is : (n m : ℕ) (old xs : List ℕ) (f : Func) → n ≡ length xs → m ≡ length xs → xs ≡ dump_of f → HasDump f n old (xs ++ drop m old)
dump_is n m old xs f len same is = record {
  len = len ∙ ap length is;
  dump = rw len (take-append_seam xs (drop m old)) ∙ is;
  kept = rw (len, same) (drop-append_seam xs (drop (length xs) old));
}

-- it is the function of the keys
pub saved_is : (plan : Plan) (seeds : List ℕ) (keys : LentPass) (n : ℕ) (old new : List ℕ) (f : Func) → IsLentFunc plan seeds keys f → HasDump f n old new → IsSaved plan seeds keys n old new
saved_is plan seeds keys n old new f made has = record { func = f; made = made; len = has.len; dump = has.dump; kept = has.kept }

-- memory ran out, or its file has more bytes than the room
pub lacks_is : (plan : Plan) (seeds : List ℕ) (keys : LentPass) (room : ℕ) (f : Func) (why : LentFault) → IsLentFunc plan seeds keys f → LacksDump f room why → FailsLent plan seeds keys room why
lacks_is plan seeds keys room f (lent.Build fault.Memory) made lacks = (tt, tt)
lacks_is plan seeds keys room f (lent.Build fault.NoKeys) made lacks = absurd lacks
lacks_is plan seeds keys room f (lent.Build (fault.Cored shown)) made lacks = absurd lacks
lacks_is plan seeds keys room f (lent.Build (fault.Overfull seed bucket count equal)) made lacks = absurd lacks
lacks_is plan seeds keys room f (lent.Build (fault.Key key)) made lacks = absurd lacks
lacks_is plan seeds keys room f (lent.Build (fault.Changed first again)) made lacks = absurd lacks
lacks_is plan seeds keys room f (lent.Build fault.Spill) made lacks = absurd lacks
lacks_is plan seeds keys room f (lent.Build (fault.SpillDamaged offset expected found)) made lacks = absurd lacks
lacks_is plan seeds keys room f (lent.Room needed) made lacks = (f, made, lacks.0, lacks.1)
lacks_is plan seeds keys room f (lent.Spill needed) made lacks = absurd lacks

-- the same of a result
pub if_saved : (plan : Plan) (seeds : List ℕ) (keys : LentPass) (old new : List ℕ) (f : Func) (r : Result ℕ LentFault) → IsLentFunc plan seeds keys f → IfOk r (λ n. HasDump f n old new) → IfOk r (λ n. IsSaved plan seeds keys n old new)
if_saved plan seeds keys old new f (Ok n) made has = saved_is plan seeds keys n old new f made has
if_saved plan seeds keys old new f (Err why) made has = tt

pub if_lacks : (plan : Plan) (seeds : List ℕ) (keys : LentPass) (room : ℕ) (f : Func) (r : Result ℕ LentFault) → IsLentFunc plan seeds keys f → IfErr r (LacksDump f room) → IfErr r (FailsLent plan seeds keys room)
if_lacks plan seeds keys room f (Ok n) made lacks = tt
if_lacks plan seeds keys room f (Err why) made lacks = lacks_is plan seeds keys room f why made lacks

-- with a spill that was long enough
lacks_spilled : (plan : Plan) (seeds : List ℕ) (keys : LentPass) (spill room : ℕ) (why : LentFault) → spill_len_of keys ≤ spill → FailsLent plan seeds keys room why → FailsSpilled plan seeds keys spill room why
lacks_spilled plan seeds keys spill room (lent.Build why) enough fails = (enough, fails)
lacks_spilled plan seeds keys spill room (lent.Room needed) enough fails = (enough, fails)
lacks_spilled plan seeds keys spill room (lent.Spill needed) enough fails = absurd fails

pub if_lacks_spilled : (plan : Plan) (seeds : List ℕ) (keys : LentPass) (spill room : ℕ) (f : Func) (r : Result ℕ LentFault) → spill_len_of keys ≤ spill → IsLentFunc plan seeds keys f → IfErr r (LacksDump f room) → IfErr r (FailsSpilled plan seeds keys spill room)
if_lacks_spilled plan seeds keys spill room f (Ok n) enough made lacks = tt
if_lacks_spilled plan seeds keys spill room f (Err why) enough made lacks = lacks_spilled plan seeds keys spill room why enough (lacks_is plan seeds keys room f why made lacks)

-- a build that is refused by its keys, or as memory ran out
pub spilled_is : (plan : Plan) (seeds : List ℕ) (keys : LentPass) (spill room : ℕ) (why : FuncFault) (r : LentFault) → spill_len_of keys ≤ spill → FailsFunc plan.algorithm plan.b (told_of keys) plan.c seeds why → HasFuncForm plan.algorithm why
    → (why ≡ fault.Spill → r ≡ lent.Build fault.Memory) → (why ≢ fault.Spill → r ≡ lent.Build why) → FailsSpilled plan seeds keys spill room r
spilled_is plan seeds keys spill room fault.Spill r enough fails form own other = rw (own refl) (enough, (tt, tt))
spilled_is plan seeds keys spill room fault.Memory r enough fails form own other = rw (other (λ is. grind (arith, is))) (enough, (fails, form))
spilled_is plan seeds keys spill room fault.NoKeys r enough fails form own other = rw (other (λ is. grind (arith, is))) (enough, (fails, form))
spilled_is plan seeds keys spill room (fault.Cored shown) r enough fails form own other = rw (other (λ is. grind (arith, is))) (enough, (fails, form))
spilled_is plan seeds keys spill room (fault.Overfull seed bucket count equal) r enough fails form own other = rw (other (λ is. grind (arith, is))) (enough, (fails, form))
spilled_is plan seeds keys spill room (fault.Key key) r enough fails form own other = rw (other (λ is. grind (arith, is))) (enough, (fails, form))
spilled_is plan seeds keys spill room (fault.Changed first again) r enough fails form own other = absurd fails
spilled_is plan seeds keys spill room (fault.SpillDamaged offset expected found) r enough fails form own other = absurd fails

-- without a spill, keys in memory are refused for no other reason
pub lent_kind : (a : Algorithm) (b : ℕ) (keys : LentPass) (c w w' : ℕ) (seeds : List ℕ) (why : FuncFault) → a ≢ Brz → FailsFunc a b (told_of keys) c seeds why → HasFuncForm a why → HasFuncCause {T = Func} 0 0 w w' (Err why) → IsLentKind (lent.Build why)
lent_kind a b keys c w w' seeds fault.Memory n f h k = tt
lent_kind a b keys c w w' seeds fault.NoKeys n f h k = tt
lent_kind a b keys c w w' seeds (fault.Cored shown) n f h k = tt
lent_kind Brz b keys c w w' seeds (fault.Overfull seed bucket count equal) n f h k = absurd (n refl)
lent_kind Chm b keys c w w' seeds (fault.Overfull seed bucket count equal) n f h k = absurd h
lent_kind Bdz b keys c w w' seeds (fault.Overfull seed bucket count equal) n f h k = absurd h
lent_kind BdzPh b keys c w w' seeds (fault.Overfull seed bucket count equal) n f h k = absurd h
lent_kind a b keys c w w' seeds (fault.Key key.Read) n f h k = absurd (omega (arith, k.0.1 (lit< tt)))
lent_kind a b keys c w w' seeds (fault.Key (key.TooLong line)) n f h k = absurd (none-some _ f)
lent_kind a b keys c w w' seeds (fault.Key key.TooMany) n f h k = absurd (none-some _ f)
lent_kind a b keys c w w' seeds (fault.Changed first again) n f h k = absurd f
lent_kind Brz b keys c w w' seeds fault.Spill n f h k = absurd (n refl)
lent_kind Chm b keys c w w' seeds fault.Spill n f h k = absurd h
lent_kind Bdz b keys c w w' seeds fault.Spill n f h k = absurd h
lent_kind BdzPh b keys c w w' seeds fault.Spill n f h k = absurd h
lent_kind a b keys c w w' seeds (fault.SpillDamaged offset expected found) n f h k = absurd f
