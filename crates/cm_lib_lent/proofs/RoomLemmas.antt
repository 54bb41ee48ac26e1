-- How many bytes the dumps of built functions have.
use Rattle.std.specs.Prelude.{◌≡◌, ◌≢◌, ℕ, zero, suc, ◌+◌, ◌*◌, ◌^◌, List, [], ◌∷◌, length, refl}
use Rattle.std.proofs.Common.{ap, arith, ◌∙◌}
use Rattle.std.proofs.lemmas.List.{length-replicate, length-set}
use Rattle.std.specs.Int.{div_ceil}
use Rattle.cm_algo_names.specs.declared.algorithm.Algorithm.{Algorithm}
use Rattle.cm_algo_names.specs.declared.algorithm.Algorithm.TheVariants.{Bdz, BdzPh, Brz, Chm}
use Rattle.cm_bdz.specs.Functions as bdz
use Rattle.cm_dump.specs.Dumps.{dump_of}
use Rattle.cm_dump.specs.declared.header.TheConstants.{HEADER_LEN}
use Rattle.cm_func.specs.declared.function.Func.{Func}
use Rattle.cm_func.specs.declared.function.Func.TheVariants as func
use Rattle.cm_lib_lent.specs.Rooms.{body_len_by}
use Rattle.cm_spec.specs.Bdz.{bdz_ph_rule, bdz_rule, bdz_size}
use Rattle.cm_spec.specs.Built.{cells_under}
use Rattle.cm_spec.specs.Cells.{Plan, at_once, cells_from, pivot_vertex, value_at}
use Rattle.cm_spec.specs.Chm as chm
use Rattle.cm_spec.specs.Chm.{chm_rule, chm_size}
use Rattle.cm_spec.specs.Image.{fields_len, packed_len, width_of}
use Rattle.cm_spec.specs.Rounds.{removed_after}
use Rattle.cm_spec.specs.Rule.{Rule}
use Rattle.cm_tool_builds.specs.Seeds.{IsMadeBy}

length-at_once : (p : Plan) (before es : List ℕ) → length (at_once p before es) ≡ length before
length-at_once p before [] = refl
length-at_once p before (e ∷ es) = length-set (at_once p before es) (pivot_vertex p.edges e) (value_at p before e) ∙ length-at_once p before es

length-cells_from : (p : Plan) (d t : ℕ) → length (cells_from p d t) ≡ p.vertices
unfolding cells_from
length-cells_from p zero t = length-replicate p.vertices p.idle
length-cells_from p (suc d) t = length-at_once p (cells_from p d (suc t)) (removed_after p.edges t) ∙ length-cells_from p d (suc t)

-- the cells of keys are as many as the rule has vertices
length-cells_under : (r : Rule) (keys : List (ℕ × List ℕ)) (c seed : ℕ) → length (cells_under r keys c seed) ≡ r.size (length keys) c
length-cells_under r keys c seed = length-cells_from _ _ 0

-- how many bytes dumps have by the numbers of their functions
pub record Lens : Type 0 where
  pub by_chm : (f : chm.Chm) → length (dump_of (func.Chm f)) ≡ HEADER_LEN + fields_len (width_of f.keys) (length f.cells)
  pub by_bdz : (f : bdz.Bdz) → length (dump_of (func.Bdz f)) ≡ HEADER_LEN + packed_len 4 (length f.cells) + 4 * div_ceil (length f.cells) (2 ^ f.shift)
  pub by_bdz_ph : (f : bdz.BdzPh) → length (dump_of (func.BdzPh f)) ≡ HEADER_LEN + packed_len 5 (length f.cells)

regroup : (a b c : ℕ) → a + b + c ≡ a + (b + c)
regroup a b c = omega arith

-- and so by the plan and the number of keys
pub dump_fits : (algorithm : Algorithm) (b : ℕ) (keys : List (ℕ × List ℕ)) (c : ℕ) (seeds : List ℕ) (f : Func) → Lens → algorithm ≢ Brz → IsMadeBy algorithm b keys c seeds f → length (dump_of f) ≡ HEADER_LEN + body_len_by algorithm b c (length keys)
dump_fits Chm b keys c seeds (func.Chm f) lens other made =
    let cells : length f.cells ≡ chm_size (length keys) c = ap (λ (g : chm.Chm). length g.cells) made.0 ∙ length-cells_under chm_rule keys c f.seed in
    let many : f.keys ≡ length keys = ap (λ (g : chm.Chm). g.keys) made.0 in
    lens.by_chm f ∙ rw (cells, many) refl
dump_fits Chm b keys c seeds (func.Bdz f) lens other made = absurd made
dump_fits Chm b keys c seeds (func.BdzPh f) lens other made = absurd made
dump_fits Chm b keys c seeds (func.Brz f) lens other made = absurd made
dump_fits Bdz b keys c seeds (func.Chm f) lens other made = absurd made
dump_fits Bdz b keys c seeds (func.Bdz f) lens other made =
    let cells : length f.cells ≡ bdz_size (length keys) c = ap (λ (g : bdz.Bdz). length g.cells) made.0 ∙ length-cells_under bdz_rule keys c f.seed in
    let shift : f.shift ≡ b = ap (λ (g : bdz.Bdz). g.shift) made.0 in
    lens.by_bdz f ∙ rw (cells, shift) (regroup HEADER_LEN _ _)
dump_fits Bdz b keys c seeds (func.BdzPh f) lens other made = absurd made
dump_fits Bdz b keys c seeds (func.Brz f) lens other made = absurd made
dump_fits BdzPh b keys c seeds (func.Chm f) lens other made = absurd made
dump_fits BdzPh b keys c seeds (func.Bdz f) lens other made = absurd made
dump_fits BdzPh b keys c seeds (func.BdzPh f) lens other made =
    let cells : length f.cells ≡ bdz_size (length keys) c = ap (λ (g : bdz.BdzPh). length g.cells) made.0 ∙ length-cells_under bdz_ph_rule keys c f.seed in
    lens.by_bdz_ph f ∙ rw cells refl
dump_fits BdzPh b keys c seeds (func.Brz f) lens other made = absurd made
dump_fits Brz b keys c seeds f lens other made = absurd (other refl)
