-- The answers of a function by each algorithm, from the laws of the algorithms.
use Rattle.std.proofs.Common.{◌≡◌, ◌≢◌, ◌<◌, ◌≤◌, ℕ, List, length, Some, ap, refl, sym, subst, arith}
use Rattle.std.proofs.lemmas.Option.{same_Some}
use Rattle.cm_algo_names.specs.declared.algorithm.Algorithm.{Algorithm}
use Rattle.cm_algo_names.specs.declared.algorithm.Algorithm.TheVariants.{Bdz, BdzPh, Brz, Chm}
use Rattle.cm_bdz.specs.Functions as bdz
use Rattle.cm_bdz.specs.Functions.{bdz_answer, bdz_ph_answer}
use Rattle.cm_bdz.specs.Numbering.{AnswersApart, bdz_ph_under, bdz_under}
use Rattle.cm_brz.specs.BrzOf.{IsBrzOf}
use Rattle.cm_brz_func.specs.Functions as buckets
use Rattle.cm_brz_func.specs.Functions.{brz_answer}
use Rattle.cm_chm.specs.Numbering.{AnswersNumbers}
use Rattle.cm_func.specs.Functions.{answer_by, span_by}
use Rattle.cm_func.specs.declared.function.Func.{Func}
use Rattle.cm_func.specs.declared.function.Func.TheVariants as func
use Rattle.cm_spec.specs.Bdz.{bdz_ph_rule, bdz_rule}
use Rattle.cm_spec.specs.Built.{cells_under, chm_under, graph_of, key_at}
use Rattle.cm_spec.specs.Chm as chm
use Rattle.cm_spec.specs.Chm.{chm_answer, chm_rule}
use Rattle.cm_spec.specs.Core.{HasEmptyCore}
use Rattle.cm_tool_builds.specs.Seeds.{IsMadeBy}

-- what the laws say of the functions of keys under seeds whose graphs have empty 2-cores
pub record Laws (keys : List (ℕ × List ℕ)) (c b : ℕ) (seeds : List ℕ) : Type 0 where
  pub chm_numbers : (seed : ℕ) → HasEmptyCore (graph_of chm_rule keys c seed) → AnswersNumbers keys (chm_under keys c seed)
  pub bdz_apart : (seed : ℕ) → HasEmptyCore (graph_of bdz_rule keys c seed) → AnswersApart keys (bdz_answer (bdz_under keys c seed b)) (length keys)
  pub bdz_ph_apart : (seed : ℕ) → HasEmptyCore (graph_of bdz_ph_rule keys c seed) → AnswersApart keys (λ key. Some (bdz_ph_answer (bdz_ph_under keys c seed) key)) (length (cells_under bdz_ph_rule keys c seed))
  pub brz_apart : (f : buckets.Brz) → 1 ≤ b → IsBrzOf keys c b seeds f → AnswersApart keys (brz_answer f) (length keys)

-- if each key has its index, no two keys have the same number
indices_apart : (keys : List (ℕ × List ℕ)) (f : chm.Chm) → f.keys ≡ length keys → AnswersNumbers keys f → AnswersApart keys (λ key. Some (chm_answer f key)) f.keys
indices_apart keys f many numbers = record {
  below = λ i inside. (chm_answer f (key_at keys i), refl, omega (arith, many, inside, numbers i inside));
  apart = λ i j in_i in_j same. omega (arith, same_Some _ _ same, numbers i in_i, numbers j in_j);
}

-- the function under a seed has as many keys as there are
chm_many : (keys : List (ℕ × List ℕ)) (c : ℕ) (f : chm.Chm) → f ≡ chm_under keys c f.seed → f.keys ≡ length keys
chm_many keys c f is = ap (λ (g : chm.Chm). g.keys) is

-- by CHM
pub in_order : (keys : List (ℕ × List ℕ)) (c b : ℕ) (seeds : List ℕ) (f : Func) → ((seed : ℕ) → HasEmptyCore (graph_of chm_rule keys c seed) → AnswersNumbers keys (chm_under keys c seed)) → IsMadeBy Chm b keys c seeds f → (i : ℕ) → i < length keys → answer_by f (key_at keys i) ≡ Some i
in_order keys c b seeds (func.Chm f) numbers made i inside = ap Some (subst (AnswersNumbers keys) (sym made.0) (numbers f.seed made.1.1.empty) i inside)
in_order keys c b seeds (func.Bdz f) numbers made i inside = absurd made
in_order keys c b seeds (func.BdzPh f) numbers made i inside = absurd made
in_order keys c b seeds (func.Brz f) numbers made i inside = absurd made

-- by any algorithm
pub numbers_apart : (algorithm : Algorithm) (keys : List (ℕ × List ℕ)) (c b : ℕ) (seeds : List ℕ) (f : Func) → (algorithm ≡ Brz → 1 ≤ b) → Laws keys c b seeds → IsMadeBy algorithm b keys c seeds f → AnswersApart keys (answer_by f) (span_by f)
numbers_apart Chm keys c b seeds (func.Chm f) wide laws made =
    indices_apart keys f (chm_many keys c f made.0) (subst (AnswersNumbers keys) (sym made.0) (laws.chm_numbers f.seed made.1.1.empty))
numbers_apart Chm keys c b seeds (func.Bdz f) wide laws made = absurd made
numbers_apart Chm keys c b seeds (func.BdzPh f) wide laws made = absurd made
numbers_apart Chm keys c b seeds (func.Brz f) wide laws made = absurd made
numbers_apart Bdz keys c b seeds (func.Chm f) wide laws made = absurd made
numbers_apart Bdz keys c b seeds (func.Bdz f) wide laws made = subst (λ (g : bdz.Bdz). AnswersApart keys (bdz_answer g) g.keys) (sym made.0) (laws.bdz_apart f.seed made.1.1.empty)
numbers_apart Bdz keys c b seeds (func.BdzPh f) wide laws made = absurd made
numbers_apart Bdz keys c b seeds (func.Brz f) wide laws made = absurd made
numbers_apart BdzPh keys c b seeds (func.Chm f) wide laws made = absurd made
numbers_apart BdzPh keys c b seeds (func.Bdz f) wide laws made = absurd made
numbers_apart BdzPh keys c b seeds (func.BdzPh f) wide laws made =
    subst (λ (g : bdz.BdzPh). AnswersApart keys (λ key. Some (bdz_ph_answer g key)) (length g.cells)) (sym made.0) (laws.bdz_ph_apart f.seed made.1.1.empty)
numbers_apart BdzPh keys c b seeds (func.Brz f) wide laws made = absurd made
numbers_apart Brz keys c b seeds (func.Chm f) wide laws made = absurd made
numbers_apart Brz keys c b seeds (func.Bdz f) wide laws made = absurd made
numbers_apart Brz keys c b seeds (func.BdzPh f) wide laws made = absurd made
numbers_apart Brz keys c b seeds (func.Brz f) wide laws made = subst (AnswersApart keys (brz_answer f)) (sym made.many) (laws.brz_apart f (wide refl) made)

-- and the span is the number of keys, except by BDZ_PH
pub span_is : (algorithm : Algorithm) (keys : List (ℕ × List ℕ)) (c b : ℕ) (seeds : List ℕ) (f : Func) → algorithm ≢ BdzPh → IsMadeBy algorithm b keys c seeds f → span_by f ≡ length keys
span_is Chm keys c b seeds (func.Chm f) other made = chm_many keys c f made.0
span_is Chm keys c b seeds (func.Bdz f) other made = absurd made
span_is Chm keys c b seeds (func.BdzPh f) other made = absurd made
span_is Chm keys c b seeds (func.Brz f) other made = absurd made
span_is Bdz keys c b seeds (func.Chm f) other made = absurd made
span_is Bdz keys c b seeds (func.Bdz f) other made = ap (λ (g : bdz.Bdz). g.keys) made.0
span_is Bdz keys c b seeds (func.BdzPh f) other made = absurd made
span_is Bdz keys c b seeds (func.Brz f) other made = absurd made
span_is BdzPh keys c b seeds f other made = absurd (other refl)
span_is Brz keys c b seeds (func.Chm f) other made = absurd made
span_is Brz keys c b seeds (func.Bdz f) other made = absurd made
span_is Brz keys c b seeds (func.BdzPh f) other made = absurd made
span_is Brz keys c b seeds (func.Brz f) other made = made.many
