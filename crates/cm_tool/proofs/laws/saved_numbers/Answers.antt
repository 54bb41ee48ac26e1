use Rattle.std.proofs.Common.{◌≡◌, ℕ, ◌≤◌, List, [], length, Some, ap, refl, sym, subst, arith}
use Rattle.std.specs.FinMap as map
use Rattle.cm_algo_names.specs.declared.algorithm.Algorithm.{Algorithm}
use Rattle.cm_algo_names.specs.declared.algorithm.Algorithm.TheVariants.{Bdz, BdzPh, Brz, Chm}
use Rattle.cm_bdz.specs.Functions as bdz
use Rattle.cm_bdz.specs.Functions.{bdz_answer, bdz_ph_answer}
use Rattle.cm_bdz.specs.Numbering.{AnswersApart, bdz_ph_under, bdz_under}
use Rattle.cm_brz.specs.BrzOf.{IsBrzOf}
use Rattle.cm_brz_func.specs.Functions as buckets
use Rattle.cm_brz_func.specs.Functions.{brz_answer}
use Rattle.cm_chm.specs.Numbering.{AnswersNumbers}
use Rattle.cm_dump.specs.Dumps.{dump_of}
use Rattle.cm_func.specs.declared.function.Func.{Func}
use Rattle.cm_func.specs.declared.function.Func.TheVariants as func
use Rattle.cm_spec.specs.Bdz.{bdz_ph_rule, bdz_rule}
use Rattle.cm_spec.specs.Built.{cells_under, chm_under, graph_of}
use Rattle.cm_spec.specs.Chm as chm
use Rattle.cm_spec.specs.Chm.{chm_rule}
use Rattle.cm_spec.specs.Core.{HasEmptyCore}
use Rattle.cm_spec.specs.Rounds.{rest_of}
use Rattle.cm_tool.specs.Jobs.{seeds_tried}
use Rattle.cm_keys.specs.Lines.{keys_in}
use Rattle.cm_tool.specs.Numbers.{AnswersOf, IsBy}
use Rattle.cm_tool_builds.specs.Seeds.{IsMadeBy}
use Rattle.cm_tool_building.specs.StoreLaws.{written_at}
use Rattle.cm_tool.proofs.laws.saved_numbers.Goals as goal

-- what the laws of the algorithms say of the functions of keys
record Laws (keys : List (ℕ × List ℕ)) (c b : ℕ) (seeds : List ℕ) : Type 0 where
  empty : (edges : List (List ℕ)) → HasEmptyCore edges → rest_of edges ≡ []
  chm_numbers : (seed : ℕ) → rest_of (graph_of chm_rule keys c seed) ≡ [] → AnswersNumbers keys (chm_under keys c seed)
  bdz_apart : (seed : ℕ) → rest_of (graph_of bdz_rule keys c seed) ≡ [] → AnswersApart keys (bdz_answer (bdz_under keys c seed b)) (length keys)
  bdz_ph_apart : (seed : ℕ) → rest_of (graph_of bdz_ph_rule keys c seed) ≡ [] → AnswersApart keys (λ key. Some (bdz_ph_answer (bdz_ph_under keys c seed) key)) (length (cells_under bdz_ph_rule keys c seed))
  brz_apart : (f : buckets.Brz) → 1 ≤ b → IsBrzOf keys c b seeds f → AnswersApart keys (brz_answer f) (length keys)

-- a function that was made by an algorithm is one of it, and has the answers that it is for
answers_of : (algorithm : Algorithm) (b : ℕ) (keys : List (ℕ × List ℕ)) (c : ℕ) (seeds : List ℕ) (f : Func) → (algorithm ≡ Brz → 1 ≤ b) → Laws keys c b seeds → IsMadeBy algorithm b keys c seeds f → IsBy algorithm f × AnswersOf keys f
answers_of Chm b keys c seeds (func.Chm f) wide laws made = (tt, (subst (AnswersNumbers keys) (sym made.0) (laws.chm_numbers f.seed (laws.empty _ made.1.1.empty)), ap (λ (g : chm.Chm). g.keys) made.0))
answers_of Chm b keys c seeds (func.Bdz f) wide laws made = absurd made
answers_of Chm b keys c seeds (func.BdzPh f) wide laws made = absurd made
answers_of Chm b keys c seeds (func.Brz f) wide laws made = absurd made
answers_of Bdz b keys c seeds (func.Chm f) wide laws made = absurd made
answers_of Bdz b keys c seeds (func.Bdz f) wide laws made =
    (tt, (subst (λ (g : bdz.Bdz). AnswersApart keys (bdz_answer g) (length keys)) (sym made.0) (laws.bdz_apart f.seed (laws.empty _ made.1.1.empty)), ap (λ (g : bdz.Bdz). g.keys) made.0))
answers_of Bdz b keys c seeds (func.BdzPh f) wide laws made = absurd made
answers_of Bdz b keys c seeds (func.Brz f) wide laws made = absurd made
answers_of BdzPh b keys c seeds (func.Chm f) wide laws made = absurd made
answers_of BdzPh b keys c seeds (func.Bdz f) wide laws made = absurd made
answers_of BdzPh b keys c seeds (func.BdzPh f) wide laws made =
    (tt, (subst (λ (g : bdz.BdzPh). AnswersApart keys (λ key. Some (bdz_ph_answer g key)) (length g.cells)) (sym made.0) (laws.bdz_ph_apart f.seed (laws.empty _ made.1.1.empty)), ap (λ (g : bdz.BdzPh). g.keys) made.0))
answers_of BdzPh b keys c seeds (func.Brz f) wide laws made = absurd made
answers_of Brz b keys c seeds (func.Chm f) wide laws made = absurd made
answers_of Brz b keys c seeds (func.Bdz f) wide laws made = absurd made
answers_of Brz b keys c seeds (func.BdzPh f) wide laws made = absurd made
answers_of Brz b keys c seeds (func.Brz f) wide laws made = (tt, (laws.brz_apart f (wide refl) made, made.many))

pub returns : goal.returns
returns c = λ job files bytes f build there made valid.
    let keys = (keys_in job.first job.end bytes).keys in
    let laws : Laws keys job.c job.b (seeds_tried job) = record {
      empty = c.empty_rest.ensures.rest;
      chm_numbers = λ seed. c.answers_numbers.ensures keys job.c seed made.many build.numbers.ratio;
      bdz_apart = λ seed. c.answers_apart.ensures.bdz keys job.c seed job.b made.many build.numbers.ratio;
      bdz_ph_apart = λ seed. c.answers_apart.ensures.bdz_ph keys job.c seed made.many build.numbers.ratio;
      brz_apart = λ f wide of. c.numbers_apart.ensures.apart keys job.c job.b (seeds_tried job) f made.many.0 made.many.1 build.numbers.ratio wide of;
    } in
    let wide : job.algorithm ≡ Brz → 1 ≤ job.b = λ by. omega (arith, (build.numbers.width by).0) in
    let answers = answers_of job.algorithm job.b keys job.c (seeds_tried job) f wide laws made.made in
    (bytes, dump_of f, f, map.insert files job.function (dump_of f), there, refl, written_at files job.function (dump_of f), c.dumps_spell.ensures.spelling f valid, valid, answers.0, answers.1)
