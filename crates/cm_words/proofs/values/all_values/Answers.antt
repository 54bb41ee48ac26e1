use Rattle.std.proofs.Common.{◌≡◌, ◌∙◌, Ok, ap, codes, refl, sym}
use Rattle.clap.specs.Words.{first_of, found_of, rows_of}
use Rattle.cm_words_values.specs.Options.{algorithm_value, bits_value, buffer_value, count_value, first_value, hash_value, ratio_value, seed_value, test_value}
use Rattle.cm_words.specs.Options.{is_build}
use Rattle.cm_words.proofs.values.all_values.Goals as goal

pub returns-clause-values : goal.returns-clause-values
returns-clause-values c =
    let rows = rows_of (found_of c.args.matches.now) in
    let algorithm : algorithm_value (first_of (codes "algorithm") rows) ≡ Ok c.in_ok-algorithm.algorithm = ap algorithm_value (sym c.text.ensures) ∙ sym c.algorithm.ensures.value ∙ c.in_ok-algorithm.was in
    let bits : bits_value (is_build rows) c.in_ok-algorithm.algorithm (first_of (codes "bits") rows) ≡ Ok c.in_ok-bits.bits =
    rw (← c.builds.ensures) (ap (bits_value c.builds.result c.in_ok-algorithm.algorithm) (sym c.text-2.ensures) ∙ sym c.bits.ensures.value ∙ c.in_ok-bits.was) in
    let ratio : ratio_value c.in_ok-algorithm.algorithm (first_of (codes "ratio") rows) ≡ Ok c.in_ok-ratio.ratio = ap (ratio_value c.in_ok-algorithm.algorithm) (sym c.text-3.ensures) ∙ sym c.ratio.ensures.value ∙ c.in_ok-ratio.was in
    let hash : hash_value (first_of (codes "hash") rows) ≡ Ok c.in_ok-hash.field-0 = ap hash_value (sym c.text-4.ensures) ∙ sym c.hash.ensures ∙ c.in_ok-hash.was in
    let first : first_value (first_of (codes "first") rows) ≡ Ok c.in_ok-first.field-0 = ap first_value (sym c.text-5.ensures) ∙ sym c.first.ensures.value ∙ c.in_ok-first.was in
    let buffer : buffer_value (first_of (codes "buffer") rows) ≡ Ok c.in_ok-buffer.field-0 = ap buffer_value (sym c.text-6.ensures) ∙ sym c.buffer.ensures.value ∙ c.in_ok-buffer.was in
    let count : count_value (first_of (codes "count") rows) ≡ Ok c.in_ok-count.field-0 = ap count_value (sym c.text-7.ensures) ∙ sym c.count.ensures.value ∙ c.in_ok-count.was in
    let seed : seed_value (first_of (codes "seed") rows) ≡ Ok c.in_ok-seed.field-0 = ap seed_value (sym c.text-8.ensures) ∙ sym c.seed.ensures.value ∙ c.in_ok-seed.was in
    let test : test_value (first_of (codes "test") rows) ≡ Ok c.in_ok-test.field-0 = ap test_value (sym c.text-9.ensures) ∙ sym c.test.ensures.value ∙ c.in_ok-test.was in
    rw (algorithm, bits, ratio, hash, first, buffer, count, seed, test) refl
