use Rattle.std.proofs.Common.{rules, ◌≡◌, ◌∙◌, ◌∷◌, [], ◌++◌, ◌<◌, ℕ, List, length, map, get_or, ap, sym, arith}
use Rattle.std.proofs.lemmas.List.{get_or-map, length-map}
use Rattle.cm_brz_split.proofs.WordsLemmas.{hashed_more}
use Rattle.cm_brz_split.specs.BucketPass.{keyed_in, words_under}
use Rattle.cm_brz_split.specs.declared.bucket_keys.Spot.{Spot}
use Rattle.cm_brz_split.proofs.bucket_keys.BucketKeys.hash.Goals as goal

pub loop-i-preserved : goal.loop-i-preserved
loop-i-preserved c =
    let before = c.loop-i.invariant in
    let now = c.loop-i.self-inside in
    let i = c.loop-i.i in
    let none : Spot = record { line = 0; from = 0; until = 0 } in
    let keys = map (keyed_in now.bytes.items) now.spots.items in
    let inside : i < length now.spots.items = omega (arith, c.loop-i-test.true, c.len-i-end.ensures.value, ap (λ s. length s.items) before.spots) in
    let spot : c.words_under_four.result ≡ words_under now.seeds (keyed_in now.bytes.items (get_or now.spots.items i none)) =
    c.words_under_four.ensures.words
    ∙ ap (λ (b : List ℕ). words_under now.seeds (keyed_in b (get_or c.deref.result.now i none))) c.deref-in-loop-i.ensures.value
    ∙ ap (λ (l : List Spot). words_under now.seeds (keyed_in now.bytes.items (get_or l i none))) c.deref.ensures.0 in
    let word : c.words_under_four.result ≡ words_under now.seeds (get_or keys i (0, [])) = spot ∙ ap (words_under now.seeds) (sym (get_or-map (keyed_in now.bytes.items) now.spots.items i none (0, []) inside)) in
    record {
      bytes = before.bytes;
      spots = before.spots;
      seeds = before.seeds;
      given = before.given;
      many = omega (arith, c.push_reserved.ensures.len, before.many);
      room = search rules;
      hashed = hashed_more now.seeds keys now.words.items c.push_reserved.new.self.items i before.hashed before.many (omega (arith, inside, length-map now.spots.items (keyed_in now.bytes.items)))
          (c.push_reserved.ensures.items ∙ ap (λ (w : List (List ℕ)). now.words.items ++ w ∷ []) word);
    }
