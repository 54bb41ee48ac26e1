use Rattle.std.proofs.Common.{◌≡◌, ◌∙◌, ℕ, ◌+◌, ◌<◌, List, [], ◌∷◌, ◌++◌, length, take, drop, get_or, ap, sym, arith, append-nil}
use Rattle.std.specs.Fmt.{decimal}
use Rattle.std.proofs.lemmas.Grind.{flat_map-append}
use Rattle.std.proofs.lemmas.List.{get_or-map, length-map, take-append-drop, take_more}
use Rattle.cm_io.specs.Writing.{then_bytes}
use Rattle.cm_io.specs.WritingLaws.{front_of_first, later_front, then_twice}
use Rattle.cm_shards_split.specs.Parts.{counts_of}
use Rattle.cm_shards_split.specs.Shares.{counts_text}
use Rattle.cm_shards_split.specs.declared.part.Part.{Part}
use Rattle.cm_shards_split.proofs.counts.write_counts.Goals as goal
use Rattle.cm_words_values.specs.declared.limits.TheConstants.{LINE_FEED}

abbrev one : ℕ → List ℕ
one n = decimal n ++ LINE_FEED ∷ []

-- the text of one count more
next_text : (counts : List ℕ) (i : ℕ) → i < length counts → counts_text (take (i + 1) counts) ≡ counts_text (take i counts) ++ one (get_or counts i 0)
next_text counts i inside =
    ap counts_text (take_more counts i 0 inside)
    ∙ flat_map-append one (take i counts) (get_or counts i 0 ∷ [])
    ∙ ap (λ (l : List ℕ). counts_text (take i counts) ++ l) (append-nil (one (get_or counts i 0)))

-- and of the rest
whole_text : (counts : List ℕ) (i : ℕ) → counts_text (take i counts) ++ counts_text (drop i counts) ≡ counts_text counts
whole_text counts i = sym (flat_map-append one (take i counts) (drop i counts)) ∙ ap counts_text (take-append-drop i counts)

count_in : (parts : List Part) (i : ℕ) (d : Part) → i < length parts → get_or (counts_of parts) i 0 ≡ (get_or parts i d).count
count_in parts i d inside = get_or-map (λ part. part.count) parts i d 0 inside

pub returns-in-Err-clause-text : goal.returns-in-Err-clause-text
returns-in-Err-clause-text g c =
    let parts = c.args.parts.now in
    let counts = counts_of parts in
    let i : ℕ = c.loop-i.i in
    let inside : i < length parts = omega (arith, c.loop-i-test.true, c.loop-i.invariant.end) in
    let within : i < length counts = omega (arith, inside, length-map parts (λ (part : Part). part.count)) in
    let wrote = c.in-Err.ensures.text in
    let old = (g.O.Sink.state c.args.out.now).written in
    let mid = (g.O.Sink.state c.loop-i.out).written in
    let new = (g.O.Sink.state c.write_count.new.out).written in
    let piece = one (get_or parts i c.index-parts-i.result).count in
    let next : counts_text (take i counts) ++ piece ≡ counts_text (take (i + 1) counts) = ap (λ (n : ℕ). counts_text (take i counts) ++ one n) (sym (count_in parts i c.index-parts-i.result inside)) ∙ sym (next_text counts i within) in
    let here : new ≡ then_bytes old (take (length (counts_text (take i counts)) + wrote.0) (counts_text (take (i + 1) counts))) =
    later_front old mid new (counts_text (take i counts)) piece wrote.0 c.loop-i.invariant.text wrote.1 ∙ ap (λ (l : List ℕ). then_bytes old (take (length (counts_text (take i counts)) + wrote.0) l)) next in
    let all = front_of_first old new (counts_text (take (i + 1) counts)) (counts_text (drop (i + 1) counts)) (length (counts_text (take i counts)) + wrote.0) here in
    (all.0, all.1 ∙ ap (λ (l : List ℕ). then_bytes old (take all.0 l)) (whole_text counts (i + 1)))

pub loop-i-preserved : goal.loop-i-preserved
loop-i-preserved g c =
    let parts = c.args.parts.now in
    let counts = counts_of parts in
    let i : ℕ = c.loop-i.i in
    let inside : i < length parts = omega (arith, c.loop-i-test.true, c.loop-i.invariant.end) in
    let within : i < length counts = omega (arith, inside, length-map parts (λ (part : Part). part.count)) in
    let old = (g.O.Sink.state c.args.out.now).written in
    let piece = one (get_or parts i c.index-parts-i.result).count in
    let next : counts_text (take i counts) ++ piece ≡ counts_text (take (i + 1) counts) = ap (λ (n : ℕ). counts_text (take i counts) ++ one n) (sym (count_in parts i c.index-parts-i.result inside)) ∙ sym (next_text counts i within) in
    record {
      end = c.loop-i.invariant.end;
      text = c.in-Ok.ensures.text ∙ ap (λ (w : _). then_bytes w piece) c.loop-i.invariant.text ∙ then_twice old (counts_text (take i counts)) piece ∙ ap (then_bytes old) next;
      faults = c.in-Ok.ensures.cause.fine ∙ c.loop-i.invariant.faults;
    }
