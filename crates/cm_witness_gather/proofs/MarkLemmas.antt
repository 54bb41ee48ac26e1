-- Tables of hits in which ends are marked.
use Rattle.std.proofs.Common.{◌≡◌, ◌∙◌, ℕ, ◌<◌, ◌≤◌, List, length, get_or, set, true, eqb, bit_and, bit_or, inl, inr, ap, sym, arith, get_or-set_other}
use Rattle.std.specs.Int.{bit_at}
use Rattle.std.proofs.lemmas.Bool.{cases_eq, eq-eqb, eqb-true}
use Rattle.std.proofs.lemmas.Grind.{get_or-set_at}
use Rattle.std.proofs.lemmas.List.{get_or_read, length-set}
use Rattle.std.proofs.lemmas.Nat.Bits.{bit_at_and, bit_at_or, same_from_bits}
use Rattle.cm_witness_gather.specs.Candidates.{bits_of, hits_of, is_once, is_twice, word_of}
use Rattle.cm_witness_gather.specs.declared.candidates.Hits.{Hits}

-- a word in which bits were hit
abbrev pub marked : Hits → ℕ → Hits
marked h bits = record { once = bit_or h.once bits; twice = bit_or h.twice (bit_and h.once bits) }

-- a number that has all bits of another
each_bit : (n bits : ℕ) → bit_and n bits ≡ bits → (i : ℕ) → bit_at bits i ≤ bit_at n i
each_bit n bits has i = omega (arith, ap (λ x. bit_at x i) has, bit_at_and n bits i)

has_each : (n bits : ℕ) → ((i : ℕ) → bit_at bits i ≤ bit_at n i) → bit_and n bits ≡ bits
has_each n bits each = same_from_bits (bit_and n bits) bits (λ i. omega (arith, bit_at_and n bits i, each i))

-- it keeps those that it has
more_bits : (n bits i : ℕ) → bit_at n i ≤ bit_at (bit_or n bits) i
more_bits n bits i = omega (arith, bit_at_or n bits i)

-- the word of ends after a word was changed
changed : (words : List Hits) (w : ℕ) (h : Hits) (ends : List ℕ) → w < length words → word_of (length words) ends ≡ w → hits_of (set words w h) ends ≡ h
changed words w h ends inside is =
    let same : word_of (length (set words w h)) ends ≡ w = ap (λ n. word_of n ends) (length-set words w h) ∙ is in
    get_or-set_at words w (word_of (length (set words w h)) ends) h _ same inside

unchanged : (words : List Hits) (w : ℕ) (h : Hits) (ends : List ℕ) → (word_of (length words) ends ≡ w → ⊥) → hits_of (set words w h) ends ≡ hits_of words ends
unchanged words w h ends other =
    ap (λ n. get_or (set words w h) (word_of n ends) (record { once = 0; twice = 0 })) (length-set words w h)
    ∙ get_or-set_other words w (word_of (length words) ends) h _ other

-- what the word was
before : (words : List Hits) (w : ℕ) (h : Hits) (ends : List ℕ) → w < length words → h ≡ get_or words w h → word_of (length words) ends ≡ w → hits_of words ends ≡ h
before words w h ends inside is at = ap (λ n. get_or words n (record { once = 0; twice = 0 })) at ∙ sym (get_or_read words w h inside is _)

-- bits that are kept in a word are kept in the table
bits_kept : (f : Hits → ℕ) (words : List Hits) (w : ℕ) (h new : Hits) → w < length words → h ≡ get_or words w h → ((i : ℕ) → bit_at (f h) i ≤ bit_at (f new) i) → (ends : List ℕ) (i : ℕ) → bit_at (f (hits_of words ends)) i ≤ bit_at (f (hits_of (set words w new) ends)) i
bits_kept f words w h new inside is kept ends i = elim (cases_eq (word_of (length words) ends) w) [
  | inl at ↦
      let old = ap (λ (x : Hits). bit_at (f x) i) (before words w h ends inside is at) in
      let now = ap (λ (x : Hits). bit_at (f x) i) (changed words w new ends inside at) in
      omega (arith, kept i)
  | inr other ↦ omega (arith, ap (λ (x : Hits). bit_at (f x) i) (unchanged words w new ends other))
]

pub mark_keeps_once : (words : List Hits) (w bits : ℕ) (h : Hits) → w < length words → h ≡ get_or words w h → (ends : List ℕ) → is_once words ends ≡ true → is_once (set words w (marked h bits)) ends ≡ true
unfolding is_once
mark_keeps_once words w bits h inside is ends was = eq-eqb _ _ (has_each _ _ (λ i.
    omega (arith, each_bit _ _ (eqb-true _ _ was) i, bits_kept (λ (x : Hits). x.once) words w h (marked h bits) inside is (more_bits h.once bits) ends i)))

pub mark_keeps_twice : (words : List Hits) (w bits : ℕ) (h : Hits) → w < length words → h ≡ get_or words w h → (ends : List ℕ) → is_twice words ends ≡ true → is_twice (set words w (marked h bits)) ends ≡ true
unfolding is_twice
mark_keeps_twice words w bits h inside is ends was = eq-eqb _ _ (has_each _ _ (λ i.
    omega (arith, each_bit _ _ (eqb-true _ _ was) i, bits_kept (λ (x : Hits). x.twice) words w h (marked h bits) inside is (more_bits h.twice (bit_and h.once bits)) ends i)))

pub mark_sets_once : (words : List Hits) (w bits : ℕ) (h : Hits) (ends : List ℕ) → w < length words → w ≡ word_of (length words) ends → bits ≡ bits_of ends → is_once (set words w (marked h bits)) ends ≡ true
unfolding is_once
mark_sets_once words w bits h ends inside at are =
    let now = changed words w (marked h bits) ends inside (sym at) in
    eq-eqb _ _ (ap (λ (x : Hits). bit_and x.once (bits_of ends)) now
    ∙ ap (bit_and (bit_or h.once bits)) (sym are)
    ∙ has_each _ bits (λ i. omega (arith, bit_at_or h.once bits i))
    ∙ are)

pub mark_sets_twice : (words : List Hits) (w bits : ℕ) (h : Hits) (ends : List ℕ) → w < length words → h ≡ get_or words w h → w ≡ word_of (length words) ends → bits ≡ bits_of ends → is_once words ends ≡ true → is_twice (set words w (marked h bits)) ends ≡ true
unfolding is_once is_twice
mark_sets_twice words w bits h ends inside is at are was =
    let now = changed words w (marked h bits) ends inside (sym at) in
    let had : bit_and h.once bits ≡ bits =
    ap (bit_and h.once) are
    ∙ ap (λ (x : Hits). bit_and x.once (bits_of ends)) (sym (before words w h ends inside is (sym at)))
    ∙ eqb-true _ _ was
    ∙ sym are in
    eq-eqb _ _ (ap (λ (x : Hits). bit_and x.twice (bits_of ends)) now
    ∙ ap (bit_and (bit_or h.twice (bit_and h.once bits))) (sym are)
    ∙ has_each _ bits (λ i. omega (arith, ap (λ x. bit_at x i) had, bit_at_or h.twice (bit_and h.once bits) i))
    ∙ are)

-- what a read of the slot says
pub twice_read : (words : List Hits) (w bits : ℕ) (h : Hits) (ends : List ℕ) → w < length words → h ≡ get_or words w h → w ≡ word_of (length words) ends → bits ≡ bits_of ends → eqb (bit_and h.twice bits) bits ≡ is_twice words ends
unfolding is_twice
twice_read words w bits h ends inside is at are =
    ap (λ b. eqb (bit_and h.twice b) b) are
    ∙ ap (λ (x : Hits). eqb (bit_and x.twice (bits_of ends)) (bits_of ends)) (sym (before words w h ends inside is (sym at)))
