-- What a query has done after some keys.
use Rattle.std.proofs.Common.{◌≡◌, ◌∙◌, ℕ, ◌+◌, ◌-◌, ◌≤◌, List, [], ◌∷◌, ◌++◌, length, take, drop, Option, None, Bool, Err, ap, sym, subst, arith}
use Rattle.std.proofs.lemmas.List.{length-drop, take_all}
use Rattle.std.proofs.Math.Seq.{take-add}
use Rattle.cm_io.specs.WritingLaws.{then_twice}
use Rattle.cm_io.specs.Noting.{Noted}
use Rattle.cm_io.specs.States.{SinkState}
use Rattle.cm_io.specs.Passes.{Ends, GivesKey, Told}
use Rattle.cm_io.specs.Writing.{then_bytes}
use Rattle.cm_io.specs.declared.key_pass.KeyFault.{KeyFault}
use Rattle.cm_io.specs.declared.key_pass.KeyFault.TheVariants.{Read, TooLong, TooMany}
use Rattle.cm_query.proofs.EarlierLemmas.{notes_of-more, tally_of-more}
use Rattle.cm_io.specs.NotingLaws.{noted_more}
use Rattle.cm_query.proofs.TextLemmas.{text_of-more, text_of-one}
use Rattle.cm_io.specs.NotingLaws.{noted_nothing}
use Rattle.cm_io.specs.WritingLaws.{then_nothing}
use Rattle.cm_query.specs.Repeats.{is_repeated}
use Rattle.cm_query_batch.specs.Stops.{StopsAt, TextAfter}
use Rattle.cm_query.specs.Tallies.{counted, tally_of}
use Rattle.cm_query.specs.Texts.{line_of, note_of, notes_of, text_of}
use Rattle.cm_query_batch.specs.declared.fault.QueryFault.TheVariants.{Key, Write}
use Rattle.cm_query.specs.declared.tally.Tally.{Tally}

-- the keys given so far are answered: their text on out, their notes on err, and their tally
pub record SoFar (end : ℕ) (f : List ℕ → Option ℕ) (given : List (ℕ × List ℕ)) (tally : Tally) (out_old out_new : Option (List ℕ)) (had failed : Bool) (err_old err_new : SinkState) : Type 0 where
  pub out : out_new ≡ then_bytes out_old (text_of end f given)
  pub notes : Noted had failed err_old err_new (notes_of f given)
  pub tally_is : tally ≡ tally_of f given

pub so_far_none : (end : ℕ) (f : List ℕ → Option ℕ) (tally : Tally) (out : Option (List ℕ)) (failed : Bool) (err : SinkState)
    → tally ≡ tally_of f [] → SoFar end f [] tally out out failed failed err err
so_far_none end f tally out failed err zero = record {
  out = then_nothing out;
  notes = noted_nothing failed err;
  tally_is = zero;
}

-- the keys given so far, with the next
pub take_next : (keys : List (ℕ × List ℕ)) (place : ℕ) (k : ℕ × List ℕ) → drop place keys ≡ k ∷ drop (place + 1) keys → take (place + 1) keys ≡ take place keys ++ k ∷ []
take_next keys place k is = take-add place 1 keys ∙ ap (λ (l : List (ℕ × List ℕ)). take place keys ++ take 1 l) is

pub next_within : (keys : List (ℕ × List ℕ)) (place : ℕ) (k : ℕ × List ℕ) → drop place keys ≡ k ∷ drop (place + 1) keys → place + 1 ≤ length keys
next_within keys place k is =
    let long : length (drop place keys) ≡ 1 + length (drop (place + 1) keys) = ap length is ∙ omega arith in
    omega (arith, length-drop place keys)

-- one key more, with its answer
pub so_far_next : (end : ℕ) (f : List ℕ → Option ℕ) (keys : List (ℕ × List ℕ)) (place : ℕ) (k : ℕ × List ℕ) (a : Option ℕ) (repeated : Bool) (tally tally' : Tally) (out_old out_mid out_new : Option (List ℕ))
    (had failed failed' : Bool) (err_old err_mid err_new : SinkState)
    → drop place keys ≡ k ∷ drop (place + 1) keys → f k.1 ≡ a → SoFar end f (take place keys) tally out_old out_mid had failed err_old err_mid
    → out_new ≡ then_bytes out_mid (line_of end k.1 a) → repeated ≡ is_repeated f (take place keys) (f k.1)
    → Noted failed failed' err_mid err_new (note_of k.0 a repeated) → tally' ≡ counted tally a repeated
    → SoFar end f (take (place + 1) keys) tally' out_old out_new had failed' err_old err_new
so_far_next end f keys place k a repeated tally tally' out_old out_mid out_new had failed failed' err_old err_mid err_new next is so_far wrote seen noted more =
    let old = take place keys in
    let given = take_next keys place k next in
    let again : repeated ≡ is_repeated f old a = seen ∙ ap (is_repeated f old) is in
    let text : out_new ≡ then_bytes out_old (text_of end f (old ++ k ∷ [])) =
    wrote ∙ ap (λ (o : Option (List ℕ)). then_bytes o (line_of end k.1 a)) so_far.out ∙ then_twice out_old (text_of end f old) (line_of end k.1 a)
    ∙ ap (λ (o : Option ℕ). then_bytes out_old (text_of end f old ++ line_of end k.1 o)) (sym is) ∙ ap (then_bytes out_old) (sym (text_of-more end f old k)) in
    let note : note_of k.0 a repeated ≡ note_of k.0 (f k.1) (is_repeated f old (f k.1)) =
    ap (note_of k.0 a) again ∙ ap (λ (o : Option ℕ). note_of k.0 o (is_repeated f old o)) (sym is) in
    let notes : Noted had failed' err_old err_new (notes_of f (old ++ k ∷ [])) =
    subst (Noted had failed' err_old err_new) (ap (λ (t : List ℕ). notes_of f old ++ t) note ∙ sym (notes_of-more f old k)) (noted_more so_far.notes noted) in
    let tallied : tally' ≡ tally_of f (old ++ k ∷ []) =
    more ∙ ap (λ (t : Tally). counted t a repeated) so_far.tally_is ∙ ap (counted (tally_of f old) a) again ∙ tally_of-more f old k a is in
    subst (λ (ks : List (ℕ × List ℕ)). SoFar end f ks tally' out_old out_new had failed' err_old err_new) (sym given)
    (record { out = text; notes = notes; tally_is = tallied })

-- at the end of the keys
pub so_far_all : (end : ℕ) (f : List ℕ → Option ℕ) (told : Told) (place : ℕ) (tally : Tally) (out_old out_new : Option (List ℕ)) (had failed : Bool) (err_old err_new : SinkState)
    → Ends told place None → SoFar end f (take place told.keys) tally out_old out_new had failed err_old err_new → SoFar end f told.keys tally out_old out_new had failed err_old err_new
so_far_all end f told place tally out_old out_new had failed err_old err_new ends so_far =
    subst (λ (ks : List (ℕ × List ℕ)). SoFar end f ks tally out_old out_new had failed err_old err_new) (take_all place told.keys (omega (arith, ends.all))) so_far

-- where the pass refused
pub stops_at_key : (told : Told) (place now line : ℕ) (key : List ℕ) (fault : KeyFault) → place ≤ length told.keys → GivesKey told place now line key (Err fault) → StopsAt told place (Key fault)
stops_at_key told place now line key Read within gives = within
stops_at_key told place now line key (TooLong at) within gives = gives
stops_at_key told place now line key TooMany within gives = gives

-- where a write failed, at the key after some
pub text_at_write : (end : ℕ) (f : List ℕ → Option ℕ) (keys : List (ℕ × List ℕ)) (place : ℕ) (k : ℕ × List ℕ) (a : Option ℕ) (out_old out_mid out_new : Option (List ℕ))
    → drop place keys ≡ k ∷ drop (place + 1) keys → f k.1 ≡ a → out_mid ≡ then_bytes out_old (text_of end f (take place keys)) → ((n : ℕ) × (out_new ≡ then_bytes out_mid (take n (line_of end k.1 a))))
    → TextAfter (text_of end f) keys (place + 1) out_old out_new Write
text_at_write end f keys place k a out_old out_mid out_new next is so_far wrote =
    let less : place + 1 - 1 ≡ place = omega arith in
    let old = text_of end f (take place keys) in
    let line : line_of end k.1 a ≡ text_of end f (take 1 (drop place keys)) =
    ap (line_of end k.1) (sym is) ∙ sym (text_of-one end f k) ∙ ap (λ (l : List (ℕ × List ℕ)). text_of end f (take 1 l)) (sym next) in
    subst (λ (p : ℕ). (n : ℕ) × (out_new ≡ then_bytes out_old (text_of end f (take p keys) ++ take n (text_of end f (take 1 (drop p keys)))))) (sym less)
    (wrote.0, wrote.1 ∙ ap (λ (o : Option (List ℕ)). then_bytes o (take wrote.0 (line_of end k.1 a))) so_far ∙ then_twice out_old old (take wrote.0 (line_of end k.1 a)) ∙ ap (λ (l : List ℕ). then_bytes out_old (old ++ take wrote.0 l)) line)
