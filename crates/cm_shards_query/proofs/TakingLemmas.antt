-- Lines that are taken together, and those of them that wait.
use Rattle.std.proofs.Common.{◌≡◌, ◌∙◌, ℕ, zero, suc, ◌+◌, ◌-◌, ◌<◌, List, [], ◌∷◌, ◌++◌, length, map, drop, get_or, Option, None, Some, Bool, true, not, Ok, refl, ap, sym, arith, append_assoc, length-append, length-drop, add-zero}
use Rattle.std.specs.Option.{ForSome}
use Rattle.std.specs.Prelude.{All, IfNone, IfSome, is_some}
use Rattle.std.proofs.lemmas.Bool.{false≢true}
use Rattle.std.proofs.lemmas.List.{get_or-drop}
use Rattle.cm_io.specs.Passes.{Told}
use Rattle.cm_keys.specs.Streams.{GivesLine, LineStream, told_by}
use Rattle.cm_query_batch.specs.Waiting.{AreAnswers, Takes}
use Rattle.cm_shards_query.specs.Taking.{HasTaken, numbered}

pub length-numbered : (before : ℕ) (keys : List (List ℕ)) → length (numbered before keys) ≡ length keys
length-numbered before [] = refl
length-numbered before (key ∷ keys) = ap suc (length-numbered (before + 1) keys)

numbered-more : (before at : ℕ) (keys : List (List ℕ)) (key : List ℕ) → at ≡ before + length keys → numbered before (keys ++ key ∷ []) ≡ numbered before keys ++ (at + 1, key) ∷ []
numbered-more before at [] key is =
    let same : before ≡ at = omega (arith, is) in
    ap (λ (n : ℕ). (n + 1, key) ∷ []) same
numbered-more before at (k ∷ ks) key is = ap (λ (l : List (ℕ × List ℕ)). (before + 1, k) ∷ l) (numbered-more (before + 1) at ks key (omega (arith, is)))

-- numbered keys under a function of their bytes
pub map-numbered : {A : Type 0} (f : List ℕ → A) (before : ℕ) (keys : List (List ℕ)) → map f keys ≡ map (λ (k : ℕ × List ℕ). f k.1) (numbered before keys)
map-numbered f before [] = refl
map-numbered {A = A} f before (key ∷ keys) = ap (λ (l : List A). f key ∷ l) (map-numbered f (before + 1) keys)

get_or-numbered : (before i : ℕ) (keys : List (List ℕ)) (d : ℕ × List ℕ) → i < length keys → get_or (numbered before keys) i d ≡ (before + i + 1, get_or keys i [])
get_or-numbered before i [] d inside = absurd (omega (arith, inside))
get_or-numbered before zero (key ∷ keys) d inside = ap (λ (n : ℕ). let k : ℕ × List ℕ = (n, key) in k) (let same : before + 1 ≡ before + 0 + 1 = omega arith in same)
get_or-numbered before (suc i) (key ∷ keys) d inside =
    get_or-numbered (before + 1) i keys d (omega (arith, inside)) ∙ ap (λ (n : ℕ). let k : ℕ × List ℕ = (n, get_or keys i []) in k) (let same : before + 1 + i + 1 ≡ before + suc i + 1 = omega arith in same)

-- how many wait
pub waiting_count : (before next : ℕ) (keys : List (List ℕ)) (now : List (ℕ × List ℕ)) → drop next (numbered before keys) ≡ now → length now ≡ length keys - next
waiting_count before next keys now is = ap length (sym is) ∙ length-drop next (numbered before keys) ∙ ap (λ (n : ℕ). n - next) (length-numbered before keys)

-- the first that waits
pub first_waiting : (before next : ℕ) (keys : List (List ℕ)) (now : List (ℕ × List ℕ)) (d : ℕ × List ℕ) → drop next (numbered before keys) ≡ now → next < length keys → (before + next + 1, get_or keys next []) ≡ get_or now 0 d
first_waiting before next keys now d is inside =
    sym (ap (λ (l : List (ℕ × List ℕ)). get_or l 0 d) (sym is)
    ∙ get_or-drop next (numbered before keys) 0 d
    ∙ ap (λ (i : ℕ). get_or (numbered before keys) i d) (add-zero next)
    ∙ get_or-numbered before next keys d inside)

-- none is taken
pub taken_none : (keys : List (List ℕ)) (stream : LineStream) → keys ≡ [] → HasTaken stream.count keys stream
taken_none keys stream none = record {
  count = omega (arith, ap length none);
  are = λ told is. rw none refl;
}

-- one line more
pub taken_more : (before : ℕ) (keys keys' : List (List ℕ)) (key : List ℕ) (old new : LineStream) → HasTaken before keys old → told_by new ≡ told_by old → new.count ≡ old.count + 1 → keys' ≡ keys ++ key ∷ []
    → ForSome (told_by old) (λ told. GivesLine told old.count (old.count + 1) key (Ok true)) → HasTaken before keys' new
taken_more before keys keys' key old new taken same one more gives = record {
  count = omega (arith, one, taken.count, ap length more, length-append keys (key ∷ []));
  are = λ told is.
      let line : ℕ × List ℕ = (old.count + 1, key) in
      taken.are told (sym same ∙ is)
      ∙ ap (λ (l : List (ℕ × List ℕ)). numbered before keys ++ l) ((gives told (sym same ∙ is)).0)
      ∙ sym (append_assoc (numbered before keys) (line ∷ []) (drop (old.count + 1) told.keys))
      ∙ ap (λ (l : List (ℕ × List ℕ)). l ++ drop (old.count + 1) told.keys) (sym (numbered-more before old.count keys key taken.count) ∙ ap (numbered before) (sym more))
      ∙ ap (λ (n : ℕ). numbered before keys' ++ drop n told.keys) (sym one);
}

-- what is said if nothing was found
pub said_of_none : {A P : Type 0} (found : Option A) (none : Bool) → is_some found ≡ not none → none ≡ true → IfNone found P → P
said_of_none None none is true_ said = said
said_of_none (Some x) none is true_ said = absurd (false≢true (sym (is ∙ ap not true_)))

-- Lines that were taken wait, with their numbers.
pub taken_answers : (f : List ℕ → Option ℕ) (span before : ℕ) (keys : List (List ℕ)) (numbers : List (Option ℕ)) → numbers ≡ map f keys → All (λ a. IfSome a (λ v. v < span)) numbers → AreAnswers f span (record { keys = numbered before keys; answers = numbers })
taken_answers f span before keys numbers are inside = record { are = are ∙ map-numbered f before keys; inside = inside }

pub taken_counts : (before old : ℕ) (keys : List (List ℕ)) (new : LineStream) → before ≡ old → HasTaken old keys new → 0 < length keys → (0 < length (numbered before keys)) × (new.count + 0 ≡ old + length (numbered before keys))
taken_counts before old keys new same taken some = (omega (arith, some, length-numbered before keys), omega (arith, taken.count, length-numbered before keys))

pub taken_refills : (before old : ℕ) (keys : List (List ℕ)) (stream new : LineStream) (told : Told) → before ≡ old → HasTaken old keys new → told_by new ≡ told_by stream → told_by stream ≡ Some told → Takes told old new.count [] (numbered before keys)
taken_refills before old keys stream new told same taken kept is = ap (λ (n : ℕ). numbered n keys ++ drop new.count told.keys) same ∙ sym (taken.are told (kept ∙ is))
