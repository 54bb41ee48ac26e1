-- An item that is read by chunks.
use Rattle.std.proofs.Common.{◌≡◌, ◌∙◌, ℕ, ◌+◌, ◌-◌, ◌≤◌, List, [], ◌++◌, append-nil, length, length-append, length-drop, length-take, take, drop, ap, sym, arith, refl, Bool, true, false, nat_lt, Result, Ok, Err, if◌then◌else◌}
use borrow.Rule.Slice.PartMut.{post_of}
use Rattle.std.proofs.lemmas.List.{drop-drop, drop_all, take_at}
use Rattle.std.proofs.Math.Seq.{take-add}
use Rattle.cm_dump_items.specs.declared.fault.LoadFault.{LoadFault}
use Rattle.cm_dump_items.specs.declared.fault.LoadFault.TheVariants as faults
use Rattle.cm_dump_items.specs.Reading.{item_at, Fails}
use Rattle.cm_dump_items.specs.ItemLaws.{ltb_no, ltb_yes, lt_of, whole_or}
use Rattle.cm_dump_items.specs.StepLaws.{ok_err}

cut_or : (t : Bool) (f g : LoadFault) (l : List ℕ) → (if t then (let r : Result (List ℕ) LoadFault = Err f in r) else Ok l) ≡ Err g → (t ≡ true) × ((let r : Result (List ℕ) LoadFault = Err f in r) ≡ Err g)
cut_or true f g l is = (refl, is)
cut_or false f g l is = absurd (ok_err l g is)

pub chunk_cut : (bytes : List ℕ) (at done k n : ℕ) (f : LoadFault) → item_at bytes (at + done) k ≡ Err f → done + k ≤ n → item_at bytes at n ≡ Err f
unfolding item_at
chunk_cut bytes at done k n f is inside =
    let parts = cut_or (nat_lt (length bytes) ((at + done) + k)) (faults.Truncated (length bytes)) f (take k (drop (at + done) bytes)) is in
    rw (ltb_yes (length bytes) (at + n) (omega (arith, lt_of (length bytes) ((at + done) + k) parts.0, inside))) parts.1

pub chunk_fault : (bytes : List ℕ) (at done k n : ℕ) (f : LoadFault) → Fails f (item_at bytes (at + done) k) → done + k ≤ n → Fails f (item_at bytes at n)
chunk_fault bytes at done k n faults.Memory is inside = tt
chunk_fault bytes at done k n faults.Read is inside = tt
chunk_fault bytes at done k n (faults.Truncated a) is inside = chunk_cut bytes at done k n _ is inside
chunk_fault bytes at done k n faults.BadMagic is inside = chunk_cut bytes at done k n _ is inside
chunk_fault bytes at done k n faults.BadAlgorithm is inside = chunk_cut bytes at done k n _ is inside
chunk_fault bytes at done k n (faults.BadField a) is inside = chunk_cut bytes at done k n _ is inside
chunk_fault bytes at done k n (faults.BadPadding a) is inside = chunk_cut bytes at done k n _ is inside
chunk_fault bytes at done k n (faults.BadCell a) is inside = chunk_cut bytes at done k n _ is inside
chunk_fault bytes at done k n (faults.BadCount a) is inside = chunk_cut bytes at done k n _ is inside
chunk_fault bytes at done k n (faults.BadRank a) is inside = chunk_cut bytes at done k n _ is inside
chunk_fault bytes at done k n faults.Trailing is inside = chunk_cut bytes at done k n _ is inside

pub chunk_more : (bytes items piece : List ℕ) (at done k : ℕ) → items ≡ take done (drop at bytes) → item_at bytes (at + done) k ≡ Ok piece → items ++ piece ≡ take (done + k) (drop at bytes)
unfolding item_at
chunk_more bytes items piece at done k so_far is =
    let parts = whole_or (nat_lt (length bytes) ((at + done) + k)) (faults.Truncated (length bytes)) (take k (drop (at + done) bytes)) piece is in
    ap (λ (l : List ℕ). l ++ piece) so_far ∙ ap (λ (l : List ℕ). take done (drop at bytes) ++ l) (sym parts.1 ∙ ap (λ (l : List ℕ). take k l) (sym (drop-drop done at bytes))) ∙ sym (take-add done k (drop at bytes))

pub chunk_all : (bytes items : List ℕ) (at n : ℕ) → items ≡ take n (drop at bytes) → at + n ≤ length bytes → item_at bytes at n ≡ Ok items
unfolding item_at
chunk_all bytes items at n all inside = rw (ltb_no (length bytes) (at + n) (omega (arith, inside))) (ap (λ (l : List ℕ). let r : Result (List ℕ) LoadFault = Ok l in r) (sym all))

-- What was written to the end of a list of bytes stands there.
pub put_end : (len done : ℕ) (xs items buf : List ℕ) → len ≡ length xs → done + length buf ≡ length xs
    → take len ((take done xs ++ (buf ++ post_of done (length xs - done) xs)) ++ drop (length (take done xs ++ (buf ++ post_of done (length xs - done) xs))) items) ≡ take done xs ++ buf
put_end len done xs items buf size many =
    let rest : post_of done (length xs - done) xs ≡ [] = drop_all (length xs - done) (drop done xs) (omega (arith, length-drop done xs)) in
    let whole : take done xs ++ (buf ++ post_of done (length xs - done) xs) ≡ take done xs ++ buf = ap (λ (l : List ℕ). take done xs ++ (buf ++ l)) rest ∙ ap (λ (l : List ℕ). take done xs ++ l) (append-nil buf) in
    let long : length (take done xs ++ buf) ≡ len = length-append (take done xs) buf ∙ omega (arith, size, many, length-take done xs) in
    ap (λ (l : List ℕ). take len (l ++ drop (length l) items)) whole ∙ take_at (take done xs ++ buf) (drop (length (take done xs ++ buf)) items) len long
