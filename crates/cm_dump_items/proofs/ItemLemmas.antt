-- An item that is read piece by piece.
use Rattle.std.proofs.Common.{◌≡◌, ◌∙◌, ℕ, ◌+◌, ◌-◌, ◌<◌, ◌≤◌, List, ◌++◌, length, take, drop, ap, sym, arith, length-append, length-take, length-drop, Result, Ok, Err}
use Rattle.std.proofs.lemmas.List.{drop-drop, take_at, take_all, take-append-le}
use Rattle.std.proofs.Math.Seq.{take-append-add, take-add}
use Rattle.cm_io.specs.Reading.{Gives}
use Rattle.cm_dump_items.specs.declared.fault.LoadFault.{LoadFault}
use Rattle.cm_dump_items.specs.declared.fault.LoadFault.TheVariants as faults
use Rattle.cm_dump_items.specs.Reading.{Fills, item_at}
use Rattle.cm_dump_items.specs.ItemLaws.{ltb_no, ltb_yes}

le_from_not : (m n : ℕ) → (m < n → ⊥) → n ≤ m
le_from_not m n never = omega (arith, never)

-- the buffer keeps its length
pub item_room : (buf ys : List ℕ) (got : ℕ) → got ≤ length buf → length ys ≡ length (take (length buf - got) (drop got buf)) → length (take got buf ++ (ys ++ drop (length buf - got) (drop got buf))) ≡ length buf
item_room buf ys got inside size =
    omega (
      arith,
      size,
      inside,
      length-append (take got buf) (ys ++ drop (length buf - got) (drop got buf)),
      length-append ys (drop (length buf - got) (drop got buf)),
      length-take got buf,
      length-drop got buf,
      length-take (length buf - got) (drop got buf),
      length-drop (length buf - got) (drop got buf),
    )

-- a read gives nothing: the file ends here
pub fill_ends : (bytes buf ys : List ℕ) (at got place place' given : ℕ) → Gives bytes place place' (length (take (length buf - got) (drop got buf))) given ys → given ≡ 0 → place ≡ at + got → got < length buf → length bytes ≡ at + got
fill_ends bytes buf ys at got place place' given gives none is inside =
    let room : 0 < length (take (length buf - got) (drop got buf)) = omega (arith, length-take (length buf - got) (drop got buf), length-drop got buf, inside) in
    omega (arith, le_from_not place (length bytes) (λ lt. omega (arith, gives.some room lt, none)), gives.inside, gives.moved, none, is)

-- the file ends within the item
pub item_cut : (bytes buf : List ℕ) (at got n : ℕ) → Fills bytes at got buf → got < n → length buf ≡ n → item_at bytes at n ≡ Err (faults.Truncated (at + got))
unfolding item_at
item_cut bytes buf at got n fills short size =
    let end : length bytes ≡ at + got = fills.end (omega (arith, short, size)) in
    rw (ltb_yes (length bytes) (at + n) (omega (arith, end, short))) (ap (λ (k : ℕ). let r : Result (List ℕ) LoadFault = Err (faults.Truncated k) in r) end)

-- the item is whole
pub item_whole : (bytes buf : List ℕ) (at got n : ℕ) → take got buf ≡ take got (drop at bytes) → got ≡ n → length buf ≡ n → at + got ≤ length bytes → item_at bytes at n ≡ Ok buf
unfolding item_at
item_whole bytes buf at got n same all size inside =
    let e : take n (drop at bytes) ≡ buf = ap (λ (k : ℕ). take k (drop at bytes)) (sym all) ∙ sym same ∙ take_all got buf (omega (arith, all, size)) in
    rw (ltb_no (length bytes) (at + n) (omega (arith, inside, all))) (ap (λ (l : List ℕ). let r : Result (List ℕ) LoadFault = Ok l in r) e)

-- a piece more
pub item_more : (bytes buf ys rest : List ℕ) (at got n place place' room : ℕ) → take got buf ≡ take got (drop at bytes) → got ≤ length buf → place ≡ at + got → Gives bytes place place' room n ys → n ≤ length ys
    → take (got + n) (take got buf ++ (ys ++ rest)) ≡ take (got + n) (drop at bytes)
item_more bytes buf ys rest at got n place place' room same inside is gives few =
    let size : length (take got buf) ≡ got = omega (arith, length-take got buf, inside) in
    let size_n : length (take n ys) ≡ n = omega (arith, length-take n ys, few) in
    let left : take (got + n) (take got buf ++ (ys ++ rest)) ≡ take got buf ++ take n ys =
    ap (λ (k : ℕ). take (k + n) (take got buf ++ (ys ++ rest))) (sym size) ∙ take-append-add (take got buf) (ys ++ rest) n ∙ ap (λ (l : List ℕ). take got buf ++ l) (take-append-le n ys rest few) in
    let next : drop got (drop at bytes) ≡ take n ys ++ drop place' bytes = drop-drop got at bytes ∙ ap (λ (k : ℕ). drop k bytes) (sym is) ∙ gives.given in
    let right : take (got + n) (drop at bytes) ≡ take got (drop at bytes) ++ take n ys =
    take-add got n (drop at bytes) ∙ ap (λ (l : List ℕ). take got (drop at bytes) ++ take n l) next ∙ ap (λ (l : List ℕ). take got (drop at bytes) ++ l) (take_at (take n ys) (drop place' bytes) n size_n) in
    left ∙ ap (λ (l : List ℕ). l ++ take n ys) same ∙ sym right
