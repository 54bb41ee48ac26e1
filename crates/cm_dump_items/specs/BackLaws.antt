-- Lemmas about the bytes from which items were read, which the proofs of what a file says cite. No contract needs them.
use Rattle.std.proofs.Common.{◌≡◌, ◌∙◌, ℕ, ◌+◌, ◌<◌, ◌≤◌, ◌&&◌, List, [], ◌∷◌, ◌++◌, length, get_or, take, drop, ap, sym, subst, arith, refl, length-take, length-drop, nat_lt, nat_le, Bool, true, false, if◌then◌else◌, Result, Ok, Err, inl, inr, append-nil, lit<}
use Rattle.std.specs.Int.{Width, byte_len, from_le_bytes, to_le_bytes, w8}
use Rattle.std.proofs.Math.ListN.{drop_of_length-le}
use Rattle.std.proofs.lemmas.Bool.{cases_lt, leb-true}
use Rattle.std.proofs.lemmas.List.{drop-drop, take-append-drop, get_or-take, get_or-drop, get_or_past}
use Rattle.cm_bits.specs.Bound.{AllBelow}
use Rattle.cm_dump_items.specs.declared.fault.LoadFault.{LoadFault}
use Rattle.cm_dump_items.specs.declared.fault.LoadFault.TheVariants as faults
use Rattle.cm_dump_items.specs.ItemLaws.{ge_of, whole_or}
use Rattle.cm_dump_items.specs.Reading.{end_at, field_at, item_at}
use Rattle.cm_dump_items.specs.StepLaws.{if_ok, ok_err, step}
use Rattle.cm_dump_items.specs.WidthLaws.{IsWidth, of_one}

both_of : (s t : Bool) → (s && t) ≡ true → (s ≡ true) × (t ≡ true)
both_of true t is = (refl, is)
both_of false t is = absurd (grind (arith, is))

-- each number of a list is a byte's
abbrev pub Small : List ℕ → Type 0
Small xs = (k : ℕ) → get_or xs k 0 < 256

pub small_bytes : (xs : List ℕ) → AllBelow 256 xs → Small xs
small_bytes xs below k = elim (cases_lt k (length xs)) [
  | inl l ↦ below k l
  | inr past ↦ rw (get_or_past xs k 0 past) (lit< tt)
]

-- the item stands there
pub record Stands (bytes : List ℕ) (at n : ℕ) (xs : List ℕ) : Type 0 where
  pub long : length xs ≡ n
  pub inside : at + n ≤ length bytes
  pub cut : drop at bytes ≡ xs ++ drop (at + n) bytes
  pub same : xs ≡ take n (drop at bytes)

pub stands : (bytes : List ℕ) (at n : ℕ) (xs : List ℕ) → item_at bytes at n ≡ Ok xs → Stands bytes at n xs
unfolding item_at
stands bytes at n xs is =
    let parts = whole_or (nat_lt (length bytes) (at + n)) _ (take n (drop at bytes)) xs is in
    let inside : at + n ≤ length bytes = ge_of (length bytes) (at + n) parts.0 in
    let long : length (take n (drop at bytes)) ≡ n = omega (arith, length-take n (drop at bytes), length-drop at bytes, inside) in
    record {
      long = ap length (sym parts.1) ∙ long;
      inside = inside;
      cut = sym (take-append-drop n (drop at bytes)) ∙ ap (λ (l : List ℕ). take n (drop at bytes) ++ l) (drop-drop n at bytes) ∙ ap (λ (l : List ℕ). l ++ drop (at + n) bytes) parts.1;
      same = sym parts.1;
    }

pub small_item : (bytes : List ℕ) (at n : ℕ) (xs : List ℕ) → Small bytes → Stands bytes at n xs → Small xs
small_item bytes at n xs small there k = elim (cases_lt k n) [
  | inl l ↦ rw there.same (rw (get_or-take n (drop at bytes) k 0 l, get_or-drop at bytes k 0) (small (at + k)))
  | inr past ↦ rw (get_or_past xs k 0 (omega (arith, there.long, past))) (lit< tt)
]

-- a field that is read is in its range
pub field_range : (w : Width) (bytes : List ℕ) (at low high x : ℕ) → field_at w bytes at low high ≡ Ok x → (low ≤ x) × (x ≤ high)
unfolding field_at
field_range w bytes at low high x is =
    let s = step (item_at bytes at (byte_len w)) _ x is in
    let item = from_le_bytes w s.value in
    let test = if_ok (nat_le low item && nat_le item high) _ item x s.next in
    let range = both_of (nat_le low item) (nat_le item high) test.0 in
    (subst (λ (y : ℕ). low ≤ y) test.1 (leb-true low item range.0), subst (λ (y : ℕ). y ≤ high) test.1 (leb-true item high range.1))

pub record ReadsField (w : Width) (bytes : List ℕ) (at low high x : ℕ) : Type 0 where
  pub there : Stands bytes at (byte_len w) (to_le_bytes w x)
  pub above : low ≤ x
  pub below : x ≤ high

pub field_read : (w : Width) → IsWidth w → (bytes : List ℕ) (at low high x : ℕ) → Small bytes → field_at w bytes at low high ≡ Ok x → ReadsField w bytes at low high x
unfolding field_at
field_read w known bytes at low high x small is =
    let s = step (item_at bytes at (byte_len w)) _ x is in
    let there = stands bytes at (byte_len w) s.value s.was in
    let item = from_le_bytes w s.value in
    let test = if_ok (nat_le low item && nat_le item high) _ item x s.next in
    let same : to_le_bytes w x ≡ s.value = known.same s.value x there.long (small_item bytes at (byte_len w) s.value small there) (sym test.1) in
    let range = field_range w bytes at low high x is in
    record {
      there = subst (λ (xs : List ℕ). Stands bytes at (byte_len w) xs) (sym same) there;
      above = range.0;
      below = range.1;
    }

pub zero_read : (bytes : List ℕ) (at b : ℕ) → Small bytes → field_at w8 bytes at 0 0 ≡ Ok b → Stands bytes at 1 (0 ∷ [])
zero_read bytes at b small is =
    let r = field_read w8 of_one bytes at 0 0 b small is in
    let none : b ≡ 0 = omega (arith, r.below) in
    subst (λ (x : ℕ). Stands bytes at 1 (to_le_bytes w8 x)) none r.there

-- nothing follows
pub end_read : (bytes : List ℕ) (at : ℕ) (x : Unit {0}) → end_at bytes at ≡ Ok x → length bytes ≤ at
unfolding end_at
end_read bytes at x is = ge_of at (length bytes) (trailing_or (nat_lt at (length bytes)) x is) where
  trailing_or : (t : Bool) (x : Unit {0}) → (if t then (let r : Result (Unit {0}) LoadFault = Err faults.Trailing in r) else Ok tt) ≡ Ok x → t ≡ false
  trailing_or true x is = absurd (ok_err x faults.Trailing (sym is))
  trailing_or false x is = refl

-- the bytes after an offset, where they end with what stands there
pub last_item : (bytes : List ℕ) (at n : ℕ) (xs : List ℕ) → drop at bytes ≡ xs ++ drop n bytes → length bytes ≤ n → drop at bytes ≡ xs
last_item bytes at n xs cut ended = cut ∙ ap (λ (l : List ℕ). xs ++ l) (drop_of_length-le bytes ended) ∙ append-nil xs
