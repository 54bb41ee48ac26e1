-- The items of bytes that spell a function.
use Rattle.std.proofs.Common.{◌≡◌, ◌∙◌, ℕ, ◌+◌, ◌*◌, ◌<◌, ◌≤◌, ◌^◌, ◌⊎◌, suc, List, [], ◌∷◌, ◌++◌, append_assoc, length, drop, ap, sym, subst, arith, refl, None, Ok, w32, inl, inr}
use Rattle.std.specs.Prelude.{nat_eq, slice_index}
use Rattle.std.specs.Int.{to_le_bytes, w8, w16}
use Rattle.std.specs.List.{flat_map}
use Rattle.std.specs.Cmp.Lexicographic.{bytes_decides, pointwise}
use Rattle.std.proofs.lemmas.Bool.{cases_eq, ne_eqb}
use Rattle.cm_bits.specs.Bound.{AllBelow}
use Rattle.cm_bits.specs.Fault.{packed_fault}
use Rattle.cm_bits.specs.Held.{packed_cells}
use Rattle.cm_bits.specs.PackedLaws.{AllBelow-packed_cells, length-packed_cells, IsPacked-sound, image-list}
use Rattle.cm_dump_items.specs.declared.fault.LoadFault.TheVariants as faults
use Rattle.cm_dump_items.specs.Reading.{item_at, field_at, zeros_at}
use Rattle.cm_dump_items.specs.StepLaws.{if_next, if_ok, ok_err, ok_same, step}
use Rattle.cm_dump.specs.Dumps.{HasDump, dump_by, header, kind_bytes, packed_image, ranks_image}
use Rattle.cm_spec.specs.Image.{packed_byte, packed_len}
use Rattle.cm_spec.specs.Lists.{list_of}
use Rattle.cm_dump.specs.declared.front.Algorithm.{Algorithm}
use Rattle.cm_dump.specs.declared.front.Algorithm.TheVariants as algorithm
use Rattle.cm_dump.specs.declared.front.Header.{Header}
use Rattle.cm_dump.specs.declared.versions.Version.{Version}
use Rattle.cm_dump.specs.declared.versions.Version.TheVariants as version
use Rattle.cm_func.specs.declared.function.Func.{Func}
use Rattle.cm_func.specs.Functions.{IsFunction}
use Rattle.cm_dump.specs.Headings.{IsParameter, magic_at, algorithm_of, algorithm_at, least_b, most_b, parameter_at, header_at, heading_at}
use Rattle.cm_dump.specs.Spelling.{ranks_at}
use Rattle.cm_dump.proofs.DumpLemmas.{header_parts}
use Rattle.cm_dump_items.specs.BackLaws.{Small, Stands, field_read, stands, zero_read}
use Rattle.cm_dump_items.specs.WidthLaws.{of_four, of_one, of_two}
use Rattle.cm_dump.specs.Forms.{Form, form_of, version_1, version_2}

pub one_of : (xs : List ℕ) (b : ℕ) → length xs ≡ 1 → slice_index xs 0 ≡ b → xs ≡ b ∷ []
one_of [] b long is = absurd (omega (arith, long))
one_of (x ∷ []) b long is = ap (λ (y : ℕ). y ∷ []) is
one_of (x ∷ y ∷ ys) b long is = absurd (omega (arith, long))

pub magic_read : (v : Form) (bytes : List ℕ) (x : Unit {0}) → magic_at v bytes ≡ Ok x → Stands bytes 0 8 v.magic
unfolding magic_at
magic_read v bytes x is =
    let s = step (item_at bytes 0 8) _ x is in
    let same : s.value ≡ v.magic = (bytes_decides s.value v.magic).0 (if_ok _ _ _ _ s.next).0 in
    subst (λ (xs : List ℕ). Stands bytes 0 8 xs) same (stands bytes 0 8 s.value s.was)

-- the number of an algorithm
abbrev pub number_of : Algorithm → ℕ
number_of algorithm.Chm = 1
number_of algorithm.Bdz = 2
number_of algorithm.BdzPh = 3
number_of algorithm.Brz = 4

pub which_read : (n : ℕ) (a : Algorithm) → algorithm_of n ≡ Ok a → n ≡ number_of a
which_read n a is = go (cases_eq n 1) (cases_eq n 2) (cases_eq n 3) (cases_eq n 4) where
  go : (n ≡ 1) ⊎ (n ≡ 1 → ⊥) → (n ≡ 2) ⊎ (n ≡ 2 → ⊥) → (n ≡ 3) ⊎ (n ≡ 3 → ⊥) → (n ≡ 4) ⊎ (n ≡ 4 → ⊥) → n ≡ number_of a
  go (inl one) u v w = let e : algorithm_of 1 ≡ Ok a = rw one at is in one ∙ ap number_of (ok_same e)
  go (inr u) (inl two) v w = let e : algorithm_of 2 ≡ Ok a = rw two at is in two ∙ ap number_of (ok_same e)
  go (inr u) (inr v) (inl three) w = let e : algorithm_of 3 ≡ Ok a = rw three at is in three ∙ ap number_of (ok_same e)
  go (inr u) (inr v) (inr w) (inl four) = let e : algorithm_of 4 ≡ Ok a = rw four at is in four ∙ ap number_of (ok_same e)
  go (inr one) (inr two) (inr three) (inr four) = absurd (ok_err a faults.BadAlgorithm (sym is ∙ rw (ne_eqb n 1 one, ne_eqb n 2 two, ne_eqb n 3 three, ne_eqb n 4 four) refl))

pub algorithm_read : (bytes : List ℕ) (a : Algorithm) → algorithm_at bytes ≡ Ok a → Stands bytes 8 1 (number_of a ∷ [])
unfolding algorithm_at
algorithm_read bytes a is =
    let s = step (item_at bytes 8 1) _ a is in
    let there = stands bytes 8 1 s.value s.was in
    subst (λ (xs : List ℕ). Stands bytes 8 1 xs) (one_of s.value (number_of a) there.long (which_read (slice_index s.value 0) a s.next)) there

-- ---- the header

pub record ReadsHeader (v : Form) (bytes : List ℕ) (h : Header) : Type 0 where
  pub parameter : IsParameter v h.algorithm h.b
  pub keys : (1 ≤ h.keys) × (h.keys ≤ v.most_keys)
  pub ratio : (1000000 ≤ h.ratio) × (h.ratio ≤ 10000000)
  pub seed : h.seed < 2 ^ 32
  pub front : bytes ≡ header v (number_of h.algorithm) h.b h.keys h.ratio h.seed ++ drop 24 bytes

-- the parameter between zeros, and the algorithm's number before them
pub record ReadsParameter (v : Form) (bytes : List ℕ) (a : Algorithm) (b : ℕ) : Type 0 where
  pub range : IsParameter v a b
  pub cut : (number : ℕ) → number ∷ drop 9 bytes ≡ kind_bytes v number b ++ drop 12 bytes

pub parameter_read : (w : Version) (bytes : List ℕ) (a : Algorithm) (b : ℕ) → Small bytes → parameter_at (form_of w) bytes a ≡ Ok b → ReadsParameter (form_of w) bytes a b
unfolding parameter_at zeros_at
parameter_read version.One bytes a b small is =
    let s = step (field_at w8 bytes 9 (least_b version_1 a) (most_b version_1 a)) _ b is in
    let after = step (zeros_at bytes 10 2) _ b s.next in
    let first = step (field_at w8 bytes 10 0 0) _ after.value after.was in
    let second = step (field_at w8 bytes 11 0 0) _ after.value first.next in
    let read = field_read w8 of_one bytes 9 (least_b version_1 a) (most_b version_1 a) s.value small s.was in
    let zeros : drop 10 bytes ≡ 0 ∷ 0 ∷ drop 12 bytes = (zero_read bytes 10 first.value small first.was).cut ∙ ap (λ (l : List ℕ). 0 ∷ l) (zero_read bytes 11 second.value small second.was).cut in
    let made : ReadsParameter version_1 bytes a s.value = record {
      range = (read.above, read.below);
      cut = λ number. ap (λ (l : List ℕ). number ∷ l) (read.there.cut ∙ ap (λ (l : List ℕ). to_le_bytes w8 s.value ++ l) zeros);
    } in
    subst (λ (x : ℕ). ReadsParameter version_1 bytes a x) (ok_same after.next) made
parameter_read version.Two bytes a b small is =
    let before = step (zeros_at bytes 9 1) _ b is in
    let first = step (field_at w8 bytes 9 0 0) _ before.value before.was in
    let s = step (field_at w16 bytes 10 (least_b version_2 a) (most_b version_2 a)) _ b before.next in
    let read = field_read w16 of_two bytes 10 (least_b version_2 a) (most_b version_2 a) s.value small s.was in
    let made : ReadsParameter version_2 bytes a s.value = record {
      range = (read.above, read.below);
      cut = λ number. ap (λ (l : List ℕ). number ∷ l) ((zero_read bytes 9 first.value small first.was).cut ∙ ap (λ (l : List ℕ). 0 ∷ l) read.there.cut);
    } in
    subst (λ (x : ℕ). ReadsParameter version_2 bytes a x) (ok_same s.next) made

-- the items of a header, one after another
pub front_is : (v : Form) (bytes : List ℕ) (a : Algorithm) (b keys ratio seed : ℕ) → Stands bytes 0 8 v.magic → Stands bytes 8 1 (number_of a ∷ []) → ReadsParameter v bytes a b → Stands bytes 12 4 (to_le_bytes w32 keys) → Stands bytes 16 4 (to_le_bytes w32 ratio) → Stands bytes 20 4 (to_le_bytes w32 seed)
    → bytes ≡ header v (number_of a) b keys ratio seed ++ drop 24 bytes
front_is v bytes a b keys ratio seed begun which parameter k r s =
    let kind : List ℕ = kind_bytes v (number_of a) b in
    let last : drop 16 bytes ≡ to_le_bytes w32 ratio ++ (to_le_bytes w32 seed ++ drop 24 bytes) = r.cut ∙ ap (λ (l : List ℕ). to_le_bytes w32 ratio ++ l) s.cut in
    let numbers : drop 12 bytes ≡ to_le_bytes w32 keys ++ (to_le_bytes w32 ratio ++ (to_le_bytes w32 seed ++ drop 24 bytes)) = k.cut ∙ ap (λ (l : List ℕ). to_le_bytes w32 keys ++ l) last in
    let after : drop 8 bytes ≡ kind ++ (to_le_bytes w32 keys ++ (to_le_bytes w32 ratio ++ (to_le_bytes w32 seed ++ drop 24 bytes))) = which.cut ∙ parameter.cut (number_of a) ∙ ap (λ (l : List ℕ). kind ++ l) numbers in
    let all : bytes ≡ v.magic ++ (kind ++ (to_le_bytes w32 keys ++ (to_le_bytes w32 ratio ++ (to_le_bytes w32 seed ++ drop 24 bytes)))) = begun.cut ∙ ap (λ (l : List ℕ). v.magic ++ l) after in
    all ∙ sym (append_assoc v.magic kind (to_le_bytes w32 keys ++ (to_le_bytes w32 ratio ++ (to_le_bytes w32 seed ++ drop 24 bytes)))) ∙ sym (header_parts v (number_of a) b keys ratio seed (drop 24 bytes))

pub heading_read : (w : Version) (bytes : List ℕ) (h : Header) → Small bytes → heading_at (form_of w) bytes ≡ Ok h → ReadsHeader (form_of w) bytes h
unfolding heading_at header_at
heading_read w bytes h small is =
    let v = form_of w in
    let m = step (magic_at v bytes) _ h is in
    let n = step (algorithm_at bytes) _ h m.next in
    let p = step (parameter_at v bytes n.value) _ h n.next in
    let a = step (field_at w32 bytes 12 1 v.most_keys) _ h p.next in
    let b = step (field_at w32 bytes 16 1000000 10000000) _ h a.next in
    let c = step (field_at w32 bytes 20 0 4294967295) _ h b.next in
    let parameter = parameter_read w bytes n.value p.value small p.was in
    let keys = field_read w32 of_four bytes 12 1 v.most_keys a.value small a.was in
    let ratio = field_read w32 of_four bytes 16 1000000 10000000 b.value small b.was in
    let seed = field_read w32 of_four bytes 20 0 4294967295 c.value small c.was in
    let made : ReadsHeader v bytes (record { algorithm = n.value; b = p.value; keys = a.value; ratio = b.value; seed = c.value }) = record {
      parameter = parameter.range;
      keys = (keys.above, keys.below);
      ratio = (ratio.above, ratio.below);
      seed = omega (arith, seed.below);
      front = front_is v bytes n.value p.value a.value b.value c.value (magic_read v bytes m.value m.was) (algorithm_read bytes n.value n.was) parameter keys.there ratio.there seed.there;
    } in
    subst (λ (x : Header). ReadsHeader v bytes x) (ok_same c.next) made

-- the same of cells that are digits
pub record IsPackedImage (d p n : ℕ) (bytes cells : List ℕ) : Type 0 where
  pub long : length cells ≡ n
  pub below : AllBelow d cells
  pub image : packed_image d p cells ≡ bytes

pub packed_read : (d p n : ℕ) (bytes : List ℕ) → 0 < d → 0 < p → length bytes ≡ packed_len p n → packed_fault d p n bytes ≡ None → IsPackedImage d p n bytes (packed_cells d p n bytes)
unfolding packed_image
packed_read d p n bytes some many whole none =
    let long : length (packed_cells d p n bytes) ≡ n = length-packed_cells d p n bytes in
    record {
      long = long;
      below = AllBelow-packed_cells d p n bytes some;
      image = ap (λ (k : ℕ). list_of (packed_byte d p (packed_cells d p n bytes)) (packed_len p k)) long ∙ sym (image-list d p n bytes (IsPacked-sound d p n bytes some many whole none));
    }

-- ---- ranks

pub ranks_back : (bytes : List ℕ) (at : ℕ) (ranks : List ℕ) (x : Unit {0}) → ranks_at bytes at ranks ≡ Ok x → drop at bytes ≡ ranks_image ranks ++ drop (at + 4 * length ranks) bytes
unfolding ranks_at ranks_image
ranks_back bytes at [] x is = let z : at + 4 * 0 ≡ at = omega arith in rw z refl
ranks_back bytes at (r ∷ rs) x is =
    let s = step (item_at bytes at 4) _ x is in
    let there = stands bytes at 4 s.value s.was in
    let test = if_next (pointwise nat_eq s.value (to_le_bytes w32 r)) _ _ x s.next in
    let same : s.value ≡ to_le_bytes w32 r = (bytes_decides s.value (to_le_bytes w32 r)).0 test.0 in
    let next : at + 4 + 4 * length rs ≡ at + 4 * suc (length rs) = omega arith in
    let rest = rw next at (ranks_back bytes (at + 4) rs x test.1) in
    there.cut ∙ ap (λ (l : List ℕ). l ++ drop (at + 4) bytes) same ∙ ap (λ (l : List ℕ). to_le_bytes w32 r ++ l) rest
    ∙ sym (append_assoc (to_le_bytes w32 r) (flat_map (to_le_bytes w32) rs) (drop (at + 4 * suc (length rs)) bytes))

pub record ReadsFunction (v : Form) (bytes : List ℕ) (f : Func) : Type 0 where
  pub dump : dump_by v f ≡ bytes
  pub valid : IsFunction f
  pub within : HasDump v f
