use Rattle.std.proofs.Common.{◌≡◌, ◌∙◌, ◌+◌, ◌*◌, ◌<◌, ◌≤◌, ◌++◌, ℕ, List, length, arith, ap, sym}
use Rattle.std.specs.Int.{div_ceil}
use Rattle.cm_bits.specs.Appending.{filled_up}
use Rattle.cm_bits.specs.Held.{IsPacked, packed_cells}
use Rattle.cm_bits.specs.PackedLaws.{length-packed_cells}
use Rattle.cm_bits.specs.declared.TheConstants.{MAX_CELLS}
use Rattle.cm_spec.specs.Image.{packed_len}
use Rattle.cm_bits.proofs.AppendLemmas.{appended}
use Rattle.cm_bits.proofs.packed.Packed.append.Goals as goal

-- as many cells as a table may have
room : (d p n m k l : ℕ) (bs cs : List ℕ) → k ≡ p → l ≡ packed_len p n → p * packed_len p (length (packed_cells d p n bs)) + length (packed_cells d p m cs) ≤ MAX_CELLS → k * l + m ≤ MAX_CELLS
room d p n m k l bs cs is long h =
    let whole : p * packed_len p (length (packed_cells d p n bs)) ≡ k * l = ap (λ x. p * packed_len p x) (length-packed_cells d p n bs) ∙ rw (is, long) (let e : p * packed_len p n ≡ p * packed_len p n = omega arith in e) in
    omega (arith, whole, h, length-packed_cells d p m cs)

-- the table with those cells
record Grown (d p n m k l : ℕ) (bs cs new : List ℕ) : Type 0 where
  cells : packed_cells d p (k * l + m) new ≡ filled_up p (packed_cells d p n bs) ++ packed_cells d p m cs
  packed : IsPacked d p (k * l + m) new

grown : (d p n m k l : ℕ) (bs cs before new : List ℕ) → 2 ≤ d → 0 < p → k ≡ p → l ≡ packed_len p n → before ≡ bs → new ≡ before ++ cs → IsPacked d p n bs → IsPacked d p m cs → Grown d p n m k l bs cs new
grown d p n m k l bs cs before new h s is long same grows v w =
    let all = appended d p n m bs cs h s v w in
    rw (is, long ∙ sym v.len, grows, same) (record { cells = all.cells; packed = all.packed })

pub overflow_mul-n : goal.overflow_mul-n
overflow_mul-n g c =
    let s = c.args.self.now in
    let t = c.args.other.now in
    omega (arith, room g.B.Packing.BASE g.B.Packing.PER_BYTE s.n t.n c.PER_BYTE-per_byte.result c.div_ceil.result s.bytes.items t.bytes.items c.PER_BYTE-per_byte.ensures (c.div_ceil.ensures ∙ ap (div_ceil s.n) c.PER_BYTE-per_byte.ensures) c.requires.room)

pub overflow_add-n : goal.overflow_add-n
overflow_add-n g c =
    let s = c.args.self.now in
    let t = c.args.other.now in
    omega (arith, room g.B.Packing.BASE g.B.Packing.PER_BYTE s.n t.n c.PER_BYTE-per_byte.result c.div_ceil.result s.bytes.items t.bytes.items c.PER_BYTE-per_byte.ensures (c.div_ceil.ensures ∙ ap (div_ceil s.n) c.PER_BYTE-per_byte.ensures) c.requires.room)

pub invariant_of-self-2 : goal.invariant_of-self-2
invariant_of-self-2 g c =
    let s = c.args.self.now in
    let t = c.args.other.now in
    let grows : c.extend_from_slice.new.self.items ≡ c.make_room.new.bytes.items ++ t.bytes.items = c.in_ok-extend_from_slice.ensures.items ∙ ap (λ (x : List ℕ). c.make_room.new.bytes.items ++ x) c.deref.ensures.value in
    record {
      in_room = omega (arith, room g.B.Packing.BASE g.B.Packing.PER_BYTE s.n t.n c.PER_BYTE-per_byte.result c.div_ceil.result s.bytes.items t.bytes.items c.PER_BYTE-per_byte.ensures (c.div_ceil.ensures ∙ ap (div_ceil s.n) c.PER_BYTE-per_byte.ensures) c.requires.room);
      is_packed = (grown g.B.Packing.BASE g.B.Packing.PER_BYTE s.n t.n c.PER_BYTE-per_byte.result c.div_ceil.result s.bytes.items t.bytes.items c.make_room.new.bytes.items c.extend_from_slice.new.self.items g.met.B.Packing.is_base g.met.B.Packing.is_count c.PER_BYTE-per_byte.ensures (c.div_ceil.ensures ∙ ap (div_ceil s.n) c.PER_BYTE-per_byte.ensures) c.in_ok-make_room.ensures grows s.is_packed t.is_packed).packed;
    }

pub returns-clause-appended : goal.returns-clause-appended
returns-clause-appended g c =
    let s = c.args.self.now in
    let t = c.args.other.now in
    let grows : c.extend_from_slice.new.self.items ≡ c.make_room.new.bytes.items ++ t.bytes.items = c.in_ok-extend_from_slice.ensures.items ∙ ap (λ (x : List ℕ). c.make_room.new.bytes.items ++ x) c.deref.ensures.value in
    (grown g.B.Packing.BASE g.B.Packing.PER_BYTE s.n t.n c.PER_BYTE-per_byte.result c.div_ceil.result s.bytes.items t.bytes.items c.make_room.new.bytes.items c.extend_from_slice.new.self.items g.met.B.Packing.is_base g.met.B.Packing.is_count c.PER_BYTE-per_byte.ensures (c.div_ceil.ensures ∙ ap (div_ceil s.n) c.PER_BYTE-per_byte.ensures) c.in_ok-make_room.ensures grows s.is_packed t.is_packed).cells
