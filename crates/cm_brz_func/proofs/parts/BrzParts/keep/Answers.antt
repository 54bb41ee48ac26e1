use Rattle.std.proofs.Common.{◌≡◌, ◌∙◌, ℕ, List, [], ◌∷◌, ◌++◌, ◌+◌, ◌*◌, ◌<◌, ◌≤◌, length, ap, sym, subst, refl, arith}
use Rattle.std.proofs.lemmas.List.{length-map}
use Rattle.cm_bits.specs.Held.{packed_cells}
use Rattle.cm_bits.specs.PackedLaws.{AllBelow-packed_cells}
use Rattle.cm_spec.specs.Image.{packed_len}
use Rattle.cm_brz_func.specs.Functions.{Brz, Bucket, bucket_cells, bucket_count}
use Rattle.cm_brz_func.specs.Kept.{all_held, bucket_in, buckets_of, held_of}
use Rattle.cm_brz_func.specs.Pushing.{Counts, with_bucket}
use Rattle.cm_brz_func.specs.declared.held.Held.{Held}
use Rattle.cm_brz_func.specs.declared.held.Kept.{Kept}
use Rattle.cm_brz_func.proofs.HeldLemmas.{all_held_then}
use Rattle.cm_brz_func.proofs.KeptLemmas.{IsNextOf, first_of, is_bucket, kept_then, then_one}
use Rattle.cm_brz_func.proofs.SizeLemmas.{by_thirds, few_cells, room_for}
use Rattle.cm_brz_func.proofs.TableLemmas.{IsNext, buckets_then, with_cells}
use Rattle.cm_brz_func.proofs.parts.BrzParts.keep.Goals as goal

pub append-requires : goal.append-requires
append-requires c =
    let p = c.self.inside in
    let table = packed_cells 4 4 p.cells.n p.cells.bytes.items in
    let cells = packed_cells 4 4 c.args.cells.now.n c.args.cells.now.bytes.items in
    let hs : List Held = all_held p.c p.held p.kept.items in
    let f = first_of p.m p.c p.b p.split table hs in
    let are = c.self.invariant in
    let long : length cells ≡ bucket_cells c.args.size p.c = subst (λ (f : Brz). length cells ≡ bucket_cells c.args.size f.ratio) (sym c.self.view_is) c.requires.cells in
    let bucket : Bucket = record { size = c.args.size; seed = c.args.seed; cells = cells } in
    let counted : Counts f bucket = subst (λ (f : Brz). Counts f bucket) (sym c.self.view_is) c.requires.counts in
    let next : length f.buckets < bucket_count f.keys f.width = subst (λ (f : Brz). length f.buckets < bucket_count f.keys f.width) (sym c.self.view_is) c.requires.room in
    let room : length hs < bucket_count p.m p.b = omega (arith, next, length-map hs (bucket_in table)) in
    let within : p.held + c.args.size ≤ p.m = omega (arith, counted.within, are.held) in
    record { room = room_for p.m p.b p.held c.args.size (length hs) (length table) (length cells) are.keys.1 are.width.0 room within are.short (few_cells c.args.size p.c cells are.ratio long) }

pub invariant_of-self-3 : goal.invariant_of-self-3
invariant_of-self-3 c =
    let p = c.self.inside in
    let table = packed_cells 4 4 p.cells.n p.cells.bytes.items in
    let cells = packed_cells 4 4 c.args.cells.now.n c.args.cells.now.bytes.items in
    let k : Kept = record { start = 4 * c.div_ceil.result; offset = p.held; seed = c.args.seed } in
    let h : Held = held_of p.c k c.args.size in
    let hs : List Held = all_held p.c p.held p.kept.items in
    let f = first_of p.m p.c p.b p.split table hs in
    let long : length cells ≡ bucket_cells c.args.size p.c = subst (λ (f : Brz). length cells ≡ bucket_cells c.args.size f.ratio) (sym c.self.view_is) c.requires.cells in
    let thirds : 3 * h.third ≡ length cells = by_thirds c.args.size p.c ∙ sym long in
    let start : 4 * c.div_ceil.result ≡ 4 * packed_len 4 (length table) = ap (λ (n : ℕ). 4 * n) (c.div_ceil.ensures ∙ ap (packed_len 4) c.len.ensures) in
    let next : IsNext table cells h = record { start = start; many = thirds } in
    let appended : packed_cells 4 4 c.append.new.self.n c.append.new.self.bytes.items ≡ with_cells table cells = c.in_ok-append.ensures.appended in
    let items : all_held p.c (p.held + c.args.size) c.push.new.self.items ≡ then_one hs h = ap (all_held p.c (p.held + c.args.size)) (c.in-Ok.ensures.items ∙ ap (λ (l : List Kept). l ++ k ∷ []) c.in_ok-make_room.ensures.kept) ∙ all_held_then p.c p.held c.args.size p.kept.items k refl in
    let bucket : Bucket = record { size = c.args.size; seed = c.args.seed; cells = cells } in
    let counted : Counts f bucket = subst (λ (f : Brz). Counts f bucket) (sym c.self.view_is) c.requires.counts in
    let room : length f.buckets < bucket_count f.keys f.width = subst (λ (f : Brz). length f.buckets < bucket_count f.keys f.width) (sym c.self.view_is) c.requires.room in
    let many : length f.buckets ≡ length hs = length-map hs (bucket_in table) in
    let of : IsNextOf p.m p.c p.count p.held hs h cells = record {
      offset = refl;
      one = is_bucket f c.args.size c.args.seed cells counted c.requires.small c.ranges.seed.fits c.requires.seed long (AllBelow-packed_cells 4 4 c.args.cells.now.n c.args.cells.now.bytes.items (omega arith));
      room = omega (arith, room, many, c.self.invariant.count);
      within = omega (arith, counted.within, c.self.invariant.held);
      all = λ last. omega (arith, counted.all (omega (arith, last, many, c.self.invariant.count)), c.self.invariant.held);
    } in
    rw (appended, items) (kept_then p.m p.c p.b p.split p.count p.held table cells hs h c.self.invariant next of)

pub returns-clause-kept : goal.returns-clause-kept
returns-clause-kept c =
    let p = c.self.inside in
    let table = packed_cells 4 4 p.cells.n p.cells.bytes.items in
    let cells = packed_cells 4 4 c.args.cells.now.n c.args.cells.now.bytes.items in
    let k : Kept = record { start = 4 * c.div_ceil.result; offset = p.held; seed = c.args.seed } in
    let h : Held = held_of p.c k c.args.size in
    let hs : List Held = all_held p.c p.held p.kept.items in
    let f = first_of p.m p.c p.b p.split table hs in
    let long : length cells ≡ bucket_cells c.args.size p.c = subst (λ (f : Brz). length cells ≡ bucket_cells c.args.size f.ratio) (sym c.self.view_is) c.requires.cells in
    let thirds : 3 * h.third ≡ length cells = by_thirds c.args.size p.c ∙ sym long in
    let start : 4 * c.div_ceil.result ≡ 4 * packed_len 4 (length table) = ap (λ (n : ℕ). 4 * n) (c.div_ceil.ensures ∙ ap (packed_len 4) c.len.ensures) in
    let next : IsNext table cells h = record { start = start; many = thirds } in
    let appended : packed_cells 4 4 c.append.new.self.n c.append.new.self.bytes.items ≡ with_cells table cells = c.in_ok-append.ensures.appended in
    let items : all_held p.c (p.held + c.args.size) c.push.new.self.items ≡ then_one hs h = ap (all_held p.c (p.held + c.args.size)) (c.in-Ok.ensures.items ∙ ap (λ (l : List Kept). l ++ k ∷ []) c.in_ok-make_room.ensures.kept) ∙ all_held_then p.c p.held c.args.size p.kept.items k refl in
    let bucket : Bucket = record { size = c.args.size; seed = c.args.seed; cells = cells } in
    let grown : buckets_of (packed_cells 4 4 c.append.new.self.n c.append.new.self.bytes.items) (all_held p.c (p.held + c.args.size) c.push.new.self.items) ≡ buckets_of table hs ++ bucket ∷ [] = rw (appended, items) (buckets_then table cells hs h c.self.invariant.lie next) in
    ap (λ (bs : List Bucket). record { keys = p.m; ratio = p.c; width = p.b; split = p.split; buckets = bs }) grown
    ∙ ap (λ (f : Brz). with_bucket f bucket) c.self.view_is
