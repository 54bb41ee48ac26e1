-- Bytes that spell a function are its dump.
use Rattle.std.proofs.Common.{◌≡◌, ◌∙◌, ℕ, ◌+◌, ◌*◌, List, ◌++◌, length, drop, ap, sym, subst, arith, refl, Ok, lit<}
use Rattle.std.specs.Prelude.{count_by}
use Rattle.std.proofs.lemmas.Bool.{eqb-true}
use Rattle.cm_bdz.specs.Functions.{Bdz, BdzPh}
use Rattle.cm_bits.specs.Bound.{AllBelow}
use Rattle.cm_bits.specs.Fault.{bytes_number, field_cells}
use Rattle.cm_bits.specs.Held.{packed_cells}
use Rattle.cm_dump_images.specs.Images.{fields_at, packed_at}
use Rattle.cm_dump_items.specs.Reading.{end_at}
use Rattle.cm_dump_items.specs.StepLaws.{if_ok, ok_same, step}
use Rattle.cm_rank.specs.Ranks.{sampled}
use Rattle.cm_spec.specs.Bdz.{bdz_size}
use Rattle.cm_spec.specs.Cells.{is_busy}
use Rattle.cm_spec.specs.Chm.{Chm, chm_size}
use Rattle.cm_dump.specs.Dumps.{header, chm_dump, packed_image, ranks_image, bdz_dump, bdz_ph_dump, dump_by, HasDump, HasDump1}
use Rattle.cm_spec.specs.Image.{width_of, fields_len, packed_len}
use Rattle.cm_dump.specs.declared.front.Algorithm.{Algorithm}
use Rattle.cm_dump.specs.declared.front.Algorithm.TheVariants as algorithm
use Rattle.cm_dump.specs.declared.front.Header.{Header}
use Rattle.cm_func.specs.declared.function.Func.{Func}
use Rattle.cm_func.specs.declared.function.Func.TheVariants as func
use Rattle.cm_func.specs.Functions.{IsFunction}
use Rattle.cm_dump.specs.Headings.{heading_at}
use Rattle.cm_dump.specs.Spelling.{chm_at, counted, ranks_at, ranked_at, bdz_at, bdz_ph_at, brz_at, body_at, spelling_of, spelling_by}
use Rattle.cm_dump.proofs.ReadBackItems.{ReadsFunction, ReadsHeader, heading_read, packed_read, ranks_back}
use Rattle.cm_dump_images.specs.BackLaws.{fields_read, image_back}
use Rattle.cm_dump_items.specs.BackLaws.{Small, end_read, last_item, small_bytes, small_item}
use Rattle.cm_dump.specs.Forms.{Form, form_of, version_of}
use Rattle.cm_dump.specs.declared.versions.Version.{Version}
use Rattle.cm_dump.specs.declared.versions.Version.TheVariants as version
use Rattle.cm_dump.proofs.FormLemmas.{IsForm, form_facts}
use Rattle.cm_dump.proofs.ReadBackBuckets.{brz_read}

chm_read : (v : Form) → IsForm v → (bytes : List ℕ) (h : Header) (f : Chm) → Small bytes → ReadsHeader v bytes h → h.algorithm ≡ algorithm.Chm → chm_at bytes h ≡ Ok f → ReadsFunction v bytes (func.Chm f)
unfolding chm_at chm_dump
chm_read v known bytes h f small heading kind is =
    let n : ℕ = chm_size h.keys h.ratio in
    let len : ℕ = fields_len (width_of h.keys) n in
    let b = step (fields_at bytes 24 n h.keys) _ f is in
    let c = step (end_at bytes (24 + len)) _ f b.next in
    let read = image_back bytes 24 len _ _ b.value b.was in
    let cells = fields_read h.keys n b.value (small_item bytes 24 len b.value small read.there) read.there.long read.none in
    let rest : drop 24 bytes ≡ b.value = last_item bytes 24 (24 + len) b.value read.there.cut (end_read bytes _ c.value c.was) in
    let none : h.b ≡ 0 = omega (arith, (rw kind at heading.parameter).1) in
    let front : bytes ≡ header v 1 0 h.keys h.ratio h.seed ++ drop 24 bytes = rw (kind, none) at heading.front in
    let made : ReadsFunction v bytes (func.Chm (record { keys = h.keys; ratio = h.ratio; seed = h.seed; cells = field_cells (width_of h.keys) n (bytes_number b.value) })) = record {
      dump = sym (front ∙ ap (λ (l : List ℕ). header v 1 0 h.keys h.ratio h.seed ++ l) (rest ∙ sym cells.image));
      within = heading.keys.1;
      valid = record { keys = (heading.keys.0, omega (arith, heading.keys.1, known.keys)); ratio = heading.ratio; seed = heading.seed; size = cells.long; below = cells.below };
    } in
    subst (λ (x : Chm). ReadsFunction v bytes (func.Chm x)) (ok_same c.next) made

record Counts (h : Header) (cells : List ℕ) (f : Bdz) : Type 0 where
  pub busy : count_by (is_busy 3) cells ≡ h.keys
  pub is : (let g : Bdz = record { keys = h.keys; ratio = h.ratio; seed = h.seed; shift = h.b; cells = cells } in g) ≡ f

count_read : (h : Header) (cells : List ℕ) (f : Bdz) → counted h cells ≡ Ok f → Counts h cells f
unfolding counted
count_read h cells f is = let test = if_ok _ _ _ _ is in record { busy = eqb-true _ _ test.0; is = test.1 }

bdz_read : (v : Form) → IsForm v → (bytes : List ℕ) (h : Header) (f : Bdz) → Small bytes → ReadsHeader v bytes h → h.algorithm ≡ algorithm.Bdz → bdz_at bytes h ≡ Ok f → ReadsFunction v bytes (func.Bdz f)
unfolding bdz_at ranked_at bdz_dump
bdz_read v known bytes h f small heading kind is =
    let n : ℕ = bdz_size h.keys h.ratio in
    let b = step (packed_at bytes 24 4 4 n) _ f is in
    let read = image_back bytes 24 (packed_len 4 n) _ _ b.value b.was in
    let cells : List ℕ = packed_cells 4 4 n b.value in
    let image = packed_read 4 4 n b.value (lit< tt) (lit< tt) read.there.long read.none in
    let ranks : List ℕ = sampled 3 h.b cells in
    let at : ℕ = 24 + packed_len 4 (length cells) in
    let c = step (counted h cells) _ f b.next in
    let d = step (ranks_at bytes at (sampled 3 c.value.shift c.value.cells)) _ f c.next in
    let e = step (end_at bytes (at + 4 * length (sampled 3 c.value.shift c.value.cells))) _ f d.next in
    let count = count_read h cells c.value c.was in
    let ranked : ranks_at bytes at ranks ≡ Ok d.value = subst (λ (g : Bdz). ranks_at bytes at (sampled 3 g.shift g.cells) ≡ Ok d.value) (sym count.is) d.was in
    let ended : end_at bytes (at + 4 * length ranks) ≡ Ok e.value = subst (λ (g : Bdz). end_at bytes (at + 4 * length (sampled 3 g.shift g.cells)) ≡ Ok e.value) (sym count.is) e.was in
    let place : 24 + packed_len 4 n ≡ 24 + packed_len 4 (length cells) = ap (λ (k : ℕ). 24 + packed_len 4 k) (sym image.long) in
    let last : drop (24 + packed_len 4 (length cells)) bytes ≡ ranks_image ranks = last_item bytes at (at + 4 * length ranks) (ranks_image ranks) (ranks_back bytes at ranks d.value ranked) (end_read bytes _ e.value ended) in
    let rest : drop 24 bytes ≡ packed_image 4 4 cells ++ ranks_image ranks =
    read.there.cut ∙ ap (λ (l : List ℕ). l ++ drop (24 + packed_len 4 n) bytes) (sym image.image) ∙ ap (λ (l : List ℕ). packed_image 4 4 cells ++ l) (ap (λ (k : ℕ). drop k bytes) place ∙ last) in
    let front : bytes ≡ header v 2 h.b h.keys h.ratio h.seed ++ drop 24 bytes = rw kind at heading.front in
    let made : ReadsFunction v bytes (func.Bdz (record { keys = h.keys; ratio = h.ratio; seed = h.seed; shift = h.b; cells = cells })) = record {
      dump = sym (front ∙ ap (λ (l : List ℕ). header v 2 h.b h.keys h.ratio h.seed ++ l) rest);
      within = heading.keys.1;
      valid = record { keys = (heading.keys.0, omega (arith, heading.keys.1, known.keys)); ratio = heading.ratio; seed = heading.seed; shift = rw kind at heading.parameter; size = image.long; below = image.below; busy = count.busy };
    } in
    subst (λ (x : Bdz). ReadsFunction v bytes (func.Bdz x)) (count.is ∙ ok_same e.next) made

bdz_ph_read : (v : Form) → IsForm v → (bytes : List ℕ) (h : Header) (f : BdzPh) → Small bytes → ReadsHeader v bytes h → h.algorithm ≡ algorithm.BdzPh → bdz_ph_at bytes h ≡ Ok f → ReadsFunction v bytes (func.BdzPh f)
unfolding bdz_ph_at bdz_ph_dump
bdz_ph_read v known bytes h f small heading kind is =
    let n : ℕ = bdz_size h.keys h.ratio in
    let b = step (packed_at bytes 24 3 5 n) _ f is in
    let c = step (end_at bytes (24 + packed_len 5 n)) _ f b.next in
    let read = image_back bytes 24 (packed_len 5 n) _ _ b.value b.was in
    let image = packed_read 3 5 n b.value (lit< tt) (lit< tt) read.there.long read.none in
    let rest : drop 24 bytes ≡ b.value = last_item bytes 24 (24 + packed_len 5 n) b.value read.there.cut (end_read bytes _ c.value c.was) in
    let none : h.b ≡ 0 = omega (arith, (rw kind at heading.parameter).1) in
    let front : bytes ≡ header v 3 0 h.keys h.ratio h.seed ++ drop 24 bytes = rw (kind, none) at heading.front in
    let made : ReadsFunction v bytes (func.BdzPh (record { keys = h.keys; ratio = h.ratio; seed = h.seed; cells = packed_cells 3 5 n b.value })) = record {
      dump = sym (front ∙ ap (λ (l : List ℕ). header v 3 0 h.keys h.ratio h.seed ++ l) (rest ∙ sym image.image));
      within = heading.keys.1;
      valid = record { keys = (heading.keys.0, omega (arith, heading.keys.1, known.keys)); ratio = heading.ratio; seed = heading.seed; size = image.long; below = image.below };
    } in
    subst (λ (x : BdzPh). ReadsFunction v bytes (func.BdzPh x)) (ok_same c.next) made

body_read : (v : Form) → IsForm v → (bytes : List ℕ) (h : Header) (f : Func) (a : Algorithm) → Small bytes → ReadsHeader v bytes h → h.algorithm ≡ a → body_at v bytes h a ≡ Ok f → ReadsFunction v bytes f
body_read v known bytes h f algorithm.Chm small heading kind is =
    let s = step (chm_at bytes h) _ f is in
    subst (λ (x : Func). ReadsFunction v bytes x) (ok_same s.next) (chm_read v known bytes h s.value small heading kind s.was)
body_read v known bytes h f algorithm.Bdz small heading kind is =
    let s = step (bdz_at bytes h) _ f is in
    subst (λ (x : Func). ReadsFunction v bytes x) (ok_same s.next) (bdz_read v known bytes h s.value small heading kind s.was)
body_read v known bytes h f algorithm.BdzPh small heading kind is =
    let s = step (bdz_ph_at bytes h) _ f is in
    subst (λ (x : Func). ReadsFunction v bytes x) (ok_same s.next) (bdz_ph_read v known bytes h s.value small heading kind s.was)
body_read v known bytes h f algorithm.Brz small heading kind is =
    let s = step (brz_at v bytes h) _ f is in
    subst (λ (x : Func). ReadsFunction v bytes x) (ok_same s.next) (brz_read v known bytes h s.value small heading kind s.was)

-- bytes that spell a function are its dump in the version that they name
spelled : (w : Version) (bytes : List ℕ) (f : Func) → AllBelow 256 bytes → spelling_by (form_of w) bytes ≡ Ok f → ReadsFunction (form_of w) bytes f
unfolding spelling_by
spelled w bytes f below is =
    let small = small_bytes bytes below in
    let a = step (heading_at (form_of w) bytes) _ f is in
    body_read (form_of w) (form_facts w) bytes a.value f a.value.algorithm small (heading_read w bytes a.value small a.was) refl a.next

pub dump_by-spelled : (bytes : List ℕ) (f : Func) → AllBelow 256 bytes → spelling_of bytes ≡ Ok f → (dump_by (form_of (version_of bytes)) f ≡ bytes) × IsFunction f
dump_by-spelled bytes f below is = let r = spelled (version_of bytes) bytes f below is in (r.dump, r.valid)

pub has_dump_1 : (bytes : List ℕ) (f : Func) → AllBelow 256 bytes → spelling_of bytes ≡ Ok f → version_of bytes ≡ version.One → HasDump1 f
has_dump_1 bytes f below is one = subst (λ (w : Version). HasDump (form_of w) f) one (spelled (version_of bytes) bytes f below is).within
