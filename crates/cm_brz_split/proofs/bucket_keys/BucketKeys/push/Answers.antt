use Rattle.std.proofs.Common.{◌≡◌, ◌∙◌, ◌∷◌, [], ◌++◌, ◌<◌, ℕ, List, length, map, ap, subst, sym, arith}
use Rattle.std.proofs.lemmas.List.{length-map}
use Rattle.cm_brz_split.proofs.PassLemmas.{keyed_more, pass_more}
use Rattle.cm_brz_split.proofs.WordsLemmas.{hashed_before}
use Rattle.cm_brz_split.specs.BucketPass.{BucketPass, keyed_in, last_line}
use Rattle.cm_brz_split.specs.declared.bucket_keys.TheConstants.{MOST}
use Rattle.cm_brz_split.proofs.bucket_keys.BucketKeys.push.Goals as goal

pub invariant_of-self-2 : goal.invariant_of-self-2
invariant_of-self-2 c =
    let self = c.self.inside in
    let from : c.len-from.result ≡ length self.bytes.items = omega (arith, c.len-from.ensures, self.bytes.ok.0) in
    let until : c.len.result ≡ length c.extend_from_slice.new.self.items = omega (arith, c.len.ensures, c.extend_from_slice.new.self.ok.0) in
    let keys = ap (λ (b : BucketPass). b.keys) c.self.view_is in
    let few : length self.spots.items < MOST = omega (arith, c.requires.few, ap length keys, length-map self.spots.items (keyed_in self.bytes.items)) in
    let later : last_line (map (keyed_in self.bytes.items) self.spots.items) < c.args.line = subst (λ (l : List (ℕ × List ℕ)). last_line l < c.args.line) (sym keys) c.requires.rises in (
      pass_more MOST self.bytes.items c.args.key.now _ self.spots.items _ _ self.given c.self.invariant.0 c.in_ok-extend_from_slice.ensures.items c.push.ensures.items from until few c.requires.short later,
      hashed_before self.seeds (c.args.line, c.args.key.now) (map (keyed_in self.bytes.items) self.spots.items) _ self.words.items c.self.invariant.1
          (keyed_more self.bytes.items c.args.key.now _ self.spots.items _ _ c.self.invariant.0.stand c.in_ok-extend_from_slice.ensures.items c.push.ensures.items from until),
    )

pub returns-clause-state : goal.returns-clause-state
returns-clause-state c =
    let self = c.self.inside in
    let from : c.len-from.result ≡ length self.bytes.items = omega (arith, c.len-from.ensures, self.bytes.ok.0) in
    let until : c.len.result ≡ length c.extend_from_slice.new.self.items = omega (arith, c.len.ensures, c.extend_from_slice.new.self.ok.0) in
    let keys = keyed_more self.bytes.items c.args.key.now _ self.spots.items _ _ c.self.invariant.0.stand c.in_ok-extend_from_slice.ensures.items c.push.ensures.items from until in
    ap (λ (ks : List (ℕ × List ℕ)). let b : BucketPass = record { keys = ks; given = self.given; seeds = self.seeds; hashed = length self.words.items } in b) keys
    ∙ ap (λ (b : BucketPass). let more : BucketPass = record b { keys = b.keys ++ (c.args.line, c.args.key.now) ∷ [] } in more) c.self.view_is
