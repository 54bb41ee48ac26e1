use Rattle.std.proofs.Common.{◌≡◌, ◌∙◌, ◌+◌, ◌<◌, ◌≤◌, ◌++◌, ◌∷◌, [], List, ℕ, ap, length, rules, sym, subst}
use Rattle.std.specs.Int.{to_le_bytes, w16}
use Rattle.cm_spec.specs.declared.limits.TheConstants.{MAX_KEYS}
use Rattle.cm_store_records.proofs.PutLemmas.{holds_more, put_parts}
use Rattle.cm_store_records.proofs.records.Records.push.Goals as goal
use Rattle.cm_store_records.specs.RecordPass.{line_before}
use Rattle.cm_store_records.specs.Reads.{RecordBytes}
use Rattle.cm_store_records.specs.Records.{Record, record_bytes, record_size}
use Rattle.cm_store_records.specs.declared.limits.TheConstants.{MAX_RECORD_BYTES}

pub invariant_of-self-2 : goal.invariant_of-self-2
invariant_of-self-2 c =
    let s = c.self.inside in
    let shown = sym c.self.view_is in
    let r : Record = record { key = c.args.parts.key.now; value = c.args.parts.value.now } in
    let bytes = put_parts s.bytes.items _ _ r.key r.value _ _ _ _ _ c.reserve.ensures.items c.append.ensures.bytes c.append-2.ensures.bytes c.append-3.ensures.bytes c.append-4.ensures.bytes in
    let all : c.append-4.new.bytes.items ≡ s.bytes.items ++ record_bytes r =
    bytes
    ∙ ap (λ (l : List ℕ). s.bytes.items ++ (l ++ (c.to_le_bytes-2.result ++ (r.key ++ r.value)))) c.to_le_bytes.ensures
    ∙ ap (λ (l : List ℕ). s.bytes.items ++ (to_le_bytes w16 (length r.key) ++ (l ++ (r.key ++ r.value)))) c.to_le_bytes-2.ensures in
    let few = subst (λ (v : RecordBytes). length v.lines < MAX_KEYS) shown c.requires.few in
    let rises = subst (λ (v : RecordBytes). line_before v.lines (length v.lines) < c.args.line) shown c.requires.rises in
    let fits = subst (λ (v : RecordBytes). length v.bytes + record_size r ≤ MAX_RECORD_BYTES) shown c.requires.fits in
    let lines : c.push.new.self.items ≡ s.lines.items ++ c.args.line ∷ [] = search rules in
    rw lines (holds_more s.lines.items s.bytes.items c.args.line r c.append-4.new.bytes.items c.self.invariant few rises c.requires.short fits all)
