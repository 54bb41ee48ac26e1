use Rattle.std.proofs.Common.{◌≡◌, ◌≤◌, [], length, true}
use Rattle.std.specs.Option.{option_map}
use Rattle.cm_io.specs.declared.key_pass.TheConstants.{MAX_KEY_LEN}
use Rattle.cm_keys.specs.Lines.{pieces}
use Rattle.cm_keys.specs.Buffering.{ready_in, left_bytes, with_front}
use Rattle.cm_keys.proofs.buffered.Buffered.read_line.Given as goal

abbrev pub invariant-loop : goal.invariant-loop
invariant-loop g l =
    let told = g.S.Source.told in
    let place = g.S.Source.place in
    let old = l.fn.self in
    let new = l.self in
    record {
      same : told new.source ≡ told old.source;
      quiet : g.S.Source.faults new.source ≡ g.S.Source.faults old.source;
      grows : l.counter ≤ length l.key.items;
      few : length l.key.items ≤ MAX_KEY_LEN;
      fresh : old.ended ≡ true → (new.ended ≡ true) × (l.key.items ≡ []);
      left : option_map (pieces l.end) (left_bytes (told old.source) (place old.source) (ready_in old.buf old.start old.until))
          ≡ option_map (λ rest. with_front l.key.items (pieces l.end rest)) (left_bytes (told new.source) (place new.source) (ready_in new.buf new.start new.until));
    }
