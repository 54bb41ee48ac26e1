use Rattle.std.proofs.Common.{◌∙◌}
use Rattle.cm_store.specs.Stores.{Store}
use Rattle.cm_store_file.proofs.StepLemmas.{ReadsParts, cause_later, store_known, store_longer}
use Rattle.cm_store_file.proofs.reader.read_store.Goals as goal

pub returns-in-Err-clause-cause : goal.returns-in-Err-clause-cause
returns-in-Err-clause-cause g c = cause_later Store Store _ _ _ c.in-Err.fault c.in_ok-places.ensures.cause c.in_ok-bytes.ensures.cause (c.in-Err.ensures.cause _)

pub returns-in-Ok-last-clause-exact : goal.returns-in-Ok-last-clause-exact
returns-in-Ok-last-clause-exact g c = λ x is.
    let keys = c.keys-keys.ensures.keys in
    let s = c.in-Ok.store in
    let later = c.in_ok-places.ensures.told ∙ is in
    let parts : ReadsParts x c.args.header c.args.index s = record {
      places = c.in_ok-places.places.items.items;
      records = c.in_ok-bytes.bytes.items;
      are_places = rw keys at (c.in_ok-places.ensures.exact x is);
      are_records = rw keys at (c.in_ok-bytes.ensures.exact x later);
      sound = c.in-Ok.ensures.exact;
    } in
    store_known x c.args.header c.args.index s parts (rw keys at (c.in-Ok-last.ensures.exact x (c.in_ok-bytes.ensures.told ∙ later)))

pub returns-in-Err-last-clause-exact : goal.returns-in-Err-last-clause-exact
returns-in-Err-last-clause-exact g c = λ x is.
    let keys = c.keys-keys.ensures.keys in
    let s = c.in-Ok.store in
    let later = c.in_ok-places.ensures.told ∙ is in
    let parts : ReadsParts x c.args.header c.args.index s = record {
      places = c.in_ok-places.places.items.items;
      records = c.in_ok-bytes.bytes.items;
      are_places = rw keys at (c.in_ok-places.ensures.exact x is);
      are_records = rw keys at (c.in_ok-bytes.ensures.exact x later);
      sound = c.in-Ok.ensures.exact;
    } in
    store_longer x c.args.header c.args.index s c.in-Err-last.fault parts (rw keys at (c.in-Err-last.ensures.exact x (c.in_ok-bytes.ensures.told ∙ later)))
