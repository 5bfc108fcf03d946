use Rattle.std.proofs.Common.{◌≡◌, ◌∙◌, false, sym}
use Rattle.std.specs.List.{list_any}
use Rattle.std.specs.String.{string_bytes}
use Rattle.sc_model.specs.Bytes.{same_bytes}
use Rattle.sc_space.specs.SpaceFile.{known_keys}
use Rattle.toml.specs.View.{table_view}
use Rattle.sc_space.proofs.Reading.{check_keys-refused}
use Rattle.sc_space.proofs.read.check_keys.Goals as goal

pub returns-then-not-is_known_key : goal.returns-then-not-is_known_key
returns-then-not-is_known_key c =
    let unknown : list_any (same_bytes (string_bytes c.in-Some.key.now)) known_keys ≡ false = rw (← c.as_str.ensures.value) (sym c.is_known_key.ensures ∙ c.if-not-is_known_key.true) in
    rw (c.in_ok-key.ensures.ok, c.as_str-then-not-is_known_key.ensures.value)
    (check_keys-refused (table_view c.args.document.now) _ _ _ (rw c.in-Some.ensures.steps at c.loop-key.invariant) unknown)
