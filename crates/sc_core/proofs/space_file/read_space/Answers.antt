use Rattle.std.proofs.Common.{◌≡◌, ◌∙◌, Global, Option, None, Some, Vec, List, ap, refl, sym, ℕ}
use Rattle.std.specs.Option.{option_map}
use Rattle.sc_core.proofs.Failing.{absent-space, reads-space, refusal-fails}
use Rattle.sc_core.proofs.space_file.read_space.Goals as goal
use Rattle.sc_space.specs.Seen.{seen_space}

abbrev bytes_of : Option (Vec ℕ Global) → Option (List ℕ)
bytes_of text = option_map (λ (bytes : Vec ℕ Global). bytes.items) text

no-bytes : (text : Option (Vec ℕ Global)) → ((bytes : Vec ℕ Global) → text ≡ Some bytes → ⊥) → bytes_of text ≡ None
no-bytes None none = refl
no-bytes (Some bytes) none = absurd (none bytes refl)

some-bytes : (text : Option (Vec ℕ Global)) (bytes : Vec ℕ Global) (now : List ℕ) → text ≡ Some bytes → now ≡ bytes.items → bytes_of text ≡ Some now
some-bytes text bytes now is value = ap bytes_of is ∙ ap (λ xs. Some xs) (sym value)

pub returns-in_default-clause-error : goal.returns-in_default-clause-error
returns-in_default-clause-error g c =
    let text = c.in_ok-bytes.field-0 in
    absent-space (g.S.Source.holds c.args.src.now) c.args.name.now (bytes_of text) c.in_ok-bytes.ensures.answer (no-bytes text c.in_default.not-Some)

pub returns-in-Ok-clause-space : goal.returns-in-Ok-clause-space
returns-in-Ok-clause-space g c =
    let text = c.in_ok-bytes.field-0 in
    reads-space (g.S.Source.holds c.args.src.now) c.args.name.now (bytes_of text) c.in_ok-bytes.ensures.answer c.deref.result.now (seen_space c.in-Ok.space)
    (some-bytes text c.in-Some.bytes c.deref.result.now c.in-Some.is c.deref.ensures.value) c.in-Ok.ensures.answer

pub returns-clause-error : goal.returns-clause-error
returns-clause-error g c =
    let text = c.in_ok-bytes.field-0 in
    refusal-fails (g.S.Source.holds c.args.src.now) c.args.name.now (bytes_of text) c.in_ok-bytes.ensures.answer (g.S.Source.faults c.args.src.now) (g.S.Source.faults c.read.new.self) c.deref.result.now
    (some-bytes text c.in-Some.bytes c.deref.result.now c.in-Some.is c.deref.ensures.value) c.in-Err.stop c.in-Err.ensures.answer c.in_ok-refusal-in-Err.field-0 c.in_ok-refusal-in-Err.ensures
