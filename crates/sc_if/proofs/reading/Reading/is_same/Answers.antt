use Rattle.std.proofs.Common.{◌≡◌, ◌∙◌, sym}
use Rattle.sc_if.proofs.SameReadings.{state-one}
use Rattle.sc_if.specs.Frames.{state_of}
use Rattle.sc_if.proofs.reading.Reading.is_same.Goals as goal

pub returns-then-same_last : goal.returns-then-same_last
returns-then-same_last c =
    let a = c.args.self.now in
    let b = c.args.other.now in
    let last : a.last ≡ b.last = c.same_last.ensures.0 c.if-same_last.true in (
      λ h. let frames : a.frames.items ≡ b.frames.items = sym c.deref.ensures.value ∙ (c.same_frames.ensures.0 h ∙ c.deref-then-same_last.ensures.value) in λ j. state_of (frames j) (last j),
      λ e. c.same_frames.ensures.1 (c.deref.ensures.value ∙ ((state-one a.frames.items b.frames.items a.last b.last e).0 ∙ sym c.deref-then-same_last.ensures.value)),
    )
