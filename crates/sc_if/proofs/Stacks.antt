-- Stacks of frames.
use Rattle.std.proofs.Common.{◌≡◌, ℕ, List, [], ◌∷◌, ◌++◌, map, reverse, true, false, refl, sym, ap, ◌∙◌}
use Rattle.std.proofs.lemmas.List.{map-append, reverse-append}
use Rattle.c11_expressions.proofs.Reader.{binds, closed, held, settled}
use Rattle.c11_expressions.specs.Waiting.{Operand, Waiting}
use Rattle.sc_if.specs.declared.frame.Frame.{Frame}
use Rattle.sc_if.specs.Frames.{Pops, seen_frame, stack_of, top_binds}

pub stack-push : (xs : List Frame) (f : Frame) → stack_of (xs ++ f ∷ []) ≡ seen_frame f ∷ stack_of xs
stack-push xs f = ap reverse (map-append seen_frame xs (f ∷ [])) ∙ reverse-append (map seen_frame xs) (seen_frame f ∷ [])

pub settled-more : (p : ℕ) (f : Waiting) (fs : List Waiting) (x : Operand) → binds p f ≡ true → settled p (f ∷ fs) x ≡ settled p fs (closed f x)
settled-more p f fs x e = rw e refl

pub settled-less : (p : ℕ) (fs : List Waiting) (x : Operand) → top_binds p fs ≡ false → settled p fs x ≡ held fs x
settled-less p [] x e = refl
settled-less p (f ∷ fs) x e = rw e refl

pub pops : (p : ℕ) (old new : List Frame) (f : Frame) → old ≡ new ++ f ∷ [] → top_binds p (stack_of old) ≡ true → Pops p old new f
pops p old new f e b =
    let s = ap stack_of e ∙ stack-push new f in
    record { stack = s; binds = sym (ap (top_binds p) s) ∙ b }

pub settled-pops : (p : ℕ) (old new : List Frame) (f : Frame) (x : Operand) → Pops p old new f → settled p (stack_of new) (closed (seen_frame f) x) ≡ settled p (stack_of old) x
settled-pops p old new f x h = sym (ap (λ fs. settled p fs x) h.stack ∙ settled-more p (seen_frame f) (stack_of new) x h.binds)
