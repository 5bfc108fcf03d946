use Rattle.std.proofs.Common.{◌≡◌, ◌∙◌, ◌+◌, ◌<◌, ℕ, Bool, true, false, List, [], ◌∷◌, ◌++◌, map, drop, get_or, length, append_assoc, add-one, refl, sym, ap, if◌then◌else◌}
use Rattle.std.proofs.Math.Seq.{drop-cons}
use Rattle.c11_macros.specs.Hidden as model
use Rattle.c11_macros.specs.Substitution.{quoted_spelling, spellings_after}
use Rattle.sc_base.specs.declared.place.Place.{Place}
use Rattle.sc_subst.specs.declared.hidden.Hidden.{Hidden}
use Rattle.sc_subst.specs.Seen.{seen_hidden}
use Rattle.sc_subst.proofs.Quoting.{blank}
use Rattle.sc_subst.proofs.literal.push_rest.Goals as goal

spaced : (space : Bool) (quoted rest : List ℕ) → (if space then 32 ∷ [] else []) ++ (quoted ++ rest) ≡ (if space then 32 ∷ quoted else quoted) ++ rest
spaced true quoted rest = refl
spaced false quoted rest = refl

next : (see : Hidden → model.Hidden Place) (rest : List Hidden) (i : ℕ) (h : Hidden) (bytes new : List ℕ) → i < length rest
    → new ≡ (bytes ++ (if (see (get_or rest i h)).space then 32 ∷ [] else [])) ++ quoted_spelling (see (get_or rest i h))
    → new ++ spellings_after (map see (drop (i + 1) rest)) ≡ bytes ++ spellings_after (map see (drop i rest))
next see rest i h bytes new within is =
    let t = see (get_or rest i h) in
    let left = spellings_after (map see (drop (i + 1) rest)) in
    ap (λ b. b ++ left) is
    ∙ (append_assoc (bytes ++ (if t.space then 32 ∷ [] else [])) (quoted_spelling t) left
    ∙ (append_assoc bytes (if t.space then 32 ∷ [] else []) (quoted_spelling t ++ left)
    ∙ (ap (λ b. bytes ++ b) (spaced t.space (quoted_spelling t) left)
    ∙ ap (λ ts. bytes ++ spellings_after (map see ts)) (ap (λ k. get_or rest i h ∷ drop k rest) (add-one i) ∙ sym (drop-cons rest i h within)))))

pub loop-hidden-preserved : goal.loop-hidden-preserved
loop-hidden-preserved c = λ sets.
    let see : Hidden → model.Hidden Place = seen_hidden c.args.names.now sets in
    let added = c.in_ok-push_quoted.ensures sets ∙ ap (λ b. b ++ quoted_spelling (see (get_or c.args.rest.now c.loop-hidden.hidden-index blank)))
    (c.in_ok-extend_from_slice.ensures.items ∙ ap (λ b. c.loop-hidden.bytes.items ++ b) c.white_space.ensures) in
    next see c.args.rest.now c.loop-hidden.hidden-index blank c.loop-hidden.bytes.items c.push_quoted.new.bytes.items c.loop-hidden-test.true added ∙ c.loop-hidden.invariant sets
