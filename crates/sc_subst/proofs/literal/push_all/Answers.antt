use Rattle.std.proofs.Common.{◌≡◌, ◌∙◌, ◌==◌, ◌-◌, ℕ, suc, false, take, List, [], ◌∷◌, ◌++◌, map, drop, get_or, length, append_assoc, ap, sym, arith}
use Rattle.std.proofs.lemmas.Bool.{true≢false}
use Rattle.std.proofs.lemmas.List.{take_all}
use Rattle.std.proofs.lemmas.Result.{on_ok_weaker}
use Rattle.c11_macros.specs.Hidden as model
use Rattle.c11_macros.specs.Substitution.{quoted_spelling, spellings, spellings_after}
use Rattle.sc_base.specs.declared.place.Place.{Place}
use Rattle.sc_subst.specs.declared.hidden.Hidden.{Hidden}
use Rattle.sc_subst.specs.Seen.{seen_hidden}
use Rattle.sc_subst.proofs.Quoting.{blank}
use Rattle.sc_subst.proofs.literal.push_all.Goals as goal

whole : (see : Hidden → model.Hidden Place) (raw : List Hidden) (d : Hidden) (bytes mid new : List ℕ) → (length raw == 0) ≡ false → mid ≡ bytes ++ quoted_spelling (see (get_or raw 0 d))
    → new ≡ mid ++ spellings_after (map see (take (length raw - 1) (drop 1 raw))) → new ≡ bytes ++ spellings (map see raw)
whole see [] d bytes mid new some first rest = absurd (true≢false some)
whole see (x ∷ xs) d bytes mid new some first rest =
    rest ∙ (ap (λ ts. mid ++ spellings_after (map see ts)) (take_all (suc (length xs) - 1) xs (omega arith))
    ∙ (ap (λ b. b ++ spellings_after (map see xs)) first ∙ append_assoc bytes (quoted_spelling (see x)) (spellings_after (map see xs))))

pub returns : goal.returns
returns c =
    on_ok_weaker c.push_rest.result
    (λ h sets. whole (seen_hidden c.args.names.now sets) c.args.raw.now blank c.args.bytes.now.items c.push_quoted.new.bytes.items c.push_rest.new.bytes.items
    (sym c.is_empty.ensures ∙ c.if-is_empty.false) (c.in_ok-push_quoted.ensures sets) (h sets)) c.push_rest.ensures
