-- Reading a name up to >, token by token.
use Rattle.std.proofs.Common.{◌≡◌, ℕ, suc, ◌+◌, ◌<◌, length, false, List, [], ◌∷◌, ◌++◌, map, drop, codes, Option, Some, None, get_or, add-one, refl, sym, ◌∙◌, ap, slice_get, unwrap_or}
use Rattle.std.proofs.Math.Seq.{drop-cons}
use Rattle.std.proofs.lemmas.List.{append_assoc}
use Rattle.std.specs.Option.{option_map}
use Rattle.sc_base.specs.Seen.{seen, text_at}
use Rattle.sc_base.specs.declared.token.Token as base
use Rattle.sc_model.specs.Bytes.{same_bytes}
use Rattle.sc_model.specs.Token.{Token}
use Rattle.c11_headers.specs.Headers.{spaced, up_to_angle}

joined : (name more : List ℕ) (left : Option (List ℕ))
    → option_map (λ rest. name ++ rest) (option_map (λ rest. more ++ rest) left) ≡ option_map (λ rest. (name ++ more) ++ rest) left
joined name more None = refl
joined name more (Some rest) = ap Some (sym (append_assoc name more rest))

past_first : (name : List ℕ) (t : Token) (ts : List Token) → same_bytes t.spelling (codes ">") ≡ false
    → option_map (λ rest. name ++ rest) (up_to_angle (t ∷ ts)) ≡ option_map (λ rest. (name ++ spaced t) ++ rest) (up_to_angle ts)
past_first name t ts other = rw other (joined name (spaced t) (up_to_angle ts))

-- one more token, which is no >
pub past_token : (names files : List (List ℕ)) (ts : List base.Token) (i : ℕ) (d : base.Token) (spelling name new : List ℕ) → i < length ts
    → slice_get names (get_or ts i d).spelling.0 ≡ Some spelling → same_bytes spelling (codes ">") ≡ false
    → new ≡ name ++ spaced (seen names files (get_or ts i d))
    → option_map (λ rest. name ++ rest) (up_to_angle (map (seen names files) (drop i ts)))
    ≡ option_map (λ rest. new ++ rest) (up_to_angle (map (seen names files) (drop (i + 1) ts)))
past_token names files ts i d spelling name new within text other more =
    let t = get_or ts i d in
    let spelled : text_at names t.spelling.0 ≡ spelling = ap (λ found. unwrap_or found []) text in
    rw (add-one, drop-cons ts i d, more)
    (past_first name (seen names files t) (map (seen names files) (drop (suc i) ts)) (ap (λ s. same_bytes s (codes ">")) spelled ∙ other))
