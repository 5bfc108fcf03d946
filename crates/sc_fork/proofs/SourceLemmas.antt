-- Terminals that are found one by one.
use Rattle.std.proofs.Common.{◌≡◌, ℕ, ◌+◌, List, [], ◌∷◌, ◌++◌, map, take, slice_get, Option, Some, sym, ap, ◌∙◌}
use Rattle.std.specs.Prelude.{option_map, unwrap_or}
use Rattle.std.proofs.lemmas.List.{map-append, take_more}
use Rattle.std.proofs.lemmas.Option.{slice_get_within, get_or_from_slice_get}
use Rattle.lr_tables.specs.declared.grammar.Terminal.{Terminal}
use Rattle.sc_base.specs.declared.id.Cond.{Cond}
use Rattle.sc_base.specs.declared.token.Token.{Token}
use Rattle.sc_base.specs.Seen.{text_at}
use Rattle.sc_fork.specs.Owns.{AreTerminals}
use Rattle.sc_kinds.specs.Kinds.{terminal_of}
use Rattle.sc_model.specs.declared.standard.Standard.{Standard}

pub take-next : {A : Type 0} (xs : List A) (i : ℕ) (x : A) → slice_get xs i ≡ Some x → take (i + 1) xs ≡ take i xs ++ x ∷ []
take-next xs i x here = take_more xs i x (slice_get_within xs i x here) ∙ ap (λ y. take i xs ++ y ∷ []) (get_or_from_slice_get xs i x x here)

pub terminals-more : (standard : Standard) (names : List (List ℕ)) (list : List (Cond × Token)) (first new : List (Option Terminal)) (i : ℕ) (cond : Cond) (token : Token) (text : List ℕ)
    (found : Option Terminal) → AreTerminals standard names (take i list) first → slice_get list i ≡ Some (cond, token) → slice_get names token.spelling.0 ≡ Some text
    → option_map (λ (x : Terminal). x.0) found ≡ terminal_of standard token.kind text → new ≡ first ++ found ∷ [] → AreTerminals standard names (take (i + 1) list) new
terminals-more standard names list first new i cond token text found are here named is added =
    ap (map (option_map (λ (x : Terminal). x.0))) added ∙ map-append (option_map (λ (x : Terminal). x.0)) first (found ∷ [])
    ∙ ap (λ ts. ts ++ option_map (λ (x : Terminal). x.0) found ∷ []) are
    ∙ ap (λ t. map terminal (take i list) ++ t ∷ []) (is ∙ ap (λ o. terminal_of standard token.kind (unwrap_or o [])) (sym named))
    ∙ sym (map-append terminal (take i list) ((cond, token) ∷ []))
    ∙ ap (map terminal) (sym (take-next list i (cond, token) here))
  where
    terminal : Cond × Token → Option ℕ
    terminal item = terminal_of standard item.1.kind (text_at names item.1.spelling.0)
