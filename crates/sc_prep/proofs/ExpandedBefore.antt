-- What an expansion says of a list, told of the store from before.
use Rattle.std.proofs.Common.{◌≡◌, ℕ, List, All, map, Result, sym, ap, subst}
use Rattle.sc_base.specs.declared.token.Token as base
use Rattle.sc_model.specs.Token.{Token}
use Rattle.sc_prep.proofs.Facts.{items_at-Keeps, macros_at-Keeps}
use Rattle.sc_prep.proofs.Terms.{Cond, DefineTextAlike, Fault, IsCond, IsConfig, IsTable, Keeps, MacroTable, Sets, TextExpands, items_at, macros_at, seen}

module _ {old mid : Sets} (keeps : Keeps old mid) (names files : List (List ℕ)) (table : MacroTable) (is : IsTable old names table) (list : List (Cond × base.Token))
    (own : All (λ (item : Cond × base.Token). IsCond old item.0.0) list) where
  same-macros : (c : List ℕ) → IsConfig old.arities c → macros_at mid names table c ≡ macros_at old names table c
  same-macros c listed = λ i text. macros_at-Keeps keeps is c text listed i

  same-text : (c : List ℕ) → IsConfig old.arities c → map (seen names files) (items_at mid list c) ≡ map (seen names files) (items_at old list c)
  same-text c listed = ap (map (seen names files)) (items_at-Keeps list c keeps own listed)

  pub text-expands : (c : List ℕ) → IsConfig old.arities c → (r : Result (List Token) Fault) → TextExpands (macros_at mid names table c) (map (seen names files) (items_at mid list c)) r
      → TextExpands (macros_at old names table c) (map (seen names files) (items_at old list c)) r
  text-expands c listed r expands =
      subst (λ macros. TextExpands macros (map (seen names files) (items_at old list c)) r) (same-macros c listed)
      (subst (λ text. TextExpands (macros_at mid names table c) text r) (same-text c listed) expands)

  pub define-alike : (c d : List ℕ) → IsConfig old.arities c → IsConfig old.arities d
      → DefineTextAlike (macros_at old names table c) (macros_at old names table d) (map (seen names files) (items_at old list c))
      → DefineTextAlike (macros_at mid names table c) (macros_at mid names table d) (map (seen names files) (items_at mid list c))
  define-alike c d here there alike =
      subst (λ text. DefineTextAlike (macros_at mid names table c) (macros_at mid names table d) text) (sym (same-text c here))
      (subst (λ macros. DefineTextAlike macros (macros_at mid names table d) (map (seen names files) (items_at old list c))) (sym (same-macros c here))
      (subst (λ macros. DefineTextAlike (macros_at old names table c) macros (map (seen names files) (items_at old list c))) (sym (same-macros d there)) alike))
