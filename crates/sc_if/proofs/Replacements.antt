-- What a configuration has of the list of replaced tokens.
use Rattle.std.proofs.Common.{◌≡◌, ℕ, ◌+◌, ◌<◌, ◌&&◌, Bool, true, false, not, List, [], ◌∷◌, ◌++◌, All, codes, is_some, Ok, Err, Some, slice_get, map, take, length, get_or, refl, sym, ap, subst, ◌∙◌, append-nil, if◌then◌else◌}
use Rattle.std.proofs.lemmas.List.{map-append, take_more}
use Rattle.std.proofs.lemmas.List.Elements.{All-head, All-push, All-tail}
use Rattle.std.specs.Prelude.{unwrap_or}
use Rattle.c11_expressions.specs.Lines.{without_defined}
use Rattle.c11_macros.specs.Hidden.{no_names}
use Rattle.c11_macros.specs.Macros.{Macros}
use Rattle.sc_base.proofs.Growth.{Extends-within}
use Rattle.sc_base.specs.declared.fault.Fault.{Fault}
use Rattle.sc_base.specs.declared.id.Cond.{Cond}
use Rattle.sc_base.specs.declared.id.Name.{Name}
use Rattle.sc_base.specs.declared.place.Place.{Place}
use Rattle.sc_base.specs.declared.token.Token.{Token}
use Rattle.sc_base.specs.Seen.{IsHeld, text_at}
use Rattle.sc_guarded.proofs.ItemLemmas.{items_at-append, items_at-Keeps}
use Rattle.sc_guarded.specs.declared.expanded.Expanded.{Expanded}
use Rattle.sc_guarded.specs.Items.{faults_at, items_at}
use Rattle.sc_if.specs.declared.piece.Piece.{Piece}
use Rattle.sc_if.specs.declared.piece.Piece.TheVariants as piece
use Rattle.sc_if.specs.Replaced.{AreDigits, IsHeldList, IsKeptTable, Stands, as_number, seen_failure, seen_piece, token_for, unhidden}
use Rattle.sc_model.proofs.SetLemmas.{IsConfig-Keeps}
use Rattle.sc_model.specs.Sets.{Sets, IsCond, IsConfig, IsNever, Keeps}
use Rattle.sc_model.specs.Growth.{Extends}
use Rattle.sc_model.specs.declared.cause.Cause.TheVariants.{BadIf}
use Rattle.sc_model.specs.declared.kind.Kind.TheVariants.{Number}
use Rattle.sc_model.specs.Token.{name_of}
use Rattle.sc_table.proofs.Growth.{macros_at-Extends, macros_at-Keeps}
use Rattle.sc_table.specs.declared.table.MacroTable.{MacroTable}
use Rattle.sc_table.specs.Table.{IsStill, IsTable, macros_at}

pub never-adds : (s : Sets) (cond : Cond) (list : List (Cond × Token)) (t : Token) (c : List ℕ) → IsNever s cond.0 → IsConfig s.arities c
    → items_at s list c ≡ items_at s list c ++ (if s.has cond.0 c then t ∷ [] else [])
never-adds s cond list t c never listed =
    sym (append-nil (items_at s list c)) ∙ ap (λ b. items_at s list c ++ (if b then t ∷ [] else [])) (sym (never.none c listed))

pub push-adds : (s : Sets) (cond : Cond) (list new : List (Cond × Token)) (t : Token) (c : List ℕ) → new ≡ list ++ (cond, t) ∷ []
    → items_at s new c ≡ items_at s list c ++ (if s.has cond.0 c then t ∷ [] else [])
push-adds s cond list new t c is = ap (λ l. items_at s l c) is ∙ items_at-append s list ((cond, t) ∷ []) c

pub IsHeldList-push : (s : Sets) (names : List (List ℕ)) (list new : List (Cond × Token)) (cond : Cond) (t : Token) → new ≡ list ++ (cond, t) ∷ []
    → IsCond s cond.0 → (IsNever s cond.0 → ⊥) → IsHeld names t → IsHeldList s names list → IsHeldList s names new
IsHeldList-push s names list new cond t is own some held was = subst (IsHeldList s names) (sym is) (record {
  own = All-push (λ (item : Cond × Token). IsCond s item.0.0) list (cond, t) was.own own;
  some = All-push (λ (item : Cond × Token). IsNever s item.0.0 → ⊥) list (cond, t) was.some some;
  held = All-push (λ (item : Cond × Token). IsHeld names item.1) list (cond, t) was.held held;
})

pub placed-push : (files : ℕ) (list new : List (Cond × Token)) (cond : Cond) (t : Token) → new ≡ list ++ (cond, t) ∷ [] → t.place.file.0 < files
    → All (λ (item : Cond × Token). item.1.place.file.0 < files) list → All (λ (item : Cond × Token). item.1.place.file.0 < files) new
placed-push files list new cond t is here were =
    let P : Cond × Token → Type 0 = λ item. item.1.place.file.0 < files in
    subst (All P) (sym is) (All-push P list (cond, t) were here)

pub IsHeldList-Keeps : {old new : Sets} {names : List (List ℕ)} {list : List (Cond × Token)} → Keeps old new → IsHeldList old names list → IsHeldList new names list
IsHeldList-Keeps {old} {new} {names} {list} keeps was = record {
  own = λ k d h. keeps.own _ (was.own k d h);
  some = λ k d h never. was.some k d h (record { none = λ c listed. sym (keeps.at _ c (was.own k d h) listed) ∙ never.none c (IsConfig-Keeps keeps listed) });
  held = was.held;
}

-- a number that the table holds
pub number-held : {names : List (List ℕ)} {one zero : Name} (t : Token) → AreDigits names one zero → IsHeld names (as_number t one) × IsHeld names (as_number t zero)
number-held {names} {one} {zero} t digits = (
  record { spelling = digits.one_held; name = digits.one_held; stands_for = digits.one_is ∙ ap name_of (sym digits.one_is) },
  record { spelling = digits.zero_held; name = digits.zero_held; stands_for = digits.zero_is ∙ ap name_of (sym digits.zero_is) },
)

-- ---- one number where the name is defined, another where it is not

module _ {old new : Sets} (live defined yes no : Cond) (one zero : Name) (t u v : Token) (list first second : List (Cond × Token)) (c : List ℕ) where
  pub both-added : Keeps old new → All (λ (item : Cond × Token). IsCond old item.0.0) list → IsConfig old.arities c
      → new.has yes.0 c ≡ (old.has live.0 c && old.has defined.0 c) → new.has no.0 c ≡ (old.has live.0 c && not (old.has defined.0 c))
      → u ≡ as_number t one → v ≡ as_number t zero
      → items_at new first c ≡ items_at new list c ++ (if new.has yes.0 c then u ∷ [] else [])
      → items_at new second c ≡ items_at new first c ++ (if new.has no.0 c then v ∷ [] else [])
      → items_at new second c ≡ items_at old list c ++ (if old.has live.0 c then as_number t (if old.has defined.0 c then one else zero) ∷ [] else [])
  both-added keeps own listed is_yes is_no is_one is_zero with_one with_both =
      let xs = items_at old list c in
      with_both ∙ (ap (λ v. items_at new first c ++ (if new.has no.0 c then v ∷ [] else [])) is_zero
      ∙ (ap (λ ys. ys ++ (if new.has no.0 c then as_number t zero ∷ [] else [])) (with_one ∙ ap (λ u. items_at new list c ++ (if new.has yes.0 c then u ∷ [] else [])) is_one)
      ∙ (ap (λ ys. (ys ++ (if new.has yes.0 c then as_number t one ∷ [] else [])) ++ (if new.has no.0 c then as_number t zero ∷ [] else [])) (items_at-Keeps list c keeps own listed)
      ∙ (ap (λ b. (xs ++ (if b then as_number t one ∷ [] else [])) ++ (if new.has no.0 c then as_number t zero ∷ [] else [])) is_yes
      ∙ (ap (λ b. (xs ++ (if old.has live.0 c && old.has defined.0 c then as_number t one ∷ [] else [])) ++ (if b then as_number t zero ∷ [] else [])) is_no
      ∙ by xs (old.has live.0 c) (old.has defined.0 c))))))
    where
      by : (xs : List Token) (l d : Bool) → (xs ++ (if l && d then as_number t one ∷ [] else [])) ++ (if l && not d then as_number t zero ∷ [] else [])
          ≡ xs ++ (if l then as_number t (if d then one else zero) ∷ [] else [])
      by xs true true = append-nil (xs ++ as_number t one ∷ [])
      by xs true false = ap (λ ys. ys ++ as_number t zero ∷ []) (append-nil xs)
      by xs false d = append-nil (xs ++ [])

-- what a `defined` adds, told through the store before
pub put-at : (old mid new : Sets) (names : List (List ℕ)) (macros : Macros) (one zero : Name) (t name : Token) (p : Piece) (live defined : Cond) (list longer : List (Cond × Token)) (c : List ℕ)
    → Keeps old mid → All (λ (item : Cond × Token). IsCond old item.0.0) list → IsCond old live.0 → IsConfig old.arities c → p ≡ piece.Defined t name
    → mid.has defined.0 c ≡ is_some (macros (text_at names name.spelling.0))
    → items_at new longer c ≡ items_at mid list c ++ (if mid.has live.0 c then as_number t (if mid.has defined.0 c then one else zero) ∷ [] else [])
    → items_at new longer c ≡ items_at old list c ++ (if old.has live.0 c then token_for one zero macros names p ∷ [] else [])
put-at old mid new names macros one zero t name p live defined list longer c keeps own live_own listed is told added =
    added ∙ (ap (λ ys. ys ++ (if mid.has live.0 c then as_number t (if mid.has defined.0 c then one else zero) ∷ [] else [])) (items_at-Keeps list c keeps own listed)
    ∙ (ap (λ b. items_at old list c ++ (if b then as_number t (if mid.has defined.0 c then one else zero) ∷ [] else [])) (keeps.at live.0 c live_own listed)
    ∙ (ap (λ b. items_at old list c ++ (if old.has live.0 c then as_number t (if b then one else zero) ∷ [] else [])) told
    ∙ ap (λ p. items_at old list c ++ (if old.has live.0 c then token_for one zero macros names p ∷ [] else [])) (sym is))))

-- ---- the table

-- what it says is the same with a store that has grown
pub still-kept : (old mid new : Sets) (names : List (List ℕ)) (was table : MacroTable) → Keeps old mid → Keeps mid new → IsTable mid names table → IsStill old mid names was table → IsStill old new names was table
still-kept old mid new names was table one two is still = λ c text listed. macros_at-Keeps {names = names} two is c text (IsConfig-Keeps one listed) ∙ still c text listed

pub still-trans : (old mid new : Sets) (names : List (List ℕ)) (was between table : MacroTable) → Keeps old mid → IsStill old mid names was between → IsStill mid new names between table → IsStill old new names was table
still-trans old mid new names was between table keeps one two = λ c text listed. two c text (IsConfig-Keeps keeps listed) ∙ one c text listed

-- ---- pieces

pub token_for-same : (one zero : Name) (some other : Macros) (names : List (List ℕ)) → ((text : List ℕ) → some text ≡ other text) → (p : Piece) → token_for one zero some names p ≡ token_for one zero other names p
token_for-same one zero some other names same (piece.Token t) = refl
token_for-same one zero some other names same (piece.Defined t name) = ap (λ d. as_number t (if is_some d then one else zero)) (same (text_at names name.spelling.0))

pub tokens_for-same : (one zero : Name) (some other : Macros) (names : List (List ℕ)) → ((text : List ℕ) → some text ≡ other text) → (ps : List Piece) → map (token_for one zero some names) ps ≡ map (token_for one zero other names) ps
tokens_for-same one zero some other names same [] = refl
tokens_for-same one zero some other names same (p ∷ ps) =
    ap (λ t. t ∷ map (token_for one zero some names) ps) (token_for-same one zero some other names same p) ∙ ap (λ ts. token_for one zero other names p ∷ ts) (tokens_for-same one zero some other names same ps)

-- a piece is replaced by what the definition says
pub seen_token : (one zero : Name) (macros : Macros) (names : List (List ℕ)) → AreDigits names one zero → (p : Piece) → unhidden names (token_for one zero macros names p) ≡ seen_piece macros names p
seen_token one zero macros names digits (piece.Token t) = refl
seen_token one zero macros names digits (piece.Defined t name) = by (is_some (macros (text_at names name.spelling.0)))
  where
    by : (b : Bool) → unhidden names (as_number t (if b then one else zero)) ≡ record { kind = Number; spelling = if b then codes "1" else codes "0"; space = t.space; place = t.place; hide = no_names }
    by true = λ i. record { kind = Number; spelling = digits.one_is i; space = t.space; place = t.place; hide = no_names }
    by false = λ i. record { kind = Number; spelling = digits.zero_is i; space = t.space; place = t.place; hide = no_names }

pub seen_tokens : (one zero : Name) (macros : Macros) (names : List (List ℕ)) → AreDigits names one zero → (ps : List Piece) → map (unhidden names) (map (token_for one zero macros names) ps) ≡ map (seen_piece macros names) ps
seen_tokens one zero macros names digits [] = refl
seen_tokens one zero macros names digits (p ∷ ps) =
    ap (λ t. t ∷ map (unhidden names) (map (token_for one zero macros names) ps)) (seen_token one zero macros names digits p) ∙ ap (λ ts. seen_piece macros names p ∷ ts) (seen_tokens one zero macros names digits ps)

-- ---- the loop over the pieces

pub loop-at : (old mid new : Sets) (names : List (List ℕ)) (was table : MacroTable) (one zero : Name) (live : Cond) (pieces : List Piece) (i : ℕ) (d : Piece) (list longer : List (Cond × Token)) (c : List ℕ)
    → Keeps old mid → IsStill old mid names was table → IsCond old live.0 → IsConfig old.arities c → i < length pieces
    → items_at mid list c ≡ (if old.has live.0 c then map (token_for one zero (macros_at old names was c) names) (take i pieces) else [])
    → items_at new longer c ≡ items_at mid list c ++ (if mid.has live.0 c then token_for one zero (macros_at mid names table c) names (get_or pieces i d) ∷ [] else [])
    → items_at new longer c ≡ (if old.has live.0 c then map (token_for one zero (macros_at old names was c) names) (take (i + 1) pieces) else [])
loop-at old mid new names was table one zero live pieces i d list longer c keeps still own listed within so_far added =
    let p = get_or pieces i d in
    let f : Piece → Token = token_for one zero (macros_at old names was c) names in
    added ∙ (ap (λ ys. ys ++ (if mid.has live.0 c then token_for one zero (macros_at mid names table c) names p ∷ [] else [])) so_far
    ∙ (ap (λ b. (if old.has live.0 c then map f (take i pieces) else []) ++ (if b then token_for one zero (macros_at mid names table c) names p ∷ [] else [])) (keeps.at live.0 c own listed)
    ∙ (ap (λ t. (if old.has live.0 c then map f (take i pieces) else []) ++ (if old.has live.0 c then t ∷ [] else [])) (token_for-same one zero (macros_at mid names table c) (macros_at old names was c) names (λ text. still c text listed) p)
    ∙ (by f (old.has live.0 c) ∙ ap (λ ps. if old.has live.0 c then map f ps else []) (sym (take_more pieces i d within))))))
  where
    by : (f : Piece → Token) (b : Bool) → (if b then map f (take i pieces) else []) ++ (if b then f (get_or pieces i d) ∷ [] else []) ≡ (if b then map f (take i pieces ++ get_or pieces i d ∷ []) else [])
    by f true = sym (map-append f (take i pieces) (get_or pieces i d ∷ []))
    by f false = refl

-- ---- the table of texts grows

module _ {names more : List (List ℕ)} (grows : Extends names more) where
  pub text_at-grown : (i : ℕ) → i < length names → text_at more i ≡ text_at names i
  text_at-grown i held = ap (λ t. unwrap_or t []) (grows.kept i held)

  pub held-grown : (t : Token) → IsHeld names t → IsHeld more t
  held-grown t held = record {
    spelling = Extends-within _ held.spelling grows;
    name = Extends-within _ held.name grows;
    stands_for = text_at-grown t.name.0 held.name ∙ (held.stands_for ∙ ap name_of (sym (text_at-grown t.spelling.0 held.spelling)));
  }

  pub line-held : (line : List Token) → All (IsHeld names) line → All (IsHeld more) line
  line-held line held = λ k d h. held-grown _ (held k d h)

  pub line-unhidden : (line : List Token) → All (IsHeld names) line → map (unhidden more) line ≡ map (unhidden names) line
  line-unhidden [] held = refl
  line-unhidden (t ∷ ts) held =
      (λ i. record { kind = t.kind; spelling = text_at-grown t.spelling.0 (All-head (IsHeld names) t ts held).spelling i; space = t.space; place = t.place; hide = no_names } ∷ map (unhidden more) ts)
      ∙ ap (λ us. unhidden names t ∷ us) (line-unhidden ts (All-tail (IsHeld names) t ts held))

-- the two names, once both texts have been put into the table
pub digits-held : (names more : List (List ℕ)) (one zero : Name) → Extends names more → one.0 < length names → slice_get names one.0 ≡ Some (codes "1") → zero.0 < length more → slice_get more zero.0 ≡ Some (codes "0")
    → AreDigits more one zero
digits-held names more one zero grows one_held one_is zero_held zero_is = record {
  one_held = Extends-within _ one_held grows;
  zero_held = zero_held;
  one_is = text_at-grown grows one.0 one_held ∙ ap (λ t. unwrap_or t []) one_is;
  zero_is = ap (λ t. unwrap_or t []) zero_is;
}

-- ---- the answer

-- the tokens of a line that is not refused
pub stands-tokens : (hash : Place) (s : Sets) (old now : List (List ℕ)) (one zero : Name) (live : Bool) (macros later : Macros) (line : List Token) (pieces : List Piece) (list : List (Cond × Token)) (c : List ℕ)
    → Extends old now → All (IsHeld old) line → AreDigits now one zero → ((text : List ℕ) → later text ≡ macros text)
    → without_defined macros (map (unhidden now) line) ≡ Ok (map (seen_piece macros now) pieces)
    → items_at s list c ≡ (if live then map (token_for one zero later now) pieces else []) → live ≡ true
    → Stands hash (without_defined macros (map (unhidden old) line)) (map (unhidden now) (items_at s list c)) []
stands-tokens hash s old now one zero live macros later line pieces list c grows held digits same read at is =
    let items : items_at s list c ≡ map (token_for one zero macros now) pieces =
    at ∙ (ap (λ b. if b then map (token_for one zero later now) pieces else []) is ∙ tokens_for-same one zero later macros now same pieces) in
    subst (λ r. Stands hash r (map (unhidden now) (items_at s list c)) [])
    (sym (ap (without_defined macros) (sym (line-unhidden grows line held)) ∙ read))
    (ap (map (unhidden now)) items ∙ seen_tokens one zero macros now digits pieces, refl)

-- the fault of one that is
pub stands-refused : (hash : Place) (s : Sets) (old now : List (List ℕ)) (live : Cond) (macros : Macros) (line : List Token) (e : Expanded) (c : List ℕ)
    → Extends old now → All (IsHeld old) line → without_defined macros (map (unhidden now) line) ≡ Err BadIf
    → e.list ≡ [] → e.faults.items ≡ record { cond = live; cause = BadIf; place = hash } ∷ [] → s.has live.0 c ≡ true
    → Stands hash (without_defined macros (map (unhidden old) line)) (map (unhidden now) (items_at s e.list c)) (map seen_failure (faults_at s e.faults.items c))
stands-refused hash s old now live macros line e c grows held refused list faults is =
    let fault : Fault = record { cond = live; cause = BadIf; place = hash } in
    subst (λ r. Stands hash r (map (unhidden now) (items_at s e.list c)) (map seen_failure (faults_at s e.faults.items c)))
    (sym (ap (without_defined macros) (sym (line-unhidden grows line held)) ∙ refused)) (
      ap (λ l. map (unhidden now) (items_at s l c)) list,
      ap (λ l. map seen_failure (faults_at s l c)) faults ∙ ap (λ b. map seen_failure (if b then fault ∷ [] else [])) is,
    )

-- what the table says is the same through both stores
pub kept-table : (old new : Sets) (names more : List (List ℕ)) (was table : MacroTable) → Extends names more → IsTable old names was → IsStill old new more was table → IsKeptTable old new names more was table
kept-table old new names more was table grows is still = λ c text listed. still c text listed ∙ macros_at-Extends {names = names} grows is c text
