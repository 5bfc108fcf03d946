-- How an expansion begins and ends: tokens get an empty hide set, and lose their hide sets.
use Rattle.std.proofs.Common.{◌≡◌, ℕ, ◌+◌, Bool, true, false, List, [], ◌∷◌, ◌++◌, All, map, take, Some, slice_get, refl, sym, ap, subst, ◌∙◌, if◌then◌else◌}
use Rattle.sc_expand.proofs.Facts.{All-push, append_assoc, get_or_from_slice_get, map-append, slice_get_within, take_more}
use Rattle.sc_expand.proofs.Terms.{Cond, Hidden, Sets, Token, items_at}

-- without its hide set
abbrev pub bared : Cond × Hidden → Cond × Token
bared item = (item.0, item.1.token)

pub take-next : {A : Type 0} (xs : List A) (i : ℕ) (x : A) → slice_get xs i ≡ Some x → take (i + 1) xs ≡ take i xs ++ x ∷ []
take-next xs i x is = take_more xs i x (slice_get_within xs i x is) ∙ ap (λ y. take i xs ++ y ∷ []) (get_or_from_slice_get xs i x x is)

pub begun-next : (items later : List (Cond × Hidden)) (list : List (Cond × Token)) (i : ℕ) (cond : Cond) (t : Token) (h : Hidden) → map bared items ≡ take i list → slice_get list i ≡ Some (cond, t) → h.token ≡ t
    → later ≡ items ++ (cond, h) ∷ [] → map bared later ≡ take (i + 1) list
begun-next items later list i cond t h before at same pushed =
    ap (map bared) pushed ∙ (map-append bared items ((cond, h) ∷ []) ∙ (ap (λ l. l ++ (cond, h.token) ∷ []) before ∙ (ap (λ (u : Token). take i list ++ (cond, u) ∷ []) same ∙ sym (take-next list i (cond, t) at))))

pub All-later : {A : Type 0} (P : A → Type 0) (items later : List A) (x : A) → All P items → P x → later ≡ items ++ x ∷ [] → All P later
All-later P items later x all here pushed = subst (All P) (sym pushed) (All-push P items x all here)

pub finished-next : (list later : List (Cond × Token)) (out : List (Cond × Hidden)) (i : ℕ) (cond : Cond) (h : Hidden) → list ≡ map bared (take i out) → slice_get out i ≡ Some (cond, h)
    → later ≡ list ++ (cond, h.token) ∷ [] → later ≡ map bared (take (i + 1) out)
finished-next list later out i cond h before at pushed =
    pushed ∙ (ap (λ l. l ++ (cond, h.token) ∷ []) before ∙ (sym (map-append bared (take i out) ((cond, h) ∷ [])) ∙ ap (map bared) (sym (take-next out i (cond, h) at))))

pub more-next : {A : Type 0} (front list later more : List A) (i : ℕ) (x : A) → list ≡ front ++ take i more → slice_get more i ≡ Some x → later ≡ list ++ x ∷ [] → later ≡ front ++ take (i + 1) more
more-next front list later more i x before at pushed =
    pushed ∙ (ap (λ l. l ++ x ∷ []) before ∙ (append_assoc front (take i more) (x ∷ []) ∙ ap (λ l. front ++ l) (sym (take-next more i x at))))

pub items-bared : (s : Sets) (xs : List (Cond × Hidden)) (c : List ℕ) → items_at s (map bared xs) c ≡ map (λ (h : Hidden). h.token) (items_at s xs c)
items-bared s [] c = refl
items-bared s (x ∷ xs) c = by (s.has x.0.0 c) (items-bared s xs c)
  where
    by : (b : Bool) → items_at s (map bared xs) c ≡ map (λ (h : Hidden). h.token) (items_at s xs c)
        → (if b then x.1.token ∷ items_at s (map bared xs) c else items_at s (map bared xs) c) ≡ map (λ (h : Hidden). h.token) (if b then x.1 ∷ items_at s xs c else items_at s xs c)
    by true same = ap (λ l. x.1.token ∷ l) same
    by false same = same
