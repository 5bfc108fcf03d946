-- Of what stands in a file whose tokens stand apart, a place is in one line.
use Rattle.std.proofs.Common.{◌≡◌, ℕ, zero, suc, ◌<◌, ◌⊎◌, inl, inr, Bool, true, false, List, [], ◌∷◌, ◌++◌, map, Some, refl, sym, ap, ◌∙◌, subst, arith, AllPairs, if◌then◌else◌}
use Rattle.c11_directives.specs.Footprints.{Spot, Used, token_itself}
use Rattle.c11_directives.specs.PutOut.{PutsOut}
use Rattle.c11_directives.specs.Reaches.{at_line, in_file, itself}
use Rattle.sc_base.specs.declared.token.Token as base
use Rattle.sc_model.specs.Token.{Token}
use Rattle.sc_prep.proofs.ApartLemmas.{pairs-head, pairs-map, pairs-tail}
use Rattle.sc_prep.proofs.ComesBack.{comes-line}
use Rattle.sc_prep.proofs.Facts.{cases_order, recursion_from_All, same_Some}
use Rattle.sc_prep.proofs.Terms.{AllByRecursion as Every, ComesAt, Context, Line, LineReaches, Machine, Place, StandApart, Standard, State, hash_of, is_newline, line_at, line_of, onto_first, seen, seen_lines}
use Rattle.c11_directives.specs.Lines.{first_of, split_lines}

-- ---- lists of lines

abbrev AreApart : Token → Token → Type 0
AreApart t u = t.place ≡ u.place → ⊥

-- no token of a line is at the place of one of a later line
abbrev PartsApart : List (List Token) → Type 0
PartsApart [] = Unit {0}
PartsApart (l ∷ ls) = Every (λ (t : Token). Every (λ k. Every (AreApart t) k) ls) l × PartsApart ls

abbrev tokens_each : List Line → List (List Token)
tokens_each ls = map (λ (l : Line). l.tokens) ls

abbrev pub LinesApart : List Line → Type 0
LinesApart ls = PartsApart (tokens_each ls)

module _ {A : Type 0} (P : A → Type 0) where
  every-onto : (t : A) (ls : List (List A)) → P t → Every (λ l. Every P l) ls → Every (λ l. Every P l) (onto_first t ls)
  every-onto t [] here all = ((here, tt), tt)
  every-onto t (l ∷ ls) here all = ((here, all.0), all.1)

  every-next : (b : Bool) (t : A) (ls : List (List A)) → P t → Every (λ l. Every P l) ls → Every (λ l. Every P l) (if b then [] ∷ ls else onto_first t ls)
  every-next true t ls here all = (tt, all)
  every-next false t ls here all = every-onto t ls here all

  every-split : (ends : A → Bool) (ts : List A) → Every P ts → Every (λ l. Every P l) (split_lines ends ts)
  every-split ends [] all = tt
  every-split ends (t ∷ ts) all = every-next (ends t) t (split_lines ends ts) all.0 (every-split ends ts all.1)

parts-onto : (t : Token) (ls : List (List Token)) → Every (λ k. Every (AreApart t) k) ls → PartsApart ls → PartsApart (onto_first t ls)
parts-onto t [] all apart = ((tt, tt), tt)
parts-onto t (l ∷ ls) all apart = ((all.1, apart.0), apart.1)

parts-next : (b : Bool) (t : Token) (ls : List (List Token)) → Every (λ k. Every (AreApart t) k) ls → PartsApart ls → PartsApart (if b then [] ∷ ls else onto_first t ls)
parts-next true t ls all apart = (tt, apart)
parts-next false t ls all apart = parts-onto t ls all apart

parts-split : (ends : Token → Bool) (ts : List Token) → AllPairs AreApart ts → PartsApart (split_lines ends ts)
parts-split ends [] pairs = tt
parts-split ends (t ∷ ts) pairs =
    parts-next (ends t) t (split_lines ends ts) (every-split (AreApart t) ends ts (recursion_from_All (AreApart t) ts (pairs-head AreApart t ts pairs))) (parts-split ends ts (pairs-tail AreApart t ts pairs))

lines-tokens : (standard : Standard) (ls : List (List Token)) → tokens_each (map (line_of standard) ls) ≡ ls
lines-tokens standard [] = refl
lines-tokens standard (l ∷ ls) = ap (λ ks. l ∷ ks) (lines-tokens standard ls)

-- the lines of a file
pub seen-apart : (standard : Standard) (names files : List (List ℕ)) (tokens : List base.Token) → StandApart tokens → LinesApart (seen_lines standard names files tokens)
seen-apart standard names files tokens apart =
    subst PartsApart (sym (lines-tokens standard (split_lines (λ (t : Token). is_newline t.kind) (map (seen names files) tokens))))
    (parts-split (λ (t : Token). is_newline t.kind) (map (seen names files) tokens)
    (pairs-map AreApart (seen names files) tokens (λ i j d low below same. apart i j d low below (ap (λ (p : Place). p.position) same))))

-- ---- where a token stands

pub record Among (t : Token) (ts : List Token) : Type 0 where
  pub before : List Token
  pub behind : List Token
  pub is : ts ≡ before ++ t ∷ behind

every-among : (P : Token → Type 0) {t : Token} {ts : List Token} → Among t ts → Every P ts → P t
every-among P {t} among all = by among.before (subst (Every P) among.is all)
  where
    by : (before : List Token) → Every P (before ++ t ∷ among.behind) → P t
    by [] all = all.0
    by (b ∷ before) all = by before all.1

among-none : {t : Token} → Among t [] → ⊥
among-none {t} among = by among.before among.is
  where
    by : (before : List Token) → [] ≡ before ++ t ∷ among.behind → ⊥
    by [] e = cc
    by (b ∷ before) e = cc

every-line : (P : Token → Type 0) (ls : List Line) (j : ℕ) → Every (λ k. Every P k) (tokens_each ls) → Every P (line_at ls j).tokens
every-line P [] j all = tt
every-line P (l ∷ ls) zero all = all.0
every-line P (l ∷ ls) (suc j) all = every-line P ls j all.1

later-apart : (lines : List Line) → LinesApart lines → (i j : ℕ) → i < j → (t u : Token) → Among t (line_at lines i).tokens → Among u (line_at lines j).tokens → AreApart t u
later-apart [] apart i j before t u one other = absurd (among-none one)
later-apart (l ∷ ls) apart zero zero before t u one other = absurd (omega (arith, before))
later-apart (l ∷ ls) apart (suc i) zero before t u one other = absurd (omega (arith, before))
later-apart (l ∷ ls) apart zero (suc j) before t u one other = every-among (AreApart t) other (every-line (AreApart t) ls j (every-among (λ (t : Token). Every (λ k. Every (AreApart t) k) (tokens_each ls)) one apart.0))
later-apart (l ∷ ls) apart (suc i) (suc j) before t u one other = later-apart ls apart.1 i j (omega (arith, before)) t u one other

-- the lines of tokens at one place are one
pub same-line : (lines : List Line) → LinesApart lines → (i j : ℕ) (t u : Token) → Among t (line_at lines i).tokens → Among u (line_at lines j).tokens → t.place ≡ u.place → i ≡ j
same-line lines apart i j t u one other same = elim (cases_order i j) [
  | inl equal ↦ equal
  | inr rest ↦ elim rest [
    | inl before ↦ absurd (later-apart lines apart i j before t u one other same)
    | inr after ↦ absurd (later-apart lines apart j i after u t other one (sym same))
  ]
]

-- ---- what one line puts out

-- the line itself, or one behind its #
abbrev Stands : Line → List Place → Line → Type 0
Stands l chain at = ((chain ≡ []) × (at ≡ l)) ⊎ ((hash : Token) × (rest : List Place) × (hash_of l ≡ Some hash) × (chain ≡ hash.place ∷ rest))

stands : {x : Context} {l at : Line} {s end : State} {chain : List Place} → LineReaches x l s chain (at_line at end) → Stands l chain at
stands itself = inl (refl, refl)
stands (in_file {chain = chain} t ts header hash file is closes says header_is shallow hashed searching again reaches) = inr (hash, chain, hashed, refl)

first-among : (hash : Token) (l : Line) → hash_of l ≡ Some hash → Among hash l.tokens
first-among hash l e = by l.tokens e
  where
    by : (ts : List Token) → first_of ts ≡ Some hash → Among hash ts
    by [] e = cc
    by (t ∷ ts) e = record { before = []; behind = ts; is = ap (λ h. h ∷ ts) (same_Some t hash e) }

put-token : {s : State} {line : Line} {f : Spot × Used} {index number : ℕ} (p : PutsOut s line f index number) → f.0 ≡ token_itself p.token
put-token p = ap (λ g. g.0) p.footprint

-- Two lines of text that put out something of one footprint, behind the same #includes, are in one
-- line.
pub one-line : {x : Context} {chain : List Place} (lines : List Line) → LinesApart lines → (i j : ℕ) {m k : Machine} {line other : Line} {s t : State} {f : Spot × Used} {index n p : ℕ}
    → ComesAt x m (line_at lines i) chain (at_line line s) → ComesAt x k (line_at lines j) chain (at_line other t) → PutsOut s line f index n → PutsOut t other f index p → i ≡ j
one-line {chain = chain} lines apart i j {line = line} {other} one two puts also = by (stands (comes-line one)) (stands (comes-line two))
  where
    by : Stands (line_at lines i) chain line → Stands (line_at lines j) chain other → i ≡ j
    by (inl a) (inl b) =
        let tokens : token_itself puts.token ≡ token_itself also.token = sym (put-token puts) ∙ put-token also in
        let same : puts.token ≡ also.token = cc in
        same-line lines apart i j puts.token also.token (record { before = puts.before; behind = puts.behind; is = ap (λ (l : Line). l.tokens) (sym a.1) ∙ puts.is })
        (record { before = also.before; behind = also.behind; is = ap (λ (l : Line). l.tokens) (sym b.1) ∙ also.is }) (ap (λ (t : Token). t.place) same)
    by (inl a) (inr b) = let both = sym a.0 ∙ b.3 in absurd (cc)
    by (inr a) (inl b) = let both = sym b.0 ∙ a.3 in absurd (cc)
    by (inr a) (inr b) =
        let both : a.0.place ∷ a.1 ≡ b.0.place ∷ b.1 = sym a.3 ∙ b.3 in
        let same : a.0.place ≡ b.0.place = cc in
        same-line lines apart i j a.0 b.0 (first-among a.0 (line_at lines i) a.2) (first-among b.0 (line_at lines j) b.2) same
