use Rattle.std.proofs.Common.{◌≡◌, ℕ, zero, suc, ◌==◌, ◌&&◌, not, if◌then◌else◌, ◌-◌, ◌<◌, ◌≤◌, true, false, List, [], ◌∷◌, length, map, drop, get_or, codes, Option, Some, None, Result, Ok, Err, sym, ap, ◌∙◌, subst, arith}
use Rattle.std.specs.Prelude.{IfOk}
use Rattle.std.proofs.lemmas.List.{take_rest}
use Rattle.std.proofs.lemmas.Bool.{true≢false}
use Rattle.c11_macros.specs.Macros.{object_like}
use Rattle.c11_macros.specs.Defines as model
use Rattle.sc_base.specs.declared.token.Token as declared
use Rattle.sc_base.specs.Seen.{seen}
use Rattle.sc_model.specs.declared.standard.Standard.{Standard}
use Rattle.sc_macro.specs.declared.head.Head.{Head}
use Rattle.sc_macro.specs.Head.{Heads}
use Rattle.sc_macro.specs.Seen.{seen_form}
use Rattle.sc_macro.proofs.Turns.{no_token}
use Rattle.sc_macro.proofs.head.read_head.Goals as goal

if_ok : {A E : Type 0} (P Q : A → Type 0) (r : Result A E) → ((a : A) → P a → Q a) → IfOk r P → IfOk r Q
if_ok P Q (Ok a) f h = f a h
if_ok P Q (Err e) f h = tt

positive : (n : ℕ) → (n == 0) ≡ false → 0 < n
positive zero e = absurd (true≢false e)
positive (suc n) e = omega arith

parenthesis : (standard : Standard) (names : List (List ℕ)) (t : declared.Token) (ts : List declared.Token) → model.is_spelled (codes "(") (seen names [] t) ≡ true → t.space ≡ false
    → model.head_of standard (map (seen names []) (t ∷ ts)) ≡ model.parameters standard (map (seen names []) ts)
parenthesis standard names t ts opens apart =
    let calls : (model.is_spelled (codes "(") (seen names [] t) && not t.space) ≡ true = ap (λ b. b && not t.space) opens ∙ ap not apart in
    ap (λ b. if b then model.parameters standard (map (seen names []) ts) else Some (record { form = object_like; rest = map (seen names []) (t ∷ ts) })) calls

one_behind : (t : declared.Token) (ts : List declared.Token) (n : ℕ) → 1 ≤ n → drop (n - 1) ts ≡ drop (n - 0) (t ∷ ts)
one_behind t ts zero h = absurd (omega arith)
one_behind t ts (suc n) h =
    let less : suc n - 1 ≡ n = omega arith in
    let same : suc n ≡ suc n - 0 = omega arith in
    ap (λ k. drop k ts) less ∙ ap (λ k. drop k (t ∷ ts)) same

-- the form that the tokens behind an opening parenthesis tell
opened : (standard : Standard) (names : List (List ℕ)) (line : List declared.Token) (head : Option Head) → 0 < length line
    → model.is_spelled (codes "(") (seen names [] (get_or line 0 no_token)) ≡ true → (get_or line 0 no_token).space ≡ false
    → Heads names (drop 1 line) 1 head (model.parameters standard (map (seen names []) (drop 1 line))) → Heads names line 0 head (model.head_of standard (map (seen names []) line))
opened standard names [] head some opens apart told = absurd (omega arith)
opened standard names (t ∷ ts) None some opens apart told = parenthesis standard names t ts opens apart ∙ told
opened standard names (t ∷ ts) (Some head) some opens apart told =
    record {
      is = parenthesis standard names t ts opens apart ∙ (told.is ∙ ap (λ rest. Some (record { form = seen_form names head.form; rest = map (seen names []) rest })) (one_behind t ts head.length told.behind));
      behind = omega arith;
      within = omega (arith, told.within);
      held = told.held;
    }

pub returns : goal.returns
returns c =
    let names = c.args.names.now in
    let line = c.args.line.now in
    if_ok _ _ c.parameters.result (λ head h. opened c.args.standard names line head (positive (length line) (sym c.is_empty.ensures ∙ c.if-is_empty.false))
    (sym c.is_spelled.ensures ∙ c.if-not-is_spelled.false) c.if-line-offset0.false
    (subst (λ rest. Heads names rest 1 head (model.parameters c.args.standard (map (seen names []) rest))) (take_rest line 1) h)) c.parameters.ensures
