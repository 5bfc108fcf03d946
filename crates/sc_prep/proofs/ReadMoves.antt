-- What was read of runs, as runs end, and as the text of some is taken out of it.
use Rattle.std.proofs.Common.{◌≡◌, ℕ, ◌&&◌, not, Bool, true, false, inl, inr, List, [], ◌∷◌, ◌++◌, All, reverse, Option, Some, None, append-nil, append_assoc, refl, sym, ap, subst, ◌∙◌, if◌then◌else◌}
use Rattle.std.proofs.lemmas.Grind.{flat_map-append}
use Rattle.sc_prep.proofs.Facts.{All-head, All-nil, All-push, All-tail, IsConfig-Keeps, items_at-Keeps, items_at-append, map-append, none-told, reverse-append}
use Rattle.sc_prep.proofs.Terms.{Cond, Denotes, EndsRead, IsCond, IsConfig, IsNever, Keeps, Sets, TakesOut, Token, items_at, last_run, option_to_list, run_at, tokens_in, tokens_read}
use Rattle.sc_prep.proofs.Texts.{last-append}
use Rattle.sc_prep.proofs.WalkMoves.{map-reverse}

abbrev Owned : Sets → Cond × Option Token → Type 0
Owned s item = IsCond s item.0.0

-- one more is read
run_at-push : (s : Sets) (read : List (Cond × Option Token)) (item : Cond × Option Token) (c : List ℕ) → run_at s (read ++ item ∷ []) c ≡ (if s.has item.0.0 c then last_run (run_at s read c) (item.1 ∷ []) else run_at s read c)
run_at-push s read item c = ap (last_run []) (items_at-append s read (item ∷ []) c) ∙ (last-append [] (items_at s read c) (items_at s (item ∷ []) c) ∙ by (s.has item.0.0 c))
  where
    by : (b : Bool) → last_run (run_at s read c) (if b then item.1 ∷ [] else []) ≡ (if b then last_run (run_at s read c) (item.1 ∷ []) else run_at s read c)
    by true = refl
    by false = refl

read-push : (read : List (Cond × Option Token)) (item : Cond × Option Token) → tokens_read (read ++ item ∷ []) ≡ tokens_read read ++ option_to_list item.1
read-push read item =
    flat_map-append (λ (x : Cond × Option Token). option_to_list x.1) read (item ∷ []) ∙ ap (λ ts. tokens_read read ++ ts) (append-nil (option_to_list item.1))

-- ---- runs end

pub ends-nothing : (s : Sets) (read : List (Cond × Option Token)) (acting live : ℕ) → All (Owned s) read → read ≡ [] → EndsRead s read acting live s read
ends-nothing s read acting live own nothing = record {
  own = own;
  at = λ c listed is. ap (λ r. run_at s r c) nothing ∙ (none-told (s.has acting c) ∙ ap (λ r. if s.has acting c then [] else run_at s r c) (sym nothing));
  tokens = inr refl;
}

-- those of all that are live
pub ends-all : {old new : Sets} (keeps : Keeps old new) (read : List (Cond × Option Token)) (acting live left : ℕ) → Denotes new left (λ c. old.has live c && not (old.has acting c)) → IsNever new left → EndsRead old read acting live new []
ends-all {old} {new} keeps read acting live left is never = record {
  own = All-nil (Owned new);
  at = λ c listed here. by (old.has acting c) (ap (λ b. b && not (old.has acting c)) (sym here) ∙ (sym (is.at c (IsConfig-Keeps keeps listed)) ∙ never.none c (IsConfig-Keeps keeps listed))) c;
  tokens = inl refl;
}
  where
    by : (b : Bool) → not b ≡ false → (c : List ℕ) → [] ≡ (if b then [] else run_at old read c)
    by true e c = refl
    by false e c = absurd (cc)

pub ends-some : {old new : Sets} (keeps : Keeps old new) (read : List (Cond × Option Token)) (acting : Cond) (live : ℕ) → All (Owned old) read → IsCond old acting.0 → EndsRead old read acting.0 live new (read ++ (acting, None) ∷ [])
ends-some {old} {new} keeps read acting live own acting_own = record {
  own = All-push (Owned new) read (acting, None) (λ k d h. keeps.own _ (own k d h)) (keeps.own acting.0 acting_own);
  at = λ c listed here.
      run_at-push new read (acting, None) c
      ∙ ((λ i. if keeps.at acting.0 c acting_own listed i then [] else last_run [] (items_at-Keeps read c keeps own listed i)));
  tokens = inr (read-push read (acting, None) ∙ append-nil (tokens_read read));
}

-- the same told of a store before, and of one later
pub ends-between : {first old mid new : Sets} {read next : List (Cond × Option Token)} {acting live : ℕ} → Keeps first old → Keeps old mid → Keeps mid new → All (Owned first) read → IsCond first acting → IsCond first live
    → EndsRead old read acting live mid next → EndsRead first read acting live new next
ends-between {read = read} {next} {acting} {live} before keeps later own acting_own live_own ends = record {
  own = λ k d h. later.own _ (ends.own k d h);
  at = λ c listed here.
      let was = IsConfig-Keeps before listed in
      ap (last_run []) (items_at-Keeps next c later ends.own (IsConfig-Keeps keeps was))
      ∙ (ends.at c was (before.at live c live_own listed ∙ here) ∙ (λ i. if before.at acting c acting_own listed i then [] else last_run [] (items_at-Keeps read c before own listed i)));
  tokens = ends.tokens;
}

-- ---- the text of some is taken out, from the end on

pub takes-none : {s : Sets} (read : List (Cond × Option Token)) (under : ℕ) → IsCond s under → TakesOut s read under s under [] read
takes-none {s} read under own = record {
  own = All-nil (λ (item : Cond × Token). IsCond s item.0.0);
  left_own = own;
  tokens = sym (append-nil (tokens_read read));
  at = λ c listed. sym (append-nil (if s.has under c then run_at s read c else []));
}

token-step : {A : Type 0} (h l : Bool) (run : List A) (t : A) (xs : List A)
    → (if l then (if h then run ++ t ∷ [] else run) else []) ++ reverse xs ≡ (if l then run else []) ++ reverse (xs ++ (if h && l then t ∷ [] else []))
token-step true true run t xs = append_assoc run (t ∷ []) (reverse xs) ∙ ap (λ ys. run ++ ys) (sym (reverse-append xs (t ∷ [])))
token-step true false run t xs = ap reverse (sym (append-nil xs))
token-step false true run t xs = ap (λ ys. run ++ reverse ys) (sym (append-nil xs))
token-step false false run t xs = ap reverse (sym (append-nil xs))

end-step : {A : Type 0} (h l : Bool) (run : List A) → (if l then (if h then [] else run) else []) ≡ (if l && not h then run else [])
end-step true true run = refl
end-step true false run = refl
end-step false true run = refl
end-step false false run = refl

module _ {first old new : Sets} (before : Keeps first old) (keeps : Keeps old new) {read next : List (Cond × Option Token)} {under left : ℕ} {text : List (Cond × Token)} (was : TakesOut first read under old left text next) (front : List (Cond × Option Token)) where
  -- a token
  pub takes-token : (cond part : Cond) (t : Token) → next ≡ front ++ (cond, Some t) ∷ [] → Denotes new part.0 (λ c. first.has cond.0 c && old.has left c) → TakesOut first read under new left (text ++ (part, t) ∷ []) front
  takes-token cond part t is told = record {
    own = All-push (λ (item : Cond × Token). IsCond new item.0.0) text (part, t) (λ k d h. keeps.own _ (was.own k d h)) told.own;
    left_own = keeps.own left was.left_own;
    tokens =
        was.tokens ∙ ((λ i. (ap tokens_read is ∙ read-push front (cond, Some t)) i ++ reverse (tokens_in text))
        ∙ (append_assoc (tokens_read front) (t ∷ []) (reverse (tokens_in text))
        ∙ ap (λ ts. tokens_read front ++ ts) (sym (ap reverse (map-append (λ (item : Cond × Token). item.1) text ((part, t) ∷ [])) ∙ reverse-append (tokens_in text) (t ∷ [])))));
    at = λ c listed.
        let now = IsConfig-Keeps keeps (IsConfig-Keeps before listed) in
        was.at c listed
        ∙ (ap (λ run. (if old.has left c then run else []) ++ reverse (items_at old text c)) (ap (λ r. run_at first r c) is ∙ run_at-push first front (cond, Some t) c)
        ∙ (token-step (first.has cond.0 c) (old.has left c) (run_at first front c) t (items_at old text c)
        ∙ (λ i. (if sym (keeps.at left c was.left_own (IsConfig-Keeps before listed)) i then run_at first front c else [])
        ++ reverse ((ap (λ xs. xs ++ (if first.has cond.0 c && old.has left c then t ∷ [] else [])) (sym (items_at-Keeps text c keeps was.own (IsConfig-Keeps before listed)))
        ∙ (ap (λ b. items_at new text c ++ (if b then t ∷ [] else [])) (sym (told.at c now)) ∙ sym (items_at-append new text ((part, t) ∷ []) c))) i))));
  }

  -- an end of runs
  pub takes-end : (cond : Cond) (fewer : ℕ) → next ≡ front ++ (cond, None) ∷ [] → Denotes new fewer (λ c. old.has left c && not (first.has cond.0 c)) → TakesOut first read under new fewer text front
  takes-end cond fewer is told = record {
    own = λ k d h. keeps.own _ (was.own k d h);
    left_own = told.own;
    tokens = was.tokens ∙ ap (λ ts. ts ++ reverse (tokens_in text)) (ap tokens_read is ∙ (read-push front (cond, None) ∙ append-nil (tokens_read front)));
    at = λ c listed.
        was.at c listed
        ∙ (ap (λ run. (if old.has left c then run else []) ++ reverse (items_at old text c)) (ap (λ r. run_at first r c) is ∙ run_at-push first front (cond, None) c)
        ∙ (λ i. (end-step (first.has cond.0 c) (old.has left c) (run_at first front c) ∙ ap (λ b. if b then run_at first front c else []) (sym (told.at c (IsConfig-Keeps keeps (IsConfig-Keeps before listed))))) i
        ++ reverse (sym (items_at-Keeps text c keeps was.own (IsConfig-Keeps before listed)) i)));
  }

-- ---- and put in order

items-back : {T : Type 0} (s : Sets) (xs : List (Cond × T)) (c : List ℕ) → items_at s (reverse xs) c ≡ reverse (items_at s xs c)
items-back s [] c = refl
items-back s (x ∷ xs) c =
    ap (λ ys. items_at s ys c) (reverse-append (x ∷ []) xs) ∙ (items_at-append s (reverse xs) (x ∷ []) c ∙ (ap (λ ys. ys ++ items_at s (x ∷ []) c) (items-back s xs c) ∙ by (s.has x.0.0 c)))
  where
    by : (b : Bool) → reverse (items_at s xs c) ++ (if b then x.1 ∷ [] else []) ≡ reverse (if b then x.1 ∷ items_at s xs c else items_at s xs c)
    by true = sym (reverse-append (x.1 ∷ []) (items_at s xs c))
    by false = append-nil (reverse (items_at s xs c))

own-back : {A : Type 0} (P : A → Type 0) (xs : List A) → All P xs → All P (reverse xs)
own-back P [] all = All-nil P
own-back P (x ∷ xs) all = subst (All P) (sym (reverse-append (x ∷ []) xs)) (All-push P (reverse xs) x (own-back P xs (All-tail P x xs all)) (All-head P x xs all))

pub taken-own : {first now : Sets} {read front : List (Cond × Option Token)} {under left : ℕ} {text : List (Cond × Token)} → TakesOut first read under now left text front → All (λ (item : Cond × Token). IsCond now item.0.0) (reverse text)
taken-own {now = now} {text = text} was = own-back (λ (item : Cond × Token). IsCond now item.0.0) text was.own

module _ {first now : Sets} {read : List (Cond × Option Token)} {under left : ℕ} {text : List (Cond × Token)} (was : TakesOut first read under now left text []) where
  pub taken-tokens : tokens_in (reverse text) ≡ tokens_read read
  taken-tokens = map-reverse (λ (item : Cond × Token). item.1) text ∙ sym was.tokens

  pub taken-at : (c : List ℕ) → IsConfig first.arities c → items_at now (reverse text) c ≡ (if first.has under c then run_at first read c else [])
  taken-at c listed = items-back now text c ∙ sym (was.at c listed ∙ ap (λ ts. ts ++ reverse (items_at now text c)) (sym (none-told (now.has left c))))
