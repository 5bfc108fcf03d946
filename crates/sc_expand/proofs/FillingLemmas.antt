-- A token that is put behind others with white space of its own where it is the first.
use Rattle.std.proofs.Common.{◌≡◌, ◌&&◌, ◌++◌, ◌∷◌, [], ◌∙◌, ◌<◌, ◌+◌, not, Bool, true, false, ℕ, zero, suc, List, All, take, length, get_or, map, slice_get, Some, ap, sym, refl, subst, if◌then◌else◌}
use Rattle.sc_expand.proofs.AlikeLemmas.{items_at-alike, lists-Keeps, AreAlike-Keeps, IsAlike-Keeps, alike-of}
use Rattle.sc_expand.proofs.Facts.{All-cons, All-head, All-nil, All-push, All-tail, All-take, Denotes-Keeps, IsConfig-Keeps, IsConfig-kept, Keeps-refl, Keeps-trans, and-true, append-nil, append_assoc, get_or_from_slice_get, hidden_later, items_at-Keeps, items_at-append, items_at-take, map-append, slice_get-map, slice_get_within, spaced_first, take_more}
use Rattle.sc_expand.proofs.Terms.{Adds, AllHeld, AreAlike, AreHeld, Cond, Denotes, Extends, Hidden, HiddenToken, HideSet, IsAlike, IsCond, IsConfig, IsHeldHidden, IsHeldPartIn, IsHeldToken, Keeps, Name, Part, Place, Sets, Stores, argument, expanded_argument, filled_in, first_spaced, first_spaced_if, hidden_by, hiding, items_at, option_map, part_at, parts_at, provenance_of, seen_hidden, seen_part, spaced, stores, with_space}
use Rattle.sc_subst.specs.declared.part.Part.TheVariants as part

module _ {T : Type 0} where
  -- some have it first, and others behind a token
  pub put_parted : (h l : Bool) (t u : T) → (if h && l then u ∷ [] else []) ++ (if h && not l then t ∷ [] else []) ≡ (if h then (if l then u else t) ∷ [] else [])
  put_parted true true t u = refl
  put_parted true false t u = refl
  put_parted false true t u = refl
  put_parted false false t u = refl

  -- no configuration has it first
  pub put_whole : (h l : Bool) (t u : T) → (h && l) ≡ false → (if h then t ∷ [] else []) ≡ (if h then (if l then u else t) ∷ [] else [])
  put_whole true l t u none = ap (λ b. (if b then u else t) ∷ []) (sym none)
  put_whole false l t u none = refl

-- none has it first, so those without a token before it are as they were
pub rest_whole : (h l : Bool) → (h && l) ≡ false → l ≡ (l && not h)
rest_whole true true none = none
rest_whole true false none = refl
rest_whole false l none = sym (and-true l)

-- ---- tokens that are put behind others

pub adds-none : {old new : Sets} (before : List (Cond × Hidden)) → All (λ (item : Cond × Hidden). IsCond old item.0.0) before → Keeps old new
    → Adds old new before before (λ c. []) (λ st files. Unit {0}) (λ c d. Unit {0})
adds-none {old} before own keeps = record {
  own = λ k d h. keeps.own _ (own k d h);
  is = λ c listed. items_at-Keeps before c keeps own listed ∙ sym (append-nil (items_at old before c));
  held = λ st files told held. held;
  alike = λ c d p q told alike. AreAlike-Keeps keeps p q before own alike;
}

pub adds-one : {s : Sets} {after : List (Cond × Hidden)} (before : List (Cond × Hidden)) (cond : Cond) (t : Hidden) → All (λ (item : Cond × Hidden). IsCond s item.0.0) before → IsCond s cond.0 → after ≡ before ++ (cond, t) ∷ []
    → Adds s s before after (λ c. if s.has cond.0 c then t ∷ [] else []) (λ st files. IsHeldToken st files t) (λ c d. IsAlike s c d cond)
adds-one {s} before cond t own cond_own is =
    subst (λ l. Adds s s before l (λ c. if s.has cond.0 c then t ∷ [] else []) (λ st files. IsHeldToken st files t) (λ c d. IsAlike s c d cond)) (sym is) (record {
      own = All-push (λ (item : Cond × Hidden). IsCond s item.0.0) before (cond, t) own cond_own;
      is = λ c listed. items_at-append s before ((cond, t) ∷ []) c;
      held = λ st files told held. All-push (λ (item : Cond × Hidden). IsHeldToken st files item.1) before (cond, t) held told;
      alike = λ c d p q told alike. All-push (λ (item : Cond × Hidden). IsAlike s c d item.0) before (cond, t) alike told;
    })

pub adds-then : {old mid new : Sets} {before between after : List (Cond × Hidden)} {f g : List ℕ → List Hidden} {H I : Stores → ℕ → Type 0} {A B : List ℕ → List ℕ → Type 0}
    → Keeps old mid → Adds old mid before between f H A → Adds mid new between after g I B → Adds old new before after (λ c. f c ++ g c) (λ st files. H st files × I st files) (λ c d. A c d × B c d)
adds-then {old} {before = before} {f = f} {g = g} keeps first more = record {
  own = more.own;
  is = λ c listed. more.is c (IsConfig-Keeps keeps listed) ∙ (ap (λ l. l ++ g c) (first.is c listed) ∙ append_assoc (items_at old before c) (f c) (g c));
  held = λ st files told held. more.held st files told.1 (first.held st files told.0 held);
  alike = λ c d p q told alike. more.alike c d (IsConfig-Keeps keeps p) (IsConfig-Keeps keeps q) told.1 (first.alike c d p q told.0 alike);
}

pub adds-as : {old new : Sets} {before after : List (Cond × Hidden)} {f g : List ℕ → List Hidden} {H I : Stores → ℕ → Type 0} {A B : List ℕ → List ℕ → Type 0}
    → Adds old new before after f H A → ((c : List ℕ) → IsConfig old.arities c → f c ≡ g c) → ((st : Stores) (files : ℕ) → I st files → H st files)
    → ((c d : List ℕ) → IsConfig old.arities c → IsConfig old.arities d → B c d → A c d) → Adds old new before after g I B
adds-as {old} {before = before} adds is held alike = record {
  own = adds.own;
  is = λ c listed. adds.is c listed ∙ ap (λ l. items_at old before c ++ l) (is c listed);
  held = λ st files told. adds.held st files (held st files told);
  alike = λ c d p q told. adds.alike c d p q (alike c d p q told);
}

-- ---- the first token of a list

abbrev pub is_nothing : {A : Type 0} → List A → Bool
is_nothing [] = true
is_nothing (x ∷ xs) = false

spaced_more : (cond has space : Bool) (ys : List Hidden) (t : Hidden)
    → first_spaced_if cond space ys ++ (if has && cond then (if cond && is_nothing ys then spaced space t else t) ∷ [] else []) ≡ first_spaced_if cond space (ys ++ (if has then t ∷ [] else []))
spaced_more true true space [] t = refl
spaced_more true true space (y ∷ ys) t = refl
spaced_more true false space [] t = refl
spaced_more true false space (y ∷ ys) t = refl
spaced_more false true space ys t = refl
spaced_more false false space ys t = refl

pub nothing_spaced : (cond space : Bool) → [] ≡ first_spaced_if cond space []
nothing_spaced true space = refl
nothing_spaced false space = refl

left_more : (cond has : Bool) (ys : List Hidden) (t : Hidden) → ((cond && is_nothing ys) && not (has && cond)) ≡ (cond && is_nothing (ys ++ (if has then t ∷ [] else [])))
left_more true true [] t = refl
left_more true true (y ∷ ys) t = refl
left_more true false [] t = refl
left_more true false (y ∷ ys) t = refl
left_more false has ys t = refl

pub spaced_token : (st : Stores) (files : ℕ) (space : Bool) (t : Hidden) → IsHeldToken st files t → IsHeldToken st files (spaced space t)
spaced_token st files space t h = record {
  held = record { token = record { spelling = h.held.token.spelling; name = h.held.token.name; stands_for = h.held.token.stands_for }; hide = h.held.hide };
  file = h.file;
}

-- the first i tokens of a list were put behind others
pub record Puts (first now : Sets) (cond left : Cond) (space : Bool) (list before after : List (Cond × Hidden)) (i : ℕ) : Type 0 where
  pub keeps : Keeps first now
  pub first_left : Denotes now left.0 (λ c. first.has cond.0 c && is_nothing (items_at first (take i list) c))
  pub adds : Adds first now before after (λ c. first_spaced_if (first.has cond.0 c) space (items_at first (take i list) c)) (λ st files. AllHeld st files list) (λ c d. AreAlike first c d list × IsAlike first c d cond)

pub puts_none : (s : Sets) (cond : Cond) (space : Bool) (list before : List (Cond × Hidden)) → IsCond s cond.0 → All (λ (item : Cond × Hidden). IsCond s item.0.0) before → Puts s s cond cond space list before before 0
puts_none s cond space list before own before_own = record {
  keeps = Keeps-refl s;
  first_left = record { own = own; at = λ c listed. none (s.has cond.0 c) };
  adds = adds-as (adds-none before before_own (Keeps-refl s)) (λ c listed. nothing_spaced (s.has cond.0 c) space) (λ st files held. tt) (λ c d p q alike. tt);
}
  where
    none : (b : Bool) → b ≡ (b && true)
    none true = refl
    none false = refl

-- one token more, in what it has in common with the condition
pub puts_more : {first old mid new : Sets} {cond left rest met : Cond} {space : Bool} {list before so_far after : List (Cond × Hidden)} {i : ℕ} (x : Cond × Hidden) → Puts first old cond left space list before so_far i
    → i < length list → x ≡ get_or list i x → Keeps old mid → Keeps mid new → Denotes mid met.0 (λ c. first.has x.0.0 c && first.has cond.0 c) → Denotes new rest.0 (λ c. mid.has left.0 c && not (mid.has met.0 c))
    → Adds mid new so_far after (λ c. if mid.has met.0 c then (if mid.has left.0 c then spaced space x.1 else x.1) ∷ [] else []) (λ st files. IsHeldToken st files x.1) (λ c d. IsAlike mid c d left × IsAlike mid c d met)
    → Puts first new cond rest space list before after (i + 1)
puts_more {first} {old} {mid} {new} {cond} {left} {rest} {met} {space} {list} {i = i} x was within is grew grows told others step =
    let all = Keeps-trans was.keeps grew in
    let was_left = Denotes-Keeps grew was.first_left in
    let so_far = λ (c : List ℕ). items_at first (take i list) c in
    let next = λ (c : List ℕ). sym (items_at-take first list i x c within is) in
    record {
      keeps = Keeps-trans all grows;
      first_left = record {
        own = others.own;
        at = λ c listed.
            let here = IsConfig-kept grows listed in
            let f = first.has cond.0 c in
            others.at c listed ∙ ((λ j. was_left.at c here j && not (told.at c here j)) ∙ (left_more f (first.has x.0.0 c) (so_far c) x.1 ∙ ap (λ l. f && is_nothing l) (next c)));
      };
      adds = adds-as (adds-then all (adds-then was.keeps was.adds (adds-none _ was.adds.own grew)) step)
          (λ c listed.
          let here = IsConfig-Keeps all listed in
          let f = first.has cond.0 c in
          let put = first_spaced_if f space (so_far c) in
          (λ j. append-nil put j ++ (if told.at c here j then (if was_left.at c here j then spaced space x.1 else x.1) ∷ [] else [])) ∙ (spaced_more f (first.has x.0.0 c) space (so_far c) x.1 ∙ ap (first_spaced_if f space) (next c)))
          (λ st files held. ((held, tt), subst (λ (item : Cond × Hidden). IsHeldToken st files item.1) (sym is) (held i x within)))
          (λ c d p q alike.
          let here = IsConfig-Keeps all p in
          let there = IsConfig-Keeps all q in
          let x_alike : IsAlike first c d x.0 = subst (λ (item : Cond × Hidden). IsAlike first c d item.0) (sym is) (alike.0 i x within) in
          let items = items_at-alike first c d (take i list) (All-take (λ (item : Cond × Hidden). IsAlike first c d item.0) i list alike.0) in
          ((alike, tt), (alike-of {cond = left} was_left here there (λ j. alike.1 j && is_nothing (items j)), alike-of {cond = met} told here there (λ j. x_alike j && alike.1 j))));
    }

-- ---- the parts of a template

abbrev pub Owned : Sets → List (List (Cond × Hidden)) → Type 0
Owned s expanded = All (All (λ (item : Cond × Hidden). IsCond s item.0.0)) expanded

argument_own : (s : Sets) (expanded : List (List (Cond × Hidden))) (n : ℕ) → Owned s expanded → All (λ (item : Cond × Hidden). IsCond s item.0.0) (expanded_argument expanded n)
argument_own s [] n own = All-nil (λ (item : Cond × Hidden). IsCond s item.0.0)
argument_own s (list ∷ lists) zero own = All-head (All (λ (item : Cond × Hidden). IsCond s item.0.0)) list lists own
argument_own s (list ∷ lists) (suc n) own = argument_own s lists n (All-tail (All (λ (item : Cond × Hidden). IsCond s item.0.0)) list lists own)

-- a part is what it was while the store grows
part_at-Keeps : (old new : Sets) (expanded : List (List (Cond × Hidden))) (cond : ℕ) (c : List ℕ) (p : Part) → Keeps old new → Owned old expanded → IsCond old cond → IsConfig old.arities c
    → part_at new expanded (new.has cond c) c p ≡ part_at old expanded (old.has cond c) c p
part_at-Keeps old new expanded cond c (part.Token t) keeps own cond_own listed = ap (λ b. if b then t ∷ [] else []) (keeps.at cond c cond_own listed)
part_at-Keeps old new expanded cond c (part.Argument n space) keeps own cond_own listed =
    ap (λ b. first_spaced_if b space (items_at new (expanded_argument expanded n) c)) (keeps.at cond c cond_own listed)
    ∙ ap (first_spaced_if (old.has cond c) space) (items_at-Keeps (expanded_argument expanded n) c keeps (argument_own old expanded n own) listed)

parts_at-append : (s : Sets) (expanded : List (List (Cond × Hidden))) (b : Bool) (c : List ℕ) (ps qs : List Part) → parts_at s expanded b c (ps ++ qs) ≡ parts_at s expanded b c ps ++ parts_at s expanded b c qs
parts_at-append s expanded b c [] qs = refl
parts_at-append s expanded b c (p ∷ ps) qs = ap (λ l. part_at s expanded b c p ++ l) (parts_at-append s expanded b c ps qs) ∙ sym (append_assoc (part_at s expanded b c p) (parts_at s expanded b c ps) (parts_at s expanded b c qs))

-- the first i parts were put
pub record Fills (first now : Sets) (expanded : List (List (Cond × Hidden))) (cond : Cond) (parts : List Part) (made : List (Cond × Hidden)) (i : ℕ) : Type 0 where
  pub keeps : Keeps first now
  pub adds : Adds first now [] made (λ c. parts_at first expanded (first.has cond.0 c) c (take i parts)) (λ st files. All (IsHeldPartIn st files) parts × All (AllHeld st files) expanded)
      (λ c d. All (AreAlike first c d) expanded × IsAlike first c d cond)

pub fills_more : {first old new : Sets} {expanded : List (List (Cond × Hidden))} {cond : Cond} {parts : List Part} {made after : List (Cond × Hidden)} {i : ℕ} (d : Part) → Fills first old expanded cond parts made i
    → i < length parts → Owned first expanded → IsCond first cond.0 → Keeps old new
    → Adds old new made after (λ c. part_at old expanded (old.has cond.0 c) c (get_or parts i d)) (λ st files. IsHeldPartIn st files (get_or parts i d) × All (AllHeld st files) expanded)
    (λ c d. All (AreAlike old c d) expanded × IsAlike old c d cond)
    → Fills first new expanded cond parts after (i + 1)
fills_more {first} {old} {new} {expanded} {cond} {parts} {i = i} d was within own cond_own keeps step = record {
  keeps = Keeps-trans was.keeps keeps;
  adds = adds-as (adds-then was.keeps was.adds step)
      (λ c listed.
      let p = get_or parts i d in
      let f = first.has cond.0 c in
      let so_far = parts_at first expanded f c (take i parts) in
      ap (λ l. so_far ++ l) (part_at-Keeps first old expanded cond.0 c p was.keeps own cond_own listed ∙ sym (append-nil (part_at first expanded f c p)))
      ∙ (sym (parts_at-append first expanded f c (take i parts) (p ∷ [])) ∙ ap (parts_at first expanded f c) (sym (take_more parts i d within))))
      (λ st files held. (held, (held.0 i d within, held.1)))
      (λ c e p q alike. (alike, (lists-Keeps was.keeps p q expanded own alike.0, IsAlike-Keeps was.keeps p q {cond = cond} cond_own alike.1)));
}

-- ---- lists made item by item

-- one item more of what is taken of a list
pub taken_more : {A B D : Type 0} (f : A → B) (g : D → B) (xs : List A) (made : List D) (i : ℕ) (x : A) (y : D) → slice_get xs i ≡ Some x → g y ≡ f x → map g made ≡ take i (map f xs)
    → map g (made ++ y ∷ []) ≡ take (i + 1) (map f xs)
taken_more f g xs made i x y is same so_far =
    let at : slice_get (map f xs) i ≡ Some (f x) = slice_get-map f xs i ∙ ap (option_map f) is in
    map-append g made (y ∷ [])
    ∙ (ap (λ l. l ++ g y ∷ []) so_far
    ∙ (ap (λ b. take i (map f xs) ++ b ∷ []) (same ∙ sym (get_or_from_slice_get (map f xs) i (f x) (f x) at)) ∙ sym (take_more (map f xs) i (f x) (slice_get_within (map f xs) i (f x) at))))

-- ---- what a configuration sees of it

-- items under the same conditions, each of which is seen as what h makes of the other
pub items_seen : (s : Sets) (f g : Hidden → HiddenToken Place) (h : HiddenToken Place → HiddenToken Place) (xs ys : List (Cond × Hidden)) (c : List ℕ)
    → map (λ (item : Cond × Hidden). item.0) ys ≡ map (λ (item : Cond × Hidden). item.0) xs → map (λ (item : Cond × Hidden). g item.1) ys ≡ map h (map (λ (item : Cond × Hidden). f item.1) xs)
    → map g (items_at s ys c) ≡ map h (map f (items_at s xs c))
items_seen s f g h [] [] c conds seen = refl
items_seen s f g h [] (y ∷ ys) c conds seen = absurd (cc)
items_seen s f g h (x ∷ xs) [] c conds seen = absurd (cc)
items_seen s f g h (x ∷ xs) (y ∷ ys) c conds seen =
    let cond : y.0 ≡ x.0 = cc in
    let first : g y.1 ≡ h (f x.1) = cc in
    let rest_conds : map (λ (item : Cond × Hidden). item.0) ys ≡ map (λ (item : Cond × Hidden). item.0) xs = cc in
    let rest_seen : map (λ (item : Cond × Hidden). g item.1) ys ≡ map h (map (λ (item : Cond × Hidden). f item.1) xs) = cc in
    ap (λ (k : Cond). map g (if s.has k.0 c then y.1 ∷ items_at s ys c else items_at s ys c)) cond
    ∙ by (s.has x.0.0 c) first (items_seen s f g h xs ys c rest_conds rest_seen)
  where
    by : (b : Bool) → g y.1 ≡ h (f x.1) → map g (items_at s ys c) ≡ map h (map f (items_at s xs c))
        → map g (if b then y.1 ∷ items_at s ys c else items_at s ys c) ≡ map h (map f (if b then x.1 ∷ items_at s xs c else items_at s xs c))
    by true first rest = ap (λ t. t ∷ map g (items_at s ys c)) first ∙ ap (λ ts. h (f x.1) ∷ ts) rest
    by false first rest = rest

-- tokens that are held are seen as before
pub items_later : (s : Sets) (st : Stores) (files : ℕ) (names : List (List ℕ)) (hides : List (List Name)) (list : List (Cond × Hidden)) (c : List ℕ) → AllHeld st files list → Extends st.names names → Extends st.hides hides
    → map (seen_hidden names hides) (items_at s list c) ≡ map (seen_hidden st.names st.hides) (items_at s list c)
items_later s st files names hides [] c held e f = refl
items_later s st files names hides (x ∷ xs) c held e f =
    let P : Cond × Hidden → Type 0 = λ item. IsHeldToken st files item.1 in
    by (s.has x.0.0 c) (hidden_later x.1 (All-head P x xs held).held e f) (items_later s st files names hides xs c (All-tail P x xs held) e f)
  where
    by : (b : Bool) → seen_hidden names hides x.1 ≡ seen_hidden st.names st.hides x.1 → map (seen_hidden names hides) (items_at s xs c) ≡ map (seen_hidden st.names st.hides) (items_at s xs c)
        → map (seen_hidden names hides) (if b then x.1 ∷ items_at s xs c else items_at s xs c) ≡ map (seen_hidden st.names st.hides) (if b then x.1 ∷ items_at s xs c else items_at s xs c)
    by true first rest = ap (λ t. t ∷ map (seen_hidden names hides) (items_at s xs c)) first ∙ ap (λ ts. seen_hidden st.names st.hides x.1 ∷ ts) rest
    by false first rest = rest

seen_argument : (s : Sets) (see : Hidden → HiddenToken Place) (expanded : List (List (Cond × Hidden))) (n : ℕ) (c : List ℕ)
    → map see (items_at s (expanded_argument expanded n) c) ≡ argument (map (λ list. map see (items_at s list c)) expanded) n
seen_argument s see [] n c = refl
seen_argument s see (list ∷ lists) zero c = refl
seen_argument s see (list ∷ lists) (suc n) c = seen_argument s see lists n c

-- the parts of a template, with the arguments put in
pub parts_seen : (s : Sets) (names : List (List ℕ)) (hides : List (List Name)) (expanded : List (List (Cond × Hidden))) (c : List ℕ) (parts : List Part)
    → map (seen_hidden names hides) (parts_at s expanded true c parts) ≡ filled_in (map (λ list. map (seen_hidden names hides) (items_at s list c)) expanded) (map (seen_part names hides) parts)
parts_seen s names hides expanded c [] = refl
parts_seen s names hides expanded c (part.Token t ∷ ps) = ap (λ ts. seen_hidden names hides t ∷ ts) (parts_seen s names hides expanded c ps)
parts_seen s names hides expanded c (part.Argument n space ∷ ps) =
    let see = seen_hidden names hides in
    map-append see (first_spaced space (items_at s (expanded_argument expanded n) c)) (parts_at s expanded true c ps)
    ∙ (ap (λ ts. ts ++ map see (parts_at s expanded true c ps)) (spaced_first names hides (items_at s (expanded_argument expanded n) c) space ∙ ap (with_space space) (seen_argument s see expanded n c))
    ∙ ap (λ ts. with_space space (argument (map (λ list. map see (items_at s list c)) expanded) n) ++ ts) (parts_seen s names hides expanded c ps))

-- items under the conditions of others, at whose places they stand, are held
pub made_held : (s : Sets) (st : Stores) (files : ℕ) (names : List (List ℕ)) (hides : List (List Name)) (hidden : HideSet) (xs ys : List (Cond × Hidden))
    → map (λ (item : Cond × Hidden). item.0) ys ≡ map (λ (item : Cond × Hidden). item.0) xs
    → map (λ (item : Cond × Hidden). seen_hidden names hides item.1) ys ≡ hiding (provenance_of []) hidden (map (λ (item : Cond × Hidden). seen_hidden names hides item.1) xs)
    → All (λ (item : Cond × Hidden). IsCond s item.0.0) xs → AllHeld st files xs → All (λ (item : Cond × Hidden). IsHeldHidden names hides item.1) ys → AreHeld (stores s names hides) files ys
made_held s st files names hides hidden [] [] conds seen own held made = record { own = All-nil (λ (item : Cond × Hidden). IsCond s item.0.0); held = All-nil (λ (item : Cond × Hidden). IsHeldToken (stores s names hides) files item.1) }
made_held s st files names hides hidden [] (y ∷ ys) conds seen own held made = absurd (cc)
made_held s st files names hides hidden (x ∷ xs) [] conds seen own held made = absurd (cc)
made_held s st files names hides hidden (x ∷ xs) (y ∷ ys) conds seen own held made =
    let Own : Cond × Hidden → Type 0 = λ item. IsCond s item.0.0 in
    let Held : Cond × Hidden → Type 0 = λ item. IsHeldToken st files item.1 in
    let Made : Cond × Hidden → Type 0 = λ item. IsHeldHidden names hides item.1 in
    let New : Cond × Hidden → Type 0 = λ item. IsHeldToken (stores s names hides) files item.1 in
    let cond : y.0 ≡ x.0 = cc in
    let first : seen_hidden names hides y.1 ≡ hidden_by (provenance_of []) hidden (seen_hidden names hides x.1) = cc in
    let rest_conds : map (λ (item : Cond × Hidden). item.0) ys ≡ map (λ (item : Cond × Hidden). item.0) xs = cc in
    let rest_seen : map (λ (item : Cond × Hidden). seen_hidden names hides item.1) ys ≡ hiding (provenance_of []) hidden (map (λ (item : Cond × Hidden). seen_hidden names hides item.1) xs) = cc in
    let place : y.1.token.place ≡ x.1.token.place = ap (λ (t : HiddenToken Place). t.place) first in
    let rest = made_held s st files names hides hidden xs ys rest_conds rest_seen (All-tail Own x xs own) (All-tail Held x xs held) (All-tail Made y ys made) in
    record {
      own = All-cons Own y ys (subst (λ (k : Cond). IsCond s k.0) (sym cond) (All-head Own x xs own)) rest.own;
      held = All-cons New y ys (record { held = All-head Made y ys made; file = subst (λ (p : Place). p.file.0 < files) (sym place) (All-head Held x xs held).file }) rest.held;
    }
