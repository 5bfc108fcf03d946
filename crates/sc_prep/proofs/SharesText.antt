-- What configurations share of text that they gather.
use Rattle.std.proofs.Common.{◌≡◌, ◌⊎◌, inl, inr, ℕ, ◌+◌, ◌<◌, ◌≤◌, true, List, [], ◌∷◌, ◌++◌, All, drop, length, map, slice_get, take, Option, Some, append-nil, append_assoc, refl, sym, ap, subst, ◌∙◌, arith, if◌then◌else◌}
use Rattle.std.proofs.Math.Seq.{drop-append-add}
use Rattle.std.proofs.lemmas.List.{drop-append-le, length-drop, take-append-le, take-map}
use Rattle.c11_directives.specs.Footprints.{Spot, Used, definitions_of, footprint_at, source, token_itself}
use Rattle.c11_directives.specs.Pragmas.{is_pragma}
use Rattle.c11_directives.specs.PutOut.{PutsOut}
use Rattle.c11_macros.proofs.Settling.{passes-more}
use Rattle.c11_macros.specs.Hidden as model
use Rattle.c11_macros.specs.Runs.{End, Passes, Runs, Settles, Uses, over}
use Rattle.sc_base.specs.declared.fault.Fault as base_fault
use Rattle.sc_base.specs.declared.place.Place as base_place
use Rattle.sc_expand.proofs.PassesLaws.{over-source}
use Rattle.sc_expand.proofs.PlainTables.{entry_names, within-table}
use Rattle.sc_expand.proofs.TextLemmas.{seen_hidden-begun}
use Rattle.sc_expand.specs.Moved.{moved, moved_failure}
use Rattle.sc_expand.specs.Seen.{provenance_of, seen_failure}
use Rattle.sc_model.proofs.ListLemmas.{found_in, slice_get-front, slice_get-seam}
use Rattle.sc_model.specs.Token as seen_token
use Rattle.sc_model.specs.Token.{Place}
use Rattle.sc_prep.proofs.ApartLemmas.{IsApart, pairs-head, pairs-tail}
use Rattle.sc_prep.proofs.EnterMoves.{acts-unfaulty}
use Rattle.sc_prep.proofs.Facts.{All-at, All-map, items_at-append, items_at-under, length-append, length-map, map-append, take_all, under}
use Rattle.sc_prep.proofs.NameFootprints.{same-definitions as agree-by}
use Rattle.sc_prep.proofs.PragmaMoves.{awaits-append, outside-append}
use Rattle.sc_prep.proofs.RunsLonger.{runs-longer}
use Rattle.sc_prep.proofs.Terms.{AreAlike, Awaited, AwaitsAt, Cond, Definition, HasText, IsAlike, Line, Machine, Macros, Sets, Simulates, StandApart, Standard, State, Token, Walk, acts, awaits, faults_at, has_none, held_at, hidden_at, is_empty, items_at, macros_at, no_operator, outside, place_alone, position_of, seen, seen_hidden, seen_line, seen_place, set_at, token_of, unhidden}
use Rattle.sc_prep.proofs.TextPoints.{IsPoint, free-behind, is-point, told}
use Rattle.sc_prep.proofs.Texts.{bare}
use Rattle.sc_prep.proofs.WalkMoves.{read-walk}
use Rattle.sc_prep.specs.Gathered.{refused, settling}
use Rattle.sc_prep.specs.Thin.{AreSpan, ComesTo, KeepsShares, Shares, TextShares, WillPut, one_held, other_held, put, tokens_made, waits}
use Rattle.sc_subst.specs.declared.hidden.Hidden as base_hidden
use Rattle.sc_subst.specs.declared.hidden.Hide.{Hide}

-- ---- more is gathered

module _ (s : Sets) (names files : List (List ℕ)) (walk next : Walk) (more : List (Cond × base_hidden.Hidden)) where
  abbrev list : List (Cond × base_hidden.Hidden)
  list = walk.runs.gathered

  abbrev longer : Walk
  longer = record walk { runs = record walk.runs { gathered = list ++ more; read = next.runs.read } }

  abbrev see : base_hidden.Hidden → model.Hidden base_place.Place
  see = seen_hidden names walk.runs.sets

  abbrev its : List (Cond × base_hidden.Hidden) → List ℕ → List (model.Hidden base_place.Place)
  its items c = map see (items_at s items c)

  abbrev table : List ℕ → Macros
  table = macros_at s names walk.table

  its-append : (xs ys : List (Cond × base_hidden.Hidden)) (c : List ℕ) → its (xs ++ ys) c ≡ its xs c ++ its ys c
  its-append xs ys c = ap (map see) (items_at-append s xs ys c) ∙ map-append see (items_at s xs c) (items_at s ys c)

  module _ (at : ℕ) (within : at + 1 ≤ length list) where
    behind-more : (c : List ℕ) → its (drop (at + 1) (list ++ more)) c ≡ its (drop (at + 1) list) c ++ its more c
    behind-more c = ap (λ l. its l c) (drop-append-le (at + 1) list more within) ∙ its-append (drop (at + 1) list) more c

    -- it comes to the item, which becomes the same
    abbrev comes-longer : (c : List ℕ) (x : ComesTo s names files walk at c) (after : List (model.Hidden base_place.Place)) → x.end ≡ over after
        → ComesTo s names files longer at c
    comes-longer c x after ends = record {
      item = x.item;
      is = slice_get-front list more at (omega arith) ∙ x.is;
      has = x.has;
      before = x.before;
      passes =
          subst
          (λ (p : List (model.Hidden base_place.Place) × List (model.Hidden base_place.Place)). Passes (provenance_of files) (table c) p.0 x.before (see x.item.1 ∷ p.1))
          (λ i. (sym (its-append list more c) i, sym (behind-more c) i))
          (passes-more (provenance_of files) (table c) (its more c) x.passes);
      done = x.done;
      end = over (after ++ its more c);
      uses = x.uses;
      runs = subst (λ l. Runs (provenance_of files) (table c) (see x.item.1 ∷ []) l x.done (over (after ++ its more c)) x.uses) (sym (behind-more c))
          (runs-longer (provenance_of files) (table c) (its more c) (subst (λ (e : End base_place.Place). Runs (provenance_of files) (table c) (see x.item.1 ∷ []) (its (drop (at + 1) list) c) x.done e x.uses) ends x.runs));
    }

    will-longer : (c : List ℕ) (x : ComesTo s names files walk at c) (index number : ℕ) (w : WillPut s names files walk x index number)
        → WillPut s names files longer (comes-longer c x w.after w.ends) index number
    will-longer c x index number w = record {
      after = w.after ++ its more c;
      ends = refl;
      made = w.made;
      stands = w.stands;
      awaited = w.awaited;
      awaits_at = w.awaits_at;
      free = w.free;
      outside_is = w.outside_is;
      number_is = w.number_is;
    }

    module _ (size : ℕ) (fits : at + size < length list) where
      next-same : take size (drop (at + 1) (list ++ more)) ≡ take size (drop (at + 1) list)
      next-same =
          let long = length-drop (at + 1) list in
          ap (take size) (drop-append-le (at + 1) list more within) ∙ take-append-le size (drop (at + 1) list) more (omega (arith, long))

      abbrev span-longer : (c d : List ℕ) (span : AreSpan s names files walk at size c d) (after after_d : List (model.Hidden base_place.Place))
          → span.one.end ≡ over after → span.other.end ≡ over after_d → AreSpan s names files longer at size c d
      span-longer c d span after after_d ends ends_d = record {
        one = comes-longer c span.one after ends;
        other = comes-longer d span.other after_d ends_d;
        alike = subst (AreAlike s c d) (sym next-same) span.alike;
        one_within = subst (λ l. length span.one.uses.taken ≤ length (items_at s l c)) (sym next-same) span.one_within;
        other_within = subst (λ l. length span.other.uses.taken ≤ length (items_at s l d)) (sym next-same) span.other_within;
        agree = span.agree;
      }

  pub longer-shares : (c d : List ℕ) (index n m : ℕ) → Shares s names files walk c d index n m → Shares s names files longer c d index n m
  longer-shares c d index n m (put one) = put one
  longer-shares c d index n m (waits at size span fits one other) =
      let within : at + 1 ≤ length walk.runs.gathered = omega arith in
      let long = length-append walk.runs.gathered more in
      waits at size (span-longer at within size fits c d span one.after other.after one.ends other.ends) (omega (arith, long))
      (will-longer at within c span.one index n one) (will-longer at within d span.other index m other)
  longer-shares c d index n m (one_held held) = one_held held
  longer-shares c d index n m (other_held held) = other_held held

-- ---- a line of text

-- the items about one that are mapped to these
record IsSplit {A B : Type 0} (f : A → B) (list : List A) (before : List B) (one : B) (behind : List B) : Type 0 where
  front : List A
  item : A
  rest : List A
  is : list ≡ front ++ item ∷ rest
  front_is : map f front ≡ before
  item_is : f item ≡ one
  rest_is : map f rest ≡ behind

split-at : {A B : Type 0} (f : A → B) (list : List A) (before : List B) (one : B) (behind : List B) → map f list ≡ before ++ one ∷ behind
    → IsSplit f list before one behind
split-at f [] [] one behind is = absurd (cc)
split-at f [] (b ∷ bs) one behind is = absurd (cc)
split-at f (x ∷ xs) [] one behind is = record { front = []; item = x; rest = xs; is = refl; front_is = refl; item_is = cc; rest_is = cc }
split-at f (x ∷ xs) (b ∷ bs) one behind is =
    let tail : map f xs ≡ bs ++ one ∷ behind = cc in
    let first : f x ≡ b = cc in
    let s = split-at f xs bs one behind tail in
    record { front = x ∷ s.front; item = s.item; rest = s.rest; is = ap (λ l. x ∷ l) s.is; front_is = λ i. first i ∷ s.front_is i; item_is = s.item_is; rest_is = s.rest_is }

-- tokens that stand apart have one of a position
same-split : (front rest : List Token) (t : Token) (first left : List Token) (u : Token) → StandApart (front ++ t ∷ rest)
    → front ++ t ∷ rest ≡ first ++ u ∷ left → position_of t.place ≡ position_of u.place
    → (front ≡ first) × (t ≡ u) × (rest ≡ left)
same-split [] rest t [] left u apart is same = (refl, cc, cc)
same-split [] rest t (x ∷ first) left u apart is same =
    let tail : rest ≡ first ++ u ∷ left = cc in
    absurd
    (All-at (IsApart t) (first ++ u ∷ left) (length first) u (slice_get-seam first u left) (subst (All (IsApart t)) tail (pairs-head IsApart t rest apart)) same)
same-split (x ∷ front) rest t [] left u apart is same =
    let head : x ≡ u = cc in
    absurd
    (All-at (IsApart x) (front ++ t ∷ rest) (length front) t (slice_get-seam front t rest) (pairs-head IsApart x (front ++ t ∷ rest) apart) (ap (λ (v : Token). position_of v.place) head ∙ sym same))
same-split (x ∷ front) rest t (y ∷ first) left u apart is same =
    let head : x ≡ y = cc in
    let tail : front ++ t ∷ rest ≡ first ++ u ∷ left = cc in
    let more = same-split front rest t first left u (pairs-tail IsApart x (front ++ t ∷ rest) apart) tail same in
    ((λ i. head i ∷ more.0 i), more.1, more.2)

same-definitions : (us vs : List seen_token.Token) {ps qs : List (List ℕ × Option Definition)} → source us ps ≡ source vs qs → ps ≡ qs
same-definitions us vs is = cc

module _ (s : Sets) (names files : List (List ℕ)) (walk next : Walk) (hide : Hide) (none : set_at walk.runs.sets hide.0 ≡ []) (front : List Token)
    (token : Token) (rest : List Token) where
  abbrev of_line : List Token → List (Cond × base_hidden.Hidden)
  of_line ts = under walk.acting (map (bare hide) ts)

  abbrev ahead : List (Cond × base_hidden.Hidden)
  ahead = walk.runs.gathered ++ of_line front

  abbrev gathers : List (Cond × base_hidden.Hidden)
  gathers = ahead ++ (walk.acting, bare hide token) ∷ of_line rest

  abbrev with_line : Walk
  with_line = record walk { runs = record walk.runs { gathered = gathers; read = next.runs.read } }

  abbrev look : base_hidden.Hidden → model.Hidden base_place.Place
  look = seen_hidden names walk.runs.sets

  abbrev bares : List Token → List (model.Hidden base_place.Place)
  bares ts = map look (map (bare hide) ts)

  abbrev defined : List ℕ → Macros
  defined = macros_at s names walk.table

  bare-told : (t : Token) → moved (seen_place files) (look (bare hide t)) ≡ unhidden (seen names files t)
  bare-told t = ap (moved (seen_place files)) (seen_hidden-begun names walk.runs.sets (bare hide t) none)

  bares-told : (ts : List Token) → told files (bares ts) ≡ map unhidden (map (seen names files) ts)
  bares-told [] = refl
  bares-told (t ∷ ts) = λ i. bare-told t i ∷ bares-told ts i

  behind-line : drop (length ahead + 1) gathers ≡ of_line rest
  behind-line = drop-append-add ahead ((walk.acting, bare hide token) ∷ of_line rest) 1

  -- a configuration comes to the token of the line, which it will put out as the text does
  record TextAt (c : List ℕ) (f : Spot × Used) (index number : ℕ) : Type 0 where
    comes : ComesTo s names files with_line (length ahead) c
    will : WillPut s names files with_line comes index number
    few : length comes.uses.taken ≤ length (items_at s (of_line rest) c)
    tokens : List seen_token.Token
    used : f.1 ≡ source tokens (definitions_of (defined c) comes.uses.looked_up)

  module _ (c : List ℕ) (acting : s.has walk.acting.0 c ≡ true) where
    abbrev here : List (Cond × base_hidden.Hidden) → List (model.Hidden base_place.Place)
    here items = map look (items_at s items c)

    here-line : (ts : List Token) → here (of_line ts) ≡ bares ts
    here-line ts = ap (map look) (items_at-under s walk.acting (map (bare hide) ts) c ∙ ap (λ b. if b then map (bare hide) ts else []) acting)

    here-behind : here (drop (length ahead + 1) gathers) ≡ bares rest
    here-behind = ap here behind-line ∙ here-line rest

    here-all : here gathers ≡ here ahead ++ look (bare hide token) ∷ bares rest
    here-all =
        its-append s names files walk next [] ahead ((walk.acting, bare hide token) ∷ of_line rest) c
        ∙ ap (λ l. here ahead ++ l)
        (ap (λ b. map look (if b then bare hide token ∷ items_at s (of_line rest) c else items_at s (of_line rest) c)) acting ∙ ap (λ l. look (bare hide token) ∷ l) (here-line rest))

    module _ (k : State) (same : defined c ≡ k.macros) (line : Line) (f : Spot × Used) (index number : ℕ) (p : PutsOut k line f index number)
        (front_is : map (seen names files) front ≡ p.before) (token_is : seen names files token ≡ p.token)
        (rest_is : map (seen names files) rest ≡ p.behind) (awaited : Awaited) (awaiting : AwaitsAt s files walk.runs.pragmas c awaited) where
      module _ (before new : List seen_token.Token) (out left : List (model.Hidden Place)) (run : k.run ≡ before ++ new)
          (settles : Settles place_alone k.macros (map unhidden before) out left)
          (gathered : hidden_at s names files walk.runs.sets walk.runs.gathered c ≡ left ++ map unhidden new) (list : map (seen names files) (items_at s walk.prepared.list c) ≡ k.output ++ outside no_operator (map token_of out))
          (awaits_is : awaited ≡ awaits no_operator (map token_of out)) where
        text-told : told files (here ahead) ≡ left ++ map unhidden (new ++ p.before)
        text-told =
            ap (told files) (its-append s names files walk next [] walk.runs.gathered (of_line front) c ∙ ap (λ l. here walk.runs.gathered ++ l) (here-line front))
            ∙ (map-append (moved (seen_place files)) (here walk.runs.gathered) (bares front)
            ∙ ((λ i. gathered i ++ (bares-told front ∙ ap (map unhidden) front_is) i)
            ∙ (append_assoc left (map unhidden new) (map unhidden p.before) ∙ ap (λ l. left ++ l) (sym (map-append unhidden new p.before)))))

        whole-run : map unhidden (k.run ++ p.before) ≡ map unhidden before ++ map unhidden (new ++ p.before)
        whole-run =
            ap (λ l. map unhidden (l ++ p.before)) run ∙ (ap (map unhidden) (append_assoc before new p.before) ∙ map-append unhidden before (new ++ p.before))

        point : IsPoint files (defined c) (here ahead) (look (bare hide token)) (bares rest) out p.out p.done p.uses
        point =
            is-point files (defined c) (entry_names names walk.table.entries.entries) (within-table s names walk.table c) (map unhidden before)
            (map unhidden (new ++ p.before)) out left p.out (here ahead)
            (subst (λ (ms : Macros). Settles place_alone ms (map unhidden before) out left) (sym same) settles) text-told
            (subst (λ (q : Macros × List (model.Hidden Place)). Settles place_alone q.0 q.1 p.out []) (λ i. (sym same i, whole-run i)) p.settles)
            (look (bare hide token)) (bares rest)
            (subst (λ (q : Macros × (model.Hidden Place × List (model.Hidden Place))). Runs place_alone q.0 (q.1.0 ∷ []) q.1.1 p.done (over p.after) p.uses)
            (λ i. (sym same i, (sym (bare-told token ∙ ap unhidden token_is) i, sym (bares-told rest ∙ ap (map unhidden) rest_is) i))) p.runs)

        abbrev comes-there : ComesTo s names files with_line (length ahead) c
        comes-there = record {
          item = (walk.acting, bare hide token);
          is = slice_get-seam ahead (walk.acting, bare hide token) (of_line rest);
          has = acting;
          before = point.before;
          passes =
              subst
              (λ (q : List (model.Hidden base_place.Place) × List (model.Hidden base_place.Place)). Passes (provenance_of files) (defined c) q.0 point.before (look (bare hide token) ∷ q.1))
              (λ i. (sym here-all i, sym here-behind i))
              (passes-more (provenance_of files) (defined c) (look (bare hide token) ∷ bares rest) point.passes);
          done = point.done_of;
          end = over point.after;
          uses = point.used;
          runs = subst (λ l. Runs (provenance_of files) (defined c) (look (bare hide token) ∷ []) l point.done_of (over point.after) point.used)
              (sym here-behind) point.runs;
        }

        abbrev made : List seen_token.Token
        made = tokens_made files (point.before ++ take index point.done_of)

        all-made : map token_of (p.out ++ take index p.done) ≡ map token_of out ++ made
        all-made =
            ap (map token_of) ((λ i. point.out_is i ++ take index (point.done_is i))
            ∙ (append_assoc out (told files point.before) (take index (told files point.done_of))
            ∙ ap (λ l. out ++ l)
            (ap (λ l. told files point.before ++ l) (take-map (moved (seen_place files)) index point.done_of) ∙ sym (map-append (moved (seen_place files)) point.before (take index point.done_of)))))
            ∙ map-append token_of out (told files (point.before ++ take index point.done_of))

        free : (awaits no_operator (map token_of (p.out ++ take index p.done)) ≡ no_operator) × (p.earlier ≡ outside no_operator (map token_of (p.out ++ take index p.done)))
        free = free-behind (map token_of (p.out ++ take index p.done)) p.earlier p.carried

        counted : length (items_at s walk.prepared.list c) ≡ length k.output + length (outside no_operator (map token_of out))
        counted =
            sym (length-map (items_at s walk.prepared.list c) (seen names files))
            ∙ (ap length list ∙ length-append k.output (outside no_operator (map token_of out)))

        later : length p.earlier ≡ length (outside no_operator (map token_of out)) + length (outside awaited made)
        later =
            ap length
            (free.1 ∙ (ap (outside no_operator) all-made ∙ (outside-append no_operator (map token_of out) made ∙ ap (λ a. outside no_operator (map token_of out) ++ outside a made) (sym awaits_is))))
            ∙ length-append (outside no_operator (map token_of out)) (outside awaited made)

        will-there : WillPut s names files with_line comes-there index number
        will-there =
            let m = found_in (moved (seen_place files)) point.done_of index p.made (ap (λ l. slice_get l index) (sym point.done_is) ∙ p.stands) in
            record {
              after = point.after;
              ends = refl;
              made = m.0;
              stands = m.1;
              awaited = awaited;
              awaits_at = awaiting;
              free = ap (λ a. awaits a made) awaits_is ∙ (sym (ap (awaits no_operator) all-made ∙ awaits-append no_operator (map token_of out) made) ∙ free.0);
              outside_is = ap (λ h. is_pragma (token_of h)) m.2 ∙ p.outside;
              number_is = let n = p.number_is in let one = counted in let two = later in omega (arith, n, one, two);
            }

        text-there : TextAt c f index number
        text-there = record {
          comes = comes-there;
          will = will-there;
          few =
              let all = ap length (over-source (provenance_of files) (defined c) point.runs) ∙ length-append point.used.taken point.after in
              let as-many = ap length (sym (here-line rest)) ∙ length-map (items_at s (of_line rest) c) look in
              omega (arith, all, as-many);
          tokens = p.token ∷ map token_of p.uses.taken;
          used = ap (λ (g : Spot × Used). g.1) p.footprint
              ∙ (λ i. source (p.token ∷ map token_of p.uses.taken) (definitions_of (sym same i) (ap (λ (u : Uses Place). u.looked_up) point.uses_is i)));
        }

      -- so it is unless a fault holds it
      text-at : (faults : List (model.Failure Place)) → faults ≡ held_at s files walk.runs.held.items c
          → HasText k (hidden_at s names files walk.runs.sets walk.runs.gathered c) (map (seen names files) (items_at s walk.prepared.list c)) awaited faults
          → TextAt c f index number ⊎ (has_none s walk.runs.held.items c ≡ true → ⊥)
      text-at _ faults (settling before new out left run settles gathered list awaits_is) =
          inl (text-there before new out left run settles gathered list awaits_is)
      text-at _ faults (refused before new failure run is) = inr (λ free. by (faults_at s walk.runs.held.items c) free faults)
        where
          by : (fs : List base_fault.Fault) → is_empty fs ≡ true → (failure ∷ []) ≡ map (moved_failure (seen_place files)) (map seen_failure fs) → ⊥
          by [] empty some = cc
          by (x ∷ xs) empty some = absurd (cc)

-- configurations that take a line share what they put out of it
module _ (standard : Standard) (s : Sets) (names files : List (List ℕ)) (walk : Walk) (hide : Hide) (none : set_at walk.runs.sets hide.0 ≡ [])
    (tokens : List Token) where
  module _ (front rest : List Token) (token : Token) where
    abbrev Point : List ℕ → Spot × Used → ℕ → ℕ → Type 0
    Point = TextAt s names files walk (read-walk walk hide tokens) hide none front token rest

    -- of one of them
    text-point : (c : List ℕ) (k : Machine) → Simulates s names files walk c k → acts k ≡ true
        → (f : Spot × Used) (index n : ℕ) (p : PutsOut k.state (seen_line standard names files tokens) f index n)
        → map (seen names files) front ≡ p.before → seen names files token ≡ p.token → map (seen names files) rest ≡ p.behind
        → Point c f index n ⊎ (has_none s walk.runs.held.items c ≡ true → ⊥)
    text-point c k at acts f index n p front_is token_is rest_is =
        let unrefused = acts-unfaulty k acts in
        let run = at.text unrefused in
        text-at s names files walk (read-walk walk hide tokens) hide none front token rest c (at.acting ∙ acts) k.state (λ i name. at.macros unrefused name i)
        (seen_line standard names files tokens) f index n p front_is token_is rest_is
        run.awaited run.awaits (held_at s files walk.runs.held.items c) refl run.text

    abbrev after_text : Walk
    after_text = with_line s names files walk (read-walk walk hide tokens) hide none front token rest

    abbrev spot : ℕ
    spot = length (walk.runs.gathered ++ under walk.acting (map (bare hide) front))

    abbrev line-span : (c d : List ℕ) (f : Spot × Used) (index n m : ℕ) → s.has walk.acting.0 c ≡ true → s.has walk.acting.0 d ≡ true
        → (x : Point c f index n) (y : Point d f index m) → AreSpan s names files after_text spot (length rest) c d
    line-span c d f index n m acts_c acts_d x y =
        let of_rest = under walk.acting (map (bare hide) rest) in
        let next : take (length rest) (drop (spot + 1) after_text.runs.gathered) ≡ of_rest =
        ap (take (length rest)) (behind-line s names files walk (read-walk walk hide tokens) hide none front token rest)
        ∙ take_all (length rest) of_rest (at-most rest) in
        record {
          one = x.comes;
          other = y.comes;
          alike = subst (AreAlike s c d) (sym next)
              (All-map (λ (item : Cond × base_hidden.Hidden). IsAlike s c d item.0) (λ t. (walk.acting, t)) (map (bare hide) rest) (λ k e h. acts_c ∙ sym acts_d));
          one_within = subst (λ l. length x.comes.uses.taken ≤ length (items_at s l c)) (sym next) x.few;
          other_within = subst (λ l. length y.comes.uses.taken ≤ length (items_at s l d)) (sym next) y.few;
          agree = agree-by (macros_at s names walk.table c) (macros_at s names walk.table d) x.comes.uses.looked_up y.comes.uses.looked_up
              (same-definitions x.tokens y.tokens (sym x.used ∙ y.used));
        }
      where
        at-most : (ts : List Token) → length (under walk.acting (map (bare hide) ts)) ≤ length ts
        at-most ts =
            let one = length-map {B = Cond × base_hidden.Hidden} (map (bare hide) ts) (λ (h : base_hidden.Hidden). (walk.acting, h)) in let two = length-map ts
            (bare hide) in omega (arith, one, two)

    line-shares : (c d : List ℕ) (f : Spot × Used) (index n m : ℕ) → s.has walk.acting.0 c ≡ true → s.has walk.acting.0 d ≡ true
        → Point c f index n ⊎ (has_none s walk.runs.held.items c ≡ true → ⊥)
        → Point d f index m ⊎ (has_none s walk.runs.held.items d ≡ true → ⊥) → Shares s names files after_text c d index n m
    line-shares c d f index n m acts_c acts_d (inr held) y = one_held held
    line-shares c d f index n m acts_c acts_d (inl x) (inr held) = other_held held
    line-shares c d f index n m acts_c acts_d (inl x) (inl y) =
        let one = length-map {B = Cond × base_hidden.Hidden} (map (bare hide) rest) (λ (h : base_hidden.Hidden). (walk.acting, h)) in
        let two = length-map rest (bare hide) in
        let all =
        length-append (walk.runs.gathered ++ under walk.acting (map (bare hide) front))
        ((walk.acting, bare hide token) ∷ under walk.acting (map (bare hide) rest)) in
        waits spot (length rest) (line-span c d f index n m acts_c acts_d x y) (omega (arith, one, two, all)) x.will y.will

  pub text-shares : StandApart tokens → TextShares files names s walk (seen_line standard names files tokens) names s (read-walk walk hide tokens)
  text-shares apart c d listed listed_d live live_d k l at at_d takes takes_d f index n m p q =
      let a = split-at (seen names files) tokens p.before p.token p.behind p.is in
      let b = split-at (seen names files) tokens q.before q.token q.behind q.is in
      let tokens_are : p.token ≡ q.token = same-token p.token q.token (sym p.footprint ∙ q.footprint) in
      let same =
      same-split a.front a.rest a.item b.front b.rest b.item (subst StandApart a.is apart) (sym a.is ∙ b.is)
      (ap (λ (t : seen_token.Token). t.place.position) (a.item_is ∙ (tokens_are ∙ sym b.item_is))) in
      let cond = walk.acting in
      let gathered : gathers s names files walk (read-walk walk hide tokens) hide none a.front a.item a.rest ≡ walk.runs.gathered ++ under cond (map (bare hide) tokens) =
      append_assoc walk.runs.gathered (under cond (map (bare hide) a.front)) (under cond (map (bare hide) (a.item ∷ a.rest)))
      ∙ ap (λ xs. walk.runs.gathered ++ xs)
      (sym (ap (λ ts. under cond (map (bare hide) ts)) a.is ∙ (ap (under cond) (map-append (bare hide) a.front (a.item ∷ a.rest)) ∙ map-append (λ h. (cond, h)) (map (bare hide) a.front) (map (bare hide) (a.item ∷ a.rest)))))
      in
      subst
      (λ (g : List (Cond × base_hidden.Hidden)). Shares s names files (record walk { runs = record walk.runs { gathered = g; read = walk.runs.read ++ under cond (map Some tokens) } }) c d index n m)
      gathered
      (line-shares a.front a.rest a.item c d f index n m (at.acting ∙ takes) (at_d.acting ∙ takes_d)
      (text-point a.front a.rest a.item c k at takes f index n p a.front_is a.item_is a.rest_is)
      (text-point a.front a.rest a.item d l at_d takes_d f index m q (ap (map (seen names files)) same.0 ∙ b.front_is) (ap (seen names files) same.1 ∙ b.item_is) (ap (map (seen names files)) same.2 ∙ b.rest_is)))
    where
      same-token : (t u : seen_token.Token) {xs ys : List seen_token.Token} {ps qs : List (List ℕ × Option Definition)}
          → footprint_at t xs ps ≡ footprint_at u ys qs → t ≡ u
      same-token t u is = let spots = ap (λ (g : Spot × Used). g.0) is in by t u spots
        where
          by : (t u : seen_token.Token) → token_itself t ≡ token_itself u → t ≡ u
          by t u is = cc

-- what they shared before it they share
pub put-shares : (s : Sets) (names files : List (List ℕ)) (walk : Walk) (hide : Hide) (tokens : List Token)
    → KeepsShares files names s walk files names s (read-walk walk hide tokens)
put-shares s names files walk hide tokens = record {
  longer = ([], sym (append-nil walk.prepared.list));
  at = λ c d listed listed_d live live_d k l at at_d _ _ index n m shares. longer-shares s names files walk (read-walk walk hide tokens)
      (under walk.acting (map (bare hide) tokens)) c d index n m shares;
}
