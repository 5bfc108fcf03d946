-- What configurations share they share as the stores grow and more is put out.
use Rattle.std.proofs.Common.{◌≡◌, ◌⊎◌, inl, inr, ℕ, ◌+◌, ◌<◌, ◌≤◌, ltb, Bool, true, false, List, [], ◌∷◌, ◌++◌, All, append-nil, drop, length, map, take, unwrap_or, append_assoc, refl, sym, ap, subst, ◌∙◌, arith}
use Rattle.std.proofs.lemmas.Bool.{le-ltb, lt-ltb}
use Rattle.std.proofs.lemmas.List.{take-map}
use Rattle.std.proofs.lemmas.Option.{slice_get-map, slice_get_past}
use Rattle.c11_directives.specs.Pragmas.{is_pragma}
use Rattle.c11_directives.specs.Reaches.{Moment}
use Rattle.c11_macros.specs.Hidden as model
use Rattle.c11_macros.specs.Runs.{Passes, Runs}
use Rattle.sc_base.specs.declared.place.Place as base_place
use Rattle.sc_base.specs.declared.token.Token as base
use Rattle.sc_base.specs.declared.fault.Fault as base_fault
use Rattle.sc_expand.proofs.AlikeLemmas.{AreAlike-Keeps}
use Rattle.sc_expand.specs.Moved.{IsKept, moved}
use Rattle.sc_expand.specs.Seen.{provenance_of}
use Rattle.sc_expand.specs.Spans.{ComesAt, IsSpan}
use Rattle.sc_expand.specs.Thin.{IsNth}
use Rattle.sc_prep.proofs.Contents.{place-later}
use Rattle.sc_prep.proofs.Facts.{All-at, All-drop, All-head, All-tail, All-take, Extends-refl, IsConfig-Keeps, cases_lt, faults_at-Keeps, items_at-Keeps, length-map, map-append, map-map, recursion_from_All}
use Rattle.sc_prep.proofs.Grown.{faults-later}
use Rattle.sc_prep.proofs.NthItems.{nth-front, nth-kept}
use Rattle.sc_prep.proofs.PragmaMoves.{awaits-kept}
use Rattle.sc_prep.proofs.RunsMoved.{moved_end, moved_uses, passes-moved, runs-moved}
use Rattle.sc_prep.proofs.Terms.{Agree, AwaitsAt, Awaited, Cond, Extends, Hidden, IsCond, IsConfig, IsHeldHidden, IsStored, Keeps, Machine, Macros, Name, OpenRuns, OwnsPragmas, Place, Sets, Simulates, Token, Walk, awaits, has_none, is_empty, items_at, macros_at, option_map, outside, seen_hidden, seen_place, text_at, token_of}
use Rattle.sc_prep.proofs.Texts.{items_at-All}
use Rattle.sc_prep.specs.Pragmas.{ArePragmasPlaced}
use Rattle.sc_prep.specs.declared.pragmas.Pragmas.{Pragmas}
use Rattle.sc_prep.specs.Thin.{AreSpan, ComesTo, KeepsShares, KeepsSharesOf, Shares, WherePutOut, WillPut, one_held, other_held, put, tokens_made, waits}
use Rattle.sc_subst.proofs.Later.{hidden_later}
use Rattle.sc_subst.specs.declared.hidden.Hidden as base_hidden

-- it stays the n-th of a list that grows
pub nth-later : {old new : Sets} (keeps : Keeps old new) (c : List ℕ) → IsConfig old.arities c → {T : Type 0} (xs ys : List (Cond × T))
    → All (λ (item : Cond × T). IsCond old item.0.0) xs
    → (n i : ℕ) → IsNth old xs c n i → IsNth new (xs ++ ys) c n i
nth-later {new = new} keeps c listed xs ys own n i is = nth-front new c xs ys n i (nth-kept xs keeps own listed n i is)

-- ---- a map of places to those that a longer table tells as the same

module _ (files more : List (List ℕ)) where
  abbrev placed_by : Bool → base_place.Place → base_place.Place
  placed_by true p = p
  placed_by false p = record p { file = record { 0 = length more } }

  abbrev later_place : base_place.Place → base_place.Place
  later_place p = placed_by (ltb p.file.0 (length files)) p

  module _ {names spelled : List (List ℕ)} (grows : Extends names spelled) (files_grow : Extends files more) where
    same-place : (p : base_place.Place) → seen_place more (later_place p) ≡ seen_place files p
    same-place p = by (cases_lt p.file.0 (length files))
      where
        none : (id : ℕ) → length files ≤ id → text_at files id ≡ []
        none id past = ap (λ o. unwrap_or o []) (slice_get_past files id past)

        last : text_at more (length more) ≡ []
        last = ap (λ o. unwrap_or o []) (slice_get_past more (length more) (omega arith))

        by : (p.file.0 < length files) ⊎ (length files ≤ p.file.0) → seen_place more (later_place p) ≡ seen_place files p
        by (inl there) = ap (λ b. seen_place more (placed_by b p)) (lt-ltb p.file.0 (length files) there) ∙ place-later grows files_grow p there
        by (inr past) =
            ap (λ b. seen_place more (placed_by b p)) (le-ltb p.file.0 (length files) past)
            ∙ ap (λ t. record (seen_place files p) { file = t }) (last ∙ sym (none p.file.0 past))

    pub place-kept : IsKept (provenance_of files) (provenance_of more) later_place
    place-kept = record { place = same-place; mark = λ p. refl }

    abbrev places : List (model.Hidden base_place.Place) → List (model.Hidden base_place.Place)
    places = map (moved later_place)

    tokens-kept : (ts : List (model.Hidden base_place.Place)) → tokens_made more (places ts) ≡ tokens_made files ts
    tokens-kept ts =
        ap (map token_of) (map-map (moved (seen_place more)) (moved later_place) ts ∙ (λ i. map (λ t. record (moved (seen_place files) t) { place = same-place t.place i }) ts))

    -- ---- what is gathered

    module _ {sets hides : List (List Name)} (hides_grow : Extends sets hides) where
      abbrev IsThere : base_hidden.Hidden → Type 0
      IsThere h = IsHeldHidden names sets h × (h.token.place.file.0 < length files)

      hidden-kept : (h : base_hidden.Hidden) → IsThere h → seen_hidden spelled hides h ≡ moved later_place (seen_hidden names sets h)
      hidden-kept h there =
          hidden_later h there.0 grows hides_grow
          ∙ ap (λ b. record (seen_hidden names sets h) { place = placed_by b h.token.place }) (sym (lt-ltb h.token.place.file.0 (length files) there.1))

      all-kept : (hs : List base_hidden.Hidden) → All IsThere hs → map (seen_hidden spelled hides) hs ≡ places (map (seen_hidden names sets) hs)
      all-kept [] all = refl
      all-kept (h ∷ hs) all =
          ap (λ x. x ∷ map (seen_hidden spelled hides) hs) (hidden-kept h (All-head IsThere h hs all))
          ∙ ap (λ xs. moved later_place (seen_hidden names sets h) ∷ xs) (all-kept hs (All-tail IsThere h hs all))

      module _ {old new : Sets} (keeps : Keeps old new) (list : List (Cond × base_hidden.Hidden))
          (own : All (λ (item : Cond × base_hidden.Hidden). IsCond old item.0.0) list)
          (held : All (λ (item : Cond × base_hidden.Hidden). IsThere item.1) list) where
        part-kept : (items : List (Cond × base_hidden.Hidden)) (c : List ℕ) → IsConfig old.arities c
            → All (λ (item : Cond × base_hidden.Hidden). IsCond old item.0.0) items → All (λ (item : Cond × base_hidden.Hidden). IsThere item.1) items
            → map (seen_hidden spelled hides) (items_at new items c) ≡ places (map (seen_hidden names sets) (items_at old items c))
        part-kept items c listed mine there =
            ap (map (seen_hidden spelled hides)) (items_at-Keeps items c keeps mine listed)
            ∙ all-kept (items_at old items c) (items_at-All IsThere old items c there)

        module _ (macros later : List ℕ → Macros) (at : ℕ) where
          abbrev Was : List ℕ → Type 0
          Was c = ComesAt (seen_hidden names sets) (provenance_of files) macros old list at c

          abbrev Is : List ℕ → Type 0
          Is c = ComesAt (seen_hidden spelled hides) (provenance_of more) later new list at c

          module _ (c : List ℕ) (listed : IsConfig old.arities c) (same : later c ≡ macros c) where
            first-kept : (x : Was c) → seen_hidden spelled hides x.item.1 ≡ moved later_place (seen_hidden names sets x.item.1)
            first-kept x = hidden-kept x.item.1 (All-at (λ (item : Cond × base_hidden.Hidden). IsThere item.1) list at x.item x.is held)

            behind-kept : map (seen_hidden spelled hides) (items_at new (drop (at + 1) list) c) ≡ places (map (seen_hidden names sets) (items_at old (drop (at + 1) list) c))
            behind-kept =
                part-kept (drop (at + 1) list) c listed (All-drop (λ (item : Cond × base_hidden.Hidden). IsCond old item.0.0) (at + 1) list own)
                (All-drop (λ (item : Cond × base_hidden.Hidden). IsThere item.1) (at + 1) list held)

            -- it comes to the item, which becomes the same
            abbrev comes-kept : Was c → Is c
            comes-kept x =
                let whole = part-kept list c listed own held in
                record {
                  item = x.item;
                  is = x.is;
                  has = keeps.at x.item.0.0 c (All-at (λ (item : Cond × base_hidden.Hidden). IsCond old item.0.0) list at x.item x.is own) listed ∙ x.has;
                  before = places x.before;
                  passes =
                      subst
                      (λ (p : Macros × List (model.Hidden base_place.Place) × List (model.Hidden base_place.Place)). Passes (provenance_of more) p.0 p.1 (places x.before) p.2)
                      (λ i. (sym same i, sym whole i, sym (first-kept x) i ∷ sym behind-kept i)) (passes-moved later_place place-kept (macros c) x.passes);
                  done = places x.done;
                  end = moved_end later_place x.end;
                  uses = moved_uses later_place x.uses;
                  runs =
                      subst
                      (λ (p : Macros × List (model.Hidden base_place.Place) × List (model.Hidden base_place.Place)). Runs (provenance_of more) p.0 p.1 p.2 (places x.done) (moved_end later_place x.end) (moved_uses later_place x.uses))
                      (λ i. (sym same i, sym (first-kept x) i ∷ [], sym behind-kept i)) (runs-moved later_place place-kept (macros c) x.runs);
                }

          abbrev WasSpan : (size : ℕ) (c d : List ℕ) → Type 0
          WasSpan size c d = IsSpan (seen_hidden names sets) (provenance_of files) macros old list at size c d

          abbrev span-kept : (size : ℕ) (c d : List ℕ) (listed : IsConfig old.arities c) (listed_d : IsConfig old.arities d) (same : later c ≡ macros c) (same_d : later d ≡ macros d)
              → WasSpan size c d
              → IsSpan (seen_hidden spelled hides) (provenance_of more) later new list at size c d
          span-kept size c d listed listed_d same same_d span =
              let next = take size (drop (at + 1) list) in
              let mine =
              All-take (λ (item : Cond × base_hidden.Hidden). IsCond old item.0.0) size (drop (at + 1) list)
              (All-drop (λ (item : Cond × base_hidden.Hidden). IsCond old item.0.0) (at + 1) list own) in
              record {
                one = comes-kept c listed same span.one;
                other = comes-kept d listed_d same_d span.other;
                alike = AreAlike-Keeps keeps listed listed_d next mine span.alike;
                one_within = few c listed next mine span.one.uses.taken span.one_within;
                other_within = few d listed_d next mine span.other.uses.taken span.other_within;
                agree = subst (λ (p : Macros × Macros). Agree p.0 p.1 span.one.uses.looked_up) (λ i. (sym same i, sym same_d i)) span.agree;
              }
            where
              few : (e : List ℕ) → IsConfig old.arities e → (next : List (Cond × base_hidden.Hidden))
                  → All (λ (item : Cond × base_hidden.Hidden). IsCond old item.0.0) next → (taken : List (model.Hidden base_place.Place))
                  → length taken ≤ length (items_at old next e) → length (places taken) ≤ length (items_at new next e)
              few e now next mine taken within =
                  let one = length-map taken (moved later_place) in
                  let two = ap length (items_at-Keeps next e keeps mine now) in
                  omega (arith, one, two, within)

-- ---- what is shared

module _ (old : Sets) (names files : List (List ℕ)) (walk : Walk) (new : Sets) (more more_files : List (List ℕ)) (next : Walk) where
  -- what the configuration has put out stays, and a fault that held it holds it
  pub record StaysPut (c : List ℕ) : Type 0 where
    pub nth : (n i : ℕ) → IsNth old walk.prepared.list c n i → IsNth new next.prepared.list c n i
    pub held : has_none new next.runs.held.items c ≡ true → has_none old walk.runs.held.items c ≡ true

  -- what waited of both they share
  abbrev pub SharesWaiting : (c d : List ℕ) (index n m : ℕ) → Type 0
  SharesWaiting c d index n m =
      (at size : ℕ) (span : AreSpan old names files walk at size c d) → at + size < length walk.runs.gathered
      → WillPut old names files walk span.one index n → WillPut old names files walk span.other index m → Shares new more more_files next c d index n m

  -- and what they shared
  pub shares-moved : (c d : List ℕ) → StaysPut c → StaysPut d → (index n m : ℕ) → SharesWaiting c d index n m
      → Shares old names files walk c d index n m → Shares new more more_files next c d index n m
  shares-moved c d one other index n m waiting (put have) = put (have.0, one.nth n have.0 have.1, other.nth m have.0 have.2)
  shares-moved c d one other index n m waiting (waits at size span below a b) = waiting at size span below a b
  shares-moved c d one other index n m waiting (one_held held) = one_held (λ none. held (one.held none))
  shares-moved c d one other index n m waiting (other_held held) = other_held (λ none. held (other.held none))

module _ {files names more_files more : List (List ℕ)} {old new : Sets} (keeps : Keeps old new) (grows : Extends names more)
    (files_grow : Extends files more_files) where
  pub awaits-later : {p : Pragmas} {c : List ℕ} {a : Awaited} → OwnsPragmas old p → ArePragmasPlaced (length files) p → IsConfig old.arities c
      → AwaitsAt old files p c a → AwaitsAt new more_files p c a
  awaits-later {p} {c} owns placed listed at =
      let kept = awaits-kept keeps owns listed at in
      record {
        inside = kept.inside;
        opening = kept.opening;
        text = kept.text;
        closing = kept.closing;
        faults = faults-later new files_grow p.faults.items c (recursion_from_All (λ (f : base_fault.Fault). f.place.file.0 < length files) p.faults.items placed) ∙ kept.faults;
      }

  module _ (walk next : Walk) {hides : List (List Name)} (stored : IsStored old names (length files) walk) (hides_grow : Extends walk.runs.sets hides)
      (behind : List (Cond × base.Token)) where
    abbrev grown : Walk
    grown = record next { runs = record walk.runs { sets = hides }; prepared = record next.prepared { list = walk.prepared.list ++ behind } }

    abbrev later : List ℕ → Macros
    later = macros_at new more next.table

    abbrev was : List ℕ → Macros
    was = macros_at old names walk.table

    abbrev then_comes : {at : ℕ} (e : List ℕ) → IsConfig old.arities e → later e ≡ was e → ComesTo old names files walk at e
        → ComesTo new more more_files grown at e
    then_comes {at} e listed same x =
        comes-kept files more_files grows files_grow hides_grow keeps walk.runs.gathered stored.owns.runs.gathered stored.held.runs.gathered was later at e
        listed same x

    will-kept : {at : ℕ} (e : List ℕ) (listed : IsConfig old.arities e) (same : later e ≡ was e)
        → length (items_at new (walk.prepared.list ++ behind) e) ≡ length (items_at old walk.prepared.list e) → (x : ComesTo old names files walk at e)
        → (index number : ℕ)
        → WillPut old names files walk x index number → WillPut new more more_files grown (then_comes e listed same x) index number
    will-kept e listed same long x index number w =
        let f = later_place files more_files in
        let all = map (moved f) in
        let tokens : tokens_made more_files (all x.before ++ take index (all x.done)) ≡ tokens_made files (x.before ++ take index x.done) =
        ap (tokens_made more_files) (ap (λ l. all x.before ++ l) (take-map (moved f) index x.done) ∙ sym (map-append (moved f) x.before (take index x.done)))
        ∙ tokens-kept files more_files grows files_grow (x.before ++ take index x.done) in
        record {
          after = all w.after;
          ends = ap (moved_end f) w.ends;
          made = moved f w.made;
          stands = slice_get-map (moved f) x.done index ∙ ap (option_map (moved f)) w.stands;
          awaited = w.awaited;
          awaits_at = awaits-later stored.owns.runs.pragmas stored.held.runs.pragmas listed w.awaits_at;
          free = ap (awaits w.awaited) tokens ∙ w.free;
          outside_is =
              ap (λ p. is_pragma (record (token_of (moved (seen_place files) w.made)) { place = p }))
              (same-place files more_files grows files_grow w.made.place)
              ∙ w.outside_is;
          number_is = w.number_is ∙ (λ i. sym long i + length (outside w.awaited (sym tokens i)));
        }

    -- who comes to something that is gathered defines the same
    abbrev pub Defines : List ℕ → Type 0
    Defines e = (at : ℕ) → ComesTo old names files walk at e → later e ≡ was e

    stays-put : (e : List ℕ) → IsConfig old.arities e → StaysPut old names files walk new more more_files grown e
    stays-put e listed = record {
      nth = nth-later keeps e listed walk.prepared.list behind stored.owns.prepared.list;
      held = λ none. sym (ap is_empty (faults_at-Keeps walk.runs.held.items e keeps stored.owns.runs.held listed)) ∙ none;
    }

    grown-shares : (c d : List ℕ) → IsConfig old.arities c → IsConfig old.arities d → Defines c → Defines d
        → length (items_at new (walk.prepared.list ++ behind) c) ≡ length (items_at old walk.prepared.list c)
        → length (items_at new (walk.prepared.list ++ behind) d) ≡ length (items_at old walk.prepared.list d)
        → (index n m : ℕ) → Shares old names files walk c d index n m → Shares new more more_files grown c d index n m
    grown-shares c d p q same same_d long long_d index n m =
        shares-moved old names files walk new more more_files grown c d (stays-put c p) (stays-put d q) index n m
        (λ at size span below one other.
        let is = same at span.one in
        let is_d = same_d at span.other in
        waits at size
        (span-kept files more_files grows files_grow hides_grow keeps walk.runs.gathered stored.owns.runs.gathered stored.held.runs.gathered was later at size
        c d p q is is_d span) below (will-kept c p is long span.one index n one) (will-kept d q is_d long_d span.other index m other))

-- The stores grow, and more is put out of which the two have nothing: they share what they shared.
pub shares-kept : {files names more_files more : List (List ℕ)} {old new : Sets} → Keeps old new → Extends names more → Extends files more_files
    → (walk next : Walk) {hides : List (List Name)} → IsStored old names (length files) walk
    → Extends walk.runs.sets hides → next.runs ≡ record walk.runs { sets = hides } → (c d : List ℕ) → IsConfig old.arities c → IsConfig old.arities d
    → macros_at new more next.table c ≡ macros_at old names walk.table c → macros_at new more next.table d ≡ macros_at old names walk.table d
    → length (items_at new next.prepared.list c) ≡ length (items_at old walk.prepared.list c) → length (items_at new next.prepared.list d)
    ≡ length (items_at old walk.prepared.list d)
    → (behind : List (Cond × base.Token)) → next.prepared.list ≡ walk.prepared.list ++ behind → (index n m : ℕ) → Shares old names files walk c d index n m
    → Shares new more more_files next c d index n m
shares-kept {more_files = more_files} {more} {new = new} keeps grows files_grow walk next stored hides_grow runs c d p q same same_d long long_d behind list index n m shares =
    subst
    (λ (p : OpenRuns × List (Cond × base.Token)). Shares new more more_files (record next { runs = p.0; prepared = record next.prepared { list = p.1 } }) c d index n m)
    (λ i. (sym runs i, sym list i))
    (grown-shares keeps grows files_grow walk next stored hides_grow behind c d p q (λ _ _. same) (λ _ _. same_d)
    (ap (λ l. length (items_at new l c)) (sym list) ∙ long) (ap (λ l. length (items_at new l d)) (sym list) ∙ long_d) index n m shares)

-- nothing is put out and the runs stay
module _ {files names more_files more : List (List ℕ)} {old new : Sets} (keeps : Keeps old new) (grows : Extends names more)
    (files_grow : Extends files more_files) (walk next : Walk) (stored : IsStored old names (length files) walk) (runs : next.runs ≡ walk.runs)
    (list : next.prepared.list ≡ walk.prepared.list) where
  abbrev pub KeepsMacros : List ℕ → Type 0
  KeepsMacros = Defines keeps grows files_grow walk next stored (Extends-refl walk.runs.sets) []

  pub shares-left : (c d : List ℕ) → IsConfig old.arities c → IsConfig old.arities d → KeepsMacros c → KeepsMacros d → (index n m : ℕ)
      → Shares old names files walk c d index n m → Shares new more more_files next c d index n m
  shares-left c d p q same same_d index n m shares =
      subst
      (λ (p : OpenRuns × List (Cond × base.Token)). Shares new more more_files (record next { runs = p.0; prepared = record next.prepared { list = p.1 } }) c d index n m)
      (λ i. (sym runs i, sym longer i))
      (grown-shares keeps grows files_grow walk next stored (Extends-refl walk.runs.sets) [] c d p q same same_d (long c p) (long d q) index n m shares)
    where
      longer : next.prepared.list ≡ walk.prepared.list ++ []
      longer = list ∙ sym (append-nil walk.prepared.list)

      long : (e : List ℕ) → IsConfig old.arities e → length (items_at new (walk.prepared.list ++ []) e) ≡ length (items_at old walk.prepared.list e)
      long e listed =
          ap (λ l. length (items_at new l e)) (append-nil walk.prepared.list)
          ∙ ap length (items_at-Keeps walk.prepared.list e keeps stored.owns.prepared.list listed)

  pub shares-stay : {from : Machine → Type 0}
      → ((c : List ℕ) → IsConfig old.arities c → new.has next.prepared.live.0 c ≡ true → (k : Machine) → Simulates old names files walk c k → from k → KeepsMacros c)
      → KeepsSharesOf from files names old walk more_files more new next
  shares-stay same = record {
    longer = ([], list ∙ sym (append-nil walk.prepared.list));
    at = λ c d p q live live_d k l at at_d here here_d. shares-left c d p q (same c p live k at here) (same d q live_d l at_d here_d);
  }

-- ---- one stage behind the other

pub any-shares : {files names more_files more : List (List ℕ)} {old new : Sets} {walk next : Walk} (from : Machine → Type 0)
    → KeepsShares files names old walk more_files more new next → KeepsSharesOf from files names old walk more_files more new next
any-shares from shares = record { longer = shares.longer; at = λ c d p q live live_d k l at at_d _ _. shares.at c d p q live live_d k l at at_d tt tt }

-- the walk stays
pub shares-refl : {from : Machine → Type 0} {s : Sets} {names files : List (List ℕ)} {w : Walk} → KeepsSharesOf from files names s w files names s w
shares-refl {w = w} = record {
  longer = ([], sym (append-nil w.prepared.list));
  at = λ c d p q live live_d k l at at_d here here_d index n m shares. shares;
}

-- where a configuration's machine is behind the first stage: it isn't refused yet
pub record Behind (s : Sets) (names files : List (List ℕ)) (walk : Walk) (is_so : Machine → Type 0) (c : List ℕ) : Type 0 where
  pub machine : Machine
  pub simulates : Simulates s names files walk c machine
  pub live : s.has walk.prepared.live.0 c ≡ true
  pub is : is_so machine

module _ {old mid new : Sets} {files names mid_files more last_files last : List (List ℕ)} {w v next : Walk} {from between : Machine → Type 0}
    (keeps : Keeps old mid)
    (behind : (c : List ℕ) (k : Machine) → IsConfig old.arities c → Simulates old names files w c k → from k → new.has next.prepared.live.0 c ≡ true
    → Behind mid more mid_files v between c)
    (other : KeepsSharesOf between mid_files more mid v last_files last new next) where
  pub shares-behind : KeepsSharesOf from files names old w mid_files more mid v → KeepsSharesOf from files names old w last_files last new next
  shares-behind one = record {
    longer = (
      one.longer.0 ++ other.longer.0,
      other.longer.1 ∙ (ap (λ l. l ++ other.longer.0) one.longer.1 ∙ append_assoc w.prepared.list one.longer.0 other.longer.0),
    );
    at = λ c d p q live live_d k l at at_d here here_d index n m shares.
        let a = behind c k p at here live in
        let b = behind d l q at_d here_d live_d in
        other.at c d (IsConfig-Keeps keeps p) (IsConfig-Keeps keeps q) live live_d a.machine b.machine a.simulates b.simulates a.is b.is index n m
        (one.at c d p q a.live b.live k l at at_d here here_d index n m shares);
  }

  -- and what was put out in the first
  pub puts-behind : (comes : List ℕ → Machine → List Place → Moment → Type 0)
      → WherePutOut files names old w from comes mid v (Shares mid more mid_files v)
      → WherePutOut files names old w from comes new next (Shares new last last_files next)
  puts-behind comes puts = λ c d p q live live_d k l at at_d here here_d chain line away s t f index n m it it_d one two.
      let a = behind c k p at here live in
      let b = behind d l q at_d here_d live_d in
      other.at c d (IsConfig-Keeps keeps p) (IsConfig-Keeps keeps q) live live_d a.machine b.machine a.simulates b.simulates a.is b.is index n m
      (puts c d p q a.live b.live k l at at_d here here_d chain line away s t f index n m it it_d one two)
