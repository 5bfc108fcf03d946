-- What taking a token comes to at two configurations that have the same.
use Rattle.std.proofs.Common.{◌≡◌, ◌∙◌, ℕ, suc, ◌+◌, ◌-◌, ◌<◌, ◌≤◌, Bool, true, false, List, [], ◌∷◌, ◌++◌, All, Option, None, Some, Global, map, drop, take, length, get_or, refl, sym, ap, subst, arith, if◌then◌else◌, IfSome, slice_get}
use Rattle.sc_expand.proofs.AlikeLemmas.{All-but-put, All-but-tail, All-drop-push, IsAlike-Keeps, whole}
use Rattle.sc_expand.proofs.BeginningLemmas.{same_conds}
use Rattle.sc_expand.proofs.Facts.{All-append, All-cons, All-head, All-map, All-nil, IsConfig-Keeps, IsConfig-kept, items_at-take, length-map, seen_definition-Extends, slice_get-front, slice_get-seam, slice_get_within, take_more, All-tail, text_later}
use Rattle.sc_expand.proofs.KeptLemmas.{All-before, All-behind}
use Rattle.sc_expand.proofs.SeenLemmas.{macros_at-Grows}
use Rattle.sc_expand.proofs.TakingSteps.{none-before}
use Rattle.sc_expand.proofs.TakingTurns.{FirstTaken, first-both, first-grew}
use Rattle.sc_expand.proofs.Terms.{AreAlike, AreAlikeRefusals, AreHeld, AreTaken, Cond, Enclosing, Expansion, Extends, Grows, HasPutOut, Hidden, IsAlike, IsAlikeCall, IsAlikeEnclosing, IsAlikeExpansion, IsAlikeFrame, IsAlikeIn, IsAlikeTaken, IsCond, IsConfig, IsFunction, IsFunctionLike, IsHeldDefinition, IsOneToOne, IsPushed, IsSameCall, IsTaken, MacroTable, Others, Rc, Sets, Span, Stores, Taken, TakesName, TakesPart, has_each, is_function_like, is_looked_up, items_at, macros_at, option_map, others_at, seen_definition, seen_hidden, stores, text_of, Begins, Call, Form, Item, Name, Place, Token, Waiting, call_end, call_end_at, call_length, call_places, places_from, seen_at, spelled_at, text_at, tokens_in}
use Rattle.sc_expand.specs.Restricted as restricted
use Rattle.sc_macro.specs.declared.definition.Definition.{Definition}

-- ---- what tells the tokens of a configuration

abbrev TextOf : (names later : List (List ℕ)) → Hidden → Type 0
TextOf names later h = text_at later h.token.spelling.0 ≡ text_at names h.token.spelling.0

module _ (s t : Sets) (c d : List ℕ) where
  pub each-behind : (xs ys : List (Cond × Hidden)) → has_each s xs c ≡ has_each t ys d → has_each s (drop 1 xs) c ≡ has_each t (drop 1 ys) d
  each-behind [] [] is = refl
  each-behind [] (y ∷ ys) is = absurd (cc)
  each-behind (x ∷ xs) [] is = absurd (cc)
  each-behind (x ∷ xs) (y ∷ ys) is = cc

  pub places-same : (n : ℕ) (xs ys : List (Cond × Hidden)) → has_each s xs c ≡ has_each t ys d
      → places_from s n (map (λ (x : Cond × Hidden). x.0) xs) c ≡ places_from t n (map (λ (x : Cond × Hidden). x.0) ys) d
  places-same n [] [] is = refl
  places-same n [] (y ∷ ys) is = absurd (cc)
  places-same n (x ∷ xs) [] is = absurd (cc)
  places-same n (x ∷ xs) (y ∷ ys) is =
      let first : s.has x.0.0 c ≡ t.has y.0.0 d = cc in
      let rest : has_each s xs c ≡ has_each t ys d = cc in
      let more = places-same (n + 1) xs ys rest in
      λ i. if first i then n ∷ more i else more i

  -- the same spellings, in tables that have the same text for each
  spelled-each : (names later : List (List ℕ)) (xs ys : List (Cond × Hidden)) → map (λ (x : Cond × Hidden). x.1) xs ≡ map (λ (x : Cond × Hidden). x.1) ys → All (λ (y : Cond × Hidden). TextOf names later y.1) ys
      → has_each s xs c ≡ has_each t ys d → spelled_at s later (tokens_in xs) c ≡ spelled_at t names (tokens_in ys) d
  spelled-each names later [] [] tokens texts is = refl
  spelled-each names later [] (y ∷ ys) tokens texts is = absurd (cc)
  spelled-each names later (x ∷ xs) [] tokens texts is = absurd (cc)
  spelled-each names later (x ∷ xs) (y ∷ ys) tokens texts is =
      let P : Cond × Hidden → Type 0 = λ y. TextOf names later y.1 in
      let first : s.has x.0.0 c ≡ t.has y.0.0 d = cc in
      let rest : has_each s xs c ≡ has_each t ys d = cc in
      let token : x.1 ≡ y.1 = cc in
      let behind : map (λ (x : Cond × Hidden). x.1) xs ≡ map (λ (x : Cond × Hidden). x.1) ys = cc in
      let text : text_at later x.1.token.spelling.0 ≡ text_at names y.1.token.spelling.0 = ap (λ (h : Hidden). text_at later h.token.spelling.0) token ∙ All-head P y ys texts in
      ap (λ b. map (λ (t : Token). text_at later t.spelling.0) (if b then x.1.token ∷ items_at s (tokens_in xs) c else items_at s (tokens_in xs) c)) first
      ∙ by text (spelled-each names later xs ys behind (All-tail P y ys texts) rest) (t.has y.0.0 d)
    where
      by : text_at later x.1.token.spelling.0 ≡ text_at names y.1.token.spelling.0 → spelled_at s later (tokens_in xs) c ≡ spelled_at t names (tokens_in ys) d → (b : Bool)
          → map (λ (t : Token). text_at later t.spelling.0) (if b then x.1.token ∷ items_at s (tokens_in xs) c else items_at s (tokens_in xs) c)
          ≡ map (λ (t : Token). text_at names t.spelling.0) (if b then y.1.token ∷ items_at t (tokens_in ys) d else items_at t (tokens_in ys) d)
      by text rest true = λ i. text i ∷ rest i
      by text rest false = rest

  spelled-behind-each : (names later : List (List ℕ)) (xs ys : List (Cond × Hidden)) → map (λ (x : Cond × Hidden). x.1) xs ≡ map (λ (x : Cond × Hidden). x.1) ys → All (λ (y : Cond × Hidden). TextOf names later y.1) ys
      → has_each s xs c ≡ has_each t ys d → spelled_at s later (drop 1 (tokens_in xs)) c ≡ spelled_at t names (drop 1 (tokens_in ys)) d
  spelled-behind-each names later [] [] tokens texts is = refl
  spelled-behind-each names later [] (y ∷ ys) tokens texts is = absurd (cc)
  spelled-behind-each names later (x ∷ xs) [] tokens texts is = absurd (cc)
  spelled-behind-each names later (x ∷ xs) (y ∷ ys) tokens texts is =
      let rest : has_each s xs c ≡ has_each t ys d = cc in
      let behind : map (λ (x : Cond × Hidden). x.1) xs ≡ map (λ (x : Cond × Hidden). x.1) ys = cc in
      spelled-each names later xs ys behind (All-tail (λ (y : Cond × Hidden). TextOf names later y.1) y ys texts) rest

  conds-behind : (xs ys : List (Cond × Hidden)) → has_each s xs c ≡ has_each t ys d
      → places_from s 1 (map (λ (x : Cond × Token). x.0) (drop 1 (tokens_in xs))) c ≡ places_from t 1 (map (λ (x : Cond × Token). x.0) (drop 1 (tokens_in ys))) d
  conds-behind xs ys is = ap (λ cs. places_from s 1 cs c) (same_conds xs) ∙ (places-same 1 (drop 1 xs) (drop 1 ys) (each-behind xs ys is) ∙ sym (ap (λ cs. places_from t 1 cs d) (same_conds ys)))

-- ---- the call of a name

each-alike : (s : Sets) (c d : List ℕ) (list : List (Cond × Hidden)) → AreAlike s c d list → has_each s list c ≡ has_each s list d
each-alike s c d [] alike = refl
each-alike s c d (x ∷ xs) alike =
    let P : Cond × Hidden → Type 0 = λ item. IsAlike s c d item.0 in
    let first : s.has x.0.0 c ≡ s.has x.0.0 d = All-head P x xs alike in
    let rest = each-alike s c d xs (All-tail P x xs alike) in
    λ i. first i ∷ rest i

-- configurations that have the same tokens of a list have the same call of its first
pub same-call : {s : Sets} {names : List (List ℕ)} {c d : List ℕ} (list : List (Cond × Hidden)) → AreAlike s c d list → IsSameCall s names c d list
same-call {s} {names} {c} {d} list alike =
    let each = each-alike s c d list alike in
    let spelled = spelled-behind-each s s c d names names list list refl (λ k x h. refl) each in
    let from = conds-behind s s c d list list each in
    record { ends = ap call_end spelled; places = λ closes i. 0 ∷ take (call_length (spelled i)) (from i) }

-- The call of a configuration stays while the stores grow and the list changes at others.
module _ {old new : Stores} {files : ℕ} (before after : List (Cond × Hidden)) (grows : Grows old new) (held : AreHeld old files before)
    (tokens : map (λ (item : Cond × Hidden). item.1) after ≡ map (λ (item : Cond × Hidden). item.1) before) where
  spelled-later : (c : List ℕ) → has_each new.sets after c ≡ has_each old.sets before c → spelled_at new.sets new.names (drop 1 (tokens_in after)) c ≡ spelled_at old.sets old.names (drop 1 (tokens_in before)) c
  spelled-later c each = spelled-behind-each new.sets old.sets c c old.names new.names after before tokens (λ k x h. text_later _ (held.held k x h).held.token.spelling grows.names) each

  pub each-end : (c : List ℕ) → has_each new.sets after c ≡ has_each old.sets before c → call_end_at new.sets new.names (tokens_in after) 0 c ≡ call_end_at old.sets old.names (tokens_in before) 0 c
  each-end c each = ap call_end (spelled-later c each)

  pub each-places : (c : List ℕ) → has_each new.sets after c ≡ has_each old.sets before c → call_places new.sets new.names (tokens_in after) 0 c ≡ call_places old.sets old.names (tokens_in before) 0 c
  each-places c each =
      let spelled = spelled-later c each in
      let places = conds-behind new.sets old.sets c c after before each in
      λ i. 0 ∷ take (call_length (spelled i)) (places i)

pub each-same-call : {old new : Stores} {files : ℕ} {c d : List ℕ} (before after : List (Cond × Hidden)) → Grows old new → AreHeld old files before
    → map (λ (item : Cond × Hidden). item.1) after ≡ map (λ (item : Cond × Hidden). item.1) before
    → has_each new.sets after c ≡ has_each old.sets before c → has_each new.sets after d ≡ has_each old.sets before d
    → IsSameCall old.sets old.names c d before → IsSameCall new.sets new.names c d after
each-same-call {c = c} {d = d} before after grows held tokens at_c at_d same = record {
  ends = each-end before after grows held tokens c at_c ∙ (same.ends ∙ sym (each-end before after grows held tokens d at_d));
  places = λ closes.
      each-places before after grows held tokens c at_c ∙ (same.places (sym (each-end before after grows held tokens c at_c) ∙ closes) ∙ sym (each-places before after grows held tokens d at_d));
}

-- ---- a call begins

abbrev every : Sets
every = record { arities = []; count = 0; has = λ a c. true }

-- a list of which no configuration of any store has an item has no items
unexpanded-alike : (names : List (List ℕ)) (hides : List (List Name)) (s : Sets) (c d : List ℕ) (lists : List (List (Cond × Hidden))) (raw : List (List Hidden))
    → map (λ list. seen_at (stores every names hides) list []) lists ≡ map (λ a. []) raw → All (AreAlike s c d) lists
unexpanded-alike names hides s c d [] raw is = All-nil (AreAlike s c d)
unexpanded-alike names hides s c d (list ∷ lists) [] is = absurd (cc)
unexpanded-alike names hides s c d ([] ∷ lists) (a ∷ raw) is =
    All-cons (AreAlike s c d) [] lists (All-nil (λ (item : Cond × Hidden). IsAlike s c d item.0)) (unexpanded-alike names hides s c d lists raw cc)
unexpanded-alike names hides s c d ((x ∷ xs) ∷ lists) (a ∷ raw) is =
    let first : seen_at (stores every names hides) (x ∷ xs) [] ≡ [] = cc in
    let gone : seen_hidden names hides x.1 ∷ seen_at (stores every names hides) xs [] ≡ [] = first in
    absurd (cc)

pub begun-alike : {names : List (List ℕ)} {hides : List (List Name)} {form : Form} {items : List Item} {cond : Cond} {head close : Hidden} {raw : List (List Hidden)} {call : Call}
    (s : Sets) (c d : List ℕ) → Begins names hides form items cond head close raw call → IsAlike s c d cond → IsAlikeCall s c d call
begun-alike {names} {hides} {raw = raw} {call = call} s c d begins same = record {
  cond = subst (IsAlike s c d) (sym begins.under) same;
  expanded = unexpanded-alike names hides s c d call.expanded.items raw (ap (λ (w : Waiting Place). w.expanded) (begins.waits every []));
}

-- ---- tokens that are put

module _ (s : Sets) (c d : List ℕ) where
  -- tokens that all stand under one condition
  pub alike-under : {T : Type 0} (cond : Cond) (list : List T) → IsAlike s c d cond → AreAlike s c d (map (λ t. (cond, t)) list)
  alike-under {T} cond list same = All-map (λ (item : Cond × T). IsAlike s c d item.0) (λ t. (cond, t)) list (λ k x h. same)

  pub alike-append : {T : Type 0} (xs ys : List (Cond × T)) → AreAlike s c d xs → AreAlike s c d ys → AreAlike s c d (xs ++ ys)
  alike-append {T} xs ys one other = All-append (λ (item : Cond × T). IsAlike s c d item.0) xs ys one other

  -- one token more, behind so many others
  pub pushed-behind : (n : ℕ) {cond : Cond} {token : Hidden} {before after : List (Cond × Hidden)} → IsPushed s cond token before after → IsAlike s c d cond → AreAlike s c d (drop n before) → AreAlike s c d (drop n after)
  pushed-behind n {cond} {token} {before} {after} (restricted.pushed some is) same alike =
      subst (λ l. AreAlike s c d (drop n l)) (sym is) (All-drop-push (λ (item : Cond × Hidden). IsAlike s c d item.0) n before (cond, token) alike same)
  pushed-behind n {cond} {token} {before} {after} (restricted.absent none is) same alike = subst (λ l. AreAlike s c d (drop n l)) (sym is) alike

  -- the first token of a list, where it is not one of so many at the end
  pub alike-first : (n : ℕ) (list : List (Cond × Hidden)) (item : Cond × Hidden) → slice_get list 0 ≡ Some item → n < length list → AreAlike s c d (take (length list - n) list) → IsAlike s c d item.0
  alike-first n [] item first many alike = absurd (cc)
  alike-first n (x ∷ xs) item first many alike =
      let Same : Cond × Hidden → Type 0 = λ item. IsAlike s c d item.0 in
      let same : x ≡ item = cc in
      let some : length (x ∷ xs) - n ≡ suc (length xs - n) = omega (arith, many) in
      subst Same same (All-head Same x (take (length xs - n) xs) (subst (λ k. All Same (take k (x ∷ xs))) some alike))

-- ---- one part more

none-more : {A : Type 0} (xs : List A) (b : Bool) (x : A) → xs ++ (if b then x ∷ [] else []) ≡ [] → (xs ≡ []) × (b ≡ false)
none-more [] true x is = absurd (cc)
none-more [] false x is = (refl, refl)
none-more (y ∷ ys) b x is = absurd (cc)

pub function-earlier : {names more : List (List ℕ)} → Extends names more → (o : Option (Rc Definition Global)) → IfSome o (λ shared. IsHeldDefinition names shared.value) → IsFunction more o → IsFunction names o
function-earlier grows None held is = is
function-earlier grows (Some shared) held is = ap (λ d. is_function_like d.form) (sym (seen_definition-Extends grows shared.value held)) ∙ is

module _ {files : List (List ℕ)} {old mid : Stores} {was now : Expansion} {before after : Taken} {head : Hidden} (parts : List (Cond × Option (Rc Definition Global))) (i : ℕ) (part : Cond × Option (Rc Definition Global))
    (within : i < length parts) (is : part ≡ get_or parts i part) (grows : Grows old mid) (own : IsCond old.sets part.0.0) (done : AreTaken files old mid was now before after head (take i parts)) where
  one-more : take (i + 1) parts ≡ take i parts ++ part ∷ []
  one-more = take_more parts i part within ∙ ap (λ x. take i parts ++ x ∷ []) (sym is)

  -- a configuration of none of the parts is of none before the last, and not of the last
  none-last : (c : List ℕ) → items_at old.sets (take (i + 1) parts) c ≡ [] → (items_at old.sets (take i parts) c ≡ []) × (old.sets.has part.0.0 c ≡ false)
  none-last c none = none-more (items_at old.sets (take i parts) c) (old.sets.has part.0.0 c) part.1 (sym (items_at-take old.sets parts i part c within is) ∙ none)

  -- a name that is taken by a part before the last, or by the last
  takes-before : (c : List ℕ) → TakesPart old.sets old.names (take i parts) c → TakesPart old.sets old.names (take (i + 1) parts) c
  takes-before c takes = record {
    part = takes.part;
    among = (
      takes.among.0,
      ap (λ l. slice_get l takes.among.0) one-more
          ∙ (slice_get-front (take i parts) (part ∷ []) takes.among.0 (slice_get_within (take i parts) takes.among.0 takes.part takes.among.1) ∙ takes.among.1),
    );
    has = takes.has;
    function = takes.function;
  }

  takes-last : (c : List ℕ) → old.sets.has part.0.0 c ≡ true → IsFunction old.names part.1 → TakesPart old.sets old.names (take (i + 1) parts) c
  takes-last c has function = record {
    part = part;
    among = (length (take i parts), ap (λ l. slice_get l (length (take i parts))) one-more ∙ slice_get-seam (take i parts) part []);
    has = has;
    function = function;
  }

  module _ {new : Stores} {next : Expansion} {later : Taken} (step : IsTaken files mid new now next after later head part.0.0 (option_map (λ shared. seen_definition mid.names shared.value) part.1)) where
    pub part-each : (c : List ℕ) → IsConfig old.sets.arities c → items_at old.sets (take (i + 1) parts) c ≡ [] → has_each new.sets next.top.work c ≡ has_each old.sets was.top.work c
    part-each c listed none =
        let split = none-last c none in
        step.others_each c (IsConfig-Keeps grows.sets listed) (grows.sets.at part.0.0 c own listed ∙ split.1) ∙ done.others_each c listed split.0

    pub part-alike : {counted : ℕ} → AreHeld old counted was.top.work → IfSome part.1 (λ shared. IsHeldDefinition old.names shared.value) → ((c : List ℕ) → IsConfig old.sets.arities c → length (items_at old.sets parts c) ≤ 1)
        → (c d : List ℕ) (span : Span) → IsConfig old.sets.arities c → IsConfig old.sets.arities d → AreAlike old.sets c d (take (i + 1) parts)
        → (TakesPart old.sets old.names (take (i + 1) parts) c → IsSameCall old.sets old.names c d was.top.work) → IsAlikeTaken old.sets c d before
        → IsAlikeIn old.sets c d span was → IsAlikeIn new.sets c d span next × IsAlikeTaken new.sets c d later
    part-alike held definition one c d span p q alike called taken start =
        let P : Cond × Option (Rc Definition Global) → Type 0 = λ item. IsAlike old.sets c d item.0 in
        let all = subst (All P) one-more alike in
        let last = All-head P part [] (All-behind P (take i parts) (part ∷ []) all) in
        let so_far = done.alike c d span p q (All-before P (take i parts) (part ∷ []) all) (λ takes. called (takes-before c takes)) taken start in
        step.alike c d span (IsConfig-Keeps grows.sets p) (IsConfig-Keeps grows.sets q) (IsAlike-Keeps grows.sets p q own last)
        (λ has function.
        let here = sym (grows.sets.at part.0.0 c own p) ∙ has in
        let none_c = (none-before old.sets parts i part c within is here (one c p)).0 in
        let none_d = (none-before old.sets parts i part d within is (sym last ∙ here) (one d q)).0 in
        each-same-call was.top.work now.top.work grows held done.lists.tokens (done.others_each c p none_c) (done.others_each d q none_d) (called (takes-last c here (function-earlier grows.names part.1 definition function))))
        so_far.1 so_far.0

-- ---- what a look-up gives

rest-differ : {X : Type 0} (x : X) (xs : List X) → IsOneToOne (x ∷ xs) → IsOneToOne xs
rest-differ x xs one = record { same = λ i j y at_i at_j. let more = one.same (suc i) (suc j) y at_i at_j in omega (arith, more) }

module _ {T X : Type 0} (f : T → X) where
  found-at : (s : Sets) (xs : List (Cond × T)) (c : List ℕ) (y : X) (ys : List X) → map f (items_at s xs c) ≡ y ∷ ys → (k : ℕ) × (slice_get (map (λ (x : Cond × T). f x.1) xs) k ≡ Some y)
  found-at s [] c y ys is = absurd (cc)
  found-at s (x ∷ xs) c y ys is = by (s.has x.0.0 c) is (λ is. found-at s xs c y ys is)
    where
      by : (b : Bool) → map f (if b then x.1 ∷ items_at s xs c else items_at s xs c) ≡ y ∷ ys → (map f (items_at s xs c) ≡ y ∷ ys → (k : ℕ) × (slice_get (map (λ (x : Cond × T). f x.1) xs) k ≡ Some y))
          → (k : ℕ) × (slice_get (map (λ (x : Cond × T). f x.1) (x ∷ xs)) k ≡ Some y)
      by true is later = (0, cc)
      by false is later = let behind = later is in (suc behind.0, behind.1)

  -- items that differ, of which two configurations see the same
  pub found-alike : (s : Sets) (xs : List (Cond × T)) (c d : List ℕ) → IsOneToOne (map (λ (x : Cond × T). f x.1) xs) → map f (items_at s xs c) ≡ map f (items_at s xs d) → AreAlike s c d xs
  found-alike s [] c d one same = All-nil (λ (item : Cond × T). IsAlike s c d item.0)
  found-alike s (x ∷ xs) c d one same = by (s.has x.0.0 c) refl (s.has x.0.0 d) refl same (λ same. found-alike s xs c d (rest-differ (f x.1) (map (λ (x : Cond × T). f x.1) xs) one) same)
    where
      P : Cond × T → Type 0
      P item = IsAlike s c d item.0

      apart : (e : List ℕ) (ys : List X) → map f (items_at s xs e) ≡ f x.1 ∷ ys → ⊥
      apart e ys is =
          let at = found-at s xs e (f x.1) ys is in
          let twice : 0 ≡ suc at.0 = one.same 0 (suc at.0) (f x.1) refl at.1 in
          absurd (omega (arith, twice))

      by : (a : Bool) → s.has x.0.0 c ≡ a → (b : Bool) → s.has x.0.0 d ≡ b
          → map f (if a then x.1 ∷ items_at s xs c else items_at s xs c) ≡ map f (if b then x.1 ∷ items_at s xs d else items_at s xs d)
          → (map f (items_at s xs c) ≡ map f (items_at s xs d) → AreAlike s c d xs) → AreAlike s c d (x ∷ xs)
      by true at_c true at_d is later = let rest : map f (items_at s xs c) ≡ map f (items_at s xs d) = cc in All-cons P x xs (at_c ∙ sym at_d) (later rest)
      by false at_c false at_d is later = All-cons P x xs (at_c ∙ sym at_d) (later is)
      by true at_c false at_d is later = absurd (apart d (map f (items_at s xs c)) (sym is))
      by false at_c true at_d is later = absurd (apart c (map f (items_at s xs d)) is)

-- the definition of a name, where the condition has the configuration
pub same-defined : {X : Type 0} (a b : Bool) (m n : X) → a ≡ b → (a ≡ true → m ≡ n) → (if a then m ∷ [] else []) ≡ (if b then n ∷ [] else [])
same-defined true true m n is same = let one = same refl in ap (λ x. x ∷ []) one
same-defined false false m n is same = refl
same-defined true false m n is same = absurd (cc)
same-defined false true m n is same = absurd (cc)

-- ---- the token is put out

pub put-alike : (before s : Sets) (c d : List ℕ) (others : Others) (now next : Expansion) (taken : Taken) (token : Hidden) → HasPutOut before s taken token now next → IsAlikeTaken s c d taken → IsAlikeExpansion s c d others now → IsAlikeExpansion s c d others next
put-alike before s c d others now next taken token put made alike =
    let Same : Cond × Hidden → Type 0 = λ item. IsAlike s c d item.0 in
    let here = others_at others (length now.below.items) in
    record {
      refusals = subst (AreAlikeRefusals s c d others.faults) (sym put.refusals) alike.refusals;
      top = subst (λ b. IsAlikeFrame s c d (others_at others (length b.items)) next.top) (sym put.below) (record {
        work = subst (λ l. AreAlike s c d (take (length l - here.behind) l)) (sym put.work) (All-but-put Same here.behind taken.made.items (drop 1 now.top.work) made.made (but-first Same here.behind now.top.work alike.top.work));
        out = pushed-behind s c d here.out put.out made.stays alike.top.out;
        calls = subst (λ l. All (IsAlikeCall s c d) l.items) (sym put.calls) alike.top.calls;
      });
      below = subst (λ b. (n : ℕ) (o : Enclosing) → slice_get b.items n ≡ Some o → IsAlikeEnclosing s c d (others_at others n) o) (sym put.below) alike.below;
    }
  where
    but-first : (P : Cond × Hidden → Type 0) (n : ℕ) (xs : List (Cond × Hidden)) → All P (take (length xs - n) xs) → All P (take (length (drop 1 xs) - n) (drop 1 xs))
    but-first P n [] all = all
    but-first P n (x ∷ xs) all = All-but-tail P n x xs all

-- as many tokens as before
pub same-long : (before after : List (Cond × Hidden)) → map (λ (item : Cond × Hidden). item.1) after ≡ map (λ (item : Cond × Hidden). item.1) before → length after ≡ length before
same-long before after tokens = sym (length-map after (λ item. item.1)) ∙ (ap length tokens ∙ length-map before (λ item. item.1))

pub whole-same : (others : Others) (was now : Expansion) → now.below ≡ was.below → length now.top.work ≡ length was.top.work → whole others now ≡ whole others was
whole-same others was now below long = λ i. (let here = others_at others (length (below i).items) in record { work = long i - here.behind; out = here.out; faults = others.faults })

-- ---- the name of a function-like macro

pub takes-name : {s0 s1 : Sets} {n files : List (List ℕ)} {table : MacroTable} {was : Expansion} {item : Cond × Hidden} {cond : Cond} → FirstTaken s0 s1 n files table was item cond → (c : List ℕ) → IsConfig s1.arities c → s1.has cond.0 c ≡ true
    → is_looked_up (seen_hidden n was.sets item.1) ≡ true → IsFunctionLike (macros_at s1 n table c (text_of n item.1.token.spelling)) → TakesName (stores s0 n was.sets) (macros_at s0 n table c) was c
takes-name {n = n} {item = item} known c listed has looked like =
    let both = first-both known c listed has in
    record {
      item = item;
      first = known.first;
      calls = known.calls;
      has = both.0;
      live = both.1;
      looked_up = looked;
      function = subst IsFunctionLike (macros_at-Grows (first-grew known) known.is_table c (text_of n item.1.token.spelling) (IsConfig-kept known.keeps listed)) like;
    }
