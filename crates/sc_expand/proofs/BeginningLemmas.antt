use Rattle.std.proofs.Common.{◌≡◌, ℕ, zero, suc, ◌+◌, ◌-◌, ◌<◌, ◌≤◌, ◌++◌, Bool, true, false, not, if◌then◌else◌, Option, Some, None, Result, Ok, Err, refl, subst, sym, ap, ◌∙◌, List, [], ◌∷◌, map, reverse, length, take, drop, get_or, All, arith, is_some, codes, is_ok, slice_get, IfNone, IfSome}
use Rattle.c11_macros.specs.Call.{Call as SomeCall}
use Rattle.sc_expand.proofs.Facts.{All-drop, All-head, All-tail, All-weaker, Extends-trans, IsHeldHidden-Extends, IsHeldSet-Extends, drop_more, get_or-map, hide_later, items_at-Keeps, items_at-append, length-drop, length-map, map-id, map-map, slice_get-get_or, take-append-drop, text_later}
use Rattle.sc_expand.proofs.Parting.{parted_call}
use Rattle.sc_expand.proofs.Terms.{AreHeld, Begins, Call, Cause, Cond, Definition, Extends, Failure, Form, Hidden, HiddenToken, HideSet, IsCond, IsConfig, IsHeldCall, IsHeldHidden, IsHeldSet, IsHeldTemplate, IsHeldToken, IsRefused, IsTemplate, IsTemplateOf, Item, Keeps, Lasting, Macros, Name, OnFault, OnOperator, Place, Provenance, Rest, Sets, Slot, Stores, Template, Token, Wanted, argument, arguments_for, call_case, call_length, call_of, call_places, case_of, completed, defined_case, failure_at, fitted_case, form_case, function_like, gathered, has_first, hide_at, is_looked_up, items_at, kept, list_of, list_slots, looked_up_case, meet, no_names, parted, parts_of, places_from, provenance_of, put_together, result_and_then, same_bytes, seen_arguments, seen_at, seen_form, seen_hidden, seen_item, seen_list, seen_template, seen_wanted, spelled_at, stays, stores, substituted, text_of, token_at, tokens_in, tokens_of, waiting_at, wanted_of, with_argument, with_name}
use Rattle.sc_macro.specs.declared.definition.Item as declared
use Rattle.sc_macro.specs.declared.form.Form as declared_form
use Rattle.sc_model.specs.declared.cause.Cause.TheVariants as cause
use Rattle.sc_subst.proofs.Templates.{slots_fail}
use Rattle.sc_subst.specs.declared.stop.SubstStop.TheVariants.{Fault}
use Rattle.sc_subst.specs.declared.stop.SubstStop.{SubstStop}

-- What a template that was refused says, and lists of arguments.

pub map_some : {A : Type 0} {P Q : A → Type 0} (r : Option A) → ((a : A) → P a → Q a) → IfSome r P → IfSome r Q
map_some None f h = tt
map_some (Some a) f h = f a h

pub map_none : {A P Q : Type 0} (r : Option A) → (P → Q) → IfNone r P → IfNone r Q
map_none None f h = f h
map_none (Some a) f h = tt

-- a fault that is none of # is one of ##
pub on_paste : (H P : Type 0) (x : Cause) → (x ≡ cause.BadStringize → ⊥) → OnOperator x H P → (x ≡ cause.BadPaste) × P
on_paste H P cause.NotFound other o = absurd o
on_paste H P cause.FileTooLarge other o = absurd o
on_paste H P cause.UnterminatedComment other o = absurd o
on_paste H P cause.BadNesting other o = absurd o
on_paste H P cause.BadDirective other o = absurd o
on_paste H P cause.BadDefine other o = absurd o
on_paste H P cause.Redefined other o = absurd o
on_paste H P cause.ProtectedName other o = absurd o
on_paste H P cause.BadIf other o = absurd o
on_paste H P cause.IfDivision other o = absurd o
on_paste H P cause.IfOverflow other o = absurd o
on_paste H P cause.IfShift other o = absurd o
on_paste H P cause.DefinedFromMacro other o = absurd o
on_paste H P cause.BadInclude other o = absurd o
on_paste H P cause.IncludeDepth other o = absurd o
on_paste H P cause.ErrorDirective other o = absurd o
on_paste H P cause.UnterminatedCall other o = absurd o
on_paste H P cause.WrongArguments other o = absurd o
on_paste H P cause.BadPaste other o = (refl, o)
on_paste H P cause.BadStringize other o = absurd (other refl)
on_paste H P cause.BadToken other o = absurd o
on_paste H P cause.Syntax other o = absurd o
on_paste H P cause.BadPragma other o = absurd o

pub in_none : {A P : Type 0} (r : Option A) → r ≡ None → IfNone r P → P
in_none {A} {P} r is h = subst (λ r. IfNone r P) is h

pub in_some : {A : Type 0} (P : A → Type 0) (r : Option A) (a : A) → r ≡ Some a → IfSome r P → P a
in_some {A} P r a is h = subst (λ r. IfSome r P) is h

-- ---- faults of a list

-- no # fails where the whole has not its failure
pub no_hash : (provenance : Provenance Place) (form : Form) (items : List Item) (head : HiddenToken Place) (raw expanded : List (List (HiddenToken Place))) (hidden : HideSet)
    → (substituted provenance form items head raw expanded hidden ≡ Err (failure_at cause.BadStringize head) → ⊥) → is_ok (list_slots head raw form items) ≡ true
no_hash provenance form items head raw expanded hidden differs = by (list_slots head raw form items) (slots_fail head raw (kept raw (parts_of form items))) differs
  where
    by : (made : Result (List (Slot Place)) (Failure Place)) → ((failure : Failure Place) → made ≡ Err failure → failure ≡ failure_at cause.BadStringize head)
        → (result_and_then (put_together provenance head raw expanded hidden) made ≡ Err (failure_at cause.BadStringize head) → ⊥) → is_ok made ≡ true
    by (Ok ss) told differs = refl
    by (Err failure) told differs = absurd (differs (ap Err (told failure refl)))

module _ (names : List (List ℕ)) (sets : List (List Name)) (form : declared_form.Form) (items : List declared.Item) (raw : List (List Hidden)) (place : Place) where
  abbrev pub Fails : Cause → Type 0
  Fails x = Lasting names sets (λ names sets. (head : HiddenToken Place) → head.place ≡ place → OnOperator x
      (list_slots head (seen_arguments names sets raw) (seen_form names form) (map (seen_item names) items) ≡ Err (failure_at cause.BadStringize head))
      ((expanded : List (List (HiddenToken Place))) (provenance : Provenance Place) (hidden : HideSet)
      → substituted provenance (seen_form names form) (map (seen_item names) items) head (seen_arguments names sets raw) expanded hidden ≡ Err (failure_at cause.BadPaste head)))

  pub refused_some : (stop : SubstStop) (template : Template) → OnFault stop Fails → IsRefused stop template
      → Lasting names sets (λ names sets. IsTemplateOf names sets (seen_form names form) (map (seen_item names) items) (seen_arguments names sets raw) place template)
  refused_some stop template err told =
      let claim : Fails told.cause = subst (λ stop. OnFault stop Fails) told.is err in
      record {
        at = λ later later_sets e f. record {
          stringized = λ head same.
              let paste = (on_paste _ _ told.cause told.no_hash (claim.at later later_sets e f head same)).1 [] (provenance_of []) no_names in
              no_hash (provenance_of []) (seen_form later form) (map (seen_item later) items) head (seen_arguments later later_sets raw) [] no_names (λ hash. other_cause head _ paste hash);
          completes = λ s head expanded provenance hidden same.
              let paste = on_paste _ _ told.cause told.no_hash (claim.at later later_sets e f head same) in
              paste.1 expanded provenance hidden ∙ (ap (completed provenance head hidden expanded) (λ i. Err (record { cause = sym paste.0 i; place = same i }))
              ∙ ap (λ made. completed provenance head hidden expanded (seen_template (stores s later later_sets) place made)) (sym told.made));
        };
      }
    where
      cause-differs : cause.BadPaste ≡ cause.BadStringize → ⊥
      cause-differs is = cc

      other_cause : (head : HiddenToken Place) (made : Result (List (HiddenToken Place)) (Failure Place)) → made ≡ Err (failure_at cause.BadPaste head) → made ≡ Err (failure_at cause.BadStringize head) → ⊥
      other_cause head made paste hash = let same : failure_at cause.BadPaste head ≡ failure_at cause.BadStringize head = cc in cause-differs (ap (λ (f : Failure Place). f.cause) same)

  pub refused_none : (stop : SubstStop) → OnFault stop Fails → stop ≡ Fault cause.BadStringize → Fails cause.BadStringize
  refused_none stop err is = subst (λ stop. OnFault stop Fails) is err

-- ---- arguments as they are seen

argument_seen : (st : Stores) (raw : List (List Hidden)) (n : ℕ) → seen_list st.names st.hides (argument raw n) ≡ argument (seen_arguments st.names st.hides raw) n
argument_seen st [] n = refl
argument_seen st (x ∷ xs) zero = refl
argument_seen st (x ∷ xs) (suc n) = argument_seen st xs n

abbrev pub seen_pair : Stores → ℕ × List Hidden → ℕ × List (HiddenToken Place)
seen_pair st p = (p.0, seen_list st.names st.hides p.1)

wanted_pairs : (st : Stores) (ws : List Wanted) → map (seen_wanted st) ws ≡ map (seen_pair st) (map tokens_of ws)
wanted_pairs st [] = refl
wanted_pairs st (w ∷ ws) = ap (λ r. seen_wanted st w ∷ r) (wanted_pairs st ws)

argument_pairs : (st : Stores) (raw : List (List Hidden)) (ns : List ℕ) → map (seen_pair st) (map (with_argument raw) ns) ≡ map (λ n. (n, argument (seen_arguments st.names st.hides raw) n)) ns
argument_pairs st raw [] = refl
argument_pairs st raw (n ∷ ns) = λ i. (n, argument_seen st raw n i) ∷ argument_pairs st raw ns i

wanted_seen : (st : Stores) (raw : List (List Hidden)) (ws : List Wanted) (ns : List ℕ) → map tokens_of ws ≡ map (with_argument raw) ns
    → map (seen_wanted st) ws ≡ map (λ n. (n, argument (seen_arguments st.names st.hides raw) n)) ns
wanted_seen st raw ws ns is = wanted_pairs st ws ∙ (ap (map (seen_pair st)) is ∙ argument_pairs st raw ns)

none_expanded : (st : Stores) (c : List ℕ) (lists : List (List (Cond × Hidden))) (raw : List (List Hidden)) → length lists ≡ length raw → All (λ (list : List (Cond × Hidden)). list ≡ []) lists
    → map (λ list. seen_at st list c) lists ≡ map (λ (a : List Hidden). []) raw
none_expanded st c [] [] long empty = refl
none_expanded st c [] (x ∷ raw) long empty = absurd (omega (arith, long))
none_expanded st c (x ∷ lists) [] long empty = absurd (omega (arith, long))
none_expanded st c (x ∷ lists) (a ∷ raw) long empty =
    let E : List (Cond × Hidden) → Type 0 = λ list. list ≡ [] in
    let first : x ≡ [] = All-head E x lists empty in
    let rest = none_expanded st c lists raw (omega (arith, long)) (All-tail E x lists empty) in
    λ i. seen_at st (first i) c ∷ rest i

pub held_expanded : (st : Stores) (files : ℕ) (lists : List (List (Cond × Hidden))) → All (λ (list : List (Cond × Hidden)). list ≡ []) lists → All (AreHeld st files) lists
held_expanded st files lists empty = All-weaker (λ (list : List (Cond × Hidden)). list ≡ []) (AreHeld st files) (λ list is. subst (AreHeld st files) (sym is) nothing) lists empty
  where
    nothing : AreHeld st files []
    nothing = record { own = λ k d h. absurd (omega (arith, h)); held = λ k d h. absurd (omega (arith, h)) }

-- ---- the call

module _ (first names : List (List ℕ)) (old mid sets : List (List Name)) (grows : Extends first names) (before : Extends old mid) (after : Extends mid sets) where
  pub begins : (form : Form) (items : List Item) (close : Hidden) (raw : List (List Hidden)) (call : Call) → IsHeldHidden first old call.head → IsHeldHidden first old close
      → IsHeldSet first mid call.hide.0
      → hide_at first mid call.hide.0 ≡ with_name (meet (hide_at first old call.head.hide.0) (hide_at first old close.hide.0)) (text_of first call.head.token.spelling)
      → IsTemplateOf names sets form items (seen_arguments names sets raw) call.head.token.place call.template
      → map tokens_of (reverse call.wanted.items) ≡ map (with_argument raw) (wanted_of form items) → length call.expanded.items ≡ length raw
      → All (λ (list : List (Cond × Hidden)). list ≡ []) call.expanded.items → Begins names sets form items call.cond call.head close raw call
  begins form items close raw call head_held close_held set_held hides template wanted long empty =
      let all = Extends-trans before after in
      let head_later = hide_later call.head.hide.0 head_held.hide grows all in
      let close_later = hide_later close.hide.0 close_held.hide grows all in
      let text = text_later call.head.token.spelling head_held.token.spelling grows in
      let now : hide_at names sets call.hide.0 ≡ with_name (meet (hide_at names sets call.head.hide.0) (hide_at names sets close.hide.0)) (text_of names call.head.token.spelling) =
      hide_later call.hide.0 set_held grows after ∙ (hides ∙ (λ i. with_name (meet (sym head_later i) (sym close_later i)) (sym text i))) in
      record {
        under = refl;
        of_name = refl;
        template = template;
        waits = λ s c.
            let st = stores s names sets in
            let asked = wanted_seen st raw (reverse call.wanted.items) (wanted_of form items) wanted in
            let none = none_expanded st c call.expanded.items raw long empty in
            λ i. record { head = seen_hidden names sets call.head; template = seen_template st call.head.token.place call.template; wanted = asked i; expanded = none i; names = now i };
      }

  token_later : (s : Sets) (files : ℕ) (h : Hidden) → IsHeldToken (stores s first old) files h → IsHeldToken (stores s names sets) files h
  token_later s files h held = record { held = IsHeldHidden-Extends h held.held grows (Extends-trans before after); file = held.file }

  pub tokens_later : (s : Sets) (files : ℕ) (raw : List (List Hidden)) → All (All (IsHeldToken (stores s first old) files)) raw → All (All (IsHeldToken (stores s names sets) files)) raw
  tokens_later s files raw held = All-weaker (All (IsHeldToken (stores s first old) files)) (All (IsHeldToken (stores s names sets) files))
      (λ a own. All-weaker (IsHeldToken (stores s first old) files) (IsHeldToken (stores s names sets) files) (token_later s files) a own) raw held

  pub held_call : (s : Sets) (files : ℕ) (call : Call) → IsCond s call.cond.0 → IsHeldToken (stores s first old) files call.head → IsHeldSet first mid call.hide.0
      → IsHeldTemplate (stores s names sets) files call.template → All (λ (w : Wanted). All (IsHeldToken (stores s names sets) files) w.tokens) call.wanted.items
      → All (λ (list : List (Cond × Hidden)). list ≡ []) call.expanded.items → IsHeldCall (stores s names sets) files call
  held_call s files call own head set template wanted empty = record {
    own = own;
    head = token_later s files call.head head;
    hide = IsHeldSet-Extends call.hide.0 set grows after;
    template = template;
    wanted = wanted;
    expanded = held_expanded (stores s names sets) files call.expanded.items empty;
  }

pub files_of : (st : Stores) (files : ℕ) (raw : List (List Hidden)) → All (All (IsHeldToken st files)) raw → All (All (λ (h : Hidden). h.token.place.file.0 < files)) raw
files_of st files raw held = All-weaker (All (IsHeldToken st files)) (All (λ h. h.token.place.file.0 < files))
    (λ a own. All-weaker (IsHeldToken st files) (λ h. h.token.place.file.0 < files) (λ h held. held.file) a own) raw held

-- ---- the call as one configuration has it

module _ (names : List (List ℕ)) (sets : List (List Name)) (provenance : Provenance Place) (d : Definition) where
  unraised : (raw : List (List Hidden)) → map {B = List (HiddenToken Place)} (λ (a : List Hidden). []) raw ≡ map (λ (a : List (HiddenToken Place)). []) (seen_arguments names sets raw)
  unraised [] = refl
  unraised (x ∷ xs) = ap (λ (r : List (List (HiddenToken Place))). [] ∷ r) (unraised xs)

  pub is_template : (items : List Item) (cond : Cond) (head close : Hidden) (raw : List (List Hidden)) (call : Call) (s : Sets) → list_of provenance d (seen_hidden names sets head) ≡ items
      → Begins names sets d.form items cond head close raw call
      → IsTemplate provenance d (seen_hidden names sets head) (seen_arguments names sets raw) (seen_template (stores s names sets) head.token.place call.template)
  is_template items cond head close raw call s is begun =
      let t = seen_hidden names sets head in
      record {
        stringized = ap (λ list. is_ok (list_slots t (seen_arguments names sets raw) d.form list)) is ∙ begun.template.stringized t refl;
        completes = λ expanded hidden. ap (λ list. substituted provenance d.form list t (seen_arguments names sets raw) expanded hidden) is ∙ begun.template.completes s t expanded provenance hidden refl;
      }

  pub is_gathered : (items : List Item) (cond : Cond) (head close : Hidden) (raw : List (List Hidden)) (call : Call) (s : Sets) (c : List ℕ) → list_of provenance d (seen_hidden names sets head) ≡ items
      → Begins names sets d.form items cond head close raw call
      → waiting_at (stores s names sets) call c
      ≡ gathered provenance d (seen_hidden names sets head) (seen_arguments names sets raw) (seen_hidden names sets close) (seen_template (stores s names sets) head.token.place call.template)
  is_gathered items cond head close raw call s c is begun =
      begun.waits s c
      ∙ (λ i. record {
        head = seen_hidden names sets head;
        template = seen_template (stores s names sets) head.token.place call.template;
        wanted = map (λ n. (n, argument (seen_arguments names sets raw) n)) (wanted_of d.form (sym is i));
        expanded = unraised raw i;
        names = with_name (meet (seen_hidden names sets head).hide (seen_hidden names sets close).hide) (seen_hidden names sets head).spelling;
      })

-- ---- what the tokens of a call say of it

module _ {P : Type 0} (macros : Macros) (t opener close : HiddenToken P) (between after : List (HiddenToken P)) (d : Definition) (parameters : List (List ℕ)) (variadic : Option Rest) where
  -- a name that is looked up, with a parenthesis behind it and one that closes it
  pub call_is : is_looked_up t ≡ true → macros t.spelling ≡ Some d → d.form ≡ function_like parameters variadic → same_bytes opener.spelling (codes "(") ≡ true
      → (call : SomeCall P) → call_of (length parameters) 0 (between ++ close ∷ after) ≡ Some call → call.rest ≡ after
      → case_of macros t (opener ∷ (between ++ close ∷ after)) ≡ fitted_case d close after (arguments_for parameters (is_some variadic) (parted (length parameters) 0 between))
  call_is looked_up defined form opens call calls ends =
      let rest = opener ∷ (between ++ close ∷ after) in
      let is = parted_call close after between (length parameters) 0 call calls ends in
      ap (λ b. looked_up_case macros b t.spelling rest) looked_up
      ∙ (ap (λ m. defined_case m rest) defined
      ∙ (ap (λ f. form_case d f rest) form
      ∙ (ap (λ b. if b then call_case d parameters (is_some variadic) (call_of (length parameters) 0 (between ++ close ∷ after)) else stays) opens
      ∙ (ap (call_case d parameters (is_some variadic)) calls
      ∙ (λ i. fitted_case d (is.close i) (ends i) (arguments_for parameters (is_some variadic) (is.arguments i)))))))

-- ---- the tokens at places

tokens_from : (s : Sets) (list : List (Cond × Hidden)) (other : Cond × Hidden) (c : List ℕ) (xs : List (Cond × Hidden)) (n : ℕ) → drop n list ≡ xs
    → map (token_at list other) (places_from s n (map (λ (x : Cond × Hidden). x.0) xs) c) ≡ items_at s xs c
tokens_from s list other c [] n is = refl
tokens_from s list other c (x ∷ xs) n is =
    let long : n < length list = omega (arith, length-drop n list, ap length is) in
    let two : get_or list n other ∷ drop (n + 1) list ≡ x ∷ xs = sym (drop_more list n other long) ∙ is in
    by (s.has x.0.0 c) two (tokens_from s list other c xs (n + 1) (ap (drop 1) two))
  where
    by : (b : Bool) → get_or list n other ∷ drop (n + 1) list ≡ x ∷ xs → map (token_at list other) (places_from s (n + 1) (map (λ (x : Cond × Hidden). x.0) xs) c) ≡ items_at s xs c
        → map (token_at list other) (if b then n ∷ places_from s (n + 1) (map (λ (x : Cond × Hidden). x.0) xs) c else places_from s (n + 1) (map (λ (x : Cond × Hidden). x.0) xs) c)
        ≡ (if b then x.1 ∷ items_at s xs c else items_at s xs c)
    by true two rest = λ i. (get_or (two i) 0 other).1 ∷ rest i
    by false two rest = rest

-- the tokens at the places of a configuration are those that it has
pub tokens_at_places : (s : Sets) (list : List (Cond × Hidden)) (other : Cond × Hidden) (c : List ℕ) (n : ℕ)
    → map (token_at list other) (places_from s n (map (λ (x : Cond × Hidden). x.0) (drop n list)) c) ≡ items_at s (drop n list) c
tokens_at_places s list other c n = tokens_from s list other c (drop n list) n refl

pub same_conds : (list : List (Cond × Hidden)) → map (λ (x : Cond × Token). x.0) (drop 1 (tokens_in list)) ≡ map (λ (x : Cond × Hidden). x.0) (drop 1 list)
same_conds [] = refl
same_conds (x ∷ xs) = map-map (λ (x : Cond × Token). x.0) (λ (x : Cond × Hidden). (x.0, x.1.token)) xs

pub map_of_take : {A B : Type 0} (f : A → B) (k : ℕ) (xs : List A) → map f (take k xs) ≡ take k (map f xs)
map_of_take f zero xs = refl
map_of_take f (suc k) [] = refl
map_of_take f (suc k) (x ∷ xs) = ap (λ r. f x ∷ r) (map_of_take f k xs)

-- the tokens of a call are its name and those behind it that are the call's
pub call_tokens : (s : Sets) (names : List (List ℕ)) (list : List (Cond × Hidden)) (other : Cond × Hidden) (c : List ℕ)
    → map (token_at list other) (call_places s names (tokens_in list) 0 c)
    ≡ token_at list other 0 ∷ take (call_length (spelled_at s names (drop 1 (tokens_in list)) c)) (items_at s (drop 1 list) c)
call_tokens s names list other c =
    let k = call_length (spelled_at s names (drop 1 (tokens_in list)) c) in
    ap (λ conds. token_at list other 0 ∷ map (token_at list other) (take k (places_from s 1 conds c))) (same_conds list)
    ∙ (ap (λ ts. token_at list other 0 ∷ ts) (map_of_take (token_at list other) k (places_from s 1 (map (λ (x : Cond × Hidden). x.0) (drop 1 list)) c))
    ∙ ap (λ ts. token_at list other 0 ∷ take k ts) (tokens_at_places s list other c 1))

-- ---- places one after the other

abbrev pub AreConsecutive : List ℕ → ℕ → Type 0
AreConsecutive places first = (index place : ℕ) → slice_get places index ≡ Some place → place ≡ first + index

pub consecutive_within : (bound first : ℕ) (places : List ℕ) → 0 < length places → AreConsecutive places first → All (λ place. place < bound) places → first + length places ≤ bound
consecutive_within bound first places some run within =
    let n = length places - 1 in
    let low : n < length places = omega (arith, some) in
    let last : get_or places n 0 ≡ first + n = run n (get_or places n 0) (slice_get-get_or places n 0 low) in
    omega (arith, some, last, within n 0 low)

consecutive_tokens : (list : List (Cond × Hidden)) (other : Cond × Hidden) (first : ℕ) (places : List ℕ) → AreConsecutive places first → first + length places ≤ length list
    → take (length places) (drop first (map (λ (x : Cond × Hidden). x.1) list)) ≡ map (token_at list other) places
consecutive_tokens list other first [] run within = refl
consecutive_tokens list other first (p ∷ places) run within =
    let tokens = map (λ (x : Cond × Hidden). x.1) list in
    let place : p ≡ first = run 0 p refl ∙ omega arith in
    let long : first < length tokens = omega (arith, within, length-map list (λ (x : Cond × Hidden). x.1)) in
    let token : get_or tokens first other.1 ≡ token_at list other p = get_or-map (λ (x : Cond × Hidden). x.1) list first other ∙ ap (token_at list other) (sym place) in
    let rest = consecutive_tokens list other (first + 1) places (λ index q is. run (suc index) q is ∙ omega arith) (omega (arith, within)) in
    ap (take (suc (length places))) (drop_more tokens first other.1 long) ∙ (λ i. token i ∷ rest i)

-- the tokens of a list that has all under one condition
pub tokens_under : (cond : Cond) (tokens : List Hidden) (list : List (Cond × Hidden)) → list ≡ map (λ (t : Hidden). (cond, t)) tokens → tokens ≡ map (λ (x : Cond × Hidden). x.1) list
tokens_under cond tokens list is =
    sym (map-id tokens) ∙ (sym (map-map (λ (x : Cond × Hidden). x.1) (λ (t : Hidden). (cond, t)) tokens) ∙ ap (map (λ (x : Cond × Hidden). x.1)) (sym is))

pub consecutive_shared : (cond : Cond) (tokens : List Hidden) (list : List (Cond × Hidden)) (other : Cond × Hidden) (first : ℕ) (places : List ℕ) → list ≡ map (λ (t : Hidden). (cond, t)) tokens
    → AreConsecutive places first → first + length places ≤ length list → take ((first + length places) - first) (drop first tokens) ≡ map (token_at list other) places
consecutive_shared cond tokens list other first places is run within =
    let many : (first + length places) - first ≡ length places = omega arith in
    ap (λ n. take n (drop first tokens)) many
    ∙ (ap (λ l. take (length places) (drop first l)) (tokens_under cond tokens list is)
    ∙ consecutive_tokens list other first places run within)

behind_from : (s : Sets) (list : List (Cond × Hidden)) (c : List ℕ) (xs : List (Cond × Hidden)) (n k : ℕ) → drop n list ≡ xs → k < length (items_at s xs c)
    → items_at s (drop (get_or (places_from s n (map (λ (x : Cond × Hidden). x.0) xs) c) k 0 + 1) list) c ≡ drop (suc k) (items_at s xs c)
behind_from s list c [] n k is h = absurd (omega (arith, h))
behind_from s list c (x ∷ xs) n k is h =
    let long : n < length list = omega (arith, length-drop n list, ap length is) in
    let two : get_or list n x ∷ drop (n + 1) list ≡ x ∷ xs = sym (drop_more list n x long) ∙ is in
    by (s.has x.0.0 c) k (ap (drop 1) two) (λ k. behind_from s list c xs (n + 1) k (ap (drop 1) two)) h
  where
    by : (b : Bool) (k : ℕ) → drop (n + 1) list ≡ xs
        → ((k : ℕ) → k < length (items_at s xs c) → items_at s (drop (get_or (places_from s (n + 1) (map (λ (x : Cond × Hidden). x.0) xs) c) k 0 + 1) list) c ≡ drop (suc k) (items_at s xs c))
        → k < length (if b then x.1 ∷ items_at s xs c else items_at s xs c)
        → items_at s (drop (get_or (if b then n ∷ places_from s (n + 1) (map (λ (x : Cond × Hidden). x.0) xs) c else places_from s (n + 1) (map (λ (x : Cond × Hidden). x.0) xs) c) k 0 + 1) list) c
        ≡ drop (suc k) (if b then x.1 ∷ items_at s xs c else items_at s xs c)
    by true zero rest later h = ap (λ l. items_at s l c) rest
    by true (suc k) rest later h = later k (omega (arith, h))
    by false k rest later h = later k h

-- behind the place of a token stands what follows the token
pub behind_place : (s : Sets) (list : List (Cond × Hidden)) (c : List ℕ) (n k : ℕ) → k < length (items_at s (drop n list) c)
    → items_at s (drop (get_or (places_from s n (map (λ (x : Cond × Hidden). x.0) (drop n list)) c) k 0 + 1) list) c ≡ drop (suc k) (items_at s (drop n list) c)
behind_place s list c n k h = behind_from s list c (drop n list) n k refl h

-- ---- a call leaves its list

pub taken_out : (old now : Sets) (before after : List (Cond × Hidden)) (n : ℕ) (by : Bool) (c : List ℕ) → Keeps old now → IsConfig old.arities c → All (λ (x : Cond × Hidden). IsCond old x.0.0) before
    → drop n after ≡ drop n before → items_at now (take n after) c ≡ (if not by then items_at old (take n before) c else [])
    → items_at now after c ≡ (if by then items_at old (drop n before) c else items_at old before c)
taken_out old now before after n by c keeps listed own rest restricted =
    let owned = All-drop (λ (x : Cond × Hidden). IsCond old x.0.0) n before own in
    ap (λ l. items_at now l c) (sym (take-append-drop n after))
    ∙ (items_at-append now (take n after) (drop n after) c
    ∙ ((λ i. restricted i ++ items_at now (rest i) c)
    ∙ (ap (λ l. (if not by then items_at old (take n before) c else []) ++ l) (items_at-Keeps (drop n before) c keeps owned listed) ∙ choose by)))
  where
    choose : (b : Bool) → (if not b then items_at old (take n before) c else []) ++ items_at old (drop n before) c ≡ (if b then items_at old (drop n before) c else items_at old before c)
    choose true = refl
    choose false = sym (items_at-append old (take n before) (drop n before) c) ∙ ap (λ l. items_at old l c) (take-append-drop n before)

-- where a configuration has none of the first tokens, it has not the first
pub first_gone : (s : Sets) (list : List (Cond × Hidden)) (n : ℕ) (c : List ℕ) → 0 < n → items_at s (take n list) c ≡ [] → has_first s list c ≡ false
first_gone s [] n c some none = refl
first_gone s (x ∷ xs) zero c some none = absurd (omega (arith, some))
first_gone s (x ∷ xs) (suc n) c some none = by (s.has x.0.0 c) none
  where
    by : (b : Bool) → (if b then x.1 ∷ items_at s (take n xs) c else items_at s (take n xs) c) ≡ [] → b ≡ false
    by true e = absurd (cc)
    by false e = refl
