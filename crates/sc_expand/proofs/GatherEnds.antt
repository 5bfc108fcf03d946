-- What taking the calls of a name out comes to, by how each configuration's call goes on.
use Rattle.std.proofs.Common.{◌≡◌, ℕ, ◌<◌, not, ◌&&◌, ◌||◌, Bool, true, false, List, [], ◌∷◌, All, get_or, length, map, Some, IsTrue, refl, sym, ap, subst, ◌∙◌, true≢false, arith, if◌then◌else◌}
use Rattle.sc_expand.proofs.AlikeTaking.{each-end, each-same-call, each-places}
use Rattle.sc_expand.proofs.Facts.{Extends-refl, IsConfig-kept, and-false, and_parts, form_later, hidden_later, text_later}
use Rattle.sc_expand.proofs.GatherBranches.{first-of-each}
use Rattle.sc_expand.proofs.GatherCases.{case-still, case-uncalled-alone, case-uncalled-bare, last-alone, not-last, spellings}
use Rattle.sc_expand.proofs.GatherPlaces.{spelled-behind}
use Rattle.sc_expand.proofs.GatherTaking.{function-form, rest-is}
use Rattle.sc_expand.proofs.TakingLemmas.{grown-list}
use Rattle.sc_expand.proofs.TakingSteps.{state-scanning}
use Rattle.sc_expand.proofs.Terms.{AreGathered, AreHeld, At, Branch, BranchesFull, CallEnd, Cond, Definition, Denotes, EndsBy, Expansion, Extends, Failure, Gathers, Grows, Hidden, HiddenToken, IsConfig, IsHeldDefinition, IsHeldHidden, IsHeldItem, IsMacro, IsSameCall, Keeps, Macros, Name, OutOfMemory, Place, Provenance, ReadFault, Sets, Stop, StopsAt, Stores, UnterminatedCall, Waits, alone, at, bare, call_end, call_end_at, call_places, case_of, closed, failure_at, has_each, has_first, held_up, is_end, is_function_like, is_left, is_looked_up, left_end, list_at, seen_at, seen_definition, seen_hidden, seen_item, seen_replacement, state_of, still, stores, text_of, tokens_in, unclosed, with_end}
use Rattle.sc_expand.proofs.WorkListLemmas.{has_each-Keeps}
use Rattle.sc_expand.specs.Gather as gathers
use Rattle.sc_expand.specs.Open as waiting
use Rattle.sc_expand.specs.Plain.{Fails, open_call}
use Rattle.sc_expand.specs.Turn as turn
use Rattle.sc_hoist.specs.Branches.{Refuses, lists_at}
use Rattle.sc_macro.specs.declared.definition.Definition as declared_definition
use Rattle.sc_macro.specs.declared.definition.Item as declared_item
use Rattle.sc_macro.specs.declared.form.Form as declared_form

pub end-is : (one two : CallEnd) → is_end one two ≡ true → two ≡ one
end-is closed closed is = refl
end-is still still is = refl
end-is bare bare is = refl
end-is alone alone is = refl
end-is closed still is = absurd (cc)
end-is closed bare is = absurd (cc)
end-is closed alone is = absurd (cc)
end-is still closed is = absurd (cc)
end-is still bare is = absurd (cc)
end-is still alone is = absurd (cc)
end-is bare closed is = absurd (cc)
end-is bare still is = absurd (cc)
end-is bare alone is = absurd (cc)
end-is alone closed is = absurd (cc)
end-is alone still is = absurd (cc)
end-is alone bare is = absurd (cc)

-- ---- why there is no answer

-- different lists of places are those of different calls
pub stops-at : {s t : Sets} {names : List (List ℕ)} {hides : List (List Name)} {files : ℕ} (cond : ℕ) {closes : ℕ} (list : List (Cond × Hidden)) (limit : ℕ) (stop : Stop) → Keeps s t → AreHeld (stores s names hides) files list
    → Denotes t closes (λ c. s.has cond c && is_end closed (call_end_at s names (tokens_in list) 0 c)) → Refuses t closes (λ c. call_places t names (tokens_in list) 0 c) limit stop
    → StopsAt s names (λ c. s.has cond c ≡ true) list limit stop
stops-at {s} {t} {names} {hides} {files} cond {closes} list limit (BranchesFull count) keeps held told is =
    let end : List ℕ → CallEnd = λ c. call_end_at s names (tokens_in list) 0 c in
    let grows : Grows (stores s names hides) (stores t names hides) = record { sets = keeps; names = Extends-refl names; hides = Extends-refl hides } in
    let listed : All (IsConfig s.arities) is.1.configs = λ k d h. IsConfig-kept keeps (is.1.listed k d h) in
    let parts : All (λ c. (s.has cond c ≡ true) × (end c ≡ closed)) is.1.configs = λ k d h. (
    let c = get_or is.1.configs k d in
    let two = and_parts (s.has cond c) (is_end closed (end c)) (sym (told.at c (is.1.listed k d h)) ∙ is.1.has k d h) in
    (two.0, end-is closed (end c) two.1)) in (
      is.0,
      record {
        configs = is.1.configs;
        many = is.1.many;
        listed = listed;
        take = λ k d h. (parts k d h).0;
        ends = λ k d h. (parts k d h).1;
        apart = λ i j d before within e.
            let early : i < length is.1.configs = omega (arith, before, within) in
            let same : IsSameCall s names (get_or is.1.configs i d) (get_or is.1.configs j d) list = record { ends = (parts i d early).1 ∙ sym (parts j d within).1; places = λ closes. e } in
            let later : IsSameCall t names (get_or is.1.configs i d) (get_or is.1.configs j d) list = each-same-call list list grows held refl (has_each-Keeps list _ keeps held.own (listed i d early)) (has_each-Keeps list _ keeps held.own (listed j d within)) same in
            is.1.apart i j d before within (later.places (each-end list list grows held refl _ (has_each-Keeps list _ keeps held.own (listed i d early)) ∙ (parts i d early).1));
      },
    )
stops-at cond list limit ReadFault keeps held told is = is
stops-at cond list limit OutOfMemory keeps held told is = tt

-- ---- one configuration

-- what the parts of it came to, where the name is called so
pub record Ending (old mid now new : Stores) (e0 e1 e2 : Expansion) (branches : List Branch) (failure : Failure Place) (c place : List ℕ) (whole refused uncalled has : Bool) (end : CallEnd) : Type 0 where
  pub lists : lists_at mid.sets branches c ≡ (if has && is_end closed end then place ∷ [] else [])
  pub refused_is : refused ≡ is_left whole (has && is_end still end) (has && is_end alone end)
  pub uncalled_is : uncalled ≡ ((has && is_end bare end) || (not whole && (has && is_end alone end)))
  pub other : refused ≡ false → at mid e1 c ≡ at old e0 c
  pub dead : refused ≡ true → (at mid e1 c).live ≡ false
  pub ends : refused ≡ true → (at mid e1 c).ends ≡ with_end (at old e0 c).ends (left_end whole failure)
  pub view : (at mid e1 c).view ≡ (at old e0 c).view
  pub each : has_each mid.sets e1.top.work c ≡ has_each old.sets e0.top.work c
  pub last : at new e2 c ≡ at now e2 c
  pub last_each : has_each new.sets e2.top.work c ≡ has_each now.sets e2.top.work c

module _ (old mid now new : Stores) (e0 e1 e2 : Expansion) (branches : List Branch) (form : declared_form.Form) (items : List declared_item.Item) (head : Hidden) (c place : List ℕ) (whole refused uncalled : Bool)
    (listed : IsConfig mid.sets.arities c) (done : AreGathered mid now e1 e2 form items head branches) where
  abbrev failure : Failure Place
  failure = failure_at UnterminatedCall (seen_hidden old.names old.hides head)

  abbrev Ended : Bool → CallEnd → Type 0
  Ended has end = Ending old mid now new e0 e1 e2 branches failure c place whole refused uncalled has end

  -- where no branch has it, it is as it was but for what was refused
  untaken : (has : Bool) (end : CallEnd) → Ended has end → (has && is_end closed end) ≡ false → (at new e2 c ≡ at mid e1 c) × (has_each new.sets e2.top.work c ≡ has_each old.sets e0.top.work c)
  untaken has end is none =
      let other = done.others c listed (is.lists ∙ ap (λ b. if b then place ∷ [] else []) none) in
      (is.last ∙ other.0, is.last_each ∙ (other.1 ∙ is.each))

  pub ended-other : (end : CallEnd) → Ended false end → ((at new e2 c ≡ at old e0 c) × (uncalled ≡ false)) × (has_each new.sets e2.top.work c ≡ has_each old.sets e0.top.work c)
  ended-other end is =
      let same = untaken false end is refl in
      ((same.0 ∙ is.other (is.refused_is ∙ and-false whole), is.uncalled_is ∙ and-false (not whole)), same.1)

  pub ended-first : (end : CallEnd) → Ended true end → has_first old.sets e0.top.work c ≡ true → (at new e2 c).live ≡ true → has_first new.sets e2.top.work c ≡ uncalled
  ended-first closed is stands live = first-of-each new.sets now.sets e2.top.work e2.top.work c is.last_each ∙ (done.first c place listed is.lists ∙ sym (is.uncalled_is ∙ and-false (not whole)))
  ended-first still is stands live = let gone = ap (λ (a : At). a.live) (untaken true still is refl).0 ∙ is.dead is.refused_is in absurd (true≢false (sym live ∙ gone))
  ended-first bare is stands live = first-of-each new.sets old.sets e2.top.work e0.top.work c (untaken true bare is refl).1 ∙ (stands ∙ sym is.uncalled_is)
  ended-first alone is stands live = by whole refl
    where
      by : (b : Bool) → whole ≡ b → has_first new.sets e2.top.work c ≡ uncalled
      by true opens = (let gone = ap (λ (a : At). a.live) (untaken true alone is refl).0 ∙ is.dead (is.refused_is ∙ ap (λ b. b && true) opens) in absurd (true≢false (sym live ∙ gone)))
      by false closes = first-of-each new.sets old.sets e2.top.work e0.top.work c (untaken true alone is refl).1 ∙ (stands ∙ sym (is.uncalled_is ∙ ap (λ b. not b && true) closes))

  module _ (provenance : Provenance Place) (macros : Macros) (d : Definition) (rest : List (HiddenToken Place)) (work : (at old e0 c).view.work ≡ seen_hidden old.names old.hides head ∷ rest) (calls : (at old e0 c).view.calls ≡ [])
      (same : seen_hidden mid.names mid.hides head ≡ seen_hidden old.names old.hides head) (looked : is_looked_up (seen_hidden old.names old.hides head) ≡ true)
      (defined : macros (seen_hidden old.names old.hides head).spelling ≡ Some d) (function : IsTrue (is_function_like d.form)) (macro : IsMacro mid provenance macros form items head d) (opens : (at old e0 c).whole ≡ whole) where
    abbrev t : HiddenToken Place
    t = seen_hidden old.names old.hides head

    -- what follows the list, or nothing, decides
    left-gathers : (end : CallEnd) → Ended true end → at new e2 c ≡ at mid e1 c → refused ≡ true → EndsBy provenance macros (at old e0 c).whole (state_of (at old e0 c).view) (left_end whole failure)
        → Gathers provenance macros t rest (at old e0 c) (at new e2 c) false
    left-gathers end is left gone by = gathers.ended (left_end whole failure) by
        (record { live = ap (λ (a : At). a.live) left ∙ is.dead gone; ends = ap (λ (a : At). a.ends) left ∙ is.ends gone; view = λ w. ap (λ (a : At). a.view) left ∙ is.view })

    left-still : (b : Bool) → (at old e0 c).whole ≡ b → case_of macros t rest ≡ unclosed → EndsBy provenance macros (at old e0 c).whole (state_of (at old e0 c).view) (left_end b failure)
    left-still true whole case = held_up whole (subst (Waits macros) (state-scanning (at old e0 c).view (t ∷ rest) work calls) (waiting.open_call (at old e0 c).view.out rest t case))
    left-still false inside case =
        let a = at old e0 c in
        turn.refused failure (subst (λ s. Fails provenance macros s failure) (state-scanning a.view (t ∷ rest) work calls) (open_call a.view.out rest t case)) (λ whole. absurd (true≢false (sym whole ∙ inside)))

    pub ended-gathers : (end : CallEnd) → Ended true end → call_end (spellings rest) ≡ end → Gathers provenance macros t rest (at old e0 c) (at new e2 c) uncalled
    ended-gathers closed is ends =
        let here = is.other (is.refused_is ∙ and-false whole) in
        let it = done.gathers c place provenance macros d rest listed is.lists (ap (λ (a : At). a.view.work) here ∙ (work ∙ ap (λ t. t ∷ rest) (sym same))) macro in
        let one = subst (λ t. Gathers provenance macros t rest (at mid e1 c) (at now e2 c) false) same it in
        let two = subst (λ a. Gathers provenance macros t rest a (at now e2 c) false) here one in
        let three = subst (λ b. Gathers provenance macros t rest (at old e0 c) b false) (sym is.last) two in
        subst (Gathers provenance macros t rest (at old e0 c) (at new e2 c)) (sym (is.uncalled_is ∙ and-false (not whole))) three
    ended-gathers still is ends =
        let f = function-form d.form function in
        let case = case-still macros t d looked defined f.parameters f.variadic f.is rest ends in
        subst (Gathers provenance macros t rest (at old e0 c) (at new e2 c)) (sym (is.uncalled_is ∙ and-false (not whole)))
        (left-gathers still is (untaken true still is refl).0 is.refused_is (left-still whole opens case))
    ended-gathers bare is ends =
        let f = function-form d.form function in
        let case = case-uncalled-bare macros t d looked defined f.parameters f.variadic f.is rest ends in
        let last = not-last macros t d looked defined f.parameters f.variadic f.is rest ends in
        subst (Gathers provenance macros t rest (at old e0 c) (at new e2 c)) (sym is.uncalled_is) (gathers.uncalled case (λ whole. last) ((untaken true bare is refl).0 ∙ is.other (is.refused_is ∙ and-false whole)))
    ended-gathers alone is ends = by whole refl
      where
        by : (b : Bool) → whole ≡ b → Gathers provenance macros t rest (at old e0 c) (at new e2 c) uncalled
        by true b_is =
            let f = function-form d.form function in
            let last = last-alone macros t d looked defined f.parameters f.variadic f.is rest ends in
            subst (Gathers provenance macros t rest (at old e0 c) (at new e2 c)) (sym (is.uncalled_is ∙ ap (λ b. not b && true) b_is))
            (left-gathers alone is (untaken true alone is refl).0 (is.refused_is ∙ ap (λ b. b && true) b_is)
            (subst (λ b. EndsBy provenance macros (at old e0 c).whole (state_of (at old e0 c).view) (left_end b failure)) (sym b_is)
            (held_up (opens ∙ b_is) (subst (Waits macros) (state-scanning (at old e0 c).view (t ∷ rest) work calls) (waiting.alone (at old e0 c).view.out rest t last)))))
        by false b_is =
            let f = function-form d.form function in
            let case = case-uncalled-alone macros t d looked defined f.parameters f.variadic f.is rest ends in
            subst (Gathers provenance macros t rest (at old e0 c) (at new e2 c)) (sym (is.uncalled_is ∙ ap (λ b. not b && true) b_is))
            (gathers.uncalled case (λ whole. absurd (true≢false (sym whole ∙ (opens ∙ b_is)))) ((untaken true alone is refl).0 ∙ is.other (is.refused_is ∙ ap (λ b. b && true) b_is)))

-- how the call goes on, by what follows the name
pub end-behind : (st : Stores) (list : List (Cond × Hidden)) (c : List ℕ) (t : HiddenToken Place) (rest : List (HiddenToken Place)) → has_first st.sets list c ≡ true → seen_at st list c ≡ t ∷ rest
    → call_end (spellings rest) ≡ call_end_at st.sets st.names (tokens_in list) 0 c
end-behind st list c t rest has is = ap (λ l. call_end (spellings l)) (rest-is st list c t rest has is) ∙ ap call_end (sym (spelled-behind st.names st.sets c st.hides list))

-- the macro whose list was made is that of the name
pub macro-is : (s : Sets) (names later : List (List ℕ)) (hides : List (List Name)) (provenance : Provenance Place) (macros : Macros) (definition : declared_definition.Definition) (head : Hidden) (items : List declared_item.Item)
    → IsHeldHidden names hides head → IsHeldDefinition names definition → All (IsHeldItem later) items → Extends names later
    → is_looked_up (seen_hidden names hides head) ≡ true → macros (text_of names head.token.spelling) ≡ Some (seen_definition names definition)
    → map (seen_item later) items ≡ list_at (seen_replacement later definition.replacement) (provenance.place head.token.place)
    → IsMacro (record { sets = s; names = later; hides = hides }) provenance macros definition.form items head (seen_definition names definition)
macro-is s names later hides provenance macros definition head items head_held held own e looked defined made = record {
  looked_up = ap is_looked_up (hidden_later head head_held e (Extends-refl hides)) ∙ looked;
  defined = ap macros (text_later head.token.spelling head_held.token.spelling e) ∙ defined;
  formed = sym (form_later definition.form held.form e);
  list = sym (grown-list definition items (provenance.place head.token.place) held own e (Extends-refl later) made);
}

-- ---- why the calls of a name give no answer, said of more configurations or of earlier stores

-- of more configurations
pub stops-weaker : (s : Sets) (names : List (List ℕ)) (P Q : List ℕ → Type 0) (list : List (Cond × Hidden)) (limit : ℕ) (stop : Stop) → ((c : List ℕ) → IsConfig s.arities c → P c → Q c)
    → StopsAt s names P list limit stop → StopsAt s names Q list limit stop
stops-weaker s names P Q list limit (BranchesFull count) from is =
    let calls = is.1 in (
      is.0,
      record { configs = calls.configs; many = calls.many; listed = calls.listed; take = λ k d h. from (get_or calls.configs k d) (calls.listed k d h) (calls.take k d h); ends = calls.ends; apart = calls.apart },
    )
stops-weaker s names P Q list limit ReadFault from is = is
stops-weaker s names P Q list limit OutOfMemory from is = is

-- of the list that these configurations had before
pub stops-earlier : {old mid : Stores} {files : ℕ} (P Q : List ℕ → Type 0) (before after : List (Cond × Hidden)) (limit : ℕ) (stop : Stop) → Grows old mid → AreHeld old files before
    → map (λ (item : Cond × Hidden). item.1) after ≡ map (λ (item : Cond × Hidden). item.1) before
    → ((c : List ℕ) → IsConfig mid.sets.arities c → P c → Q c × (has_each mid.sets after c ≡ has_each old.sets before c))
    → StopsAt mid.sets mid.names P after limit stop → StopsAt old.sets old.names Q before limit stop
stops-earlier {old} {mid} P Q before after limit (BranchesFull count) grows held tokens from is =
    let calls = is.1 in
    let told : (k : ℕ) (d : List ℕ) → k < length calls.configs → Q (get_or calls.configs k d) × (has_each mid.sets after (get_or calls.configs k d) ≡ has_each old.sets before (get_or calls.configs k d))
    = λ k d h. from (get_or calls.configs k d) (calls.listed k d h) (calls.take k d h) in (
      is.0,
      record {
        configs = calls.configs;
        many = calls.many;
        listed = λ k d h. IsConfig-kept grows.sets (calls.listed k d h);
        take = λ k d h. (told k d h).0;
        ends = λ k d h. sym (each-end before after grows held tokens (get_or calls.configs k d) (told k d h).1) ∙ calls.ends k d h;
        apart = λ i j d first within same.
            let early : i < length calls.configs = omega (arith, first, within) in
            calls.apart i j d first within (each-places before after grows held tokens (get_or calls.configs i d) (told i d early).1 ∙ (same ∙ sym (each-places before after grows held tokens (get_or calls.configs j d) (told j d within).1)));
      },
    )
stops-earlier P Q before after limit ReadFault grows held tokens from is = is
stops-earlier P Q before after limit OutOfMemory grows held tokens from is = is
