-- That a text tells what ordinary preprocessing gives.
use Rattle.std.proofs.Common.{◌≡◌, ◌⊎◌, inl, inr, ℕ, ◌+◌, Some, slice_get, ◌==◌, not, Bool, true, false, List, [], ◌∷◌, map, length, Result, Ok, Err, arith, refl, sym, ap, ◌∙◌, subst}
use Rattle.std.proofs.lemmas.Bool.{and_parts}
use Rattle.std.proofs.lemmas.Bool.Decides.{nat_tests}
use Rattle.std.proofs.lemmas.Simd.{map-map}
use Rattle.std.proofs.lemmas.List.{length-map, nil_from_length}
use Rattle.std.specs.List.{list_all, list_any}
use Rattle.std.specs.Prelude.{All, nat_le, ◌||◌}
use Rattle.sc_args.specs.Words.{is_file_name}
use Rattle.sc_base.specs.declared.fault.Fault as base
use Rattle.sc_core.specs.declared.output.Output.{Output}
use Rattle.c11_parsing.specs.Parser.{Parser}
use Rattle.sc_core.proofs.OneItems.{alike-one, more-configs, nth-item}
use Rattle.sc_core.specs.OneItem.{indexes_from}
use Rattle.sc_core.specs.Ordinary.{Preprocesses, Setting}
use Rattle.sc_expand.specs.Stops.{HasConfigs}
use Rattle.sc_expand.specs.Thin.{IsNth}
use Rattle.sc_prep.proofs.NthItems.{nth-kept}
use Rattle.sc_prep.specs.Closes.{has_none, is_empty}
use Rattle.sc_prep.specs.OneElement.{IsThin}
use Rattle.c11_directives.specs.PutOut.{FilesPutOut}
use Rattle.sc_core.specs.CommandTexts.{AcceptsAll, IsRightAt, IsTokensText, Tells, shown_answer}
use Rattle.sc_prep.specs.Preprocesses.{Stands, IsOrdinary, OwnsList}
use Rattle.sc_core.specs.Texts.{lines_of, setting_of}
use Rattle.sc_guarded.proofs.ItemLemmas.{items_at-Keeps, faults_at-Keeps, faults_at-never, never-faults_at}
use Rattle.sc_prep.specs.declared.prepared.Prepared.{Prepared}
use Rattle.sc_guarded.specs.Items.{items_at, faults_at, seen_fault}
use Rattle.sc_base.specs.Seen.{seen}
use Rattle.sc_text.proofs.Alike.{AreAlike-project}
use Rattle.sc_text.proofs.OneText.{no-faults}
use Rattle.c11_directives.proofs.PreLaws.{pre-unique}
use Rattle.sc_model.proofs.SetLemmas.{IsConfig-Keeps}
use Rattle.sc_text.specs.Answer.{Answer, At, accepted, project, refused, token_list}
use Rattle.sc_text.specs.Layout.{IsTextOf}
use Rattle.sc_model.specs.Outside.{Files}
use Rattle.sc_model.specs.Fault.{Fault}
use Rattle.c11_directives.specs.Listed.{HasListed, IsListed}
use Rattle.c11_directives.specs.Pre.{Pre}
use Rattle.sc_model.specs.Sets.{Sets, IsConfig, IsNever, Keeps}
use Rattle.sc_model.specs.Space.{Space, arities_of}
use Rattle.sc_model.specs.Bytes.{has_no_newline}
use Rattle.sc_model.specs.Token.{Token, shown}
use Rattle.sc_show.proofs.ShownItems.{project-shown_items}
use Rattle.sc_show.specs.Shows.{Shows, shown_items}

-- ---- what a text shows of the lists

told : (answer : Answer token_list) (config : List ℕ) (ordinary : Result (List Token) Fault) (items : List Token) (refusals : List Fault)
    → project answer.body config ≡ map shown items → project answer.faults config ≡ refusals → Stands ordinary items refusals → At answer config (shown_answer ordinary)
told answer config (Ok ts) items refusals same_tokens same_faults stands = accepted (map shown ts) (same_faults ∙ stands.1) (same_tokens ∙ ap (map shown) stands.0)
told answer config (Err fault) items refusals same_tokens same_faults stands = refused fault (same_faults ∙ stands)

-- ---- whether a configuration is refused

accepted-by : (P : Result (List Token) Fault → Type 0) (a : Result (List Token) Fault) (items : List Token) (refusals : List Fault) → P a → refusals ≡ [] → Stands a items refusals → (ts : List Token) × P (Ok ts)
accepted-by P (Ok ts) items refusals p none stands = (ts, p)
accepted-by P (Err fault) items refusals p none stands = let no : [] ≡ fault ∷ [] = sym none ∙ stands in cc

unrefused-by : (a : Result (List Token) Fault) (ts items : List Token) (refusals : List Fault) → a ≡ Ok ts → Stands a items refusals → refusals ≡ []
unrefused-by (Ok us) ts items refusals e stands = stands.1
unrefused-by (Err fault) ts items refusals e stands = cc

pub tells-by : (b : Bool) (Never Accepted : Type 0) → (b ≡ false → Never) → (b ≡ true → Never → ⊥) → (Never → Accepted) → (Accepted → Never) → Tells (not b) Accepted
tells-by true Never Accepted none some accepts never = λ all. some refl (never all)
tells-by false Never Accepted none some accepts never = accepts (none refl)

module _ {s new : Sets} (keeps : Keeps s new) (names files : List (List ℕ)) (space : Space) (outside : Files) (main : List ℕ) (p : Prepared) (text : Output)
    (shows : Shows space new names files p.list p.faults.items text.lines.items) (owns : OwnsList s p) (arities : s.arities ≡ arities_of space)
    (lists : HasListed space) (ordinary : (config : List ℕ) → IsListed space config → IsOrdinary s names files p (Pre space outside main config) config)
    (others : (config : List ℕ) → IsConfig s.arities config → IsListed space config ⊎ (faults_at s p.faults.items config ≡ []))
    (none : text.is_refused ≡ false → All (λ (f : base.Fault). IsNever s f.cond.0) p.faults.items)
    (some : text.is_refused ≡ true → All (λ (f : base.Fault). IsNever s f.cond.0) p.faults.items → ⊥)
    (live : (config : List ℕ) → IsListed space config → s.has p.live.0 config ≡ has_none s p.faults.items config)
    (thin : (HasConfigs s.arities (space.branches + 1) → ⊥) → IsThin s p.list p.live.0 (FilesPutOut space outside main)) where
  here : (config : List ℕ) → IsConfig (arities_of space) config → IsConfig s.arities config
  here config formed = subst (λ ns. IsConfig ns config) (sym arities) formed

  there : (config : List ℕ) → IsConfig s.arities config → IsConfig (arities_of space) config
  there config formed = subst (λ ns. IsConfig ns config) arities formed

  shown-faults : (config : List ℕ) → IsConfig (arities_of space) config → project shows.answer.faults config ≡ map (seen_fault files) (faults_at s p.faults.items config)
  shown-faults config listed =
      shows.faults_are config (IsConfig-Keeps keeps (here config listed)) ∙ ap (map (seen_fault files)) (faults_at-Keeps p.faults.items config keeps owns.faults (here config listed))

  -- the text has no fault exactly where no configuration has one
  no-fault-shown : All (λ (f : base.Fault). IsNever s f.cond.0) p.faults.items → shows.answer.faults ≡ []
  no-fault-shown never =
      no-faults shows.text_of (λ config listed. shown-faults config listed ∙ ap (map (seen_fault files)) (faults_at-never s p.faults.items never config (here config listed)))

  no-fault-had : shows.answer.faults ≡ [] → All (λ (f : base.Fault). IsNever s f.cond.0) p.faults.items
  no-fault-had none =
      never-faults_at s p.faults.items (λ config listed.
      let shown = shown-faults config (there config listed) in
      let nothing : map (seen_fault files) (faults_at s p.faults.items config) ≡ [] = sym shown ∙ ap (λ faults. project faults config) none in
      nil_from_length (faults_at s p.faults.items config) (sym (length-map (faults_at s p.faults.items config) (seen_fault files)) ∙ ap length nothing))

  module _ (parser : Parser) where
    abbrev setting : Setting
    setting = setting_of space main parser outside

    ordinary-at : (config : List ℕ) → IsListed space config → IsRightAt (Preprocesses setting config) (λ o. At shows.answer config (shown_answer o))
    ordinary-at config listed =
        let o = ordinary config listed in
        let now = here config listed.formed in
        record {
          ordinary = o.answer;
          given = o.preprocessed;
          said = told shows.answer config o.answer (map (seen names files) (items_at s p.list config)) (map (seen_fault files) (faults_at s p.faults.items config))
              (sym (AreAlike-project config listed.formed shows.tokens) ∙ project-shown_items new names files p.list config
              ∙ (ap (map (λ t. shown (seen names files t))) (items_at-Keeps p.list config keeps owns.list now) ∙ sym (map-map shown (seen names files) (items_at s p.list config))))
              (shown-faults config listed.formed)
              o.stands;
        }

    all-accepted : All (λ (f : base.Fault). IsNever s f.cond.0) p.faults.items → AcceptsAll space (Preprocesses setting)
    all-accepted never config listed =
        let o = ordinary config listed in
        accepted-by (Preprocesses setting config) o.answer (map (seen names files) (items_at s p.list config)) (map (seen_fault files) (faults_at s p.faults.items config)) o.preprocessed
        (ap (map (seen_fault files)) (faults_at-never s p.faults.items never config (here config listed.formed))) o.stands

    none-refused : AcceptsAll space (Preprocesses setting) → All (λ (f : base.Fault). IsNever s f.cond.0) p.faults.items
    none-refused all =
        never-faults_at s p.faults.items (λ config formed. elim (others config formed) [
          | inl listed ↦ unrefused-at config listed
          | inr out ↦ out
        ])
      where
        unrefused-at : (config : List ℕ) → IsListed space config → faults_at s p.faults.items config ≡ []
        unrefused-at config listed =
            let o = ordinary config listed in
            let a = all config listed in
            let none : map (seen_fault files) (faults_at s p.faults.items config) ≡ [] =
            unrefused-by o.answer a.0 (map (seen names files) (items_at s p.list config)) (map (seen_fault files) (faults_at s p.faults.items config)) (pre-unique o.preprocessed a.1) o.stands in
            nil_from_length (faults_at s p.faults.items config) (sym (length-map (faults_at s p.faults.items config) (seen_fault files)) ∙ ap length none)

  -- who has no fault in the text is live
  live-shown : (config : List ℕ) → IsListed space config → project shows.answer.faults config ≡ [] → s.has p.live.0 config ≡ true
  live-shown config listed none =
      let nothing : map (seen_fault files) (faults_at s p.faults.items config) ≡ [] = sym (shown-faults config listed.formed) ∙ none in
      live config listed ∙ ap is_empty (nil_from_length (faults_at s p.faults.items config) (sym (length-map (faults_at s p.faults.items config) (seen_fault files)) ∙ ap length nothing))

  pub tells-tokens : (parser : Parser) → IsTokensText (setting_of space main parser outside) (lines_of text) (not text.is_refused)
  tells-tokens parser = record {
    answer = shows.answer;
    text = subst (λ pieces. IsTextOf space pieces shows.answer) (sym shows.cut) shows.text_of;
    valid = lists;
    verdict = tells-by text.is_refused (All (λ (f : base.Fault). IsNever s f.cond.0) p.faults.items) (shows.answer.faults ≡ []) none some no-fault-shown no-fault-had;
    right = record {
      each = ordinary-at parser;
      verdict = tells-by text.is_refused (All (λ (f : base.Fault). IsNever s f.cond.0) p.faults.items) (AcceptsAll space (Preprocesses (setting_of space main parser outside))) none some
          (all-accepted parser) (none-refused parser);
    };
    thin = λ few c d listed listed_d none none_d f index n m one two.
        let have = (thin (λ many. few (more-configs arities many))).one c d (here c listed.formed) (here d listed_d.formed) (live-shown c listed none) (live-shown d listed_d none_d) f index n m one two in
        alike-one c d listed.formed listed_d.formed shows.tokens n m (have.0, shown-nth c listed.formed n have.0 have.1, shown-nth d listed_d.formed m have.0 have.2);
  }
    where
      shown-nth : (c : List ℕ) → IsConfig (arities_of space) c → (n i : ℕ) → IsNth s p.list c n i → slice_get (indexes_from 0 (shown_items new names files p.list) c) n ≡ Some i
      shown-nth c formed n i is = nth-item new (λ t. shown (seen names files t)) c p.list n i (nth-kept p.list keeps owns.list (here c formed) n i is)

-- ---- the names of files

above : (x : ℕ) → nat_le 32 x ≡ true → (x == 10) ≡ false
above x h = grind (arith, nat_tests)

no_newline : (xs : List ℕ) → list_all (nat_le 32) xs ≡ true → list_any (λ b. b == 10) xs ≡ false
no_newline [] h = refl
no_newline (x ∷ xs) h =
    let p = and_parts (nat_le 32 x) (list_all (nat_le 32) xs) h in
    ap (λ b. b || list_any (λ b. b == 10) xs) (above x p.0) ∙ no_newline xs p.1

-- a main file's name is of one line
pub name-plain : (name : List ℕ) → is_file_name name ≡ true → has_no_newline name ≡ true
name-plain name h = ap not (no_newline name (and_parts (not (length name == 0)) (list_all (nat_le 32) name) h).1)
