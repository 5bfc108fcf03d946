-- A result has one text.
use Rattle.std.proofs.Common.{◌≡◌, ℕ, ◌+◌, ◌<◌, Bool, true, false, List, [], ◌∷◌, ◌++◌, length, map, get_or, All, Option, Some, refl, sym, ap, subst, ◌∙◌, arith, if◌then◌else◌}
use Rattle.std.proofs.lemmas.Bool.{and_parts, ltb-true, true≢false}
use Rattle.std.proofs.lemmas.List.Elements.{All-nil, All-cons, All-head, All-tail}
use Rattle.std.proofs.lemmas.Option.{slice_get-get_or}
use Rattle.std.specs.List.{AllZip, cons_option, filter_map, list_all}
use Rattle.sc_text.specs.Answer.{Condition, Part, BodyKind, token_list, tree_parts, Body, Answer, project}
use Rattle.sc_text.specs.Layout.{Counts, at_start, IsKnown, LaysOut, done, shows, sets_of, is_item, IsTextOf, IsSameBranch, IsSamePart, AreAlikeBodies, IsSameAnswer, IsEmpty}
use Rattle.sc_model.specs.Fault.{Fault}
use Rattle.sc_model.specs.Sets.{IsConfig, IsCanonical}
use Rattle.sc_model.specs.Space.{Space, arities_of}
use Rattle.sc_text.specs.Text.{TextLine, condition_line, file_line, token_line, leaf_line, node_line, choice_line, root_line, fault_line, end_line, Need, condition_numbered, file_numbered, Said, token_said, part_said, root_said, fault_said, end_said, condition_at, branches_of, says, parts_said, body_said, answer_said, nothing_read, line_text}
use Rattle.sc_model.specs.Token.{Shown}
use Rattle.sc_text.proofs.LayoutReading.{AreRead, Holds, HasRead, laid_said, read-HasRead}
use Rattle.sc_text.proofs.OneAnswer.{IsSamePair, IsShown, pairs_from_alike, pairs_from_projections}
use Rattle.sc_text.proofs.ListLemmas.{All-front, All-back, All-map-back, AllZip-append, AllZip-map}
use Rattle.sc_text.proofs.OneLayout.{Fits, AgreeBelow, IsSameFile, IsSameNeed, IsSameItem, one_layout}

-- what is so of each line is so of each item
laid-All : {n m : Counts} {items lines : List TextLine} (P : TextLine → Type 0) → LaysOut n items lines m → All P lines → All P items
laid-All P (done n) all = All-nil P
laid-All P (shows n after m item items first lines introduced rest) all =
    let here = All-back P first (item ∷ lines) all in
    All-cons P item items (All-head P item lines here) (laid-All P rest (All-tail P item lines here))

-- ---- what is said has a configuration

-- some configuration has what is said under a condition
abbrev IsShownSaid : Space → Said → Type 0
IsShownSaid space (token_said pair) = IsShown space pair
IsShownSaid space (fault_said pair) = IsShown space pair
IsShownSaid space said = Unit {0}

module _ (space : Space) (conditions : List Condition) (files : List (List ℕ)) (canonical : IsCanonical (sets_of space conditions)) (never : IsEmpty space (condition_at conditions 0)) where
  -- a condition whose number is not that of never has a configuration
  number_shown : {number : ℕ} → 0 < number → number < length conditions → IsEmpty space (condition_at conditions number) → ⊥
  number_shown {number} positive below empty =
      let one = canonical.one number 0 (record { made = below }) (record { made = omega arith }) (record { at = λ config listed. empty.none config listed ∙ sym (never.none config listed) }) in
      omega arith

  item_shown : (line : TextLine) (said : List Said) → is_item line ≡ true → Holds space conditions files line → All (IsShownSaid space) said → All (IsShownSaid space) (cons_option (says conditions files line) said)
  item_shown (condition_line id name options) said right holds others = others
  item_shown (file_line id name) said right holds others = others
  item_shown (token_line cond place spelling) said right holds others = All-cons (IsShownSaid space) _ said (number_shown (ltb-true 0 cond right) holds.0) others
  item_shown (fault_line cond cause place) said right holds others = All-cons (IsShownSaid space) _ said (number_shown (ltb-true 0 cond right) holds.0) others
  item_shown line said right holds others = All-cons (IsShownSaid space) _ said tt others

  all_shown : (items : List TextLine) → list_all is_item items ≡ true → All (Holds space conditions files) items → All (IsShownSaid space) (filter_map (says conditions files) items)
  all_shown [] right holds = All-nil (IsShownSaid space)
  all_shown (line ∷ items) right holds =
      let parts = and_parts (is_item line) (list_all is_item items) right in
      item_shown line (filter_map (says conditions files) items) parts.0 (All-head (Holds space conditions files) line items holds) (all_shown items parts.1 (All-tail (Holds space conditions files) line items holds))

-- ---- the same is said

abbrev IsSameSaid : Space → Said → Said → Type 0
IsSameSaid space (token_said x) (token_said y) = IsSamePair space x y
IsSameSaid space (part_said id part) (part_said number other) = (id ≡ number) × IsSamePart space part other
IsSameSaid space (root_said root) (root_said other) = root ≡ other
IsSameSaid space (fault_said x) (fault_said y) = IsSamePair space x y
IsSameSaid space end_said end_said = Unit {0}
IsSameSaid space x y = ⊥

module _ (space : Space) where
  same_parts : (next : ℕ) (parts others : List Part) → AllZip (IsSamePart space) parts others → AllZip (IsSameSaid space) (parts_said next parts) (parts_said next others)
  same_parts next [] [] same = tt
  same_parts next [] (other ∷ others) same = absurd same
  same_parts next (part ∷ parts) [] same = absurd same
  same_parts next (part ∷ parts) (other ∷ others) same = ((refl, same.0), same_parts (next + 1) parts others same.1)

  same_body : (kind : BodyKind) (body other : Body kind) → AreAlikeBodies kind space body other → All (IsShownSaid space) (body_said kind body) → All (IsShownSaid space) (body_said kind other)
      → AllZip (IsSameSaid space) (body_said kind body) (body_said kind other)
  same_body token_list items others alike shown shown_too =
      AllZip-map (IsSamePair space) (IsSameSaid space) token_said token_said (λ x y same. same) items others
      (pairs_from_alike alike (All-map-back (IsShownSaid space) token_said items shown) (All-map-back (IsShownSaid space) token_said others shown_too))
  same_body tree_parts body other alike shown shown_too =
      AllZip-append (IsSameSaid space) (parts_said 0 body.parts) (root_said body.root ∷ []) (parts_said 0 other.parts) (root_said other.root ∷ []) (same_parts 0 body.parts other.parts alike.0) (alike.1, tt)

-- ---- what says the same is the same

-- two lines say the same
abbrev AreSameSaid : Space → Option Said → Option Said → Type 0
AreSameSaid space (Some x) (Some y) = IsSameSaid space x y
AreSameSaid space x y = ⊥

-- an item says something
item_said : (conditions : List Condition) (files : List (List ℕ)) (line : TextLine) → is_item line ≡ true → (said : Said) × (says conditions files line ≡ Some said)
item_said conditions files (condition_line id name options) right = absurd (true≢false (sym right))
item_said conditions files (file_line id name) right = absurd (true≢false (sym right))
item_said conditions files line right = (_, refl)

module _ (space : Space) (conditions others : List Condition) (files names : List (List ℕ)) where
  abbrev Same : TextLine → TextLine → Type 0
  Same = IsSameItem space conditions others files names

  same_file : {u v : ℕ} → u < length files → v < length names → get_or files u [] ≡ get_or names v [] → IsSameFile files names u v
  same_file {u} {v} below below_too same = record {
    name = get_or files u [];
    found = slice_get-get_or files u [] below;
    found_too = slice_get-get_or names v [] below_too ∙ ap Some (sym same);
  }

  abbrev conditions_needed : List (ℕ × ℕ) → List Need
  conditions_needed branches = map (λ (branch : ℕ × ℕ). condition_numbered branch.0) branches

  same_needs : (xs ys : List (ℕ × ℕ)) → AllZip (IsSameBranch space) (branches_of conditions xs) (branches_of others ys) → AreRead conditions files (conditions_needed xs) → AreRead others names (conditions_needed ys)
      → AllZip (IsSameNeed space conditions others files names) (conditions_needed xs) (conditions_needed ys)
  same_needs [] [] same read read_too = tt
  same_needs [] (y ∷ ys) same read read_too = absurd same
  same_needs (x ∷ xs) [] same read read_too = absurd same
  same_needs (x ∷ xs) (y ∷ ys) same read read_too = (record { below = read.0; below_too = read_too.0; same = same.0.cond }, same_needs xs ys same.1 read.1 read_too.1)

  same_branches : (xs ys : List (ℕ × ℕ)) → AllZip (IsSameBranch space) (branches_of conditions xs) (branches_of others ys) → conditions_needed xs ≡ conditions_needed ys → xs ≡ ys
  same_branches [] [] same needed = refl
  same_branches [] (y ∷ ys) same needed = absurd same
  same_branches (x ∷ xs) [] same needed = absurd same
  same_branches (x ∷ xs) (y ∷ ys) same needed =
      let number : x.0 ≡ y.0 = cc in
      let later = same_branches xs ys same.1 cc in
      λ i. (number i, same.0.child i) ∷ later i

  same_line : (x y : TextLine) → Holds space conditions files x → Holds space others names y → AreSameSaid space (says conditions files x) (says others names y) → Same x y
  same_line (token_line a p spelling) (token_line b q written) holds holds_too same = record {
    same = (record { below = holds.0; below_too = holds_too.0; same = same.cond }, (same_file holds.1.0 holds_too.1.0 (ap (λ (s : Shown). s.place.file) same.item), tt));
    one = λ needed.
        let number : a ≡ b = cc in
        let file : p.file ≡ q.file = cc in
        λ i. token_line (number i) (record { file = file i; position = (same.item i).place.position }) (same.item i).spelling;
  }
  same_line (leaf_line id p spelling) (leaf_line number q written) holds holds_too same = record {
    same = (same_file holds.0 holds_too.0 (ap (λ (s : Shown). s.place.file) same.1), tt);
    one = λ needed.
        let file : p.file ≡ q.file = cc in
        λ i. leaf_line (same.0 i) (record { file = file i; position = (same.1 i).place.position }) (same.1 i).spelling;
  }
  same_line (node_line id production children) (node_line number other others) holds holds_too same = record { same = tt; one = λ needed. λ i. node_line (same.0 i) (same.1.0 i) (same.1.1 i) }
  same_line (choice_line id xs) (choice_line number ys) holds holds_too same = record {
    same = same_needs xs ys same.1 holds holds_too;
    one = λ needed. let branches = same_branches xs ys same.1 needed in λ i. choice_line (same.0 i) (branches i);
  }
  same_line (root_line root) (root_line other) holds holds_too same = record { same = tt; one = λ needed. ap root_line same }
  same_line (fault_line a cause p) (fault_line b reason q) holds holds_too same = record {
    same = (record { below = holds.0; below_too = holds_too.0; same = same.cond }, (same_file holds.1.0 holds_too.1.0 (ap (λ (f : Fault). f.place.file) same.item), tt));
    one = λ needed.
        let number : a ≡ b = cc in
        let file : p.file ≡ q.file = cc in
        λ i. fault_line (number i) (same.item i).cause (record { file = file i; position = (same.item i).place.position });
  }
  same_line end_line end_line holds holds_too same = record { same = tt; one = λ needed. refl }
  same_line (leaf_line id p spelling) (node_line number other ys) holds holds_too same = absurd same.1
  same_line (leaf_line id p spelling) (choice_line number ys) holds holds_too same = absurd same.1
  same_line (node_line id production children) (leaf_line number q written) holds holds_too same = absurd same.1
  same_line (node_line id production children) (choice_line number ys) holds holds_too same = absurd same.1
  same_line (choice_line id xs) (leaf_line number q written) holds holds_too same = absurd same.1
  same_line (choice_line id xs) (node_line number other ys) holds holds_too same = absurd same.1
  same_line x y holds holds_too same = absurd same

  same_items : (xs ys : List TextLine) → list_all is_item xs ≡ true → list_all is_item ys ≡ true → All (Holds space conditions files) xs → All (Holds space others names) ys
      → AllZip (IsSameSaid space) (filter_map (says conditions files) xs) (filter_map (says others names) ys) → AllZip Same xs ys
  same_items [] [] right right_too holds holds_too same = tt
  same_items [] (y ∷ ys) right right_too holds holds_too same =
      let said = item_said others names y (and_parts (is_item y) (list_all is_item ys) right_too).0 in
      absurd (subst (λ o. AllZip (IsSameSaid space) [] (cons_option o (filter_map (says others names) ys))) said.1 same)
  same_items (x ∷ xs) [] right right_too holds holds_too same =
      let said = item_said conditions files x (and_parts (is_item x) (list_all is_item xs) right).0 in
      absurd (subst (λ o. AllZip (IsSameSaid space) (cons_option o (filter_map (says conditions files) xs)) []) said.1 same)
  same_items (x ∷ xs) (y ∷ ys) right right_too holds holds_too same =
      let P = Holds space conditions files in
      let Q = Holds space others names in
      let parts = and_parts (is_item x) (list_all is_item xs) right in
      let parts_too = and_parts (is_item y) (list_all is_item ys) right_too in
      let said = item_said conditions files x parts.0 in
      let told = item_said others names y parts_too.0 in
      let first = subst (λ o. AllZip (IsSameSaid space) (cons_option o (filter_map (says conditions files) xs)) (cons_option (says others names y) (filter_map (says others names) ys))) said.1 same in
      let both = subst (λ o. AllZip (IsSameSaid space) (said.0 ∷ filter_map (says conditions files) xs) (cons_option o (filter_map (says others names) ys))) told.1 first in (
        same_line x y (All-head P x xs holds) (All-head Q y ys holds_too)
            (subst (λ o. AreSameSaid space o (says others names y)) (sym said.1) (subst (AreSameSaid space (Some said.0)) (sym told.1) both.0)),
        same_items xs ys parts.1 parts_too.1 (All-tail P x xs holds) (All-tail Q y ys holds_too) both.1,
      )

-- ---- the whole texts

-- what is known of the lines of a text
module _ {kind : BodyKind} {space : Space} {pieces : List (List ℕ)} {answer : Answer kind} (x : IsTextOf space pieces answer) where
  text_read : HasRead space nothing_read x.reads.reading x.reads.lines
  text_read = read-HasRead space x.reads.lines nothing_read x.reads.reading (omega arith) x.reads.read

  text_fits : All (Fits space x.reads.reading.conditions x.reads.reading.files) x.reads.lines
  text_fits = λ k d below. (text_read.holds k d below, x.rules.ordered k d below)

  items_hold : All (Holds space x.reads.reading.conditions x.reads.reading.files) x.rules.items
  items_hold = laid-All (Holds space x.reads.reading.conditions x.reads.reading.files) x.rules.laid text_read.holds

  text_said : answer_said answer ≡ filter_map (says x.reads.reading.conditions x.reads.reading.files) x.rules.items
  text_said = sym x.reads.answer_is ∙ text_read.said ∙ laid_said x.reads.reading.conditions x.reads.reading.files x.rules.laid

  said_shown : All (IsShownSaid space) (answer_said answer)
  said_shown = subst (All (IsShownSaid space)) (sym text_said)
      (all_shown space x.reads.reading.conditions x.reads.reading.files x.rules.reduced (record { none = λ config listed. ap (λ f. f config) (text_read.kept 0 (omega arith)) }) x.rules.items x.rules.right items_hold)

  body_shown : All (IsShownSaid space) (body_said kind answer.body)
  body_shown = All-front (IsShownSaid space) (body_said kind answer.body) (map fault_said answer.faults ++ end_said ∷ []) said_shown

  -- some configuration has each fault
  pub faults_shown : All (IsShown space) answer.faults
  faults_shown =
      All-map-back (IsShownSaid space) fault_said answer.faults
      (All-front (IsShownSaid space) (map fault_said answer.faults) (end_said ∷ []) (All-back (IsShownSaid space) (body_said kind answer.body) (map fault_said answer.faults ++ end_said ∷ []) said_shown))

module _ {kind : BodyKind} {space : Space} {p q : List (List ℕ)} {a b : Answer kind} (x : IsTextOf space p a) (y : IsTextOf space q b) (answers : IsSameAnswer space a b) where
  agree : AgreeBelow space x.reads.reading.conditions y.reads.reading.conditions x.reads.reading.files y.reads.reading.files at_start
  agree = record { positive = omega arith; each = each }
    where
      each : (need : Need) → IsKnown at_start need → IsSameNeed space x.reads.reading.conditions y.reads.reading.conditions x.reads.reading.files y.reads.reading.files need need
      each (condition_numbered n) below = record {
        below = omega (arith, (text_read x).grows);
        below_too = omega (arith, (text_read y).grows);
        same = record { at = λ config listed. ap (λ f. f config) ((text_read x).kept n below ∙ sym ((text_read y).kept n below)) };
      }
      each (file_numbered n) below = absurd (omega arith)

  same_said : AllZip (IsSameSaid space) (answer_said a) (answer_said b)
  same_said =
      AllZip-append (IsSameSaid space) (body_said kind a.body) (map fault_said a.faults ++ end_said ∷ []) (body_said kind b.body) (map fault_said b.faults ++ end_said ∷ [])
      (same_body space kind a.body b.body answers.body (body_shown x) (body_shown y))
      (AllZip-append (IsSameSaid space) (map fault_said a.faults) (end_said ∷ []) (map fault_said b.faults) (end_said ∷ [])
      (AllZip-map (IsSamePair space) (IsSameSaid space) fault_said fault_said (λ x y same. same) a.faults b.faults
      (pairs_from_projections a.faults b.faults x.ascending y.ascending (faults_shown x) (faults_shown y) answers.faults))
      (tt, tt))

  one_lines : x.reads.lines ≡ y.reads.lines
  one_lines =
      one_layout space x.reads.reading.conditions y.reads.reading.conditions x.reads.reading.files y.reads.reading.files x.rules.reduced y.rules.reduced x.rules.named_once y.rules.named_once x.rules.laid y.rules.laid refl agree
      (same_items space x.reads.reading.conditions y.reads.reading.conditions x.reads.reading.files y.reads.reading.files x.rules.items y.rules.items x.rules.right y.rules.right (items_hold x) (items_hold y)
      (rw (text_said x, text_said y) at same_said))
      (text_fits x) (text_fits y)

  pub one_text : p ≡ q
  one_text = x.reads.written ∙ ap (map line_text) one_lines ∙ sym y.reads.written

hidden_by : {T : Type 0} (b : Bool) (item : T) (items : List T) → (if b then item ∷ items else items) ≡ [] → b ≡ false
hidden_by true item items e = cc
hidden_by false item items e = refl

nothing_shown : {T : Type 0} {space : Space} (xs : List (Condition × T)) → All (IsShown space) xs → ((config : List ℕ) → IsConfig (arities_of space) config → project xs config ≡ []) → xs ≡ []
nothing_shown [] shown none = refl
nothing_shown {T} {space} (x ∷ xs) shown none =
    absurd (All-head (IsShown space) x xs shown (record { none = λ config listed. hidden_by (x.0 config) x.1 (project xs config) (none config listed) }))

-- a text whose faults no configuration has is one without faults
pub no-faults : {kind : BodyKind} {space : Space} {pieces : List (List ℕ)} {answer : Answer kind} → IsTextOf space pieces answer
    → ((config : List ℕ) → IsConfig (arities_of space) config → project answer.faults config ≡ []) → answer.faults ≡ []
no-faults {answer = answer} x none = nothing_shown answer.faults (faults_shown x) none
