-- What marks do to levels under a condition.
use Rattle.std.proofs.Common.{◌≡◌, ℕ, ◌<◌, ◌+◌, ◌&&◌, Bool, true, false, List, [], ◌∷◌, ◌++◌, All, length, map, take, get_or, slice_get, Option, Some, refl, sym, ap, ◌∙◌, subst, if◌then◌else◌}
use Rattle.std.proofs.lemmas.List.{get_or_default}
use Rattle.c11_parsing.specs.Bindings as plain
use Rattle.c11_parsing.specs.Bindings.{bind, bind_all, marked, parameters_by}
use Rattle.c11_parsing.specs.C11.{c11_declarators}
use Rattle.c11_parsing.specs.Trees.{Tree}
use Rattle.lr_tables.specs.declared.grammar.Mark.{Mark}
use Rattle.lr_tables.specs.declared.grammar.Mark.TheVariants.{Push, PushParameters, Join}
use Rattle.sc_base.specs.declared.id.Cond.{Cond}
use Rattle.sc_base.specs.declared.id.Name.{Name}
use Rattle.sc_base.specs.declared.id.TreeId.{TreeId}
use Rattle.sc_fork.specs.Reducing.{BindsUnder, Rebinds}
use Rattle.sc_guarded.specs.Items.{items_at}
use Rattle.sc_guarded.proofs.ItemLemmas.{items_at-take}
use Rattle.sc_model.specs.Growth.{IsOneToOne}
use Rattle.sc_model.specs.Sets.{Sets, IsConfig, IsCond, Denotes, Keeps, IsNever}
use Rattle.sc_model.proofs.SetLemmas.{Denotes-self, IsConfig-Keeps}
use Rattle.sc_scope.specs.declared.kind.NameKind.{NameKind}
use Rattle.sc_scope.specs.Levels.{Level, no_bindings, bound, joined}
use Rattle.sc_scope.specs.Search.{OwnsLevels}
use Rattle.sc_scope.specs.Shows.{Shows, kind_of}
use Rattle.sc_scope.proofs.ShowLemmas.{push-shows, join-shows, bind-shows, bind-outside, Shows-Keeps}
use Rattle.sc_merge.specs.Merges.{tables_with}
use Rattle.sc_merge.specs.Shows.{ValueReads, tree_reads}
use Rattle.sc_tree.specs.Lines.{Line}
use Rattle.sc_tree.specs.Reads.{Reads, Spells}

-- ---- texts of names

spells_none : (names texts : List (List ℕ)) → Spells names [] texts → texts ≡ []
spells_none names [] spells = refl
spells_none names (text ∷ texts) spells = let e = spells.same in absurd (cc)

-- the text of the first name, and those of the others
record Spelled (names : List (List ℕ)) (name : Name) (found : List Name) (texts : List (List ℕ)) : Type 0 where
  text : List ℕ
  rest : List (List ℕ)
  is : texts ≡ text ∷ rest
  at : slice_get names name.0 ≡ Some text
  spells : Spells names found rest

spelled : (names : List (List ℕ)) (name : Name) (found : List Name) (texts : List (List ℕ)) → Spells names (name ∷ found) texts → Spelled names name found texts
spelled names name found [] spells = let e = spells.same in absurd (cc)
spelled names name found (text ∷ texts) spells =
    let e = spells.same in
    let at : slice_get names name.0 ≡ Some text = cc in
    let rest : map (λ (n : Name). slice_get names n.0) found ≡ map (λ (t : List ℕ). Some t) texts = cc in
    record { text = text; rest = texts; is = refl; at = at; spells = record { same = rest } }

-- the texts of two lists of names
record Halves (names : List (List ℕ)) (xs ys : List Name) (texts : List (List ℕ)) : Type 0 where
  first : List (List ℕ)
  second : List (List ℕ)
  is : texts ≡ first ++ second
  spells_first : Spells names xs first
  spells_second : Spells names ys second

halves : (names : List (List ℕ)) (xs ys : List Name) (texts : List (List ℕ)) → Spells names (xs ++ ys) texts → Halves names xs ys texts
halves names [] ys texts spells = record { first = []; second = texts; is = refl; spells_first = record { same = refl }; spells_second = spells }
halves names (x ∷ xs) ys texts spells =
    let s = spelled names x (xs ++ ys) texts spells in
    let h = halves names xs ys s.rest s.spells in
    record {
      first = s.text ∷ h.first;
      second = h.second;
      is = s.is ∙ ap (λ ts. s.text ∷ ts) h.is;
      spells_first = record { same = ap (λ z. z ∷ map (λ (n : Name). slice_get names n.0) xs) s.at ∙ ap (λ zs. Some s.text ∷ zs) h.spells_first.same };
      spells_second = h.spells_second;
    }

bind_all-append : (kind : plain.NameKind) (xs ys : List (List ℕ)) (levels : List plain.Level) → bind_all kind (xs ++ ys) levels ≡ bind_all kind ys (bind_all kind xs levels)
bind_all-append kind [] ys levels = refl
bind_all-append kind (x ∷ xs) ys levels = bind_all-append kind xs ys (bind kind x levels)

-- ---- names under a condition

both : (a b : Bool) → a ≡ true → b ≡ true → (a && b) ≡ true
both a b h k = ap (λ z. z && b) h ∙ k

second_fails : (a b : Bool) → b ≡ false → (a && b) ≡ false
second_fails true b h = h
second_fails false b h = refl

first_holds : (a b : Bool) → a ≡ true → b ≡ (a && b)
first_holds a b h = sym (ap (λ z. z && b) h)

module _ (old new : Sets) (cond : Cond) (kind : NameKind) (name : Cond × Name) (levels : List Level) (keeps : Keeps old new) (own : OwnsLevels old levels) where
  -- the configurations that have the name have the part
  pub one-bound : (part : Cond) → ((c : List ℕ) → IsConfig old.arities c → new.has part.0 c ≡ (old.has cond.0 c && old.has name.0.0 c))
      → BindsUnder old new cond kind (name ∷ []) levels (bound name.1.0 (part, kind) levels)
  one-bound part is = record { shows = λ names c texts shown one listed has spells shows. by names c texts shown one listed has shows (old.has name.0.0 c) refl spells }
    where
      by : (names : List (List ℕ)) (c : List ℕ) (texts : List (List ℕ)) (shown : List plain.Level) → IsOneToOne names → IsConfig old.arities c → old.has cond.0 c ≡ true
          → Shows old names c levels shown → (b : Bool) → old.has name.0.0 c ≡ b → Spells names (if b then name.1 ∷ [] else []) texts
          → Shows new names c (bound name.1.0 (part, kind) levels) (bind_all (kind_of kind) texts shown)
      by names c texts shown one listed has shows true inside spells =
          let s = spelled names name.1 [] texts spells in
          let alone : texts ≡ s.text ∷ [] = s.is ∙ ap (λ ts. s.text ∷ ts) (spells_none names s.rest s.spells) in
          subst (λ ts. Shows new names c (bound name.1.0 (part, kind) levels) (bind_all (kind_of kind) ts shown)) (sym alone)
          (bind-shows new names c name.1.0 s.text part kind levels shown one s.at (is c listed ∙ both (old.has cond.0 c) (old.has name.0.0 c) has inside)
          (Shows-Keeps names c levels shown keeps listed own shows))
      by names c texts shown one listed has shows false outside spells =
          subst (λ ts. Shows new names c (bound name.1.0 (part, kind) levels) (bind_all (kind_of kind) ts shown)) (sym (spells_none names texts spells))
          (bind-outside new names c name.1.0 part kind levels shown (is c listed ∙ second_fails (old.has cond.0 c) (old.has name.0.0 c) outside)
          (Shows-Keeps names c levels shown keeps listed own shows))

  -- no configuration of the condition has the name
  pub none-bound : ((c : List ℕ) → IsConfig old.arities c → old.has cond.0 c ≡ true → old.has name.0.0 c ≡ false) → BindsUnder old new cond kind (name ∷ []) levels levels
  none-bound never = record {
    shows = λ names c texts shown one listed has spells shows.
        subst (λ ts. Shows new names c levels (bind_all (kind_of kind) ts shown))
        (sym (spells_none names texts (subst (λ b. Spells names (if b then name.1 ∷ [] else []) texts) (never c listed has) spells)))
        (Shows-Keeps names c levels shown keeps listed own shows);
  }

-- what both conditions have, met with what the condition has
pub part-is : (old new : Sets) (cond part : Cond) (name : ℕ) → IsCond old cond.0 → IsCond old name
    → ((f g : List ℕ → Bool) → Denotes old cond.0 f → Denotes old name g → Denotes new part.0 (λ c. f c && g c)) → Keeps old new
    → (c : List ℕ) → IsConfig old.arities c → new.has part.0 c ≡ (old.has cond.0 c && old.has name c)
part-is old new cond part name own name_own meaning keeps c listed =
    (meaning (old.has cond.0) (old.has name) (Denotes-self old cond.0 own) (Denotes-self old name name_own)).at c (IsConfig-Keeps keeps listed)

pub part-never : (old new : Sets) (cond part : Cond) (name : ℕ) → Keeps old new → IsNever new part.0
    → ((c : List ℕ) → IsConfig old.arities c → new.has part.0 c ≡ (old.has cond.0 c && old.has name c))
    → (c : List ℕ) → IsConfig old.arities c → old.has cond.0 c ≡ true → old.has name c ≡ false
part-never old new cond part name keeps never is c listed has =
    first_holds (old.has cond.0 c) (old.has name c) has ∙ sym (is c listed) ∙ never.none c (IsConfig-Keeps keeps listed)

-- ---- names in order

pub binds-nothing : (s : Sets) (cond : Cond) (kind : NameKind) (found : List (Cond × Name)) (levels : List Level) → found ≡ [] → BindsUnder s s cond kind found levels levels
binds-nothing s cond kind found levels none = record {
  shows = λ names c texts shown one listed has spells shows.
      subst (λ ts. Shows s names c levels (bind_all (kind_of kind) ts shown))
      (sym (spells_none names texts (subst (λ xs. Spells names (items_at s xs c) texts) none spells))) shows;
}

-- one name more
pub binds-more : (old mid new : Sets) (cond : Cond) (kind : NameKind) (found : List (Cond × Name)) (i : ℕ) (z : Cond × Name) (levels others after : List Level) → Keeps old mid
    → IsCond old cond.0 → All (λ (n : Cond × Name). IsCond old n.0.0) found → i < length found → BindsUnder old mid cond kind (take i found) levels others
    → BindsUnder mid new cond kind (get_or found i z ∷ []) others after → BindsUnder old new cond kind (take (i + 1) found) levels after
binds-more old mid new cond kind found i z levels others after keeps own names_own within before binds = record { shows = shows }
  where
    name : Cond × Name
    name = get_or found i z

    is_at : name ≡ get_or found i name
    is_at = get_or_default found i z name within

    shows : (names : List (List ℕ)) (c : List ℕ) (texts : List (List ℕ)) (shown : List plain.Level) → IsOneToOne names → IsConfig old.arities c → old.has cond.0 c ≡ true
        → Spells names (items_at old (take (i + 1) found) c) texts → Shows old names c levels shown → Shows new names c after (bind_all (kind_of kind) texts shown)
    shows names c texts shown one listed has spells levels_show =
        let Own : Cond × Name → Type 0 = λ n. IsCond old n.0.0 in
        let name_own : IsCond old name.0.0 = names_own i z within in
        let h = halves names (items_at old (take i found) c) (if old.has name.0.0 c then name.1 ∷ [] else []) texts
        (subst (λ xs. Spells names xs texts) (items_at-take old found i name c within is_at) spells) in
        let later : Spells names (items_at mid (name ∷ []) c) h.second = subst (λ b. Spells names (if b then name.1 ∷ [] else []) h.second) (sym (keeps.at name.0.0 c name_own listed)) h.spells_second in
        subst (λ ls. Shows new names c after ls) (sym (ap (λ ts. bind_all (kind_of kind) ts shown) h.is ∙ bind_all-append (kind_of kind) h.first h.second shown))
        (binds.shows names c h.second (bind_all (kind_of kind) h.first shown) one (IsConfig-Keeps keeps listed) (keeps.at cond.0 c own listed ∙ has) later
        (before.shows names c h.first shown one listed has h.spells_first levels_show))

-- ---- names of a tree

-- the names that are found are those of the tree
pub rebinds-found : (old mid new : Sets) (lines : List Line) (cond : Cond) (kind : NameKind) (id : TreeId) (texts_of : Tree → List (List ℕ)) (found : List (Cond × Name)) (levels others : List Level)
    → Keeps old mid → IsCond old cond.0 → OwnsLevels old levels
    → ((names files : List (List ℕ)) (c : List ℕ) (tree : Tree) → IsConfig old.arities c → Reads (tables_with old lines names files) c id.0 tree → Spells names (items_at mid found c) (texts_of tree))
    → BindsUnder mid new cond kind found levels others → (by_tree : Option Tree → List (List ℕ)) → ((tree : Tree) → by_tree (Some tree) ≡ texts_of tree)
    → Rebinds old new lines cond (Some id) (λ tree. bind_all (kind_of kind) (by_tree tree)) levels others
rebinds-found old mid new lines cond kind id texts_of found levels others keeps own levels_own names_are binds by_tree same =
    record { shows = λ names files c tree shown one listed has reads shows. by names files c tree shown one listed has shows reads }
  where
    by : (names files : List (List ℕ)) (c : List ℕ) (tree : Option Tree) (shown : List plain.Level) → IsOneToOne names → IsConfig old.arities c → old.has cond.0 c ≡ true
        → Shows old names c levels shown → ValueReads (tables_with old lines names files) c (Some id) tree → Shows new names c others (bind_all (kind_of kind) (by_tree tree) shown)
    by names files c _ shown one listed has shows (tree_reads _ tree reads) =
        subst (λ ts. Shows new names c others (bind_all (kind_of kind) ts shown)) (sym (same tree))
        (binds.shows names c (texts_of tree) shown one (IsConfig-Keeps keeps listed) (keeps.at cond.0 c own listed ∙ has) (names_are names files c tree listed reads)
        (Shows-Keeps names c levels shown keeps listed levels_own shows))

-- ---- marks

module _ (s : Sets) (lines : List Line) (cond : Cond) (value : Option TreeId) (levels after : List Level) (mark : Mark) where
  abbrev Marks : Mark → List Level → Type 0
  Marks m others = Rebinds s s lines cond value (marked c11_declarators (Some m)) levels others

  pub mark-push : mark ≡ Push → after ≡ no_bindings ∷ levels → Marks mark after
  mark-push is levels_are =
      subst (λ m. Marks m after) (sym is) (subst (λ ls. Marks Push ls) (sym levels_are)
      (record { shows = λ names files c tree shown one listed has reads shows. push-shows s names c levels shown shows }))

  pub mark-join : mark ≡ Join → after ≡ joined levels → Marks mark after
  mark-join is levels_are =
      subst (λ m. Marks m after) (sym is) (subst (λ ls. Marks Join ls) (sym levels_are)
      (record { shows = λ names files c tree shown one listed has reads shows. join-shows s names c levels shown shows }))

  -- the parameters are bound in a new level
  pub mark-parameters : (new : Sets) (between : List Level) → mark ≡ PushParameters → between ≡ no_bindings ∷ levels
      → Rebinds s new lines cond value (λ tree. bind_all plain.variable (parameters_by c11_declarators tree)) between after
      → Rebinds s new lines cond value (marked c11_declarators (Some mark)) levels after
  mark-parameters new between is levels_are binds =
      subst (λ m. Rebinds s new lines cond value (marked c11_declarators (Some m)) levels after) (sym is)
      (record {
        shows = λ names files c tree shown one listed has reads shows.
            binds.shows names files c tree ([] ∷ shown) one listed has reads
            (subst (λ ls. Shows s names c ls ([] ∷ shown)) (sym levels_are) (push-shows s names c levels shown shows));
      })
