-- The values of two stacks, made one.
use Rattle.std.proofs.Common.{◌≡◌, ℕ, suc, ◌+◌, ◌<◌, ◌≤◌, true, List, [], ◌∷◌, ◌++◌, length, map, take, get_or, reverse, Option, Some, None, is_some, Result, Ok, Err, IfSome, OnOk, OnErr, All, slice_get, inl, inr, refl, ap, sym, subst, ◌∙◌, append_assoc, arith, if◌then◌else◌}
use Rattle.std.proofs.lemmas.List.Elements.{All-append, All-cons, All-head, All-nil, All-tail}
use Rattle.std.proofs.lemmas.List.{append-nil, get_or-map, length-map, map-append, reverse-append, reverse-reverse, take_more}
use Rattle.c11_parsing.specs.Trees.{Tree}
use Rattle.sc_base.specs.declared.id.Cond.{Cond}
use Rattle.sc_base.specs.declared.id.TreeId.{TreeId}
use Rattle.sc_base.specs.declared.stop.OutOfMemory.{OutOfMemory}
use Rattle.sc_base.proofs.Growth.{Extends-refl}
use Rattle.sc_guarded.specs.Items.{items_at}
use Rattle.sc_merge.specs.Merges.{AddsChoices, IsChoice, KeepsValue, KeepValues, none_kept, more_kept, OwnsValues, tables_with}
use Rattle.sc_merge.specs.Shows.{ValueReads, tree_reads, ValuesRead, no_values, more_values}
use Rattle.sc_merge.proofs.ShowLemmas.{ValueReads-Grows}
use Rattle.sc_model.specs.Growth.{Extends}
use Rattle.sc_model.specs.Sets.{Sets, IsConfig, IsCond}
use Rattle.sc_model.proofs.SetLemmas.{Keeps-refl}
use Rattle.sc_scope.specs.Kinds.{IsOnlyIn}
use Rattle.sc_tree.specs.Lines.{AddsAtMost, Line, choice}
use Rattle.sc_tree.specs.Reads.{Grows, choice_reads}
use Rattle.sc_tree.proofs.ReadLemmas.{Reads-Grows}

-- ---- as the trees grow

with-more : (sets : Sets) (names files : List (List ℕ)) {old new : List Line} → Extends old new → Grows (tables_with sets old names files) (tables_with sets new names files)
with-more sets names files lines = record { sets = Keeps-refl sets; names = Extends-refl names; files = Extends-refl files; lines = lines }

pub value-within : {a b d e : List Line} {cond other : Cond} {value merged : Option TreeId} → Extends a b → Extends d e → KeepsValue b d cond other value merged
    → KeepsValue a e cond other value merged
value-within before after kept = record {
  some = kept.some;
  reads = λ sets names files c tree own other_own only reads.
      ValueReads-Grows _ _ c (with-more sets names files after) only.listed _ tree
      (kept.reads sets names files c tree own other_own only (ValueReads-Grows _ _ c (with-more sets names files before) only.listed _ tree reads));
}

pub values-after : {a b d : List Line} {cond other : Cond} {values merged : List (Option TreeId)} → Extends b d → KeepValues a b cond other values merged
    → KeepValues a d cond other values merged
values-after after none_kept = none_kept
values-after {a} after (more_kept value merged values others first rest) =
    more_kept value merged values others (value-within (Extends-refl a) after first) (values-after after rest)

pub values-more : {old new : List Line} {cond other : Cond} {values merged : List (Option TreeId)} {value result : Option TreeId} → KeepValues old new cond other values merged
    → KeepsValue old new cond other value result → KeepValues old new cond other (values ++ value ∷ []) (merged ++ result ∷ [])
values-more {value = value} {result = result} none_kept kept = more_kept value result [] [] kept none_kept
values-more {value = value} {result = result} (more_kept v m values merged first rest) kept =
    more_kept v m (values ++ value ∷ []) (merged ++ result ∷ []) first (values-more rest kept)

values-reversed : {old new : List Line} {cond other : Cond} {values merged : List (Option TreeId)} → KeepValues old new cond other values merged
    → KeepValues old new cond other (reverse values) (reverse merged)
values-reversed none_kept = none_kept
values-reversed {old} {new} {cond} {other} (more_kept value merged values others first rest) =
    subst (λ vs. KeepValues old new cond other vs (reverse (merged ∷ others))) (sym (reverse-append (value ∷ []) values))
    (subst (λ ms. KeepValues old new cond other (reverse values ++ value ∷ []) ms) (sym (reverse-append (merged ∷ []) others)) (values-more (values-reversed rest) first))

-- lists that were gone through from their ends
pub values-back : {old new : List Line} {cond other : Cond} {values front merged : List (Option TreeId)} → front ≡ reverse values → KeepValues old new cond other front merged
    → KeepValues old new cond other values (reverse merged)
values-back {old} {new} {cond} {other} {values} {front} {merged} e kept =
    let back : reverse front ≡ values = ap reverse e ∙ reverse-reverse values in
    subst (λ vs. KeepValues old new cond other vs (reverse merged)) back (values-reversed kept)

pub values-read : (old new : List Line) (cond other : Cond) (sets : Sets) (names files : List (List ℕ)) (c : List ℕ) → IsCond sets cond.0 → IsCond sets other.0
    → IsOnlyIn sets cond other c → (values merged : List (Option TreeId)) (trees : List (Option Tree)) → KeepValues old new cond other values merged
    → ValuesRead (tables_with sets old names files) c values trees → ValuesRead (tables_with sets new names files) c merged trees
values-read old new cond other sets names files c own other_own only _ _ _ none_kept no_values = no_values
values-read old new cond other sets names files c own other_own only _ _ _ (more_kept value merged values others first rest) (more_values _ _ tree trees read reads) =
    more_values merged others tree trees (first.reads sets names files c tree own other_own only read)
    (values-read old new cond other sets names files c own other_own only values others trees rest reads)

own-later : (m n : ℕ) (value : Option TreeId) → m ≤ n → IfSome value (λ id. id.0 < m) → IfSome value (λ id. id.0 < n)
own-later m n None below own = own
own-later m n (Some id) below own = omega (arith, own)

pub own-none : (n : ℕ) → OwnsValues n []
own-none n = record { each = All-nil (λ (v : Option TreeId). IfSome v (λ id. id.0 < n)) }

pub own-within : {m n : ℕ} (values : List (Option TreeId)) → m ≤ n → OwnsValues m values → OwnsValues n values
own-within {m} {n} values below own = record { each = λ k d within. own-later m n _ below (own.each k d within) }

-- ---- one value

-- in a choice of two branches one is the only one
only_first : (sets : Sets) (here there : Cond) (left right : TreeId) (c : List ℕ) → IsOnlyIn sets here there c
    → items_at sets ((here, left) ∷ ((there, right) ∷ [])) c ≡ left ∷ []
only_first sets here there left right c only =
    ap (λ h. if h then left ∷ items_at sets ((there, right) ∷ []) c else items_at sets ((there, right) ∷ []) c) only.inside
    ∙ ap (λ h. left ∷ (if h then right ∷ [] else [])) only.outside

only_second : (sets : Sets) (here there : Cond) (left right : TreeId) (c : List ℕ) → IsOnlyIn sets there here c
    → items_at sets ((here, left) ∷ ((there, right) ∷ [])) c ≡ right ∷ []
only_second sets here there left right c only =
    ap (λ h. if h then left ∷ items_at sets ((there, right) ∷ []) c else items_at sets ((there, right) ∷ []) c) only.outside
    ∙ ap (λ h. if h then right ∷ [] else []) only.inside

both_own : (sets : Sets) (here there : Cond) (left right : TreeId) → IsCond sets here.0 → IsCond sets there.0
    → All (λ (branch : Cond × TreeId). IsCond sets branch.0.0) ((here, left) ∷ ((there, right) ∷ []))
both_own sets here there left right own other_own =
    let P : Cond × TreeId → Type 0 = λ branch. IsCond sets branch.0.0 in
    All-cons P (here, left) ((there, right) ∷ []) own (All-cons P (there, right) [] other_own (All-nil P))

chosen : (old new : List Line) (sets : Sets) (names files : List (List ℕ)) (c : List ℕ) (branches : List (Cond × TreeId)) (id child : TreeId) (tree : Option Tree)
    → Extends old new → IsConfig sets.arities c → slice_get new id.0 ≡ Some (choice branches) → All (λ (branch : Cond × TreeId). IsCond sets branch.0.0) branches
    → items_at sets branches c ≡ child ∷ [] → ValueReads (tables_with sets old names files) c (Some child) tree → ValueReads (tables_with sets new names files) c (Some id) tree
chosen old new sets names files c branches id child _ grows listed at own one (tree_reads _ tree read) =
    tree_reads id tree (choice_reads id.0 branches child tree at own one (Reads-Grows _ _ c child.0 tree (with-more sets names files grows) listed read))

pub value-first : (old new : List Line) (here there : Cond) (left right id : TreeId) → Extends old new
    → slice_get new id.0 ≡ Some (choice ((here, left) ∷ ((there, right) ∷ []))) → KeepsValue old new here there (Some left) (Some id)
value-first old new here there left right id grows at = record {
  some = refl;
  reads = λ sets names files c tree own other_own only reads.
      chosen old new sets names files c _ id left tree grows only.listed at (both_own sets here there left right own other_own)
      (only_first sets here there left right c only) reads;
}

pub value-second : (old new : List Line) (here there : Cond) (left right id : TreeId) → Extends old new
    → slice_get new id.0 ≡ Some (choice ((here, left) ∷ ((there, right) ∷ []))) → KeepsValue old new there here (Some right) (Some id)
value-second old new here there left right id grows at = record {
  some = refl;
  reads = λ sets names files c tree own other_own only reads.
      chosen old new sets names files c _ id right tree grows only.listed at (both_own sets here there left right other_own own)
      (only_second sets here there left right c only) reads;
}

-- ---- choices that are new

pub adds-none : (here there : Cond) (lines : List Line) → AddsChoices here there lines lines
adds-none here there lines = record { added = []; is = sym (append-nil lines); choices = All-nil (IsChoice here there) }

pub adds-more : {here there : Cond} {a b d : List Line} → AddsChoices here there a b → AddsChoices here there b d → AddsChoices here there a d
adds-more {here} {there} {a} {b} {d} first second = record {
  added = first.added ++ second.added;
  is = second.is ∙ ap (λ lines. lines ++ second.added) first.is ∙ append_assoc a first.added second.added;
  choices = All-append (IsChoice here there) first.added second.added first.choices second.choices;
}

-- there is a choice, or there was no memory
pub adds-one : (here there : Cond) (left right : TreeId) (old new : List Line) (result : Result TreeId OutOfMemory)
    → OnOk result (AddsAtMost old new (choice ((here, left) ∷ ((there, right) ∷ [])))) → OnErr result (new ≡ old) → AddsChoices here there old new
adds-one here there left right old new (Ok id) (inl same) err = subst (AddsChoices here there old) (sym same) (adds-none here there old)
adds-one here there left right old new (Ok id) (inr more) err = record {
  added = choice ((here, left) ∷ ((there, right) ∷ [])) ∷ [];
  is = more;
  choices = All-cons (IsChoice here there) (choice ((here, left) ∷ ((there, right) ∷ []))) [] (record { left = left; right = right; is = refl })
      (All-nil (IsChoice here there));
}
adds-one here there left right old new (Err e) ok err = subst (AddsChoices here there old) (sym err) (adds-none here there old)

-- ---- the loop

-- one value more
pub values-step : {a b d : List Line} {cond other : Cond} (i : ℕ) (all merged more : List (Option TreeId)) (result : Option TreeId) → Extends a b → Extends b d
    → i < length all → KeepValues a b cond other (take i all) merged → KeepsValue b d cond other (get_or all i None) result → more ≡ merged ++ result ∷ []
    → KeepValues a d cond other (take (i + 1) all) more
values-step {a} {b} {d} {cond} {other} i all merged more result before after within kept one added =
    subst (λ vs. KeepValues a d cond other vs more) (sym (take_more all i None within))
    (subst (KeepValues a d cond other (take i all ++ get_or all i None ∷ [])) (sym added)
    (values-more (values-after after kept) (value-within before (Extends-refl d) one)))

pub own-more : {m n : ℕ} (merged more : List (Option TreeId)) (result : Option TreeId) → m ≤ n → OwnsValues m merged → IfSome result (λ id. id.0 < n)
    → more ≡ merged ++ result ∷ [] → OwnsValues n more
own-more {m} {n} merged more result below own one added =
    let P : Option TreeId → Type 0 = λ v. IfSome v (λ id. id.0 < n) in
    record { each = rw added (All-append P merged (result ∷ []) (own-within merged below own).each (All-cons P result [] one (All-nil P))) }

pub same-length : (left right : List (Option TreeId)) → map is_some left ≡ map is_some right → length left ≡ length right
same-length left right same = sym (length-map left is_some) ∙ ap length same ∙ length-map right is_some

-- there is a tree on both sides or on none
pub silent-at : (left right : List (Option TreeId)) (i : ℕ) → i < length left → map is_some left ≡ map is_some right
    → is_some (get_or left i None) ≡ is_some (get_or right i None)
silent-at left right i within same =
    let below : i < length right = subst (λ n. i < n) (same-length left right same) within in
    sym (get_or-map is_some left i None true within) ∙ ap (λ bs. get_or bs i true) same ∙ get_or-map is_some right i None true below

-- ---- whole stacks, whose values are gone through from the lowest

pub values-length : {old new : List Line} {cond other : Cond} {values merged : List (Option TreeId)} → KeepValues old new cond other values merged → length merged ≡ length values
values-length none_kept = refl
values-length (more_kept value merged values others first rest) = ap suc (values-length rest)

pub values-some : {old new : List Line} {cond other : Cond} {values merged : List (Option TreeId)} → KeepValues old new cond other values merged
    → map is_some merged ≡ map is_some values
values-some none_kept = refl
values-some (more_kept value merged values others first rest) = ap (λ bs. is_some merged ∷ bs) (values-some rest) ∙ ap (λ b. b ∷ map is_some values) first.some

pub own-reversed : {n : ℕ} (values : List (Option TreeId)) → OwnsValues n values → OwnsValues n (reverse values)
own-reversed {n} [] own = own
own-reversed {n} (value ∷ values) own =
    let P : Option TreeId → Type 0 = λ v. IfSome v (λ id. id.0 < n) in
    let rest = own-reversed values (record { each = All-tail P value values own.each }) in
    record {
      each = subst (All P) (sym (reverse-append (value ∷ []) values))
          (All-append P (reverse values) (value ∷ []) rest.each (All-cons P value [] (All-head P value values own.each) (All-nil P)));
    }

silent-cons : (value : Option TreeId) (values : List (Option TreeId)) → map is_some (reverse (value ∷ values)) ≡ map is_some (reverse values) ++ is_some value ∷ []
silent-cons value values = ap (map is_some) (reverse-append (value ∷ []) values) ∙ map-append is_some (reverse values) (value ∷ [])

pub silent-reversed : (left right : List (Option TreeId)) → map is_some left ≡ map is_some right → map is_some (reverse left) ≡ map is_some (reverse right)
silent-reversed [] [] same = refl
silent-reversed [] (b ∷ right) same = absurd (cc (same))
silent-reversed (a ∷ left) [] same = absurd (cc (same))
silent-reversed (a ∷ left) (b ∷ right) same =
    let first : is_some a ≡ is_some b = cc (same) in
    let rest : map is_some left ≡ map is_some right = cc (same) in
    silent-cons a left ∙ ap (λ bs. bs ++ is_some a ∷ []) (silent-reversed left right rest) ∙ ap (λ s. map is_some (reverse right) ++ s ∷ []) first ∙ sym (silent-cons b right)
