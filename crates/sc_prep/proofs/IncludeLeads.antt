-- What a line leads to that includes files.
use Rattle.std.proofs.Common.{◌≡◌, ℕ, zero, suc, ◌+◌, ◌<◌, ◌≤◌, drop, true, List, [], ◌∷◌, All, length, get_or, Option, Some, if◌then◌else◌, refl, sym, ap, ◌∙◌, subst, arith, map}
use Rattle.c11_directives.specs.declared.directive.Directive.TheVariants as directive
use Rattle.sc_base.specs.declared.token.Token as base
use Rattle.sc_prep.proofs.Facts.{All-drop, All-map, All-weaker, IsConfig-Keeps, items_at-Keeps}
use Rattle.sc_prep.proofs.Going.{Staged, closed-in, directories-plain, finds-staged, gone-then, line-later, staged-between, staged-plain, staged-takes, staged-then}
use Rattle.sc_prep.proofs.LeadMoves.{leads-as}
use Rattle.sc_prep.proofs.NamedFiles.{line-plain}
use Rattle.sc_prep.proofs.PlainRuns.{covers-plain}
use Rattle.sc_prep.proofs.Terms.{AreContents, ArePartsOf, Closed, Cond, Contents, EntersAt, Entry, FileId, Files, Finds, IsBetweenRuns, IsCond, IsConfig, IsIn, IsPlaced, Keeps, KeepsContents, Part, Sets, Space, Standard, Takes, Walk, content_at, files_at, is_plain, seen_line, text_at}
use Rattle.sc_prep.proofs.WalkLeads.{plain-later}
use Rattle.sc_prep.specs.Going.{Gone}
use Rattle.sc_prep.specs.Machine as machine

-- ---- the files that are left

pub files-next : (s : Sets) (config : List ℕ) (parts : List Part) (i : ℕ) (d : Part) → i < length parts
    → files_at s (drop i parts) config
    ≡ (if s.has (get_or parts i d).cond.0 config then (get_or parts i d).file ∷ files_at s (drop (suc i) parts) config else files_at s (drop (suc i) parts) config)
files-next s config [] i d within = absurd (omega (arith, within))
files-next s config (p ∷ ps) zero d within = refl
files-next s config (p ∷ ps) (suc i) d within = files-next s config ps i d (omega (arith, within))

pub files-later : {old new : Sets} (keeps : Keeps old new) (parts : List Part) → All (λ (part : Part). IsCond old part.cond.0) parts → (config : List ℕ) → IsConfig old.arities config
    → files_at new parts config ≡ files_at old parts config
files-later {old} keeps parts own config listed =
    items_at-Keeps (map (λ part. (part.cond, part.file)) parts) config keeps
    (All-map (λ (item : Cond × FileId). IsCond old item.0.0) (λ part. (part.cond, part.file)) parts own) listed

drop-past : {A : Type 0} (xs : List A) (n : ℕ) → length xs ≤ n → drop n xs ≡ []
drop-past [] zero past = refl
drop-past [] (suc n) past = refl
drop-past (x ∷ xs) zero past = absurd (omega (arith, past))
drop-past (x ∷ xs) (suc n) past = drop-past xs n (omega (arith, past))

pub parts-later : {old new : Sets} {was now : Contents} {parts : List Part} → Keeps old new → KeepsContents was now → ArePartsOf old was parts → ArePartsOf new now parts
parts-later {old} {new} {was} {now} {parts} keeps read are = record {
  own = All-weaker (λ (part : Part). IsCond old part.cond.0) (λ (part : Part). IsCond new part.cond.0) (λ part own. keeps.own part.cond.0 own) parts are.own;
  kept = All-weaker (λ (part : Part). content_at was part.file.0 ≡ Some (Some part.content.value)) (λ (part : Part). content_at now part.file.0 ≡ Some (Some part.content.value))
      (λ part kept. read.each part.file.0 (Some part.content.value) kept) parts are.kept;
}

abbrev pub Spelled : List (List ℕ) → List base.Token → Type 0
Spelled names line = All (λ (t : base.Token). is_plain names t ≡ true) line

module _ (standard : Standard) {names files : List (List ℕ)} (entry : Entry) (line : List base.Token) (placed : All (IsPlaced names (length files)) line)
    (directive_is : (seen_line standard names files line).directive ≡ Some directive.Include) where
  -- ---- the files are found
  pub gone-found : {space : Space} {a b c : Sets} {mid more more_files : List (List ℕ)} {u v w : Walk} {one three : Contents} {holds : Option Files} (parts items : List Part) → items ≡ parts
      → Gone space a names files u one b mid files v one (Spelled names line) (IsIn files entry) (λ x config m n. Closed m n) → AreContents space.standard mid files holds one
      → Gone space b mid files v one c more more_files w three (Spelled mid line) (IsIn files entry)
      (λ x config m n. Finds x (seen_line standard mid files line) more_files m (files_at c parts config) n)
      → Gone space a names files u one c more more_files w three (Spelled names line) (IsIn files entry)
      (λ x config m n. Staged x (seen_line standard names files line) more_files entry.depth m (files_at c items config) n)
  gone-found {space} {a} {b} {c} {mid} {more} {more_files} {u} {v} {w} {one} {three} parts items are gone held found =
      subst (λ ps. Gone space a names files u one c more more_files w three (Spelled names line) (IsIn files entry)
      (λ x config m n. Staged x (seen_line standard names files line) more_files entry.depth m (files_at c ps config) n)) (sym are)
      (gone-then gone held found (plain-later gone.names_grow line placed)
      (λ x config m n from closed. closed-in m n from closed)
      (λ g x context sound paths config m n closed from state. covers-plain {x = x} (directories-plain context sound) {ls = []} (record { end = m; runs = machine.no_line; closed = closed }) state tt)
      (λ x config m n o context listed from closed finds at.
      finds-staged entry.depth m n (λ here. (closed-in m n from closed here).deep) closed
      (subst (λ l. Finds x l more_files n (files_at c parts config) o) (line-later standard gone.names_grow gone.files_grow line placed) finds)))

  -- ---- one of them is entered
  pub gone-entered : {space : Space} {a b c : Sets} {mid mid_files more more_files : List (List ℕ)} {u v w : Walk} {one two three : Contents} {holds : Option Files} (parts : List Part) (i : ℕ) (part : Part)
      → part ≡ get_or parts i part → i < length parts → All (λ (part : Part). IsCond b part.cond.0) parts
      → Gone space a names files u one b mid mid_files v two (Spelled names line) (IsIn files entry)
      (λ x config m n. Staged x (seen_line standard names files line) mid_files entry.depth m (files_at b (drop i parts) config) n)
      → AreContents space.standard mid mid_files holds two
      → Gone space b mid mid_files v two c more more_files w three (Unit {0}) IsBetweenRuns
      (λ x config m n. EntersAt x (text_at mid_files part.file.0) (entry.depth + 1) m (b.has part.cond.0 config) n)
      → Gone space a names files u one c more more_files w three (Spelled names line) (IsIn files entry)
      (λ x config m n. Staged x (seen_line standard names files line) more_files entry.depth m (files_at c (drop (i + 1) parts) config) n)
  gone-entered {b = b} {c} {mid_files = mid_files} {more_files = more_files} parts i part one_is within own gone held entered =
      gone-then gone held entered (λ g. tt)
      (λ x config m n from staged. staged-between staged)
      (λ g x context sound plain_paths config m n staged from state.
      staged-plain (directories-plain context sound) directive_is staged state (line-plain names files line placed plain_paths g))
      (λ x config m n o context listed from staged enters at.
      let now = IsConfig-Keeps gone.keeps listed in
      let after : suc i ≡ i + 1 = omega arith in
      let next : drop (suc i) parts ≡ drop (i + 1) parts = ap (λ k. drop k parts) after in
      let left = files-later entered.keeps (drop (i + 1) parts) (All-drop (λ (part : Part). IsCond b part.cond.0) (i + 1) parts own) config now in
      subst (λ fs. Staged x (seen_line standard names files line) more_files entry.depth m fs o) (ap (λ ps. files_at b ps config) next ∙ sym left)
      (staged-then part.file entered.files_grow staged (subst (λ (p : Part). files_at b (drop i parts) config ≡ (if b.has p.cond.0 config then p.file ∷ files_at b (drop (suc i) parts) config else files_at b (drop (suc i) parts) config)) (sym one_is) (files-next b config parts i part within)) enters))

  -- ---- all were entered
  pub gone-taken : {space : Space} {a b : Sets} {mid mid_files : List (List ℕ)} {u v : Walk} {one two : Contents} (parts : List Part) (i : ℕ) → length parts ≤ i
      → Gone space a names files u one b mid mid_files v two (Spelled names line) (IsIn files entry)
      (λ x config m n. Staged x (seen_line standard names files line) mid_files entry.depth m (files_at b (drop i parts) config) n)
      → Gone space a names files u one b mid mid_files v two (Spelled names line) (IsIn files entry) (λ x config m n. Takes x m (seen_line standard names files line) n)
  gone-taken {b = b} parts i past gone = record {
    keeps = gone.keeps;
    names_grow = gone.names_grow;
    files_grow = gone.files_grow;
    read = gone.read;
    leads = λ x context agreed. leads-as (gone.leads x context agreed) (λ m here. here)
        (λ config m n here staged. staged-takes directive_is (ap (λ ps. files_at b ps config) (drop-past parts i past)) staged);
    plain = gone.plain;
    paths = gone.paths;
  }
