-- What stops the walk of a file: footprints that its machines come to, where a later call stops.
use Rattle.std.proofs.Common.{◌≡◌, ℕ, zero, suc, ◌+◌, ◌<◌, ◌≤◌, Bool, true, false, List, [], ◌∷◌, ◌++◌, drop, get_or, length, map, take, Option, Some, Result, append_assoc, drop-cons, refl, sym, ap, ◌∙◌, subst, arith, if◌then◌else◌, IfErr}
use Rattle.c11_directives.specs.declared.directive.Directive.TheVariants as directive
use Rattle.sc_base.specs.declared.token.Token as base
use Rattle.sc_lines.specs.declared.line.Line as declared
use Rattle.sc_model.specs.Token.{Token}
use Rattle.sc_prep.specs.Going.{Gone}
use Rattle.sc_prep.proofs.ApartLemmas.{apart-left, apart-without}
use Rattle.sc_prep.proofs.Facts.{line-seen}
use Rattle.sc_prep.proofs.FileStops.{comes-at, comes-included, comes-then}
use Rattle.sc_prep.proofs.Going.{Staged, line-later, staged-between}
use Rattle.sc_prep.proofs.InFile.{top-is-in}
use Rattle.sc_prep.proofs.IncludeLeads.{Spelled, files-next}
use Rattle.sc_prep.proofs.LineSteps.{line-of_file, lines-all, lines-long}
use Rattle.sc_prep.proofs.PlainRuns.{in-more}
use Rattle.sc_prep.proofs.Stopping.{answer-stops, here_at, included_at, moments-as}
use Rattle.sc_prep.proofs.Terms.{AreContents, AreHeldLines, Comes, ComesAt, ComesInside, ComesOver, Contents, Context, Entry, FileId, FileLines, Files, GathersFrom, IsAtTop, IsBetweenRuns, IsContext, IsIn, IsPlaced, Line, MomentsHave, NameHas, Part, Runs, Sets, SourceFootprint, Space, StandApart, Standard, Stop, StopsAtPlace, StopsWalk, Walk, acts, any_machine, at_end, files_at, flat_map, hash_of, is_newline, of_last_run, onto_first, past_all, seen_line, seen_lines, text_at, token_lines, tokens_read, tokens_of}

-- ---- the tokens of a file that are still to come

-- those of the lines from this number on
abbrev pub to_come : FileLines → ℕ → List base.Token
to_come file number = flat_map (tokens_of file.tokens.items) (drop number file.lines.items)

joined-onto : (t : base.Token) (lines : List (List base.Token)) → flat_map (λ ts. ts) (onto_first t lines) ≡ t ∷ flat_map (λ ts. ts) lines
joined-onto t [] = refl
joined-onto t (line ∷ lines) = refl

-- without the newlines
joined-apart : (us ts : List base.Token) → StandApart (us ++ ts) → StandApart (us ++ flat_map (λ line. line) (token_lines ts))
joined-apart us [] apart = apart
joined-apart us (t ∷ ts) apart =
    by (is_newline t.kind) (joined-apart us ts (apart-without us (t ∷ []) ts apart)) (joined-apart (us ++ t ∷ []) ts (subst StandApart (sym (append_assoc us (t ∷ []) ts)) apart))
  where
    by : (b : Bool) → StandApart (us ++ flat_map (λ line. line) (token_lines ts)) → StandApart ((us ++ t ∷ []) ++ flat_map (λ line. line) (token_lines ts))
        → StandApart (us ++ flat_map (λ line. line) (if b then [] ∷ token_lines ts else onto_first t (token_lines ts)))
    by true without with_it = without
    by false without with_it = subst StandApart (append_assoc us (t ∷ []) _ ∙ ap (λ xs. us ++ xs) (sym (joined-onto t (token_lines ts)))) with_it

joined-map : {A : Type 0} (f : A → List base.Token) (xs : List A) → flat_map (λ ts. ts) (map f xs) ≡ flat_map f xs
joined-map f [] = refl
joined-map f (x ∷ xs) = ap (λ ts. f x ++ ts) (joined-map f xs)

module _ {A : Type 0} (f : A → List base.Token) (gs : List base.Token) where
  fewer-apart : (xs : List A) (i j : ℕ) → i ≤ j → StandApart (gs ++ flat_map f (drop i xs)) → StandApart (gs ++ flat_map f (drop j xs))
  fewer-apart [] zero zero up apart = apart
  fewer-apart [] zero (suc j) up apart = apart
  fewer-apart [] (suc i) zero up apart = apart
  fewer-apart [] (suc i) (suc j) up apart = apart
  fewer-apart (x ∷ xs) zero zero up apart = apart
  fewer-apart (x ∷ xs) zero (suc j) up apart = fewer-apart xs zero j (omega arith) (apart-without gs (f x) (flat_map f xs) apart)
  fewer-apart (x ∷ xs) (suc i) zero up apart = absurd (omega (arith, up))
  fewer-apart (x ∷ xs) (suc i) (suc j) up apart = fewer-apart xs i j (omega (arith, up)) apart

  first-apart : (xs : List A) (i : ℕ) (d : A) → i < length xs → StandApart (gs ++ flat_map f (drop i xs)) → StandApart (gs ++ (f (get_or xs i d) ++ flat_map f (drop (i + 1) xs)))
  first-apart xs i d below apart =
      let after : suc i ≡ i + 1 = omega arith in
      subst (λ k. StandApart (gs ++ (f (get_or xs i d) ++ flat_map f (drop k xs)))) after (subst (λ ys. StandApart (gs ++ flat_map f ys)) (drop-cons xs i d below) apart)

module _ {standard : Standard} {names : List (List ℕ)} {files : ℕ} (entry : Entry) (lines : FileLines) (own : AreHeldLines standard names files entry.file lines) where
  -- nothing was gathered yet
  pub apart-first : (walk : Walk) → walk.runs.read ≡ [] → StandApart lines.tokens.items → StandApart (tokens_read walk.runs.read ++ to_come lines 0)
  apart-first walk none apart =
      subst (λ read. StandApart (tokens_read read ++ to_come lines 0)) (sym none)
      (subst StandApart (ap (flat_map (λ line. line)) (sym own.lines_are.tokens_are) ∙ joined-map (tokens_of lines.tokens.items) lines.lines.items) (joined-apart [] lines.tokens.items apart))

  module _ (number : ℕ) (d : declared.Line) (below : number < length lines.lines.items) (spoken : List base.Token) (same : spoken ≡ tokens_of lines.tokens.items (get_or lines.lines.items number d))
      (walk : Walk) (apart : StandApart (tokens_read walk.runs.read ++ to_come lines number)) where
    with-line : StandApart (tokens_read walk.runs.read ++ (spoken ++ to_come lines (number + 1)))
    with-line =
        subst (λ line. StandApart (tokens_read walk.runs.read ++ (line ++ to_come lines (number + 1)))) (sym same)
        (first-apart (tokens_of lines.tokens.items) (tokens_read walk.runs.read) lines.lines.items number d below apart)

    pub apart-line : StandApart (tokens_read walk.runs.read ++ spoken)
    apart-line = apart-left (tokens_read walk.runs.read ++ spoken) (to_come lines (number + 1)) (subst StandApart (sym (append_assoc (tokens_read walk.runs.read) spoken _)) with-line)

    -- behind the line, and those that are passed over
    pub apart-next : (next : Walk) (following : ℕ) → number < following → GathersFrom spoken walk next → StandApart (tokens_read next.runs.read ++ to_come lines following)
    apart-next next following after gathers =
        fewer-apart (tokens_of lines.tokens.items) (tokens_read next.runs.read) lines.lines.items (number + 1) following (omega (arith, after)) (gathers (to_come lines (number + 1)) with-line)

-- ---- the lines of a file

module _ {A : Type 0} {space : Space} {a b : Sets} {names files mid mid_files : List (List ℕ)} {u v : Walk} {one two : Contents} {holds : Option Files} (limit : ℕ) (r : Result A Stop) (entry : Entry) (lines : FileLines)
    (own : AreHeldLines space.standard names (length files) entry.file lines) (number : ℕ)
    (gone : Gone space a names files u one b mid mid_files v two (Unit {0}) (IsAtTop files entry) (λ x config m n. Runs x m (take number (seen_lines space.standard names files lines.tokens.items)) n))
    (held : AreContents space.standard mid mid_files holds two) (x : Context) (context : IsContext space x) (told : holds ≡ Some x.files) where
  abbrev file_seen : List Line
  file_seen = seen_lines space.standard names files lines.tokens.items

  abbrev Over : List ℕ → SourceFootprint → Type 0
  Over = Comes a names files u (IsAtTop files entry) (λ config m. MomentsHave (ComesOver x file_seen m))

  -- one of them stops
  pub line-stops : (d : declared.Line) → number < length lines.lines.items → (spoken : List base.Token) → spoken ≡ tokens_of lines.tokens.items (get_or lines.lines.items number d)
      → IfErr r (StopsAtPlace b.arities (Comes b mid mid_files v (IsIn mid_files entry) (λ config m. MomentsHave (ComesAt x m (seen_line space.standard mid mid_files spoken)))) limit)
      → IfErr r (StopsAtPlace a.arities Over limit)
  line-stops d below spoken same =
      let this = tokens_of lines.tokens.items (get_or lines.lines.items number d) in
      let seen_same = ap (seen_line space.standard mid mid_files) same
      ∙ (line-later space.standard gone.names_grow gone.files_grow this (line-of_file (IsPlaced names (length files)) lines.tokens.items (get_or lines.lines.items number d) own.placed)
      ∙ sym (line-seen space.standard names files lines.tokens.items lines.lines.items own.lines_are number d below)) in
      answer-stops (λ at. at) _ limit r gone.keeps.arities
      (λ config f listed comes. comes-then config (gone.leads x context (held.told x.files told)) (λ m n from ran. in-more n gone.files_grow (top-is-in from ran))
      (λ m n from ran. moments-as (λ k at.
      comes-at file_seen number (omega (arith, below, lines-long space.standard names lines.tokens.items lines.lines.items own.lines_are files)) ran (subst (λ l. ComesAt x n l f.0.chain k) seen_same at)))
      listed comes)

  -- the run at the end stops
  pub end-stops : length lines.lines.items ≤ number → IfErr r (StopsAtPlace b.arities (Comes b mid mid_files v any_machine (λ config m f. (acts m ≡ true) × NameHas m.state.macros m.state.run f)) limit)
      → IfErr r (StopsAtPlace a.arities Over limit)
  end-stops past =
      answer-stops here_at _ limit r gone.keeps.arities
      (λ config f listed comes. comes-then config (gone.leads x context (held.told x.files told)) (λ m n from ran. tt)
      (λ m n from ran at.
      let over = past_all n (subst (λ ls. Runs x m ls n) (lines-all space.standard names files lines.tokens.items lines.lines.items own.lines_are number past) ran) at.0 in
      record { moment = at_end n.state; comes = over; has = of_last_run at.1 })
      listed comes)

-- ---- a line that includes files

-- the # of a directive
hash-at : (standard : Standard) (names files : List (List ℕ)) (line : List base.Token) → (seen_line standard names files line).directive ≡ Some directive.Include → (hash : Token) × (hash_of (seen_line standard names files line) ≡ Some hash)
hash-at standard names files [] is = absurd (cc)
hash-at standard names files (t ∷ ts) is = (_, refl)

-- a file of it stops
pub file-stops : {A : Type 0} (limit : ℕ) (r : Result A Stop) (standard : Standard) (names files : List (List ℕ)) (entry : Entry) (line : List base.Token) → (seen_line standard names files line).directive ≡ Some directive.Include
    → (a : Sets) (u : Walk) (x : Context) {space : Space} {b : Sets} {mid mid_files : List (List ℕ)} {v : Walk} {one two : Contents} {holds : Option Files} (parts : List Part) (i : ℕ) (part : Part) (depth : ℕ)
    → part ≡ get_or parts i part → i < length parts → depth ≡ entry.depth + 1
    → Gone space a names files u one b mid mid_files v two (Spelled names line) (IsIn files entry)
    (λ x config m n. Staged x (seen_line standard names files line) mid_files entry.depth m (files_at b (drop i parts) config) n)
    → AreContents space.standard mid mid_files holds two → IsContext space x → holds ≡ Some x.files
    → IfErr r (StopsWalk b mid mid_files v IsBetweenRuns (λ config m f. (b.has part.cond.0 config ≡ true) × MomentsHave (ComesInside x (text_at mid_files part.file.0) depth m) f) limit)
    → IfErr r (StopsWalk a names files u (IsIn files entry) (λ config m. MomentsHave (ComesAt x m (seen_line standard names files line))) limit)
file-stops limit r standard names files entry line directive_is a u x {b = b} {mid_files = mid_files} parts i part depth one_is below deep gone held context told =
    let hash = hash-at standard names files line directive_is in
    let left_at : List ℕ → Bool → List FileId = λ config has. if has then part.file ∷ files_at b (drop (suc i) parts) config else files_at b (drop (suc i) parts) config in
    answer-stops (included_at hash.0.place) _ limit r gone.keeps.arities
    (λ config g listed comes. comes-then config (gone.leads x context (held.told x.files told)) (λ m n from staged. staged-between staged)
    (λ m n from staged it.
    let left = subst (λ (p : Part). files_at b (drop i parts) config ≡ (if b.has p.cond.0 config then p.file ∷ files_at b (drop (suc i) parts) config else files_at b (drop (suc i) parts) config)) (sym one_is) (files-next b config parts i part below) in
    record {
      moment = it.1.moment;
      comes = comes-included part.file hash.0 directive_is hash.1 staged (left ∙ ap (left_at config) it.0)
          (subst (λ d. ComesInside x (text_at mid_files part.file.0) d n g.0.chain it.1.moment) deep it.1.comes);
      has = it.1.has;
    })
    listed comes)
