-- The files of headers, found one header after the other.
use Rattle.std.proofs.Common.{◌≡◌, ℕ, ◌+◌, ◌<◌, ◌≤◌, ◌||◌, is_none, Bool, true, false, List, [], ◌∷◌, ◌++◌, take, length, get_or, Option, Some, None, append-nil, refl, sym, ap, subst, ◌∙◌, arith, if◌then◌else◌, string_bytes}
use Rattle.sc_expand.proofs.MachineCalls.{last-alone}
use Rattle.sc_prep.proofs.Contents.{agrees-back}
use Rattle.sc_prep.proofs.Facts.{All-from_recursion, All-nil, Extends-keeps, IsConfig-Keeps, recursion_from_All}
use Rattle.sc_prep.proofs.ListsAt.{items-next}
use Rattle.sc_prep.proofs.PlainWalks.{candidates-plain}
use Rattle.sc_prep.proofs.Terms.{Agrees, AreContents, ArePartsOf, ArePlainPaths, Contents, Denotes, Extends, FileId, Files, Found, Header, IsCond, IsConfig, Keeps, KeepsContents, Named, Part, Sets, Standard, candidates, content_at, files_at, has_no_newline, headers_in, option_to_list, seen_header}
use Rattle.sc_prep.specs.Finding.{AddsFile, AreFound, FindsAll, IsSearched, absent, found, missing, none, present}

-- what is kept of the files of the parts stays
pub parts-kept : {s : Sets} {was now : Contents} {parts : List Part} → KeepsContents was now → ArePartsOf s was parts → ArePartsOf s now parts
parts-kept reads are = record { own = are.own; kept = λ k d h. reads.each _ _ (are.kept k d h) }

-- the names of a header's file are on one line
pub asked-plain : (header : Header) (including : List ℕ) (directories : List (List ℕ)) → has_no_newline (string_bytes header.name) ≡ true → has_no_newline including ≡ true → ArePlainPaths directories
    → ArePlainPaths (candidates (seen_header header) including directories)
asked-plain header including directories name file all =
    let P : List ℕ → Type 0 = λ path. has_no_newline path ≡ true in
    All-from_recursion P (candidates (seen_header header) including directories)
    (candidates-plain (seen_header header) including directories name file (recursion_from_All P directories all))

-- ---- no header

pub nothing-found : {standard : Standard} (s : Sets) (including : List ℕ) (directories names files : List (List ℕ)) (contents : Contents) (empty : Found) → empty.parts.items ≡ []
    → Denotes s empty.missing.0 (λ c. false) → AreFound standard s [] including directories names files contents s empty
nothing-found s including directories names files contents empty no_parts never = record {
  parts = subst (ArePartsOf s contents) (sym no_parts)
      (record { own = All-nil (λ (part : Part). IsCond s part.cond.0); kept = All-nil (λ (part : Part). content_at contents part.file.0 ≡ Some (Some part.content.value)) });
  missing = never.own;
  at = λ held c agrees listed short.
      subst (λ b. FindsAll held files including directories [] (files_at s empty.parts.items c) b) (sym (never.at c listed))
      (subst (λ (ps : List Part). FindsAll held files including directories [] (files_at s ps c) false) (sym no_parts) none);
}

-- ---- one header more

searched-later : {held : Files} {files more asked : List (List ℕ)} {file : Option FileId} → Extends files more → IsSearched held files asked file → IsSearched held more asked file
searched-later grows (absent e) = absent e
searched-later grows (present file f e named) = present file f e (Extends-keeps file.0 f.name named grows)

module _ {held : Files} {including : List ℕ} {directories : List (List ℕ)} where
  finds-later : {files more : List (List ℕ)} {hs : List Header} {fs : List FileId} {b : Bool} → Extends files more → FindsAll held files including directories hs fs b
      → FindsAll held more including directories hs fs b
  finds-later grows none = none
  finds-later grows (missing h e) = missing h (searched-later grows e)
  finds-later grows (found h file e) = found h file (searched-later grows e)

  pub finds-nothing : {files : List (List ℕ)} {hs : List Header} {fs : List FileId} {b : Bool} → hs ≡ [] → FindsAll held files including directories hs fs b → (fs ≡ []) × (b ≡ false)
  finds-nothing empty none = (refl, refl)
  finds-nothing empty (missing h e) = absurd (cc)
  finds-nothing empty (found h file e) = absurd (cc)

  finds-one : {files : List (List ℕ)} (h : Header) (file : Option FileId) → IsSearched held files (candidates (seen_header h) including directories) file
      → FindsAll held files including directories (h ∷ []) (option_to_list file) (is_none file)
  finds-one h None e = missing h e
  finds-one h (Some file) e = found h file e

module _ {standard : Standard} {old mid new : Sets} (named : List Named) (i : ℕ) (n : Named) {including : List ℕ} {directories names files more more_files : List (List ℕ)} {holds : Option Files} {contents later : Contents} {was next : Found} (file : Option FileId)
    (grows : Extends names more) (files_grow : Extends files more_files) (read : AreContents standard names files holds contents) (reads : KeepsContents contents later) (keeps : Keeps old mid)
    (within : i < length named) (is : n ≡ get_or named i n) (own : IsCond old n.cond.0) (are : AreFound standard old (take i named) including directories names files contents mid was)
    (adds : AddsFile mid n.cond.0 file was new next)
    (searched : (held : Files) → Agrees standard more more_files held later → IsSearched held more_files (candidates (seen_header n.header) including directories) file) where
  module _ (held : Files) (c : List ℕ) (agrees : Agrees standard more more_files held later) (listed : IsConfig old.arities c) where
    abbrev Finds : List Header → List FileId → Bool → Type 0
    Finds = FindsAll held more_files including directories

    abbrev before : List Header
    before = headers_in old (take i named) c

    split : (b : Bool) → old.has n.cond.0 c ≡ b → headers_in old (take (i + 1) named) c ≡ before ++ (if b then n.header ∷ [] else [])
    split b has =
        items-next (λ (x : Named). (x.cond, x.header)) old named i n c within is ∙ ap (λ b. before ++ (if b then n.header ∷ [] else [])) has

    was-found : length before ≤ 1 → FindsAll held files including directories before (files_at mid was.parts.items c) (mid.has was.missing.0 c)
    was-found short = are.at held c (agrees-back grows files_grow read held reads agrees) listed short

    has-mid : (b : Bool) → old.has n.cond.0 c ≡ b → mid.has n.cond.0 c ≡ b
    has-mid b has = keeps.at n.cond.0 c own listed ∙ has

    here : old.has n.cond.0 c ≡ true → length (headers_in old (take (i + 1) named) c) ≤ 1 → Finds (headers_in old (take (i + 1) named) c) (files_at new next.parts.items c) (new.has next.missing.0 c)
    here has short =
        let empty : before ≡ [] = last-alone before n.header (subst (λ hs. length hs ≤ 1) (split true has) short) in
        let nothing = finds-nothing empty (was-found (subst (λ (hs : List Header). length hs ≤ 1) (sym empty) (omega arith))) in
        let files_are : files_at new next.parts.items c ≡ option_to_list file = adds.files_here c (IsConfig-Keeps keeps listed) (has-mid true has) nothing.0 in
        let missing_is : new.has next.missing.0 c ≡ is_none file = adds.missing_here c (IsConfig-Keeps keeps listed) (has-mid true has) ∙ ap (λ b. b || is_none file) nothing.1 in
        subst (λ hs. Finds hs (files_at new next.parts.items c) (new.has next.missing.0 c)) (sym (split true has ∙ ap (λ hs. hs ++ n.header ∷ []) empty))
        (subst (λ fs. Finds (n.header ∷ []) fs (new.has next.missing.0 c)) (sym files_are)
        (subst (Finds (n.header ∷ []) (option_to_list file)) (sym missing_is) (finds-one n.header file (searched held agrees))))

    elsewhere : old.has n.cond.0 c ≡ false → length (headers_in old (take (i + 1) named) c) ≤ 1 → Finds (headers_in old (take (i + 1) named) c) (files_at new next.parts.items c) (new.has next.missing.0 c)
    elsewhere has short =
        let same : headers_in old (take (i + 1) named) c ≡ before = split false has ∙ append-nil before in
        let all = finds-later files_grow (was-found (subst (λ hs. length hs ≤ 1) same short)) in
        subst (λ hs. Finds hs (files_at new next.parts.items c) (new.has next.missing.0 c)) (sym same)
        (subst (λ fs. Finds before fs (new.has next.missing.0 c)) (sym (adds.files_others c (IsConfig-Keeps keeps listed) (has-mid false has)))
        (subst (Finds before (files_at mid was.parts.items c)) (sym (adds.missing_others c (IsConfig-Keeps keeps listed) (has-mid false has))) all))

    by-cases : (b : Bool) → old.has n.cond.0 c ≡ b → length (headers_in old (take (i + 1) named) c) ≤ 1 → Finds (headers_in old (take (i + 1) named) c) (files_at new next.parts.items c) (new.has next.missing.0 c)
    by-cases true has = here has
    by-cases false has = elsewhere has

  pub one-found : ArePartsOf new later next.parts.items → AreFound standard old (take (i + 1) named) including directories more more_files later new next
  one-found parts = record { parts = parts; missing = adds.missing_own; at = λ held c agrees listed short. by-cases held c agrees listed (old.has n.cond.0 c) refl short }
