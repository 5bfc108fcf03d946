-- What a configuration's list expands to, told of the tokens of a text.
use Rattle.std.proofs.Common.{◌≡◌, ℕ, List, [], ◌∷◌, map, Result, Ok, Err, refl, sym, ap, subst, ◌∙◌}
use Rattle.sc_base.specs.declared.fault.Fault as base_fault
use Rattle.sc_base.specs.declared.token.Token as base_token
use Rattle.sc_expand.proofs.PlainPlaces.{expands-moved}
use Rattle.sc_expand.proofs.Terms.{Agree, DefineAlike, DefineTextAlike, Expanded, Expands, Failure, Hidden, HiddenToken, IsExpanded, IsKept, Macros, Name, Place, Sets, TextExpands, Trace, fault_of, faults_at, items_at, moved, moved_answer, moved_failure, no_names, place_alone, provenance_of, seen, seen_failure, seen_fault, seen_hidden, seen_place, set_at, text_of, text_of_answer, texts_in, token_of, unhidden}

-- a token of a list that is not expanded yet
abbrev pub begun : List (List ℕ) → base_token.Token → HiddenToken Place
begun names t = record { kind = t.kind; spelling = text_of names t.spelling; space = t.space; place = t.place; hide = no_names }

-- a token with the empty hide set
pub seen_hidden-begun : (names : List (List ℕ)) (hides : List (List Name)) (h : Hidden) → set_at hides h.hide.0 ≡ [] → seen_hidden names hides h ≡ begun names h.token
seen_hidden-begun names hides h none = ap (λ set. record (begun names h.token) { hide = texts_in names set }) none

-- the place of a token of a text is what the table of file names tells of what is kept of it
pub places-kept : (files : List (List ℕ)) → IsKept (provenance_of files) place_alone (seen_place files)
places-kept files = record { place = λ p. refl; mark = λ p. refl }

pub unhidden-begun : (names files : List (List ℕ)) (tokens : List base_token.Token) → map (moved (seen_place files)) (map (begun names) tokens) ≡ map unhidden (map (seen names files) tokens)
unhidden-begun names files [] = refl
unhidden-begun names files (t ∷ ts) = ap (λ us. unhidden (seen names files t) ∷ us) (unhidden-begun names files ts)

-- the expansion of the tokens of a text
pub text-expands : (names files : List (List ℕ)) (macros : Macros) (tokens : List base_token.Token) (r : Result (List (HiddenToken Place)) (Failure Place))
    → Expands (provenance_of files) macros (map (begun names) tokens) r → TextExpands macros (map (seen names files) tokens) (text_of_answer (moved_answer (seen_place files) r))
text-expands names files macros tokens r d = record {
  answer = moved_answer (seen_place files) r;
  expands =
      subst (λ ts. Expands place_alone macros ts (moved_answer (seen_place files) r)) (unhidden-begun names files tokens)
      (expands-moved (seen_place files) (places-kept files) macros d).expands;
  is = refl;
}

-- tables that define the names alike that the tokens of a text look up
pub text-defines : (names files : List (List ℕ)) (one other : Macros) (tokens : List base_token.Token) → DefineTextAlike one other (map (seen names files) tokens) → DefineAlike (provenance_of files) one other (map (begun names) tokens)
text-defines names files one other tokens defines = record {
  agree = λ r d.
      let e = expands-moved (seen_place files) (places-kept files) one d in
      let same = subst (DefineAlike place_alone one other) (sym (unhidden-begun names files tokens)) defines in
      subst (λ (x : Trace). Agree one other x.looked_up) e.by (same.agree (moved_answer (seen_place files) r) e.expands);
}

-- the tokens that were put out, without their hide sets
pub seen-out : (names files : List (List ℕ)) (hides : List (List Name)) (out : List Hidden)
    → map (seen names files) (map (λ (h : Hidden). h.token) out) ≡ map token_of (map (moved (seen_place files)) (map (seen_hidden names hides) out))
seen-out names files hides [] = refl
seen-out names files hides (h ∷ hs) = ap (λ ts. seen names files h.token ∷ ts) (seen-out names files hides hs)

seen-failures : (files : List (List ℕ)) (faults : List base_fault.Fault)
    → map (seen_fault files) faults ≡ map (λ failure. fault_of (moved_failure (seen_place files) failure)) (map seen_failure faults)
seen-failures files [] = refl
seen-failures files (fault ∷ faults) = ap (λ fs. seen_fault files fault ∷ fs) (seen-failures files faults)

module _ (s : Sets) (names later files : List (List ℕ)) (e : Expanded) (macros : Macros) (c : List ℕ) (tokens : List base_token.Token) where
  -- a configuration whose list expands
  pub expanded-list : (hides : List (List Name)) (out : List Hidden) → Expands (provenance_of files) macros (map (begun names) tokens) (Ok (map (seen_hidden later hides) out))
      → items_at s e.list c ≡ map (λ (h : Hidden). h.token) out → faults_at s e.faults.items c ≡ [] → IsExpanded s later files e macros (map (seen names files) tokens) c
  expanded-list hides out d is none = record {
    answer = Ok (map token_of (map (moved (seen_place files)) (map (seen_hidden later hides) out)));
    expands = text-expands names files macros tokens (Ok (map (seen_hidden later hides) out)) d;
    stands = (ap (map (seen later files)) is ∙ seen-out later files hides out, ap (map (seen_fault files)) none);
  }

  -- a configuration whose list is refused
  pub expanded-fault : (failure : Failure Place) → Expands (provenance_of files) macros (map (begun names) tokens) (Err failure)
      → map seen_failure (faults_at s e.faults.items c) ≡ failure ∷ [] → IsExpanded s later files e macros (map (seen names files) tokens) c
  expanded-fault failure d is = record {
    answer = Err (fault_of (moved_failure (seen_place files) failure));
    expands = text-expands names files macros tokens (Err failure) d;
    stands = seen-failures files (faults_at s e.faults.items c) ∙ ap (map (λ failure. fault_of (moved_failure (seen_place files) failure))) is;
  }
