-- Headers that are read from one alternative after the other.
use Rattle.std.proofs.Common.{◌≡◌, ℕ, ◌+◌, ◌<◌, ◌||◌, Bool, true, false, List, [], ◌∷◌, ◌++◌, All, map, take, length, get_or, Result, Ok, Err, append-nil, refl, sym, ap, subst, ◌∙◌, if◌then◌else◌, string_bytes}
use Rattle.c11_headers.specs.Headers as headers
use Rattle.sc_base.specs.declared.token.Token as base
use Rattle.sc_model.specs.Token.{Token}
use Rattle.sc_prep.proofs.Facts.{All-nil, All-push, IsConfig-Keeps, map-append, map-one, or-false, recursion_from_All}
use Rattle.sc_prep.proofs.ListsAt.{items-keeps, items-next, items-push}
use Rattle.sc_prep.proofs.PlainWalks.{header-plain}
use Rattle.sc_prep.proofs.Terms.{AddsHeader, AllByRecursion as Every, AreHeaders, BadInclude, Cause, Cond, Denotes, Header, IsCond, Keeps, Named, NamesAll, NamesHeader, OwnsHeaders, Sets, has_no_newline, headers_in, is_plain, is_unnamed, named_in, seen, seen_header, unnamed_in, with_named}
use Rattle.sc_prep.specs.Alternatives.{alternative_tokens, tokens_in}
use Rattle.sc_prep.specs.declared.alternatives.Alternative.{Alternative}
use Rattle.sc_prep.specs.declared.naming.Headers.{Headers}

or_both : (a b c : Bool) → (a || (b || c)) ≡ ((a || b) || c)
or_both true b c = refl
or_both false b c = refl

with-append : (r : Result headers.Header Cause) (a b : List headers.Header) → with_named r (a ++ b) ≡ with_named r a ++ b
with-append (Ok h) a b = refl
with-append (Err cause) a b = refl

named-append : (lists : List (List Token)) (ts : List Token) → named_in (lists ++ ts ∷ []) ≡ named_in lists ++ named_in (ts ∷ [])
named-append [] ts = refl
named-append (l ∷ lists) ts = ap (with_named (headers.header_of l)) (named-append lists ts) ∙ with-append (headers.header_of l) (named_in lists) (named_in (ts ∷ []))

unnamed-append : (lists : List (List Token)) (ts : List Token) → unnamed_in (lists ++ ts ∷ []) ≡ (unnamed_in lists || unnamed_in (ts ∷ []))
unnamed-append [] ts = refl
unnamed-append (l ∷ lists) ts = ap (λ b. is_unnamed (headers.header_of l) || b) (unnamed-append lists ts) ∙ or_both (is_unnamed (headers.header_of l)) (unnamed_in lists) (unnamed_in (ts ∷ []))

-- ---- one list more

module _ (lists : List (List Token)) (ts : List Token) (hs : List Header) (u : Bool) (all : NamesAll lists hs u) where
  more-named : (b : Bool) (h : Header) → headers.header_of ts ≡ Ok (seen_header h) → NamesAll (lists ++ (if b then ts ∷ [] else [])) (hs ++ (if b then h ∷ [] else [])) u
  more-named true h is = record {
    named_are = map-append seen_header hs (h ∷ []) ∙ (ap (λ l. l ++ seen_header h ∷ []) all.named_are ∙ (ap (λ r. named_in lists ++ with_named r []) (sym is) ∙ sym (named-append lists ts)));
    unnamed_is = all.unnamed_is ∙ (sym (or-false (unnamed_in lists)) ∙ (ap (λ r. unnamed_in lists || (is_unnamed r || false)) (sym is) ∙ sym (unnamed-append lists ts)));
  }
  more-named false h is = record {
    named_are = ap (map seen_header) (append-nil hs) ∙ (all.named_are ∙ ap named_in (sym (append-nil lists)));
    unnamed_is = all.unnamed_is ∙ ap unnamed_in (sym (append-nil lists));
  }

  more-unnamed : (b : Bool) (cause : Cause) → headers.header_of ts ≡ Err cause → NamesAll (lists ++ (if b then ts ∷ [] else [])) hs (u || b)
  more-unnamed true cause is = record {
    named_are = all.named_are ∙ (sym (append-nil (named_in lists)) ∙ (ap (λ r. named_in lists ++ with_named r []) (sym is) ∙ sym (named-append lists ts)));
    unnamed_is = ap (λ v. v || true) all.unnamed_is ∙ (ap (λ r. unnamed_in lists || (is_unnamed r || false)) (sym is) ∙ sym (unnamed-append lists ts));
  }
  more-unnamed false cause is = record {
    named_are = all.named_are ∙ ap named_in (sym (append-nil lists));
    unnamed_is = or-false u ∙ (all.unnamed_is ∙ ap unnamed_in (sym (append-nil lists)));
  }

abbrev pair_of : Named → Cond × Header
pair_of n = (n.cond, n.header)

pub adds-named : (s : Sets) (names : List (List ℕ)) (a : Alternative) (was next : Headers) (n : Named) → OwnsHeaders s was → IsCond s a.cond.0 → n.cond ≡ a.cond → NamesHeader names a.tokens.items n.header
    → next.named.items ≡ was.named.items ++ n ∷ [] → next.unnamed ≡ was.unnamed → AddsHeader s names a was s next
adds-named s names a was next n owns own cond_is is pushed same =
    let P : Named → Type 0 = λ n. IsCond s n.cond.0 in
    record {
      owns = record {
        named = subst (All P) (sym pushed) (All-push P was.named.items n owns.named (subst (λ (d : Cond). IsCond s d.0) (sym cond_is) own));
        unnamed = subst (λ (d : Cond). IsCond s d.0) (sym same) owns.unnamed;
      };
      at = λ files c lists listed all.
          let have : headers_in s next.named.items c ≡ headers_in s was.named.items c ++ (if s.has a.cond.0 c then n.header ∷ [] else []) =
          ap (λ l. headers_in s l c) pushed ∙ (items-push pair_of s was.named.items n c ∙ ap (λ (d : Cond). headers_in s was.named.items c ++ (if s.has d.0 c then n.header ∷ [] else [])) cond_is) in
          let ts = map (seen names files) a.tokens.items in
          subst (λ hs. NamesAll (lists ++ (if s.has a.cond.0 c then ts ∷ [] else [])) hs (s.has next.unnamed.0 c)) (sym have)
          (subst (λ (d : Cond). NamesAll (lists ++ (if s.has a.cond.0 c then ts ∷ [] else [])) (headers_in s was.named.items c ++ (if s.has a.cond.0 c then n.header ∷ [] else [])) (s.has d.0 c)) (sym same)
          (more-named lists ts (headers_in s was.named.items c) (s.has was.unnamed.0 c) all (s.has a.cond.0 c) n.header (is files)));
    }

pub adds-unnamed : {old new : Sets} (names : List (List ℕ)) (a : Alternative) (was next : Headers) → Keeps old new → OwnsHeaders old was → IsCond old a.cond.0
    → ((files : List (List ℕ)) → headers.header_of (map (seen names files) a.tokens.items) ≡ Err BadInclude) → next.named ≡ was.named → IsCond new next.unnamed.0
    → Denotes new next.unnamed.0 (λ c. old.has was.unnamed.0 c || old.has a.cond.0 c) → AddsHeader old names a was new next
adds-unnamed {old} {new} names a was next keeps owns own is same own_next meaning =
    let P : Named → Type 0 = λ n. IsCond new n.cond.0 in
    record {
      owns = record { named = subst (λ ns. All P ns.items) (sym same) (λ k d h. keeps.own _ (owns.named k d h)); unnamed = own_next };
      at = λ files c lists listed all.
          let ts = map (seen names files) a.tokens.items in
          let have : headers_in new next.named.items c ≡ headers_in old was.named.items c =
          ap (λ ns. headers_in new ns.items c) same ∙ items-keeps pair_of was.named.items c keeps owns.named listed in
          subst (λ hs. NamesAll (lists ++ (if old.has a.cond.0 c then ts ∷ [] else [])) hs (new.has next.unnamed.0 c)) (sym have)
          (subst (NamesAll (lists ++ (if old.has a.cond.0 c then ts ∷ [] else [])) (headers_in old was.named.items c)) (sym (meaning.at c (IsConfig-Keeps keeps listed)))
          (more-unnamed lists ts (headers_in old was.named.items c) (old.has was.unnamed.0 c) all (old.has a.cond.0 c) BadInclude (is files)));
    }

-- ---- the alternatives in order

pub none-named : (s : Sets) (names : List (List ℕ)) (found : Headers) → found.named.items ≡ [] → Denotes s found.unnamed.0 (λ c. false) → AreHeaders s names [] s found
none-named s names found empty never =
    let P : Named → Type 0 = λ n. IsCond s n.cond.0 in
    record {
      owns = record { named = subst (All P) (sym empty) (All-nil P); unnamed = never.own };
      at = λ files c listed. record { named_are = ap (λ ns. map seen_header (headers_in s ns c)) empty; unnamed_is = never.at c listed };
    }

pub one-named : {old mid new : Sets} (names : List (List ℕ)) (alternatives : List Alternative) (i : ℕ) (a : Alternative) (was next : Headers) → Keeps old mid → i < length alternatives → a ≡ get_or alternatives i a
    → IsCond old a.cond.0 → AreHeaders old names (take i alternatives) mid was → AddsHeader mid names a was new next → AreHeaders old names (take (i + 1) alternatives) new next
one-named {old} {mid} {new} names alternatives i a was next keeps within is own are adds = record {
  owns = adds.owns;
  at = λ files c listed.
      let g : List base.Token → List Token = map (seen names files) in
      let before = tokens_in old (take i alternatives) c in
      let grown : map g before ++ (if mid.has a.cond.0 c then g a.tokens.items ∷ [] else []) ≡ map g (tokens_in old (take (i + 1) alternatives) c) =
      ap (λ b. map g before ++ (if b then g a.tokens.items ∷ [] else [])) (keeps.at a.cond.0 c own listed)
      ∙ (ap (λ l. map g before ++ l) (sym (map-one g (old.has a.cond.0 c) a.tokens.items))
      ∙ (sym (map-append g before (if old.has a.cond.0 c then a.tokens.items ∷ [] else [])) ∙ ap (map g) (sym (items-next alternative_tokens old alternatives i a c within is)))) in
      subst (λ lists. NamesAll lists (headers_in new next.named.items c) (new.has next.unnamed.0 c)) grown
      (adds.at files c (map g before) (IsConfig-Keeps keeps listed) (are.at files c listed));
}

-- ---- names on one line

abbrev pub IsPlainName : Named → Type 0
IsPlainName n = has_no_newline (string_bytes n.header.name) ≡ true

tokens-plain : (names : List (List ℕ)) (ts : List base.Token) → Every (λ (t : base.Token). is_plain names t ≡ true) ts → Every (λ (t : Token). has_no_newline t.spelling ≡ true) (map (seen names []) ts)
tokens-plain names [] all = tt
tokens-plain names (t ∷ ts) all = (all.0, tokens-plain names ts all.1)

pub named-plain : (names : List (List ℕ)) (ts : List base.Token) (header : Header) → All (λ (t : base.Token). is_plain names t ≡ true) ts → NamesHeader names ts header
    → has_no_newline (string_bytes header.name) ≡ true
named-plain names ts header all is =
    header-plain (map (seen names []) ts) (seen_header header) (tokens-plain names ts (recursion_from_All (λ (t : base.Token). is_plain names t ≡ true) ts all)) (is [])
