-- The headers that lists of tokens name, seen at one configuration.
use Rattle.std.specs.Prelude.{◌≡◌, ℕ, ◌||◌, Bool, true, false, List, [], ◌∷◌, ◌++◌, All, map, Result, Ok, Err, string_bytes, if◌then◌else◌}
use Rattle.c11_directives.specs.Behind.{Says}
use Rattle.c11_directives.specs.declared.directive.Directive.TheVariants as directive
use Rattle.c11_directives.specs.Lines.{Line}
use Rattle.c11_directives.specs.Pre.{Context, Carries}
use Rattle.c11_headers.specs.Headers as headers
use Rattle.sc_base.specs.Seen.{seen}
use Rattle.sc_guarded.specs.Items.{items_at}
use Rattle.sc_include.specs.declared.header.Header.{Header}
use Rattle.sc_include.specs.Seen.{seen_header}
use Rattle.sc_model.specs.declared.cause.Cause.{Cause}
use Rattle.sc_model.specs.Bytes.{has_no_newline}
use Rattle.sc_model.specs.Fault.{Fault}
use Rattle.sc_model.specs.Sets.{Sets, IsCond, IsConfig}
use Rattle.sc_model.specs.Token.{Token}
use Rattle.sc_prep.specs.declared.alternatives.Alternative.{Alternative}
use Rattle.sc_prep.specs.declared.naming.Headers.{Headers}
use Rattle.sc_prep.specs.declared.naming.Named.{Named}
use Rattle.sc_prep.specs.Alternatives.{tokens_in}
use Rattle.sc_prep.specs.Machine.{Machine, acts, arriving}

-- the headers of the names that have the configuration
abbrev pub headers_in : Sets → List Named → List ℕ → List Header
headers_in s named c = items_at s (map (λ n. (n.cond, n.header)) named) c

abbrev pub with_named : Result headers.Header Cause → List headers.Header → List headers.Header
with_named (Ok header) found = header ∷ found
with_named (Err cause) found = found

-- the headers that the lists name
abbrev pub named_in : List (List Token) → List headers.Header
named_in [] = []
named_in (ts ∷ lists) = with_named (headers.header_of ts) (named_in lists)

abbrev pub is_unnamed : Result headers.Header Cause → Bool
is_unnamed (Ok header) = false
is_unnamed (Err cause) = true

-- one of the lists names none
abbrev pub unnamed_in : List (List Token) → Bool
unnamed_in [] = false
unnamed_in (ts ∷ lists) = is_unnamed (headers.header_of ts) || unnamed_in lists

-- the headers are those that the lists name, and some list names none just where that is told
pub record NamesAll (lists : List (List Token)) (found : List Header) (unnamed : Bool) : Type 0 where
  pub named_are : map seen_header found ≡ named_in lists
  pub unnamed_is : unnamed ≡ unnamed_in lists

-- the store made all conditions
pub record OwnsHeaders (s : Sets) (found : Headers) : Type 0 where
  pub named : All (λ n. IsCond s n.cond.0) found.named.items
  pub unnamed : IsCond s found.unnamed.0

-- at each configuration these are the headers of what it has
pub record AreHeaders (old : Sets) (names : List (List ℕ)) (alternatives : List Alternative) (new : Sets) (found : Headers) : Type 0 where
  pub owns : OwnsHeaders new found
  pub at : (files : List (List ℕ)) (c : List ℕ) → IsConfig old.arities c
      → NamesAll (map (λ ts. map (seen names files) ts) (tokens_in old alternatives c)) (headers_in new found.named.items c) (new.has found.unnamed.0 c)

-- one alternative more was read
pub record AddsHeader (old : Sets) (names : List (List ℕ)) (a : Alternative) (was : Headers) (new : Sets) (next : Headers) : Type 0 where
  pub owns : OwnsHeaders new next
  pub at : (files : List (List ℕ)) (c : List ℕ) (lists : List (List Token)) → IsConfig old.arities c → NamesAll lists (headers_in old was.named.items c) (old.has was.unnamed.0 c)
      → NamesAll (lists ++ (if old.has a.cond.0 c then map (seen names files) a.tokens.items ∷ [] else [])) (headers_in new next.named.items c) (new.has next.unnamed.0 c)

-- What an #include names at a configuration: one header, or its refusal; nothing where the machine
-- does nothing.
pub data NamesAt (x : Context) (l : Line) (m : Machine) : List Header → Machine → Type 0 where
  idle : acts m ≡ false → NamesAt x l m [] m
  fails : (fault : Fault) → acts m ≡ true → Carries x l m.state directive.Include (Err fault) → NamesAt x l m [] (arriving m (Err fault))
  names : (ts : List Token) (header : Header) → acts m ≡ true → Says m.state.macros l (Ok ts) → headers.header_of ts ≡ Ok (seen_header header) → NamesAt x l m (header ∷ []) m

-- the names are on one line
abbrev pub ArePlainNames : List Named → Type 0
ArePlainNames named = All (λ n. has_no_newline (string_bytes n.header.name) ≡ true) named
