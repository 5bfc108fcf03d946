-- The definitions of headers, computed on examples.
use Rattle.std.proofs.Common.{◌≡◌, ℕ, Bool, true, false, List, [], ◌∷◌, refl, codes, Some, None}
use Rattle.sc_model.specs.declared.kind.Kind.{Kind}
use Rattle.sc_model.specs.declared.kind.Kind.TheVariants.{Identifier, Header, Text, Punctuator}
use Rattle.sc_model.specs.Token.{Token}
use Rattle.c11_headers.specs.declared.kind.HeaderKind.TheVariants.{Quoted, Angle}
use Rattle.c11_headers.specs.Headers.{header_with, form_of, directory_of, candidates}

abbrev token : Kind → Bool → List ℕ → Token
token kind space spelling =
    record { kind = kind; spelling = spelling; space = space; place = record { file = []; position = record { line = 1; column = 1 } } }

angle : form_of (token Header true (codes "<a/b.h>") ∷ token Identifier true (codes "x") ∷ []) ≡ Some (header_with Angle (codes "a/b.h"))
angle = refl

quoted : form_of (token Header true (codes "\"a\\b.h\"") ∷ []) ≡ Some (header_with Quoted (codes "a\\b.h"))
quoted = refl

literal : form_of (token Text true (codes "\"a\\\"b\"") ∷ []) ≡ Some (header_with Quoted (codes "a\\\"b"))
literal = refl

literal-prefixed : form_of (token Text true (codes "u8\"a\"") ∷ []) ≡ None
literal-prefixed = refl

expanded : form_of (token Punctuator true (codes "<") ∷ token Identifier true (codes "a") ∷ token Punctuator false (codes ".")
    ∷ token Identifier true (codes "h") ∷ token Punctuator true (codes ">") ∷ token Identifier false (codes "x") ∷ [])
    ≡ Some (header_with Angle (codes " a. h"))
expanded = refl

no-end : form_of (token Punctuator true (codes "<") ∷ token Identifier true (codes "a") ∷ token Punctuator false (codes ">>") ∷ []) ≡ None
no-end = refl

name-alone : form_of (token Identifier true (codes "a") ∷ []) ≡ None
name-alone = refl

nested : directory_of (codes "a//b/c.h") ≡ codes "a//b/"
nested = refl

here : directory_of (codes "c.h") ≡ []
here = refl

beside-first : candidates (header_with Quoted (codes "x.h")) (codes "d/c.c") (codes "i" ∷ codes "/j" ∷ [])
    ≡ codes "d/x.h" ∷ codes "i/x.h" ∷ codes "/j/x.h" ∷ []
beside-first = refl

directories-alone : candidates (header_with Angle (codes "x.h")) (codes "d/c.c") (codes "i" ∷ []) ≡ codes "i/x.h" ∷ []
directories-alone = refl

alone : candidates (header_with Quoted (codes "/x.h")) (codes "d/c.c") (codes "i" ∷ []) ≡ codes "/x.h" ∷ []
alone = refl
