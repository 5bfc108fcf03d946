-- Two definitions pass the test just where they are equal.
use Rattle.std.proofs.Common.{◌≡◌, ℕ, ◌==◌, ◌&&◌, not, Bool, true, false, List, [], ◌∷◌, Option, Some, None, refl, sym, ap, ◌∙◌, eqb-true, eq-eqb, if◌then◌else◌}
use Rattle.c11_macros.specs.Macros.{Form, object_like, function_like, Replacement, items, file_name, line_number, Definition, Rest}
use Rattle.sc_model.specs.Token.{Item}
use Rattle.c11_macros.specs.Same.{kind_number, same_test, same_lists, same_item, same_rest, same_form, same_replacement, same_definition}
use Rattle.sc_model.specs.declared.kind.Kind.{Kind}
use Rattle.sc_model.specs.declared.kind.Kind.TheVariants.{Identifier, Number, Character, Text, Header, Punctuator, Other, Newline}
use Rattle.sc_model.specs.Bytes.{same_bytes}
use Rattle.sc_model.proofs.ByteLemmas.{same_bytes-refl, same_bytes-true}

and-both : (a b : Bool) → (a && b) ≡ true → (a ≡ true) × (b ≡ true)
and-both true b h = (refl, h)
and-both false b h = cc

and-join : {a b : Bool} → a ≡ true → b ≡ true → (a && b) ≡ true
and-join h k = rw (h, k) refl

-- the kind of a number
abbrev kind_of : ℕ → Kind
kind_of n =
    if n == 0 then Identifier
    else (if n == 1 then Number
    else (if n == 2 then Character
    else (if n == 3 then Text
    else (if n == 4 then Header
    else (if n == 5 then Punctuator
    else (if n == 6 then Other
    else Newline))))))

kind-number : (k : Kind) → kind_of (kind_number k) ≡ k
kind-number Identifier = refl
kind-number Number = refl
kind-number Character = refl
kind-number Text = refl
kind-number Header = refl
kind-number Punctuator = refl
kind-number Other = refl
kind-number Newline = refl

same_kind-true : (a b : Kind) → (kind_number a == kind_number b) ≡ true → a ≡ b
same_kind-true a b h = sym (kind-number a) ∙ (ap kind_of (eqb-true (kind_number a) (kind_number b) h) ∙ kind-number b)

same_test-true : (a b : Bool) → same_test a b ≡ true → a ≡ b
same_test-true true true h = refl
same_test-true true false h = cc
same_test-true false true h = cc
same_test-true false false h = refl

same_test-refl : (a : Bool) → same_test a a ≡ true
same_test-refl true = refl
same_test-refl false = refl

same_lists-true : {A : Type 0} (same : A → A → Bool) → ((x y : A) → same x y ≡ true → x ≡ y) → (xs ys : List A) → same_lists same xs ys ≡ true → xs ≡ ys
same_lists-true same law [] [] h = refl
same_lists-true same law [] (y ∷ ys) h = cc
same_lists-true same law (x ∷ xs) [] h = cc
same_lists-true same law (x ∷ xs) (y ∷ ys) h =
    let parts = and-both (same x y) (same_lists same xs ys) h in
    let first = law x y parts.0 in
    let rest = same_lists-true same law xs ys parts.1 in
    cc

same_lists-refl : {A : Type 0} (same : A → A → Bool) → ((x : A) → same x x ≡ true) → (xs : List A) → same_lists same xs xs ≡ true
same_lists-refl same law [] = refl
same_lists-refl same law (x ∷ xs) = and-join (law x) (same_lists-refl same law xs)

same_item-true : (a b : Item) → same_item a b ≡ true → a ≡ b
same_item-true a b h =
    let parts = and-both (kind_number a.kind == kind_number b.kind) _ h in
    let others = and-both (same_bytes a.spelling b.spelling) _ parts.1 in
    let kinds = same_kind-true a.kind b.kind parts.0 in
    let spellings = same_bytes-true a.spelling b.spelling others.0 in
    let spaces = same_test-true a.space b.space others.1 in
    λ i. record { kind = kinds i; spelling = spellings i; space = spaces i }

same_item-refl : (a : Item) → same_item a a ≡ true
same_item-refl a = and-join (eq-eqb (kind_number a.kind) (kind_number a.kind) refl) (and-join (same_bytes-refl a.spelling) (same_test-refl a.space))

same_rest-true : (a b : Option Rest) → same_rest a b ≡ true → a ≡ b
same_rest-true None None h = refl
same_rest-true None (Some s) h = cc
same_rest-true (Some r) None h = cc
same_rest-true (Some r) (Some s) h =
    let parts = and-both (same_bytes r.name s.name) (same_test r.deletes_comma s.deletes_comma) h in
    let names = same_bytes-true r.name s.name parts.0 in
    let deletes = same_test-true r.deletes_comma s.deletes_comma parts.1 in
    λ i. Some (record { name = names i; deletes_comma = deletes i })

same_rest-refl : (a : Option Rest) → same_rest a a ≡ true
same_rest-refl None = refl
same_rest-refl (Some r) = and-join (same_bytes-refl r.name) (same_test-refl r.deletes_comma)

same_form-true : (a b : Form) → same_form a b ≡ true → a ≡ b
same_form-true object_like object_like h = refl
same_form-true object_like (function_like qs w) h = cc
same_form-true (function_like ps v) object_like h = cc
same_form-true (function_like ps v) (function_like qs w) h =
    let parts = and-both (same_lists same_bytes ps qs) (same_rest v w) h in
    let parameters = same_lists-true same_bytes same_bytes-true ps qs parts.0 in
    let rests = same_rest-true v w parts.1 in
    λ i. function_like (parameters i) (rests i)

same_form-refl : (a : Form) → same_form a a ≡ true
same_form-refl object_like = refl
same_form-refl (function_like ps v) = and-join (same_lists-refl same_bytes same_bytes-refl ps) (same_rest-refl v)

same_replacement-true : (a b : Replacement) → same_replacement a b ≡ true → a ≡ b
same_replacement-true (items a) (items b) h = ap items (same_lists-true same_item same_item-true a b h)
same_replacement-true (items a) file_name h = cc
same_replacement-true (items a) line_number h = cc
same_replacement-true file_name (items b) h = cc
same_replacement-true file_name file_name h = refl
same_replacement-true file_name line_number h = cc
same_replacement-true line_number (items b) h = cc
same_replacement-true line_number file_name h = cc
same_replacement-true line_number line_number h = refl

same_replacement-refl : (a : Replacement) → same_replacement a a ≡ true
same_replacement-refl (items a) = same_lists-refl same_item same_item-refl a
same_replacement-refl file_name = refl
same_replacement-refl line_number = refl

pub same_definition-true : (a b : Definition) → same_definition a b ≡ true → a ≡ b
same_definition-true a b h =
    let parts = and-both (same_form a.form b.form) (same_replacement a.replacement b.replacement) h in
    let forms = same_form-true a.form b.form parts.0 in
    let replacements = same_replacement-true a.replacement b.replacement parts.1 in
    λ i. record { form = forms i; replacement = replacements i }

pub same_definition-refl : (a : Definition) → same_definition a a ≡ true
same_definition-refl a = and-join (same_form-refl a.form) (same_replacement-refl a.replacement)

-- definitions that don't pass the test differ
pub same_definition-false : (a b : Definition) → same_definition a b ≡ false → a ≡ b → ⊥
same_definition-false a b h e = let passes = same_definition-refl a in let at = ap (same_definition a) e in cc
