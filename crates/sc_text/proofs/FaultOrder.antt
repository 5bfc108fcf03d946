-- Faults that are ordered alike are one.
use Rattle.std.proofs.Common.{◌≡◌, ℕ, List, [], ◌∷◌, refl, sym}
use Rattle.std.proofs.lemmas.Cmp.{ranked}
use Rattle.std.specs.Cmp.Lexicographic.{slice_cmp}
use Rattle.std.specs.Ordering.{nat_cmp, ordering_then}
use Rattle.std.specs.declared.cmp.Ordering.{Ordering}
use Rattle.std.specs.declared.cmp.Ordering.TheVariants.{Less, Equal, Greater}
use Rattle.sc_text.specs.Layout.{fault_order}
use Rattle.sc_model.specs.Fault.{Fault}
use Rattle.sc_text.proofs.TextLaws.{code_of-injective}

-- where two orders in a row find no difference, neither does
then_equal : (o p : Ordering) → ordering_then o p ≡ Equal → (o ≡ Equal) × (p ≡ Equal)
then_equal Less p h = cc
then_equal Equal p h = (refl, h)
then_equal Greater p h = cc

nat_equal : (x y : ℕ) → nat_cmp x y ≡ Equal → x ≡ y
nat_equal x y h = ranked x y Equal (sym h)

texts_equal : (xs ys : List ℕ) → slice_cmp nat_cmp xs ys ≡ Equal → xs ≡ ys
texts_equal [] [] h = refl
texts_equal [] (y ∷ ys) h = cc
texts_equal (x ∷ xs) [] h = cc
texts_equal (x ∷ xs) (y ∷ ys) h =
    let parts = then_equal (nat_cmp x y) (slice_cmp nat_cmp xs ys) h in
    let first = nat_equal x y parts.0 in
    let rest = texts_equal xs ys parts.1 in
    cc

pub faults_equal : (f g : Fault) → fault_order f g ≡ Equal → f ≡ g
faults_equal f g h =
    let codes = then_equal _ _ h in
    let columns = then_equal _ _ codes.0 in
    let lines = then_equal _ _ columns.0 in
    let name = texts_equal _ _ lines.0 in
    let line = nat_equal _ _ lines.1 in
    let column = nat_equal _ _ columns.1 in
    let cause = code_of-injective _ _ (nat_equal _ _ codes.1) in
    λ i. record { cause = cause i; place = record { file = name i; position = record { line = line i; column = column i } } }
