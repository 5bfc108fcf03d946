-- Which bytes can be the name of a file.
use Rattle.std.proofs.Common.{◌≡◌, ◌==◌, ℕ, Bool, true, false, List, length, IfOk, IfSome, IfNone, IsOk, Result, Ok, Err, refl, ap, subst}
use Rattle.std.specs.Result.{result_ok}
use Rattle.std.specs.String.{string_bytes, string_vec}
use Rattle.std.specs.declared.string.String.{String}
use Rattle.std.specs.declared.vec.Vec.{Vec}
use Rattle.std.specs.Str.{IsUtf8, is_utf8}
use Rattle.std.proofs.lemmas.Str.{IsUtf8-string_bytes, IsUtf8-from_is_utf8, is_utf8-from_IsUtf8}
use Rattle.c11_headers.specs.Headers.{is_file_name}

-- no bytes of a text that isn't one
refused : (bytes : List ℕ) (valid : Bool) → is_utf8 bytes ≡ valid → (IsUtf8 bytes → ⊥) → valid ≡ false
refused bytes true is none = absurd (none (IsUtf8-from_is_utf8 bytes is))
refused bytes false is none = refl

pub file_name-some : {Z E : Type 0} (bytes : Vec ℕ Z) (read : Result (String Z) E) → (length bytes.items == 0) ≡ false
    → IfOk read (λ text. string_vec text ≡ bytes)
    → IfSome (result_ok read) (λ text. (is_file_name bytes.items ≡ true) × (string_bytes text ≡ bytes.items))
file_name-some bytes (Ok text) filled same =
    let whole : string_bytes text ≡ bytes.items = ap (λ v. v.items) same in
    (rw (filled, is_utf8-from_IsUtf8 bytes.items (subst IsUtf8 whole (IsUtf8-string_bytes text))) refl, whole)
file_name-some bytes (Err e) filled same = tt

pub file_name-none : {Z E : Type 0} (bytes : Vec ℕ Z) (read : Result (String Z) E) → (length bytes.items == 0) ≡ false
    → (IsUtf8 bytes.items → IsOk read)
    → IfNone (result_ok read) (is_file_name bytes.items ≡ false)
file_name-none bytes (Ok text) filled valid = tt
file_name-none bytes (Err e) filled valid = rw (filled, refused bytes.items (is_utf8 bytes.items) refl (λ utf8. let h = valid utf8 in cc)) refl
