use Rattle.std.proofs.Common.{◌≡◌, ◌∷◌, ◌++◌, ℕ, List, [], IfOk, lit<, string_bytes, take, ap, subst, sym, ◌∙◌}
use Rattle.std.proofs.lemmas.Str.Pattern.{rfind_char}
use Rattle.c11_headers.specs.Headers.{directory_of}
use Rattle.sc_include.proofs.Directories.{front, to_last_slash, without_slash}
use Rattle.sc_include.proofs.candidate.beside.Goals as goal

pub returns-in-Some : goal.returns-in-Some
returns-in-Some c =
    let file = c.args.file.now in
    let end = c.in-Some.end in
    let found = rw c.in-Some.is at (rfind_char 47 file c.rfind.result c.rfind.ensures.cases (lit< tt)) in
    let cut : directory_of file ≡ take end file ++ 47 ∷ [] = to_last_slash file end found.0 found.1 found.2 in
    let same : c.range.result.now ++ 47 ∷ [] ≡ directory_of file = ap (λ bytes. bytes ++ 47 ∷ []) (c.range.ensures.value ∙ front file end) ∙ sym cut in
    subst (λ (bytes : List ℕ). IfOk c.in_directory.result (λ text. string_bytes text ≡ bytes ++ c.args.name.now)) same c.in_directory.ensures

pub returns-in_ok-from_str-in-None : goal.returns-in_ok-from_str-in-None
returns-in_ok-from_str-in-None c =
    let file = c.args.file.now in
    let none = rw c.in-None.is at (rfind_char 47 file c.rfind.result c.rfind.ensures.cases (lit< tt)) in
    let cut : directory_of file ≡ [] = without_slash file none in
    rw cut c.in_ok-from_str-in-None.ensures.ok
