use Rattle.std.proofs.Common.{◌≡◌, ◌∙◌, List, Some, ap, slice_get, sym, subst, ℕ}
use Rattle.sc_prep.proofs.Contents.{reads-absent, reads-content}
use Rattle.sc_prep.proofs.Terms.{IsContent, IsReading, option_map}
use Rattle.sc_prep.proofs.content.read_file.Goals as goal

pub returns-in_default-clause-reading : goal.returns-in_default-clause-reading
returns-in_default-clause-reading g c =
    reads-absent c.args.files.now c.args.file c.text.result.now c.text.ensures c.args.names.now
    (λ held is. sym (ap (option_map (λ b. b.items)) c.in_default.is) ∙ c.in_ok-bytes.ensures.answer held is)

pub returns-clause-reading : goal.returns-clause-reading
returns-clause-reading g c =
    let names = c.read_content.new.names in
    subst (λ x. IsReading c.args.standard names c.args.files.now (g.S.Source.holds c.args.src.now) c.args.file (Some x)) (sym c.in_ok-new.ensures.ok)
    (reads-content c.args.files.now c.args.file c.text.result.now c.text.ensures names c.in-Some.bytes.items c.in_ok-content.content
    (λ held is. sym (ap (option_map (λ b. b.items)) c.in-Some.is) ∙ c.in_ok-bytes.ensures.answer held is)
    (subst (λ b. (files : List (List ℕ)) (name : List ℕ) → slice_get files c.args.file.0 ≡ Some name → IsContent c.args.standard names files name (Some b) (Some c.in_ok-content.content))
    c.deref.ensures.value c.in_ok-content.ensures.content)
    c.in_ok-content.ensures.held)
