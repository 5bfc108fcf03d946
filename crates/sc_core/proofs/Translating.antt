-- What ordinary translation gives is one answer.
use Rattle.std.proofs.Common.{◌≡◌, ◌∙◌, ℕ, List, [], ◌∷◌, Option, Some, None, Result, Ok, Err, refl, sym, ap, subst}
use Rattle.c11_directives.proofs.PreLaws.{pre-unique}
use Rattle.c11_directives.specs.Pre.{Context, File, Includes, missing, left_out, entered, Pre, State, found_or, output_of, search}
use Rattle.c11_parsing.proofs.OneAnswer.{one_answer}
use Rattle.c11_parsing.specs.LR.{LR}
use Rattle.c11_parsing.specs.Trees.{Tree}
use Rattle.sc_core.specs.Ordinary.{Setting, Translates, main_end, not_prepared, parsed}
use Rattle.sc_model.specs.Fault.{Fault}
use Rattle.sc_model.specs.Outside.{Files}
use Rattle.sc_model.specs.Space.{Space}
use Rattle.sc_model.specs.Token.{Place, Token}

abbrev Prepared : Type 0
Prepared = Result (List Token) Fault

fault-same : (f g : Fault) → ◌≡◌ {A = Prepared} (Err f) (Err g) → f ≡ g
fault-same f g same = cc

tokens-same : (ts us : List Token) → ◌≡◌ {A = Prepared} (Ok ts) (Ok us) → ts ≡ us
tokens-same ts us same = cc

bytes-same : (xs ys : List ℕ) → ◌≡◌ {A = Option (List ℕ)} (Some xs) (Some ys) → xs ≡ ys
bytes-same xs ys same = cc

-- a file that is accepted is held
held-found : (name : List ℕ) (held : Option (List ℕ)) (file : File) → found_or None name held ≡ Some file → (bytes : List ℕ) × (held ≡ Some bytes)
held-found name None file is = cc
held-found name (Some bytes) file is = (bytes, refl)

held-walked : {context : Context} {names : List (List ℕ)} {asked : Place} {s : State} {r : Result State Fault} (main : List ℕ) (t : State) → Includes context names asked s r → names ≡ main ∷ [] → r ≡ Ok t
    → (bytes : List ℕ) × (context.files main ≡ Some bytes)
held-walked main t (missing absent) is ends = cc
held-walked {context} main t (left_out file found once) is ends = held-found main (context.files main) file (subst (λ names. search context.files names ≡ Some file) is found)
held-walked {context} main t (entered file found new walks) is ends =
    held-found main (context.files main) file (subst (λ names. search context.files names ≡ Some file) is found)

pub held-main : {space : Space} {files : Files} {main config : List ℕ} {ts : List Token} → Pre space files main config (Ok ts) → (bytes : List ℕ) × (files main ≡ Some bytes)
held-main {files = files} {main = main} pre = by pre.end refl
  where
    by : (r : Result State Fault) → pre.end ≡ r → (bytes : List ℕ) × (files main ≡ Some bytes)
    by (Ok t) is = held-walked main t pre.walked refl is
    by (Err fault) is = let no = pre.is ∙ ap output_of is in cc

module _ {of : Setting} {config : List ℕ} where
  pub translates-unique : {r s : Result Tree Fault} → Translates of config r → Translates of config s → r ≡ s
  translates-unique (not_prepared f p) (not_prepared g q) = let same = pre-unique p q in ap (λ fault. Err fault) (fault-same f g same)
  translates-unique (not_prepared f p) (parsed ts bytes a q held lr) = let same = pre-unique p q in cc
  translates-unique (parsed ts bytes a p held lr) (not_prepared g q) = let same = pre-unique p q in cc
  translates-unique (parsed ts bytes a p held lr) (parsed us more b q also rl) =
      let tokens = tokens-same ts us (pre-unique p q) in
      let ends = bytes-same bytes more (sym held ∙ also) in
      one_answer of.parser (main_end of bytes) ts a b lr (subst (λ (xs : List Token). LR of.parser (main_end of bytes) xs b) (sym tokens)
      (subst (λ (xs : List ℕ). LR of.parser (main_end of xs) us b) (sym ends) rl))
