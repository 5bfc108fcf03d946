-- The text of a space says one thing of each configuration.
use Rattle.std.proofs.Common.{◌≡◌, ℕ, Bool, true, List, [], Option, Some, None, Result, Ok, Err, refl, sym, ap, ◌∙◌, subst}
use Rattle.c11_directives.proofs.DecidesLaws.{some_decision}
use Rattle.c11_directives.proofs.IfLines.{if-asks, if-hash}
use Rattle.c11_directives.proofs.PreLaws.{decides-sole}
use Rattle.c11_directives.proofs.SomeWalk.{initial-finite}
use Rattle.c11_directives.specs.declared.directive.Test.TheVariants.{Expression}
use Rattle.c11_directives.specs.Lines.{Line}
use Rattle.c11_directives.specs.Listed.{HasOpenComment, IsValidLine, SaysValid, absent, cause_alone, decided, if_bytes, if_line, unread}
use Rattle.c11_directives.specs.Pre.{Decides, context_of, initial_state}
use Rattle.c11_tokens.proofs.LexLaws.{lexes-unique}
use Rattle.c11_tokens.proofs.SomeAnswer.{lexed-some}
use Rattle.c11_tokens.specs.Lex.{Lexed}
use Rattle.sc_model.specs.declared.cause.Cause.{Cause}
use Rattle.sc_model.specs.declared.cause.Cause.TheVariants.{UnterminatedComment}
use Rattle.sc_model.specs.Fault.{Fault}
use Rattle.sc_model.specs.Space.{Space}
use Rattle.sc_model.specs.Token.{Lexeme, Position}

module _ (space : Space) where
  same-text : {t u : List ℕ} → space.valid ≡ Some t → space.valid ≡ Some u → t ≡ u
  same-text {t} {u} one other = let texts : Some t ≡ Some u = sym one ∙ other in cc

  one-lexing : {t u : List ℕ} {r s : Result (List Lexeme) Position} → space.valid ≡ Some t → space.valid ≡ Some u
      → Lexed (if_bytes t) r → Lexed (if_bytes u) s → r ≡ s
  one-lexing {s = s} here there first second = lexes-unique first (subst (λ text. Lexed (if_bytes text) s) (same-text there here) second)

  same-line : {l m : Line} → IsValidLine space l → IsValidLine space m → l ≡ m
  same-line {l} {m} a b =
      let lexed : Ok a.tokens ≡ Ok b.tokens = one-lexing a.present b.present a.lexed b.lexed in
      let tokens : a.tokens ≡ b.tokens = cc in
      a.is ∙ (ap (if_line space.standard) tokens ∙ sym b.is)

  no-line : {l : Line} → HasOpenComment space → IsValidLine space l → ⊥
  no-line a b = let other : Err a.place ≡ Ok b.tokens = one-lexing a.present b.present a.refused b.lexed in cc

  pub says-unique : {config : List ℕ} {r s : Result Bool Cause} → SaysValid space config r → SaysValid space config s → r ≡ s
  says-unique (absent none) (absent again) = refl
  says-unique (absent none) (unread comment) = let no = sym none ∙ comment.present in cc
  says-unique (absent none) (decided line answer is d) = let no = sym none ∙ is.present in cc
  says-unique (unread comment) (absent none) = let no = sym none ∙ comment.present in cc
  says-unique (unread comment) (unread again) = refl
  says-unique (unread comment) (decided line answer is d) = absurd (no-line comment is)
  says-unique (decided line answer is d) (absent none) = let no = sym none ∙ is.present in cc
  says-unique (decided line answer is d) (unread comment) = absurd (no-line comment is)
  says-unique {config} (decided line answer is d) (decided other second its e) =
      let moved = subst (λ l. Decides (context_of space (λ name. None)) (initial_state space [] config) l second) (same-line its is) e in
      ap cause_alone (decides-sole d second moved)

  -- ---- there is an answer

  read : (config text : List ℕ) → space.valid ≡ Some text → (lexing : Result (List Lexeme) Position) → Lexed (if_bytes text) lexing → (r : Result Bool Cause) × SaysValid space config r
  read config text here (Err place) lexed = (Err UnterminatedComment, unread (record { text = text; place = place; present = here; refused = lexed }))
  read config text here (Ok tokens) lexed =
      let line = if_line space.standard tokens in
      let first = if-hash space.standard text tokens lexed in
      let start = initial_state space [] config in
      let finite = initial-finite space config in
      let d = some_decision (context_of space (λ name. None)) start finite.names line first.0 finite.within first.1 Expression (if-asks space.standard text tokens lexed) in
      (cause_alone d.0, decided line d.0 (record { text = text; tokens = tokens; present = here; lexed = lexed; is = refl }) d.1)

  pub says-some : (config : List ℕ) → (r : Result Bool Cause) × SaysValid space config r
  says-some config = by space.valid refl
    where
      by : (valid : Option (List ℕ)) → space.valid ≡ valid → (r : Result Bool Cause) × SaysValid space config r
      by None none = (Ok true, absent none)
      by (Some text) here = let lexed = lexed-some (if_bytes text) in read config text here lexed.0 lexed.1
