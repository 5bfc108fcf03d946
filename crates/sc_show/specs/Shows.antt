-- What the text of a list shows.
use Rattle.std.specs.Prelude.{◌≡◌, ℕ, List, map}
use Rattle.std.specs.List.{concat}
use Rattle.sc_base.specs.declared.fault.Fault as base
use Rattle.sc_base.specs.declared.id.Cond.{Cond}
use Rattle.sc_guarded.specs.Items.{faults_at, seen_fault}
use Rattle.sc_base.specs.declared.token.Token.{Token}
use Rattle.sc_base.specs.Seen.{seen}
use Rattle.sc_text.specs.Layout.{IsTextOf, AreAlike}
use Rattle.sc_model.specs.Sets.{Sets, IsConfig}
use Rattle.sc_model.specs.Space.{Space}
use Rattle.sc_text.specs.Answer.{Condition, project, token_list, Answer}
use Rattle.sc_model.specs.Token.{Shown, shown}
use Rattle.sc_show.specs.Pieces.{split_lines_after}

-- the items as they are shown, under the sets of their conditions
abbrev pub shown_items : Sets → List (List ℕ) → List (List ℕ) → List (Cond × Token) → List (Condition × Shown)
shown_items s names files list = map (λ item. (s.has item.0.0, shown (seen names files item.1))) list

-- The text is that of an answer with the tokens of the list under their conditions and, at each
-- configuration, its fault.
pub record Shows (space : Space) (s : Sets) (names files : List (List ℕ)) (list : List (Cond × Token)) (faults : List base.Fault) (text : List ℕ) : Type 0 where
  pub pieces : List (List ℕ)
  pub answer : Answer token_list
  pub whole : text ≡ concat pieces
  pub cut : split_lines_after text ≡ pieces
  pub text_of : IsTextOf space pieces answer
  pub tokens : AreAlike space (shown_items s names files list) answer.body
  pub faults_are : (c : List ℕ) → IsConfig s.arities c → project answer.faults c ≡ map (seen_fault files) (faults_at s faults c)
