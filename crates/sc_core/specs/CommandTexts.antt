-- What the text of each command says of a setting, in terms of ordinary translation.
use Rattle.std.specs.Prelude.{◌≡◌, ℕ, Bool, true, false, List, [], length, map, All, Option, Some, None, Result, Ok, Err}
use Rattle.std.specs.List.{Contains}
use Rattle.std.specs.Result.{is_ok}
use Rattle.c11_directives.specs.Footprints.{SourceFootprint}
use Rattle.c11_directives.specs.Listed.{HasListed, IsListed}
use Rattle.c11_directives.specs.PutOut.{FilesPutOut}
use Rattle.c11_parsing.specs.Trees.{Tree}
use Rattle.sc_core.specs.Cut.{cut_space, first_config, last_config}
use Rattle.sc_core.specs.Made.{made_files, made_name}
use Rattle.sc_core.specs.OneItem.{HaveOneItem}
use Rattle.sc_core.specs.Ordinary.{HasClasses, HasFewClasses, HasManyConfigs, Preprocesses, Setting, Translates}
use Rattle.sc_fork.specs.Parsers.{IsC11Parser}
use Rattle.sc_text.specs.Answer.{Answer, At, HasSoundChoices, IsRooted, ShownTree, project, token_list, tree_parts}
use Rattle.sc_text.specs.Layout.{IsTextOf}
use Rattle.sc_model.specs.Fault.{Fault}
use Rattle.sc_model.specs.Growth.{IsOneToOne}
use Rattle.sc_model.specs.Space.{Space}
use Rattle.sc_model.specs.Token.{Shown, Token, shown}
use Rattle.sc_show.specs.Conflicts.{conflict_pieces}
use Rattle.sc_project.specs.declared.size.TreeSize.{TreeSize}
use Rattle.sc_project.specs.Size.{size_of}
use Rattle.sc_show.specs.declared.summary.Summary.{Summary}
use Rattle.sc_show.specs.PlainText.{IsPlainAnswer}
use Rattle.sc_show.specs.Summary.{summary_pieces}
use Rattle.sc_show.specs.TreeShows.{shown_tree}
use Rattle.sc_space.specs.Config.{read_config}

-- ---- right answers

-- whether it is so
abbrev pub Tells : Bool → Type 0 → Type 0
Tells true A = A
Tells false A = A → ⊥

-- what is given at a configuration, and it is said
pub record IsRightAt {T : Type 0} (gives says : Result T Fault → Type 0) : Type 0 where
  pub ordinary : Result T Fault
  pub given : gives ordinary
  pub said : says ordinary

-- no listed configuration is refused
abbrev pub AcceptsAll : {T : Type 0} → Space → (List ℕ → Result T Fault → Type 0) → Type 0
AcceptsAll {T} space gives = (config : List ℕ) → IsListed space config → (body : T) × gives config (Ok body)

-- At each listed configuration it is said what is given there, and whether all are accepted.
pub record IsRight {T : Type 0} (space : Space) (gives says : List ℕ → Result T Fault → Type 0) (accepted : Bool) : Type 0 where
  pub each : (config : List ℕ) → IsListed space config → IsRightAt (gives config) (says config)
  pub verdict : Tells accepted (AcceptsAll space gives)

-- ---- the text of the tokens

-- what a text shows of the ordinary answer
abbrev pub shown_answer : Result (List Token) Fault → Result (List Shown) Fault
shown_answer (Ok ts) = Ok (map shown ts)
shown_answer (Err fault) = Err fault

-- The pieces are the lines of a text that keeps the rules of the format, and it has no fault
-- exactly where it is told that all configurations are accepted. It says what ordinary
-- preprocessing gives. Where there are no more configurations than branches, what those without a
-- fault put out of a token that they expand alike is one item.
pub record IsTokensText (s : Setting) (pieces : List (List ℕ)) (accepted : Bool) : Type 0 where
  pub answer : Answer token_list
  pub text : IsTextOf s.space pieces answer
  pub valid : HasListed s.space
  pub verdict : Tells accepted (answer.faults ≡ [])
  pub right : IsRight s.space (Preprocesses s) (λ config ordinary. At answer config (shown_answer ordinary)) accepted
  pub thin : (HasManyConfigs s.space → ⊥) → (c d : List ℕ) → IsListed s.space c → IsListed s.space d → project answer.faults c ≡ [] → project answer.faults d ≡ []
      → (f : SourceFootprint) (index n m : ℕ) → FilesPutOut s.space s.files s.main c f index n → FilesPutOut s.space s.files s.main d f index m → HaveOneItem answer.body c d n m

-- ---- the text of trees

-- what a text shows of the ordinary answer
abbrev pub shown_result : Result Tree Fault → Result ShownTree Fault
shown_result (Ok tree) = Ok (shown_tree tree)
shown_result (Err fault) = Err fault

-- no listed configuration has a fault
abbrev pub HasNoFault : Space → Answer tree_parts → Type 0
HasNoFault space answer = (config : List ℕ) → IsListed space config → project answer.faults config ≡ []

-- the answer says what ordinary translation gives
abbrev pub IsTranslation : Setting → Answer tree_parts → Bool → Type 0
IsTranslation s answer accepted = IsRight s.space (Translates s) (λ config ordinary. At answer config (shown_result ordinary)) accepted

-- The pieces are the lines of a text that keeps the rules of the format, and a configuration has a
-- fault exactly where it is told that not all are accepted. Its choices are sound, and it has a
-- root exactly where some configuration is accepted. It says what ordinary translation gives, as
-- C11 is parsed, of a file that has no more classes than branches.
pub record IsParseText (s : Setting) (pieces : List (List ℕ)) (accepted : Bool) : Type 0 where
  pub answer : Answer tree_parts
  pub text : IsTextOf s.space pieces answer
  pub choices : HasSoundChoices s.space answer.body.parts
  pub rooted : IsRooted (IsListed s.space) answer
  pub valid : HasListed s.space
  pub verdict : Tells accepted (HasNoFault s.space answer)
  pub right : IsTranslation s answer accepted
  pub few : HasFewClasses s

-- ---- the text of one configuration

-- The answer of one configuration is exactly what ordinary translation gives at another of the
-- setting, and it is told whether that is accepted.
pub record IsProjected (s : Setting) (config : List ℕ) (answer : Answer tree_parts) (accepted : Bool) : Type 0 where
  pub ordinary : Result Tree Fault
  pub translated : Translates s config ordinary
  pub same : At answer (first_config s.space) (shown_result ordinary)
  pub exact : IsPlainAnswer answer (first_config s.space) (shown_result ordinary)
  pub verdict : accepted ≡ is_ok ordinary

-- The pieces are the lines of the text of a result, a tree or a fault, in the space that has the
-- chosen configuration alone.
pub record IsProjectText (choices : List (List ℕ)) (s : Setting) (pieces : List (List ℕ)) (accepted : Bool) : Type 0 where
  pub config : List ℕ
  pub chosen : read_config s.space choices ≡ Ok config
  pub listed : IsListed s.space config
  pub answer : Answer tree_parts
  pub text : IsTextOf (cut_space s.space config) pieces answer
  pub verdict : Tells accepted (HasNoFault (cut_space s.space config) answer)
  pub c11 : IsC11Parser s.space.standard s.parser
  pub right : IsProjected s config answer accepted

-- ---- the text of a summary

-- the size of a tree that is accepted
abbrev pub size_in : Result Tree Fault → Option TreeSize
size_in (Ok tree) = Some (size_of tree)
size_in (Err fault) = None

-- it is the size of what ordinary translation gives at the configuration
abbrev pub HasSizeAt : Setting → List ℕ → Option TreeSize → Type 0
HasSizeAt s config size = IsRightAt (Translates s config) (λ ordinary. size ≡ size_in ordinary)

-- so many different faults refuse listed configurations
pub record HasFaults (s : Setting) (count : ℕ) : Type 0 where
  pub faults : List Fault
  pub once : IsOneToOne faults
  pub some : All (λ fault. (config : List ℕ) × IsListed s.space config × Translates s config (Err fault)) faults
  pub each : (config : List ℕ) → IsListed s.space config → IsRightAt (Translates s config) (λ ordinary. (fault : Fault) → ordinary ≡ Err fault → Contains faults fault)
  pub many : length faults ≡ count

-- The pieces are the lines of a summary of so many items: the sizes of the trees at two
-- configurations, how many faults there are, and how many classes at most at one place.
pub record IsSummaryText (items : ℕ) (s : Setting) (pieces : List (List ℕ)) (accepted : Bool) : Type 0 where
  pub summary : Summary
  pub written : pieces ≡ summary_pieces summary
  pub items_are : summary.items ≡ items
  pub first : HasSizeAt s (first_config s.space) summary.first
  pub last : HasSizeAt s (last_config s.space) summary.last
  pub faults : HasFaults s summary.faults
  pub classes : HasClasses s summary.classes
  pub verdict : Tells accepted (AcceptsAll s.space (Translates s))

-- The file that is made is the only one.
abbrev pub made_setting : ℕ → Setting → Setting
made_setting items s = record s { files = made_files items; main = made_name }

-- ---- the text of the conflicts

-- The pieces are the lines for the conflicts of the tables of C11, each once and in order.
pub record IsConflictsText (s : Setting) (pieces : List (List ℕ)) (accepted : Bool) : Type 0 where
  pub c11 : IsC11Parser s.space.standard s.parser
  pub written : pieces ≡ conflict_pieces s.parser.tables.conflicts
  pub verdict : accepted ≡ true
