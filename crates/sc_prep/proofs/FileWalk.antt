-- That the walk of a file's lines is what entering the file is.
use Rattle.std.proofs.Common.{◌≡◌, ◌<◌, ◌&&◌, true, false, List, [], map, Option, Some, None, Result, Ok, Err, refl, sym, ap, subst, ◌∙◌, length, is_none}
use Rattle.c11_directives.specs.Lines.{Line, Group, IsTree, nested, split_lines}
use Rattle.sc_model.specs.Token.{Lexeme, Token, in_file}
use Rattle.sc_prep.proofs.Machine.{HaveHashes, after, given, inert, inert_closing, follows, lines-hashes}
use Rattle.sc_prep.proofs.Terms.{Context, Covers, Enters, Fault, File, Lexed, Machine, RunExpands, Runs, State, Walks, acts, closed, closing_run, file_lines, inside, is_newline, largest_file, put_out, refused, start, stopped_inside, walked}

-- a machine with this fault, at the end of its file
pub record EndsFaulty (fault : Fault) (n : Machine) : Type 0 where
  pub fault_is : n.fault ≡ Some fault
  pub active : n.active ≡ true
  pub sections : n.sections ≡ []

-- the machine that an entered file leaves
abbrev pub LeftBy : Result State Fault → Machine → Type 0
LeftBy (Ok t) n = n ≡ after [] t None
LeftBy (Err fault) n = EndsFaulty fault n

-- the machine is where entering the file ends
pub record Entered (x : Context) (f : File) (s : State) (n : Machine) : Type 0 where
  pub end : Result State Fault
  pub enters : Enters x f s end
  pub leaves : LeftBy end n

module _ (x : Context) (f : File) (s : State) (lexemes : List Lexeme) (group : Group) (few : largest_file < length f.bytes → ⊥) (lexed : Lexed f.bytes (Ok lexemes)) where
  -- the last run is closed at the end
  ends-entered : IsTree (file_lines x f lexemes) group → (end : State) (fault : Option Fault) → Walks x group (inside f s) (given end fault)
      → (r : Result (List Token) Fault) → RunExpands (after [] end fault) r → Entered x f s (closing_run (after [] end fault) r)
  ends-entered tree end None walks (Ok output) expands =
      record { end = Ok (put_out end output); enters = walked lexemes group end few lexed (nested group tree) walks (closed output (expands refl)); leaves = refl }
  ends-entered tree end None walks (Err fault) expands = record {
    end = Err fault;
    enters = walked lexemes group end few lexed (nested group tree) walks (refused fault (expands refl));
    leaves = record { fault_is = refl; active = refl; sections = refl };
  }
  ends-entered tree end (Some fault) walks r expands =
      subst (Entered x f s) (sym (inert_closing (after [] end (Some fault)) r refl))
      (record {
        end = Err fault;
        enters = stopped_inside lexemes group fault few lexed (nested group tree) walks;
        leaves = record { fault_is = refl; active = refl; sections = refl };
      })

  -- the machine that starts before the lines of a file enters it
  pub covers-entered : {lines : List Line} {n : Machine} → lines ≡ file_lines x f lexemes → IsTree lines group → Covers x lines (start (inside f s)) n → Entered x f s n
  covers-entered {lines} {n} are tree covers =
      let grouped : IsTree (file_lines x f lexemes) group = subst (λ ls. IsTree ls group) are tree in
      let whole = sym (grouped.whole ∙ sym are) in
      let hashes = lines-hashes x.standard (split_lines (λ t. is_newline t.kind) (map (in_file f.name) lexemes)) in
      let e =
      follows x group grouped.grouped (subst HaveHashes (sym grouped.whole) hashes) (inside f s) [] covers.end (subst (λ ls. Runs x (start (inside f s)) ls covers.end) whole covers.runs) in
      subst (Entered x f s) (sym (covers.closed.is ∙ ap (λ m. closing_run m covers.closed.answer) e.is))
      (ends-entered grouped e.end e.fault e.walks covers.closed.answer (subst (λ m. RunExpands m covers.closed.answer) e.is covers.closed.expands))

-- ---- a machine that takes none of the lines of a file

pub covers-inert : {x : Context} {lines : List Line} {group : Group} (m : Machine) {n : Machine} → IsTree lines group → acts m ≡ false → Covers x lines m n → n ≡ m
covers-inert {x} {group = group} m tree e covers =
    let still : covers.end ≡ m = inert group tree.grouped m e (subst (λ ls. Runs x m ls covers.end) (sym tree.whole) covers.runs) in
    covers.closed.is ∙ (inert_closing covers.end covers.closed.answer (ap acts still ∙ e) ∙ still)

pub covers-idle : {x : Context} {lines : List Line} {group : Group} (m : Machine) {n : Machine} → IsTree lines group → m.active ≡ false → Covers x lines m n → n ≡ m
covers-idle m tree inactive covers = covers-inert m tree (ap (λ a. a && is_none m.fault) inactive) covers
