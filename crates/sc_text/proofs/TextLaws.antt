-- A text reads as one answer.
use Rattle.std.proofs.Common.{◌≡◌, ℕ, ◌+◌, ◌-◌, ◌==◌, not, ◌&&◌, Bool, true, false, List, [], ◌∷◌, ◌++◌, map, codes, get_or, Option, Some, None, Result, Ok, Err, refl, sym, ap, subst, ◌∙◌, append_assoc}
use Rattle.std.proofs.lemmas.List.{append_cancel_left}
use Rattle.std.proofs.lemmas.Bool.{true≢false, and_parts, or_parts, not-true}
use Rattle.std.proofs.lemmas.Option.{same_Some}
use Rattle.std.specs.List.{concat, flat_map, list_all, list_any}
use Rattle.sc_model.specs.declared.cause.Cause.{Cause}
use Rattle.sc_model.specs.declared.cause.Cause.TheVariants.{NotFound, FileTooLarge, UnterminatedComment, BadNesting, BadDirective, BadDefine, Redefined, ProtectedName, BadIf, IfDivision, IfOverflow, IfShift, DefinedFromMacro, BadInclude, IncludeDepth, ErrorDirective, UnterminatedCall, WrongArguments, BadPaste, BadStringize, BadToken, Syntax, BadPragma}
use Rattle.sc_model.specs.Bytes.{has_no_newline}
use Rattle.sc_model.specs.Cause.{code_of, name_of}
use Rattle.sc_model.specs.Fault.{Fault}
use Rattle.sc_model.specs.Space.{Space}
use Rattle.sc_model.specs.Token.{Shown}
use Rattle.sc_text.specs.Answer.{Condition, project, Part, leaf_part, node_part, choice_part, ShownTree, shown_leaf, shown_node, ShownForest, more_shown, TreeAt, leaf_at, node_at, choice_at, TreesAt, none_at, more_at, BodyKind, token_list, tree_parts, Body, Answer, BodyAt, IsBodyAt, At, accepted, refused}
use Rattle.sc_text.specs.Text.{Printed, TextLine, condition_line, file_line, token_line, leaf_line, node_line, choice_line, root_line, fault_line, end_line, numeral, place_text, choice_text, child_text, branch_text, root_text, line_text, is_wordless, is_word, is_clear, Said, token_said, root_said, fault_said, end_said, parts_said, answer_said, Reading, nothing_read, read_lines, Reads}
use Rattle.sc_text.proofs.Numerals.{numeral-injective, numeral-digits, is_no_digit}

-- the same front, and the same rest
pub record Cut {T : Type 0} (x y : T) (r s : List ℕ) : Type 0 where
  pub same : x ≡ y
  pub rest : r ≡ s

-- a field ends where this text begins
abbrev pub ends_field : (ℕ → Bool) → List ℕ → Bool
ends_field stops [] = false
ends_field stops (b ∷ bs) = stops b

pub cut : (stops : ℕ → Bool) (xs ys r s : List ℕ) → list_any stops xs ≡ false → list_any stops ys ≡ false → ends_field stops r ≡ true → ends_field stops s ≡ true → xs ++ r ≡ ys ++ s → Cut xs ys r s
cut stops [] [] r s p q h k e = record { same = refl; rest = e }
cut stops [] (y ∷ ys) r s p q h k e = absurd (true≢false (sym h ∙ (ap (ends_field stops) e ∙ (or_parts (stops y) (list_any stops ys) q).0)))
cut stops (x ∷ xs) [] r s p q h k e = absurd (true≢false (sym k ∙ (ap (ends_field stops) (sym e) ∙ (or_parts (stops x) (list_any stops xs) p).0)))
cut stops (x ∷ xs) (y ∷ ys) r s p q h k e =
    let first : x ≡ y = cc in
    let more = cut stops xs ys r s (or_parts (stops x) (list_any stops xs) p).1 (or_parts (stops y) (list_any stops ys) q).1 h k cc in
    let same = more.same in
    record { same = cc; rest = more.rest }

pub cut-number : (m n : ℕ) (r s : List ℕ) → ends_field is_no_digit r ≡ true → ends_field is_no_digit s ≡ true → numeral m ++ r ≡ numeral n ++ s → Cut m n r s
cut-number m n r s h k e =
    let c = cut is_no_digit (numeral m) (numeral n) r s (numeral-digits m) (numeral-digits n) h k e in
    record { same = numeral-injective m n c.same; rest = c.rest }

-- the last field of a line
pub cut-plain : (xs ys r s : List ℕ) → has_no_newline xs ≡ true → has_no_newline ys ≡ true → xs ++ 10 ∷ r ≡ ys ++ 10 ∷ s → Cut xs ys r s
cut-plain xs ys r s p q e =
    let c = cut (λ b. b == 10) xs ys (10 ∷ r) (10 ∷ s) (not-true _ p) (not-true _ q) refl refl e in
    let rest = c.rest in
    record { same = c.same; rest = cc }

pub cut-place : (p q : Printed) (r s : List ℕ) → ends_field is_no_digit r ≡ true → ends_field is_no_digit s ≡ true → place_text p ++ r ≡ place_text q ++ s → Cut p q r s
cut-place p q r s h k e =
    let apart : numeral p.file ++ (58 ∷ (numeral p.position.line ++ (58 ∷ (numeral p.position.column ++ r)))) ≡ numeral q.file ++ (58 ∷ (numeral q.position.line ++ (58 ∷ (numeral q.position.column ++ s)))) = simp append_assoc at e in
    let files = cut-number p.file q.file (58 ∷ (numeral p.position.line ++ (58 ∷ (numeral p.position.column ++ r)))) (58 ∷ (numeral q.position.line ++ (58 ∷ (numeral q.position.column ++ s)))) refl refl apart in
    let after_file = files.rest in
    let lines = cut-number p.position.line q.position.line (58 ∷ (numeral p.position.column ++ r)) (58 ∷ (numeral q.position.column ++ s)) refl refl cc in
    let after_line = lines.rest in
    let columns = cut-number p.position.column q.position.column r s h k cc in
    record {
      same = λ i. record { file = files.same i; position = record { line = lines.same i; column = columns.same i } };
      rest = columns.rest;
    }

-- the choices up to the end of the line
pub choices_end : (os : List (List ℕ × ℕ)) (r : List ℕ) → ends_field is_no_digit (flat_map choice_text os ++ 10 ∷ r) ≡ true
choices_end [] r = refl
choices_end (o ∷ os) r = refl

pub choices_word : (os : List (List ℕ × ℕ)) (r : List ℕ) → ends_field is_wordless (flat_map choice_text os ++ 10 ∷ r) ≡ true
choices_word [] r = refl
choices_word (o ∷ os) r = refl

abbrev pub is_clear_choice : List ℕ × ℕ → Bool
is_clear_choice choice = is_word choice.0 && not (list_any (λ b. b == 58) choice.0)

pub cut-choices : (os ps : List (List ℕ × ℕ)) (r s : List ℕ) → list_all is_clear_choice os ≡ true → list_all is_clear_choice ps ≡ true
    → flat_map choice_text os ++ 10 ∷ r ≡ flat_map choice_text ps ++ 10 ∷ s → Cut os ps r s
cut-choices [] [] r s p q e = record { same = refl; rest = cc }
cut-choices [] (y ∷ ys) r s p q e = cc
cut-choices (x ∷ xs) [] r s p q e = cc
cut-choices (x ∷ xs) (y ∷ ys) r s p q e =
    let a = and_parts (is_clear_choice x) (list_all is_clear_choice xs) p in
    let b = and_parts (is_clear_choice y) (list_all is_clear_choice ys) q in
    let more_x : List ℕ = flat_map choice_text xs ++ 10 ∷ r in
    let more_y : List ℕ = flat_map choice_text ys ++ 10 ∷ s in
    let apart : 32 ∷ (x.0 ++ (58 ∷ (numeral x.1 ++ (flat_map choice_text xs ++ 10 ∷ r)))) ≡ 32 ∷ (y.0 ++ (58 ∷ (numeral y.1 ++ (flat_map choice_text ys ++ 10 ∷ s)))) = simp append_assoc at e in
    let texts = cut (λ b. b == 58) x.0 y.0 (58 ∷ (numeral x.1 ++ more_x)) (58 ∷ (numeral y.1 ++ more_y))
    (not-true _ (and_parts (is_word x.0) _ a.0).1) (not-true _ (and_parts (is_word y.0) _ b.0).1) refl refl cc in
    let after_text = texts.rest in
    let ids = cut-number x.1 y.1 more_x more_y (choices_end xs r) (choices_end ys s) cc in
    let more = cut-choices xs ys r s a.1 b.1 ids.rest in
    let first : x ≡ y = λ i. (texts.same i, ids.same i) in
    let others = more.same in
    record { same = cc; rest = more.rest }

-- lines of two kinds begin with two letters
pub other_letter : (letter : ℕ) {xs ys : List ℕ} {P : Type 0} → ends_field (λ b. b == letter) xs ≡ true → ends_field (λ b. b == letter) ys ≡ false → xs ≡ ys → P
other_letter letter h k e = absurd (true≢false (sym h ∙ (ap (ends_field (λ b. b == letter)) e ∙ k)))

-- the children up to the end of the line
children_end : (children r : List ℕ) → ends_field is_no_digit (flat_map child_text children ++ 10 ∷ r) ≡ true
children_end [] r = refl
children_end (child ∷ children) r = refl

cut-children : (xs ys r s : List ℕ) → flat_map child_text xs ++ 10 ∷ r ≡ flat_map child_text ys ++ 10 ∷ s → Cut xs ys r s
cut-children [] [] r s e = record { same = refl; rest = cc }
cut-children [] (y ∷ ys) r s e = cc
cut-children (x ∷ xs) [] r s e = cc
cut-children (x ∷ xs) (y ∷ ys) r s e =
    let apart : 32 ∷ (numeral x ++ (flat_map child_text xs ++ 10 ∷ r)) ≡ 32 ∷ (numeral y ++ (flat_map child_text ys ++ 10 ∷ s)) = simp append_assoc at e in
    let numbers = cut-number x y (flat_map child_text xs ++ 10 ∷ r) (flat_map child_text ys ++ 10 ∷ s) (children_end xs r) (children_end ys s) cc in
    let more = cut-children xs ys r s numbers.rest in
    record { same = λ i. numbers.same i ∷ more.same i; rest = more.rest }

-- the branches up to the end of the line
branches_end : (branches : List (ℕ × ℕ)) (r : List ℕ) → ends_field is_no_digit (flat_map branch_text branches ++ 10 ∷ r) ≡ true
branches_end [] r = refl
branches_end (branch ∷ branches) r = refl

cut-branches : (xs ys : List (ℕ × ℕ)) (r s : List ℕ) → flat_map branch_text xs ++ 10 ∷ r ≡ flat_map branch_text ys ++ 10 ∷ s → Cut xs ys r s
cut-branches [] [] r s e = record { same = refl; rest = cc }
cut-branches [] (y ∷ ys) r s e = cc
cut-branches (x ∷ xs) [] r s e = cc
cut-branches (x ∷ xs) (y ∷ ys) r s e =
    let more_x : List ℕ = flat_map branch_text xs ++ 10 ∷ r in
    let more_y : List ℕ = flat_map branch_text ys ++ 10 ∷ s in
    let apart : 32 ∷ (numeral x.0 ++ (58 ∷ (numeral x.1 ++ (flat_map branch_text xs ++ 10 ∷ r)))) ≡ 32 ∷ (numeral y.0 ++ (58 ∷ (numeral y.1 ++ (flat_map branch_text ys ++ 10 ∷ s)))) = simp append_assoc at e in
    let conditions = cut-number x.0 y.0 (58 ∷ (numeral x.1 ++ more_x)) (58 ∷ (numeral y.1 ++ more_y)) refl refl cc in
    let after_condition = conditions.rest in
    let parts = cut-number x.1 y.1 more_x more_y (branches_end xs r) (branches_end ys s) cc in
    let more = cut-branches xs ys r s parts.rest in
    record { same = λ i. (conditions.same i, parts.same i) ∷ more.same i; rest = more.rest }

-- no number begins with the sign of a text without a tree
no_root : (number : ℕ) (r s : List ℕ) {P : Type 0} → 45 ∷ r ≡ numeral number ++ 10 ∷ s → P
no_root number r s e = other_letter 45 refl refl (cut is_no_digit [] (numeral number) (45 ∷ r) (10 ∷ s) refl (numeral-digits number) refl refl e).rest

cut-root_text : (x y : Option ℕ) (r s : List ℕ) → root_text x ++ 10 ∷ r ≡ root_text y ++ 10 ∷ s → Cut x y r s
cut-root_text None None r s e = record { same = refl; rest = cc }
cut-root_text None (Some n) r s e = no_root n (10 ∷ r) s e
cut-root_text (Some m) None r s e = no_root m (10 ∷ s) r (sym e)
cut-root_text (Some m) (Some n) r s e =
    let numbers = cut-number m n (10 ∷ r) (10 ∷ s) refl refl e in
    let after_number = numbers.rest in
    record { same = ap Some numbers.same; rest = cc }

-- the causes in the order of their codes
causes : List Cause
causes =
    NotFound ∷ FileTooLarge ∷ UnterminatedComment ∷ BadNesting ∷ BadDirective ∷ BadDefine ∷ Redefined ∷ ProtectedName ∷ BadIf ∷ IfDivision ∷ IfOverflow ∷ IfShift
    ∷ DefinedFromMacro ∷ BadInclude ∷ IncludeDepth ∷ ErrorDirective ∷ UnterminatedCall ∷ WrongArguments ∷ BadPaste ∷ BadStringize ∷ BadToken ∷ Syntax ∷ BadPragma ∷ []

cause-code : (cause : Cause) → get_or causes (code_of cause - 1) NotFound ≡ cause
unfolding causes
cause-code NotFound = refl
cause-code _ = refl

pub code_of-injective : (c d : Cause) → code_of c ≡ code_of d → c ≡ d
code_of-injective c d e = sym (cause-code c) ∙ (ap (λ code. get_or causes (code - 1) NotFound) e ∙ cause-code d)

-- each kind of line with what follows it
pub cut-file : (m n : ℕ) (xs ys r s : List ℕ) → has_no_newline xs ≡ true → has_no_newline ys ≡ true → line_text (file_line m xs) ++ r ≡ line_text (file_line n ys) ++ s → Cut (file_line m xs) (file_line n ys) r s
cut-file m n xs ys r s p q e =
    let apart : 115 ∷ 32 ∷ (numeral m ++ (32 ∷ (xs ++ (10 ∷ r)))) ≡ 115 ∷ 32 ∷ (numeral n ++ (32 ∷ (ys ++ (10 ∷ s)))) = simp append_assoc at e in
    let ids = cut-number m n (32 ∷ (xs ++ (10 ∷ r))) (32 ∷ (ys ++ (10 ∷ s))) refl refl cc in
    let after_id = ids.rest in
    let names = cut-plain xs ys r s p q cc in
    record { same = λ i. file_line (ids.same i) (names.same i); rest = names.rest }

token-fields : (id place spelling r : List ℕ)
    → (codes "t " ++ id ++ codes " " ++ place ++ codes " " ++ spelling ++ codes "\n") ++ r ≡ 116 ∷ 32 ∷ (id ++ (32 ∷ (place ++ (32 ∷ (spelling ++ (10 ∷ r))))))
token-fields id place spelling r = simp append_assoc

pub cut-token : (m n : ℕ) (p q : Printed) (xs ys r s : List ℕ) → has_no_newline xs ≡ true → has_no_newline ys ≡ true
    → line_text (token_line m p xs) ++ r ≡ line_text (token_line n q ys) ++ s → Cut (token_line m p xs) (token_line n q ys) r s
cut-token m n p q xs ys r s h k e =
    let apart = sym (token-fields (numeral m) (place_text p) xs r) ∙ (e ∙ token-fields (numeral n) (place_text q) ys s) in
    let ids = cut-number m n (32 ∷ (place_text p ++ (32 ∷ (xs ++ (10 ∷ r))))) (32 ∷ (place_text q ++ (32 ∷ (ys ++ (10 ∷ s))))) refl refl cc in
    let after_id = ids.rest in
    let places = cut-place p q (32 ∷ (xs ++ (10 ∷ r))) (32 ∷ (ys ++ (10 ∷ s))) refl refl cc in
    let after_place = places.rest in
    let spellings = cut-plain xs ys r s h k cc in
    record { same = λ i. token_line (ids.same i) (places.same i) (spellings.same i); rest = spellings.rest }

leaf-fields : (id place spelling r : List ℕ)
    → (codes "l " ++ id ++ codes " " ++ place ++ codes " " ++ spelling ++ codes "\n") ++ r ≡ 108 ∷ 32 ∷ (id ++ (32 ∷ (place ++ (32 ∷ (spelling ++ (10 ∷ r))))))
leaf-fields id place spelling r = simp append_assoc

cut-leaf : (m n : ℕ) (p q : Printed) (xs ys r s : List ℕ) → has_no_newline xs ≡ true → has_no_newline ys ≡ true
    → line_text (leaf_line m p xs) ++ r ≡ line_text (leaf_line n q ys) ++ s → Cut (leaf_line m p xs) (leaf_line n q ys) r s
cut-leaf m n p q xs ys r s h k e =
    let apart = sym (leaf-fields (numeral m) (place_text p) xs r) ∙ (e ∙ leaf-fields (numeral n) (place_text q) ys s) in
    let ids = cut-number m n (32 ∷ (place_text p ++ (32 ∷ (xs ++ (10 ∷ r))))) (32 ∷ (place_text q ++ (32 ∷ (ys ++ (10 ∷ s))))) refl refl cc in
    let after_id = ids.rest in
    let places = cut-place p q (32 ∷ (xs ++ (10 ∷ r))) (32 ∷ (ys ++ (10 ∷ s))) refl refl cc in
    let after_place = places.rest in
    let spellings = cut-plain xs ys r s h k cc in
    record { same = λ i. leaf_line (ids.same i) (places.same i) (spellings.same i); rest = spellings.rest }

cut-node : (m n productions others : ℕ) (xs ys r s : List ℕ) → line_text (node_line m productions xs) ++ r ≡ line_text (node_line n others ys) ++ s
    → Cut (node_line m productions xs) (node_line n others ys) r s
cut-node m n production other xs ys r s e =
    let more_x : List ℕ = flat_map child_text xs ++ 10 ∷ r in
    let more_y : List ℕ = flat_map child_text ys ++ 10 ∷ s in
    let apart : 110 ∷ 32 ∷ (numeral m ++ (32 ∷ (numeral production ++ (flat_map child_text xs ++ 10 ∷ r)))) ≡ 110 ∷ 32 ∷ (numeral n ++ (32 ∷ (numeral other ++ (flat_map child_text ys ++ 10 ∷ s)))) = simp append_assoc at e in
    let ids = cut-number m n (32 ∷ (numeral production ++ more_x)) (32 ∷ (numeral other ++ more_y)) refl refl cc in
    let after_id = ids.rest in
    let productions = cut-number production other more_x more_y (children_end xs r) (children_end ys s) cc in
    let children = cut-children xs ys r s productions.rest in
    record { same = λ i. node_line (ids.same i) (productions.same i) (children.same i); rest = children.rest }

cut-choice : (m n : ℕ) (xs ys : List (ℕ × ℕ)) (r s : List ℕ) → line_text (choice_line m xs) ++ r ≡ line_text (choice_line n ys) ++ s → Cut (choice_line m xs) (choice_line n ys) r s
cut-choice m n xs ys r s e =
    let apart : 120 ∷ 32 ∷ (numeral m ++ (flat_map branch_text xs ++ 10 ∷ r)) ≡ 120 ∷ 32 ∷ (numeral n ++ (flat_map branch_text ys ++ 10 ∷ s)) = simp append_assoc at e in
    let ids = cut-number m n (flat_map branch_text xs ++ 10 ∷ r) (flat_map branch_text ys ++ 10 ∷ s) (branches_end xs r) (branches_end ys s) cc in
    let branches = cut-branches xs ys r s ids.rest in
    record { same = λ i. choice_line (ids.same i) (branches.same i); rest = branches.rest }

cut-root : (x y : Option ℕ) (r s : List ℕ) → line_text (root_line x) ++ r ≡ line_text (root_line y) ++ s → Cut (root_line x) (root_line y) r s
cut-root x y r s e =
    let apart : 114 ∷ 111 ∷ 111 ∷ 116 ∷ 32 ∷ (root_text x ++ (10 ∷ r)) ≡ 114 ∷ 111 ∷ 111 ∷ 116 ∷ 32 ∷ (root_text y ++ (10 ∷ s)) = simp append_assoc at e in
    let roots = cut-root_text x y r s cc in
    record { same = ap root_line roots.same; rest = roots.rest }

fault-fields : (id code name place r : List ℕ)
    → (codes "f " ++ id ++ codes " " ++ code ++ codes " " ++ name ++ codes " " ++ place ++ codes "\n") ++ r ≡ 102 ∷ 32 ∷ (id ++ (32 ∷ (code ++ (32 ∷ (name ++ (32 ∷ (place ++ (10 ∷ r))))))))
fault-fields id code name place r = simp append_assoc

pub cut-fault : (m n : ℕ) (c d : Cause) (p q : Printed) (r s : List ℕ) → line_text (fault_line m c p) ++ r ≡ line_text (fault_line n d q) ++ s → Cut (fault_line m c p) (fault_line n d q) r s
cut-fault m n c d p q r s e =
    let apart = sym (fault-fields (numeral m) (numeral (code_of c)) (name_of c) (place_text p) r) ∙ (e ∙ fault-fields (numeral n) (numeral (code_of d)) (name_of d) (place_text q) s) in
    let end_p : List ℕ = 32 ∷ (place_text p ++ (10 ∷ r)) in
    let end_q : List ℕ = 32 ∷ (place_text q ++ (10 ∷ s)) in
    let ids = cut-number m n (32 ∷ (numeral (code_of c) ++ (32 ∷ (name_of c ++ end_p)))) (32 ∷ (numeral (code_of d) ++ (32 ∷ (name_of d ++ end_q)))) refl refl cc in
    let after_id = ids.rest in
    let codes = cut-number (code_of c) (code_of d) (32 ∷ (name_of c ++ end_p)) (32 ∷ (name_of d ++ end_q)) refl refl cc in
    let after_code = codes.rest in
    let cause : c ≡ d = code_of-injective c d codes.same in
    let names : name_of c ++ end_p ≡ name_of d ++ end_q = cc in
    let after_name : end_p ≡ end_q = append_cancel_left (name_of c) end_p end_q (names ∙ ap (λ k. name_of k ++ end_q) (sym cause)) in
    let places = cut-place p q (10 ∷ r) (10 ∷ s) refl refl cc in
    let after_place = places.rest in
    record { same = λ i. fault_line (ids.same i) (cause i) (places.same i); rest = cc }

pub cut-condition : (m n : ℕ) (xs ys : List ℕ) (os ps : List (List ℕ × ℕ)) (r s : List ℕ) → is_clear (condition_line m xs os) ≡ true → is_clear (condition_line n ys ps) ≡ true
    → line_text (condition_line m xs os) ++ r ≡ line_text (condition_line n ys ps) ++ s → Cut (condition_line m xs os) (condition_line n ys ps) r s
cut-condition m n xs ys os ps r s h k e =
    let a = and_parts (is_word xs) (list_all is_clear_choice os) h in
    let b = and_parts (is_word ys) (list_all is_clear_choice ps) k in
    let end_os : List ℕ = flat_map choice_text os ++ 10 ∷ r in
    let end_ps : List ℕ = flat_map choice_text ps ++ 10 ∷ s in
    let apart : 99 ∷ 32 ∷ (numeral m ++ (32 ∷ (xs ++ (flat_map choice_text os ++ 10 ∷ r)))) ≡ 99 ∷ 32 ∷ (numeral n ++ (32 ∷ (ys ++ (flat_map choice_text ps ++ 10 ∷ s)))) = simp append_assoc at e in
    let ids = cut-number m n (32 ∷ (xs ++ end_os)) (32 ∷ (ys ++ end_ps)) refl refl cc in
    let after_id = ids.rest in
    let names = cut is_wordless xs ys end_os end_ps (not-true _ a.0) (not-true _ b.0) (choices_word os r) (choices_word ps s) cc in
    let choices = cut-choices os ps r s a.1 b.1 names.rest in
    record { same = λ i. condition_line (ids.same i) (names.same i) (choices.same i); rest = choices.rest }

pub cut-line : (x y : TextLine) (r s : List ℕ) → is_clear x ≡ true → is_clear y ≡ true → line_text x ++ r ≡ line_text y ++ s → Cut x y r s
cut-line (condition_line m xs os) (condition_line n ys ps) r s h k e = cut-condition m n xs ys os ps r s h k e
cut-line (condition_line m xs os) y r s h k e = other_letter 99 refl refl e
cut-line (file_line m xs) (file_line n ys) r s h k e = cut-file m n xs ys r s h k e
cut-line (file_line m xs) y r s h k e = other_letter 115 refl refl e
cut-line (token_line m p xs) (token_line n q ys) r s h k e = cut-token m n p q xs ys r s h k e
cut-line (token_line m p xs) y r s h k e = other_letter 116 refl refl e
cut-line (leaf_line m p xs) (leaf_line n q ys) r s h k e = cut-leaf m n p q xs ys r s h k e
cut-line (leaf_line m p xs) y r s h k e = other_letter 108 refl refl e
cut-line (node_line m production xs) (node_line n other ys) r s h k e = cut-node m n production other xs ys r s e
cut-line (node_line m production xs) y r s h k e = other_letter 110 refl refl e
cut-line (choice_line m xs) (choice_line n ys) r s h k e = cut-choice m n xs ys r s e
cut-line (choice_line m xs) y r s h k e = other_letter 120 refl refl e
cut-line (root_line x) (root_line y) r s h k e = cut-root x y r s e
cut-line (root_line x) y r s h k e = other_letter 114 refl refl e
cut-line (fault_line m c p) (fault_line n d q) r s h k e = cut-fault m n c d p q r s e
cut-line (fault_line m c p) y r s h k e = other_letter 102 refl refl e
cut-line end_line end_line r s h k e = record { same = refl; rest = cc }
cut-line end_line y r s h k e = other_letter 101 refl refl e

pub line-nonempty : (x : TextLine) (r : List ℕ) {P : Type 0} → line_text x ++ r ≡ [] → P
line-nonempty (condition_line m xs os) r e = cc
line-nonempty x r e = cc

pub same_lines : (xs ys : List TextLine) → list_all is_clear xs ≡ true → list_all is_clear ys ≡ true → concat (map line_text xs) ≡ concat (map line_text ys) → xs ≡ ys
same_lines [] [] h k e = refl
same_lines [] (y ∷ ys) h k e = line-nonempty y (concat (map line_text ys)) (sym e)
same_lines (x ∷ xs) [] h k e = line-nonempty x (concat (map line_text xs)) e
same_lines (x ∷ xs) (y ∷ ys) h k e =
    let a = and_parts (is_clear x) (list_all is_clear xs) h in
    let b = and_parts (is_clear y) (list_all is_clear ys) k in
    let first = cut-line x y (concat (map line_text xs)) (concat (map line_text ys)) a.0 b.0 e in
    let line = first.same in
    let others = same_lines xs ys a.1 b.1 first.rest in
    cc

-- ---- the answer

-- what says the same is one answer
one_faults : (fs gs : List (Condition × Fault)) → map fault_said fs ++ end_said ∷ [] ≡ map fault_said gs ++ end_said ∷ [] → fs ≡ gs
one_faults [] [] e = refl
one_faults [] (g ∷ gs) e = cc
one_faults (f ∷ fs) [] e = cc
one_faults (f ∷ fs) (g ∷ gs) e =
    let first : f ≡ g = cc in
    let others = one_faults fs gs cc in
    λ i. first i ∷ others i

one_tokens : (xs ys : List (Condition × Shown)) (fs gs : List (Condition × Fault)) → map token_said xs ++ (map fault_said fs ++ end_said ∷ []) ≡ map token_said ys ++ (map fault_said gs ++ end_said ∷ []) → (xs ≡ ys) × (fs ≡ gs)
one_tokens [] [] fs gs e = (refl, one_faults fs gs e)
one_tokens [] (y ∷ ys) [] gs e = cc
one_tokens [] (y ∷ ys) (f ∷ fs) gs e = cc
one_tokens (x ∷ xs) [] fs [] e = cc
one_tokens (x ∷ xs) [] fs (g ∷ gs) e = cc
one_tokens (x ∷ xs) (y ∷ ys) fs gs e =
    let first : x ≡ y = cc in
    let others = one_tokens xs ys fs gs cc in
    (λ i. first i ∷ others.0 i, others.1)

one_parts : (next : ℕ) (xs ys : List Part) (root other : Option ℕ) (r s : List Said) → parts_said next xs ++ root_said root ∷ r ≡ parts_said next ys ++ root_said other ∷ s → (xs ≡ ys) × ((root ≡ other) × (r ≡ s))
one_parts next [] [] root other r s e = let roots : root ≡ other = cc in let rest : r ≡ s = cc in (refl, (roots, rest))
one_parts next [] (y ∷ ys) root other r s e = cc
one_parts next (x ∷ xs) [] root other r s e = cc
one_parts next (x ∷ xs) (y ∷ ys) root other r s e =
    let first : x ≡ y = cc in
    let others = one_parts (next + 1) xs ys root other r s cc in
    (λ i. first i ∷ others.0 i, others.1)

one_answer : (kind : BodyKind) (a b : Answer kind) → answer_said a ≡ answer_said b → a ≡ b
one_answer token_list a b e =
    let both = one_tokens a.body b.body a.faults b.faults e in
    λ i. record { body = both.0 i; faults = both.1 i }
one_answer tree_parts a b e =
    let apart : parts_said 0 a.body.parts ++ root_said a.body.root ∷ (map fault_said a.faults ++ end_said ∷ []) ≡ parts_said 0 b.body.parts ++ root_said b.body.root ∷ (map fault_said b.faults ++ end_said ∷ []) = simp append_assoc at e in
    let body = one_parts 0 a.body.parts b.body.parts a.body.root b.body.root (map fault_said a.faults ++ end_said ∷ []) (map fault_said b.faults ++ end_said ∷ []) apart in
    let faults = one_faults a.faults b.faults body.1.1 in
    λ i. record { body = record { parts = body.0 i; root = body.1.0 i }; faults = faults i }

pub reads-unique : {kind : BodyKind} {space : Space} {p q : List (List ℕ)} {a b : Answer kind} → concat p ≡ concat q → Reads space p a → Reads space q b → a ≡ b
reads-unique {kind} {space} {p} {q} {a} {b} e x y =
    let lines : x.lines ≡ y.lines = same_lines x.lines y.lines x.clear y.clear (ap concat (sym x.written) ∙ (e ∙ ap concat y.written)) in
    let reading = same_Some x.reading y.reading (sym x.read ∙ (ap (read_lines space nothing_read) lines ∙ y.read)) in
    one_answer kind a b (sym x.answer_is ∙ (ap (λ (r : Reading). r.said) reading ∙ y.answer_is))

-- ---- the result

-- a part is one tree at a configuration
module _ (parts : List Part) (config : List ℕ) where
  mutual
    tree_unique : (id : ℕ) (t u : ShownTree) → TreeAt parts config id t → TreeAt parts config id u → t ≡ u
    tree_unique id _ _ (leaf_at _ shown at) (leaf_at _ other at_too) =
        let same : leaf_part shown ≡ leaf_part other = same_Some _ _ (sym at ∙ at_too) in
        let one : shown ≡ other = cc in
        ap shown_leaf one
    tree_unique id _ _ (leaf_at _ shown at) (node_at _ production children forest at_too rest) = let same : leaf_part shown ≡ node_part production children = same_Some _ _ (sym at ∙ at_too) in absurd (cc)
    tree_unique id _ _ (leaf_at _ shown at) (choice_at _ child branches tree at_too one rest) = let same : leaf_part shown ≡ choice_part branches = same_Some _ _ (sym at ∙ at_too) in absurd (cc)
    tree_unique id _ _ (node_at _ production children forest at rest) (leaf_at _ shown at_too) = let same : node_part production children ≡ leaf_part shown = same_Some _ _ (sym at ∙ at_too) in absurd (cc)
    tree_unique id _ _ (node_at _ production children forest at rest) (node_at _ number others more at_too rest_too) =
        let same : node_part production children ≡ node_part number others = same_Some _ _ (sym at ∙ at_too) in
        let productions : production ≡ number = cc in
        let trees : children ≡ others = cc in
        let forests = forest_unique children others forest more trees rest rest_too in
        λ i. shown_node (productions i) (forests i)
    tree_unique id _ _ (node_at _ production children forest at rest) (choice_at _ child branches tree at_too one rest_too) =
        let same : node_part production children ≡ choice_part branches = same_Some _ _ (sym at ∙ at_too) in absurd (cc)
    tree_unique id t _ (choice_at _ child branches _ at one rest) (leaf_at _ shown at_too) = let same : choice_part branches ≡ leaf_part shown = same_Some _ _ (sym at ∙ at_too) in absurd (cc)
    tree_unique id t _ (choice_at _ child branches _ at one rest) (node_at _ production children forest at_too rest_too) =
        let same : choice_part branches ≡ node_part production children = same_Some _ _ (sym at ∙ at_too) in absurd (cc)
    tree_unique id t u (choice_at _ child branches _ at one rest) (choice_at _ other branches_too _ at_too one_too rest_too) =
        let same : choice_part branches ≡ choice_part branches_too = same_Some _ _ (sym at ∙ at_too) in
        let branches_are : branches ≡ branches_too = cc in
        let children : child ∷ [] ≡ other ∷ [] = sym one ∙ ap (λ bs. project bs config) branches_are ∙ one_too in
        let first : child ≡ other = cc in
        tree_unique child t u rest (subst (λ n. TreeAt parts config n u) (sym first) rest_too)

    forest_unique : (children others : List ℕ) (forest more : ShownForest) → children ≡ others → TreesAt parts config children forest → TreesAt parts config others more → forest ≡ more
    forest_unique _ _ _ _ same none_at none_at = refl
    forest_unique _ _ _ _ same none_at (more_at child children tree forest first rest) = absurd (cc)
    forest_unique _ _ _ _ same (more_at child children tree forest first rest) none_at = absurd (cc)
    forest_unique _ _ _ _ same (more_at child children tree forest first rest) (more_at other others tree_too forest_too first_too rest_too) =
        let heads : child ≡ other = cc in
        let tails : children ≡ others = cc in
        let trees = tree_unique child tree tree_too first (subst (λ n. TreeAt parts config n tree_too) (sym heads) first_too) in
        let forests = forest_unique children others forest forest_too tails rest rest_too in
        λ i. more_shown (trees i) (forests i)

one_body : (kind : BodyKind) (body : Body kind) (config : List ℕ) (x y : BodyAt kind) → IsBodyAt kind body config x → IsBodyAt kind body config y → x ≡ y
one_body token_list items config x y is is_too = sym is ∙ is_too
one_body tree_parts body config x y (root, (is, at)) (other, (is_too, at_too)) =
    let same = same_Some other root (sym is_too ∙ is) in
    tree_unique body.parts config root x y at (subst (λ n. TreeAt body.parts config n y) same at_too)

-- no fault, or one, but not both, and not two
pub result-unique : {kind : BodyKind} (answer : Answer kind) (config : List ℕ) (r s : Result (BodyAt kind) Fault) → At answer config r → At answer config s → r ≡ s
result-unique {kind} answer config r s (accepted body none is) (accepted other none_too is_too) = ap Ok (one_body kind answer.body config body other is is_too)
result-unique answer config r s (accepted body none is) (refused fault one) = let no : [] ≡ fault ∷ [] = sym none ∙ one in cc
result-unique answer config r s (refused fault one) (accepted body none is) = let no : [] ≡ fault ∷ [] = sym none ∙ one in cc
result-unique answer config r s (refused fault one) (refused other one_too) =
    let faults : fault ∷ [] ≡ other ∷ [] = sym one ∙ one_too in
    let same : fault ≡ other = cc in
    ap Err same
