-- The tree of a text that is accepted is a derivation of the text.
use Rattle.std.proofs.Common.{◌≡◌, ℕ, zero, suc, ◌<◌, ◌≤◌, ◌+◌, ◌-◌, ◌==◌, Bool, true, false, List, [], ◌∷◌, ◌++◌, length, take, drop, slice_get, option_map, option_and_then, Option, Some, None, Ok, Err, refl, sym, ap, ◌∙◌, subst, arith, if◌then◌else◌}
use Rattle.std.specs.List.{list_all}
use Rattle.std.specs.Prelude.{is_some, MatchOption, IsTrue, nat_lt}
use Rattle.std.proofs.lemmas.List.{append-nil, append_assoc, drop-map, length-map}
use Rattle.std.proofs.lemmas.Bool.{ltb-true}
use Rattle.std.proofs.lemmas.Option.{same_Some, none-some}
use Rattle.c11_parsing.specs.Bindings.{NameKind, typedef, innermost}
use Rattle.c11_parsing.specs.Derives.{Derives, DerivesAll, token, silent, passed, made, nothing, both, DerivesText, IsInText, IsParserOf}
use Rattle.c11_parsing.specs.LR.{Frame, Run, Phase, reading, looking, named, Point, on, answered, Reaches, here, later, LR, start, step, step_in, looked, acted, reduced, reduced_to, shifted, classified, kind_shifted, kind_of, kind_in, next_terminal, tree_of, trees_of, whole_tree, top}
use Rattle.c11_parsing.specs.Parser.{Parser, is_silent}
use Rattle.c11_parsing.specs.Trees.{Tree, leaf, node, Forest, no_trees, with_tree, leaves, leaves_of}
use Rattle.c11_parsing.specs.Classes.{states_of}
use Rattle.lr_tables.specs.Grammar.{Production, symbol_number, is_known, left_in}
use Rattle.lr_tables.specs.Paths as paths
use Rattle.lr_tables.specs.Paths.{Path, lowest, above}
use Rattle.lr_tables.specs.Tables.{IsGoto, NoGoto, CanReduce, IsAction}
use Rattle.lr_tables.specs.declared.grammar.Action.{Action}
use Rattle.lr_tables.specs.declared.grammar.Action.TheVariants.{Shift, Reduce}
use Rattle.lr_tables.specs.declared.grammar.Entry.{Entry}
use Rattle.lr_tables.specs.declared.grammar.Entry.TheVariants.{Left, Right}
use Rattle.lr_tables.specs.declared.grammar.Grammar.{Grammar}
use Rattle.lr_tables.specs.declared.grammar.Symbol.{Symbol}
use Rattle.lr_tables.proofs.Members.{passes, slice_some}
use Rattle.lr_tables.proofs.Productions.{can-reduce, can-shift, left_at, production_of, right_side, symbols_of, whole_text}
use Rattle.lr_tables.proofs.Stacks.{reduces, drop_path}
use Rattle.sc_model.specs.Token.{Place, Token}

-- ---- the leaves of a derivation

mutual
  leaves-derived : (m : Parser) (x : ℕ) (tree : Option Tree) (ts : List Token) → Derives m x tree ts → (t : Tree) → tree ≡ Some t → leaves t ≡ ts
  leaves-derived m x _ _ (token _ t is) u e = ap leaves (sym (same_Some (leaf t) u e))
  leaves-derived m x _ _ (silent _ is) u e = absurd (none-some u e)
  leaves-derived m x tree ts (passed n p y _ _ at not_two right derives) u e = leaves-derived m (symbol_number m.terminals y) tree ts derives u e
  leaves-derived m x _ ts (made n p children _ at one all) u e =
      ap leaves (sym (same_Some (node (n + 1) children) u e)) ∙ leaves-all m p.right children ts all

  no-leaves : (m : Parser) (x : ℕ) (tree : Option Tree) (ts : List Token) → Derives m x tree ts → tree ≡ None → ts ≡ []
  no-leaves m x _ _ (token _ t is) e = absurd (none-some (leaf t) (sym e))
  no-leaves m x _ _ (silent _ is) e = refl
  no-leaves m x tree ts (passed n p y _ _ at not_two right derives) e = no-leaves m (symbol_number m.terminals y) tree ts derives e
  no-leaves m x _ ts (made n p children _ at one all) e = absurd (none-some (node (n + 1) children) (sym e))

  leaves-all : (m : Parser) (xs : List Symbol) (forest : Forest) (ts : List Token) → DerivesAll m xs forest ts → leaves_of forest ≡ ts
  leaves-all m _ _ _ nothing = refl
  leaves-all m _ _ _ (both x xs None forest ts us derives all) =
      leaves-all m xs forest us all ∙ ap (λ vs. vs ++ us) (sym (no-leaves m (symbol_number m.terminals x) None ts derives refl))
  leaves-all m _ _ _ (both x xs (Some tree) forest ts us derives all) =
      ap (λ vs. vs ++ leaves_of forest) (leaves-derived m (symbol_number m.terminals x) (Some tree) ts derives tree refl)
      ∙ ap (λ vs. ts ++ vs) (leaves-all m xs forest us all)

-- ---- what the frames of a stack derive

-- each frame has a derivation of its symbol; the top comes first
data Stand (m : Parser) : List Frame → List ℕ → List Token → Type 0 where
  bottom : Stand m [] [] []
  on_top : (frame : Frame) (x : ℕ) (stack : List Frame) (symbols : List ℕ) (ts us : List Token) → (x ≡ m.end → ⊥) → Derives m x frame.tree us
      → Stand m stack symbols ts → Stand m (frame ∷ stack) (x ∷ symbols) (ts ++ us)

-- the top frames derive symbols of a right side before others that are derived
record Gathered (m : Parser) (right : List Symbol) (n : ℕ) (stack : List Frame) (symbols : List ℕ) (done : List Token) (forest : Forest) (us : List Token) : Type 0 where
  below : List Token
  inside : List Token
  split : done ≡ below ++ inside
  all : DerivesAll m right (trees_of (take n stack) forest) (inside ++ us)
  rest : Stand m (drop n stack) (drop n symbols) below

drop-at : {A : Type 0} (xs : List A) (n : ℕ) (x : A) → slice_get xs n ≡ Some x → drop n xs ≡ x ∷ drop (suc n) xs
drop-at [] n x at = absurd (cc)
drop-at (y ∷ xs) zero x at = ap (λ z. z ∷ xs) (same_Some y x at)
drop-at (y ∷ xs) (suc n) x at = drop-at xs n x at

gather : (m : Parser) (right : List Symbol) (n : ℕ) (stack : List Frame) (symbols : List ℕ) (done : List Token) (forest : Forest) (us : List Token) → n ≤ length right → n ≤ length stack
    → Stand m stack symbols done → ((k j : ℕ) → k + suc j ≡ n → slice_get symbols k ≡ option_map (symbol_number m.terminals) (slice_get right j)) → DerivesAll m (drop n right) forest us
    → Gathered m right n stack symbols done forest us
gather m right zero stack symbols done forest us long high stand same all = record { below = done; inside = []; split = sym (append-nil done); all = all; rest = stand }
gather m right (suc n) _ _ _ forest us long high bottom same all = absurd (omega (arith, high))
gather m right (suc n) _ _ _ forest us long high (on_top frame x stack symbols ts vs apart derives stand) same all =
    let y = slice_some right n (omega (arith, long)) in
    let is : x ≡ symbol_number m.terminals y.0 = same_Some x (symbol_number m.terminals y.0) (same 0 n (omega arith) ∙ ap (option_map (symbol_number m.terminals)) y.1) in
    let more = both y.0 (drop (suc n) right) frame.tree forest vs us (subst (λ z. Derives m z frame.tree vs) is derives) all in
    let rest = gather m right n stack symbols ts (with_tree frame.tree forest) (vs ++ us) (omega (arith, long)) (omega (arith, high)) stand (λ k j is. same (suc k) j (omega (arith, is)))
    (subst (λ xs. DerivesAll m xs (with_tree frame.tree forest) (vs ++ us)) (sym (drop-at right n y.0 y.1)) more) in
    record {
      below = rest.below;
      inside = rest.inside ++ vs;
      split = ap (λ zs. zs ++ vs) rest.split ∙ append_assoc rest.below rest.inside vs;
      all = subst (DerivesAll m right (trees_of (take n stack) (with_tree frame.tree forest))) (sym (append_assoc rest.inside vs us)) rest.all;
      rest = rest.rest;
    }

drop-all : {A : Type 0} (xs : List A) → drop (length xs) xs ≡ []
drop-all [] = refl
drop-all (x ∷ xs) = drop-all xs

known-left : (terminals nonterminals : ℕ) (entries : List Entry) (i left n : ℕ) → IsTrue (list_all (is_known terminals nonterminals) entries) → left_at terminals entries i ≡ Some left
    → left ≡ terminals + n → n < nonterminals
known-left terminals nonterminals entries i left n known begins is = by (slice_get entries i) refl begins
  where
    by : (e : Option Entry) → slice_get entries i ≡ e → option_and_then (left_in terminals) e ≡ Some left → n < nonterminals
    by None at begins = absurd (none-some left begins)
    by (Some (Right x)) at begins = absurd (none-some left begins)
    by (Some (Left o mark)) at begins =
        let within : nat_lt o.0 nonterminals ≡ true = passes (is_known terminals nonterminals) entries i (Left o mark) known at in
        let same : o.0 ≡ n = omega (arith, same_Some (terminals + o.0) left begins, is) in
        subst (λ k. k < nonterminals) same (ltb-true o.0 nonterminals within)

module _ (g : Grammar) (m : Parser) (is : IsParserOf g m) where
  abbrev states : List (List ℕ)
  states = is.tables.states

  action-is : (s x : ℕ) → x < g.terminals → IsAction g states s x (m.tables.action s x)
  action-is s x below = subst (λ f. IsAction g states s x (f s x)) (sym is.action) (is.are_tables.action s x below)

  -- production 2 is not reduced, since the end is on no stack
  not_two : (p : ℕ) (production : Production) (x : Symbol) → slice_get m.productions (p - 1) ≡ Some production → production.right ≡ x ∷ [] → (symbol_number m.terminals x ≡ m.end → ⊥) → p - 1 ≡ 1 → ⊥
  not_two p production x at right apart two =
      let same : is.whole.no_text ≡ production = same_Some is.whole.no_text production (sym is.whole.second ∙ ap (slice_get m.productions) (sym two) ∙ at) in
      let rights : is.whole.end ∷ [] ≡ x ∷ [] = sym is.whole.no_right ∙ ap (λ (q : Production). q.right) same ∙ right in
      let ends : is.whole.end ≡ x = same_Some is.whole.end x (ap (λ xs. slice_get xs 0) rights) in
      apart (ap (symbol_number m.terminals) (sym ends) ∙ is.whole.is_end)

  -- the frames of a right side become the tree of its production
  reduced-frames : (p : ℕ) (production : Production) (right : List Symbol) (stack : List Frame) (symbols : List ℕ) (done : List Token) → 0 < p → slice_get m.productions (p - 1) ≡ Some production
      → production.right ≡ right → 0 < length right → length right ≤ length stack → Stand m stack symbols done
      → ((k j : ℕ) → k + suc j ≡ length right → slice_get symbols k ≡ option_map (symbol_number m.terminals) (slice_get right j))
      → record {
        below : List Token;
        inside : List Token;
        split : done ≡ below ++ inside;
        derives : Derives m (m.terminals + production.left) (tree_of p (take (length right) stack)) inside;
        rest : Stand m (drop (length right) stack) (drop (length right) symbols) below;
      }
  reduced-frames p production [] stack symbols done first at right some high stand same = absurd (omega (arith, some))
  reduced-frames p production (x ∷ []) _ _ _ first at right some high bottom same = absurd (omega (arith, high))
  reduced-frames p production (x ∷ []) _ _ _ first at right some high (on_top frame y stack symbols ts us apart derives stand) same =
      let number : y ≡ symbol_number m.terminals x = same_Some y (symbol_number m.terminals x) (same 0 0 (omega arith)) in
      record {
        below = ts;
        inside = us;
        split = refl;
        derives = passed (p - 1) production x frame.tree us at (not_two p production x at right (λ e. apart (number ∙ e))) right (subst (λ z. Derives m z frame.tree us) number derives);
        rest = stand;
      }
  reduced-frames p production (x ∷ (y ∷ more)) [] symbols done first at right some high stand same = absurd (omega (arith, high))
  reduced-frames p production (x ∷ (y ∷ more)) (one ∷ []) symbols done first at right some high stand same = absurd (omega (arith, high))
  reduced-frames p production (x ∷ (y ∷ more)) (one ∷ (two ∷ stack)) symbols done first at right some high stand same =
      let whole = x ∷ (y ∷ more) in
      let all = gather m whole (length whole) (one ∷ (two ∷ stack)) symbols done no_trees [] (omega arith) high stand same
      (subst (λ xs. DerivesAll m xs no_trees []) (sym (drop-all whole)) nothing) in
      record {
        below = all.below;
        inside = all.inside;
        split = all.split;
        derives = subst (λ n. Derives m (m.terminals + production.left) (Some (node n (trees_of (take (length whole) (one ∷ (two ∷ stack))) no_trees))) all.inside) (let e : p - 1 + 1 ≡ p = omega (arith, first) in e)
            (made (p - 1) production (trees_of (take (length whole) (one ∷ (two ∷ stack))) no_trees) all.inside at (λ single. absurd (omega (arith, single, ap length right)))
            (subst (λ xs. DerivesAll m xs (trees_of (take (length whole) (one ∷ (two ∷ stack))) no_trees) all.inside) (sym right)
            (subst (DerivesAll m whole (trees_of (take (length whole) (one ∷ (two ∷ stack))) no_trees)) (append-nil all.inside) all.all)));
        rest = all.rest;
      }

  -- ---- one step

  -- What is left to be read. Where the kind of a name is chosen next, the name stands there still.
  abbrev unread : Phase → List Token → List Token
  unread reading left = left
  unread looking left = left
  unread named left = drop 1 left

  -- The frames derive what was read of the text.
  record Reads (ts : List Token) (stack : List Frame) (left : List Token) : Type 0 where
    symbols : List ℕ
    path : Path g states (states_of stack) symbols
    done : List Token
    stand : Stand m stack symbols done
    text : done ++ left ≡ ts

  abbrev Along : List Token → Point → Type 0
  Along ts (on r) = Reads ts r.stack (unread r.phase r.left)
  Along ts (answered (Ok tree)) = Derives m (m.terminals + is.whole.some_text.left) (Some tree) ts
  Along ts (answered (Err fault)) = Unit {0}

  top-state : (stack : List Frame) → paths.top (states_of stack) ≡ top stack
  top-state [] = refl
  top-state (frame ∷ stack) = refl

  -- a terminal is shifted, with its tree
  push : (ts : List Token) (stack : List Frame) (left us rest : List Token) (state x : ℕ) (tree : Option Tree) → Reads ts stack left → IsGoto g states (top stack) x state
      → (x ≡ m.end → ⊥) → Derives m x tree us → left ≡ us ++ rest → Reads ts (record { state = state; tree = tree } ∷ stack) rest
  push ts stack left us rest state x tree reads goto apart derives split = record {
    symbols = x ∷ reads.symbols;
    path = above state x (states_of stack) reads.symbols (subst (λ s. IsGoto g states s x state) (sym (top-state stack)) goto) reads.path;
    done = reads.done ++ us;
    stand = on_top (record { state = state; tree = tree }) x stack reads.symbols reads.done us apart derives reads.stand;
    text = append_assoc reads.done us rest ∙ ap (λ zs. reads.done ++ zs) (sym split) ∙ reads.text;
  }

  -- ---- the end

  is-silent : (x : ℕ) → x ≡ m.end → is_silent m x ≡ true
  is-silent x same = grind (arith, same)

  accepted : (p : ℕ) (production : Production) (stack : List Frame) (symbols : List ℕ) (done : List Token) → slice_get m.productions (p - 1) ≡ Some production → 0 < p → p < 3
      → suc (length stack) ≡ length production.right → Stand m stack symbols done
      → ((k j : ℕ) → k + suc j ≡ length production.right → slice_get (m.end ∷ symbols) k ≡ option_map (symbol_number m.terminals) (slice_get production.right j))
      → Derives m (m.terminals + is.whole.some_text.left) (Some (whole_tree stack)) done
  accepted zero production stack symbols done at first low long stand same = absurd (omega (arith, first))
  accepted (suc (suc (suc p))) production stack symbols done at first low long stand same = absurd (omega (arith, low))
  accepted (suc zero) production stack symbols done at first low long stand same =
      let is_first : is.whole.some_text ≡ production = same_Some is.whole.some_text production (sym is.whole.first ∙ at) in
      let rights : is.whole.text ∷ (is.whole.end ∷ []) ≡ production.right = sym is.whole.some_right ∙ ap (λ (q : Production). q.right) is_first in
      of_text stack symbols done stand (omega (arith, long, ap length rights))
      (let size : 1 + suc 0 ≡ length production.right = omega (arith, ap length rights) in same 1 0 size ∙ ap (λ (xs : List Symbol). option_map (symbol_number m.terminals) (slice_get xs 0)) (sym rights))
    where
      of_text : (stack : List Frame) (symbols : List ℕ) (done : List Token) → Stand m stack symbols done → length stack ≡ 1 → slice_get symbols 0 ≡ Some (symbol_number m.terminals is.whole.text)
          → Derives m (m.terminals + is.whole.some_text.left) (Some (whole_tree stack)) done
      of_text _ _ _ bottom one at = absurd (omega (arith, one))
      of_text _ _ _ (on_top frame x _ _ _ us apart derives (on_top below y stack symbols ts vs other inner stand)) one at = absurd (omega (arith, one))
      of_text _ _ _ (on_top frame x _ _ _ us apart derives bottom) one at =
          let number : x ≡ symbol_number m.terminals is.whole.text = same_Some x (symbol_number m.terminals is.whole.text) at in
          let ends = both is.whole.end [] None no_trees [] [] (silent (symbol_number m.terminals is.whole.end) (is-silent _ is.whole.is_end)) nothing in
          let all = both is.whole.text (is.whole.end ∷ []) frame.tree no_trees us [] (subst (λ z. Derives m z frame.tree us) number derives) ends in
          subst (λ ts. Derives m (m.terminals + is.whole.some_text.left) (Some (node 1 (with_tree frame.tree no_trees))) ts) (append-nil us)
          (made 0 is.whole.some_text (with_tree frame.tree no_trees) (us ++ []) is.whole.first (λ single. absurd (omega (arith, single, ap length is.whole.some_right)))
          (subst (λ xs. DerivesAll m xs (with_tree frame.tree no_trees) (us ++ [])) (sym is.whole.some_right) all))
  accepted (suc (suc zero)) production stack symbols done at first low long stand same =
      let is_second : is.whole.no_text ≡ production = same_Some is.whole.no_text production (sym is.whole.second ∙ at) in
      let rights : is.whole.end ∷ [] ≡ production.right = sym is.whole.no_right ∙ ap (λ (q : Production). q.right) is_second in
      of_nothing stack symbols done stand (omega (arith, long, ap length rights))
    where
      of_nothing : (stack : List Frame) (symbols : List ℕ) (done : List Token) → Stand m stack symbols done → length stack ≡ 0 → Derives m (m.terminals + is.whole.some_text.left) (Some (whole_tree stack)) done
      of_nothing _ _ _ (on_top frame x stack symbols ts us apart derives stand) none = absurd (omega (arith, none))
      of_nothing _ _ _ bottom none =
          subst (λ l. Derives m (m.terminals + l) (Some (node 2 no_trees)) []) is.whole.left
          (made 1 is.whole.no_text no_trees [] is.whole.second (λ single. refl)
          (subst (λ xs. DerivesAll m xs no_trees []) (sym is.whole.no_right) (both is.whole.end [] None no_trees [] [] (silent (symbol_number m.terminals is.whole.end) (is-silent _ is.whole.is_end)) nothing)))

  -- with the end next, the stack is a whole text
  ended : (ts : List Token) (stack : List Frame) (state : ℕ) → Reads ts stack [] → IsGoto g states (top stack) m.end state → Derives m (m.terminals + is.whole.some_text.left) (Some (whole_tree stack)) ts
  ended ts stack state reads goto =
      let w = whole_text g states (states_of stack) reads.symbols m.end state is.are_tables.are_states is.starts_apart reads.path
      (subst (λ s. IsGoto g states s m.end state) (sym (top-state stack)) goto) is.whole.last in
      let a = production_of g m.productions is.entries (m.end ∷ reads.symbols) w.first w.size w.left w.production w.right in
      let all : reads.done ≡ ts = sym (append-nil reads.done) ∙ reads.text in
      subst (Derives m (m.terminals + is.whole.some_text.left) (Some (whole_tree stack))) all
      (accepted w.production a.production stack reads.symbols reads.done a.at a.some w.low (omega (arith, w.whole, a.is_size, length-map stack (λ (frame : Frame). frame.state))) reads.stand
      (λ k j e. subst (λ n. slice_get (m.end ∷ reads.symbols) k ≡ option_map (symbol_number n) (slice_get a.production.right j)) is.terminals
      (symbols_of g m.productions is.entries (m.end ∷ reads.symbols) w.first w.size w.left w.production w.right a k j (omega (arith, e, a.is_size)))))

  -- ---- reductions

  lower-goto : (stack : List Frame) (size n x y t : ℕ) → size ≡ n → x ≡ y → IsGoto g states (paths.top (drop size (states_of stack))) x t → IsGoto g states (top (drop n stack)) y t
  lower-goto stack size n x y t long same goto =
      subst (λ s. IsGoto g states s y t)
      (ap (λ k. paths.top (drop k (states_of stack))) long ∙ ap paths.top (drop-map (λ (frame : Frame). frame.state) n stack) ∙ top-state (drop n stack))
      (subst (λ z. IsGoto g states (paths.top (drop size (states_of stack))) z t) same goto)

  reduced-to : (end : Place) (ts : List Token) (r : Run) (p : ℕ) (production : Production) (symbols : List ℕ) (below inside : List Token) (to : Option ℕ) → unread r.phase r.left ≡ r.left
      → (below ++ inside) ++ r.left ≡ ts → Path g states (states_of (drop (length production.right) r.stack)) symbols → Stand m (drop (length production.right) r.stack) symbols below
      → Derives m (m.terminals + production.left) (tree_of p (take (length production.right) r.stack)) inside
      → MatchOption to (NoGoto g states (top (drop (length production.right) r.stack)) (m.terminals + production.left)) (IsGoto g states (top (drop (length production.right) r.stack)) (m.terminals + production.left))
      → (t : ℕ) × IsGoto g states (top (drop (length production.right) r.stack)) (m.terminals + production.left) t → Along ts (reduced_to m end r p production to)
  reduced-to end ts r p production symbols below inside None same text path stand derives none goto = absurd (none.none goto.0 goto.1)
  reduced-to end ts r p production symbols below inside (Some state) same text path stand derives leads goto =
      push ts (drop (length production.right) r.stack) (inside ++ r.left) inside r.left state (m.terminals + production.left) (tree_of p (take (length production.right) r.stack))
      (record { symbols = symbols; path = path; done = below; stand = stand; text = sym (append_assoc below inside r.left) ∙ text }) leads
      (λ e. omega (arith, e, is.end)) derives refl

  reduced-reads : (end : Place) (ts : List Token) (r : Run) (x p : ℕ) → Reads ts r.stack r.left → unread r.phase r.left ≡ r.left → CanReduce g states (top r.stack) x p
      → Along ts (reduced m end r p (slice_get m.productions (p - 1)))
  reduced-reads end ts r x p reads same can =
      let red = reduces g states (states_of r.stack) reads.symbols x p is.grammar is.are_tables.are_states is.starts_apart reads.path (subst (λ s. CanReduce g states s x p) (sym (top-state r.stack)) can) in
      let right = right_side g states (states_of r.stack) reads.symbols p reads.path red in
      let a = production_of g m.productions is.entries reads.symbols red.first red.size red.left p right in
      let n = length a.production.right in
      let high : n ≤ length r.stack = omega (arith, red.high, a.is_size, length-map r.stack (λ (frame : Frame). frame.state)) in
      let frames = reduced-frames p a.production a.production.right r.stack reads.symbols reads.done a.some a.at refl (omega (arith, red.some, a.is_size)) high reads.stand
      (λ k j e. subst (λ t. slice_get reads.symbols k ≡ option_map (symbol_number t) (slice_get a.production.right j)) is.terminals
      (symbols_of g m.productions is.entries reads.symbols red.first red.size red.left p right a k j (omega (arith, e, a.is_size)))) in
      let left : red.left ≡ m.terminals + a.production.left = a.is_left ∙ ap (λ t. t + a.production.left) is.terminals in
      subst (λ q. Along ts (reduced m end r p q)) (sym a.at)
      (reduced-to end ts r p a.production (drop n reads.symbols) frames.below frames.inside (m.tables.goto (top (drop n r.stack)) a.production.left) same
      (ap (λ zs. zs ++ r.left) (sym frames.split) ∙ reads.text)
      (subst (λ ss. Path g states ss (drop n reads.symbols)) (drop-map (λ (frame : Frame). frame.state) n r.stack) (drop_path g states n (states_of r.stack) reads.symbols reads.path))
      frames.rest frames.derives
      (subst (λ t. MatchOption (m.tables.goto (top (drop n r.stack)) a.production.left) (NoGoto g states (top (drop n r.stack)) (t + a.production.left)) (IsGoto g states (top (drop n r.stack)) (t + a.production.left))) is.terminals
      (subst (λ f. MatchOption (f (top (drop n r.stack)) a.production.left) (NoGoto g states (top (drop n r.stack)) (g.terminals + a.production.left)) (IsGoto g states (top (drop n r.stack)) (g.terminals + a.production.left))) (sym is.goto)
      (is.are_tables.goto (top (drop n r.stack)) a.production.left (known-left g.terminals g.nonterminals g.entries.now red.first red.left a.production.left is.grammar.known red.begins a.is_left))))
      (red.goto.0, lower-goto r.stack red.size n red.left (m.terminals + a.production.left) red.goto.0 a.is_size left red.goto.1))

  -- ---- steps

  -- the terminal that comes next is one of the grammar
  next-below : (left : List Token) (x : ℕ) → next_terminal m left ≡ Some x → x < g.terminals
  next-below [] x next = let same : m.end ≡ x = same_Some m.end x next in omega (arith, same, is.end, is.terminals)
  next-below (t ∷ ts) x next = let inside = is.tokens t x next in omega (arith, inside.within, is.terminals)

  shifted-reads : (ts : List Token) (r : Run) (state x : ℕ) (left : List Token) → r.left ≡ left → next_terminal m left ≡ Some x → Reads ts r.stack left → IsGoto g states (top r.stack) x state
      → Along ts (shifted m r state x left)
  shifted-reads ts r state x [] is_left next reads goto =
      ended ts r.stack state reads (subst (λ y. IsGoto g states (top r.stack) y state) (sym (same_Some m.end x next)) goto)
  shifted-reads ts r state x (t ∷ rest) is_left next reads goto = by (x == m.name)
    where
      pushed : Reads ts (record { state = state; tree = Some (leaf t) } ∷ r.stack) rest
      pushed = push ts r.stack (t ∷ rest) (t ∷ []) rest state x (Some (leaf t)) reads goto (is.tokens t x next).not_end (token x t next) refl

      by : (b : Bool) → Along ts (on (if b then record r { stack = record { state = state; tree = Some (leaf t) } ∷ r.stack; phase = named }
          else record r { stack = record { state = state; tree = Some (leaf t) } ∷ r.stack; left = rest; phase = reading }))
      by true = subst (λ zs. Reads ts (record { state = state; tree = Some (leaf t) } ∷ r.stack) (drop 1 zs)) (sym is_left) pushed
      by false = pushed

  acted-reads : (end : Place) (ts : List Token) (r : Run) (x : ℕ) (a : Option Action) → m.tables.action (top r.stack) x ≡ a → next_terminal m r.left ≡ Some x → Reads ts r.stack r.left
      → unread r.phase r.left ≡ r.left → Along ts (acted m end r x a)
  acted-reads end ts r x None acts next reads same = tt
  acted-reads end ts r x (Some (Reduce p)) acts next reads same =
      reduced-reads end ts r x p reads same (can-reduce g states (top r.stack) x p (m.tables.action (top r.stack) x) (action-is (top r.stack) x (next-below r.left x next)) acts)
  acted-reads end ts r x (Some (Shift state)) acts next reads same =
      shifted-reads ts r state x r.left refl next reads (can-shift g states (top r.stack) x state (m.tables.action (top r.stack) x) (action-is (top r.stack) x (next-below r.left x next)) acts)

  looked-reads : (end : Place) (ts : List Token) (r : Run) (x : Option ℕ) → next_terminal m r.left ≡ x → Reads ts r.stack r.left → unread r.phase r.left ≡ r.left → Along ts (looked m end r x)
  looked-reads end ts r None next reads same = tt
  looked-reads end ts r (Some x) next reads same = acted-reads end ts r x (m.tables.action (top r.stack) x) refl next reads same

  -- the kind of a name is a terminal without a tree
  record IsKind (x : ℕ) : Type 0 where
    inside : IsInText m x
    no_tree : is_silent m x ≡ true

  typedef-kind : IsKind m.typedef_kind
  typedef-kind = record { inside = is.typedef_kind; no_tree = grind arith }

  variable-kind : IsKind m.variable_kind
  variable-kind = record { inside = is.variable_kind; no_tree = grind arith }

  kind-is : (state : ℕ) (kind : Option NameKind) → IsKind (kind_in m state kind)
  kind-is state (Some typedef) = by (is_some (m.tables.action state m.typedef_kind))
    where
      by : (b : Bool) → IsKind (if b then m.typedef_kind else m.variable_kind)
      by true = typedef-kind
      by false = variable-kind
  kind-is state _ = variable-kind

  classified-reads : (end : Place) (ts : List Token) (r : Run) (left : List Token) → Reads ts r.stack (drop 1 left) → Along ts (classified m end r left)
  classified-reads end ts r [] reads = tt
  classified-reads end ts r (t ∷ rest) reads = by (m.tables.action (top r.stack) kind) refl
    where
      kind : ℕ
      kind = kind_of m (top r.stack) r.levels t

      by : (a : Option Action) → m.tables.action (top r.stack) kind ≡ a → Along ts (kind_shifted end r a rest)
      by None acts = tt
      by (Some (Reduce p)) acts = tt
      by (Some (Shift state)) acts =
          let is_kind = kind-is (top r.stack) (innermost t.spelling r.levels) in
          push ts r.stack rest [] rest state kind None reads
          (can-shift g states (top r.stack) kind state (m.tables.action (top r.stack) kind) (action-is (top r.stack) kind (omega (arith, is_kind.inside.within, is.terminals))) acts)
          is_kind.inside.not_end (silent kind is_kind.no_tree) refl

  step-reads : (end : Place) (ts : List Token) (r : Run) (phase : Phase) → r.phase ≡ phase → Reads ts r.stack (unread phase r.left) → Along ts (step_in m end r phase)
  step-reads end ts r reading is_phase reads = reads
  step-reads end ts r looking is_phase reads = looked-reads end ts r (next_terminal m r.left) refl reads (ap (λ phase. unread phase r.left) is_phase)
  step-reads end ts r named is_phase reads = classified-reads end ts r r.left reads

  reaches-reads : (end : Place) (ts : List Token) (x y : Point) → Reaches m end x y → Along ts x → Along ts y
  reaches-reads end ts x _ here along = along
  reaches-reads end ts _ y (later {r} steps) along = reaches-reads end ts (step m end r) y steps (step-reads end ts r r.phase refl along)

  pub derives-text : (end : Place) (ts : List Token) (tree : Tree) → LR m end ts (Ok tree) → DerivesText m tree ts
  derives-text end ts tree answer =
      let derives = reaches-reads end ts (on (start ts)) (answered (Ok tree)) answer.run (record { symbols = []; path = lowest; done = []; stand = bottom; text = refl }) in
      record {
        first = is.whole.some_text;
        is_first = is.whole.first;
        derives = derives;
        leaves = leaves-derived m (m.terminals + is.whole.some_text.left) (Some tree) ts derives tree refl;
      }
