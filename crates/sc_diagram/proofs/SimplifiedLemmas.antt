-- Simpler nodes: one step, and as the diagram grows.
use Rattle.std.proofs.Common.{◌≡◌, ℕ, suc, ◌+◌, ◌-◌, ◌<◌, ◌≤◌, ◌||◌, Bool, true, false, List, [], ◌∷◌, ◌++◌, length, Contains, Option, Some, ◌⊎◌, inl, inr, refl, sym, ◌∙◌, ap, subst, arith}
use Rattle.std.specs.Prelude.{slice_index, slice_set}
use Rattle.std.proofs.lemmas.Bool.{cases_Bool, cases_lt, false≢true}
use Rattle.std.proofs.lemmas.List.{length_push, get_or_push, get_or_append_left}
use Rattle.std.proofs.lemmas.Option.{get_or_from_slice_get, slice_get_within}
use Rattle.sc_model.specs.Sets.{IsConfig}
use Rattle.sc_model.proofs.SetLemmas.{IsConfig-set}
use Rattle.sc_diagram.specs.declared.answers.Question.{Question}
use Rattle.sc_diagram.specs.declared.operation.Operation.TheVariants.{Or}
use Rattle.sc_diagram.specs.Applied.{Applies, IsApplication, application, cofactor}
use Rattle.sc_diagram.specs.Diagram.{Diagram, IsDiagram, branch, end_at, variable_of, sets_of}
use Rattle.sc_diagram.specs.Grown.{Grows, IsChoice, only, decides}
use Rattle.sc_diagram.specs.Applied.{Adds, IsForgotten}
use Rattle.sc_diagram.specs.Simplified.{AreAnswers, HasOption, IsQuestion, IsSaid, IsWider, Simplifies, first_asked, question_at}
use Rattle.sc_diagram.proofs.AppliedLemmas.{first-le, has_cofactor, has_cofactor-set, later_cofactor, never-cofactors, own_cofactor}
use Rattle.sc_diagram.proofs.DiagramLemmas.{differ, has_end, has_free, has_next, variable-le, variable_end}
use Rattle.sc_diagram.proofs.GrownLemmas.{has-Grows, own-Grows, variable_of-Grows}

-- ---- as the diagram grows

module _ {d e : Diagram} (grows : Grows d e) where
  pub IsQuestion-Grows : {asked : Question} → IsQuestion d asked → IsQuestion e asked
  IsQuestion-Grows {asked} is = record { node = own-Grows grows asked.node is.node; within = own-Grows grows asked.within is.within }

  IsSaid-Grows : {asked : Question} {says : Bool} → IsQuestion d asked → IsSaid d asked says → IsSaid e asked says
  IsSaid-Grows {asked} is said = record {
    config = said.config;
    listed = subst (λ ns. IsConfig ns said.config) (sym grows.arities) said.listed;
    held = has-Grows grows asked.within said.config is.within said.listed ∙ said.held;
    is = has-Grows grows asked.node said.config is.node said.listed ∙ said.is;
  }

  pub Simplifies-Grows : {asked : Question} {r : ℕ} → Simplifies d asked r → Simplifies e asked r
  Simplifies-Grows {asked} {r} is = record {
    question = IsQuestion-Grows is.question;
    own = own-Grows grows r is.own;
    from = omega (arith, is.from, variable_of-Grows grows asked.node is.question.node, variable_of-Grows grows r is.own);
    at = λ c listed has.
        let was = subst (λ ns. IsConfig ns c) grows.arities listed in
        has-Grows grows r c is.own was ∙ is.at c was (sym (has-Grows grows asked.within c is.question.within was) ∙ has)
        ∙ sym (has-Grows grows asked.node c is.question.node was);
    said = λ some c listed.
        let was = subst (λ ns. IsConfig ns c) grows.arities listed in
        subst (IsSaid e asked) (sym (has-Grows grows r c is.own was)) (IsSaid-Grows is.question (is.said some c was));
  }

  pub AreAnswers-Grows : {answers : List (Option (Question × ℕ))} → AreAnswers d answers → AreAnswers e answers
  AreAnswers-Grows are = record { each = λ p has. Simplifies-Grows (are.each p has) }

-- where all is forgotten, no answer is wrong
pub AreAnswers-bound : {d : Diagram} {old new : List (Option (Question × ℕ))} → (new ≡ old) ⊎ IsForgotten new → AreAnswers d old → AreAnswers d new
AreAnswers-bound {d} (inl same) are = subst (AreAnswers d) (sym same) are
AreAnswers-bound {d} (inr none) are = record { each = λ e has. absurd (none e has) }

-- one more answer
pub AreAnswers-Adds : {d : Diagram} {old new : List (Option (Question × ℕ))} {asked : Question} {r : ℕ} → Adds old new asked r → AreAnswers d old → Simplifies d asked r → AreAnswers d new
AreAnswers-Adds {d} {old} {new} {asked} {r} adds are simplifies = record { each = λ p has. by p (adds.each p has) }
  where
    by : (p : Question × ℕ) → Contains old (Some p) ⊎ ((p.0 ≡ asked) × (p.1 ≡ r)) → Simplifies d p.0 p.1
    by p (inl has) = are.each p has
    by p (inr same) = subst (λ q. Simplifies d q p.1) (sym same.0) (subst (Simplifies d asked) (sym same.1) simplifies)

-- ---- ends

-- a node that is not never has a configuration
some-config : {d : Diagram} → IsDiagram d → (n : ℕ) → n < length d.nodes → (n ≡ 0 → ⊥) → record { config : List ℕ; listed : IsConfig d.arities config; has : (sets_of d).has n config ≡ true }
some-config {d} valid n own some =
    let found = differ valid n 0 own (slice_get_within d.nodes 0 _ valid.never) some in
    record {
      config = found.config;
      listed = found.listed;
      has = elim (cases_Bool ((sets_of d).has n found.config)) [
        | inl has ↦ has
        | inr not ↦ absurd (found.differs (not ∙ sym (has_end valid found.config found.listed 0 (omega arith))))
      ];
    }

-- every configuration that is asked for has the node
pub same-nodes : {d : Diagram} (valid : IsDiagram d) (asked : Question) → IsQuestion d asked → asked.node ≡ asked.within → Simplifies d asked 1
same-nodes {d} valid asked is same = record {
  question = is;
  own = slice_get_within d.nodes 1 _ valid.always;
  from = omega (arith, variable-le valid asked.node is.node, variable_end valid 1 (omega arith));
  at = λ c listed has. has_end valid c listed 1 (omega arith) ∙ sym (ap (λ n. (sets_of d).has n c) same ∙ has);
  said = λ some c listed.
      let one = some-config valid asked.within is.within some in
      record { config = one.config; listed = one.listed; held = one.has; is = ap (λ n. (sets_of d).has n one.config) same ∙ one.has ∙ sym (has_end valid c listed 1 (omega arith)) };
}

-- the node itself, where it is an end, or where all configurations are asked for or none is
pub itself : {d : Diagram} (valid : IsDiagram d) (asked : Question) → IsQuestion d asked → (asked.node ≤ 1) ⊎ (asked.within ≤ 1) → Simplifies d asked asked.node
itself {d} valid asked is ends = record {
  question = is;
  own = is.node;
  from = omega arith;
  at = λ c listed has. refl;
  said = λ some c listed. elim ends [
    | inl low ↦ (
        let one = some-config valid asked.within is.within some in
        record { config = one.config; listed = one.listed; held = one.has; is = has_end valid one.config one.listed asked.node (omega (arith, low)) ∙ sym (has_end valid c listed asked.node (omega (arith, low))) }
        )
    | inr low ↦ (
        let all : asked.within ≡ 1 = omega (arith, low, some) in
        record { config = c; listed = listed; held = ap (λ n. (sets_of d).has n c) all ∙ has_end valid c listed 1 (omega arith); is = refl }
        )
  ];
}

-- ---- one step

-- of the configurations that are asked for and have the option, r has those of the node; it decides
-- by a later variable
pub record IsForOption (d : Diagram) (asked : Question) (v k r : ℕ) : Type 0 where
  pub own : r < length d.nodes
  pub later : v < variable_of d r
  pub at : (c : List ℕ) → IsConfig d.arities c → slice_index c v ≡ k → (sets_of d).has asked.within c ≡ true → (sets_of d).has r c ≡ (sets_of d).has asked.node c
  pub said : (asked.within ≡ 0 → ⊥) → (c : List ℕ) → IsConfig d.arities c → IsSaid d asked ((sets_of d).has r c)

pub record AreForOptions (d : Diagram) (asked : Question) (v : ℕ) (results : List ℕ) : Type 0 where
  pub each : (k : ℕ) → k < length results → IsForOption d asked v k (slice_index results k)

IsForOption-Grows : {d e : Diagram} {asked : Question} {v k r : ℕ} → Grows d e → IsQuestion d asked → IsForOption d asked v k r → IsForOption e asked v k r
IsForOption-Grows {d} {e} {asked} {v} {k} {r} grows is for = record {
  own = own-Grows grows r for.own;
  later = omega (arith, for.later, variable_of-Grows grows r for.own);
  at = λ c listed chosen has.
      let was = subst (λ ns. IsConfig ns c) grows.arities listed in
      has-Grows grows r c for.own was ∙ for.at c was chosen (sym (has-Grows grows asked.within c is.within was) ∙ has)
      ∙ sym (has-Grows grows asked.node c is.node was);
  said = λ some c listed.
      let was = subst (λ ns. IsConfig ns c) grows.arities listed in
      subst (IsSaid e asked) (sym (has-Grows grows r c for.own was)) (IsSaid-Grows grows is (for.said some c was));
}

-- one more option, in a diagram that has grown
pub AreForOptions-more : {d e : Diagram} {asked : Question} {v r : ℕ} {results : List ℕ} → Grows d e → IsQuestion d asked → AreForOptions d asked v results
    → IsForOption e asked v (length results) r → AreForOptions e asked v (results ++ r ∷ [])
AreForOptions-more {d} {e} {asked} {v} {r} {results} grows is are more = record {
  each = λ k within. elim (cases_lt k (length results)) [
    | inl old ↦ subst (IsForOption e asked v k) (sym (get_or_append_left results (r ∷ []) 0 k old)) (IsForOption-Grows grows is (are.each k old))
    | inr past ↦ (
        let at : k ≡ length results = omega (arith, within, length_push results r) in
        let read : slice_index (results ++ r ∷ []) k ≡ r = get_or_push results r 0 k (sym at) in
        subst (IsForOption e asked v k) (sym read) (subst (λ j. IsForOption e asked v j r) (sym at) more)
        )
  ];
}

-- d is the diagram where the question was asked, and e the one now
module _ {d e : Diagram} {asked : Question} {v : ℕ} (is : IsQuestion d asked) (top : v ≡ variable_of d asked.node) (inner : v < length d.arities)
    (low : v ≤ variable_of d asked.within) (grows : Grows d e) where
  node_now : variable_of e asked.node ≡ v
  node_now = variable_of-Grows grows asked.node is.node ∙ sym top

  within_now : v ≤ variable_of e asked.within
  within_now = omega (arith, low, variable_of-Grows grows asked.within is.within)

  pub inner_now : v < length e.arities
  inner_now = omega (arith, inner, ap length grows.arities)

  -- so there is a call for each variable at most
  pub deeper : (q : Question) (k : ℕ) → k < slice_index e.arities v → q ≡ question_at e asked v k → length e.arities - first_asked e q < length d.arities - first_asked d asked
  deeper q k in_range same = subst (λ x. length e.arities - first_asked e x < length d.arities - first_asked d asked) (sym same)
      (omega (arith, later_first, least, inner, ap length grows.arities, top))
    where
      now : IsQuestion e asked
      now = IsQuestion-Grows grows is

      later_first : v < first_asked e (question_at e asked v k)
      later_first =
          let node = later_cofactor grows.valid asked.node now.node v k inner_now in_range (omega (arith, node_now)) in
          let within = later_cofactor grows.valid asked.within now.within v k inner_now in_range within_now in
          omega (arith, node, within)

      least : first_asked d asked ≤ v
      least = omega (arith, (first-le (variable_of d asked.node) (variable_of d asked.within)).left, top)

  pub question-at : (q : Question) (k : ℕ) → k < slice_index e.arities v → q ≡ question_at e asked v k → IsQuestion e q
  question-at q k in_range same =
      let now = IsQuestion-Grows grows is in
      subst (IsQuestion e) (sym same) (record {
        node = own_cofactor grows.valid asked.node now.node v k inner_now in_range;
        within = own_cofactor grows.valid asked.within now.within v k inner_now in_range;
      })

  -- what was found for an option that is like this one
  pub for-option : {f : Diagram} {q : Question} {r : ℕ} (k like : ℕ) → Grows e f → like < slice_index e.arities v → (cofactor e asked.within v k ≡ 0) ⊎ (like ≡ k)
      → (cofactor e asked.within v like ≡ 0 → (j : ℕ) → j < slice_index e.arities v → cofactor e asked.within v j ≡ 0) → q ≡ question_at e asked v like → Simplifies f q r → IsForOption f asked v k r
  for-option {f} {q} {r} k like more in_range cases none same simplifies = record {
    own = simplifies.own;
    later = omega (arith, later, simplifies.from, ap (λ x. variable_of f x.node) same, variable_of-Grows more _ (own_cofactor grows.valid asked.node now.node v like inner_now in_range));
    at = λ c listed chosen has.
        let was = subst (λ ns. IsConfig ns c) more.arities listed in
        let asked_for = sym (has-Grows more asked.within c now.within was) ∙ has in
        elim cases [
          | inl none ↦ absurd (false≢true (sym (has_end grows.valid c was 0 (omega arith)) ∙ sym (ap (λ n. (sets_of e).has n c) none) ∙ has_cofactor grows.valid asked.within now.within v k c was chosen ∙ asked_for))
          | inr is_like ↦ (
              let at = chosen ∙ sym is_like in
              let within = has_cofactor grows.valid asked.within now.within v like c was at in
              let node = has_cofactor grows.valid asked.node now.node v like c was at in
              let within_more = has-Grows more _ c (own_cofactor grows.valid asked.within now.within v like inner_now in_range) was in
              let node_more = has-Grows more _ c (own_cofactor grows.valid asked.node now.node v like inner_now in_range) was in
              simplifies.at c listed (ap (λ x. (sets_of f).has x.within c) same ∙ within_more ∙ within ∙ asked_for)
              ∙ ap (λ x. (sets_of f).has x.node c) same ∙ node_more ∙ node ∙ sym (has-Grows more asked.node c now.node was)
              )
        ];
    said = λ some c listed.
        let one = simplifies.said (λ never. some (never-cofactors grows.valid asked.within now.within v like inner_now in_range (none (sym (ap (λ x. x.within) same) ∙ never)))) c listed in
        let was = subst (λ ns. IsConfig ns one.config) more.arities one.listed in
        let set = IsConfig-set v like was inner_now in_range in
        record {
          config = slice_set one.config v like;
          listed = subst (λ ns. IsConfig ns (slice_set one.config v like)) (sym more.arities) set;
          held = has-Grows more asked.within (slice_set one.config v like) now.within set
              ∙ sym (has_cofactor-set grows.valid asked.within now.within v like inner_now in_range within_now one.config was)
              ∙ sym (has-Grows more _ one.config (own_cofactor grows.valid asked.within now.within v like inner_now in_range) was)
              ∙ sym (ap (λ x. (sets_of f).has x.within one.config) same) ∙ one.held;
          is = has-Grows more asked.node (slice_set one.config v like) now.node set
              ∙ sym (has_cofactor-set grows.valid asked.node now.node v like inner_now in_range (omega (arith, node_now)) one.config was)
              ∙ sym (has-Grows more _ one.config (own_cofactor grows.valid asked.node now.node v like inner_now in_range) was)
              ∙ sym (ap (λ x. (sets_of f).has x.node one.config) same) ∙ one.is;
        };
  }
    where
      now : IsQuestion e asked
      now = IsQuestion-Grows grows is

      later : v < variable_of e (cofactor e asked.node v like)
      later = later_cofactor grows.valid asked.node now.node v like inner_now in_range (omega (arith, node_now))

  -- the choice between the results is the answer
  pub from-options : {f : Diagram} {results : List ℕ} (r : ℕ) → Grows e f → AreForOptions e asked v results → length results ≡ slice_index e.arities v → r < length f.nodes
      → IsChoice f r v results → Simplifies f asked r
  from-options {f} {results} r more are full own choice = record {
    question = now;
    own = own;
    from = from choice;
    at = λ c listed has.
        let k = slice_index c v in
        let in_range : k < length results = omega (arith, listed.each v (omega (arith, inner_now, ap length more.arities)), full, ap (λ ns. slice_index ns v) more.arities) in
        chosen c listed in_range choice ∙ (each k in_range).at c listed refl has;
    said = λ some c listed.
        let k = slice_index c v in
        let in_range : k < length results = omega (arith, listed.each v (omega (arith, inner_now, ap length more.arities)), full, ap (λ ns. slice_index ns v) more.arities) in
        subst (IsSaid f asked) (sym (chosen c listed in_range choice)) ((each k in_range).said some c listed);
  }
    where
      now : IsQuestion f asked
      now = IsQuestion-Grows more (IsQuestion-Grows grows is)

      each : (k : ℕ) → k < length results → IsForOption f asked v k (slice_index results k)
      each k in_range = IsForOption-Grows more (IsQuestion-Grows grows is) (are.each k in_range)

      some : 0 < length results
      some = omega (arith, full, grows.valid.options.each v inner_now)

      node_then : variable_of f asked.node ≡ v
      node_then = variable_of-Grows more asked.node (own-Grows grows asked.node is.node) ∙ node_now

      from : IsChoice f r v results → variable_of f asked.node ≤ variable_of f r
      from (only all) = omega (arith, node_then, (each 0 some).later, ap (variable_of f) (all 0 some))
      from (decides at) = omega (arith, node_then, ap (λ b. b.variable) (get_or_from_slice_get f.nodes r (branch v results) (end_at f.arities r) at))

      chosen : (c : List ℕ) → IsConfig f.arities c → slice_index c v < length results → IsChoice f r v results → (sets_of f).has r c ≡ (sets_of f).has (slice_index results (slice_index c v)) c
      chosen c listed in_range (only all) = ap (λ m. (sets_of f).has m c) (sym (all (slice_index c v) in_range))
      chosen c listed in_range (decides at) =
          has_next more.valid c listed r own
          ∙ ap (λ b. (sets_of f).has (slice_index b.children (slice_index c b.variable)) c) (get_or_from_slice_get f.nodes r (branch v results) (end_at f.arities r) at)

-- the answer where more is asked for
pub from-wider : {d e f : Diagram} {asked : Question} {wider r : ℕ} → IsQuestion d asked → Grows d e → Grows e f → IsWider e asked.within wider
    → variable_of d asked.within < variable_of d asked.node → Simplifies f (record { node = asked.node; within = wider }) r → Simplifies f asked r
from-wider {d} {e} {f} {asked} {wider} {r} is grows more is_wider low simplifies = record {
  question = IsQuestion-Grows more now;
  own = simplifies.own;
  from = simplifies.from;
  at = λ c listed has.
      let was = subst (λ ns. IsConfig ns c) more.arities listed in
      simplifies.at c listed (has-Grows more wider c is_wider.own was ∙ is_wider.at c was (sym (has-Grows more asked.within c now.within was) ∙ has));
  said = λ some c listed.
      let one = simplifies.said (wider-some some) c listed in
      let was = subst (λ ns. IsConfig ns one.config) more.arities one.listed in
      let found = is_wider.some one.config was (sym (has-Grows more wider one.config is_wider.own was) ∙ one.held) in
      let set = IsConfig-set v found.option was inner found.in_range in
      record {
        config = slice_set one.config v found.option;
        listed = subst (λ ns. IsConfig ns (slice_set one.config v found.option)) (sym more.arities) set;
        held = has-Grows more asked.within (slice_set one.config v found.option) now.within set ∙ found.has;
        is = has-Grows more asked.node (slice_set one.config v found.option) now.node set
            ∙ has_free grows.valid one.config was v found.option asked.node now.node (omega (arith, low, variable_of-Grows grows asked.node is.node, top))
            ∙ sym (has-Grows more asked.node one.config now.node was) ∙ one.is;
      };
}
  where
    now : IsQuestion e asked
    now = IsQuestion-Grows grows is

    v : ℕ
    v = variable_of e asked.within

    top : v ≡ variable_of d asked.within
    top = variable_of-Grows grows asked.within is.within

    inner : v < length e.arities
    inner = omega (arith, top, low, variable_of-Grows grows asked.node is.node, variable-le grows.valid asked.node now.node)

    wider-some : (asked.within ≡ 0 → ⊥) → wider ≡ 0 → ⊥
    wider-some some never =
        let one = some-config grows.valid asked.within now.within some in
        false≢true (sym (has_end grows.valid one.config one.listed 0 (omega arith)) ∙ sym (ap (λ n. (sets_of e).has n one.config) never) ∙ is_wider.at one.config one.listed one.has)

-- no end is at a variable
pub inner-node : {d : Diagram} {asked : Question} {v : ℕ} (valid : IsDiagram d) → IsQuestion d asked → 1 < asked.node → v ≡ variable_of d asked.node → v < length d.arities
inner-node {d} {asked} valid is inner top = omega (arith, top, (valid.decisions asked.node inner is.node).within)

pub later-options : {d : Diagram} {asked : Question} {v : ℕ} {results : List ℕ} → AreForOptions d asked v results → (k : ℕ) → k < length results → v < variable_of d (slice_index results k)
later-options are k in_range = (are.each k in_range).later

-- there is a call for each variable at most, also where more is asked for
pub deeper-wider : {d e : Diagram} {asked : Question} {wider : ℕ} → IsQuestion d asked → IsDiagram d → Grows d e → IsWider e asked.within wider → variable_of d asked.within < variable_of d asked.node
    → length e.arities - first_asked e (record { node = asked.node; within = wider }) < length d.arities - first_asked d asked
deeper-wider {d} {e} {asked} {wider} is valid grows is_wider low =
    omega (arith, least, later, inner, ap length grows.arities)
  where
    least : first_asked d asked ≤ variable_of d asked.within
    least = (first-le (variable_of d asked.node) (variable_of d asked.within)).right

    inner : variable_of d asked.within < length d.arities
    inner = omega (arith, low, variable-le valid asked.node is.node)

    node_later : variable_of d asked.within < variable_of e asked.node
    node_later = omega (arith, low, variable_of-Grows grows asked.node is.node)

    wider_later : variable_of d asked.within < variable_of e wider
    wider_later = omega (arith, is_wider.later, variable_of-Grows grows asked.within is.within)

    later : variable_of d asked.within < first_asked e (record { node = asked.node; within = wider })
    later = omega (arith, node_later, wider_later)

-- ---- more than is asked for

-- r has the configurations of the node with one of so many first options, and decides by a variable
-- behind v
pub record WidensBelow (d : Diagram) (node v count r : ℕ) : Type 0 where
  pub own : r < length d.nodes
  pub later : v < variable_of d r
  pub at : (c : List ℕ) → IsConfig d.arities c → slice_index c v < count → (sets_of d).has node c ≡ true → (sets_of d).has r c ≡ true
  pub some : (c : List ℕ) → IsConfig d.arities c → (sets_of d).has r c ≡ true → HasOption d node v count c

pub widens-none : {d : Diagram} {node v : ℕ} → IsDiagram d → v < length d.arities → WidensBelow d node v 0 0
widens-none {d} {node} {v} valid within = record {
  own = slice_get_within d.nodes 0 _ valid.never;
  later = omega (arith, within, variable_end valid 0 (omega arith));
  at = λ c listed chosen has. absurd (omega (arith, chosen));
  some = λ c listed has. absurd (false≢true (sym (has_end valid c listed 0 (omega arith)) ∙ has));
}

-- either is enough
either : (x y : Bool) → (x ≡ true) ⊎ (y ≡ true) → (x || y) ≡ true
either true y is = refl
either false y (inl is) = absurd (false≢true is)
either false y (inr is) = is

one-of : (x y : Bool) → (x || y) ≡ true → (x ≡ true) ⊎ (y ≡ true)
one-of true y is = inl refl
one-of false y is = inr is

module _ {d : Diagram} {node v wider k : ℕ} (valid : IsDiagram d) (own : node < length d.nodes) (within : v < length d.arities) (in_range : k < slice_index d.arities v)
    (low : v ≤ variable_of d node) (below : WidensBelow d node v k wider) where
  pub or-asked : IsApplication d (application Or wider (cofactor d node v k))
  or-asked = record { operation = tt; left = below.own; right = own_cofactor valid node own v k within in_range }

  pub widens-more : {e : Diagram} {r : ℕ} → Grows d e → Applies e (application Or wider (cofactor d node v k)) r → WidensBelow e node v (k + 1) r
  widens-more {e} {r} grows applies = record {
    own = applies.own;
    later = applies.from (suc v) (omega (arith, below.later, variable_of-Grows grows wider below.own))
        (omega (arith, later_cofactor valid node own v k within in_range low, variable_of-Grows grows _ own_part));
    at = λ c listed chosen has.
        let was = subst (λ ns. IsConfig ns c) grows.arities listed in
        let had = sym (has-Grows grows node c own was) ∙ has in
        applies.at c listed ∙ either _ _ (elim (cases_lt (slice_index c v) k) [
          | inl less ↦ inl (has-Grows grows wider c below.own was ∙ below.at c was less had)
          | inr more ↦ inr (has-Grows grows _ c own_part was ∙ has_cofactor valid node own v k c was (omega (arith, chosen, more)) ∙ had)
        ]);
    some = λ c listed has.
        let was = subst (λ ns. IsConfig ns c) grows.arities listed in
        elim (one-of _ _ (sym (applies.at c listed) ∙ has)) [
          | inl before ↦ (
              let found = below.some c was (sym (has-Grows grows wider c below.own was) ∙ before) in
              record {
                option = found.option;
                in_range = omega (arith, found.in_range);
                has = has-Grows grows node _ own (IsConfig-set v found.option was within (omega (arith, found.in_range, in_range))) ∙ found.has;
              }
              )
          | inr here ↦ record {
            option = k;
            in_range = omega arith;
            has = has-Grows grows node _ own (IsConfig-set v k was within in_range)
                ∙ sym (has_cofactor-set valid node own v k within in_range low c was) ∙ sym (has-Grows grows _ c own_part was) ∙ here;
          }
        ];
  }
    where
      own_part : cofactor d node v k < length d.nodes
      own_part = own_cofactor valid node own v k within in_range

-- all options are done
pub widens-all : {d e : Diagram} {node v count r : ℕ} → Grows d e → node < length d.nodes → v ≡ variable_of d node → v < length e.arities → count ≡ slice_index e.arities v
    → WidensBelow e node v count r → IsWider e node r
widens-all {d} {e} {node} {v} grows own top within count below = record {
  own = below.own;
  later = omega (arith, below.later, top, variable_of-Grows grows node own);
  at = λ c listed has. below.at c listed (omega (arith, count, listed.each v within)) has;
  some = λ c listed has. subst (λ u. HasOption e node u (slice_index e.arities u) c) (top ∙ sym (variable_of-Grows grows node own)) (subst (λ n. HasOption e node v n c) count (below.some c listed has));
}

-- what is asked for is told of the diagram in which it was asked
pub keeps-asked : {d e : Diagram} {asked : Question} {r : ℕ} → Grows d e → IsQuestion d asked → Simplifies e asked r
    → (c : List ℕ) → IsConfig d.arities c → (sets_of d).has asked.within c ≡ true → (sets_of e).has r c ≡ (sets_of d).has asked.node c
keeps-asked {d} {e} {asked} {r} grows is simplifies c listed has =
    let now = subst (λ ns. IsConfig ns c) (sym grows.arities) listed in
    simplifies.at c now (has-Grows grows asked.within c is.within listed ∙ has) ∙ has-Grows grows asked.node c is.node listed

pub said-asked : {d e : Diagram} {asked : Question} {r : ℕ} → Grows d e → IsQuestion d asked → Simplifies e asked r
    → (b c : List ℕ) → IsConfig d.arities b → (sets_of d).has asked.within b ≡ true → IsConfig d.arities c → IsSaid d asked ((sets_of e).has r c)
said-asked {d} {e} {asked} {r} grows is simplifies b c at held listed =
    let one = simplifies.said (λ never. false≢true (sym (has_end grows.was b at 0 (omega arith)) ∙ sym (ap (λ n. (sets_of d).has n b) never) ∙ held)) c (subst (λ ns. IsConfig ns c) (sym grows.arities) listed) in
    let was = subst (λ ns. IsConfig ns one.config) grows.arities one.listed in
    record {
      config = one.config;
      listed = was;
      held = sym (has-Grows grows asked.within one.config is.within was) ∙ one.held;
      is = sym (has-Grows grows asked.node one.config is.node was) ∙ one.is;
    }
