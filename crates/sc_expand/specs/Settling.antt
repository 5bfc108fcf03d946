-- What a list settles to under all configurations at once, seen at one.
use Rattle.std.specs.Prelude.{◌≡◌, ℕ, ◌<◌, false, List, [], All}
use Rattle.c11_macros.specs.Macros.{Macros}
use Rattle.sc_base.specs.declared.id.Cond.{Cond}
use Rattle.sc_base.specs.Seen.{IsHeld}
use Rattle.sc_expand.specs.declared.settling.Settled.{Settled}
use Rattle.sc_expand.specs.Having.{tokens_in}
use Rattle.sc_expand.specs.Running.{IsDone}
use Rattle.sc_expand.specs.Seen.{AreHeld, Stores, failures_at, provenance_of, seen_at}
use Rattle.sc_expand.specs.Spans.{Becomes}
use Rattle.sc_guarded.specs.Items.{items_at}
use Rattle.sc_model.specs.Sets.{IsCond, IsConfig, IsNever}
use Rattle.sc_subst.specs.declared.hidden.Hidden.{Hidden}
use Rattle.sc_subst.specs.Seen.{seen_hidden}

-- The lists are at each configuration what this list settles to with its macros, or its failure
-- alone: what is put out is what each item of the list became, one after the other. One that is not
-- asked for has nothing of them.
pub record IsSettled (old new : Stores) (files : List (List ℕ)) (macros : List ℕ → Macros) (list : List (Cond × Hidden)) (live : ℕ) (s : Settled) : Type 0 where
  pub out : List (Cond × Hidden)
  pub tokens : s.done ≡ tokens_in out
  pub is : (c : List ℕ) → IsConfig old.sets.arities c → IsDone (provenance_of files) (macros c) (seen_at old list c) (seen_at new out c) (seen_at new s.rest c) (failures_at new.sets s.held.items c)
      (old.sets.has live c)
  pub none : (c : List ℕ) → IsConfig old.sets.arities c → old.sets.has live c ≡ false → items_at new.sets out c ≡ []
  pub segments : Becomes (seen_hidden old.names old.hides) (provenance_of files) macros old.sets list live new.sets (seen_hidden new.names new.hides) out s.rest

-- the stores made all conditions, texts and hide sets, the table of file names has so many, and
-- each token that is put out is some configuration's
pub record IsHeldSettled (st : Stores) (files : ℕ) (s : Settled) : Type 0 where
  pub own : All (λ item. IsCond st.sets item.0.0) s.done
  pub held : All (λ item. IsHeld st.names item.1) s.done
  pub placed : All (λ item. item.1.place.file.0 < files) s.done
  pub some : All (λ item. IsNever st.sets item.0.0 → ⊥) s.done
  pub rest : AreHeld st files s.rest
  pub faults_own : All (λ f. IsCond st.sets f.cond.0) s.held.items
  pub faults_placed : All (λ f. f.place.file.0 < files) s.held.items
