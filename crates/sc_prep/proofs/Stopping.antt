-- Walks that stop because one place has too many footprints.
use Rattle.std.proofs.Common.{◌≡◌, ℕ, List, [], ◌∷◌, get_or, Result, Ok, Err, subst}
use Rattle.std.specs.Prelude.{IfErr}
use Rattle.sc_prep.proofs.Terms.{BranchesFull, HasFootprints, IsConfig, Moment, MomentsHave, Origin, OutOfMemory, Place, ReadFault, ReadsNothing, SourceFootprint, Spot, Stop, StopsAmong, StopsAtPlace}

-- where each configuration that has a footprint has it in another sense too, at a place that
-- follows from the one
pub footprints-as : {K L V : Type 0} {is_listed : List ℕ → Type 0} {P : List ℕ → K × V → Type 0} {Q : List ℕ → L × V → Type 0} {count : ℕ} (at : K → L)
    → ((c : List ℕ) (f : K × V) → is_listed c → P c f → Q c (at f.0, f.1)) → HasFootprints is_listed P count → HasFootprints is_listed Q count
footprints-as at to h = record {
  at = at h.at;
  footprints = h.footprints;
  many = h.many;
  listed = h.listed;
  each = λ k d within. to _ _ (h.listed k d within) (h.each k d within);
  apart = h.apart;
}

pub stops-as : {K L V : Type 0} {is_listed : List ℕ → Type 0} {P : List ℕ → K × V → Type 0} (at : K → L) (Q : List ℕ → L × V → Type 0) (limit : ℕ) (stop : Stop)
    → ((c : List ℕ) (f : K × V) → is_listed c → P c f → Q c (at f.0, f.1)) → StopsAmong is_listed P limit stop → StopsAmong is_listed Q limit stop
stops-as at Q limit (BranchesFull count) to h = footprints-as at to h
stops-as at Q limit ReadFault to h = tt
stops-as at Q limit OutOfMemory to h = tt

-- those that have something are of another kind, too
pub stops-among : {K V : Type 0} {is_listed is_other : List ℕ → Type 0} {has : List ℕ → K × V → Type 0} (limit : ℕ) (stop : Stop)
    → ((c : List ℕ) (f : K × V) → is_listed c → has c f → is_other c) → StopsAmong is_listed has limit stop → StopsAmong is_other has limit stop
stops-among limit (BranchesFull count) to h = record {
  at = h.at;
  footprints = h.footprints;
  many = h.many;
  listed = λ k d below. to (get_or h.footprints k d).0 (h.at, (get_or h.footprints k d).1) (h.listed k d below) (h.each k d below);
  each = h.each;
  apart = h.apart;
}
stops-among limit ReadFault to h = tt
stops-among limit OutOfMemory to h = tt

-- the same of an answer, where the store may have grown
pub answer-stops : {A K L V : Type 0} {arities other : List ℕ} {P : List ℕ → K × V → Type 0} (at : K → L) (Q : List ℕ → L × V → Type 0) (limit : ℕ) (r : Result A Stop) → other ≡ arities
    → ((c : List ℕ) (f : K × V) → IsConfig arities c → P c f → Q c (at f.0, f.1)) → IfErr r (StopsAtPlace other P limit) → IfErr r (StopsAtPlace arities Q limit)
answer-stops at Q limit (Ok x) same to h = tt
answer-stops {P = P} at Q limit (Err stop) same to h = stops-as at Q limit stop to (subst (λ a. StopsAtPlace a P limit stop) same h)

-- in the file itself
abbrev pub here_at : Spot → Origin
here_at spot = record { chain = []; spot = spot }

-- in a file that is included at this place
abbrev pub included_at : Place → Origin → Origin
included_at place at = record at { chain = place ∷ at.chain }

-- what is had at a moment is had at the same one in another sense
pub moments-as : {P Q : List Place → Moment → Type 0} {f : SourceFootprint} → ((k : Moment) → P f.0.chain k → Q f.0.chain k) → MomentsHave P f → MomentsHave Q f
moments-as to h = record { moment = h.moment; comes = to h.moment h.comes; has = h.has }

-- nor could a file be read
pub reading-stops-nowhere : {K V : Type 0} (arities : List ℕ) (P : List ℕ → K × V → Type 0) (limit old new : ℕ) (stop : Stop) → ReadsNothing old new stop → StopsAtPlace arities P limit stop
reading-stops-nowhere arities P limit old new (BranchesFull count) is = absurd is
reading-stops-nowhere arities P limit old new ReadFault is = tt
reading-stops-nowhere arities P limit old new OutOfMemory is = tt

-- and among whatever configurations
pub reading-stops-none : {K V : Type 0} (is_listed : List ℕ → Type 0) (P : List ℕ → K × V → Type 0) (limit old new : ℕ) (stop : Stop) → ReadsNothing old new stop → StopsAmong is_listed P limit stop
reading-stops-none is_listed P limit old new (BranchesFull count) nothing = absurd nothing
reading-stops-none is_listed P limit old new ReadFault nothing = tt
reading-stops-none is_listed P limit old new OutOfMemory nothing = tt
