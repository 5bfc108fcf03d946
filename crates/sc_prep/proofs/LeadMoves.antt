-- How what the calls of a walk lead to is put together.
use Rattle.std.proofs.Common.{◌≡◌, ℕ, ◌<◌, ◌≤◌, List, [], ◌∷◌, All, length, Option, Some, Result, inl, inr, arith, refl, sym, ap, ◌∙◌, subst, IfErr, slice_get}
use Rattle.sc_base.specs.declared.fault.Fault as base
use Rattle.sc_prep.proofs.Contents.{contents-later}
use Rattle.sc_prep.proofs.Facts.{All-nil, All-push, Extends-refl, Extends-trans, IfErr-weaker, IsConfig-Keeps, IsTable-Keeps, slice_get-get_or, unwrap_or-slice_get}
use Rattle.sc_prep.proofs.Held.{refused-held}
use Rattle.sc_prep.specs.Going.{ReadsFiles}
use Rattle.sc_prep.proofs.Terms.{AreContents, Around, Begins, BranchesFull, Cond, Content, Contents, Extends, Files, IsCond, IsConfig, IsHeldWalk, IsReady, IsStored, IsTable, Keeps, KeepsContents, Leads, Leaves, Machine, OutOfMemory, Owns, OwnsSection, ReadFault, RefusesEach, Sets, Simulates, SimulatesOneOf, Standard, Stop, Stops, StopsBy, Walk, any_token, content_at, text_at}
use Rattle.sc_prep.proofs.Texts.{holds-none, owns-none}
use Rattle.sc_prep.proofs.WalkMoves.{owns-kept}

-- ---- what was kept of files

pub contents-stay : (c : Contents) → KeepsContents c c
contents-stay c = record { each = λ file x at. at }

pub contents-then : {a b c : Contents} → KeepsContents a b → KeepsContents b c → KeepsContents a c
contents-then one two = record { each = λ file x at. two.each file x (one.each file x at) }

-- a name is in the table whose file was read
pub content-named : {standard : Standard} {names files : List (List ℕ)} {holds : Option Files} {contents : Contents} {c : Option Content} → AreContents standard names files holds contents → (file : ℕ)
    → content_at contents file ≡ Some c → slice_get files file ≡ Some (text_at files file)
content-named {files = files} are file at =
    slice_get-get_or files file [] (are.named file _ at) ∙ ap Some (sym (unwrap_or-slice_get files file []))

-- ---- what is left at every outcome

pub reads-of : {held holds : Option Files} {failed fails : ℕ} {names more files : List (List ℕ)} → holds ≡ held → failed ≤ fails → Extends names more → ReadsFiles held holds failed fails names more files files
reads-of {files = files} kept counted grows = record { kept = kept; counted = counted; names = grows; files = Extends-refl files }

-- no file was read
pub reads-none : {holds : Option Files} {faults : ℕ} {names more files : List (List ℕ)} → Extends names more → ReadsFiles holds holds faults faults names more files files
reads-none grows = reads-of refl (omega arith) grows

pub reads-then : {held holds now : Option Files} {failed fails count : ℕ} {names mid more files mid_files more_files : List (List ℕ)} → ReadsFiles held holds failed fails names mid files mid_files
    → ReadsFiles holds now fails count mid more mid_files more_files → ReadsFiles held now failed count names more files more_files
reads-then one two = record {
  kept = two.kept ∙ one.kept;
  counted = omega (arith, one.counted, two.counted);
  names = Extends-trans one.names two.names;
  files = Extends-trans one.files two.files;
}

-- ---- a walk that is ready

module _ {standard : Standard} {old new : Sets} {names files : List (List ℕ)} {holds : Option Files} {w : Walk} {contents : Contents} (keeps : Keeps old new) (ready : IsReady standard old names files holds w contents) where
  pub ready-kept : IsReady standard new names files holds w contents
  ready-kept = record { owns = owns-kept keeps w ready.owns; table = IsTable-Keeps keeps ready.table; held = ready.held; read = ready.read }

  -- behind a file that was entered from a walk which the store and the tables still hold
  pub ready-left : {started : Sets} {next from begun : Walk} {within : Cond} {around : Around} → Leaves old w around new next → Begins started from within begun around → Owns old from
      → IsHeldWalk names (length files) any_token from → IsReady standard new names files holds next contents
  ready-left {next} {from} leaves begins owns held =
      let back = owns-kept keeps from owns in
      let kept = owns-kept keeps w ready.owns in
      subst (λ (v : Walk). IsReady standard new names files holds v contents) (sym leaves.is)
      (subst (λ (a : Around). IsReady standard new names files holds (record w { group = a.group; acting = next.acting; sections = a.sections; runs = a.runs }) contents) (sym begins.around_is) (record {
        owns = record { group = back.group; acting = leaves.acting.own; sections = back.sections; runs = back.runs; once = kept.once; prepared = kept.prepared };
        table = IsTable-Keeps keeps ready.table;
        held = record { runs = held.runs; list = ready.held.list; passed = ready.held.passed; faults = ready.held.faults; once = ready.held.once };
        read = ready.read;
      }))

  pub ready-refused : {next : Walk} {fault : base.Fault} → RefusesEach old w (fault ∷ []) new next → IsCond old fault.cond.0 → fault.place.file.0 < length files
      → IsReady standard new names files holds next contents
  ready-refused {next} {fault} refuses own there =
      let kept = owns-kept keeps w ready.owns in
      let F : base.Fault → Type 0 = λ f. IsCond new f.cond.0 in
      record {
        owns = subst (Owns new) (sym refuses.same) (record {
          group = kept.group;
          acting = refuses.acting.own;
          sections = kept.sections;
          runs = kept.runs;
          once = kept.once;
          prepared = record {
            list = kept.prepared.list;
            faults = subst (All F) (sym refuses.faults) (All-push F w.prepared.faults.items fault kept.prepared.faults (keeps.own fault.cond.0 own));
            live = refuses.live.own;
          };
        });
        table = subst (λ (v : Walk). IsTable new names v.table) (sym refuses.same) (IsTable-Keeps keeps ready.table);
        held = refused-held names (length files) any_token w next fault refuses there ready.held;
        read = ready.read;
      }

pub ready-begun : {standard : Standard} {s : Sets} {names files : List (List ℕ)} {holds : Option Files} {w next : Walk} {contents : Contents} {within : Cond} {around : Around} → Begins s w within next around
    → IsCond s within.0 → IsReady standard s names files holds w contents → IsReady standard s names files holds next contents
ready-begun {standard} {s} {names} {files} {holds} {w} {next} {contents} begins own ready = subst (λ (v : Walk). IsReady standard s names files holds v contents) (sym begins.is) (record {
  owns = record {
    group = own;
    acting = own;
    sections = subst (All (OwnsSection s)) (sym begins.sections) (All-nil (OwnsSection s));
    runs = owns-none begins.gathered begins.held begins.read s begins.pragmas;
    once = ready.owns.once;
    prepared = ready.owns.prepared;
  };
  table = ready.table;
  held = record { runs = holds-none begins.gathered begins.held begins.read names (length files) begins.pragmas; list = ready.held.list; passed = ready.held.passed; faults = ready.held.faults; once = ready.held.once };
  read = ready.read;
})

-- the walk after a line that enters no file
pub ready-moved : {standard : Standard} {old new : Sets} {names more files : List (List ℕ)} {holds : Option Files} {w next : Walk} {contents : Contents} {does : List ℕ → Machine → Machine → Type 0} → Extends names more
    → SimulatesOneOf files names old w more new next does → IsHeldWalk more (length files) any_token next → IsReady standard old names files holds w contents
    → IsReady standard new more files holds next contents
ready-moved {files = files} grows moved held ready =
    record { owns = moved.owns; table = moved.table; held = held; read = contents-later grows (Extends-refl files) ready.read }

-- what a stage needs of it
pub stored-ready : {standard : Standard} {s : Sets} {names files : List (List ℕ)} {holds : Option Files} {w : Walk} {contents : Contents} → IsReady standard s names files holds w contents → IsStored s names (length files) w
stored-ready ready = record { owns = ready.owns; table = ready.table; held = ready.held }

-- ---- what one call leads to, and the next

pub leads-one : {old new : Sets} {names more files : List (List ℕ)} {w next : Walk} {does : List ℕ → Machine → Machine → Type 0} (from : Machine → Type 0)
    → SimulatesOneOf files names old w more new next does → Leads files names old w files more new next from does
leads-one from moved = record { at = λ config m listed at here. moved.at config m listed at }

pub leads-then : {a b c : Sets} {files names mid_files mid more_files more : List (List ℕ)} {u v w : Walk} {from between : Machine → Type 0} {does later whole : List ℕ → Machine → Machine → Type 0} → Keeps a b
    → Leads files names a u mid_files mid b v from does → Leads mid_files mid b v more_files more c w between later
    → ((config : List ℕ) (m n : Machine) → from m → does config m n → between n)
    → ((config : List ℕ) (m n o : Machine) → IsConfig a.arities config → from m → does config m n → later config n o → Simulates c more more_files w config o → whole config m o)
    → Leads files names a u more_files more c w from whole
leads-then keeps one two goes joins = record {
  at = λ config m listed at here.
      let first = one.at config m listed at here in
      let second = two.at config first.machine (IsConfig-Keeps keeps listed) first.simulates (goes config m first.machine here first.done) in
      record { machine = second.machine; done = joins config m first.machine second.machine listed here first.done second.done second.simulates; simulates = second.simulates };
}

pub leads-as : {old new : Sets} {files names more_files more : List (List ℕ)} {w next : Walk} {from here : Machine → Type 0} {does other : List ℕ → Machine → Machine → Type 0}
    → Leads files names old w more_files more new next from does → ((m : Machine) → here m → from m) → ((config : List ℕ) (m n : Machine) → here m → does config m n → other config m n)
    → Leads files names old w more_files more new next here other
leads-as leads goes turns = record {
  at = λ config m listed at is.
      let to = leads.at config m listed at (goes m is) in
      record { machine = to.machine; done = turns config m to.machine is to.done; simulates = to.simulates };
}

-- ---- why there is no answer

pub limit-stops : {A : Type 0} (arities : List ℕ) (limit old new : ℕ) (r : Result A Stop) → IfErr r (StopsBy arities limit) → IfErr r (Stops arities limit old new)
limit-stops arities limit old new r stops = IfErr-weaker r (StopsBy arities limit) (Stops arities limit old new) by stops
  where
    by : (s : Stop) → StopsBy arities limit s → Stops arities limit old new s
    by (BranchesFull count) is = is
    by ReadFault is = absurd is
    by OutOfMemory is = tt

-- a call stops that was made later
pub stops-later : {A : Type 0} {arities now : List ℕ} {old mid : ℕ} (limit new : ℕ) (r : Result A Stop) → now ≡ arities → old ≤ mid → IfErr r (Stops now limit mid new)
    → IfErr r (Stops arities limit old new)
stops-later {arities = arities} {now} {old} {mid} limit new r same up stops = IfErr-weaker r (Stops now limit mid new) (Stops arities limit old new) by stops
  where
    by : (s : Stop) → Stops now limit mid new s → Stops arities limit old new s
    by (BranchesFull count) is = subst (λ a. StopsBy a limit (BranchesFull count)) same is
    by ReadFault (inl less) = inl (omega (arith, less, up))
    by ReadFault (inr most) = inr most
    by OutOfMemory is = tt
