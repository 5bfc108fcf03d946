-- Where the expansion of what a walk has stops, each configuration's machine comes to a footprint.
use Rattle.std.proofs.Common.{◌≡◌, ℕ, ◌&&◌, true, List, [], All, ap, map, sym, subst, ◌∙◌, if◌then◌else◌, is_none}
use Rattle.sc_base.specs.declared.token.Token as base
use Rattle.c11_macros.specs.Expansion.{IsWithin}
use Rattle.sc_expand.proofs.PlainTables.{entry_names, within-table}
use Rattle.sc_expand.specs.Footprints.{StopsAtName}
use Rattle.sc_prep.proofs.ApartLemmas.{different}
use Rattle.sc_prep.proofs.ExpressionMoves.{asked-at}
use Rattle.sc_prep.proofs.Facts.{items_at-Keeps, macros_at-Keeps}
use Rattle.sc_prep.proofs.LeftRuns.{left-has}
use Rattle.sc_prep.proofs.Machine.{right-none}
use Rattle.sc_prep.proofs.NameFootprints.{name-as, name-footprints}
use Rattle.sc_prep.proofs.Stopping.{stops-as}
use Rattle.sc_prep.proofs.Terms.{AreDifferent, Comes, Cond, Denotes, IsCond, IsConfig, IsTable, Keeps, NameHas, Sets, Spot, StandApart, Stop, StopsAtPlace, Used, Walk, acts, any_machine, items_at, macros_at, place_alone, run_at, seen, tokens_in, tokens_read, unhidden}

-- that of the run of each that acts, as it was read
pub run-stops : {old s : Sets} (names files : List (List ℕ)) (keeps : Keeps old s) (w : Walk) → IsCond old w.acting.0 → IsTable old names w.table → (text : List (Cond × base.Token)) → tokens_in text ≡ tokens_read w.runs.read
    → ((c : List ℕ) → IsConfig old.arities c → items_at s text c ≡ (if old.has w.acting.0 c then run_at old w.runs.read c else [])) → (limit : ℕ) (stop : Stop)
    → StopsAtName (λ t. unhidden (seen names files t)) place_alone (macros_at s names w.table) s w.acting.0 text limit stop → StandApart (tokens_read w.runs.read)
    → StopsAtPlace old.arities (Comes old names files w any_machine (λ c m f. (acts m ≡ true) × NameHas m.state.macros m.state.run f)) limit stop
run-stops {old} {s} names files keeps w own is text tokens at limit stop stops apart =
    let Has : List ℕ → Spot × Used → Type 0 = λ c f. (s.has w.acting.0 c ≡ true) × NameHas (macros_at s names w.table c) (map (seen names files) (items_at s text c)) f in
    stops-as (λ at. at) _ limit stop
    (λ c f listed has m simulates _.
    let here = sym (keeps.at w.acting.0 c own listed) ∙ has.0 in
    let acting = sym simulates.acting ∙ here in
    let clean = right-none m.active m.fault acting in
    let defines = λ (name : List ℕ). macros_at-Keeps keeps is c name listed ∙ simulates.macros clean name in
    let read = ap (map (seen names files)) (at c listed ∙ ap (λ b. if b then run_at old w.runs.read c else []) here) in
    let within = subst (IsWithin (entry_names names w.table.entries.entries)) (λ i. λ name. defines name i) (within-table s names w.table c) in
    (acting, left-has (entry_names names w.table.entries.entries) within (simulates.text clean).run (subst (λ run. NameHas m.state.macros run f) read (name-as defines has.1))))
    (subst (λ a. StopsAtPlace a Has limit stop) keeps.arities
    (name-footprints s names files (macros_at s names w.table) w.acting.0 text limit stop (different names files text (subst StandApart (sym tokens) apart)) stops))

-- that of a list for those of a condition that were not refused
pub list-stops : {old s : Sets} (names files : List (List ℕ)) (keeps : Keeps old s) (w : Walk) (among live : Cond) → Denotes s live.0 (λ c. old.has among.0 c && old.has w.prepared.live.0 c) → IsTable old names w.table
    → (list : List (Cond × base.Token)) → All (λ (item : Cond × base.Token). IsCond old item.0.0) list → (limit : ℕ) (stop : Stop)
    → StopsAtName (λ t. unhidden (seen names files t)) place_alone (macros_at s names w.table) s live.0 list limit stop → AreDifferent names files list
    → StopsAtPlace old.arities (Comes old names files w any_machine
    (λ c m f. ((old.has among.0 c && is_none m.fault) ≡ true) × NameHas m.state.macros (map (seen names files) (items_at old list c)) f)) limit stop
list-stops {old} {s} names files keeps w among live live_is is list own limit stop stops apart =
    let Has : List ℕ → Spot × Used → Type 0 = λ c f. (s.has live.0 c ≡ true) × NameHas (macros_at s names w.table c) (map (seen names files) (items_at s list c)) f in
    stops-as (λ at. at) _ limit stop
    (λ c f listed has m simulates _.
    let asked = sym (asked-at keeps w among live live_is c m listed simulates) ∙ has.0 in
    let clean = right-none (old.has among.0 c) m.fault asked in
    let defines = λ (name : List ℕ). macros_at-Keeps keeps is c name listed ∙ simulates.macros clean name in
    (asked, subst (λ items. NameHas m.state.macros (map (seen names files) items) f) (items_at-Keeps list c keeps own listed) (name-as defines has.1)))
    (subst (λ a. StopsAtPlace a Has limit stop) keeps.arities (name-footprints s names files (macros_at s names w.table) live.0 list limit stop apart stops))
