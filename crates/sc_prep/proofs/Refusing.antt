-- Why a list isn't parted by its tokens.
use Rattle.std.proofs.Common.{◌≡◌, ℕ, ◌+◌, Bool, List, All, map, sym, ap, ◌∙◌}
use Rattle.sc_hoist.proofs.ItemLemmas.{places_from-Keeps}
use Rattle.sc_prep.proofs.Facts.{All-map, IsConfig-kept, pairs-both}
use Rattle.sc_prep.proofs.Terms.{BranchesFull, Cond, Denotes, HasLists, HaveLists, IsCond, IsConfig, Keeps, OutOfMemory, ReadFault, Refuses, Sets, Stop, StopsBy, StopsByLists, Token, places_at}

-- different lists of places are those of different configurations
pub stops-by : (s : Sets) (cond : ℕ) (list : List ℕ → List ℕ) (limit : ℕ) (stop : Stop) → Refuses s cond list limit stop → StopsBy s.arities limit stop
stops-by s cond list limit (BranchesFull count) is = (
  is.0,
  record {
    configs = is.1.configs;
    many = is.1.many;
    listed = is.1.listed;
    apart = λ i j d before within e. is.1.apart i j d before within (ap list e);
  },
)
stops-by s cond list limit ReadFault is = is
stops-by s cond list limit OutOfMemory is = tt

-- and of the configurations that the condition was made of
module _ {old s : Sets} (keeps : Keeps old s) {cond : ℕ} {test : List ℕ → Bool} (means : Denotes s cond test) (list : List (Cond × Token)) (own : All (λ (item : Cond × Token). IsCond old item.0.0) list) where
  same-places : (c : List ℕ) → IsConfig old.arities c → places_at s list c ≡ places_at old list c
  same-places c listed = places_from-Keeps 0 (map (λ (item : Cond × Token). item.0) list) c keeps (All-map (λ (item : Cond). IsCond old item.0) (λ (item : Cond × Token). item.0) list own) listed

  lists-before : (count : ℕ) → HasLists s cond (λ c. places_at s list c) count → HaveLists old.arities test (λ c. places_at old list c) count
  lists-before count has =
      let listed : All (IsConfig old.arities) has.configs = λ k d within. IsConfig-kept keeps (has.listed k d within) in
      record {
        configs = has.configs;
        many = has.many;
        listed = listed;
        among = λ k d within. sym (means.at _ (has.listed k d within)) ∙ has.has k d within;
        apart = pairs-both (λ c d. places_at s list c ≡ places_at s list d → ⊥) (λ c d. places_at old list c ≡ places_at old list d → ⊥) (IsConfig old.arities)
            (λ c d here there differ same. differ (same-places c here ∙ (same ∙ sym (same-places d there)))) has.configs listed has.apart;
      }

  pub stops-by-lists : (limit : ℕ) (stop : Stop) → Refuses s cond (λ c. places_at s list c) limit stop → StopsByLists old.arities test (λ c. places_at old list c) limit stop
  stops-by-lists limit (BranchesFull count) is = lists-before (limit + 1) is.1
  stops-by-lists limit ReadFault is = tt
  stops-by-lists limit OutOfMemory is = tt
