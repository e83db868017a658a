-- The states of the atoms that are behind: which they are, and that they may go in their slots.
use Rattle.std.proofs.Common.{◌≡◌, ◌≢◌, ◌⊎◌, inl, inr, ◌+◌, ◌≤◌, ◌<◌, ℕ, zero, suc, refl, sym, ◌∙◌, ap, subst, List, [], ◌∷◌, ◌++◌, length, slice_get, arith, nat_lt, Bool, Option, None, Some, true, false, cond, if◌then◌else◌, is_some, ⊎_elim, ◌^◌}
use Rattle.std.specs.List.{cons_option, filter_map, range_with_len}
use Rattle.std.specs.Option.{option_map, option_to_list}
use Rattle.std.proofs.lemmas.Bool.{cases_eq, cases_lt, false≢true, ltb-true}
use Rattle.std.proofs.lemmas.Option.{none-some, same_Some, slice_get_past, slice_get_within}
use Rattle.petri_atom.specs.Local.{Local, has}
use Rattle.petri_atom.proofs.Sets.{has-above, same_numbers}
use Rattle.disk_model.specs.Cells.{Cell}
use Rattle.record_codec.specs.Saved.{SavedFields}
use Rattle.record_replay.specs.Records.{count_of}
use Rattle.snapshot_writer.specs.Parcels.{saved_by}
use Rattle.snapshot_writer.specs.Slots.{other_slot}
use Rattle.plant_model.specs.Fitting.{AllFit}
use Rattle.plant_model.specs.Plant.{PlantDefinition}
use Rattle.plant_image.specs.Contents.{contents_of}
use Rattle.plant_image.specs.Faults.{is_of_atom}
use Rattle.plant_image.specs.Standing.{IsOnTheWay, Leads}
use Rattle.plant_image.proofs.ByAtoms.{element_at}
use Rattle.plant_image.proofs.SavedFits.{fitting_passes}
use Rattle.trimmer.specs.Covered.{saved_count}
use Rattle.trimmer.specs.declared.saved.SavedAt.{SavedAt}
use Rattle.plant_core.specs.Invariant.{FitsTogether}
use Rattle.plant_core.specs.Snapshots.{copies_below, copies_behind, copy_among, copy_if_behind}
use Rattle.plant_core.specs.View.{View, behind_state, behind_states, is_behind}
use Rattle.plant_core.proofs.Copies.{way-whole}
use Rattle.plant_core.proofs.Stored.{IsDue, IsNewer}

-- ---- what is picked out of a row of numbers

module _ {X : Type 0} (pick : ℕ → Option X) where
  alone : (o : Option X) → cons_option o [] ≡ [] ++ option_to_list o
  alone None = refl
  alone (Some x) = refl

  beside : (o : Option X) (xs ys : List X) → cons_option o (xs ++ ys) ≡ cons_option o xs ++ ys
  beside None xs ys = refl
  beside (Some x) xs ys = refl

  -- of one number more
  pub pick-more : (from many : ℕ) → filter_map pick (range_with_len from (suc many)) ≡ filter_map pick (range_with_len from many) ++ option_to_list (pick (from + many))
  pick-more from zero =
      let e : from ≡ from + zero = omega arith in
      alone (pick from) ∙ ap (λ (k : ℕ). [] ++ option_to_list (pick k)) e
  pick-more from (suc many) =
      let e : (from + 1) + many ≡ from + suc many = omega arith in
      ap (cons_option (pick from)) (pick-more (from + 1) many) ∙
      beside (pick from) (filter_map pick (range_with_len (from + 1) many)) (option_to_list (pick ((from + 1) + many))) ∙
      ap (λ (k : ℕ). filter_map pick (range_with_len from (suc many)) ++ option_to_list (pick k)) e

module _ (pick : ℕ → Option SavedFields) (own : (k : ℕ) (x : SavedFields) → pick k ≡ Some x → x.atom ≡ k) where
  -- each is picked at its own number
  pub picked : (from many i : ℕ) (x : SavedFields) → slice_get (filter_map pick (range_with_len from many)) i ≡ Some x → (from ≤ x.atom) × (x.atom < from + many) × (pick x.atom ≡ Some x)
  picked from zero i x there = absurd (none-some x there)
  picked from (suc many) i x there = by (λ j at. later (picked (from + 1) many j x at)) (pick from) refl i there
    where
      later : (from + 1 ≤ x.atom) × (x.atom < (from + 1) + many) × (pick x.atom ≡ Some x) → (from ≤ x.atom) × (x.atom < from + suc many) × (pick x.atom ≡ Some x)
      later found = (omega (arith, found.0), omega (arith, found.1), found.2)

      by : ((j : ℕ) → slice_get (filter_map pick (range_with_len (from + 1) many)) j ≡ Some x → (from ≤ x.atom) × (x.atom < from + suc many) × (pick x.atom ≡ Some x)) → (o : Option SavedFields) → pick from ≡ o → (j : ℕ)
          → slice_get (cons_option o (filter_map pick (range_with_len (from + 1) many))) j ≡ Some x → (from ≤ x.atom) × (x.atom < from + suc many) × (pick x.atom ≡ Some x)
      by rest None is j at = rest j at
      by rest (Some y) is zero at =
          let same : y ≡ x = same_Some y x at in
          let here : pick from ≡ Some x = is ∙ ap (λ (s : SavedFields). Some s) same in
          let atom : x.atom ≡ from = own from x here in
          (omega (arith, atom), omega (arith, atom), ap pick atom ∙ here)
      by rest (Some y) is (suc j) at = rest j at

  -- and they rise
  pub picked-rise : (from many i j : ℕ) (x y : SavedFields) → i < j → slice_get (filter_map pick (range_with_len from many)) i ≡ Some x → slice_get (filter_map pick (range_with_len from many)) j ≡ Some y → x.atom < y.atom
  picked-rise from zero i j x y before first second = absurd (none-some x first)
  picked-rise from (suc many) i j x y before first second = by (λ m n less at_m at_n. picked-rise (from + 1) many m n x y less at_m at_n) (pick from) refl i j before first second
    where
      by : ((m n : ℕ) → m < n → slice_get (filter_map pick (range_with_len (from + 1) many)) m ≡ Some x → slice_get (filter_map pick (range_with_len (from + 1) many)) n ≡ Some y → x.atom < y.atom)
          → (o : Option SavedFields) → pick from ≡ o → (m n : ℕ) → m < n → slice_get (cons_option o (filter_map pick (range_with_len (from + 1) many))) m ≡ Some x
          → slice_get (cons_option o (filter_map pick (range_with_len (from + 1) many))) n ≡ Some y → x.atom < y.atom
      by rest None is m n less at_m at_n = rest m n less at_m at_n
      by rest (Some z) is m zero less at_m at_n = absurd (omega (arith, less))
      by rest (Some z) is zero (suc n) less at_m at_n =
          let same : z ≡ x = same_Some z x at_m in
          let atom : x.atom ≡ from = own from x (is ∙ ap (λ (s : SavedFields). Some s) same) in
          omega (arith, atom, (picked (from + 1) many n y at_n).0)
      by rest (Some z) is (suc m) (suc n) less at_m at_n = rest m n (omega (arith, less)) at_m at_n

-- ---- the states of the atoms that are behind

-- The state of an atom that is behind: it is one of the states, and its count is above the known one.
pub record IsBehind (known : List SavedAt) (counts : List ℕ) (number : ℕ) (states : List Local) (atom : ℕ) (saved : SavedFields) : Type 0 where
  pub state : Local
  pub there : slice_get states atom ≡ Some state
  pub is : saved_by atom (count_of counts atom) number state ≡ saved
  pub newer : saved_count known atom < count_of counts atom

pub behind-is : (known : List SavedAt) (counts : List ℕ) (number : ℕ) (states : List Local) (atom : ℕ) (saved : SavedFields) → copy_if_behind known counts number states atom ≡ Some saved → IsBehind known counts number states atom saved
behind-is known counts number states atom saved found = by_test (nat_lt (saved_count known atom) (count_of counts atom)) refl found
  where
    by_state : (o : Option Local) → slice_get states atom ≡ o → saved_count known atom < count_of counts atom → option_map (saved_by atom (count_of counts atom) number) o ≡ Some saved → IsBehind known counts number states atom saved
    by_state None at newer is = absurd (none-some saved is)
    by_state (Some s) at newer is = record { state = s; there = at; is = same_Some (saved_by atom (count_of counts atom) number s) saved is; newer = newer }

    by_test : (b : Bool) → nat_lt (saved_count known atom) (count_of counts atom) ≡ b → (if b then copy_among counts number states atom else None) ≡ Some saved → IsBehind known counts number states atom saved
    by_test false less is = absurd (none-some saved is)
    by_test true less is = by_state (slice_get states atom) refl (ltb-true (saved_count known atom) (count_of counts atom) less) is

-- it has the number of its atom
pub behind-own : (known : List SavedAt) (counts : List ℕ) (number : ℕ) (states : List Local) (atom : ℕ) (saved : SavedFields) → copy_if_behind known counts number states atom ≡ Some saved → saved.atom ≡ atom
behind-own known counts number states atom saved found = ap (λ (s : SavedFields). s.atom) (sym (behind-is known counts number states atom saved found).is)

module _ (plant : PlantDefinition) (v : View) (bodies : List (List ℕ)) (kept : FitsTogether plant v bodies) (i : ℕ) (saved : SavedFields) (at : slice_get (behind_states v) i ≡ Some saved) where
  found : IsBehind v.saved v.acked_counts v.number v.acked saved.atom saved
  found = behind-is v.saved v.acked_counts v.number v.acked saved.atom saved
      (picked (behind_state v) (λ k x is. behind-own v.saved v.acked_counts v.number v.acked k x is) 0 (length v.acked) i saved at).2

  -- an acknowledged state of an atom that is behind is newer than what is saved
  pub behind-newer : IsNewer v saved
  behind-newer =
      let count : count_of v.acked_counts saved.atom ≡ saved.count = ap (λ (s : SavedFields). s.count) found.is in
      record { acked = omega (arith, count); newer = omega (arith, count, found.newer) }

  pub behind-within : saved.atom < length plant.atoms
  behind-within = omega (arith, slice_get_within v.acked saved.atom found.state found.there, kept.of_plant)

  -- and it may go in the slot that does not hold the newest one
  pub behind-due : (cells : List Cell) → Leads plant (contents_of (length plant.atoms) cells) v.acked v.acked_counts v.number → IsDue plant (other_slot saved.atom cells) saved cells
  behind-due cells leads = record {
    within = behind-within;
    other = refl;
    passes = λ a its. subst (λ (s : SavedFields). is_of_atom saved.atom a s ≡ true) found.is (fitting_passes saved.atom (count_of v.acked_counts saved.atom) v.number a found.state (kept.fits saved.atom a found.state its found.there));
    way = λ a its. subst (IsOnTheWay (contents_of (length plant.atoms) cells) a) found.is (way-whole plant (contents_of (length plant.atoms) cells) v.acked v.acked_counts v.number leads saved.atom a found.state its found.there);
    early = omega (arith, ap (λ (s : SavedFields). s.at) found.is, leads.last);
  }

-- the atoms of these states rise
pub behind-rise : (v : View) (i j : ℕ) (s t : SavedFields) → i < j → slice_get (behind_states v) i ≡ Some s → slice_get (behind_states v) j ≡ Some t → s.atom < t.atom
behind-rise v i j s t before first second = picked-rise (behind_state v) (λ k x is. behind-own v.saved v.acked_counts v.number v.acked k x is) 0 (length v.acked) i j s t before first second

-- those of one atom more
pub below-more : (known : List SavedAt) (counts : List ℕ) (number : ℕ) (states : List Local) (i : ℕ) → copies_below known counts number states (i + 1) ≡ copies_below known counts number states i ++ option_to_list (copy_if_behind known counts number states i)
below-more known counts number states i =
    let pick : ℕ → Option SavedFields = copy_if_behind known counts number states in
    let one : i + 1 ≡ suc i = omega arith in
    let none : 0 + i ≡ i = omega arith in
    ap (copies_below known counts number states) one ∙ pick-more pick 0 i ∙ ap (λ (k : ℕ). copies_below known counts number states i ++ option_to_list (pick k)) none

-- each is of an atom before that
pub below-within : (known : List SavedAt) (counts : List ℕ) (number : ℕ) (states : List Local) (atoms i : ℕ) (x : SavedFields) → slice_get (copies_below known counts number states atoms) i ≡ Some x → x.atom < atoms
below-within known counts number states atoms i x at =
    let found = picked (copy_if_behind known counts number states) (λ k y is. behind-own known counts number states k y is) 0 atoms i x at in
    omega (arith, found.1)

-- ---- whether there are any

module _ (pick : ℕ → Option SavedFields) where
  -- nothing is picked
  pub none-picked : (from many : ℕ) → ((k : ℕ) → is_some (pick k) ≡ false) → filter_map pick (range_with_len from many) ≡ []
  none-picked from zero none = refl
  none-picked from (suc many) none = by (none-picked (from + 1) many none) (pick from) (none from)
    where
      by : filter_map pick (range_with_len (from + 1) many) ≡ [] → (o : Option SavedFields) → is_some o ≡ false → cons_option o (filter_map pick (range_with_len (from + 1) many)) ≡ []
      by rest None is = rest
      by rest (Some x) is = absurd (false≢true (sym is))

  -- and the other way round
  pub picked-none : (from many k : ℕ) → filter_map pick (range_with_len from many) ≡ [] → from ≤ k → k < from + many → is_some (pick k) ≡ false
  picked-none from zero k none low high = absurd (omega (arith, low, high))
  picked-none from (suc many) k none low high = by (λ rest apart. picked-none (from + 1) many k rest (omega (arith, low, apart)) (omega (arith, high))) (pick from) refl none
    where
      by : (filter_map pick (range_with_len (from + 1) many) ≡ [] → k ≢ from → is_some (pick k) ≡ false) → (o : Option SavedFields) → pick from ≡ o → cons_option o (filter_map pick (range_with_len (from + 1) many)) ≡ [] → is_some (pick k) ≡ false
      by later None is rest = ⊎_elim
          (λ same. ap (λ (n : ℕ). is_some (pick n)) same ∙ ap (λ (o : Option SavedFields). is_some o) is)
          (λ apart. later rest apart)
          (cases_eq k from)
      by later (Some x) is rest = absurd (let rest = rest in cc)

module _ (v : View) where
  -- an atom that is there is to be saved if it is behind
  pub told-behind : (atom : ℕ) → atom < length v.acked → is_some (behind_state v atom) ≡ is_behind atom v
  told-behind atom within = by (is_behind atom v)
    where
      some : is_some (copy_among v.acked_counts v.number v.acked atom) ≡ true
      some = ap (λ (o : Option Local). is_some (option_map (saved_by atom (count_of v.acked_counts atom) v.number) o)) (element_at v.acked atom within).1

      by : (b : Bool) → is_some (if b then copy_among v.acked_counts v.number v.acked atom else None) ≡ b
      by true = some
      by false = refl

  -- past them there is none
  pub none-behind : (atom : ℕ) → length v.acked ≤ atom → is_some (behind_state v atom) ≡ false
  none-behind atom past = by (is_behind atom v)
    where
      none : is_some (copy_among v.acked_counts v.number v.acked atom) ≡ false
      none = ap (λ (o : Option Local). is_some (option_map (saved_by atom (count_of v.acked_counts atom) v.number) o)) (slice_get_past v.acked atom past)

      by : (b : Bool) → is_some (if b then copy_among v.acked_counts v.number v.acked atom else None) ≡ false
      by true = none
      by false = refl

  -- the set of the atoms that are behind has no atom exactly if there is no state to save
  module _ (set : ℕ) (are : (atom : ℕ) → has set atom ≡ is_some (behind_state v atom)) where
    pub empty-none : set ≡ 0 → behind_states v ≡ []
    empty-none is = none-picked (behind_state v) 0 (length v.acked) (λ k. sym (are k) ∙ ap (λ (n : ℕ). has n k) is ∙ has-above 0 0 k (omega arith) (omega arith))

    pub none-empty : behind_states v ≡ [] → set ≡ 0
    none-empty none = same_numbers set 0 (λ k. are k ∙ ⊎_elim
        (λ within. picked-none (behind_state v) 0 (length v.acked) k none (omega arith) (omega (arith, within)))
        (λ past. none-behind k past)
        (cases_lt k (length v.acked)) ∙ sym (has-above 0 0 k (omega arith) (omega arith)))
