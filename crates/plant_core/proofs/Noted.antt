-- What is in memory fits together when a state is copied, and when it is stored.
use Rattle.std.proofs.Common.{◌≡◌, ◌≢◌, inl, inr, ℕ, zero, suc, ◌<◌, ◌≤◌, ◌&&◌, Bool, true, refl, sym, ◌∙◌, ap, subst, List, [], ◌∷◌, length, length-set, nat_le, set, slice_get, arith, None, Some}
use Rattle.std.specs.List.{list_all}
use Rattle.std.proofs.lemmas.Bool.{and_parts, cases_eq, leb-true}
use Rattle.std.proofs.lemmas.Option.{none-some}
use Rattle.petri_atom.specs.Definition.{AtomDefinition, exports_few, has_each_once, has_known_numbers, has_sources_and_targets, is_small_transition, is_well_formed, is_within_limits}
use Rattle.petri_atom.specs.Local.{Local}
use Rattle.petri_atom.specs.declared.parts.TheConstants.{MAX_PORTS, MAX_TRANSITIONS}
use Rattle.petri_atom.specs.declared.state.TheConstants.{MAX_PLACES, MAX_VARIABLES}
use Rattle.record_codec.specs.Saved.{SavedFields}
use Rattle.record_replay.specs.Records.{count_of}
use Rattle.snapshot_writer.specs.Parcels.{saved_by}
use Rattle.plant_model.specs.Fitting.{AllFit}
use Rattle.plant_model.specs.Plant.{PlantDefinition}
use Rattle.trimmer.specs.Covered.{saved_count}
use Rattle.trimmer.specs.declared.saved.SavedAt.{SavedAt}
use Rattle.plant_image.proofs.SavedFits.{fitting_passes}
use Rattle.plant_core.specs.Events.{copy_in}
use Rattle.plant_core.specs.Invariant.{FitsTogether, IsCopy}
use Rattle.plant_core.specs.Snapshots.{held_at}
use Rattle.plant_core.specs.View.{View, fired_number, with_asked, with_stored}
use Rattle.plant_core.proofs.Copies.{copy-parts, held-none, held-other, put-there}
use Rattle.plant_core.proofs.Flushing.{counts-grown, noted-fits}

-- ---- the present state of an atom is of the atom

second_of : (p q r s t u : Bool) → (p && q && r && s && t && u) ≡ true → q ≡ true
second_of p q r s t u all = (and_parts p q (and_parts (p && q) r (and_parts (p && q && r) s (and_parts (p && q && r && s) t (and_parts (p && q && r && s && t) u all).0).0).0).0).1

first_of_four : (p q r s : Bool) → (p && q && r && s) ≡ true → p ≡ true
first_of_four p q r s all = (and_parts p q (and_parts (p && q) r (and_parts (p && q && r) s all).0).0).0

-- a well-formed atom has no more variables than one may have
pub few_variables : (a : AtomDefinition) → is_well_formed a ≡ true → length a.variables ≤ MAX_VARIABLES
few_variables a well =
    leb-true (length a.variables) MAX_VARIABLES
    (second_of (nat_le (length a.places) MAX_PLACES) (nat_le (length a.variables) MAX_VARIABLES) (nat_le (length a.ports) MAX_PORTS) (nat_le (length a.transitions) MAX_TRANSITIONS) (list_all exports_few a.ports) (list_all is_small_transition a.transitions)
    (first_of_four (is_within_limits a) (has_each_once a) (has_known_numbers a) (has_sources_and_targets a) well))

-- ---- what is known of saved states

-- the newest state of the atom is another one, and that of every other atom as before
known-own : (known : List SavedAt) (atom : ℕ) (mark : SavedAt) → atom < length known → saved_count (set known atom mark) atom ≡ mark.count
known-own [] atom mark within = absurd (omega (arith, within))
known-own (m ∷ ms) zero mark within = refl
known-own (m ∷ ms) (suc atom) mark within = known-own ms atom mark (omega (arith, within))

pub known-other : (known : List SavedAt) (atom i : ℕ) (mark : SavedAt) → i ≢ atom → saved_count (set known atom mark) i ≡ saved_count known i
known-other [] atom i mark other = refl
known-other (m ∷ ms) zero zero mark other = absurd (other refl)
known-other (m ∷ ms) zero (suc i) mark other = refl
known-other (m ∷ ms) (suc atom) zero mark other = refl
known-other (m ∷ ms) (suc atom) (suc i) mark other = known-other ms atom i mark (λ same. other (ap suc same))

module _ (plant : PlantDefinition) (v : View) (bodies : List (List ℕ)) (kept : FitsTogether plant v bodies) where
  copied : (atom : ℕ) (s : Local) → slice_get v.present atom ≡ Some s → AllFit plant v.present → count_of v.counts atom ≢ saved_count v.saved atom → IsCopy plant v.saved (fired_number v) (saved_by atom (count_of v.counts atom) (fired_number v) s)
  copied atom s there fits new = record {
    of_atom = λ a at. fitting_passes atom (count_of v.counts atom) (fired_number v) a s (fits atom a s at there);
    last = omega arith;
    newer = omega (arith, kept.snapshots.known_within atom, counts-grown plant v bodies kept atom, new);
  }

  -- a copy of the present state of an atom is kept, where the atom has taken part since its newest state was saved
  pub asked-fits : (atom : ℕ) (saved : SavedFields) → copy_in v atom ≡ Some saved → AllFit plant v.present → count_of v.counts atom ≢ saved_count v.saved atom → FitsTogether plant (with_asked saved v) bodies
  asked-fits atom saved is fits new =
      let parts = copy-parts v atom saved is in
      let copy : IsCopy plant v.saved (fired_number v) saved = subst (IsCopy plant v.saved (fired_number v)) parts.2 (copied atom parts.0 parts.1 fits new) in
      noted-fits plant v bodies v.saved (set v.kept saved.atom (Some saved)) v.broken (record {
        known_many = kept.snapshots.known_many;
        known_within = kept.snapshots.known_within;
        places = length-set v.kept saved.atom (Some saved) ∙ kept.snapshots.places;
        own = λ i other there. elim (cases_eq i saved.atom) [
          | inl same ↦ ap (λ (t : SavedFields). t.atom) (sym (put-there v.kept saved.atom saved other (ap (held_at (set v.kept saved.atom (Some saved))) (sym same) ∙ there))) ∙ sym same
          | inr apart ↦ kept.snapshots.own i other (sym (held-other v.kept saved.atom i (Some saved) apart) ∙ there)
        ];
        copies = λ i other there. elim (cases_eq i saved.atom) [
          | inl same ↦ subst (IsCopy plant v.saved (fired_number v)) (put-there v.kept saved.atom saved other (ap (held_at (set v.kept saved.atom (Some saved))) (sym same) ∙ there)) copy
          | inr apart ↦ kept.snapshots.copies i other (sym (held-other v.kept saved.atom i (Some saved) apart) ∙ there)
        ];
      }) kept

  -- a copy that includes acknowledged firings alone is stored, and given up
  pub stored-fits : (saved : SavedFields) → saved.atom < length plant.atoms → saved.count ≤ count_of v.acked_counts saved.atom → FitsTogether plant (with_stored saved v) bodies
  stored-fits saved within behind =
      let mark : SavedAt = record { count = saved.count; at = saved.at } in
      let known : List SavedAt = set v.saved saved.atom mark in
      let before : (i : ℕ) (other : SavedFields) → i ≢ saved.atom → held_at (set v.kept saved.atom None) i ≡ Some other → held_at v.kept i ≡ Some other = λ i other apart there. sym (held-other v.kept saved.atom i None apart) ∙ there in
      let given_up : (i : ℕ) (other : SavedFields) → i ≡ saved.atom → held_at (set v.kept saved.atom None) i ≡ Some other → ⊥ = λ i other same there. none-some other (sym (held-none v.kept saved.atom) ∙ ap (held_at (set v.kept saved.atom None)) (sym same) ∙ there) in
      noted-fits plant v bodies known (set v.kept saved.atom None) v.broken (record {
        known_many = length-set v.saved saved.atom mark ∙ kept.snapshots.known_many;
        known_within = λ atom. elim (cases_eq atom saved.atom) [
          | inl same ↦ subst (λ (i : ℕ). saved_count known i ≤ count_of v.acked_counts i) (sym same) (omega (arith, known-own v.saved saved.atom mark (omega (arith, within, kept.snapshots.known_many)), behind))
          | inr apart ↦ omega (arith, known-other v.saved saved.atom atom mark apart, kept.snapshots.known_within atom)
        ];
        places = length-set v.kept saved.atom None ∙ kept.snapshots.places;
        own = λ i other there. elim (cases_eq i saved.atom) [
          | inl same ↦ absurd (given_up i other same there)
          | inr apart ↦ kept.snapshots.own i other (before i other apart there)
        ];
        copies = λ i other there. elim (cases_eq i saved.atom) [
          | inl same ↦ absurd (given_up i other same there)
          | inr apart ↦
              let own : other.atom ≡ i = kept.snapshots.own i other (before i other apart there) in
              let copy : IsCopy plant v.saved (fired_number v) other = kept.snapshots.copies i other (before i other apart there) in
              record {
                of_atom = copy.of_atom;
                last = copy.last;
                newer = omega (arith, known-other v.saved saved.atom other.atom mark (λ same. apart (sym own ∙ same)), copy.newer);
              }
        ];
      }) kept
