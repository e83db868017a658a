-- What a cell holds in which nothing is wrong, and what the slots of an atom hold then.
use Rattle.std.proofs.Common.{◌≡◌, ◌&&◌, ◌==◌, ◌⊎◌, inl, inr, ℕ, ◌<◌, nat_lt, Bool, true, false, not, if◌then◌else◌, List, length, map, get_or, Option, Some, None, is_none, unwrap_or, refl, sym, ◌∙◌, ap, subst, arith}
use Rattle.std.specs.Option.{option_and_then, option_map_or}
use Rattle.std.specs.List.{range_with_len}
use Rattle.std.proofs.lemmas.Bool.{and_parts}
use Rattle.std.proofs.lemmas.List.FromFn.{get_or-map-range_with_len}
use Rattle.disk_model.specs.Cells.{Cell, cell}
use Rattle.petri_atom.specs.Definition.{AtomDefinition}
use Rattle.record_codec.specs.Ring.{slot_cell}
use Rattle.record_codec.specs.Saved.{SavedFields, saved_in}
use Rattle.snapshot_writer.specs.Slots.{if_of_atom, saved_of, saved_at, newest_of, newest}
use Rattle.plant_model.specs.Rules.{first_of}
use Rattle.plant_image.specs.Contents.{newest_held, unsaved}
use Rattle.plant_image.specs.Faults.{fault_where, is_full_but_not, is_of_atom, marks_known, slot_fault, atom_fault}
use Rattle.plant_image.specs.declared.fault.ImageFault.{ImageFault}

-- if no fault is found, the test does not apply
pub not_wrong : (wrong : Bool) (fault : ImageFault) → fault_where wrong fault ≡ None → wrong ≡ false
not_wrong true fault none = absurd (let none = none in cc)
not_wrong false fault none = refl

-- the first of two that tell nothing, and the second
pub no_first : {F : Type 0} (found later : Option F) → first_of found later ≡ None → found ≡ None
no_first None later none = refl
no_first (Some fault) later none = none

pub no_later : {F : Type 0} (found later : Option F) → first_of found later ≡ None → later ≡ None
no_later None later none = none
no_later (Some fault) later none = absurd (let none = none in cc)

-- The cell is full, and its body is this value of a grammar, which passes a test.
pub record Holds {V : Type 0} (grammar : List ℕ → Option V) (passes : V → Bool) (c : Cell) : Type 0 where
  pub body : List ℕ
  pub value : V
  pub full : c ≡ Some body
  pub held : grammar body ≡ Some value
  pub passed : passes value ≡ true

-- a cell in which nothing is wrong is empty or holds such a value
pub empty_or_holds : {V : Type 0} (grammar : List ℕ → Option V) (passes : V → Bool) (c : Cell) → is_full_but_not grammar passes c ≡ false → (c ≡ None) ⊎ Holds grammar passes c
empty_or_holds grammar passes None right = inl refl
empty_or_holds {V} grammar passes (Some body) right = inr (by_value (grammar body) refl right)
  where
    by_test : (v : V) (t : Bool) → passes v ≡ t → not t ≡ false → passes v ≡ true
    by_test v true is right = is
    by_test v false is right = absurd (let right = right in cc)

    by_value : (o : Option V) → grammar body ≡ o → not (option_map_or passes o false) ≡ false → Holds grammar passes (Some body)
    by_value None is right = absurd (let right = right in cc)
    by_value (Some v) is right = record { body = body; value = v; full = refl; held = is; passed = by_test v (passes v) refl right }

-- A slot of an atom holds nothing if its cell is empty, and else a state of the atom.
pub record SlotHolds (atom : ℕ) (a : AtomDefinition) (slot : ℕ) (cells : List Cell) : Type 0 where
  pub found : Option SavedFields
  pub at : saved_at atom slot cells ≡ found
  pub empty : is_none found ≡ is_none (cell cells (slot_cell atom slot))
  pub passes : (saved : SavedFields) → found ≡ Some saved → is_of_atom atom a saved ≡ true

pub slot_holds : (cells : List Cell) (atom : ℕ) (a : AtomDefinition) (slot : ℕ) → slot_fault cells atom a slot ≡ None → SlotHolds atom a slot cells
slot_holds cells atom a slot none = by_cell (empty_or_holds saved_in (is_of_atom atom a) (cell cells (slot_cell atom slot)) (not_wrong _ _ none))
  where
    by_cell : (cell cells (slot_cell atom slot) ≡ None) ⊎ Holds saved_in (is_of_atom atom a) (cell cells (slot_cell atom slot)) → SlotHolds atom a slot cells
    by_cell (inl empty) = record {
      found = None;
      at = ap (saved_of atom) empty;
      empty = ap (λ (c : Cell). is_none c) (sym empty);
      passes = λ saved is. absurd (let is = is in cc);
    }
    by_cell (inr h) =
        let parts = and_parts (h.value.atom == atom && length h.value.values == length a.variables) (marks_known a h.value.marking) h.passed in
        let first = and_parts (h.value.atom == atom) (length h.value.values == length a.variables) parts.0 in
        record {
          found = Some h.value;
          at = ap (saved_of atom) h.full ∙ ap (option_and_then (if_of_atom atom)) h.held ∙ ap (λ (t : Bool). if t then Some h.value else None) first.0;
          empty = ap (λ (c : Cell). is_none c) (sym h.full);
          passes = λ saved is. let same : h.value ≡ saved = let is = is in cc in subst (λ (s : SavedFields). is_of_atom atom a s ≡ true) same h.passed;
        }

-- The newest state of an atom is there, and is one of the atom.
pub record NewestHolds (atom : ℕ) (a : AtomDefinition) (cells : List Cell) : Type 0 where
  pub saved : SavedFields
  pub is : newest atom cells ≡ Some saved
  pub passes : is_of_atom atom a saved ≡ true

pub newest_holds : (cells : List Cell) (atom : ℕ) (a : AtomDefinition) → atom_fault cells atom a ≡ None → NewestHolds atom a cells
newest_holds cells atom a none =
    let later = no_later (slot_fault cells atom a 0) _ none in
    let first : SlotHolds atom a 0 cells = slot_holds cells atom a 0 (no_first (slot_fault cells atom a 0) _ none) in
    let second : SlotHolds atom a 1 cells = slot_holds cells atom a 1 (no_first (slot_fault cells atom a 1) _ later) in
    let both : (is_none (cell cells (slot_cell atom 0)) && is_none (cell cells (slot_cell atom 1))) ≡ false = not_wrong _ _ (no_first _ None (no_later (slot_fault cells atom a 1) _ later)) in
    by_found first.found second.found first.at second.at first.passes second.passes (ap (λ (t : Bool). t && is_none second.found) first.empty ∙ ap (λ (t : Bool). is_none (cell cells (slot_cell atom 0)) && t) second.empty ∙ both)
  where
    chosen : (first second : Option SavedFields) → saved_at atom 0 cells ≡ first → saved_at atom 1 cells ≡ second → newest atom cells ≡ newest_of first second
    chosen first second is was = ap (λ (o : Option SavedFields). newest_of o (saved_at atom 1 cells)) is ∙ ap (newest_of first) was

    by_newer : (t : Bool) (x y : SavedFields) → nat_lt x.count y.count ≡ t → saved_at atom 0 cells ≡ Some x → saved_at atom 1 cells ≡ Some y → is_of_atom atom a x ≡ true → is_of_atom atom a y ≡ true → NewestHolds atom a cells
    by_newer true x y newer is was x_passes y_passes = record { saved = y; is = chosen (Some x) (Some y) is was ∙ ap (λ (t : Bool). if t then Some y else Some x) newer; passes = y_passes }
    by_newer false x y newer is was x_passes y_passes = record { saved = x; is = chosen (Some x) (Some y) is was ∙ ap (λ (t : Bool). if t then Some y else Some x) newer; passes = x_passes }

    by_found : (first second : Option SavedFields) → saved_at atom 0 cells ≡ first → saved_at atom 1 cells ≡ second
        → ((saved : SavedFields) → first ≡ Some saved → is_of_atom atom a saved ≡ true) → ((saved : SavedFields) → second ≡ Some saved → is_of_atom atom a saved ≡ true)
        → (is_none first && is_none second) ≡ false → NewestHolds atom a cells
    by_found None None is was x_passes y_passes some = absurd (let some = some in cc)
    by_found (Some x) None is was x_passes y_passes some = record { saved = x; is = chosen (Some x) None is was; passes = x_passes x refl }
    by_found None (Some y) is was x_passes y_passes some = record { saved = y; is = chosen None (Some y) is was; passes = y_passes y refl }
    by_found (Some x) (Some y) is was x_passes y_passes some = by_newer (nat_lt x.count y.count) x y refl is was (x_passes x refl) (y_passes y refl)

-- so the state that is held for it is one of the atom
pub held_passes : (cells : List Cell) (atom : ℕ) (a : AtomDefinition) → atom_fault cells atom a ≡ None → is_of_atom atom a (newest_held cells atom) ≡ true
held_passes cells atom a none =
    let n : NewestHolds atom a cells = newest_holds cells atom a none in
    subst (λ (o : Option SavedFields). is_of_atom atom a (unwrap_or o (unsaved atom)) ≡ true) (sym n.is) n.passes

-- the held states by the atoms' numbers
pub slot_held : (cells : List Cell) (atoms n : ℕ) → n < atoms → get_or (map (newest_held cells) (range_with_len 0 atoms)) n (unsaved n) ≡ newest_held cells n
slot_held cells atoms n within = get_or-map-range_with_len (newest_held cells) 0 atoms n n (unsaved n) within (omega arith)
