-- A saved state passes the test of an atom where it is a state of the atom.
use Rattle.std.proofs.Common.{◌≡◌, ◌&&◌, ◌==◌, ◌^◌, ◌<◌, ◌≤◌, ◌+◌, ℕ, zero, suc, Bool, true, false, length, List, ℤ, ap, ◌∙◌, subst, sym, refl, ⊎_elim, arith}
use Rattle.std.proofs.Math.Nat.{pow-le-pow_right}
use Rattle.std.proofs.lemmas.Bool.{and_parts, cases_lt, eq-eqb, eqb-true, lt-ltb, ltb-true}
use Rattle.petri_atom.specs.Definition.{AtomDefinition, Fits}
use Rattle.petri_atom.specs.Local.{Local, has, set_below}
use Rattle.petri_atom.proofs.Sets.{has-above, has-set_below, same_set, set_below-lt}
use Rattle.record_codec.specs.Saved.{SavedFields}
use Rattle.snapshot_writer.specs.Parcels.{local_in, saved_by}
use Rattle.plant_image.specs.Faults.{is_of_atom, marks_known}

-- a state with this marking and these values is the saved one
same_state : (state : Local) (saved : SavedFields) → state.marking ≡ saved.marking → state.values ≡ saved.values → state ≡ local_in saved
same_state state saved marking values =
    let first : state ≡ record { marking = saved.marking; values = state.values } = ap (λ (m : ℕ). record { marking = m; values = state.values }) marking in
    first ∙ ap (λ (v : List ℤ). record { marking = saved.marking; values = v }) values

pub saved_fits : (number : ℕ) (a : AtomDefinition) (saved : SavedFields) (state : Local) → state.marking ≡ saved.marking → state.values ≡ saved.values → is_of_atom number a saved ≡ true → Fits a state
saved_fits number a saved state marking as_saved passes =
    let parts = and_parts (saved.atom == number && length saved.values == length a.variables) (marks_known a saved.marking) passes in
    let first = and_parts (saved.atom == number) (length saved.values == length a.variables) parts.0 in
    let values : length saved.values ≡ length a.variables = eqb-true (length saved.values) (length a.variables) first.1 in
    let within : saved.marking < 2 ^ length a.places = ltb-true saved.marking (2 ^ length a.places) parts.1 in
    subst (λ (s : Local). Fits a s) (sym (same_state state saved marking as_saved)) (record { variables = values; places = λ k past. has-above saved.marking (length a.places) k within past })

-- ---- and the other way round

self_below : (m : ℕ) → m < 2 ^ m
self_below zero = omega arith
self_below (suc m) = omega (arith, self_below m)

-- a marking that marks none from n on is below 2 ^ n
marks_below : (m n : ℕ) → ((k : ℕ) → n ≤ k → has m k ≡ false) → m < 2 ^ n
marks_below m n none =
    let wide : ℕ = m + n in
    let small : set_below n (has m) < 2 ^ n = set_below-lt n (has m) in
    let from_m : 2 ^ m ≤ 2 ^ wide = pow-le-pow_right (omega arith) (omega arith) in
    let from_n : 2 ^ n ≤ 2 ^ wide = pow-le-pow_right (omega arith) (omega arith) in
    let each : (k : ℕ) → k < wide → has m k ≡ has (set_below n (has m)) k =
    λ k low.
    ⊎_elim
    (λ before. sym (has-set_below n (has m) k before))
    (λ past. none k past ∙ sym (has-above (set_below n (has m)) n k small past))
    (cases_lt k n) in
    subst (λ (x : ℕ). x < 2 ^ n) (sym (same_set wide m (set_below n (has m)) (omega (arith, self_below m, from_m)) (omega (arith, small, from_n)) each)) small

pub fitting_passes : (atom count at : ℕ) (a : AtomDefinition) (state : Local) → Fits a state → is_of_atom atom a (saved_by atom count at state) ≡ true
fitting_passes atom count at a state fits =
    ap (λ (t : Bool). t && length state.values == length a.variables && marks_known a state.marking) (eq-eqb atom atom refl)
    ∙ ap (λ (t : Bool). t && marks_known a state.marking) (eq-eqb (length state.values) (length a.variables) fits.variables)
    ∙ lt-ltb state.marking (2 ^ length a.places) (marks_below state.marking (length a.places) fits.places)
