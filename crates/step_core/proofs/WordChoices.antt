-- The choices of the kept interactions of a word of 64, where each has one: they are counted as bits.
use Rattle.std.proofs.Common.{◌≡◌, ℕ, zero, suc, ◌+◌, ◌*◌, ◌-◌, ◌/◌, ◌%◌, ◌<◌, ◌≤◌, ◌^◌, sym, ◌∙◌, ap, List, get_or, arith, count_ones, Bool, true, false, ⊎_elim}
use Rattle.std.specs.Prelude.{slice_get}
use Rattle.std.proofs.lemmas.Bool.{cases_Bool}
use Rattle.petri_atom.specs.Definition.{AtomDefinition}
use Rattle.petri_atom.specs.Local.{Local}
use Rattle.priority_filter.specs.Members.{has_bit}
use Rattle.plant_model.specs.Choice.{ChoiceDefinition, Interaction, choices_of}
use Rattle.plant_model.specs.Plant.{WireDefinition}
use Rattle.plant_model.specs.Ways.{ways_at}
use Rattle.step_core.specs.ChoicesIn.{AreAllPossible}
use Rattle.step_core.proofs.Counted.{count-adds, count-skips, count_below, entries-skip, entry-after, entry-here, from_number, no_interaction}
use Rattle.step_core.proofs.Ones.{ones-all, ones-set, ones-start, ones-unset, ones_below}

module _ (atoms : List AtomDefinition) (wires : List WireDefinition) (states : List Local) (all : List Interaction) (kept : ℕ → Bool) (possible : AreAllPossible atoms wires states all kept)
    (at word : ℕ) (bits : (n : ℕ) → n / 64 ≡ at → has_bit word (n % 64) ≡ kept n) (single : (n : ℕ) → kept n ≡ true → ways_at atoms states all n ≡ 1) where
  abbrev counted : ℕ → ℕ
  counted = count_below atoms wires states all kept possible

  abbrev entries : ℕ → List ChoiceDefinition
  entries = from_number atoms wires states all kept possible

  pub at-bit : (j : ℕ) → j < 64 → kept (64 * at + j) ≡ has_bit word j
  at-bit j low =
      let e : (64 * at + j) % 64 ≡ j = omega (arith, low) in
      sym (bits (64 * at + j) (omega (arith, low))) ∙ ap (has_bit word) e

  none-here : (j m : ℕ) → j < 64 → has_bit word j ≡ false → 64 * at + j ≤ m → m < 64 * at + j + 1 → kept m ≡ false
  none-here j m low unset from below =
      let e : m ≡ 64 * at + j = omega (arith, from, below) in
      ap kept e ∙ at-bit j low ∙ unset

  -- below a place in the word
  pub counted-ones : (j : ℕ) → j ≤ 64 → counted (64 * at + j) ≡ counted (64 * at) + ones_below word j
  counted-ones zero within =
      let e : 64 * at + 0 ≡ 64 * at = omega arith in
      omega (arith, ap counted e, ones-start word)
  counted-ones (suc j) within =
      let next : 64 * at + suc j ≡ 64 * at + j + 1 = omega arith in
      let more : suc j ≡ j + 1 = omega arith in
      let before = counted-ones j (omega (arith, within)) in
      ap counted next ∙
      ⊎_elim
      (λ set.
      let here : kept (64 * at + j) ≡ true = at-bit j (omega (arith, within)) ∙ set in
      omega (arith, count-adds atoms wires states all kept possible (64 * at + j) here, single (64 * at + j) here, before, ones-set word j set, ap (ones_below word) more))
      (λ unset.
      omega (
        arith,
        count-skips atoms wires states all kept possible (64 * at + j) (64 * at + j + 1) (omega arith) (λ m from below. none-here j m (omega (arith, within)) unset from below),
        before,
        ones-unset word j unset,
        ap (ones_below word) more,
      ))
      (cases_Bool (has_bit word j))

  -- an entry behind those below a place in the word
  pub entry-ones : (j place : ℕ) → j ≤ 64 → slice_get (entries (64 * at)) (ones_below word j + place) ≡ slice_get (entries (64 * at + j)) place
  entry-ones zero place within =
      let e : 64 * at ≡ 64 * at + 0 = omega arith in
      let p : ones_below word 0 + place ≡ place = omega (arith, ones-start word) in
      ap (slice_get (entries (64 * at))) p ∙ ap (λ n. slice_get (entries n) place) e
  entry-ones (suc j) place within =
      let next : 64 * at + j + 1 ≡ 64 * at + suc j = omega arith in
      let more : suc j ≡ j + 1 = omega arith in
      ⊎_elim
      (λ set.
      let here : kept (64 * at + j) ≡ true = at-bit j (omega (arith, within)) ∙ set in
      let p : ones_below word (suc j) + place ≡ ones_below word j + (place + 1) = omega (arith, ones-set word j set, ap (ones_below word) more) in
      let q : place + 1 - ways_at atoms states all (64 * at + j) ≡ place = omega (arith, single (64 * at + j) here) in
      ap (slice_get (entries (64 * at))) p ∙ entry-ones j (place + 1) (omega (arith, within)) ∙
      entry-after atoms wires states all kept possible (64 * at + j) (place + 1) here (omega (arith, single (64 * at + j) here)) ∙
      ap (slice_get (entries (64 * at + j + 1))) q ∙ ap (λ n. slice_get (entries n) place) next)
      (λ unset.
      let p : ones_below word (suc j) + place ≡ ones_below word j + place = omega (arith, ones-unset word j unset, ap (ones_below word) more) in
      ap (slice_get (entries (64 * at))) p ∙ entry-ones j place (omega (arith, within)) ∙
      ap (λ ys. slice_get ys place) (entries-skip atoms wires states all kept possible (64 * at + j) (64 * at + j + 1) (omega arith) (λ m from below. none-here j m (omega (arith, within)) unset from below)) ∙
      ap (λ n. slice_get (entries n) place) next)
      (cases_Bool (has_bit word j))

  -- all of the word
  module _ (small : word < 2 ^ 64) where
    pub counted-word : counted (64 * (at + 1)) ≡ counted (64 * at) + count_ones word
    counted-word =
        let e : 64 * (at + 1) ≡ 64 * at + 64 = omega arith in
        ap counted e ∙ counted-ones 64 (omega arith) ∙ ap (λ n. counted (64 * at) + n) (ones-all word small)

    pub entry-later : (place : ℕ) → count_ones word ≤ place → slice_get (entries (64 * at)) place ≡ slice_get (entries (64 * (at + 1))) (place - count_ones word)
    entry-later place past =
        let e : 64 * at + 64 ≡ 64 * (at + 1) = omega arith in
        let p : place ≡ ones_below word 64 + (place - count_ones word) = omega (arith, past, ones-all word small) in
        ap (slice_get (entries (64 * at))) p ∙ entry-ones 64 (place - count_ones word) (omega arith) ∙ ap (λ n. slice_get (entries n) (place - count_ones word)) e

  -- the entry with the place of a set bit is that of its interaction
  pub entry-set : (j : ℕ) → j < 64 → has_bit word j ≡ true → slice_get (entries (64 * at)) (ones_below word j) ≡ slice_get (choices_of atoms states (get_or all (64 * at + j) no_interaction)) 0
  entry-set j low set =
      let here : kept (64 * at + j) ≡ true = at-bit j low ∙ set in
      let p : ones_below word j ≡ ones_below word j + 0 = omega arith in
      ap (slice_get (entries (64 * at))) p ∙ entry-ones j 0 (omega (arith, low)) ∙
      entry-here atoms wires states all kept possible (64 * at + j) 0 here (omega (arith, single (64 * at + j) here))
