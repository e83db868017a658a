-- What the numbers of choices of all interactions say of the choices of some that are possible.
use Rattle.std.proofs.Common.{◌≡◌, ℕ, ◌+◌, ◌-◌, ◌<◌, ◌≤◌, sym, ◌∙◌, ap, List, [], length, map, take, drop, get_or, arith, Bool, true, false, cond, ◌&&◌, not, ⊎_elim}
use Rattle.std.specs.Prelude.{slice_get}
use Rattle.std.specs.Option.{option_map_or}
use Rattle.std.proofs.lemmas.Bool.{cases_lt, false≢true, and_parts, false_from_ne_true}
use Rattle.std.proofs.lemmas.List.{take_all, drop_all}
use Rattle.std.proofs.lemmas.Option.{slice_get-get_or, slice_get_past}
use Rattle.petri_atom.specs.Local.{Local}
use Rattle.petri_atom.specs.Definition.{AtomDefinition}
use Rattle.plant_model.specs.Plant.{WireDefinition, PlantDefinition}
use Rattle.plant_model.specs.Choice.{Interaction, ChoiceDefinition, active_in, named, is_possible, is_possible_at, is_allowed_at, choices_of, flat_from}
use Rattle.plant_model.specs.Ways.{ways_at}
use Rattle.step_core.specs.ChoicesIn.{AreAllPossible, choices_in, choices_where, is_kept_at}
use Rattle.priority_filter.specs.Active.{active}
use Rattle.priority_filter.specs.Decided.{is_overruled}
use Rattle.priority_filter.specs.declared.seen.At.{At}
use Rattle.step_core.proofs.Flattened.{flat-more, flat-here, flat-after, flat-added, flat-passed}

-- an interaction, to be read where a list has none
pub no_interaction : Interaction
no_interaction = record { connector = 0; mask = 0; ports = [] }

-- no interaction past the last one is possible
pub possible-past : (atoms : List AtomDefinition) (wires : List WireDefinition) (states : List Local) (all : List Interaction) (n : ℕ) → length all ≤ n → is_possible_at atoms wires states all n ≡ false
possible-past atoms wires states all n past = ap (λ o. option_map_or (is_possible atoms wires states) o false) (slice_get_past all n past)

-- an interaction that has choices is there
pub ways-within : (atoms : List AtomDefinition) (states : List Local) (all : List Interaction) (n place : ℕ) → place < ways_at atoms states all n → n < length all
ways-within atoms states all n place some =
    ⊎_elim
    (λ within. within)
    (λ past. absurd (omega (arith, some, ap (λ o. option_map_or (λ i. length (choices_of atoms states i)) o 0) (slice_get_past all n past))))
    (cases_lt n (length all))

module _ (plant : PlantDefinition) (marked : At → Bool) (states : List Local) (all : List Interaction) (rivals : ℕ → Bool) where
  -- what is not possible is not kept
  pub not-kept : (n : ℕ) → is_possible_at plant.atoms plant.wires states all n ≡ false → is_kept_at plant marked states all rivals n ≡ false
  not-kept n never = ap (λ b. b && not (is_overruled (active marked plant.rules) (map named all) rivals n)) never

  -- what is kept is possible
  pub kept-possible : (n : ℕ) → is_kept_at plant marked states all rivals n ≡ true → is_possible_at plant.atoms plant.wires states all n ≡ true
  kept-possible n yes_ =
      (and_parts (is_possible_at plant.atoms plant.wires states all n) (not (is_overruled (active marked plant.rules) (map named all) rivals n)) yes_).0

module _ (plant : PlantDefinition) (states : List Local) (all : List Interaction) where
  -- what is allowed is possible
  pub possible-first : (n : ℕ) → is_allowed_at plant states all n ≡ true → is_possible_at plant.atoms plant.wires states all n ≡ true
  possible-first n yes_ =
      (and_parts (is_possible_at plant.atoms plant.wires states all n) (not (is_overruled (active_in plant states) (map named all) (is_possible_at plant.atoms plant.wires states all) n)) yes_).0

module _ (atoms : List AtomDefinition) (wires : List WireDefinition) (states : List Local) (all : List Interaction) (kept : ℕ → Bool) (possible : AreAllPossible atoms wires states all kept) where
  abbrev pub gives : ℕ → Interaction → List ChoiceDefinition
  gives = choices_where atoms states kept

  -- what is not kept has no choice
  none-given : (n : ℕ) (i : Interaction) → kept n ≡ false → gives n i ≡ []
  none-given n i never = ap (λ b. cond b (choices_of atoms states i) []) never

  -- what is kept has all of its choices
  all-given : (n : ℕ) (i : Interaction) → kept n ≡ true → gives n i ≡ choices_of atoms states i
  all-given n i yes_ = ap (λ b. cond b (choices_of atoms states i) []) yes_

  pub kept-within : (n : ℕ) → kept n ≡ true → n < length all
  kept-within n here = ⊎_elim
      (λ within. within)
      (λ past. absurd (false≢true (sym (possible-past atoms wires states all n past) ∙ possible n here)))
      (cases_lt n (length all))

  -- nothing is kept past the last interaction
  pub none-past : (n : ℕ) → length all ≤ n → kept n ≡ false
  none-past n past = false_from_ne_true (kept n) (λ here. absurd (omega (arith, past, kept-within n here)))

  -- how many choices a kept interaction has
  ways-given : (n : ℕ) → n < length all → kept n ≡ true → length (gives n (get_or all n no_interaction)) ≡ ways_at atoms states all n
  ways-given n within yes_ =
      ap length (all-given n (get_or all n no_interaction) yes_) ∙
      sym (ap (λ o. option_map_or (λ i. length (choices_of atoms states i)) o 0) (slice_get-get_or all n no_interaction within))

  -- how many choices the interactions below a number have
  abbrev pub count_below : ℕ → ℕ
  count_below n = length (flat_from gives 0 (take n all))

  -- no interaction more, up to the next kept one
  pub count-skips : (i k : ℕ) → i ≤ k → ((m : ℕ) → i ≤ m → m < k → kept m ≡ false) → count_below k ≡ count_below i
  count-skips i k past none = flat-added gives all i no_interaction k past (λ m from below within. none-given m (get_or all m no_interaction) (none m from below))

  -- one kept interaction more
  pub count-adds : (n : ℕ) → kept n ≡ true → count_below (n + 1) ≡ count_below n + ways_at atoms states all n
  count-adds n yes_ =
      let within : n < length all = kept-within n yes_ in
      flat-more gives all n no_interaction within ∙ ap (λ k. count_below n + k) (ways-given n within yes_)

  -- all of them
  pub count-all : (n : ℕ) → ((m : ℕ) → n ≤ m → kept m ≡ false) → count_below n ≡ length (choices_in atoms states all kept)
  count-all n none = ⊎_elim
      (λ below. sym (count-skips n (length all) (omega arith) (λ m from _. none m from)) ∙ ap (λ ys. length (flat_from gives 0 ys)) (take_all (length all) all (omega arith)))
      (λ past. ap (λ ys. length (flat_from gives 0 ys)) (take_all n all past))
      (cases_lt n (length all))

  -- the entries from an interaction on
  abbrev pub from_number : ℕ → List ChoiceDefinition
  from_number n = flat_from gives n (drop n all)

  pub entries-skip : (i k : ℕ) → i ≤ k → ((m : ℕ) → i ≤ m → m < k → kept m ≡ false) → from_number i ≡ from_number k
  entries-skip i k past none = flat-passed gives all i no_interaction k past (λ m from below within. none-given m (get_or all m no_interaction) (none m from below))

  -- an entry of a kept interaction
  pub entry-here : (n place : ℕ) → kept n ≡ true → place < ways_at atoms states all n → slice_get (from_number n) place ≡ slice_get (choices_of atoms states (get_or all n no_interaction)) place
  entry-here n place yes_ inside =
      let within : n < length all = kept-within n yes_ in
      let long = ways-given n within yes_ in
      flat-here gives all n no_interaction within place (omega (arith, long)) ∙ ap (λ ys. slice_get ys place) (all-given n (get_or all n no_interaction) yes_)

  -- an entry after it
  pub entry-after : (n place : ℕ) → kept n ≡ true → ways_at atoms states all n ≤ place → slice_get (from_number n) place ≡ slice_get (from_number (n + 1)) (place - ways_at atoms states all n)
  entry-after n place yes_ past =
      let within : n < length all = kept-within n yes_ in
      let long = ways-given n within yes_ in
      flat-after gives all n no_interaction within place (omega (arith, long)) ∙ ap (λ k. slice_get (from_number (n + 1)) (place - k)) long

  -- no entry where nothing is kept any more
  pub entries-end : (n : ℕ) → ((m : ℕ) → n ≤ m → kept m ≡ false) → from_number n ≡ []
  entries-end n none = ⊎_elim
      (λ below. entries-skip n (length all) (omega arith) (λ m from _. none m from) ∙ ap (flat_from gives (length all)) (drop_all (length all) all (omega arith)))
      (λ past. ap (flat_from gives n) (drop_all n all past))
      (cases_lt n (length all))
