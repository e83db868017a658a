-- What is sure of parts of a state once the connectors are judged again that a change reached: what it did not reach is as it was.
use Rattle.std.proofs.Common.{◌≡◌, ℕ, ◌≤◌, ◌^◌, refl, sym, ◌∙◌, ap, List, length, map, Contains, arith, Bool, true, false, not, ◌&&◌, ◌||◌, ◌==◌, ⊎_elim}
use Rattle.std.specs.Prelude.{Option, Some, None, slice_get, slice_index_or, option_map, is_some, bit_and, bit_or}
use Rattle.std.specs.FinSet.{FinSet, contains}
use Rattle.std.specs.List.{list_all}
use Rattle.std.specs.Ordering.{nat_cmp}
use Rattle.std.specs.Option.{option_map_or}
use Rattle.std.proofs.lemmas.Bool.{cases_Bool, eqb-true, false≢true, or_from, or_parts}
use Rattle.std.proofs.lemmas.List.{length-map}
use Rattle.std.proofs.lemmas.Option.{slice_get-map, slice_get_past}
use Rattle.petri_atom.specs.Local.{Local, is_in}
use Rattle.petri_atom.proofs.Sets.{has-and, has-or}
use Rattle.connector_tree.specs.declared.tree.Port.{Port}
use Rattle.priority_filter.specs.Active.{active, may_be_marked}
use Rattle.priority_filter.specs.Decided.{is_overruled}
use Rattle.priority_filter.specs.Members.{has_bit}
use Rattle.plant_model.specs.Choice.{Interaction, is_possible, is_possible_at, moves_of, named}
use Rattle.plant_model.specs.ConnectorRows.{is_of_connector}
use Rattle.plant_model.specs.Plant.{PlantDefinition}
use Rattle.plant_model.specs.System.{interactions_in, plant_of}
use Rattle.plant_model.specs.declared.limits.TheConstants.{MAX_INTERACTIONS}
use Rattle.plant_model.specs.declared.system.System.{System}
use Rattle.plant_model.proofs.RulesKept.{well_formed}
use Rattle.step_core.specs.Dispatching.{ArePartsOf}
use Rattle.step_core.specs.Leaves.{IsSameOff, count_of, is_none}
use Rattle.step_core.specs.Parts.{is_present, may_be_marked_in, shown, shown_in}
use Rattle.step_core.specs.Renewal.{IsKeptBehind, is_kept_of_possible}
use Rattle.step_core.specs.Standing.{AreRivals, is_always_overruled}
use Rattle.step_core.specs.Sure.{is_open, is_open_at, is_sure_at}
use Rattle.step_core.specs.SureJudgement.{IsSureUnsettled}
use Rattle.step_core.specs.Weights.{weight_of}
use Rattle.step_core.specs.declared.changes.Changes.{Changes}
use Rattle.step_core.specs.declared.sure.SureJudgement.{SureJudgement}
use Rattle.step_core.proofs.Clean.{possible-as-before, weight-as-before}
use Rattle.plant_model.proofs.BitsLeft.{no-bit}
use Rattle.step_core.proofs.ConnectorsOf.{port-has-leaf, port-leaf}
use Rattle.step_core.proofs.Judging.{counted-moves}
use Rattle.step_core.proofs.Openness.{kept-sure, open-past, open-stays, whole-not-open, whole-present}
use Rattle.step_core.proofs.Ranked.{rivals-alike}
use Rattle.step_core.proofs.Weighed.{few-choices, few-of-each, small-connectors, sum-of-weights}

module _ (s : System) (parts : List (Option Local)) (of_plant : ArePartsOf (plant_of s) parts) (changes : Changes) (flipped : ℕ) (is_seen_new : Bool) (j : SureJudgement)
    (u : IsSureUnsettled (plant_of s) (interactions_in s) s.ranks parts changes flipped is_seen_new j) where
  abbrev plant : PlantDefinition
  plant = plant_of s

  abbrev all : List Interaction
  all = interactions_in s

  abbrev is_possible_now : ℕ → Bool
  is_possible_now = is_possible_at plant.atoms plant.wires (shown_in parts) all

  -- ---- what the parts show

  as_many : length (shown_in u.before) ≡ length (shown_in parts)
  as_many = length-map u.before shown ∙ u.as_many ∙ sym (length-map parts shown)

  pub of_shown : length (shown_in parts) ≡ length plant.atoms
  of_shown = length-map parts shown ∙ of_plant

  stays : (k : ℕ) → is_in u.changed k ≡ false → slice_get (shown_in parts) k ≡ slice_get (shown_in u.before) k
  stays k out = slice_get-map shown parts k ∙ ap (option_map shown) (u.stays k out) ∙ sym (slice_get-map shown u.before k)

  are_counted : (p : Port) → count_of j.judgement.offers.counts p ≡ length (moves_of plant.atoms (shown_in parts) p)
  are_counted = counted-moves plant.atoms (shown_in parts) j.judgement.offers.sets j.judgement.offers.counts of_shown u.offered u.counted

  -- ---- what is possible

  pub possible-here : (n k : ℕ) → is_of_connector all k n ≡ true → has_bit changes.dirty k ≡ false → contains j.judgement.possible n ≡ is_possible_now n
  possible-here n k its clean =
      u.possible n ∙
      sym (possible-as-before s u.changed (shown_in u.before) (shown_in parts) u.counts j.judgement.offers.counts changes as_many of_shown stays u.were_counted are_counted u.told n k its clean)

  pub possible-past : (n : ℕ) → length all ≤ n → contains j.judgement.possible n ≡ false
  possible-past n past = u.possible n ∙ ap (λ o. option_map_or (is_possible plant.atoms plant.wires (shown_in u.before)) o false) (slice_get_past all n past)

  -- ---- what is open

  -- the atoms of the ports of an interaction have not left or come back where its connector is not told
  present : (n : ℕ) (i : Interaction) → slice_get all n ≡ Some i → has_bit flipped i.connector ≡ false → (p : Port) → Contains i.ports p → is_present parts p.atom ≡ is_present u.before p.atom
  present n i there clean p at =
      ⊎_elim
      (λ inside. absurd (false≢true (sym (u.flipped_told i.connector p.atom clean inside) ∙ port-has-leaf s n i there p at)))
      (λ outside. u.present p.atom outside)
      (cases_Bool (is_in u.flipped p.atom))

  -- each leaf offers something where it did
  off-stays : (k : ℕ) → (has_bit changes.dirty k && has_bit changes.heavy k) ≡ false → IsSameOff plant.wires u.counts j.judgement.offers.counts k
  off-stays k clean =
      ⊎_elim
      (λ dirty w leaf p wire port. ap is_none (u.told.heavy k (sym (ap (λ b. b && has_bit changes.heavy k) dirty) ∙ clean) w leaf p wire port))
      (λ undirty. u.told.dirty k undirty)
      (cases_Bool (has_bit changes.dirty k))

  pub open-here : (n k : ℕ) → is_of_connector all k n ≡ true → has_bit (bit_or (bit_and changes.dirty changes.heavy) flipped) k ≡ false → contains j.opened n ≡ is_open_at plant.atoms parts all n
  open-here n k its clean = u.opened n ∙ sym (each (slice_get all n) refl)
    where
      each : (o : Option Interaction) → slice_get all n ≡ o → option_map_or (is_open plant.atoms parts) o false ≡ option_map_or (is_open plant.atoms u.before) o false
      each None there = refl
      each (Some i) there =
          let same : i.connector ≡ k = eqb-true i.connector k (sym (ap (λ o. option_map_or (λ (x : Interaction). x.connector == k) o false) there) ∙ its) in
          let both = or_parts (has_bit (bit_and changes.dirty changes.heavy) k) (has_bit flipped k) (sym (has-or (bit_and changes.dirty changes.heavy) flipped k) ∙ clean) in
          open-stays plant.atoms u.before parts i
          (present n i there (ap (has_bit flipped) same ∙ both.1))
          (λ p at.
          let leaf = port-leaf s n i there p at in
          ap is_none (sym (are_counted p)) ∙
          off-stays k (sym (has-and changes.dirty changes.heavy k) ∙ both.0) leaf.0 leaf.1 p (ap (slice_get plant.wires) (sym same) ∙ leaf.2) leaf.3 ∙
          ap is_none (u.were_counted p))

  pub opened-past : (n : ℕ) → length all ≤ n → contains j.opened n ≡ false
  opened-past n past = u.opened n ∙ open-past plant.atoms u.before all n past

  pub none-opened : flipped ≡ 0 → list_all is_some parts ≡ true → (n : ℕ) → contains j.opened n ≡ false
  none-opened none whole n = u.opened n ∙ each (slice_get all n) refl
    where
      each : (o : Option Interaction) → slice_get all n ≡ o → option_map_or (is_open plant.atoms u.before) o false ≡ false
      each None there = refl
      each (Some i) there =
          whole-not-open plant.atoms u.before i
          (λ p at. sym (present n i there (ap (λ w. has_bit w i.connector) none ∙ no-bit i.connector) p at) ∙ whole-present parts whole p.atom)

  -- ---- words

  pub touched-within : (k : ℕ) → length plant.wires ≤ k → has_bit (bit_or (bit_and changes.dirty changes.heavy) flipped) k ≡ false
  touched-within k past =
      has-or (bit_and changes.dirty changes.heavy) flipped k ∙
      or_from (has_bit (bit_and changes.dirty changes.heavy) k) (has_bit flipped k)
      (has-and changes.dirty changes.heavy k ∙ ap (λ b. b && has_bit changes.heavy k) (u.within k past).0) (u.flipped_within k past)

  -- ---- what is sure

  -- what is kept anew
  pub sure-anew : (possible opened rivals kept : FinSet nat_cmp) → ((n : ℕ) → contains possible n ≡ is_possible_now n) → ((n : ℕ) → contains opened n ≡ is_open_at plant.atoms parts all n)
      → AreRivals all (λ m. contains possible m || contains opened m) rivals
      → ((n : ℕ) → contains kept n ≡ is_kept_of_possible plant all (may_be_marked j.judgement.seen) (contains possible) (contains rivals) n)
      → (n : ℕ) → contains kept n ≡ is_sure_at plant parts all n
  sure-anew possible opened rivals kept can open_now are is n =
      let rules = active (may_be_marked j.judgement.seen) plant.rules in
      is n ∙
      ap (λ b. contains possible n && not b) (rivals-alike s rules (λ m. contains possible m || contains opened m) (contains rivals) are n) ∙
      ap (λ b. b && not (is_overruled rules (map named all) (λ m. contains possible m || contains opened m) n)) (can n) ∙
      kept-sure plant (well_formed s.atoms.items) parts all (may_be_marked j.judgement.seen) (λ m. contains possible m || contains opened m) u.seen
      (λ m. ap (λ b. b || contains opened m) (can m) ∙ ap (λ b. is_possible_now m || b) (open_now m)) n

  -- the rivals are those of what is possible and open now, of the connectors of which nothing else is so
  pub rivals-here : (changed : ℕ) (possible opened : FinSet nat_cmp) → ((n k : ℕ) → is_of_connector all k n ≡ true → has_bit changed k ≡ false → contains possible n ≡ contains j.judgement.possible n)
      → ((n k : ℕ) → is_of_connector all k n ≡ true → has_bit changed k ≡ false → contains opened n ≡ contains j.opened n)
      → (n k : ℕ) → is_of_connector all k n ≡ true → has_bit changed k ≡ false → contains j.rivals n ≡ (contains possible n || contains opened n)
  rivals-here changed possible opened can open_now n k its out =
      u.rivals n k its ∙ ap (λ b. b || contains j.opened n) (sym (can n k its out)) ∙ ap (λ b. contains possible n || b) (sym (open_now n k its out))

  -- what is kept is that of what was possible, and of the rivals, before
  pub kept-behind : (affected : ℕ) (possible rivals : FinSet nat_cmp) → ((n k : ℕ) → is_of_connector all k n ≡ true → has_bit affected k ≡ false → contains possible n ≡ contains j.judgement.possible n)
      → ((n k : ℕ) → is_of_connector all k n ≡ true → has_bit affected k ≡ false → contains rivals n ≡ contains j.rivals n)
      → ((n k : ℕ) → is_of_connector all k n ≡ true → has_bit affected k ≡ false → contains possible n ≡ true → is_always_overruled plant all (contains rivals) n ≡ is_always_overruled plant all (contains j.rivals) n)
      → IsKeptBehind plant all affected is_seen_new (may_be_marked j.judgement.seen) (contains possible) (contains rivals) j.judgement.kept
  kept-behind affected possible rivals can same told = record {
    marked_before = may_be_marked_in u.before;
    possible_before = contains j.judgement.possible;
    rivals_before = contains j.rivals;
    seen_alike = λ unseen left right at there. u.seen left right at there ∙ u.seen_alike unseen left right at there;
    possible_alike = can;
    rivals_alike = same;
    over_alike = told;
    none_before = possible-past;
    were_kept = λ n.
        let rules = active (may_be_marked_in u.before) plant.rules in
        u.sure n ∙
        sym (kept-sure plant (well_formed s.atoms.items) u.before all (may_be_marked_in u.before) (λ m. contains j.judgement.possible m || contains j.opened m) (λ left right at there. refl)
        (λ m. ap (λ b. b || contains j.opened m) (u.possible m) ∙ ap (λ b. is_possible_at plant.atoms plant.wires (shown_in u.before) all m || b) (u.opened m)) n) ∙
        ap (λ b. b && not (is_overruled rules (map named all) (λ m. contains j.judgement.possible m || contains j.opened m) n)) (sym (u.possible n)) ∙
        ap (λ b. contains j.judgement.possible n && not b) (sym (rivals-alike s rules (λ m. contains j.judgement.possible m || contains j.opened m) (contains j.rivals) u.rivals n));
  }

  -- ---- weights

  pub weights-here : (k : ℕ) → has_bit changes.heavy k ≡ false → (later : ℕ → Bool) → ((n : ℕ) → is_of_connector all k n ≡ true → later n ≡ contains j.judgement.kept n)
      → slice_index_or j.judgement.weights.of_connectors k 0 ≡ weight_of plant.atoms (shown_in parts) all later k
  weights-here k clean later same =
      u.weights.each k ∙
      sym (weight-as-before s u.changed (shown_in u.before) (shown_in parts) u.counts j.judgement.offers.counts changes as_many of_shown stays u.were_counted are_counted u.told k clean (contains j.judgement.kept) later same)

  pub few-before : length all ≤ MAX_INTERACTIONS → j.judgement.weights.total ≤ 2 ^ 122
  few-before few =
      omega (
        arith,
        u.weights.sums.total,
        sum-of-weights plant.atoms (shown_in u.before) all (contains j.judgement.kept) j.judgement.weights.of_connectors (λ n i there. omega (arith, u.weights.sums.many, small-connectors s n i there)) u.weights.each,
        few-choices plant.atoms (shown_in u.before) all (contains j.judgement.kept) few (few-of-each s (shown_in u.before) (as_many ∙ of_shown)),
      )
