-- What the ranks of a system's connectors say of what is below what by the rules without a condition.
use Rattle.std.proofs.Common.{◌≡◌, ℕ, ◌<◌, ◌==◌, ◌||◌, not, refl, sym, ◌∙◌, ap, List, length, map, arith, Bool, true, false, eqb, get_or, nat_lt, ⊎_elim}
use Rattle.std.specs.Prelude.{Some, slice_get}
use Rattle.std.specs.FinSet.{contains}
use Rattle.std.specs.Option.{option_map_or}
use Rattle.std.proofs.lemmas.Bool.{and_from, and_parts, cases_Bool, eq-eqb, eqb-true, false≢true, lt-ltb, ltb-true, ne_eqb, not-false, not-true, or_left, or_parts, or_right}
use Rattle.std.proofs.lemmas.List.{length-map}
use Rattle.std.proofs.lemmas.Option.{slice_get_read}
use Rattle.petri_atom.proofs.Markings.{same_answer}
use Rattle.priority_filter.specs.Active.{unconditional}
use Rattle.priority_filter.specs.Decided.{is_below, is_overruled}
use Rattle.priority_filter.specs.Members.{has_bit}
use Rattle.priority_filter.specs.declared.interaction_set.TheConstants.{ROW_WORDS}
use Rattle.priority_filter.specs.declared.rule.Rule.{Rule}
use Rattle.priority_filter.proofs.DecidedOrder.{below-trans, below_inside, decides_below, overruled-below}
use Rattle.plant_model.specs.Choice.{Interaction, named}
use Rattle.plant_model.specs.ConnectorRows.{is_of_connector}
use Rattle.plant_model.specs.Plant.{PlantDefinition}
use Rattle.plant_model.specs.Ranks.{AreRanks, HasRival, has_interaction, is_head_of, is_in_rest, rest_of}
use Rattle.plant_model.specs.System.{interactions_in, plant_of}
use Rattle.plant_model.specs.Wire.{wire_of}
use Rattle.plant_model.specs.declared.ranks.Part.{Part}
use Rattle.plant_model.specs.declared.ranks.Rank.{Rank}
use Rattle.plant_model.specs.declared.system.System.{System}
use Rattle.plant_model.proofs.OfConnector.{has-connector, one-connector}
use Rattle.step_core.specs.Alone.{IsAlone}
use Rattle.step_core.specs.Standing.{HasHead, IsTied, but_heads, is_always_below, is_always_overruled, is_in_whole}
use Rattle.step_core.proofs.AnyOf.{any-found}
use Rattle.step_core.proofs.SystemConnectors.{of-one, of-there, some-at}

-- of two of which one holds, and not the first, the second holds
or-other : (x y : Bool) → (x || y) ≡ true → x ≡ false → y ≡ true
or-other x y either none = grind arith

module _ (system : System) where
  abbrev plant : PlantDefinition
  plant = plant_of system

  abbrev all : List Interaction
  all = interactions_in system

  abbrev under : ℕ → ℕ → Bool
  under = is_always_below plant all

  abbrev over : (ℕ → Bool) → ℕ → Bool
  over = is_always_overruled plant all

  -- ---- connectors of interactions

  -- each interaction is of a connector
  pub connector-of : (n : ℕ) → n < length all → (k : ℕ) × (k < length plant.wires) × (is_of_connector all k n ≡ true)
  connector-of n within =
      let found = has-connector plant system.valid n (omega (arith, within, ap length system.listed)) in
      (found.0, found.1, ap (λ xs. is_of_connector xs found.0 n) system.listed ∙ found.2)

  -- and of no other
  pub of-no-other : (n j k : ℕ) → is_of_connector all j n ≡ true → (j ≡ k → ⊥) → is_of_connector all k n ≡ false
  of-no-other n j k its other =
      ⊎_elim
      (λ both. absurd (other (one-connector plant system.valid n j k (ap (λ xs. is_of_connector xs j n) (sym system.listed) ∙ its) (ap (λ xs. is_of_connector xs k n) (sym system.listed) ∙ both))))
      (λ no. no)
      (cases_Bool (is_of_connector all k n))

  -- ---- what is below what

  -- what something is below is there
  pub under-there : (n m : ℕ) → under n m ≡ true → m < length all
  under-there n m up =
      omega (arith, (below_inside (unconditional plant.rules) (map named all) n m ((decides_below (unconditional plant.rules) (map named all) n m).0 up)).1, length-map all named)

  pub under-trans : (n m l : ℕ) → under n m ≡ true → under m l ≡ true → under n l ≡ true
  under-trans n m l = below-trans (unconditional plant.rules) (map named all) n m l

  -- a rival above overrules
  pub over-by : (rivals : ℕ → Bool) (n m : ℕ) → rivals m ≡ true → under n m ≡ true → over rivals n ≡ true
  over-by rivals n m rival up = (overruled-below (unconditional plant.rules) (map named all) rivals n).1 (m, rival, up)

  -- and nothing else does
  pub over-some : (rivals : ℕ → Bool) (n : ℕ) → over rivals n ≡ true → (m : ℕ) × (rivals m ≡ true) × (under n m ≡ true)
  over-some rivals n = (overruled-below (unconditional plant.rules) (map named all) rivals n).0

  pub over-none : (rivals : ℕ → Bool) (n : ℕ) → ((m : ℕ) → rivals m ≡ true → under n m ≡ true → ⊥) → over rivals n ≡ false
  over-none rivals n none =
      ⊎_elim (λ yes_. let found = over-some rivals n yes_ in absurd (none found.0 found.1 found.2)) (λ no. no) (cases_Bool (over rivals n))

  -- rivals that are the same at each interaction that is there overrule the same, by whatever rules
  pub rivals-alike : (rules : List Rule) (old new : ℕ → Bool) → ((m k : ℕ) → is_of_connector all k m ≡ true → new m ≡ old m) → (n : ℕ) → is_overruled rules (map named all) new n ≡ is_overruled rules (map named all) old n
  rivals-alike rules old new same n =
      let at : (m : ℕ) → is_below rules (map named all) n m ≡ true → new m ≡ old m = λ m up.
      let own = connector-of m (omega (arith, (below_inside rules (map named all) n m ((decides_below rules (map named all) n m).0 up)).1, length-map all named)) in
      same m own.0 own.2 in
      same_answer (is_overruled rules (map named all) new n) (is_overruled rules (map named all) old n)
      (λ yes_. let found = (overruled-below rules (map named all) new n).0 yes_ in (overruled-below rules (map named all) old n).1 (found.0, sym (at found.0 found.2) ∙ found.1, found.2))
      (λ yes_. let found = (overruled-below rules (map named all) old n).0 yes_ in (overruled-below rules (map named all) new n).1 (found.0, at found.0 found.2 ∙ found.1, found.2))

  pub over-alike : (old new : ℕ → Bool) → ((m k : ℕ) → is_of_connector all k m ≡ true → new m ≡ old m) → (n : ℕ) → over new n ≡ over old n
  over-alike = rivals-alike (unconditional plant.rules)

  -- ---- ranks

  by-ranks : (a b : Bool) → (AreRanks (length system.wires.items) plant.rules all system.ranks → a ≡ b) → a ≡ b
  by-ranks a b told = told system.ranked

  -- a number is below another one by them
  less-by-ranks : (a b : ℕ) → (AreRanks (length system.wires.items) plant.rules all system.ranks → a < b) → a < b
  less-by-ranks a b told = ltb-true a b (by-ranks (nat_lt a b) true (λ r. lt-ltb a b (told r)))

  -- or they are the same
  same-by-ranks : (a b : ℕ) → (AreRanks (length system.wires.items) plant.rules all system.ranks → a ≡ b) → a ≡ b
  same-by-ranks a b told = eqb-true a b (by-ranks (eqb a b) true (λ r. eq-eqb a b (told r)))

  wire-count : length system.wires.items ≡ length plant.wires
  wire-count = sym (length-map system.wires.items wire_of)

  rank-count : length system.ranks.of_connectors.items ≡ length plant.wires
  rank-count = same-by-ranks (length system.ranks.of_connectors.items) (length system.wires.items) (λ r. r.as_many) ∙ wire-count

  -- the rank of a connector stands at its number
  pub rank-at : (k : ℕ) (rank : Rank) → k < length plant.wires → rank ≡ get_or system.ranks.of_connectors.items k rank → slice_get system.ranks.of_connectors.items k ≡ Some rank
  rank-at k rank within is = slice_get_read system.ranks.of_connectors.items (length system.ranks.of_connectors.items) k rank refl (omega (arith, within, rank-count)) is

  -- there is one of each
  rank-of : (k : ℕ) → k < length plant.wires → (rank : Rank) × (slice_get system.ranks.of_connectors.items k ≡ Some rank)
  rank-of k within = some-at system.ranks.of_connectors.items k (omega (arith, within, rank-count))

  -- ---- heads

  pub head-above : (n m k : ℕ) → is_head_of system.ranks m k ≡ true → is_of_connector all k n ≡ true → under n m ≡ true
  head-above n m k head own = by-ranks (under n m) true (λ r. r.head n m k head own)

  -- they are there, and so are the connectors that are below them
  pub head-there : (m : ℕ) → contains system.ranks.heads m ≡ true → m < length system.ranks.below_head.items
  head-there m head = less-by-ranks m (length system.ranks.below_head.items) (λ r. omega (arith, r.heads_there m head, r.heads_as_many))

  pub head-inside : (m : ℕ) → contains system.ranks.heads m ≡ true → m < length all
  head-inside m head = less-by-ranks m (length all) (λ r. r.heads_there m head)

  pub head-elsewhere : (m k : ℕ) → is_head_of system.ranks m k ≡ true → is_of_connector all k m ≡ false
  head-elsewhere m k head = by-ranks (is_of_connector all k m) false (λ r. (r.head_there m k head).1)

  pub below-there : (m k : ℕ) → is_head_of system.ranks m k ≡ true → k < length plant.wires
  below-there m k head = omega (arith, less-by-ranks k (length system.wires.items) (λ r. (r.head_there m k head).0), wire-count)

  -- ---- rests

  pub rest-above : (n m : ℕ) → is_in_rest system.ranks n m ≡ true → under n m ≡ true
  rest-above n m inside = by-ranks (under n m) true (λ r. r.rest n m inside)

  pub rest-count : length system.ranks.rest.items ≡ length all
  rest-count = same-by-ranks (length system.ranks.rest.items) (length all) (λ r. r.rest_as_many)

  pub part-low : (n j : ℕ) (p : Part) → slice_get (rest_of system.ranks n) j ≡ Some p → p.place < ROW_WORDS
  part-low n j p there = less-by-ranks p.place ROW_WORDS (λ r. r.places n j p there)

  pub has-rest : (n m : ℕ) → is_in_rest system.ranks n m ≡ true → contains system.ranks.with_rest n ≡ true
  has-rest n m inside = by-ranks (contains system.ranks.with_rest n) true (λ r. r.with_rest n m inside)

  in-watched : (n m : ℕ) → is_in_rest system.ranks n m ≡ true → contains system.ranks.watched m ≡ true
  in-watched n m inside = by-ranks (contains system.ranks.watched m) true (λ r. r.watched n m inside)

  -- ---- connectors that stand alone

  pub stands-alone : (k : ℕ) → has_bit system.ranks.alone k ≡ true → IsAlone plant all k
  stands-alone k alone e n m other own its = (
    by-ranks (under n m) false (λ r. (r.alone k e n m alone other own its).0),
    by-ranks (under m n) false (λ r. (r.alone k e n m alone other own its).1),
  )

  -- ---- where one connector stands

  module _ (k : ℕ) (rank : Rank) (at : slice_get system.ranks.of_connectors.items k ≡ Some rank) where
    pub whole-above : (e n m : ℕ) → has_bit rank.whole e ≡ true → is_of_connector all k n ≡ true → is_of_connector all e m ≡ true → under n m ≡ true
    whole-above e n m inside own its = by-ranks (under n m) true (λ r. (r.each k rank at).whole e n m inside own its)

    -- what is in `whole` are other connectors, each with an interaction
    pub whole-there : (e : ℕ) → has_bit rank.whole e ≡ true → (e ≡ k → ⊥) × ((m : ℕ) × (is_of_connector all e m ≡ true))
    whole-there e inside =
        let apart : (e == k) ≡ false = by-ranks (e == k) false (λ r. ne_eqb e k ((r.each k rank at).whole_there e inside).1) in
        let some = any-found (λ (i : Interaction). i.connector == e) all (by-ranks (has_interaction all e) true (λ r. ((r.each k rank at).whole_there e inside).2)) in (
          λ same. false≢true (sym apart ∙ eq-eqb e k same),
          (some.0, ap (λ o. option_map_or (λ (i : Interaction). i.connector == e) o false) some.2 ∙ some.3),
        )

    pub flat-none : rank.is_flat ≡ true → (n m : ℕ) → is_of_connector all k n ≡ true → is_of_connector all k m ≡ true → under n m ≡ false
    flat-none flat n m own its = by-ranks (under n m) false (λ r. (r.each k rank at).flat.0 flat n m own its)

    -- what is above one of its own, and of another connector, is so in one of these ways
    pub above-by : (e n m : ℕ) → (e ≡ k → ⊥) → is_of_connector all k n ≡ true → is_of_connector all e m ≡ true → under n m ≡ true
        → (has_bit rank.whole e || (is_head_of system.ranks m k || is_in_rest system.ranks n m)) ≡ true
    above-by e n m other own its up =
        by-ranks (has_bit rank.whole e || (is_head_of system.ranks m k || is_in_rest system.ranks n m)) true (λ r. r.all k e n m rank at other own its up)

    -- whether an interaction is of one in `whole`
    in-whole : (e m : ℕ) → is_of_connector all e m ≡ true → is_in_whole system.ranks all k m ≡ has_bit rank.whole e
    in-whole e m its =
        let i = some-at all m (of-one system m e its) in
        let named_so : (i.0.connector == e) ≡ true = sym (ap (λ o. option_map_or (λ (j : Interaction). j.connector == e) o false) i.1) ∙ its in
        ap (λ o. option_map_or (λ (j : Interaction). option_map_or (λ (r : Rank). has_bit r.whole j.connector) (slice_get system.ranks.of_connectors.items k) false) o false) i.1 ∙
        ap (λ o. option_map_or (λ (r : Rank). has_bit r.whole i.0.connector) o false) at ∙
        ap (has_bit rank.whole) (eqb-true i.0.connector e named_so)

    pub below-whole : (j : ℕ) (other : Rank) → slice_get system.ranks.of_connectors.items j ≡ Some other → has_bit rank.below_whole j ≡ has_bit other.whole k
    below-whole j other there = by-ranks (has_bit rank.below_whole j) (has_bit other.whole k) (λ r. (r.each k rank at).below_whole j other there)

    pub below-rest : (j n m : ℕ) → is_of_connector all j n ≡ true → is_of_connector all k m ≡ true → is_in_rest system.ranks n m ≡ true → has_bit rank.below_rest j ≡ true
    below-rest j n m own its inside = by-ranks (has_bit rank.below_rest j) true (λ r. (r.each k rank at).below_rest j n m own its inside)

    pub below-whole-there : (j : ℕ) → has_bit rank.below_whole j ≡ true → j < length plant.wires
    below-whole-there j told = omega (arith, less-by-ranks j (length system.wires.items) (λ r. (r.each k rank at).below_whole_there j told), wire-count)

    pub below-rest-there : (j : ℕ) → has_bit rank.below_rest j ≡ true → j < length plant.wires
    below-rest-there j told = omega (arith, less-by-ranks j (length system.wires.items) (λ r. (r.each k rank at).below_rest_there j told), wire-count)

  -- ---- what is overruled

  -- by rivals that are not above it as heads alone it stays so where all else that is above it stays a rival: where a connector has it in
  -- `below_whole`, some rival of that, and where that has it in `below_rest`, each that is watched
  pub carried : (k : ℕ) (rank : Rank) → slice_get system.ranks.of_connectors.items k ≡ Some rank → (old new : ℕ → Bool) (j n : ℕ) → (j ≡ k → ⊥) → is_of_connector all j n ≡ true
      → ((m : ℕ) → is_of_connector all k m ≡ false → old m ≡ true → new m ≡ true)
      → (has_bit rank.below_whole j ≡ true → IsTied plant all k → HasRival all old k → HasRival all new k)
      → (has_bit rank.below_rest j ≡ true → (m : ℕ) → is_of_connector all k m ≡ true → contains system.ranks.watched m ≡ true → old m ≡ true → new m ≡ true)
      → over (but_heads system.ranks all j old) n ≡ true → over (but_heads system.ranks all j new) n ≡ true
  carried k rank at old new j n other own others whole some yes_ =
      let found = over-some (but_heads system.ranks all j old) n yes_ in
      let m : ℕ = found.0 in
      let its_rank = rank-of j (of-there system n j own) in
      let inside : ℕ → Bool = is_in_whole system.ranks all j in
      let headless : ℕ → Bool = λ l. not (is_head_of system.ranks l j) in
      let bits = and_parts (old m) (inside m || headless m) found.1 in
      let stays : (l : ℕ) → new l ≡ true → (inside l || headless l) ≡ true → under n l ≡ true → over (but_heads system.ranks all j new) n ≡ true =
      λ l rival beside up. over-by (but_heads system.ranks all j new) n l (and_from (new l) (inside l || headless l) rival beside) up in
      ⊎_elim
      (λ its. ⊎_elim
      (λ wholly.
      let tied : IsTied plant all k = (j, m, n, other, its, own, or_right (under m n) (under n m) found.2) in
      let still = whole (below-whole k rank at j its_rank.0 its_rank.1 ∙ wholly) tied (m, its, bits.0) in
      stays still.0 still.2 (or_left (inside still.0) (headless still.0) (in-whole j its_rank.0 its_rank.1 k still.0 still.1 ∙ wholly)) (whole-above j its_rank.0 its_rank.1 k n still.0 wholly own still.1))
      (λ partly.
      let beside = or-other (has_bit its_rank.0.whole k) (is_head_of system.ranks m j || is_in_rest system.ranks n m) (above-by j its_rank.0 its_rank.1 k n m (λ same. other (sym same)) own its found.2) partly in
      let no_head = or-other (inside m) (headless m) bits.1 (in-whole j its_rank.0 its_rank.1 k m its ∙ partly) in
      let rest = or-other (is_head_of system.ranks m j) (is_in_rest system.ranks n m) beside (not-true (is_head_of system.ranks m j) no_head) in
      stays m (some (below-rest k rank at j n m own its rest) m its (in-watched n m rest) bits.0) bits.1 found.2)
      (cases_Bool (has_bit its_rank.0.whole k)))
      (λ out. stays m (others m out bits.0) bits.1 found.2)
      (cases_Bool (is_of_connector all k m))

  -- and by all rivals, where a head of its connector stays one, if one was
  pub carried-with-heads : (old new : ℕ → Bool) (k n : ℕ) → is_of_connector all k n ≡ true
      → (over (but_heads system.ranks all k old) n ≡ true → over (but_heads system.ranks all k new) n ≡ true) → (HasHead system.ranks old k → HasHead system.ranks new k)
      → over old n ≡ true → over new n ≡ true
  carried-with-heads old new k n own beside heads yes_ =
      let found = over-some old n yes_ in
      let m : ℕ = found.0 in
      let inside : ℕ → Bool = is_in_whole system.ranks all k in
      let headless : ℕ → Bool = λ l. not (is_head_of system.ranks l k) in
      ⊎_elim
      (λ apart.
      let still = over-some (but_heads system.ranks all k new) n (beside (over-by (but_heads system.ranks all k old) n m (and_from (old m) (inside m || headless m) found.1 apart) found.2)) in
      over-by new n still.0 (and_parts (new still.0) (inside still.0 || headless still.0) still.1).0 still.2)
      (λ head.
      let still = heads (m, not-false (is_head_of system.ranks m k) (or_parts (inside m) (headless m) head).1, found.1) in
      over-by new n still.0 still.2 (head-above n still.0 k still.1 own))
      (cases_Bool (inside m || headless m))
