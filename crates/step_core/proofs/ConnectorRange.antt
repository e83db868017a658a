-- The range of a connector's interactions, in words of 64.
use Rattle.std.proofs.Common.{◌≡◌, ℕ, zero, suc, ◌+◌, ◌*◌, ◌/◌, ◌%◌, ◌<◌, ◌≤◌, refl, sym, ◌∙◌, ap, List, [], ◌∷◌, length, get_or, nat_lt, arith, bit_and, Bool, true, false, not, ◌&&◌, ⊎_elim}
use Rattle.std.specs.Prelude.{Some, slice_get, slice_index_or}
use Rattle.std.specs.FinSet.{contains}
use Rattle.std.proofs.lemmas.Bool.{and_right, cases_Bool, cases_lt, le-ltb, lt-ltb}
use Rattle.std.proofs.lemmas.List.{length-map}
use Rattle.std.proofs.lemmas.Option.{none-some, slice_get-get_or, slice_get_read}
use Rattle.connector_tree.specs.Tree.{leaves}
use Rattle.priority_filter.specs.Members.{has_bit}
use Rattle.priority_filter.proofs.Words.{bit-and}
use Rattle.plant_model.specs.Choice.{ChoiceDefinition}
use Rattle.plant_model.specs.ConnectorRows.{AreRowsOf, is_from, is_of_connector}
use Rattle.plant_model.specs.Plant.{WireDefinition}
use Rattle.plant_model.specs.System.{interactions_in, plant_of}
use Rattle.plant_model.specs.Wire.{wire_of}
use Rattle.plant_model.specs.declared.bound_expressions.BoundExpressions.{BoundExpressions}
use Rattle.plant_model.specs.declared.connector_rows.ConnectorRows.{ConnectorRows}
use Rattle.plant_model.specs.declared.system.System.{System}
use Rattle.plant_model.proofs.ByConnector.{in-own-range, range-within}
use Rattle.plant_model.proofs.OfInteractions.{within-limits}
use Rattle.step_core.specs.ChoicesIn.{AreAllPossible}
use Rattle.step_core.specs.Weights.{IsFound, choices_of_connector, weight_of}
use Rattle.step_core.specs.declared.weights.Weighing.{Weighing}
use Rattle.step_core.proofs.Counted.{count-adds, count-all, count-skips, entries-end, entries-skip, entry-here, none-past}
use Rattle.step_core.proofs.OwnRange.{row-at}
use Rattle.step_core.proofs.OwnRows.{first-own}
use Rattle.step_core.proofs.ConnectorWords.{counted, counted-few, entries, found-there, its, one-each, ways}

some-at : {X : Type 0} (xs : List X) (k : ℕ) → k < length xs → (x : X) × (slice_get xs k ≡ Some x)
some-at [] k below = absurd (omega (arith, below))
some-at (x ∷ xs) zero below = (x, refl)
some-at (x ∷ xs) (suc k) below = some-at xs k (omega (arith, below))

-- there are no more than 1024 interactions
pub few-interactions : (s : System) → length (interactions_in s) ≤ 1024
few-interactions s = omega (arith, ap length s.listed, (within-limits (plant_of s) s.valid).interactions)

-- a connector of which no leaf offers more than one transition has few choices
pub few-single : (w : Weighing) (connector : ℕ) → AreAllPossible (plant_of w.system.now).atoms (plant_of w.system.now).wires w.states.now (interactions_in w.system.now) (its w connector) → slice_index_or w.leaves.now.many connector 0 ≡ 0 → weight_of (plant_of w.system.now).atoms w.states.now (interactions_in w.system.now) (contains w.kept.now) connector ≤ 1024
few-single w connector possible none =
    omega (
      arith,
      counted-few w connector possible none 1024,
      count-all (plant_of w.system.now).atoms (plant_of w.system.now).wires w.states.now (interactions_in w.system.now) (its w connector) possible 1024
          (λ m from. none-past (plant_of w.system.now).atoms (plant_of w.system.now).wires w.states.now (interactions_in w.system.now) (its w connector) possible m (omega (arith, from, few-interactions w.system.now))),
    )

module _ (w : Weighing) (connector : ℕ) (rows : ConnectorRows) (within : connector < length (plant_of w.system.now).wires) (is : rows ≡ get_or w.system.now.connector_rows.items connector rows) where
  abbrev pub AreRows : Type 0
  AreRows = (wire : WireDefinition) × (bound : BoundExpressions) × AreRowsOf (interactions_in w.system.now) connector (length (leaves wire.connector)) bound.clauses.items rows

  right : AreRows
  right =
      let s = w.system.now in
      let wire = some-at (plant_of s).wires connector within in
      let bound = some-at s.bound.items connector (omega (arith, within, s.all_bound, length-map s.wires.items wire_of)) in (
        wire.0,
        bound.0,
        s.in_rows.each connector rows wire.0 bound.0 (slice_get_read s.connector_rows.items (length s.connector_rows.items) connector rows refl (omega (arith, within, s.in_rows.as_many)) is) wire.1 bound.1,
      )

  -- its end is that of an interaction
  pub range-end : rows.first + rows.count ≤ 1024
  range-end =
      omega (arith, range-within (interactions_in w.system.now) connector rows (length (leaves right.0.connector)) right.1.clauses.items right.2, few-interactions w.system.now)

  -- its words, of which there are few, begin with that of its first number, and none of its numbers is behind them
  pub low-is : rows.low ≡ rows.first / 64
  low-is = right.2.low

  pub words-end : rows.first + rows.count ≤ 64 * rows.high
  words-end = omega (arith, right.2.high)

  pub few-words : rows.high ≤ 16
  few-words = omega (arith, right.2.high, range-end)

  in-range : (n : ℕ) → is_from rows.first (rows.first + rows.count) n ≡ is_of_connector (interactions_in w.system.now) connector n
  in-range = in-own-range (interactions_in w.system.now) connector rows (length (leaves right.0.connector)) right.1.clauses.items right.2

  -- none is kept before its range, and none behind it
  pub none-before : (n : ℕ) → n < rows.first → its w connector n ≡ false
  none-before n before =
      and_right (contains w.kept.now n) (is_of_connector (interactions_in w.system.now) connector n)
      (sym (in-range n) ∙ ap (λ b. not b && nat_lt n (rows.first + rows.count)) (lt-ltb n rows.first before))

  pub none-behind : (n : ℕ) → rows.first + rows.count ≤ n → its w connector n ≡ false
  none-behind n past =
      and_right (contains w.kept.now n) (is_of_connector (interactions_in w.system.now) connector n)
      (sym (in-range n) ∙ and_right (not (nat_lt n rows.first)) (nat_lt n (rows.first + rows.count)) (le-ltb n (rows.first + rows.count) past))

  -- what a word of those that are kept and one of the connector's have together
  pub word-of : (at kept own : ℕ) → ((n : ℕ) → n / 64 ≡ at → has_bit kept (n % 64) ≡ contains w.kept.now n) → ((n : ℕ) → n / 64 ≡ at → has_bit own (n % 64) ≡ contains rows.own n)
      → (n : ℕ) → n / 64 ≡ at → has_bit (bit_and kept own) (n % 64) ≡ its w connector n
  word-of at kept own first second n here =
      bit-and kept own (n % 64) ∙ ap (λ b. b && has_bit own (n % 64)) (first n here) ∙ ap (λ b. contains w.kept.now n && b) (second n here ∙ right.2.own n)

  -- where it has one interaction, the first is of the connector
  pub of-first : rows.count ≡ 1 → is_of_connector (interactions_in w.system.now) connector rows.first ≡ true
  of-first one = first-own w.system.now connector rows within (row-at w.system.now connector rows within is) one

  -- ---- where its kept interactions are possible

  module _ (possible : AreAllPossible (plant_of w.system.now).atoms (plant_of w.system.now).wires w.states.now (interactions_in w.system.now) (its w connector)) where
    -- the choices of the connector are those from the first word of the range on, and none is behind it
    pub entries-start : (low : ℕ) → low ≡ rows.first / 64 → choices_of_connector (plant_of w.system.now).atoms w.states.now (interactions_in w.system.now) (contains w.kept.now) connector ≡ entries w connector possible (64 * low)
    entries-start low is_low =
        entries-skip (plant_of w.system.now).atoms (plant_of w.system.now).wires w.states.now (interactions_in w.system.now) (its w connector) possible 0 (64 * low) (omega arith)
        (λ m from below. none-before m (omega (arith, below, is_low)))

    pub entries-none : (high : ℕ) → rows.first + rows.count ≤ 64 * high → entries w connector possible (64 * high) ≡ []
    entries-none high past =
        entries-end (plant_of w.system.now).atoms (plant_of w.system.now).wires w.states.now (interactions_in w.system.now) (its w connector) possible (64 * high)
        (λ m from. none-behind m (omega (arith, from, past)))

    -- an entry that is there stands before the end of the range
    pub entry-before : (place at left : ℕ) → place < weight_of (plant_of w.system.now).atoms w.states.now (interactions_in w.system.now) (contains w.kept.now) connector
        → slice_get (choices_of_connector (plant_of w.system.now).atoms w.states.now (interactions_in w.system.now) (contains w.kept.now) connector) place ≡ slice_get (entries w connector possible (64 * at)) left
        → 64 * at < rows.first + rows.count
    entry-before place at left inside is_entry =
        let own = choices_of_connector (plant_of w.system.now).atoms w.states.now (interactions_in w.system.now) (contains w.kept.now) connector in
        let nothing : ChoiceDefinition = record { connector = 0; mask = 0; moves = [] } in
        ⊎_elim
        (λ there. there)
        (λ past. absurd (none-some (get_or own place nothing) (sym (is_entry ∙ ap (λ ys. slice_get ys left) (entries-none at past)) ∙ slice_get-get_or own place nothing inside)))
        (cases_lt (64 * at) (rows.first + rows.count))

    -- ---- where the connector has one interaction

    module _ (one : rows.count ≡ 1) where
      its-first : its w connector rows.first ≡ contains w.kept.now rows.first
      its-first = ap (λ b. contains w.kept.now rows.first && b) (of-first one) ∙ always (contains w.kept.now rows.first)
        where
          always : (b : Bool) → (b && true) ≡ b
          always true = refl
          always false = refl

      -- it has all choices of the connector
      counted-first : counted w connector possible rows.first ≡ 0
      counted-first =
          count-skips (plant_of w.system.now).atoms (plant_of w.system.now).wires w.states.now (interactions_in w.system.now) (its w connector) possible 0 rows.first (omega arith)
          (λ m from below. none-before m below)

      counted-one : counted w connector possible (rows.first + 1) ≡ weight_of (plant_of w.system.now).atoms w.states.now (interactions_in w.system.now) (contains w.kept.now) connector
      counted-one =
          count-all (plant_of w.system.now).atoms (plant_of w.system.now).wires w.states.now (interactions_in w.system.now) (its w connector) possible (rows.first + 1)
          (λ m from. none-behind m (omega (arith, from, one)))

      weight-kept : contains w.kept.now rows.first ≡ true → weight_of (plant_of w.system.now).atoms w.states.now (interactions_in w.system.now) (contains w.kept.now) connector ≡ ways w connector rows.first
      weight-kept kept =
          omega (
            arith,
            counted-one,
            count-adds (plant_of w.system.now).atoms (plant_of w.system.now).wires w.states.now (interactions_in w.system.now) (its w connector) possible rows.first (its-first ∙ kept),
            counted-first,
          )

      weight-none : contains w.kept.now rows.first ≡ false → weight_of (plant_of w.system.now).atoms w.states.now (interactions_in w.system.now) (contains w.kept.now) connector ≡ 0
      weight-none not_kept =
          omega (
            arith,
            counted-one,
            count-skips (plant_of w.system.now).atoms (plant_of w.system.now).wires w.states.now (interactions_in w.system.now) (its w connector) possible rows.first (rows.first + 1) (omega arith)
                (λ m from below. let e : m ≡ rows.first = omega (arith, from, below) in ap (its w connector) e ∙ its-first ∙ not_kept),
            counted-first,
          )

      -- a choice of the connector is its
      pub found-first : (place : ℕ) → slice_index_or w.leaves.now.many connector 0 ≡ 0 → place < weight_of (plant_of w.system.now).atoms w.states.now (interactions_in w.system.now) (contains w.kept.now) connector
          → IsFound (plant_of w.system.now).atoms w.states.now (interactions_in w.system.now) (slice_get (choices_of_connector (plant_of w.system.now).atoms w.states.now (interactions_in w.system.now) (contains w.kept.now) connector) place) rows.first 1 0
      found-first place none inside =
          let own = choices_of_connector (plant_of w.system.now).atoms w.states.now (interactions_in w.system.now) (contains w.kept.now) connector in
          ⊎_elim
          (λ kept.
          let here : its w connector rows.first ≡ true = its-first ∙ kept in
          let single : ways w connector rows.first ≡ 1 = one-each w connector possible none rows.first here in
          let start : place ≡ 0 = omega (arith, inside, weight-kept kept, single) in
          found-there w connector rows.first 1 0 (slice_get own place) (sym single) (omega arith)
          (ap (slice_get own) start ∙
          ap (λ ys. slice_get ys 0) (entries-skip (plant_of w.system.now).atoms (plant_of w.system.now).wires w.states.now (interactions_in w.system.now) (its w connector) possible 0 rows.first (omega arith)
          (λ m from below. none-before m below)) ∙
          entry-here (plant_of w.system.now).atoms (plant_of w.system.now).wires w.states.now (interactions_in w.system.now) (its w connector) possible rows.first 0 here (omega (arith, single))))
          (λ not_kept. absurd (omega (arith, inside, weight-none not_kept)))
          (cases_Bool (contains w.kept.now rows.first))
