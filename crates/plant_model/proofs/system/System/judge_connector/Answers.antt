use Rattle.std.proofs.Common.{◌≡◌, ⊎_elim, ℕ, ◌+◌, ◌/◌, ◌==◌, ◌<◌, ◌≤◌, ◌∙◌, ap, sym, subst, refl, get_or, length, nat_lt, List, true, false, not, ◌&&◌, arith}
use Rattle.std.specs.Ordering.{nat_cmp}
use Rattle.std.specs.FinSet.{FinSet, contains}
use Rattle.std.specs.Prelude.{Option, Some, None, slice_get}
use Rattle.std.specs.Option.{option_map_or}
use Rattle.std.proofs.lemmas.Bool.{and_parts, cases_Bool, cases_lt, eq-eqb, eqb-true, false≢true, ltb-false, ltb-true, not-true}
use Rattle.std.proofs.lemmas.List.{length-map}
use Rattle.std.proofs.lemmas.Option.{same_Some, slice_get_past, slice_get_read}
use Rattle.connector_tree.specs.Masks.{is_set}
use Rattle.connector_tree.specs.Tree.{leaves}
use Rattle.petri_atom.specs.Local.{Local}
use Rattle.priority_filter.specs.declared.interaction_set.TheConstants.{ROW_WORDS}
use Rattle.plant_model.specs.BoundExpressions.{has_all}
use Rattle.plant_model.specs.Choice.{Interaction, is_offered_port, is_possible_at}
use Rattle.plant_model.specs.ConnectorRows.{AreByConnector, AreRowsOf, IsJudged, IsOff, is_leaf_off, is_of_connector, is_with_all, is_in_row}
use Rattle.plant_model.specs.Plant.{WireDefinition}
use Rattle.plant_model.specs.Rules.{early_fault, fault_of_order, first_of, late_fault}
use Rattle.plant_model.specs.System.{interactions_in, plant_of}
use Rattle.plant_model.specs.Wire.{wire_of}
use Rattle.plant_model.specs.declared.bound_expressions.BoundExpressions.{BoundExpressions}
use Rattle.plant_model.specs.declared.bound_expressions.Clause.{Clause}
use Rattle.plant_model.specs.declared.connector_rows.ConnectorRows.{ConnectorRows}
use Rattle.plant_model.specs.declared.limits.TheConstants.{MAX_INTERACTIONS}
use Rattle.plant_model.specs.declared.system.System.{System}
use Rattle.plant_model.proofs.ByConnector.{by-connector, in-own-range, range-within}
use Rattle.plant_model.proofs.JudgedWords.{judged-as}
use Rattle.plant_model.proofs.OfConnector.{possible-by-rows}
use Rattle.plant_model.proofs.OfInteractions.{within-limits}
use Rattle.plant_model.proofs.Pushed.{some-at}
use Rattle.plant_model.proofs.TreeRules.{early_trees, first_none}
use Rattle.plant_model.proofs.system.System.judge_connector.Goals as goal

-- the rows of a connector of a system
module _ (system : System) (k : ℕ) (within : k < length (plant_of system).wires) (r : ConnectorRows) (is : r ≡ get_or system.connector_rows.items k r) where
  abbrev all : List Interaction
  all = interactions_in system

  wire : (w : WireDefinition) × (slice_get (plant_of system).wires k ≡ Some w)
  wire = some-at (plant_of system).wires k within

  found : (b : BoundExpressions) × (slice_get system.bound.items k ≡ Some b)
  found = some-at system.bound.items k (omega (arith, system.all_bound, within, length-map system.wires.items wire_of))

  right : AreRowsOf all k (length (leaves wire.0.connector)) found.0.clauses.items r
  right =
      system.in_rows.each k r wire.0 found.0
      (slice_get_read system.connector_rows.items (length system.connector_rows.items) k r refl (omega (arith, system.in_rows.as_many, within)) is)
      wire.1 found.1

  few : r.first + r.count ≤ MAX_INTERACTIONS
  few = omega (arith, range-within all k r (length (leaves wire.0.connector)) found.0.clauses.items right, (within-limits (plant_of system) system.valid).interactions, ap length system.listed)

  few-words : r.high ≤ ROW_WORDS
  few-words = omega (arith, few, right.high)

  -- its interactions stand in the words of its range
  in-words : (n : ℕ) → contains r.own n ≡ true → (r.low ≤ n / 64) × (n / 64 < r.high)
  in-words n own =
      let parts = and_parts (not (nat_lt n r.first)) (nat_lt n (r.first + r.count)) (in-own-range all k r (length (leaves wire.0.connector)) found.0.clauses.items right n ∙ sym (right.own n) ∙ own) in (
        omega (arith, ltb-false n r.first (not-true (nat_lt n r.first) parts.0), right.low),
        omega (arith, ltb-true n (r.first + r.count) parts.1, right.high),
      )

  -- each of them is in the row of a leaf that takes part in all
  in-must-row : (n j : ℕ) → contains r.own n ≡ true → is_set r.must j ≡ true → is_in_row r.on_leaf.items n j ≡ true
  in-must-row n j own set = let its = (right.must j).0 set in right.on_leaf j n its.0 ∙ its.1 n (sym (right.own n) ∙ own)

  -- an interaction in the row of a clause is one of them
  in-row-own : (j n : ℕ) → is_in_row r.under_clause.items n j ≡ true → is_of_connector all k n ≡ true
  in-row-own j n inside =
      ⊎_elim
      (λ low. let clause = some-at found.0.clauses.items j low in of-all clause.0.leaves (slice_get all n) refl (sym (right.under_clause j n clause.0 clause.1) ∙ inside))
      (λ past. absurd (false≢true (sym (ap (λ o. option_map_or (λ row. contains row n) o false) (slice_get_past r.under_clause.items j (omega (arith, past, right.clauses)))) ∙ inside)))
      (cases_lt j (length found.0.clauses.items))
    where
      of-all : (set : ℕ) (o : Option Interaction) → slice_get all n ≡ o → is_with_all all k set n ≡ true → is_of_connector all k n ≡ true
      of-all set None none with_all = absurd (false≢true (sym (ap (λ o. option_map_or (λ j. j.connector == k && has_all j.mask set) o false) none) ∙ with_all))
      of-all set (Some i) some with_all =
          ap (λ o. option_map_or (λ j. j.connector == k) o false) some ∙
          (and_parts (i.connector == k) _ (sym (ap (λ o. option_map_or (λ j. j.connector == k && has_all j.mask set) o false) some) ∙ with_all)).0

  -- a leaf that offers nothing has a row
  off-there : (states : List Local) (leaf : ℕ) → is_leaf_off (plant_of system).atoms (plant_of system).wires states k leaf ≡ true → leaf < length r.on_leaf.items
  off-there states leaf off =
      ⊎_elim (λ low. omega (arith, low, right.leaves))
      (λ past. absurd (false≢true (sym (
      ap (λ o. option_map_or (λ (v : WireDefinition). option_map_or (λ p. not (is_offered_port (plant_of system).atoms states p)) (slice_get (leaves v.connector) leaf) false) o false) wire.1 ∙
      ap (λ o. option_map_or (λ p. not (is_offered_port (plant_of system).atoms states p)) o false) (slice_get_past (leaves wire.0.connector) leaf past)) ∙ off)))
      (cases_lt leaf (length (leaves wire.0.connector)))

  by : AreByConnector all
  by = subst AreByConnector (sym system.listed) (by-connector (plant_of system) (early_trees (plant_of system) (first_none (early_fault (plant_of system)) (first_of (late_fault (plant_of system)) (fault_of_order (plant_of system))) system.valid)))

  -- what the index finds among what is found of the wires
  own-clauses : (b : BoundExpressions) → b ≡ get_or system.bound.items k b → b ≡ found.0
  own-clauses b at =
      same_Some b found.0
      (sym (slice_get_read system.bound.items (length system.bound.items) k b refl (omega (arith, system.all_bound, within, length-map system.wires.items wire_of)) at) ∙ found.1)

  -- what is right of a set at its interactions, and what stays at all others
  module _ (states : List Local) (off : ℕ) (leaves_off : IsOff (plant_of system).atoms (plant_of system).wires states k off) (clauses : List Clause) (of_found : clauses ≡ found.0.clauses.items)
      (old new : FinSet nat_cmp) (judged : IsJudged (contains r.own) r off clauses states old new) where
    judged-one : (n : ℕ) → is_of_connector all k n ≡ true → contains new n ≡ is_possible_at (plant_of system).atoms (plant_of system).wires states all n
    judged-one n own = each (slice_get all n) refl
      where
        inside : contains r.own n ≡ true
        inside = right.own n ∙ own

        each : (o : Option Interaction) → slice_get all n ≡ o → contains new n ≡ is_possible_at (plant_of system).atoms (plant_of system).wires states all n
        each None at = absurd (false≢true (sym (ap (λ o. option_map_or (λ j. j.connector == k) o false) at) ∙ own))
        each (Some i) at =
            possible-by-rows (plant_of system) system.valid system.bound.items system.guarding k wire.0 found.0 wire.1 found.1 all system.listed r right states n i at
            (eqb-true i.connector k (sym (ap (λ o. option_map_or (λ j. j.connector == k) o false) at) ∙ own)) (by.small n i at)
            (contains new n)
            (λ none all_true. judged.put n inside (λ j set. none j (sym (leaves_off j) ∙ set)) (λ j clause there in_row. all_true j clause (ap (λ cs. slice_get cs j) (sym of_found) ∙ there) in_row))
            (λ leaf blocked in_row. judged.blocked n leaf inside (leaves_off leaf ∙ blocked) in_row)
            (λ j clause there in_row zero. judged.forbidden n j clause inside (ap (λ cs. slice_get cs j) of_found ∙ there) in_row zero)

    others-stay : (n : ℕ) → is_of_connector all k n ≡ false → contains new n ≡ contains old n
    others-stay n other = judged.others n (right.own n ∙ other)

  -- where they stand in one word, all are judged with those of that
  in-one-word : (states : List Local) (off : ℕ) (clauses : List Clause) (old new : FinSet nat_cmp) (low : ℕ) → low ≡ r.low → r.high ≡ low + 1
      → IsJudged (λ n. contains r.own n && (n / 64 == low)) r off clauses states old new → IsJudged (contains r.own) r off clauses states old new
  in-one-word states off clauses old new low begins ends =
      judged-as r off clauses states (λ n. contains r.own n && (n / 64 == low)) (contains r.own) old new
      (λ n. ⊎_elim
      (λ own. let words = in-words n own in ap (λ b. b && (n / 64 == low)) own ∙ eq-eqb (n / 64) low (omega (arith, words.0, words.1, begins, ends)) ∙ sym own)
      (λ no. ap (λ b. b && (n / 64 == low)) no ∙ sym no)
      (cases_Bool (contains r.own n)))

-- the place of the rows, and of what is found of the wire
rows-at : (system : System) (number connector : ℕ) (r : ConnectorRows) → number ≡ connector → r ≡ get_or system.connector_rows.items number r → r ≡ get_or system.connector_rows.items connector r
rows-at system number connector r same is = is ∙ ap (λ m. get_or system.connector_rows.items m r) same

clauses-at : (system : System) (connector : ℕ) (within : connector < length (plant_of system).wires) (number : ℕ) → number ≡ connector → (b : BoundExpressions) → b ≡ get_or system.bound.items number b
    → (clauses : List Clause) → clauses ≡ b.clauses.items → (r : ConnectorRows) (is : r ≡ get_or system.connector_rows.items connector r) → clauses ≡ (found system connector within r is).0.clauses.items
clauses-at system connector within number same b at clauses lent r is =
    lent ∙ ap (λ (x : BoundExpressions). x.clauses.items) (own-clauses system connector within r is b (at ∙ ap (λ m. get_or system.bound.items m b) same))

pub judge_low_word-requires-clause-low : goal.judge_low_word-requires-clause-low
judge_low_word-requires-clause-low c =
    let system = c.args.self.now in
    let k = c.args.connector in
    let r = c.index-rows.result.now in
    let its = rows-at system c.from-number.result k r c.from-number.ensures c.index-rows.ensures in
    omega (arith, few-words system k c.requires.connector r its, c.from-low.ensures, c.from-high.ensures, c.if-high-low.true)

pub judge_low_word-requires-clause-words : goal.judge_low_word-requires-clause-words
judge_low_word-requires-clause-words c =
    let system = c.args.self.now in
    let k = c.args.connector in
    let r = c.index-rows.result.now in
    let its = rows-at system c.from-number.result k r c.from-number.ensures c.index-rows.ensures in
    (right system k c.requires.connector r its).low_words
    (omega (arith, few-words system k c.requires.connector r its, c.from-low.ensures, c.from-high.ensures, c.if-high-low.true))

pub judge_words-requires-clause-words : goal.judge_words-requires-clause-words
judge_words-requires-clause-words c =
    let system = c.args.self.now in
    let k = c.args.connector in
    let r = c.index-rows.result.now in
    let its = rows-at system c.from-number.result k r c.from-number.ensures c.index-rows.ensures in
    omega (arith, few-words system k c.requires.connector r its, c.from-high.ensures)

pub judge_words-requires-clause-own : goal.judge_words-requires-clause-own
judge_words-requires-clause-own c n own =
    let system = c.args.self.now in
    let k = c.args.connector in
    let r = c.index-rows.result.now in
    let its = rows-at system c.from-number.result k r c.from-number.ensures c.index-rows.ensures in
    let words = in-words system k c.requires.connector r its n own in
    (omega (arith, words.0, c.from-low.ensures), omega (arith, words.1, c.from-high.ensures))

pub judge_low_word-requires-clause-must : goal.judge_low_word-requires-clause-must
judge_low_word-requires-clause-must c =
    let system = c.args.self.now in
    let k = c.args.connector in
    let r = c.index-rows.result.now in
    let its = rows-at system c.from-number.result k r c.from-number.ensures c.index-rows.ensures in
    in-must-row system k c.requires.connector r its

pub judge_words-requires-clause-must : goal.judge_words-requires-clause-must
judge_words-requires-clause-must c =
    let system = c.args.self.now in
    let k = c.args.connector in
    let r = c.index-rows.result.now in
    let its = rows-at system c.from-number.result k r c.from-number.ensures c.index-rows.ensures in
    in-must-row system k c.requires.connector r its

pub judge_words-requires-clause-under : goal.judge_words-requires-clause-under
judge_words-requires-clause-under c j n inside =
    let system = c.args.self.now in
    let k = c.args.connector in
    let r = c.index-rows.result.now in
    let its = rows-at system c.from-number.result k r c.from-number.ensures c.index-rows.ensures in
    (right system k c.requires.connector r its).own n ∙ in-row-own system k c.requires.connector r its j n inside

pub judge_low_word-requires-clause-off : goal.judge_low_word-requires-clause-off
judge_low_word-requires-clause-off c j set =
    let its = rows-at c.args.self.now c.from-number.result c.args.connector c.index-rows.result.now c.from-number.ensures c.index-rows.ensures in
    off-there c.args.self.now c.args.connector c.requires.connector c.index-rows.result.now its c.args.states.now j (sym (c.requires.off j) ∙ set)

pub judge_words-requires-clause-off : goal.judge_words-requires-clause-off
judge_words-requires-clause-off c j set =
    let its = rows-at c.args.self.now c.from-number.result c.args.connector c.index-rows.result.now c.from-number.ensures c.index-rows.ensures in
    off-there c.args.self.now c.args.connector c.requires.connector c.index-rows.result.now its c.args.states.now j (sym (c.requires.off j) ∙ set)

pub judge_low_word-requires-clause-as_many : goal.judge_low_word-requires-clause-as_many
judge_low_word-requires-clause-as_many c =
    let system = c.args.self.now in
    let k = c.args.connector in
    let r = c.index-rows.result.now in
    let its = rows-at system c.from-number.result k r c.from-number.ensures c.index-rows.ensures in
    (right system k c.requires.connector r its).clauses ∙
    sym (ap length (clauses-at system k c.requires.connector c.from-number.result c.from-number.ensures c.index.result.now c.index.ensures c.deref-clauses.result.now c.deref-clauses.ensures.value r its))

pub judge_words-requires-clause-as_many : goal.judge_words-requires-clause-as_many
judge_words-requires-clause-as_many c =
    let system = c.args.self.now in
    let k = c.args.connector in
    let r = c.index-rows.result.now in
    let its = rows-at system c.from-number.result k r c.from-number.ensures c.index-rows.ensures in
    (right system k c.requires.connector r its).clauses ∙
    sym (ap length (clauses-at system k c.requires.connector c.from-number.result c.from-number.ensures c.index.result.now c.index.ensures c.deref-clauses.result.now c.deref-clauses.ensures.value r its))

pub returns-then-high-low-clause-judged : goal.returns-then-high-low-clause-judged
returns-then-high-low-clause-judged c =
    let system = c.args.self.now in
    let k = c.args.connector in
    let r = c.index-rows.result.now in
    let its = rows-at system c.from-number.result k r c.from-number.ensures c.index-rows.ensures in
    judged-one system k c.requires.connector r its c.args.states.now c.args.off c.requires.off c.deref-clauses.result.now
    (clauses-at system k c.requires.connector c.from-number.result c.from-number.ensures c.index.result.now c.index.ensures c.deref-clauses.result.now c.deref-clauses.ensures.value r its)
    c.args.possible.now c.judge_low_word.new.possible (in-one-word system k c.requires.connector r its c.args.states.now c.args.off c.deref-clauses.result.now c.args.possible.now c.judge_low_word.new.possible r.low
    refl (omega (arith, c.from-low.ensures, c.from-high.ensures, c.if-high-low.true)) c.judge_low_word.ensures.judged)

pub returns-else-high-low-clause-judged : goal.returns-else-high-low-clause-judged
returns-else-high-low-clause-judged c =
    let system = c.args.self.now in
    let k = c.args.connector in
    let r = c.index-rows.result.now in
    let its = rows-at system c.from-number.result k r c.from-number.ensures c.index-rows.ensures in
    judged-one system k c.requires.connector r its c.args.states.now c.args.off c.requires.off c.deref-clauses.result.now
    (clauses-at system k c.requires.connector c.from-number.result c.from-number.ensures c.index.result.now c.index.ensures c.deref-clauses.result.now c.deref-clauses.ensures.value r its)
    c.args.possible.now c.judge_words.new.possible c.judge_words.ensures.judged

pub returns-then-high-low-clause-others : goal.returns-then-high-low-clause-others
returns-then-high-low-clause-others c =
    let system = c.args.self.now in
    let k = c.args.connector in
    let r = c.index-rows.result.now in
    let its = rows-at system c.from-number.result k r c.from-number.ensures c.index-rows.ensures in
    others-stay system k c.requires.connector r its c.args.states.now c.args.off c.requires.off c.deref-clauses.result.now
    (clauses-at system k c.requires.connector c.from-number.result c.from-number.ensures c.index.result.now c.index.ensures c.deref-clauses.result.now c.deref-clauses.ensures.value r its)
    c.args.possible.now c.judge_low_word.new.possible (in-one-word system k c.requires.connector r its c.args.states.now c.args.off c.deref-clauses.result.now c.args.possible.now c.judge_low_word.new.possible r.low
    refl (omega (arith, c.from-low.ensures, c.from-high.ensures, c.if-high-low.true)) c.judge_low_word.ensures.judged)

pub returns-else-high-low-clause-others : goal.returns-else-high-low-clause-others
returns-else-high-low-clause-others c =
    let system = c.args.self.now in
    let k = c.args.connector in
    let r = c.index-rows.result.now in
    let its = rows-at system c.from-number.result k r c.from-number.ensures c.index-rows.ensures in
    others-stay system k c.requires.connector r its c.args.states.now c.args.off c.requires.off c.deref-clauses.result.now
    (clauses-at system k c.requires.connector c.from-number.result c.from-number.ensures c.index.result.now c.index.ensures c.deref-clauses.result.now c.deref-clauses.ensures.value r its)
    c.args.possible.now c.judge_words.new.possible c.judge_words.ensures.judged
