use Rattle.std.proofs.Common.{◌≡◌, ◌∙◌, ◌+◌, ◌*◌, ◌/◌, ◌%◌, ◌<◌, ◌≤◌, ◌^◌, ◌&&◌, ℕ, refl, ap, sym, not, get_or, length, true, false, arith, ⊎_elim, eqb, w64}
use Rattle.std.specs.FinSet.{contains}
use Rattle.std.specs.Int.{bit_not, trailing_zeros}
use Rattle.std.specs.Prelude.{bit_and, bit_or}
use Rattle.std.proofs.lemmas.Bool.{and_parts, and_from, cases_Bool, cases_eq, false≢true, ltb-false, ltb-true}
use Rattle.std.proofs.lemmas.Nat.{and_le_l}
use Rattle.std.proofs.lemmas.Nat.Bits.{bit_at-trailing_zeros, bit_at_set_other, bit_at_set_same}
use Rattle.priority_filter.specs.Members.{has_bit}
use Rattle.priority_filter.proofs.Words.{bit-and, bit-not}
use Rattle.plant_model.specs.ConnectorRows.{is_of_connector}
use Rattle.plant_model.specs.System.{interactions_in, plant_of}
use Rattle.plant_model.specs.declared.connector_rows.ConnectorRows.{ConnectorRows}
use Rattle.plant_model.specs.declared.interaction.Interaction.{Interaction}
use Rattle.plant_model.specs.declared.system.System.{System}
use Rattle.plant_model.proofs.OfConnector.{one-connector}
use Rattle.plant_model.proofs.BitsLeft.{lowest-below, lowest-set}
use Rattle.step_core.proofs.SystemConnectors.{connector-there, few-connectors, interaction-count, is-of-own, of-one, own-row, row-count}
use Rattle.step_core.proofs.choices.connectors_of.Goals as goal

-- a connector's bit more
module _ (connectors connector : ℕ) (low : connector < 64) where
  bit-put : has_bit (bit_or connectors (1 * 2 ^ connector % 2 ^ 64)) connector ≡ true
  bit-put = ap (λ x. eqb x 1) (bit_at_set_same w64 connectors connector low)

  bit-other : (k : ℕ) → (k ≡ connector → ⊥) → has_bit (bit_or connectors (1 * 2 ^ connector % 2 ^ 64)) k ≡ has_bit connectors k
  bit-other k other = ap (λ x. eqb x 1) (bit_at_set_other w64 connectors connector low k other)

module _ (system : System) (place left : ℕ) (some : 0 < left) (small : left < 2 ^ 64) where
  abbrev number : ℕ
  number = 64 * place + trailing_zeros w64 left

  below : trailing_zeros w64 left < 64
  below = lowest-below left some small

  its-place : number / 64 ≡ place
  its-place = omega (arith, below)

  its-bit : number % 64 ≡ trailing_zeros w64 left
  its-bit = omega (arith, below)

  -- past the last interaction no bit of one is left
  none-left : length (interactions_in system) ≤ number → (n k : ℕ) → n / 64 ≡ place → is_of_connector (interactions_in system) k n ≡ true → has_bit left (n % 64) ≡ false
  none-left past n k here its =
      let within = of-one system n k its in
      let lower : n % 64 < trailing_zeros w64 left = omega (arith, past, within, here) in
      ap (λ x. eqb x 1) ((bit_at-trailing_zeros w64 left some small).2 (n % 64) lower)

  module _ (number-within : number < length system.interactions.items) (item : Interaction) (is : item ≡ get_or system.interactions.items number item) where
    its-connector : item.connector < length (plant_of system).wires
    its-connector = connector-there system number item number-within is

    module _ (connector : ℕ) (same : connector ≡ item.connector) (r : ConnectorRows) (at : r ≡ get_or system.connector_rows.items connector r)
        (row : ℕ) (fits : row < 2 ^ 64) (row_is : (n : ℕ) → n / 64 ≡ place → has_bit row (n % 64) ≡ contains r.own n) where
      own : (n : ℕ) → n / 64 ≡ place → has_bit row (n % 64) ≡ is_of_connector (interactions_in system) connector n
      own n here = row_is n here ∙ own-row system connector (omega (arith, same, its-connector)) r at n

      own-set : has_bit row (trailing_zeros w64 left) ≡ true
      own-set = ap (has_bit row) (sym its-bit) ∙ own number its-place ∙ ap (λ k. is_of_connector (interactions_in system) k number) same ∙ is-of-own system number item number-within is

      abbrev rest : ℕ
      rest = bit_and left (bit_not w64 row)

      rest-bit : (k : ℕ) → k < 64 → has_bit rest k ≡ (has_bit left k && not (has_bit row k))
      rest-bit k low = bit-and left (bit_not w64 row) k ∙ ap (λ b. has_bit left k && b) (bit-not row k fits low)

      -- what is left gets less: the bits of the connector's interactions go
      less : rest < left
      less =
          ⊎_elim
          (λ same_word. absurd (false≢true (
          sym (rest-bit (trailing_zeros w64 left) below ∙ ap (λ b. has_bit left (trailing_zeros w64 left) && not b) own-set ∙ none (has_bit left (trailing_zeros w64 left))) ∙
          ap (λ w. has_bit w (trailing_zeros w64 left)) same_word ∙ lowest-set left some small)))
          (λ other. omega (arith, and_le_l left (bit_not w64 row), other))
          (cases_eq rest left)
        where
          none : (b : _) → (b && false) ≡ false
          none true = refl
          none false = refl

-- what is found is the interaction with the number
found-within : (c : goal.After-from-connector) → 64 * c.args.place + trailing_zeros w64 c.loop-left.left < length c.args.system.now.interactions.items
found-within c = omega (arith, ap length c.deref.ensures.value, ltb-true _ _ (sym c.in-Some.ensures.lookup.0))

found-is : (c : goal.After-from-connector) → c.in-Some.interaction.now ≡ get_or c.args.system.now.interactions.items (64 * c.args.place + trailing_zeros w64 c.loop-left.left) c.in-Some.interaction.now
found-is c = c.in-Some.ensures.lookup.1 ∙ ap (λ items. get_or items (64 * c.args.place + trailing_zeros w64 c.loop-left.left) c.in-Some.interaction.now) c.deref.ensures.value

its-there : (c : goal.After-from-connector) → c.from-connector.result < length (plant_of c.args.system.now).wires
its-there c =
    omega (
      arith,
      c.from-connector.ensures,
      its-connector c.args.system.now c.args.place c.loop-left.left (omega (arith, c.loop-left-test.true)) (omega arith) (found-within c) c.in-Some.interaction.now (found-is c),
    )

pub overflow_shl-connectors : goal.overflow_shl-connectors
overflow_shl-connectors c = omega (arith, its-there c, few-connectors c.args.system.now)

pub index-requires : goal.index-requires
index-requires c = omega (arith, its-there c, row-count c.args.system.now, c.args.system.now.connector_rows.ok.0)

pub loop-left-smaller : goal.loop-left-smaller
loop-left-smaller c =
    less c.args.system.now c.args.place c.loop-left.left (omega (arith, c.loop-left-test.true)) (omega arith) (found-within c.before.before) c.in-Some.interaction.now (found-is c.before.before)
    c.from-connector.result c.from-connector.ensures c.index.result.now c.index.ensures c.word.result (omega arith) c.word.ensures

pub loop-left-preserved : goal.loop-left-preserved
loop-left-preserved c =
    let system = c.args.system.now in
    let left = c.loop-left.left in
    let connectors = c.loop-left.connectors in
    let connector = c.from-connector.result in
    let row = c.word.result in
    let before = c.loop-left.invariant in
    let some : 0 < left = omega (arith, c.loop-left-test.true) in
    let small : left < 2 ^ 64 = omega arith in
    let fits : row < 2 ^ 64 = omega arith in
    let within : connector < length (plant_of system).wires = its-there c.before.before in
    let low : connector < 64 = omega (arith, within, few-connectors system) in
    let its : (n : ℕ) → n / 64 ≡ c.args.place → has_bit row (n % 64) ≡ is_of_connector (interactions_in system) connector n =
    own system c.args.place left some small (found-within c.before.before) c.in-Some.interaction.now (found-is c.before.before) connector c.from-connector.ensures c.index.result.now c.index.ensures row fits c.word.ensures in
    let bits : (k : ℕ) → k < 64 → has_bit (bit_and left (bit_not w64 row)) k ≡ (has_bit left k && not (has_bit row k)) =
    rest-bit system c.args.place left some small (found-within c.before.before) c.in-Some.interaction.now (found-is c.before.before) connector c.from-connector.ensures c.index.result.now c.index.ensures row fits c.word.ensures in (
      λ j inside. before.0 j (and_parts (has_bit left j) _ (sym (bit-and left (bit_not w64 row) j) ∙ inside)).0,
      λ k past. bit-other connectors connector low k (λ same. omega (arith, same, within, past)) ∙ before.1 k past,
      λ n k here is set out. ⊎_elim
          (λ same. ap (has_bit (bit_or connectors (1 * 2 ^ connector % 2 ^ 64))) same ∙ bit-put connectors connector low)
          (λ other. bit-other connectors connector low k other ∙
          before.2 n k here is set (⊎_elim
          (λ was. absurd (false≢true (sym out ∙ bits (n % 64) (omega arith) ∙ and_from (has_bit left (n % 64)) (not (has_bit row (n % 64))) was
          (ap not (its n here ∙ ⊎_elim
          (λ both. absurd (other (one-connector (plant_of system) system.valid n k connector (ap (λ xs. is_of_connector xs k n) (sym system.listed) ∙ is) (ap (λ xs. is_of_connector xs connector n) (sym system.listed) ∙ both))))
          (λ no. no) (cases_Bool (is_of_connector (interactions_in system) connector n)))))))
          (λ no. no) (cases_Bool (has_bit left (n % 64)))))
          (cases_eq k connector),
    )

-- past the last interaction no connector is left to be told
pub returns-in_default-clause-told : goal.returns-in_default-clause-told
returns-in_default-clause-told c n k here its set =
    let left = c.loop-left.left in
    let past : length (interactions_in c.args.system.now) ≤ 64 * c.args.place + trailing_zeros w64 left =
    omega (arith, interaction-count c.args.system.now, ap length c.deref.ensures.value, ltb-false _ _ (sym c.in_default.ensures.lookup.0)) in
    c.loop-left.invariant.2 n k here its set (none-left c.args.system.now c.args.place left (omega (arith, c.loop-left-test.true)) (omega arith) past n k here its)
