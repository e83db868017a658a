use Rattle.std.proofs.Common.{◌≡◌, ◌<◌, ◌≤◌, ℕ, ◌*◌, Bool, List, false, length, refl, ◌∙◌, sym, ap, subst, arith, IsTrue, None}
use Rattle.std.specs.Ordering.{nat_cmp}
use Rattle.std.specs.FinSet.{FinSet, contains}
use Rattle.std.proofs.lemmas.Bool.{false≢true}
use Rattle.priority_filter.specs.Active.{unconditional}
use Rattle.priority_filter.specs.Order.{Priorities, IsBelow}
use Rattle.priority_filter.specs.Decided.{is_overruled, order_fault}
use Rattle.priority_filter.specs.Table.{row_at, IsOrderTable}
use Rattle.priority_filter.specs.declared.interaction_set.TheConstants.{INTERACTION_LIMIT}
use Rattle.priority_filter.proofs.TableLaws.{row_read, row_past}
use Rattle.priority_filter.proofs.DecidedTests.{same_answer}
use Rattle.priority_filter.proofs.DecidedOrder.{decides_overruled, below_inside}
use Rattle.priority_filter.proofs.order.Order.is_overruled.Goals as goal

-- the answer for an interaction, with what an order says of itself
record Answers (p : Priorities) (rivals : FinSet nat_cmp) (a : ℕ) (answer : Bool) : Type 0 where
  value : answer ≡ is_overruled (unconditional p.rules) p.interactions (contains rivals) a
  limit : length p.interactions ≤ INTERACTION_LIMIT
  sound : order_fault p.rules p.interactions ≡ None

-- some rival is above
abbrev SomeAbove : Priorities → FinSet nat_cmp → ℕ → Type 0
SomeAbove p rivals a = (b : ℕ) × IsTrue (contains rivals b) × IsBelow (unconditional p.rules) p.interactions a b

-- an answer by the row of the interaction is the answer for the interaction, of the same order wherever it stands
by_row : (inside p : Priorities) (rows : List (FinSet nat_cmp)) (rivals row : FinSet nat_cmp) (a : ℕ) (answer : Bool) → inside ≡ p → IsOrderTable inside.rules inside.interactions rows → row ≡ row_at rows a
    → (IsTrue answer → (b : ℕ) × IsTrue (contains row b) × IsTrue (contains rivals b))
    → ((b : ℕ) → b < length inside.interactions → IsTrue (contains row b) → IsTrue (contains rivals b) → IsTrue answer)
    → Answers p rivals a answer
by_row inside p rows rivals row a answer same table read tells told = subst (λ order. Answers order rivals a answer) same (record {
  value = same_answer answer (is_overruled (unconditional inside.rules) inside.interactions (contains rivals) a) (SomeAbove inside rivals a) (
    λ yes. let some = tells yes in (some.0, some.2, (table.exact a some.0).0 (sym (ap (λ s. contains s some.0) read) ∙ some.1)),
    λ some. told some.0 (below_inside (unconditional inside.rules) inside.interactions a some.0 some.2).1 (ap (λ s. contains s some.0) read ∙ (table.exact a some.0).1 some.2) some.1,
  ) (decides_overruled (unconditional inside.rules) inside.interactions (contains rivals) a);
  limit = table.limit;
  sound = table.sound;
})

pub returns-then-meets_at : goal.returns-then-meets_at
returns-then-meets_at c =
    let a = c.args.interaction in
    let rows = c.self.inside.above.items in
    let found = c.in-Some.ensures.lookup in
    let read : c.in-Some.row.now ≡ row_at rows a = row_read c.deref.result.now c.from-place.result a c.in-Some.row.now found.1 c.from-place.ensures (omega (arith, found.3.0, c.from-place.ensures)) ∙ ap (λ (t : List (FinSet nat_cmp)). row_at t a) c.deref.ensures.value in
    let answers = by_row (record { rules = c.self.inside.rules.items; interactions = c.self.inside.interactions.items }) c.args.self.now rows c.args.rivals.now c.in-Some.row.now a c.meets_at.result c.self.view_is c.self.invariant.table read
    (λ yes. let some = c.meets_at.ensures.0 yes in (some.0, some.2, some.3))
    (λ _ _ _ _. c.if-meets_at.true) in
    record { value = answers.value; limit = answers.limit; sound = answers.sound }

pub returns-else-meets_at : goal.returns-else-meets_at
returns-else-meets_at c =
    let a = c.args.interaction in
    let rows = c.self.inside.above.items in
    let inside : Priorities = record { rules = c.self.inside.rules.items; interactions = c.self.inside.interactions.items } in
    let found = c.in-Some.ensures.lookup in
    let read : c.in-Some.row.now ≡ row_at rows a = row_read c.deref.result.now c.from-place.result a c.in-Some.row.now found.1 c.from-place.ensures (omega (arith, found.3.0, c.from-place.ensures)) ∙ ap (λ (t : List (FinSet nat_cmp)). row_at t a) c.deref.ensures.value in
    let enough : length inside.interactions ≤ 64 * c.words.result = subst (λ (p : Priorities). length p.interactions ≤ 64 * c.words.result) (sym c.self.view_is) c.words.ensures.enough in
    let answers = by_row inside c.args.self.now rows c.args.rivals.now c.in-Some.row.now a c.meets.result c.self.view_is c.self.invariant.table read
    (λ yes. let some = c.meets.ensures.0 yes in (some.0, some.2, some.3))
    (λ b low above rival. c.meets.ensures.1 (b, omega (arith, low, enough), above, rival)) in
    record { value = answers.value; limit = answers.limit; sound = answers.sound }

pub returns-in-None : goal.returns-in-None
returns-in-None c =
    let a = c.args.interaction in
    let rows = c.self.inside.above.items in
    let past : length rows ≤ a = omega (arith, c.in-None.ensures.lookup.3, c.from-place.ensures, ap (λ (t : List (FinSet nat_cmp)). length t) c.deref.ensures.value) in
    let answers = by_row (record { rules = c.self.inside.rules.items; interactions = c.self.inside.interactions.items }) c.args.self.now rows c.args.rivals.now (row_at rows a) a false c.self.view_is c.self.invariant.table refl
    (λ never. absurd (false≢true never))
    (λ b _ above _. sym (row_past rows a past b) ∙ above) in
    record { value = answers.value; limit = answers.limit; sound = answers.sound }
