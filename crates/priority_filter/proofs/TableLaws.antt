-- A table of sets read as a relation, and how it grows by one row, one rule or one station.
use Rattle.std.proofs.Common.{◌≡◌, ◌⊎◌, ◌↔◌, ℕ, ◌+◌, ◌<◌, ◌≤◌, Bool, false, cond, ◌||◌, List, [], ◌∷◌, ◌++◌, length, get_or, set, sym, ap, ◌∙◌, subst, None, inl, inr, ⊎_elim, arith, IsTrue, eqb, get_or-set_same, get_or-set_other}
use Rattle.std.specs.Ordering.{nat_cmp}
use Rattle.std.specs.Cmp.{nat_cmp_total, unsigned_tied}
use Rattle.std.specs.FinSet.{FinSet, contains, empty, insert, union, contains-empty, contains-insert, contains-union}
use Rattle.std.proofs.lemmas.Bool.{cases_eq, cases_order, cases_lt, cases_Bool, or_cases, or_left, or_right, eq-eqb, eqb-true, false≢true}
use Rattle.std.proofs.lemmas.List.{get_or_past, get_or_default, get_or_read, get_or_push, get_or_append_left, length-append}
use Rattle.priority_filter.specs.declared.rule.Rule.{Rule}
use Rattle.priority_filter.specs.Rule.{Puts}
use Rattle.priority_filter.specs.Order.{Priorities, interaction_at, rule_at, IsRuleStep, Leads, IsBelow, IsStrict, IsFirstCyclic}
use Rattle.priority_filter.specs.Decided.{is_below, order_fault}
use Rattle.priority_filter.specs.Table.{row_at, Above, PutsIn, Gains, AreTurned, row_through}
use Rattle.priority_filter.proofs.Chains.{JoinsAt, Leads-weaker}
use Rattle.priority_filter.proofs.DecidedTests.{same_answer}
use Rattle.priority_filter.proofs.DecidedOrder.{decides_below}

-- ---- one set

-- the set holds exactly the numbers below n with the property
abbrev pub HoldsBelow : (ℕ → Type 0) → ℕ → FinSet nat_cmp → Type 0
HoldsBelow P n s = (b : ℕ) → IsTrue (contains s b) ↔ ((b < n) × P b)

in_nothing : (b : ℕ) → IsTrue (contains (empty {R = nat_cmp}) b) → ⊥
in_nothing b some = false≢true (sym (contains-empty nat_cmp b) ∙ some)

pub holds_none : (P : ℕ → Type 0) → HoldsBelow P 0 empty
holds_none P b = (λ some. absurd (in_nothing b some), λ none. absurd (omega (arith, none.0)))

pub holds_skip : (P : ℕ → Type 0) (i : ℕ) (s : FinSet nat_cmp) → HoldsBelow P i s → ¬ P i → HoldsBelow P (i + 1) s
holds_skip P i s holds not_here b = (
  λ some. let was = (holds b).0 some in (omega (arith, was.0), was.1),
  λ here. (holds b).1 (⊎_elim (λ same. absurd (not_here (subst P same here.1))) (λ other. omega (arith, here.0)) (cases_eq b i), here.1),
)

pub contains_insert_cases : (s : FinSet nat_cmp) (i b : ℕ) → IsTrue (contains (insert s i) b) ↔ ((b ≡ i) ⊎ IsTrue (contains s b))
contains_insert_cases s i b =
    let as_or : contains (insert s i) b ≡ (eqb b i || contains s b) = contains-insert nat_cmp_total s i b ∙ ap (λ t. t || contains s b) (unsigned_tied b i) in (
      λ some. ⊎_elim (λ same. inl (eqb-true b i same)) (λ old. inr old) (or_cases (eqb b i) (contains s b) (sym as_or ∙ some)),
      λ some. as_or ∙ ⊎_elim (λ same. or_left (eqb b i) (contains s b) (eq-eqb b i same)) (λ old. or_right (eqb b i) (contains s b) old) some,
    )

pub holds_more : (P : ℕ → Type 0) (i : ℕ) (s : FinSet nat_cmp) → HoldsBelow P i s → P i → HoldsBelow P (i + 1) (insert s i)
holds_more P i s holds here b = (
  λ some. ⊎_elim
      (λ same. (omega arith, subst P (sym same) here))
      (λ old. let was = (holds b).0 old in (omega (arith, was.0), was.1))
      ((contains_insert_cases s i b).0 some),
  λ now. (contains_insert_cases s i b).1 (⊎_elim
      (λ same. inl same)
      (λ other. inr ((holds b).1 (omega (arith, now.0), now.1)))
      (cases_eq b i)),
)

-- ---- one row

pub contains_union_cases : (s t : FinSet nat_cmp) (b : ℕ) → IsTrue (contains (union s t) b) ↔ (IsTrue (contains s b) ⊎ IsTrue (contains t b))
contains_union_cases s t b = (
  λ some. or_cases (contains s b) (contains t b) (sym (contains-union nat_cmp_total s t b) ∙ some),
  λ some. contains-union nat_cmp_total s t b ∙ ⊎_elim (or_left (contains s b) (contains t b)) (or_right (contains s b) (contains t b)) some,
)

-- past the table every row is empty
pub row_past : (rows : List (FinSet nat_cmp)) (a : ℕ) → length rows ≤ a → (b : ℕ) → contains (row_at rows a) b ≡ false
row_past rows a past b = ap (λ s. contains s b) (get_or_past rows a empty past) ∙ contains-empty nat_cmp b

pub above_within : (rows : List (FinSet nat_cmp)) (a b : ℕ) → Above rows a b → a < length rows
above_within rows a b above =
    ⊎_elim
    (λ within. within)
    (λ past. absurd (false≢true (sym (row_past rows a past b) ∙ above)))
    (cases_lt a (length rows))

-- a row in which all is put that stands above the station
pub row_through_cases : (k : ℕ) (through row : FinSet nat_cmp) (b : ℕ) → IsTrue (contains (row_through k through row) b) ↔ (IsTrue (contains row b) ⊎ (IsTrue (contains row k) × IsTrue (contains through b)))
row_through_cases k through row b =
    ⊎_elim
    (λ there. let opened : row_through k through row ≡ union row through = ap (λ t. cond t (union row through) row) there in (
      λ some. ⊎_elim (λ old. inl old) (λ new. inr (there, new)) ((contains_union_cases row through b).0 (sym (ap (λ s. contains s b) opened) ∙ some)),
      λ some. ap (λ s. contains s b) opened ∙ (contains_union_cases row through b).1 (⊎_elim (λ old. inl old) (λ both. inr both.1) some),
    ))
    (λ not_there. let opened : row_through k through row ≡ row = ap (λ t. cond t (union row through) row) not_there in (
      λ some. inl (sym (ap (λ s. contains s b) opened) ∙ some),
      λ some. ap (λ s. contains s b) opened ∙ ⊎_elim (λ old. old) (λ both. absurd (false≢true (sym not_there ∙ both.0))) some,
    ))
    (cases_Bool (contains row k))

-- ---- closing through a station

pub joins_at_station : (old new : List (FinSet nat_cmp)) (k : ℕ) → length new ≡ length old
    → ((a : ℕ) → a < length old → row_at new a ≡ row_through k (row_at old k) (row_at old a))
    → JoinsAt (Above old) (Above new) k
joins_at_station old new k size rows a b = (
  λ above. let within : a < length old = omega (arith, above_within new a b above) in
      (row_through_cases k (row_at old k) (row_at old a) b).0 (sym (ap (λ s. contains s b) (rows a within)) ∙ above),
  λ some. let within : a < length old = ⊎_elim (λ here. above_within old a b here) (λ both. above_within old a k both.0) some in
      ap (λ s. contains s b) (rows a within) ∙ (row_through_cases k (row_at old k) (row_at old a) b).1 some,
)

-- ---- one rule

-- the first n rows have gained what the rule puts above them, and the others are as they were
abbrev pub GainsBelow : List (ℕ × ℕ) → Rule → ℕ → List (FinSet nat_cmp) → List (FinSet nat_cmp) → Type 0
GainsBelow interactions rule n old new =
    (a b : ℕ) → Above new a b ↔ (Above old a b ⊎ ((a < n) × (b < length interactions) × Puts rule (interaction_at interactions a) (interaction_at interactions b)))

pub gains_none : (interactions : List (ℕ × ℕ)) (rule : Rule) (rows : List (FinSet nat_cmp)) → GainsBelow interactions rule 0 rows rows
gains_none interactions rule rows a b = (λ above. inl above, λ some. ⊎_elim (λ above. above) (λ never. absurd (omega (arith, never.0))) some)

-- a row that the rule puts nothing above
pub gains_skip : (interactions : List (ℕ × ℕ)) (rule : Rule) (i : ℕ) (old now : List (FinSet nat_cmp))
    → GainsBelow interactions rule i old now
    → ((b : ℕ) → ¬ Puts rule (interaction_at interactions i) (interaction_at interactions b))
    → GainsBelow interactions rule (i + 1) old now
gains_skip interactions rule i old now so_far nothing a b = (
  λ above. ⊎_elim (λ was. inl was) (λ put. inr (omega (arith, put.0), put.1, put.2)) ((so_far a b).0 above),
  λ some. (so_far a b).1 (⊎_elim
      (λ was. inl was)
      (λ put. ⊎_elim
      (λ here. absurd (nothing b (subst (λ x. Puts rule (interaction_at interactions x) (interaction_at interactions b)) here put.2)))
      (λ other. inr (omega (arith, put.0), put.1, put.2))
      (cases_eq a i))
      some),
)

-- a row to which is added all that the rule puts above it
gains_set : (interactions : List (ℕ × ℕ)) (rule : Rule) (i : ℕ) (old now : List (FinSet nat_cmp)) (added : FinSet nat_cmp)
    → i < length now
    → GainsBelow interactions rule i old now
    → ((b : ℕ) → IsTrue (contains added b) ↔ ((b < length interactions) × Puts rule (interaction_at interactions i) (interaction_at interactions b)))
    → GainsBelow interactions rule (i + 1) old (set now i (union (row_at now i) added))
gains_set interactions rule i old now added within so_far puts a b =
    ⊎_elim
    (λ here.
    let row : row_at (set now i (union (row_at now i) added)) a ≡ union (row_at now i) added = ap (row_at (set now i (union (row_at now i) added))) here ∙ get_or-set_same now i (union (row_at now i) added) empty within in (
      λ above. ⊎_elim
          (λ was. ⊎_elim (λ older. inl older) (λ put. inr (omega (arith, put.0), put.1, put.2)) ((so_far a b).0 (ap (λ x. contains (row_at now x) b) here ∙ was)))
          (λ new. let put = (puts b).0 new in inr (omega arith, put.0, subst (λ x. Puts rule (interaction_at interactions x) (interaction_at interactions b)) (sym here) put.1))
          ((contains_union_cases (row_at now i) added b).0 (sym (ap (λ s. contains s b) row) ∙ above)),
      λ some. ap (λ s. contains s b) row ∙ (contains_union_cases (row_at now i) added b).1 (⊎_elim
          (λ older. inl (sym (ap (λ x. contains (row_at now x) b) here) ∙ (so_far a b).1 (inl older)))
          (λ put. inr ((puts b).1 (put.1, subst (λ x. Puts rule (interaction_at interactions x) (interaction_at interactions b)) here put.2)))
          some),
    ))
    (λ other.
    let row : row_at (set now i (union (row_at now i) added)) a ≡ row_at now a = get_or-set_other now i a (union (row_at now i) added) empty other in (
      λ above. ⊎_elim (λ older. inl older) (λ put. inr (omega (arith, put.0), put.1, put.2)) ((so_far a b).0 (sym (ap (λ s. contains s b) row) ∙ above)),
      λ some. ap (λ s. contains s b) row ∙ (so_far a b).1 (⊎_elim (λ older. inl older) (λ put. inr (omega (arith, put.0), put.1, put.2)) some),
    ))
    (cases_eq a i)

pub gains_more : (interactions : List (ℕ × ℕ)) (rule : Rule) (i : ℕ) (old now new : List (FinSet nat_cmp)) (row was added : FinSet nat_cmp)
    → i < length now → new ≡ set now i row → row ≡ union (get_or now i was) added
    → GainsBelow interactions rule i old now
    → ((b : ℕ) → IsTrue (contains added b) ↔ ((b < length interactions) × Puts rule (interaction_at interactions i) (interaction_at interactions b)))
    → GainsBelow interactions rule (i + 1) old new
gains_more interactions rule i old now new row was added within is_new is_row so_far puts =
    let written : new ≡ set now i (union (row_at now i) added) = is_new ∙ ap (set now i) (is_row ∙ ap (λ s. union s added) (get_or_default now i was empty within)) in
    subst (GainsBelow interactions rule (i + 1) old) (sym written) (gains_set interactions rule i old now added within so_far puts)

-- ---- all rules

-- the table has the steps of the first n rules
abbrev pub StepsBelow : List Rule → List (ℕ × ℕ) → ℕ → List (FinSet nat_cmp) → Type 0
StepsBelow rules interactions n rows =
    (a b : ℕ) → Above rows a b ↔ ((j : ℕ) × (j < n) × PutsIn interactions (rule_at rules j) a b)

pub steps_none : (rules : List Rule) (interactions : List (ℕ × ℕ)) (rows : List (FinSet nat_cmp)) → ((a : ℕ) → row_at rows a ≡ empty) → StepsBelow rules interactions 0 rows
steps_none rules interactions rows blank a b =
    (λ above. absurd (in_nothing b (sym (ap (λ s. contains s b) (blank a)) ∙ above)), λ some. absurd (omega (arith, some.1)))

pub steps_more : (rules : List Rule) (interactions : List (ℕ × ℕ)) (k : ℕ) (old new : List (FinSet nat_cmp))
    → StepsBelow rules interactions k old → Gains interactions (rule_at rules k) old new → StepsBelow rules interactions (k + 1) new
steps_more rules interactions k old new so_far gains a b = (
  λ above. ⊎_elim
      (λ was. let step = (so_far a b).0 was in (step.0, omega (arith, step.1), step.2))
      (λ put. (k, omega arith, put))
      ((gains a b).0 above),
  λ step. (gains a b).1 (⊎_elim
      (λ here. inr (subst (λ j. PutsIn interactions (rule_at rules j) a b) here step.2))
      (λ other. inl ((so_far a b).1 (step.0, omega (arith, step.1), step.2)))
      (cases_eq step.0 k)),
)

-- a rule that stands twice adds no step
pub steps_skip : (rules : List Rule) (interactions : List (ℕ × ℕ)) (k : ℕ) (rows : List (FinSet nat_cmp))
    → StepsBelow rules interactions k rows → (i : ℕ) → i < k → rule_at rules i ≡ rule_at rules k → StepsBelow rules interactions (k + 1) rows
steps_skip rules interactions k rows so_far i earlier same a b = (
  λ above. let step = (so_far a b).0 above in (step.0, omega (arith, step.1), step.2),
  λ step. (so_far a b).1 (⊎_elim
      (λ here. (i, earlier, subst (λ rule. PutsIn interactions rule a b) (ap (rule_at rules) here ∙ sym same) step.2))
      (λ other. (step.0, omega (arith, step.1), step.2))
      (cases_eq step.0 k)),
)

-- the steps of all rules are the rule steps
pub steps_all : (rules : List Rule) (interactions : List (ℕ × ℕ)) (rows : List (FinSet nat_cmp)) (n : ℕ) → n ≡ length rules
    → StepsBelow rules interactions n rows → (a b : ℕ) → Above rows a b ↔ IsRuleStep rules interactions a b
steps_all rules interactions rows n all steps a b = (
  λ above. let step = (steps a b).0 above in record { from = step.2.0; to = step.2.1; rule = step.0; written = omega (arith, step.1); puts = step.2.2 },
  λ step. (steps a b).1 (step.rule, omega (arith, step.written), (step.from, step.to, step.puts)),
)

-- a row that was read by its index
pub row_read : (rows : List (FinSet nat_cmp)) (i a : ℕ) (row : FinSet nat_cmp) → row ≡ get_or rows i row → i ≡ a → a < length rows → row ≡ row_at rows a
row_read rows i a row read same within = get_or_read rows i row (omega arith) read empty ∙ ap (row_at rows) same

-- ---- the other way round

-- the rows up to n of the table the other way round, and no other
abbrev pub TurnedBelow : List (FinSet nat_cmp) → ℕ → List (FinSet nat_cmp) → Type 0
TurnedBelow rows n turned = (a b : ℕ) → Above turned b a ↔ ((b < n) × Above rows a b)

module _ (rows : List (FinSet nat_cmp)) where
  pub turned_none : (turned : List (FinSet nat_cmp)) → length turned ≡ 0 → TurnedBelow rows 0 turned
  turned_none turned blank a b = (λ above. absurd (omega (arith, above_within turned b a above, blank)), λ never. absurd (omega (arith, never.0)))

  pub turned_more : (n : ℕ) (turned new : List (FinSet nat_cmp)) (row : FinSet nat_cmp) → length turned ≡ n → new ≡ turned ++ row ∷ []
      → TurnedBelow rows n turned → ((a : ℕ) → IsTrue (contains row a) ↔ Above rows a n) → TurnedBelow rows (n + 1) new
  turned_more n turned new row size is so_far here a b =
      ⊎_elim
      (λ last.
      let at_end : row_at new b ≡ row = ap (λ t. row_at t b) is ∙ get_or_push turned row empty b (omega (arith, size, last)) in (
        λ above. (omega (arith, last), subst (Above rows a) (sym last) ((here a).0 (sym (ap (λ s. contains s a) at_end) ∙ above))),
        λ some. ap (λ s. contains s a) at_end ∙ (here a).1 (subst (Above rows a) last some.1),
      ))
      (λ other. (
        λ above.
            let within : b < length new = above_within new b a above in
            let long : length new ≡ n + 1 = ap length is ∙ length-append turned (row ∷ []) ∙ ap (λ (k : ℕ). k + 1) size in
            let earlier : row_at new b ≡ row_at turned b = ap (λ t. row_at t b) is ∙ get_or_append_left turned (row ∷ []) empty b (omega (arith, within, long, other, size)) in
            let was = (so_far a b).0 (sym (ap (λ s. contains s a) earlier) ∙ above) in
            (omega (arith, was.0), was.1),
        λ some.
            let earlier : row_at new b ≡ row_at turned b = ap (λ t. row_at t b) is ∙ get_or_append_left turned (row ∷ []) empty b (omega (arith, some.0, other, size)) in
            ap (λ s. contains s a) earlier ∙ (so_far a b).1 (omega (arith, some.0, other), some.1),
      ))
      (cases_eq b n)

  pub turned_all : (n : ℕ) (turned : List (FinSet nat_cmp)) → length rows ≤ n → ((a b : ℕ) → Above rows a b → b < length rows) → TurnedBelow rows n turned → AreTurned rows turned
  turned_all n turned all inside has a b = (
    λ below. ((has a b).0 below).1,
    λ above. (has a b).1 (omega (arith, all, inside a b above), above),
  )

-- ---- the order

-- the table tells what is computed
pub row_decides : (rules : List Rule) (interactions : List (ℕ × ℕ)) (rows : List (FinSet nat_cmp)) → ((x y : ℕ) → Above rows x y ↔ IsBelow rules interactions x y)
    → (a b : ℕ) → contains (row_at rows a) b ≡ is_below rules interactions a b
row_decides rules interactions rows exact a b = same_answer (contains (row_at rows a) b) (is_below rules interactions a b) (IsBelow rules interactions a b) (exact a b) (decides_below rules interactions a b)

-- the chains of the table of single steps are the chains of rule steps
pub chains_of_steps : (rules : List Rule) (interactions : List (ℕ × ℕ)) (steps given rows : List (FinSet nat_cmp)) → given ≡ steps
    → ((a b : ℕ) → Above steps a b ↔ IsRuleStep rules interactions a b)
    → ((a b : ℕ) → Above rows a b ↔ Leads (Above given) a b)
    → (a b : ℕ) → Above rows a b ↔ IsBelow rules interactions a b
chains_of_steps rules interactions steps given rows same each chains a b = (
  λ above. Leads-weaker (Above given) (IsRuleStep rules interactions) (λ x y step. (each x y).0 (subst (λ t. Above t x y) same step)) a b ((chains a b).0 above),
  λ below. (chains a b).1 (Leads-weaker (IsRuleStep rules interactions) (Above given) (λ x y step. subst (λ t. Above t x y) (sym same) ((each x y).1 step)) a b below),
)

-- the order that a value tells, from the one that its fields tell
pub below_at_value : (now inside : Priorities) (a b : ℕ) (t : Bool) → inside ≡ now → IsTrue t ↔ IsBelow inside.rules inside.interactions a b → IsTrue t ↔ IsBelow now.rules now.interactions a b
below_at_value now inside a b t same tells = subst (λ p. IsTrue t ↔ IsBelow p.rules p.interactions a b) same tells

-- a number past the table is below nothing
pub nothing_past : (now inside : Priorities) (rows : List (FinSet nat_cmp)) (a : ℕ) → inside ≡ now
    → ((x y : ℕ) → Above rows x y ↔ IsBelow inside.rules inside.interactions x y)
    → length rows ≤ a → (b : ℕ) → ¬ IsBelow now.rules now.interactions a b
nothing_past now inside rows a same exact past b below =
    let within : a < length rows = above_within rows a b ((exact a b).1 (subst (λ p. IsBelow p.rules p.interactions a b) (sym same) below)) in omega arith

-- the rules that a value tells are without fault if those of its fields are
pub sound_at_value : (now inside : Priorities) → inside ≡ now → order_fault inside.rules inside.interactions ≡ None → order_fault now.rules now.interactions ≡ None
sound_at_value now inside same sound = subst (λ p. order_fault p.rules p.interactions ≡ None) same sound

-- the first row that holds its own number tells the first interaction below itself
pub first_cyclic_from_rows : (rules : List Rule) (interactions : List (ℕ × ℕ)) (rows given : List (FinSet nat_cmp)) (a : ℕ) → given ≡ rows
    → ((x y : ℕ) → Above rows x y ↔ IsBelow rules interactions x y)
    → Above given a a → ((b : ℕ) → b < a → ¬ Above given b b) → IsFirstCyclic rules interactions a
first_cyclic_from_rows rules interactions rows given a same exact here before = record {
  cyclic = (exact a a).0 (subst (λ t. Above t a a) same here);
  before = λ b earlier below. before b earlier (subst (λ t. Above t b b) (sym same) ((exact b b).1 below));
}

-- if no row holds its own number no interaction is below itself
pub strict_from_rows : (rules : List Rule) (interactions : List (ℕ × ℕ)) (rows given : List (FinSet nat_cmp)) → given ≡ rows
    → ((x y : ℕ) → Above rows x y ↔ IsBelow rules interactions x y)
    → ((a : ℕ) → ¬ Above given a a) → IsStrict rules interactions
strict_from_rows rules interactions rows given same exact none a below = none a (subst (λ t. Above t a a) (sym same) ((exact a a).1 below))

-- there is one first
pub first_cyclic_is_one : (rules : List Rule) (interactions : List (ℕ × ℕ)) (a b : ℕ) → IsFirstCyclic rules interactions a → IsFirstCyclic rules interactions b → a ≡ b
first_cyclic_is_one rules interactions a b first other =
    ⊎_elim
    (λ same. same)
    (⊎_elim (λ less. absurd (other.before a less first.cyclic)) (λ more. absurd (first.before b more other.cyclic)))
    (cases_order a b)
