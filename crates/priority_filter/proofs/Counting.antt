-- Which rules count, and what is below what by those that do.
use Rattle.std.proofs.Common.{◌≡◌, ◌⊎◌, ◌↔◌, ℕ, suc, ◌<◌, Bool, true, false, cond, ◌&&◌, ◌||◌, ltb, List, [], ◌∷◌, length, filter, Contains, refl, sym, ap, ◌∙◌, subst, inl, inr, ⊎_elim, arith, IsTrue}
use Rattle.std.specs.List.{list_any, list_all}
use Rattle.std.proofs.lemmas.Bool.{cases_Bool, and_parts, and_from, false≢true, false_from_ne_true}
use Rattle.std.proofs.lemmas.List.{get_or_default}
use Rattle.std.proofs.lemmas.List.Elements.{Contains-get_or}
use Rattle.priority_filter.specs.declared.rule.Side.{Side}
use Rattle.priority_filter.specs.declared.rule.Side.TheVariants.{Whole}
use Rattle.priority_filter.specs.declared.rule.Rule.{Rule}
use Rattle.priority_filter.specs.declared.rule.Rule.TheVariants.{Under, UnderAt, Maximal}
use Rattle.priority_filter.specs.declared.seen.At.{At}
use Rattle.priority_filter.specs.Rule.{IsOn, Puts}
use Rattle.priority_filter.specs.Order.{interaction_at, rule_at, IsRuleStep, IsBelow, IsStrict}
use Rattle.priority_filter.specs.Decided.{puts, is_rule_step, is_below, is_overruled}
use Rattle.priority_filter.specs.Active.{is_active, active, unconditional, AskAlike}
use Rattle.priority_filter.proofs.Chains.{Leads-weaker}
use Rattle.priority_filter.proofs.DecidedTests.{decides_lt, decides_and, decides_any, same_answer}
use Rattle.priority_filter.proofs.DecidedOrder.{decides_puts, decides_step, decides_below, decides_overruled, below_inside}

-- ---- lists

-- some entry of those that are kept passes if some entry is kept and passes
any-kept : {X : Type 0} (q p : X → Bool) (xs : List X) → list_any q (filter p xs) ≡ list_any (λ x. p x && q x) xs
any-kept q p [] = refl
any-kept q p (x ∷ xs) =
    ⊎_elim
    (λ yes. ap (λ t. list_any q (cond t (x ∷ filter p xs) (filter p xs))) yes ∙ ap (λ t. q x || t) (any-kept q p xs) ∙ sym (ap (λ t. (t && q x) || list_any (λ y. p y && q y) xs) yes))
    (λ no. ap (λ t. list_any q (cond t (x ∷ filter p xs) (filter p xs))) no ∙ any-kept q p xs ∙ sym (ap (λ t. (t && q x) || list_any (λ y. p y && q y) xs) no))
    (cases_Bool (p x))

-- two tests that say the same of each entry keep the same
kept-alike : {X : Type 0} (p q : X → Bool) (xs : List X) → ((x : X) → Contains xs x → p x ≡ q x) → filter p xs ≡ filter q xs
kept-alike p q [] same = refl
kept-alike p q (x ∷ xs) same =
    ap (λ t. cond t (x ∷ filter p xs) (filter p xs)) (same x (0, omega arith, refl)) ∙
    ap (λ ys. cond (q x) (x ∷ ys) ys) (kept-alike p q xs (λ y there. same y (suc there.0, omega (arith, there.1), there.2)))

-- if each passes all are kept
pub all-kept : {X : Type 0} (p : X → Bool) (xs : List X) → IsTrue (list_all p xs) → filter p xs ≡ xs
all-kept p [] all = refl
all-kept p (x ∷ xs) all =
    let both = and_parts (p x) (list_all p xs) all in
    ap (λ t. cond t (x ∷ filter p xs) (filter p xs)) both.0 ∙ ap (λ ys. x ∷ ys) (all-kept p xs both.1)

-- ---- rules that count

-- what counts if some conditions hold counts if more do
active-more : (holds more : At → Bool) → ((at : At) → holds at ≡ true → more at ≡ true) → (rule : Rule) → IsTrue (is_active holds rule) → IsTrue (is_active more rule)
active-more holds more weaker (Under left right) counts = refl
active-more holds more weaker (UnderAt left right at) counts = weaker at counts
active-more holds more weaker (Maximal connector) counts = refl

-- two tests that say the same of each place that a rule asks for
active-alike : (test other : At → Bool) (rules : List Rule) → AskAlike rules test other → (rule : Rule) → Contains rules rule → is_active test rule ≡ is_active other rule
active-alike test other rules alike (Under left right) there = refl
active-alike test other rules alike (UnderAt left right at) there = alike left right at there
active-alike test other rules alike (Maximal connector) there = refl

-- make the same rules count
pub alike-counted : (rules : List Rule) (test other : At → Bool) → AskAlike rules test other → active test rules ≡ active other rules
alike-counted rules test other alike = kept-alike (is_active test) (is_active other) rules (active-alike test other rules alike)

-- if no rule has a condition the same rules count whatever is marked
pub same-counted : (rules : List Rule) (test other : At → Bool) → ((left right : Side) (at : At) → ¬ Contains rules (UnderAt left right at)) → active test rules ≡ active other rules
same-counted rules test other none = alike-counted rules test other (λ left right at there. absurd (none left right at there))

-- ---- steps

-- some rule that counts puts interaction a below interaction b
pub record IsCountedStep (holds : At → Bool) (rules : List Rule) (interactions : List (ℕ × ℕ)) (a b : ℕ) : Type 0 where
  pub from : a < length interactions
  pub to : b < length interactions
  pub rule : ℕ
  pub written : rule < length rules
  pub counts : IsTrue (is_active holds (rule_at rules rule))
  pub puts : Puts (rule_at rules rule) (interaction_at interactions a) (interaction_at interactions b)

-- a rule with a condition that holds puts interaction a below interaction b
pub record IsStepAt (holds : At → Bool) (rules : List Rule) (interactions : List (ℕ × ℕ)) (a b : ℕ) : Type 0 where
  pub from : a < length interactions
  pub to : b < length interactions
  pub left : Side
  pub right : Side
  pub at : At
  pub there : Contains rules (UnderAt left right at)
  pub marked : IsTrue (holds at)
  pub lower : IsOn left (interaction_at interactions a)
  pub upper : IsOn right (interaction_at interactions b)

module _ (rules : List Rule) (interactions : List (ℕ × ℕ)) where
  -- a step of the rules that count is one by a rule that counts
  step-decides : (holds : At → Bool) (a b : ℕ) → IsRuleStep (active holds rules) interactions a b ↔ IsCountedStep holds rules interactions a b
  step-decides holds a b =
      let size : ℕ = length interactions in
      let i : ℕ × ℕ = interaction_at interactions a in
      let j : ℕ × ℕ = interaction_at interactions b in
      let test : Bool = is_rule_step (active holds rules) interactions a b in
      let inside = decides_and (ltb a size) (ltb b size) (a < size) (b < size) (decides_lt a size) (decides_lt b size) in
      let both : (rule : Rule) → IsTrue (is_active holds rule && puts rule i j) ↔ (IsTrue (is_active holds rule) × Puts rule i j) = λ rule. decides_and (is_active holds rule) (puts rule i j) (IsTrue (is_active holds rule)) (Puts rule i j) (λ yes. yes, λ yes. yes) (decides_puts rule i j) in
      let some = decides_any (λ rule. is_active holds rule && puts rule i j) (λ rule. IsTrue (is_active holds rule) × Puts rule i j) both rules (Under (Whole 0) (Whole 0)) in
      let kept : list_any (λ rule. puts rule i j) (active holds rules) ≡ list_any (λ rule. is_active holds rule && puts rule i j) rules = any-kept (λ rule. puts rule i j) (is_active holds) rules in
      let decides = decides_step (active holds rules) interactions a b in (
        λ step.
            let parts = and_parts (ltb a size && ltb b size) (list_any (λ rule. puts rule i j) (active holds rules)) (decides.1 step) in
            let found = some.0 (sym kept ∙ parts.1) in
            record { from = step.from; to = step.to; rule = found.0; written = found.1; counts = found.2.0; puts = found.2.1 },
        λ step. decides.0 (and_from (ltb a size && ltb b size) (list_any (λ rule. puts rule i j) (active holds rules)) (inside.1 (step.from, step.to)) (kept ∙ some.1 (step.rule, step.written, (step.counts, step.puts)))),
      )

  step-more : (holds more : At → Bool) → ((at : At) → holds at ≡ true → more at ≡ true) → (a b : ℕ) → IsRuleStep (active holds rules) interactions a b → IsRuleStep (active more rules) interactions a b
  step-more holds more weaker a b step =
      let counted : IsCountedStep holds rules interactions a b = (step-decides holds a b).0 step in
      (step-decides more a b).1 (record { from = counted.from; to = counted.to; rule = counted.rule; written = counted.written; counts = active-more holds more weaker (rule_at rules counted.rule) counted.counts; puts = counted.puts })

  step-all : (holds : At → Bool) (a b : ℕ) → IsRuleStep (active holds rules) interactions a b → IsRuleStep rules interactions a b
  step-all holds a b step =
      let counted : IsCountedStep holds rules interactions a b = (step-decides holds a b).0 step in
      record { from = counted.from; to = counted.to; rule = counted.rule; written = counted.written; puts = counted.puts }

  -- a step of the rules that count is one of those without a condition, or by one whose condition holds
  parts-of : (holds : At → Bool) (a b : ℕ) → (step : IsCountedStep holds rules interactions a b) → (rule : Rule) → rule_at rules step.rule ≡ rule → IsRuleStep (unconditional rules) interactions a b ⊎ IsStepAt holds rules interactions a b
  parts-of holds a b step (Under left right) is =
      inl ((step-decides (λ _. false) a b).1 (record { from = step.from; to = step.to; rule = step.rule; written = step.written; counts = ap (is_active (λ _. false)) is; puts = step.puts }))
  parts-of holds a b step (UnderAt left right at) is =
      let puts : Puts (UnderAt left right at) (interaction_at interactions a) (interaction_at interactions b) = subst (λ rule. Puts rule (interaction_at interactions a) (interaction_at interactions b)) is step.puts in
      inr (record {
        from = step.from;
        to = step.to;
        left = left;
        right = right;
        at = at;
        there = subst (Contains rules) is (Contains-get_or rules step.rule (Under (Whole 0) (Whole 0)) step.written);
        marked = sym (ap (is_active holds) is) ∙ step.counts;
        lower = puts.0;
        upper = puts.1;
      })
  parts-of holds a b step (Maximal connector) is =
      inl ((step-decides (λ _. false) a b).1 (record { from = step.from; to = step.to; rule = step.rule; written = step.written; counts = ap (is_active (λ _. false)) is; puts = step.puts }))

  pub step-parts : (holds : At → Bool) (a b : ℕ) → IsRuleStep (active holds rules) interactions a b → IsRuleStep (unconditional rules) interactions a b ⊎ IsStepAt holds rules interactions a b
  step-parts holds a b step =
      let counted : IsCountedStep holds rules interactions a b = (step-decides holds a b).0 step in
      parts-of holds a b counted (rule_at rules counted.rule) refl

  pub step-by : (holds : At → Bool) (a b : ℕ) (left right : Side) (at : At) → Contains rules (UnderAt left right at) → IsTrue (holds at)
      → a < length interactions → b < length interactions → IsOn left (interaction_at interactions a) → IsOn right (interaction_at interactions b)
      → IsRuleStep (active holds rules) interactions a b
  step-by holds a b left right at there marked from to lower upper =
      let is : rule_at rules there.0 ≡ UnderAt left right at = sym (get_or_default rules there.0 (UnderAt left right at) (Under (Whole 0) (Whole 0)) there.1) ∙ there.2 in
      (step-decides holds a b).1 (record {
        from = from;
        to = to;
        rule = there.0;
        written = there.1;
        counts = ap (is_active holds) is ∙ marked;
        puts = subst (λ rule. Puts rule (interaction_at interactions a) (interaction_at interactions b)) (sym is) (lower, upper);
      })

  -- ---- chains

  pub below-more : (holds more : At → Bool) → ((at : At) → holds at ≡ true → more at ≡ true) → (a b : ℕ) → IsBelow (active holds rules) interactions a b → IsBelow (active more rules) interactions a b
  below-more holds more weaker = Leads-weaker (IsRuleStep (active holds rules) interactions) (IsRuleStep (active more rules) interactions) (step-more holds more weaker)

  pub below-all : (holds : At → Bool) (a b : ℕ) → IsBelow (active holds rules) interactions a b → IsBelow rules interactions a b
  below-all holds = Leads-weaker (IsRuleStep (active holds rules) interactions) (IsRuleStep rules interactions) (step-all holds)

  -- what is below by the rules without a condition is below whatever is marked
  pub below-always : (holds : At → Bool) (a b : ℕ) → IsBelow (unconditional rules) interactions a b → IsBelow (active holds rules) interactions a b
  below-always holds = below-more (λ _. false) holds (λ at never. absurd (false≢true never))

  pub strict-counted : (holds : At → Bool) → IsStrict rules interactions → IsStrict (active holds rules) interactions
  strict-counted holds strict a below = strict a (below-all holds a a below)

  -- what nothing is above if all rules count no rival is above
  pub free-of-rivals : (holds : At → Bool) (rivals : ℕ → Bool) (n : ℕ) → ((b : ℕ) → ¬ IsBelow rules interactions n b) → is_overruled (active holds rules) interactions rivals n ≡ false
  free-of-rivals holds rivals n free =
      false_from_ne_true (is_overruled (active holds rules) interactions rivals n) (λ yes. let above = (decides_overruled (active holds rules) interactions rivals n).0 yes in free above.0 (below-all holds n above.0 above.2))

  -- what the rules without a condition put below a rival is below it whatever is marked
  pub overruled-always : (holds : At → Bool) (rivals : ℕ → Bool) (n : ℕ) → IsTrue (is_overruled (unconditional rules) interactions rivals n) → IsTrue (is_overruled (active holds rules) interactions rivals n)
  overruled-always holds rivals n decides =
      let above = (decides_overruled (unconditional rules) interactions rivals n).0 decides in
      (decides_overruled (active holds rules) interactions rivals n).1 (above.0, above.1, below-always holds n above.0 above.2)

-- what is overruled by one interaction alone is below it
pub overruled-by-one : (rules : List Rule) (interactions : List (ℕ × ℕ)) (test : ℕ → Bool) (a b : ℕ) → ((n : ℕ) → IsTrue (test n) → n ≡ b) → (b < length interactions → IsTrue (test b))
    → is_overruled rules interactions test a ≡ is_below rules interactions a b
overruled-by-one rules interactions test a b alone there =
    let decides = decides_overruled rules interactions test a in
    same_answer (is_overruled rules interactions test a) (is_below rules interactions a b) (IsBelow rules interactions a b) (
      λ yes. let above = decides.0 yes in subst (IsBelow rules interactions a) (alone above.0 above.1) above.2,
      λ below. decides.1 (b, there (below_inside rules interactions a b below).1, below),
    ) (decides_below rules interactions a b)
