-- Which numbers the choices of a connector have in a list that stands in order.
use Rattle.std.proofs.Common.{◌≡◌, ◌≢◌, ◌⊎◌, inl, inr, ⊎_elim, ◌∙◌, ap, sym, refl, subst, ℕ, zero, suc, ◌+◌, ◌-◌, ◌<◌, ◌≤◌, ◌==◌, ◌&&◌, ◌||◌, nat_lt, Bool, true, false, cond, List, [], ◌∷◌, ◌++◌, length, get_or, set, AllPairs, arith}
use Rattle.std.specs.Prelude.{Some, slice_get}
use Rattle.std.specs.List.{list_any, range_with_len}
use Rattle.std.proofs.lemmas.Bool.{and_parts, cases_eq, cases_lt, eq-eqb, eqb-true, lt-ltb, ltb-true, ne_eqb, or_cases}
use Rattle.std.proofs.lemmas.List.{get_or-set_other, get_or-set_same}
use Rattle.std.proofs.lemmas.Option.{get_or_from_slice_get, slice_get_within}
use Rattle.petri_atom.specs.Local.{Local}
use Rattle.plant_model.specs.Choice.{ChoiceDefinition}
use Rattle.plant_model.specs.Plant.{PlantDefinition}
use Rattle.plant_model.specs.Laws.{IsBefore, comes_before, order_key}
use Rattle.text_io.specs.Numbered.{numbered}
use Rattle.run_text.specs.OwnNumbers.{AreOwn, own_number}
use Rattle.run_text.specs.declared.own_numbers.OwnNumbers.{OwnNumbers}

-- a choice before another is of no later connector
no-later : (c d : ChoiceDefinition) → IsBefore c d → c.connector ≤ d.connector
no-later c d before =
    ⊎_elim
    (λ less. omega (arith, ltb-true c.connector d.connector less))
    (λ same. omega (arith, eqb-true c.connector d.connector (and_parts (c.connector == d.connector) _ same).0))
    (or_cases (nat_lt c.connector d.connector) _ before)

module _ (cs : List ChoiceDefinition) (rise : AllPairs IsBefore cs) (k middle : ℕ) (m : ChoiceDefinition) (here : slice_get cs middle ≡ Some m) where
  -- the connectors before a place are no later, and those after it no earlier
  up-to : (place : ℕ) (d : ChoiceDefinition) → place ≤ middle → (get_or cs place d).connector ≤ m.connector
  up-to place d up =
      let within : middle < length cs = slice_get_within cs middle m here in
      let own : get_or cs middle d ≡ m = get_or_from_slice_get cs middle m d here in
      ⊎_elim
      (λ less. subst (λ c. (get_or cs place d).connector ≤ c.connector) own (no-later (get_or cs place d) (get_or cs middle d) (rise place middle d less within)))
      (λ past. let e : middle ≡ place = omega (arith, past, up) in
      let same : get_or cs place d ≡ m = ap (λ i. get_or cs i d) (sym e) ∙ own in
      omega (arith, ap (λ c. c.connector) same))
      (cases_lt place middle)

  down-to : (place : ℕ) (d : ChoiceDefinition) → middle ≤ place → place < length cs → m.connector ≤ (get_or cs place d).connector
  down-to place d down within =
      let own : get_or cs middle d ≡ m = get_or_from_slice_get cs middle m d here in
      ⊎_elim
      (λ less. subst (λ c. c.connector ≤ (get_or cs place d).connector) own (no-later (get_or cs middle d) (get_or cs place d) (rise middle place d less within)))
      (λ past. let e : middle ≡ place = omega (arith, past, down) in
      let same : get_or cs place d ≡ m = ap (λ i. get_or cs i d) (sym e) ∙ own in
      omega (arith, ap (λ c. c.connector) same))
      (cases_lt middle place)

  -- so if the choice there is of an earlier connector, so are those before it
  pub earlier : m.connector < k → (place : ℕ) (d : ChoiceDefinition) → place < middle + 1 → (get_or cs place d).connector < k
  earlier less place d up = omega (arith, less, up-to place d (omega (arith, up)))

  -- and if it is of none, neither are those after it
  pub not-earlier : k ≤ m.connector → (place : ℕ) (d : ChoiceDefinition) → middle ≤ place → place < length cs → k ≤ (get_or cs place d).connector
  not-earlier more place d down within = omega (arith, more, down-to place d down within)

module _ (k : ℕ) where
  -- those of other connectors have no number
  not-own : (n : ℕ) (c : ChoiceDefinition) (numbers : List ℕ) → (c.connector ≡ k → ⊥) → own_number k n c ++ numbers ≡ numbers
  not-own n c numbers other = ap (λ b. cond b (n ∷ []) [] ++ numbers) (ne_eqb c.connector k other)

  own : (n : ℕ) (c : ChoiceDefinition) (numbers : List ℕ) → c.connector ≡ k → own_number k n c ++ numbers ≡ n ∷ numbers
  own n c numbers same = ap (λ b. cond b (n ∷ []) [] ++ numbers) (eq-eqb c.connector k same)

  -- where exactly so many choices from a place on are of the connector, their numbers follow one another
  pub in-a-row : (n : ℕ) (cs : List ChoiceDefinition) (first count : ℕ) → first + count ≤ length cs
      → ((place : ℕ) (d : ChoiceDefinition) → place < first → (get_or cs place d).connector < k)
      → ((place : ℕ) (d : ChoiceDefinition) → first ≤ place → place < first + count → (get_or cs place d).connector ≡ k)
      → ((place : ℕ) (d : ChoiceDefinition) → first + count ≤ place → place < length cs → k < (get_or cs place d).connector)
      → numbered (own_number k) n cs ≡ range_with_len (n + first) count
  in-a-row n [] first zero there before within after = refl
  in-a-row n [] first (suc count) there before within after = absurd (omega (arith, there))
  in-a-row n (c ∷ cs) (suc first) count there before within after =
      let less : c.connector < k = before 0 c (omega arith) in
      let rest : numbered (own_number k) (n + 1) cs ≡ range_with_len (n + 1 + first) count =
      in-a-row (n + 1) cs first count (omega (arith, there)) (λ place d low. before (suc place) d (omega (arith, low)))
      (λ place d low high. within (suc place) d (omega (arith, low)) (omega (arith, high))) (λ place d high inside. after (suc place) d (omega (arith, high)) (omega (arith, inside))) in
      let moved : n + 1 + first ≡ n + suc first = omega arith in
      not-own n c _ (λ same. omega (arith, less, same)) ∙ rest ∙ ap (λ a. range_with_len a count) moved
  in-a-row n (c ∷ cs) zero zero there before within after =
      let more : k < c.connector = after 0 c (omega arith) (omega arith) in
      let rest : numbered (own_number k) (n + 1) cs ≡ [] =
      in-a-row (n + 1) cs 0 0 (omega arith) (λ place d low. absurd (omega (arith, low)))
      (λ place d low high. absurd (omega (arith, low, high))) (λ place d high inside. after (suc place) d (omega (arith, high)) (omega (arith, inside))) in
      not-own n c _ (λ same. omega (arith, more, same)) ∙ rest
  in-a-row n (c ∷ cs) zero (suc count) there before within after =
      let same : c.connector ≡ k = within 0 c (omega arith) (omega arith) in
      let rest : numbered (own_number k) (n + 1) cs ≡ range_with_len (n + 1 + 0) count =
      in-a-row (n + 1) cs 0 count (omega (arith, there)) (λ place d low. absurd (omega (arith, low)))
      (λ place d low high. within (suc place) d (omega arith) (omega (arith, high))) (λ place d high inside. after (suc place) d (omega (arith, high)) (omega (arith, inside))) in
      let start : n ≡ n + 0 = omega arith in
      let next : n + 1 + 0 ≡ n + 0 + 1 = omega arith in
      own n c _ same ∙ ap (λ ns. n ∷ ns) (rest ∙ ap (λ a. range_with_len a count) next) ∙ ap (λ a. a ∷ range_with_len (n + 0 + 1) count) start

-- the same, where the ends of the connector's choices and of the next one's are known
pub between-ends : (k : ℕ) (cs : List ChoiceDefinition) (first end : ℕ) → end ≤ length cs → first ≤ length cs
    → ((place : ℕ) (d : ChoiceDefinition) → place < first → (get_or cs place d).connector < k)
    → ((place : ℕ) (d : ChoiceDefinition) → first ≤ place → place < length cs → k ≤ (get_or cs place d).connector)
    → ((place : ℕ) (d : ChoiceDefinition) → place < end → (get_or cs place d).connector < k + 1)
    → ((place : ℕ) (d : ChoiceDefinition) → end ≤ place → place < length cs → k + 1 ≤ (get_or cs place d).connector)
    → numbered (own_number k) 0 cs ≡ range_with_len first (end - first)
between-ends k cs first end inside room before from_first below from_end =
    let start : 0 + first ≡ first = omega arith in
    ⊎_elim
    (λ crossed. ⊎_elim
    (λ less. let d : ChoiceDefinition = record { connector = 0; mask = 0; moves = [] } in
    absurd (omega (arith, before end d crossed, from_end end d (omega arith) less)))
    (λ past. absurd (omega (arith, crossed, past, room)))
    (cases_lt end (length cs)))
    (λ ordered.
    in-a-row k 0 cs first (end - first) (omega (arith, inside, ordered)) before
    (λ place d low high. let same : (get_or cs place d).connector ≡ k = omega (arith, from_first place d low (omega (arith, high, inside, ordered)), below place d (omega (arith, high, ordered))) in same)
    (λ place d high within. let past : k < (get_or cs place d).connector = omega (arith, from_end place d (omega (arith, high, ordered)) within) in past) ∙
    ap (λ a. range_with_len a (end - first)) start)
    (cases_lt end first)

-- where the numbers of the connectors before one are known, and then its own, those of one connector more are
pub one-more : (plant : PlantDefinition) (states : List Local) (ns : List OwnNumbers) (i : ℕ) (own : OwnNumbers) → i < length ns
    → ((k : ℕ) (other : OwnNumbers) → k < i → AreOwn plant states k (get_or ns k other)) → AreOwn plant states i own
    → (k : ℕ) (other : OwnNumbers) → k < i + 1 → AreOwn plant states k (get_or (set ns i own) k other)
one-more plant states ns i own within so_far are k other below =
    ⊎_elim
    (λ same. subst (λ j. AreOwn plant states j (get_or (set ns i own) j other)) (sym same) (subst (AreOwn plant states i) (sym (get_or-set_same ns i own other within)) are))
    (λ apart. subst (AreOwn plant states k) (sym (get_or-set_other ns i k own other apart)) (so_far k other (omega (arith, below, apart))))
    (cases_eq k i)

-- a choice is of the connector exactly where one has a number
pub any-number : (k n : ℕ) (cs : List ChoiceDefinition) → list_any (λ c. c.connector == k) cs ≡ nat_lt 0 (length (numbered (own_number k) n cs))
any-number k n [] = refl
any-number k n (c ∷ cs) = each (any-number k (n + 1) cs) (c.connector == k)
  where
    each : list_any (λ d. d.connector == k) cs ≡ nat_lt 0 (length (numbered (own_number k) (n + 1) cs))
        → (b : Bool) → (b || list_any (λ d. d.connector == k) cs) ≡ nat_lt 0 (length (cond b (n ∷ []) [] ++ numbered (own_number k) (n + 1) cs))
    each others true = sym (lt-ltb 0 (suc (length (numbered (own_number k) (n + 1) cs))) (omega arith))
    each others false = others

-- a number is the place of a choice
number-within : (k n : ℕ) (cs : List ChoiceDefinition) (number : ℕ) (others : List ℕ) → numbered (own_number k) n cs ≡ number ∷ others → number < n + length cs
number-within k n [] number others is = cc
number-within k n (c ∷ cs) number others is = each (number-within k (n + 1) cs number others) (c.connector == k) is
  where
    each : (numbered (own_number k) (n + 1) cs ≡ number ∷ others → number < n + 1 + length cs)
        → (b : Bool) → cond b (n ∷ []) [] ++ numbered (own_number k) (n + 1) cs ≡ number ∷ others → number < n + length (c ∷ cs)
    each more true is = let same : n ≡ number = cc in omega (arith, same)
    each more false is = omega (arith, more is)

-- so is one that stands alone
pub first-within : (k : ℕ) (cs : List ChoiceDefinition) (number : ℕ) → numbered (own_number k) 0 cs ≡ number ∷ [] → number < length cs
first-within k cs number is = omega (arith, number-within k 0 cs number [] is)
