-- Random choices, fired until a connector can be fired.
use Rattle.std.proofs.Common.{◌≡◌, ⊎_elim, ◌∙◌, sym, refl, subst, arith, ℕ, suc, ◌+◌, ◌-◌, ◌<◌, ◌≤◌, true, false, List, get_or}
use Rattle.std.specs.Prelude.{Option}
use Rattle.std.specs.List.{range_with_len}
use Rattle.std.proofs.lemmas.Bool.{cases_lt}
use Rattle.std.proofs.lemmas.List.FromFn.{get_or-range_with_len, length-range_with_len}
use Rattle.std.proofs.lemmas.List.Sums.{position_or_len_is}
use Rattle.plant_model.specs.Plant.{PlantDefinition}
use Rattle.step_session.specs.Answers.{count_until, is_reached, random_session}
use Rattle.step_session.specs.AtRandom.{FiresAtRandom, IsFiredAtRandom}
use Rattle.step_session.specs.Fired.{IsThere}
use Rattle.step_session.specs.Session.{SessionDefinition}
use Rattle.step_session.proofs.AtRandom.{IsFiringAtRandom, no-more-at-random, one-at-random, stuck-at-random}

-- so many random choices are fired, and the connector could not be fired before any of them
pub record IsGoing (plant : PlantDefinition) (connector : ℕ) (first now : SessionDefinition) (count : ℕ) (start out : Option (List ℕ)) : Type 0 where
  pub ahead : (more : ℕ) → IsFiringAtRandom plant first now (count + more) more start out
  pub missed : (fewer : ℕ) → fewer < count → is_reached plant connector (random_session plant first fewer) ≡ false

module _ (plant : PlantDefinition) (connector : ℕ) (first : SessionDefinition) (start : Option (List ℕ)) where
  -- at first none is fired
  pub going-first : IsThere plant first.fired → IsGoing plant connector first first 0 start start
  going-first there = record {
    ahead = λ more.
        let none : more ≡ 0 + more = omega arith in
        subst (λ count. IsFiringAtRandom plant first first count more start start) none
        (record { there = there; places = refl; generator = refl; lines = record { by = λ later printed. printed } });
    missed = λ fewer less. absurd (omega (arith, less));
  }

  module _ (now : SessionDefinition) (count : ℕ) (old : Option (List ℕ)) (going : IsGoing plant connector first now count start old) where
    -- where the session stands
    pub gone : FiresAtRandom count plant first now start old
    gone =
        let none : count + 0 ≡ count = omega arith in
        subst (λ n. FiresAtRandom n plant first now start old) none (no-more-at-random plant first now (count + 0) start 0 old (going.ahead 0) refl)

    -- the connector can't be fired there either, and one more is fired
    pub going-on : (after : SessionDefinition) (new : Option (List ℕ)) → is_reached plant connector now ≡ false → IsFiredAtRandom true plant now after old new
        → IsGoing plant connector first after (count + 1) start new
    going-on after new not_yet fired = record {
      ahead = λ more.
          let next : count + suc more ≡ count + 1 + more = omega arith in
          subst (λ n. IsFiringAtRandom plant first after n more start new) next
          (one-at-random plant first now (count + suc more) start more after old new (going.ahead (suc more)) fired);
      missed = λ fewer less. ⊎_elim (going.missed fewer)
          (λ last. let same : count ≡ fewer = omega (arith, less, last) in
          subst (λ n. is_reached plant connector (random_session plant first n) ≡ false) same (subst (λ s. is_reached plant connector s ≡ false) gone.0 not_yet))
          (cases_lt fewer count);
    }

    module _ (most : ℕ) where
      -- the first of so many that passes
      first-passing : (n : ℕ) → n ≤ most → ((fewer : ℕ) → fewer < n → is_reached plant connector (random_session plant first fewer) ≡ false)
          → (n < most → is_reached plant connector (random_session plant first n) ≡ true) → count_until plant first connector most ≡ n
      first-passing n within misses hits =
          position_or_len_is (λ k. is_reached plant connector (random_session plant first k)) (range_with_len 0 most) n 0 (omega (arith, within, length-range_with_len 0 most))
          (λ k less. let here : k ≡ get_or (range_with_len 0 most) k 0 = omega (arith, get_or-range_with_len 0 most k 0 (omega (arith, less, within))) in
          subst (λ j. is_reached plant connector (random_session plant first j) ≡ false) here (misses k less))
          (λ inside. let less : n < most = omega (arith, inside, length-range_with_len 0 most) in
          let here : n ≡ get_or (range_with_len 0 most) n 0 = omega (arith, get_or-range_with_len 0 most n 0 less) in
          subst (λ j. is_reached plant connector (random_session plant first j) ≡ true) here (hits less))

      -- the connector can be fired there
      pub gone-there : count < most → is_reached plant connector now ≡ true → FiresAtRandom (count_until plant first connector most) plant first now start old
      gone-there less reached =
          subst (λ n. FiresAtRandom n plant first now start old)
          (sym (first-passing count (omega (arith, less)) going.missed (λ _. subst (λ s. is_reached plant connector s ≡ true) gone.0 reached))) gone

      -- the most are fired
      pub gone-to-most : count ≡ most → FiresAtRandom (count_until plant first connector most) plant first now start old
      gone-to-most all =
          subst (λ n. FiresAtRandom n plant first now start old)
          (sym (first-passing count (omega (arith, all)) going.missed (λ less. absurd (omega (arith, all, less))))) gone

      -- nothing is possible there
      pub gone-stuck : count < most → is_reached plant connector now ≡ false → (after : SessionDefinition) (new : Option (List ℕ)) → IsFiredAtRandom false plant now after old new
          → FiresAtRandom (count_until plant first connector most) plant first after start new
      gone-stuck less not_yet after new stuck =
          let stays : (more : ℕ) → FiresAtRandom (count + more) plant first after start new =
          λ more. stuck-at-random plant first now (count + more) start more after old new (going.ahead more) stuck in
          let stands : (n : ℕ) → count ≤ n → FiresAtRandom n plant first after start new =
          λ n past. let whole : count + (n - count) ≡ n = omega (arith, past) in subst (λ k. FiresAtRandom k plant first after start new) whole (stays (n - count)) in
          let misses : (fewer : ℕ) → fewer < most → is_reached plant connector (random_session plant first fewer) ≡ false =
          λ fewer few. ⊎_elim (going.missed fewer)
          (λ past. subst (λ s. is_reached plant connector s ≡ false) (sym stuck.1 ∙ (stands fewer past).0) not_yet)
          (cases_lt fewer count) in
          subst (λ n. FiresAtRandom n plant first after start new)
          (sym (first-passing most (omega arith) misses (λ few. absurd (omega (arith, few))))) (stands most (omega (arith, less)))
