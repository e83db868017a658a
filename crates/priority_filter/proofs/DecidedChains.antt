-- The computed test of chains tells exactly whether a chain leads from one number to another.
use Rattle.std.proofs.Common.{◌≡◌, ◌⊎◌, ◌↔◌, ℕ, zero, suc, ◌+◌, ◌<◌, Bool, ◌&&◌, List, [], ◌∷◌, inl, inr, ⊎_elim, sym, subst, arith, IsTrue}
use Rattle.std.proofs.lemmas.Bool.{cases_eq, and_parts, and_from, or_cases, or_left, or_right}
use Rattle.priority_filter.specs.Order.{Chain, Leads}
use Rattle.priority_filter.specs.Decided.{leads_below}

-- a chain whose stations are all below k
abbrev ChainBelow : (ℕ → ℕ → Type 0) → ℕ → ℕ → List ℕ → ℕ → Type 0
ChainBelow Step k a [] b = Step a b
ChainBelow Step k a (s ∷ stations) b = (s < k) × (Step a s × ChainBelow Step k s stations b)

record LeadsBelow (Step : ℕ → ℕ → Type 0) (k a b : ℕ) : Type 0 where
  stations : List ℕ
  chain : ChainBelow Step k a stations b

module _ (Step : ℕ → ℕ → Type 0) where
  on_from : (k a s b : ℕ) → s < k → Step a s → LeadsBelow Step k s b → LeadsBelow Step k a b
  on_from k a s b below step rest = record { stations = s ∷ rest.stations; chain = (below, (step, rest.chain)) }

  weaker_chain : (k a : ℕ) (stations : List ℕ) (b : ℕ) → ChainBelow Step k a stations b → ChainBelow Step (k + 1) a stations b
  weaker_chain k a [] b chain = chain
  weaker_chain k a (s ∷ stations) b chain = (omega (arith, chain.0), (chain.1.0, weaker_chain k s stations b chain.1.1))

  join_at : (k a : ℕ) (first : List ℕ) (b : ℕ) → ChainBelow Step k a first k → LeadsBelow Step (k + 1) k b → LeadsBelow Step (k + 1) a b
  join_at k a [] b up on = on_from (k + 1) a k b (omega arith) up on
  join_at k a (s ∷ first) b up on = on_from (k + 1) a s b (omega (arith, up.0)) up.1.0 (join_at k s first b up.1.1 on)

  -- a chain through stations up to k goes round k, or leads to it and on from it
  split_at : (k a : ℕ) (stations : List ℕ) (b : ℕ) → ChainBelow Step (k + 1) a stations b → LeadsBelow Step k a b ⊎ (LeadsBelow Step k a k × LeadsBelow Step k k b)
  split_at k a [] b chain = inl (record { stations = []; chain = chain })
  split_at k a (s ∷ stations) b chain =
      ⊎_elim
      (λ here.
      let step : Step a k = subst (Step a) here chain.1.0 in
      let to_k : LeadsBelow Step k a k = record { stations = []; chain = step } in
      ⊎_elim
      (λ round. inr (to_k, subst (λ x. LeadsBelow Step k x b) here round))
      (λ both. inr (to_k, both.1))
      (split_at k s stations b chain.1.1))
      (λ other.
      let lower : s < k = omega (arith, chain.0) in
      ⊎_elim
      (λ round. inl (on_from k a s b lower chain.1.0 round))
      (λ both. inr (on_from k a s k lower chain.1.0 both.0, both.1))
      (split_at k s stations b chain.1.1))
      (cases_eq s k)

  one_step : (a : ℕ) (stations : List ℕ) (b : ℕ) → ChainBelow Step 0 a stations b → Step a b
  one_step a [] b chain = chain
  one_step a (s ∷ stations) b chain = absurd (omega (arith, chain.0))

  weaker : (k a b : ℕ) → LeadsBelow Step k a b → LeadsBelow Step (k + 1) a b
  weaker k a b leads = record { stations = leads.stations; chain = weaker_chain k a leads.stations b leads.chain }

  -- the test of chains through stations below k tells whether there is one
  decides_below : (step : ℕ → ℕ → Bool) → ((a b : ℕ) → IsTrue (step a b) ↔ Step a b)
      → (k a b : ℕ) → IsTrue (leads_below step k a b) ↔ LeadsBelow Step k a b
  decides_below step decides zero a b = (
    λ yes. record { stations = []; chain = (decides a b).0 yes },
    λ leads. (decides a b).1 (one_step a leads.stations b leads.chain),
  )
  decides_below step decides (suc k) a b =
      let next : k + 1 ≡ suc k = omega arith in
      let round = decides_below step decides k a b in
      let up = decides_below step decides k a k in
      let on = decides_below step decides k k b in (
        λ yes. subst (λ n. LeadsBelow Step n a b) next
            (⊎_elim
            (λ passed. weaker k a b (round.0 passed))
            (λ both.
            let parts = and_parts (leads_below step k a k) (leads_below step k k b) both in
            let first : LeadsBelow Step k a k = up.0 parts.0 in
            join_at k a first.stations b first.chain (weaker k k b (on.0 parts.1)))
            (or_cases (leads_below step k a b) (leads_below step k a k && leads_below step k k b) yes)),
        λ leads.
            let wide : LeadsBelow Step (k + 1) a b = subst (λ n. LeadsBelow Step n a b) (sym next) leads in
            ⊎_elim
            (λ passed. or_left (leads_below step k a b) (leads_below step k a k && leads_below step k k b) (round.1 passed))
            (λ both. or_right (leads_below step k a b) (leads_below step k a k && leads_below step k k b) (and_from (leads_below step k a k) (leads_below step k k b) (up.1 both.0) (on.1 both.1)))
            (split_at k a wide.stations b wide.chain),
      )

  -- if each step begins below n each station is below n
  all_below : (n : ℕ) → ((a b : ℕ) → Step a b → a < n) → (a : ℕ) (stations : List ℕ) (b : ℕ) → Chain Step a stations b → ChainBelow Step n a stations b
  all_below n range a [] b chain = chain
  all_below n range a (s ∷ stations) b chain = (first_below n range s stations b chain.1, (chain.0, all_below n range s stations b chain.1))
    where
      first_below : (n : ℕ) → ((a b : ℕ) → Step a b → a < n) → (a : ℕ) (stations : List ℕ) (b : ℕ) → Chain Step a stations b → a < n
      first_below n range a [] b chain = range a b chain
      first_below n range a (s ∷ stations) b chain = range a s chain.0

  forget_bound : (k a : ℕ) (stations : List ℕ) (b : ℕ) → ChainBelow Step k a stations b → Chain Step a stations b
  forget_bound k a [] b chain = chain
  forget_bound k a (s ∷ stations) b chain = (chain.1.0, forget_bound k s stations b chain.1.1)

  -- if each step begins below n, the test of chains through stations below n tells whether a chain leads
  pub decides_leads : (n : ℕ) → ((a b : ℕ) → Step a b → a < n) → (step : ℕ → ℕ → Bool) → ((a b : ℕ) → IsTrue (step a b) ↔ Step a b)
      → (a b : ℕ) → IsTrue (leads_below step n a b) ↔ Leads Step a b
  decides_leads n range step decides a b =
      let below = decides_below step decides n a b in (
        λ yes.
            let leads : LeadsBelow Step n a b = below.0 yes in
            record { stations = leads.stations; chain = forget_bound n a leads.stations b leads.chain },
        λ leads. below.1 (record { stations = leads.stations; chain = all_below n range a leads.stations b leads.chain }),
      )
