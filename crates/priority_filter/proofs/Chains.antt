-- Chains of steps of any relation, and how a relation is closed through one station after another.
use Rattle.std.proofs.Common.{◌⊎◌, ◌↔◌, ℕ, ◌+◌, ◌<◌, List, [], ◌∷◌, ◌++◌, inl, inr, ⊎_elim, below_more}
use Rattle.priority_filter.specs.Order.{Chain, Leads}

-- ---- chains

chain_join : (Step : ℕ → ℕ → Type 0) (a : ℕ) (first : List ℕ) (s : ℕ) (rest : List ℕ) (b : ℕ) → Chain Step a first s → Chain Step s rest b → Chain Step a (first ++ s ∷ rest) b
chain_join Step a [] s rest b up on = (up, on)
chain_join Step a (x ∷ first) s rest b up on = (up.0, chain_join Step x first s rest b up.1 on)

pub Leads-step : (Step : ℕ → ℕ → Type 0) (a b : ℕ) → Step a b → Leads Step a b
Leads-step Step a b step = record { stations = []; chain = step }

pub Leads-join : (Step : ℕ → ℕ → Type 0) (a s b : ℕ) → Leads Step a s → Leads Step s b → Leads Step a b
Leads-join Step a s b up on = record { stations = up.stations ++ s ∷ on.stations; chain = chain_join Step a up.stations s on.stations b up.chain on.chain }

-- a relation that has each step and can be joined at any station has each chain
chain_within : (Step R : ℕ → ℕ → Type 0) → ((a b : ℕ) → Step a b → R a b) → ((s a b : ℕ) → R a s → R s b → R a b) → (a : ℕ) (stations : List ℕ) (b : ℕ) → Chain Step a stations b → R a b
chain_within Step R keeps joins a [] b chain = keeps a b chain
chain_within Step R keeps joins a (s ∷ stations) b chain = joins s a b (keeps a s chain.0) (chain_within Step R keeps joins s stations b chain.1)

pub Leads-within : (Step R : ℕ → ℕ → Type 0) → ((a b : ℕ) → Step a b → R a b) → ((s a b : ℕ) → R a s → R s b → R a b) → (a b : ℕ) → Leads Step a b → R a b
Leads-within Step R keeps joins a b leads = chain_within Step R keeps joins a leads.stations b leads.chain

-- chains of one relation are chains of any that has its steps
pub Leads-weaker : (Step More : ℕ → ℕ → Type 0) → ((a b : ℕ) → Step a b → More a b) → (a b : ℕ) → Leads Step a b → Leads More a b
Leads-weaker Step More keeps =
    Leads-within Step (Leads More) (λ x y step. Leads-step More x y (keeps x y step)) (λ s x y up on. Leads-join More x s y up on)

-- ---- closing through one station

-- what leads to the station and on from it leads all the way
abbrev pub ClosedThrough : (ℕ → ℕ → Type 0) → ℕ → Type 0
ClosedThrough R s = (a b : ℕ) → R a s → R s b → R a b

-- New is Old with each pair that Old joins at the station
abbrev pub JoinsAt : (ℕ → ℕ → Type 0) → (ℕ → ℕ → Type 0) → ℕ → Type 0
JoinsAt Old New s = (a b : ℕ) → New a b ↔ (Old a b ⊎ (Old a s × Old s b))

-- it is closed through the new station, and still through each that it was closed through
module _ (Old New : ℕ → ℕ → Type 0) (k : ℕ) (joins : JoinsAt Old New k) where
  to_station : (a : ℕ) → New a k → Old a k
  to_station a new = ⊎_elim (λ old. old) (λ both. both.0) ((joins a k).0 new)

  from_station : (b : ℕ) → New k b → Old k b
  from_station b new = ⊎_elim (λ old. old) (λ both. both.1) ((joins k b).0 new)

  closed_here : ClosedThrough New k
  closed_here a b up on = (joins a b).1 (inr (to_station a up, from_station b on))

  closed_still : (s : ℕ) → ClosedThrough Old s → ClosedThrough New s
  closed_still s closed a b up on =
      ⊎_elim
      (λ up_old. ⊎_elim
      (λ on_old. (joins a b).1 (inl (closed a b up_old on_old)))
      (λ on_both. (joins a b).1 (inr (closed a k up_old on_both.0, on_both.1)))
      ((joins s b).0 on))
      (λ up_both. ⊎_elim
      (λ on_old. (joins a b).1 (inr (up_both.0, closed k b up_both.1 on_old)))
      (λ on_both. (joins a b).1 (inr (up_both.0, on_both.1)))
      ((joins s b).0 on))
      ((joins a s).0 up)

  pub closed_more : ((s : ℕ) → s < k → ClosedThrough Old s) → (s : ℕ) → s < k + 1 → ClosedThrough New s
  closed_more closed = below_more (ClosedThrough New) k (λ s below. closed_still s (closed s below)) closed_here

  -- what was led to by chains is so still
  pub sound_more : (Step : ℕ → ℕ → Type 0) → ((a b : ℕ) → Old a b → Leads Step a b) → (a b : ℕ) → New a b → Leads Step a b
  sound_more Step sound a b new = ⊎_elim (sound a b) (λ both. Leads-join Step a k b (sound a k both.0) (sound k b both.1)) ((joins a b).0 new)

  pub keeps_more : (a b : ℕ) → Old a b → New a b
  keeps_more a b old = (joins a b).1 (inl old)
