-- What a firing of one transition does to another one, read off the words of their places.
use Rattle.std.proofs.Common.{◌≡◌, ℕ, ◌<◌, ◌^◌, Bool, true, false, not, ◌&&◌, ◌||◌, refl, sym, ◌∙◌, ap, arith, List, ⊎_elim}
use Rattle.std.specs.Prelude.{bit_and, bit_or}
use Rattle.std.specs.Int.{bit_not, w64, trailing_zeros}
use Rattle.std.specs.Int.Bits.{and_lt}
use Rattle.std.proofs.lemmas.Nat.{or_lt, pow_pos}
use Rattle.std.proofs.lemmas.Bool.{cases_lt, and_parts, and_from, or_cases, or_left, or_right, false_from_ne_true, and_left, ltb-true}
use Rattle.petri_atom.specs.Local.{has, is_in, set_below, are_places, moved}
use Rattle.petri_atom.specs.Definition.{TransitionDefinition, can_move}
use Rattle.petri_atom.specs.Transition.{transition_of}
use Rattle.petri_atom.specs.Behind.{marking_after, IsKept, IsMade, IsStopped}
use Rattle.petri_atom.specs.declared.transition.Transition.{Transition}
use Rattle.petri_atom.proofs.Fitting.{not_in}
use Rattle.petri_atom.proofs.Lists.{both, either}
use Rattle.petri_atom.proofs.Markings.{list_all-at, list_all-from, not-list_any, same_answer}
use Rattle.petri_atom.proofs.Members.{there}
use Rattle.petri_atom.proofs.Sets.{has-and, has-or, has-minus, has-above, set_below-lt, has-set_below}

-- ---- what a marking is asked

-- a marking that lets a transition move has its sources, and no target that is no source
can_move-source : (m : ℕ) (u : TransitionDefinition) (k : ℕ) → can_move m u ≡ true → is_in u.sources k ≡ true → has m k ≡ true
can_move-source m u k moves inside = list_all-at (has m) u.sources k (and_parts _ _ moves).0 inside

can_move-target : (m : ℕ) (u : TransitionDefinition) (k : ℕ) → can_move m u ≡ true → is_in u.targets k ≡ true → is_in u.sources k ≡ false → has m k ≡ false
can_move-target m u k moves inside other =
    each (has m k) (is_in u.sources k) (list_all-at (λ p. not (has m p && not (is_in u.sources p))) u.targets k (sym (not-list_any (λ p. has m p && not (is_in u.sources p)) u.targets) ∙ (and_parts _ _ moves).1) inside) other
  where
    each : (b s : Bool) → not (b && not s) ≡ true → s ≡ false → b ≡ false
    each false s free other = refl
    each true true free other = other
    each true false free other = sym free

-- and one that has these and none of those lets it move
can_move-from : (m : ℕ) (u : TransitionDefinition) → ((k : ℕ) → is_in u.sources k ≡ true → has m k ≡ true) → ((k : ℕ) → is_in u.targets k ≡ true → is_in u.sources k ≡ false → has m k ≡ false) → can_move m u ≡ true
can_move-from m u marked free =
    and_from _ _ (list_all-from (has m) u.sources marked)
    (not-list_any (λ p. has m p && not (is_in u.sources p)) u.targets ∙ list_all-from (λ p. not (has m p && not (is_in u.sources p))) u.targets (λ k inside. each (has m k) (is_in u.sources k) (free k inside)))
  where
    each : (b s : Bool) → (s ≡ false → b ≡ false) → not (b && not s) ≡ true
    each false s free = refl
    each true true free = refl
    each true false free = sym (free refl)

-- two markings that are the same at each place that a transition names let it move alike
can_move-weak : (m n : ℕ) (u : TransitionDefinition) → ((k : ℕ) → (is_in u.sources k || is_in u.targets k) ≡ true → has n k ≡ has m k) → can_move m u ≡ true → can_move n u ≡ true
can_move-weak m n u same moves =
    can_move-from n u (λ k inside. same k (or_left _ _ inside) ∙ can_move-source m u k moves inside)
    (λ k inside other. same k (or_right _ _ inside) ∙ can_move-target m u k moves inside other)

can_move-same : (m n : ℕ) (u : TransitionDefinition) → ((k : ℕ) → (is_in u.sources k || is_in u.targets k) ≡ true → has n k ≡ has m k) → can_move n u ≡ can_move m u
can_move-same m n u same =
    same_answer _ _ (can_move-weak n m u (λ k named. sym (same k named))) (can_move-weak m n u same)

-- a place after a move
has-after : (t : TransitionDefinition) (m k : ℕ) → k < 64 → has (marking_after t m) k ≡ ((has m k && not (is_in t.sources k)) || is_in t.targets k)
unfolding moved
has-after t m k place =
    has-set_below 64 (λ p. (has m p && not (is_in t.sources p)) || is_in t.targets p) k place

-- ---- the effects

-- the firing takes a source of the other one for good, or marks a place that blocks it
abbrev pub stops_at : TransitionDefinition → TransitionDefinition → ℕ → Bool
stops_at t u k =
    is_in u.sources k && (is_in t.sources k && not (is_in t.targets k)) ||
    (is_in u.targets k && not (is_in u.sources k)) && is_in t.targets k

-- it changes a place that the other one names
abbrev pub changes_at : TransitionDefinition → TransitionDefinition → ℕ → Bool
changes_at t u k =
    (is_in u.sources k || is_in u.targets k) && (is_in t.sources k && not (is_in t.targets k) || is_in t.targets k && not (is_in t.sources k))

-- the other one names a place that it does not
abbrev pub leaves_at : TransitionDefinition → TransitionDefinition → ℕ → Bool
leaves_at t u k = (is_in u.sources k || is_in u.targets k) && not (is_in t.sources k || is_in t.targets k)

-- where a place does the first, the other one is stopped; where none does the second, it is kept; where none does the first or the third,
-- it is made
stopped : (t u : TransitionDefinition) (k : ℕ) → k < 64 → stops_at t u k ≡ true → IsStopped t u
stopped t u k place stops m =
    false_from_ne_true _
    (λ moves. none (has m k) (is_in t.sources k) (is_in t.targets k) (is_in u.sources k) (is_in u.targets k) stops (λ inside. sym (has-after t m k place) ∙ can_move-source (marking_after t m) u k moves inside) (λ inside other. sym (has-after t m k place) ∙ can_move-target (marking_after t m) u k moves inside other))
  where
    none : (a s e us ut : Bool) → (us && (s && not e) || (ut && not us) && e) ≡ true → (us ≡ true → ((a && not s) || e) ≡ true) → (ut ≡ true → us ≡ false → ((a && not s) || e) ≡ false) → ⊥
    none a s e us ut stops marked free = grind arith

kept : (t u : TransitionDefinition) → ((k : ℕ) → (is_in u.sources k || is_in u.targets k) ≡ true → k < 64) → ((k : ℕ) → changes_at t u k ≡ false) → IsKept t u
kept t u place same m moves =
    can_move-same m (marking_after t m) u
    (λ k named. has-after t m k (place k named) ∙ each (has m k) (is_in t.sources k) (is_in t.targets k) (is_in u.sources k || is_in u.targets k) named (same k) (can_move-source m t k moves))
  where
    each : (a s e named : Bool) → named ≡ true → (named && (s && not e || e && not s)) ≡ false → (s ≡ true → a ≡ true) → ((a && not s) || e) ≡ a
    each a s e named here same marked = grind arith

made : (t u : TransitionDefinition) → ((k : ℕ) → (is_in u.sources k || is_in u.targets k) ≡ true → k < 64) → ((k : ℕ) → stops_at t u k ≡ false) → ((k : ℕ) → leaves_at t u k ≡ false) → IsMade t u
made t u place none all m =
    can_move-from (marking_after t m) u
    (λ k inside. has-after t m k (place k (or_left _ _ inside)) ∙ marked (has m k) (is_in t.sources k) (is_in t.targets k) (is_in u.sources k) (is_in u.targets k) (none k) (all k) inside)
    (λ k inside other. has-after t m k (place k (or_right _ _ inside)) ∙ free (has m k) (is_in t.sources k) (is_in t.targets k) (is_in u.sources k) (is_in u.targets k) (none k) (all k) inside other)
  where
    marked : (a s e us ut : Bool) → (us && (s && not e) || (ut && not us) && e) ≡ false → ((us || ut) && not (s || e)) ≡ false → us ≡ true → ((a && not s) || e) ≡ true
    marked a s e us ut none all inside = grind arith

    free : (a s e us ut : Bool) → (us && (s && not e) || (ut && not us) && e) ≡ false → ((us || ut) && not (s || e)) ≡ false → ut ≡ true → us ≡ false → ((a && not s) || e) ≡ false
    free a s e us ut none all inside other = grind arith

-- ---- by words

-- a word of places has a number exactly if the list has it
has-places : (ks : List ℕ) (k : ℕ) → are_places ks ≡ true → has (set_below 64 (is_in ks)) k ≡ is_in ks k
has-places ks k places =
    ⊎_elim (has-set_below 64 (is_in ks) k)
    (λ past. has-above (set_below 64 (is_in ks)) 64 k (set_below-lt 64 (is_in ks)) past ∙ sym (not_in 64 ks k places past))
    (cases_lt k 64)

has-source : (t : Transition) (k : ℕ) → has t.source_word k ≡ is_in t.sources.items k
has-source t k = ap (λ w. has w k) t.source_bits ∙ has-places t.sources.items k t.sources_are_places

has-target : (t : Transition) (k : ℕ) → has t.target_word k ≡ is_in t.targets.items k
has-target t k = ap (λ w. has w k) t.target_bits ∙ has-places t.targets.items k t.targets_are_places

has-blocking : (t : Transition) (k : ℕ) → has t.blocking_word k ≡ (is_in t.targets.items k && not (is_in t.sources.items k))
has-blocking t k =
    ap (λ w. has w k) t.blocking_bits ∙
    ⊎_elim (has-set_below 64 (λ p. is_in t.targets.items p && not (is_in t.sources.items p)) k)
    (λ past. has-above (set_below 64 (λ p. is_in t.targets.items p && not (is_in t.sources.items p))) 64 k (set_below-lt 64 (λ p. is_in t.targets.items p && not (is_in t.sources.items p))) past ∙ sym (and_left _ _ (not_in 64 t.targets.items k t.targets_are_places past)))
    (cases_lt k 64)

-- a place that a transition names is one that a marking has room for
place_of : (t : Transition) (k : ℕ) → (is_in t.sources.items k || is_in t.targets.items k) ≡ true → k < 64
place_of t k named =
    ⊎_elim (λ inside. ltb-true k 64 (list_all-at _ t.sources.items k t.sources_are_places inside))
    (λ inside. ltb-true k 64 (list_all-at _ t.targets.items k t.targets_are_places inside))
    (or_cases _ _ named)

-- of a word that is 0 none is there
none_there : (w k : ℕ) → w ≡ 0 → has w k ≡ false
none_there w k zero = ap (λ x. has x k) zero ∙ has-above 0 0 k (pow_pos 0) (omega arith)

module _ (t u : Transition) where
  source-small : t.source_word < 2 ^ 64
  source-small = rw t.source_bits (set_below-lt 64 (is_in t.sources.items))

  target-small : t.target_word < 2 ^ 64
  target-small = rw t.target_bits (set_below-lt 64 (is_in t.targets.items))

  other-source-small : u.source_word < 2 ^ 64
  other-source-small = rw u.source_bits (set_below-lt 64 (is_in u.sources.items))

  other-target-small : u.target_word < 2 ^ 64
  other-target-small = rw u.target_bits (set_below-lt 64 (is_in u.targets.items))

  abbrev gone : ℕ
  gone = bit_and t.source_word (bit_not w64 t.target_word)

  abbrev stopping : ℕ
  stopping = bit_or (bit_and u.source_word gone) (bit_and u.blocking_word t.target_word)

  abbrev places : ℕ
  places = bit_or u.source_word u.target_word

  has-gone : (k : ℕ) → has gone k ≡ (is_in t.sources.items k && not (is_in t.targets.items k))
  has-gone k =
      has-minus w64 t.source_word t.target_word k source-small target-small ∙ both (has-source t k) (ap not (has-target t k))

  has-named : (k : ℕ) → has places k ≡ (is_in u.sources.items k || is_in u.targets.items k)
  has-named k = has-or u.source_word u.target_word k ∙ either (has-source u k) (has-target u k)

  has-stopping : (k : ℕ) → has stopping k ≡ stops_at (transition_of t) (transition_of u) k
  has-stopping k =
      has-or (bit_and u.source_word gone) (bit_and u.blocking_word t.target_word) k ∙
      either (has-and u.source_word gone k ∙ both (has-source u k) (has-gone k)) (has-and u.blocking_word t.target_word k ∙ both (has-blocking u k) (has-target t k))

  has-changing : (k : ℕ) → has (bit_and places (bit_or gone t.blocking_word)) k ≡ changes_at (transition_of t) (transition_of u) k
  has-changing k =
      has-and places (bit_or gone t.blocking_word) k ∙
      both (has-named k) (has-or gone t.blocking_word k ∙ either (has-gone k) (has-blocking t k))

  has-left : (k : ℕ) → has (bit_and places (bit_not w64 (bit_or t.source_word t.target_word))) k ≡ leaves_at (transition_of t) (transition_of u) k
  has-left k =
      has-minus w64 places (bit_or t.source_word t.target_word) k (or_lt 64 _ _ other-source-small other-target-small) (or_lt 64 _ _ source-small target-small) ∙
      both (has-named k) (ap not (has-or t.source_word t.target_word k ∙ either (has-source t k) (has-target t k)))

  stopping-small : stopping < 2 ^ 64
  stopping-small =
      let gone_small : gone < 2 ^ 64 = and_lt 64 t.source_word _ source-small (omega arith) in
      let first = and_lt 64 u.source_word gone other-source-small gone_small in
      let blocking_small : u.blocking_word < 2 ^ 64 = rw u.blocking_bits (set_below-lt 64 _) in
      let second = and_lt 64 u.blocking_word t.target_word blocking_small target-small in
      or_lt 64 _ _ first second

  -- where such a place is there, the other one is stopped
  pub stopped-word : 0 < stopping → IsStopped (transition_of t) (transition_of u)
  stopped-word some =
      let k = trailing_zeros w64 stopping in
      let stops : stops_at (transition_of t) (transition_of u) k ≡ true = sym (has-stopping k) ∙ there w64 stopping some stopping-small in
      stopped (transition_of t) (transition_of u) k (place_of u k (named (is_in u.sources.items k) (is_in u.targets.items k) (is_in t.sources.items k && not (is_in t.targets.items k)) (is_in t.targets.items k) stops)) stops
    where
      named : (us ut x y : Bool) → (us && x || (ut && not us) && y) ≡ true → (us || ut) ≡ true
      named us ut x y stops = grind arith

  -- where no place that it names changes, it is kept
  pub kept-word : bit_and places (bit_or gone t.blocking_word) ≡ 0 → IsKept (transition_of t) (transition_of u)
  kept-word none =
      kept (transition_of t) (transition_of u) (place_of u) (λ k. sym (has-changing k) ∙ none_there _ k none)

  -- where the firing decides all places that it names, and none of them stops it, it is made
  pub made-word : stopping ≡ 0 → bit_and places (bit_not w64 (bit_or t.source_word t.target_word)) ≡ 0 → IsMade (transition_of t) (transition_of u)
  made-word free all =
      made (transition_of t) (transition_of u) (place_of u) (λ k. sym (has-stopping k) ∙ none_there _ k free)
      (λ k. sym (has-left k) ∙ none_there _ k all)
