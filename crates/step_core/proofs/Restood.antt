-- What stands once the rivals of one connector are others: which connectors have one, and what is overruled by them.
use Rattle.std.proofs.Common.{◌≡◌, ◌↔◌, ◌&&◌, ◌||◌, ℕ, ◌≤◌, sym, ◌∙◌, ap, List, Bool, true, false, ⊎_elim}
use Rattle.std.specs.Prelude.{Some, bit_and, bit_or, slice_get, slice_index_or}
use Rattle.std.specs.FinSet.{contains}
use Rattle.std.proofs.Math.Bool.{Bool-set}
use Rattle.std.proofs.Math.Logic.{∥∥₁_elim, ∥∥₁_map, ∥∥₁_prop}
use Rattle.std.proofs.lemmas.Bool.{and_parts, cases_Bool, cases_eq, false≢true, or_from, or_left, or_parts}
use Rattle.petri_atom.proofs.Markings.{same_answer}
use Rattle.petri_atom.proofs.Sets.{has-and, has-or}
use Rattle.priority_filter.specs.Members.{has_bit}
use Rattle.plant_model.specs.Choice.{Interaction}
use Rattle.plant_model.specs.ConnectorRows.{is_of_connector}
use Rattle.plant_model.specs.Ranks.{HasRival, IsLive, is_head_of}
use Rattle.plant_model.specs.System.{interactions_in, plant_of}
use Rattle.plant_model.specs.declared.ranks.Rank.{Rank}
use Rattle.plant_model.specs.declared.system.System.{System}
use Rattle.step_core.specs.Standing.{AreLive, AreOver, HasHead, IsStanding, IsTied, but_heads, is_always_overruled}
use Rattle.step_core.specs.declared.standing.Standing.{Standing}
use Rattle.step_core.proofs.Ranked.{carried, carried-with-heads, connector-of, of-no-other, over-by, over-some, under-there}

-- where each bit is right, so are those of tied connectors
pub stands-where-live : (system : System) (rivals : ℕ → Bool) (live over : ℕ) → IsLive (interactions_in system) rivals live → AreOver (plant_of system) (interactions_in system) system.ranks rivals over
    → IsStanding (plant_of system) (interactions_in system) system.ranks rivals (record { live = live; over = over })
stands-where-live system rivals live over lives overs = ∣ ((λ k _. lives k), overs) ∣₁

module _ (system : System) (connector : ℕ) (old new : ℕ → Bool) (live word : ℕ)
    (others : (n : ℕ) → is_of_connector (interactions_in system) connector n ≡ false → new n ≡ old n)
    (stood : AreLive (plant_of system) (interactions_in system) old live) where
  abbrev all : List Interaction
  all = interactions_in system

  -- the bit of the connector tells whether it has a rival now, and all others are as they were
  pub stands : (is_some : Bool) → has_bit word connector ≡ is_some → ((k : ℕ) → (k ≡ connector → ⊥) → has_bit word k ≡ has_bit live k) → ((is_some ≡ true) ↔ HasRival all new connector) → AreLive (plant_of system) all new word
  stands is_some here elsewhere some k tied =
      ⊎_elim
      (λ same. (
        λ set.
            let found = some.0 (sym here ∙ ap (has_bit word) (sym same) ∙ set) in
            (found.0, ap (λ j. is_of_connector all j found.0) same ∙ found.1, found.2),
        λ rival. ap (has_bit word) same ∙ here ∙ some.1 (rival.0, ap (λ j. is_of_connector all j rival.0) (sym same) ∙ rival.1, rival.2),
      ))
      (λ other. (
        λ set.
            let found = (stood k tied).0 (sym (elsewhere k other) ∙ set) in
            (found.0, found.1, others found.0 (of-no-other system found.0 k connector found.1 other) ∙ found.2),
        λ rival. elsewhere k other ∙ (stood k tied).1 (rival.0, rival.1, sym (others rival.0 (of-no-other system rival.0 k connector rival.1 other)) ∙ rival.2),
      ))
      (cases_eq k connector)

  -- where each connector with an interaction below one of this one's is told if what it sees of this one is another, beside its heads, of all
  -- others the same is overruled, beside by heads
  pub told : (rank : Rank) → slice_get system.ranks.of_connectors.items connector ≡ Some rank → AreLive (plant_of system) all new word → (reached : ℕ)
      → ((j : ℕ) → has_bit rank.below_whole j ≡ true → has_bit reached j ≡ false → has_bit word connector ≡ has_bit live connector)
      → ((j : ℕ) → has_bit rank.below_rest j ≡ true → has_bit reached j ≡ false → (m : ℕ) → is_of_connector all connector m ≡ true → contains system.ranks.watched m ≡ true → new m ≡ old m)
      → (n j : ℕ) → is_of_connector all j n ≡ true → (j ≡ connector → ⊥) → has_bit reached j ≡ false
      → is_always_overruled (plant_of system) all (but_heads system.ranks all j new) n ≡ is_always_overruled (plant_of system) all (but_heads system.ranks all j old) n
  told rank at now reached whole some n j its other out =
      same_answer (is_always_overruled (plant_of system) all (but_heads system.ranks all j new) n) (is_always_overruled (plant_of system) all (but_heads system.ranks all j old) n)
      (carried system connector rank at new old j n other its
      (λ m apart rival. sym (others m apart) ∙ rival)
      (λ tells tied rival. (stood connector tied).0 (sym (whole j tells out) ∙ (now connector tied).1 rival))
      (λ tells m own seen rival. sym (some j tells out m own seen) ∙ rival))
      (carried system connector rank at old new j n other its
      (λ m apart rival. others m apart ∙ rival)
      (λ tells tied rival. (now connector tied).0 (whole j tells out ∙ (stood connector tied).1 rival))
      (λ tells m own seen rival. some j tells out m own seen ∙ rival))

-- ---- heads

-- where the same is overruled beside by heads, and a connector has a head that is a rival if it had one, the same is overruled of it
told-with-heads : (system : System) (old new : ℕ → Bool) (n k : ℕ) → is_of_connector (interactions_in system) k n ≡ true
    → is_always_overruled (plant_of system) (interactions_in system) (but_heads system.ranks (interactions_in system) k new) n ≡ is_always_overruled (plant_of system) (interactions_in system) (but_heads system.ranks (interactions_in system) k old) n
    → (HasHead system.ranks new k ↔ HasHead system.ranks old k)
    → is_always_overruled (plant_of system) (interactions_in system) new n ≡ is_always_overruled (plant_of system) (interactions_in system) old n
told-with-heads system old new n k its beside heads =
    same_answer (is_always_overruled (plant_of system) (interactions_in system) new n) (is_always_overruled (plant_of system) (interactions_in system) old n)
    (carried-with-heads system new old k n its (λ over. sym beside ∙ over) heads.0)
    (carried-with-heads system old new k n its (λ over. beside ∙ over) heads.1)

-- where no head is another rival than before, it is so
heads-alike : (system : System) (old new : ℕ → Bool) (k : ℕ) → ((m : ℕ) → contains system.ranks.heads m ≡ true → new m ≡ old m) → HasHead system.ranks new k ↔ HasHead system.ranks old k
heads-alike system old new k same = (
  λ head. (head.0, head.1, sym (same head.0 (is-head head.0 head.1)) ∙ head.2),
  λ head. (head.0, head.1, same head.0 (is-head head.0 head.1) ∙ head.2),
)
  where
    is-head : (m : ℕ) → is_head_of system.ranks m k ≡ true → contains system.ranks.heads m ≡ true
    is-head m head = (and_parts (contains system.ranks.heads m) (has_bit (slice_index_or system.ranks.below_head.items m 0) k) head).0

-- and where its bit is as before, and tells so
heads-by-bit : (system : System) (old new : ℕ → Bool) (before now n k : ℕ) → is_of_connector (interactions_in system) k n ≡ true
    → AreOver (plant_of system) (interactions_in system) system.ranks old before → AreOver (plant_of system) (interactions_in system) system.ranks new now → has_bit now k ≡ has_bit before k
    → HasHead system.ranks new k ↔ HasHead system.ranks old k
heads-by-bit system old new before now n k its were are same = (
  λ head. (were.right k n its).0 (sym same ∙ (are.right k n its).1 head),
  λ head. (are.right k n its).0 (same ∙ (were.right k n its).1 head),
)

-- where no head is another rival than before, the bits that were right are so
over-stays : (system : System) (old new : ℕ → Bool) (over : ℕ) → ((m : ℕ) → contains system.ranks.heads m ≡ true → new m ≡ old m)
    → AreOver (plant_of system) (interactions_in system) system.ranks old over → AreOver (plant_of system) (interactions_in system) system.ranks new over
over-stays system old new over same were = record {
  right = λ k n its. (
    λ set. (heads-alike system old new k same).1 ((were.right k n its).0 set),
    λ head. (were.right k n its).1 ((heads-alike system old new k same).0 head),
  );
  within = were.within;
}

-- once the connectors that changed stand again, beside by heads, so do heads
module _ (system : System) (old new : ℕ → Bool) (was : Standing) (stood : IsStanding (plant_of system) (interactions_in system) system.ranks old was) (changed reached live : ℕ)
    (lives : ∥ AreLive (plant_of system) (interactions_in system) new live ∥₁)
    (told_beside : (n k : ℕ) → is_of_connector (interactions_in system) k n ≡ true → has_bit changed k ≡ false → has_bit reached k ≡ false
    → is_always_overruled (plant_of system) (interactions_in system) (but_heads system.ranks (interactions_in system) k new) n ≡ is_always_overruled (plant_of system) (interactions_in system) (but_heads system.ranks (interactions_in system) k old) n) where
  abbrev over-is : ℕ → ((ℕ → Bool)) → Bool
  over-is n rivals = is_always_overruled (plant_of system) (interactions_in system) rivals n

  -- where they are made again, those of which the bit is another are told
  module _ (over differing : ℕ) (overs : AreOver (plant_of system) (interactions_in system) system.ranks new over)
      (same : (k : ℕ) → has_bit differing k ≡ false → has_bit over k ≡ has_bit was.over k) where
    pub stands-anew : IsStanding (plant_of system) (interactions_in system) system.ranks new (record { live = live; over = over })
    stands-anew = ∥∥₁_map lives (λ now. (now, overs))

    pub told-anew : (n k : ℕ) → is_of_connector (interactions_in system) k n ≡ true → has_bit changed k ≡ false → has_bit (bit_or reached differing) k ≡ false → over-is n new ≡ over-is n old
    told-anew n k its unchanged out =
        let parts = or_parts (has_bit reached k) (has_bit differing k) (sym (has-or reached differing k) ∙ out) in
        ∥∥₁_elim stood (Bool-set (over-is n new) (over-is n old))
        (λ before. told-with-heads system old new n k its (told_beside n k its unchanged parts.0) (heads-by-bit system old new was.over over n k its before.1 overs (same k parts.1)))

    pub within-anew : (wires : ℕ) → ((k : ℕ) → wires ≤ k → has_bit reached k ≡ false) → ((k : ℕ) → wires ≤ k → has_bit differing k ≡ false) → (k : ℕ) → wires ≤ k → has_bit (bit_or reached differing) k ≡ false
    within-anew wires first second k past = has-or reached differing k ∙ or_from (has_bit reached k) (has_bit differing k) (first k past) (second k past)

  -- where no head is another rival than before, they are right as they were
  module _ (heads : (m : ℕ) → contains system.ranks.heads m ≡ true → new m ≡ old m) where
    pub stands-still : IsStanding (plant_of system) (interactions_in system) system.ranks new (record { live = live; over = was.over })
    stands-still = ∥∥₁_elim stood ∥∥₁_prop (λ before. ∥∥₁_map lives (λ now. (now, over-stays system old new was.over heads before.1)))

    pub told-still : (n k : ℕ) → is_of_connector (interactions_in system) k n ≡ true → has_bit changed k ≡ false → has_bit reached k ≡ false → over-is n new ≡ over-is n old
    told-still n k its unchanged out = told-with-heads system old new n k its (told_beside n k its unchanged out) (heads-alike system old new k heads)

-- ---- what is possible and overruled now that was not, or the other way round

module _ (system : System) (possible old new : ℕ → Bool) (standing : Standing) (changed reached : ℕ)
    (stands : IsStanding (plant_of system) (interactions_in system) system.ranks new standing)
    (are_rivals : (n k : ℕ) → is_of_connector (interactions_in system) k n ≡ true → possible n ≡ true → new n ≡ true)
    (same : (n k : ℕ) → is_of_connector (interactions_in system) k n ≡ true → has_bit changed k ≡ false → new n ≡ old n)
    (told : (n k : ℕ) → is_of_connector (interactions_in system) k n ≡ true → has_bit changed k ≡ false → has_bit reached k ≡ false
    → is_always_overruled (plant_of system) (interactions_in system) new n ≡ is_always_overruled (plant_of system) (interactions_in system) old n) where
  -- of a tied connector whose bit is not set nothing is possible
  tied-live : (n k : ℕ) → is_of_connector (interactions_in system) k n ≡ true → possible n ≡ true → IsTied (plant_of system) (interactions_in system) k → has_bit standing.live k ≡ true
  tied-live n k its can tied = ∥∥₁_elim stands (Bool-set (has_bit standing.live k) true) (λ tells. (tells.0 k tied).1 (n, its, are_rivals n k its can))

  -- so a rival above something possible of a connector whose bit is not set is of that connector
  still-over : (one other : ℕ → Bool) (n k : ℕ) → is_of_connector (interactions_in system) k n ≡ true → possible n ≡ true → has_bit standing.live k ≡ false → ((m : ℕ) → is_of_connector (interactions_in system) k m ≡ true → other m ≡ one m)
      → is_always_overruled (plant_of system) (interactions_in system) one n ≡ true → is_always_overruled (plant_of system) (interactions_in system) other n ≡ true
  still-over one other n k its can out alike over =
      let found = over-some system one n over in
      let m : ℕ = found.0 in
      let of = connector-of system m (under-there system n m found.2) in
      ⊎_elim
      (λ own. over-by system other n m (alike m own ∙ found.1) found.2)
      (λ apart.
      let other_one : of.0 ≡ k → ⊥ = λ is. false≢true (sym apart ∙ ap (λ j. is_of_connector (interactions_in system) j m) (sym is) ∙ of.2) in
      absurd (false≢true (sym out ∙ tied-live n k its can (of.0, n, m, other_one, its, of.2, or_left _ _ found.2))))
      (cases_Bool (is_of_connector (interactions_in system) k m))

  pub told-affected : (n k : ℕ) → is_of_connector (interactions_in system) k n ≡ true → has_bit (bit_or changed (bit_and reached standing.live)) k ≡ false → possible n ≡ true
      → is_always_overruled (plant_of system) (interactions_in system) new n ≡ is_always_overruled (plant_of system) (interactions_in system) old n
  told-affected n k its out can =
      let parts = or_parts (has_bit changed k) (has_bit (bit_and reached standing.live) k) (sym (has-or changed (bit_and reached standing.live) k) ∙ out) in
      ⊎_elim
      (λ reach.
      let none : has_bit standing.live k ≡ false = ap (λ b. b && has_bit standing.live k) (sym reach) ∙ sym (has-and reached standing.live k) ∙ parts.1 in
      same_answer (is_always_overruled (plant_of system) (interactions_in system) new n) (is_always_overruled (plant_of system) (interactions_in system) old n)
      (still-over new old n k its can none (λ m own. sym (same m k own parts.0)))
      (still-over old new n k its can none (λ m own. same m k own parts.0)))
      (λ apart. told n k its parts.0 apart)
      (cases_Bool (has_bit reached k))

  pub affected-within : ((k : ℕ) → has_bit changed k ≡ false → has_bit reached k ≡ false → has_bit (bit_or changed (bit_and reached standing.live)) k ≡ false)
  affected-within k out none =
      has-or changed (bit_and reached standing.live) k ∙ ap (λ b. b || has_bit (bit_and reached standing.live) k) out ∙
      has-and reached standing.live k ∙ ap (λ b. b && has_bit standing.live k) none
