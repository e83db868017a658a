-- What is so of a connector that no other one has to do with.
use Rattle.std.proofs.Common.{◌≡◌, ◌<◌, ℕ, sym, ◌∙◌, ap, length, map, arith, Bool, true, false, ⊎_elim}
use Rattle.std.proofs.Math.Logic.{∥∥₁_map}
use Rattle.std.proofs.lemmas.Bool.{cases_Bool, cases_eq, false≢true, or_from}
use Rattle.petri_atom.proofs.Markings.{same_answer}
use Rattle.std.proofs.lemmas.List.{length-map}
use Rattle.priority_filter.specs.Active.{unconditional}
use Rattle.priority_filter.proofs.DecidedOrder.{below_inside, decides_below}
use Rattle.plant_model.specs.Choice.{named}
use Rattle.plant_model.specs.ConnectorRows.{is_of_connector}
use Rattle.plant_model.specs.Ranks.{HasRival}
use Rattle.plant_model.specs.System.{interactions_in, plant_of}
use Rattle.plant_model.specs.declared.system.System.{System}
use Rattle.step_core.specs.Alone.{IsAlone}
use Rattle.step_core.specs.Standing.{HasHead, IsStanding, IsTied, is_always_below, is_always_overruled}
use Rattle.step_core.specs.declared.standing.Standing.{Standing}
use Rattle.step_core.proofs.Ranked.{connector-of, head-above, head-elsewhere, of-no-other, over-by, over-some}

-- what is below something is there
under-inside : (system : System) (n m : ℕ) → is_always_below (plant_of system) (interactions_in system) n m ≡ true → n < length (interactions_in system)
under-inside system n m up =
    let rules = unconditional (plant_of system).rules in
    let all = map named (interactions_in system) in
    omega (arith, (below_inside rules all n m ((decides_below rules all n m).0 up)).0, length-map (interactions_in system) named)

-- where the rivals of a connector that is alone change, and no others, the same is overruled of each other one
pub over-elsewhere : (system : System) (k : ℕ) → IsAlone (plant_of system) (interactions_in system) k → (old new : ℕ → Bool)
    → ((n : ℕ) → is_of_connector (interactions_in system) k n ≡ false → new n ≡ old n)
    → (n : ℕ) → is_of_connector (interactions_in system) k n ≡ false → is_always_overruled (plant_of system) (interactions_in system) new n ≡ is_always_overruled (plant_of system) (interactions_in system) old n
over-elsewhere system k alone old new others n apart =
    same_answer (is_always_overruled (plant_of system) (interactions_in system) new n) (is_always_overruled (plant_of system) (interactions_in system) old n)
    (carry new old (λ m out. others m out))
    (carry old new (λ m out. sym (others m out)))
  where
    carry : (one other : ℕ → Bool) → ((m : ℕ) → is_of_connector (interactions_in system) k m ≡ false → one m ≡ other m) → is_always_overruled (plant_of system) (interactions_in system) one n ≡ true → is_always_overruled (plant_of system) (interactions_in system) other n ≡ true
    carry one other same over =
        let found = over-some system one n over in
        let m : ℕ = found.0 in
        ⊎_elim
        (λ own. absurd (never m own found.2))
        (λ out. over-by system other n m (sym (same m out) ∙ found.1) found.2)
        (cases_Bool (is_of_connector (interactions_in system) k m))
      where
        never : (m : ℕ) → is_of_connector (interactions_in system) k m ≡ true → is_always_below (plant_of system) (interactions_in system) n m ≡ true → ⊥
        never m own up =
            let of = connector-of system n (under-inside system n m up) in
            let other_one : of.0 ≡ k → ⊥ = λ is. false≢true (sym apart ∙ ap (λ j. is_of_connector (interactions_in system) j n) (sym is) ∙ of.2) in
            false≢true (sym (alone of.0 m n other_one own of.2).1 ∙ up)

-- and what stands of tied connectors stands still
pub stands-elsewhere : (system : System) (k : ℕ) → IsAlone (plant_of system) (interactions_in system) k → (old new : ℕ → Bool) (standing : Standing)
    → ((n : ℕ) → is_of_connector (interactions_in system) k n ≡ false → new n ≡ old n)
    → IsStanding (plant_of system) (interactions_in system) system.ranks old standing → IsStanding (plant_of system) (interactions_in system) system.ranks new standing
stands-elsewhere system k alone old new standing others stands =
    ∥∥₁_map stands (λ both. (
      λ j tied.
          let apart = untied j tied in (
            λ set. moved old new j apart (λ m out. others m out) ((both.0 j tied).0 set),
            λ rival. (both.0 j tied).1 (moved new old j apart (λ m out. sym (others m out)) rival),
          ),
      record {
        right = λ j n its. (
          λ set. head old new (λ m out. others m out) j n its ((both.1.right j n its).0 set),
          λ rival. (both.1.right j n its).1 (head new old (λ m out. sym (others m out)) j n its rival),
        );
        within = both.1.within;
      },
    ))
  where
    -- one that is alone is not tied
    untied : (j : ℕ) → IsTied (plant_of system) (interactions_in system) j → j ≡ k → ⊥
    untied j tied same =
        let e : ℕ = tied.0 in
        let n : ℕ = tied.1 in
        let m : ℕ = tied.2 in
        let none = alone e n m (λ is. tied.3 (is ∙ sym same)) (ap (λ i. is_of_connector (interactions_in system) i n) (sym same) ∙ tied.4) tied.5 in
        false≢true (sym (or_from (is_always_below (plant_of system) (interactions_in system) n m) (is_always_below (plant_of system) (interactions_in system) m n) none.0 none.1) ∙ tied.6)

    moved : (one other : ℕ → Bool) (j : ℕ) → (j ≡ k → ⊥) → ((m : ℕ) → is_of_connector (interactions_in system) k m ≡ false → other m ≡ one m) → HasRival (interactions_in system) one j → HasRival (interactions_in system) other j
    moved one other j apart same rival = (rival.0, rival.1, same rival.0 (of-no-other system rival.0 j k rival.1 apart) ∙ rival.2)

    -- none of its own is a head of another one
    head : (one other : ℕ → Bool) → ((m : ℕ) → is_of_connector (interactions_in system) k m ≡ false → other m ≡ one m) → (j n : ℕ) → is_of_connector (interactions_in system) j n ≡ true → HasHead system.ranks one j → HasHead system.ranks other j
    head one other same j n its found =
        let m : ℕ = found.0 in
        ⊎_elim
        (λ own. ⊎_elim
        (λ is. absurd (false≢true (sym (head-elsewhere system m j found.1) ∙ ap (λ i. is_of_connector (interactions_in system) i m) is ∙ own)))
        (λ apart. absurd (false≢true (sym (alone j m n apart own its).1 ∙ head-above system n m j found.1 its)))
        (cases_eq j k))
        (λ out. (m, found.1, same m out ∙ found.2))
        (cases_Bool (is_of_connector (interactions_in system) k m))
