-- How many interactions are kept of a connector that is judged by itself.
use Rattle.std.proofs.Common.{◌≡◌, ℕ, ◌/◌, ◌%◌, ◌&&◌, not, sym, ◌∙◌, ap, subst, List, Option, IfSome, Bool, true, false, refl, ⊎_elim}
use Rattle.std.specs.FinSet.{FinSet, contains}
use Rattle.std.specs.Ordering.{nat_cmp}
use Rattle.std.proofs.lemmas.Bool.{and_parts, and_right, cases_Bool}
use Rattle.petri_atom.specs.Local.{Local}
use Rattle.priority_filter.specs.Members.{has_bit}
use Rattle.plant_model.specs.Choice.{Interaction, is_possible_at}
use Rattle.plant_model.specs.ConnectorRows.{is_of_connector}
use Rattle.plant_model.specs.Plant.{PlantDefinition}
use Rattle.step_core.specs.ChoicesIn.{AreAllPossible}
use Rattle.step_core.specs.KeptAlone.{IsKeptAlone}
use Rattle.step_core.specs.Standing.{is_always_overruled, is_kept_always}
use Rattle.step_core.specs.Weights.{is_kept_of}

pub and-true : (b : Bool) → (b && true) ≡ b
and-true true = refl
and-true false = refl

-- a count is another number that it equals
pub count-is : (o : Option ℕ) (count weight : ℕ) → IfSome o (λ n. n ≡ count) → count ≡ weight → IfSome o (λ n. n ≡ weight)
count-is o count weight some e = subst (λ m. IfSome o (λ n. n ≡ m)) e some

-- what is kept of it is possible
pub alone-possible : (plant : PlantDefinition) (all : List Interaction) (states : List Local) (k : ℕ) (was_possible possible was_kept kept : FinSet nat_cmp) → IsKeptAlone plant all states k was_possible possible was_kept kept
    → AreAllPossible plant.atoms plant.wires states all (is_kept_of all (contains kept) k)
alone-possible plant all states k was_possible possible was_kept kept its n both =
    let parts = and_parts (contains kept n) (is_of_connector all k n) both in
    sym (its.judged n parts.1) ∙ (and_parts (contains possible n) (not (is_always_overruled plant all (contains possible) n)) (sym (its.keeps n parts.1) ∙ parts.0)).0

-- and so is what is kept of what is possible
pub top-possible : (plant : PlantDefinition) (all : List Interaction) (states : List Local) (k : ℕ) (possible : ℕ → Bool) → ((n : ℕ) → is_of_connector all k n ≡ true → possible n ≡ is_possible_at plant.atoms plant.wires states all n)
    → AreAllPossible plant.atoms plant.wires states all (is_kept_of all (is_kept_always plant all possible) k)
top-possible plant all states k possible judged n both =
    let parts = and_parts (is_kept_always plant all possible n) (is_of_connector all k n) both in
    sym (judged n parts.1) ∙ (and_parts (possible n) (not (is_always_overruled plant all possible n)) parts.0).0

-- the bits of a word with no others than its own are those of the kept ones, where its own are kept by them
pub put-bits : (all : List Interaction) (k place own bits : ℕ) (kept : ℕ → Bool) → ((n : ℕ) → n / 64 ≡ place → has_bit own (n % 64) ≡ is_of_connector all k n)
    → ((j : ℕ) → has_bit own j ≡ false → has_bit bits j ≡ false) → ((n : ℕ) → n / 64 ≡ place → is_of_connector all k n ≡ true → has_bit bits (n % 64) ≡ kept n)
    → (n : ℕ) → n / 64 ≡ place → has_bit bits (n % 64) ≡ is_kept_of all kept k n
put-bits all k place own bits kept own_bits inside put n here =
    ⊎_elim
    (λ its. put n here its ∙ sym (ap (λ b. kept n && b) its ∙ and-true (kept n)))
    (λ out. inside (n % 64) (own_bits n here ∙ out) ∙ sym (and_right (kept n) (is_of_connector all k n) out))
    (cases_Bool (is_of_connector all k n))
