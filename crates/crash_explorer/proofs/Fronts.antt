-- Firings of a run, one by one and cut into fronts, and lists that are the same entry by entry.
use Rattle.std.proofs.Common.{◌≡◌, ℕ, ◌+◌, ◌<◌, ◌≤◌, List, [], ◌∷◌, ◌++◌, length, map, take, drop, get_or, Some, slice_get, sym, ◌∙◌, ap, subst, arith}
use Rattle.std.proofs.lemmas.List.{at_drop_more, drop-map, get_or-map, length-map, take_all, take-map, take_more, take-append-drop, take-take, drop-take}
use Rattle.std.proofs.lemmas.Option.{get_or_from_slice_get}
use Rattle.disk_model.specs.MemDisk.{AsksNoChange}
use Rattle.disk_model.specs.declared.memory.MemDisk.{MemDisk}
use Rattle.petri_atom.specs.Local.{Local}
use Rattle.plant_model.specs.Firing.{CanFire, FiringDefinition}
use Rattle.plant_model.specs.Plant.{PlantDefinition}
use Rattle.plant_model.specs.Runs.{IsRun, fold}
use Rattle.plant_model.specs.Step.{initial_states, next}
use Rattle.plant_model.proofs.OnRuns.{runs-cut}
use Rattle.plant_core.proofs.EventRuns.{fold-append}
use Rattle.crash_explorer.specs.Judging.{IsRunOf, state_after}

-- what is left of a list from a place on begins with the entry there
pub left-at : {X Y : Type 0} (f : X → Y) (xs : List X) (i : ℕ) (x : X) → i < length xs → x ≡ get_or xs i x → drop i (map f xs) ≡ f x ∷ drop (i + 1) (map f xs)
left-at {X} {Y} f xs i x inside is =
    let within : i < length (map f xs) = omega (arith, length-map xs f) in
    at_drop_more (λ (l : List Y). l) (map f xs) i (f x) within ∙ ap (λ (y : Y). y ∷ drop (i + 1) (map f xs)) (get_or-map f xs i x (f x) inside ∙ ap f (sym is))

-- the parts of a list that is cut in two, and what a function gives of them
pub cut-front : {X Y : Type 0} (f : X → Y) (n : ℕ) (xs : List X) → map f (take n xs) ≡ take n (map f xs)
cut-front f n xs = sym (take-map f n xs)

pub cut-rest : {X Y : Type 0} (f : X → Y) (n : ℕ) (xs : List X) → map f (drop n xs) ≡ drop n (map f xs)
cut-rest f n xs = sym (drop-map f n xs)

pub cut-whole : {X Y : Type 0} (f : X → Y) (n : ℕ) (xs : List X) → map f (take n xs) ++ map f (drop n xs) ≡ map f xs
cut-whole f n xs =
    ap (λ l. l ++ map f (drop n xs)) (cut-front f n xs) ∙ ap (λ l. take n (map f xs) ++ l) (cut-rest f n xs) ∙ take-append-drop n (map f xs)

-- one more entry is the same
pub one_more_same : {X : Type 0} (xs ys : List X) (i : ℕ) (x y : X) → i < length xs → i < length ys → slice_get xs i ≡ Some x → slice_get ys i ≡ Some y → x ≡ y → take i xs ≡ take i ys → take (i + 1) xs ≡ take (i + 1) ys
one_more_same xs ys i x y inside within here there same so_far =
    take_more xs i x inside
    ∙ ap (λ zs. zs ++ get_or xs i x ∷ []) so_far
    ∙ ap (λ z. take i ys ++ z ∷ []) (get_or_from_slice_get xs i x x here ∙ same ∙ sym (get_or_from_slice_get ys i y y there))
    ∙ sym (take_more ys i y within)

-- lists are the same where so many of their entries are
pub all_same : {X : Type 0} (xs ys : List X) (i : ℕ) → length xs ≤ i → length ys ≤ i → take i xs ≡ take i ys → xs ≡ ys
all_same xs ys i few fewer same = sym (take_all i xs few) ∙ same ∙ take_all i ys fewer

-- a front and a front of what is after it
pub front-of : {X : Type 0} (xs : List X) (a k : ℕ) → take a xs ++ take k (drop a xs) ≡ take (a + k) xs
front-of {X} xs a k =
    let within : a ≤ a + k = omega arith in
    ap (λ (l : List X). l ++ take k (drop a xs)) (sym (take-take a (a + k) xs within))
    ∙ ap (λ (l : List X). take a (take (a + k) xs) ++ l) (sym (drop-take a k xs))
    ∙ take-append-drop a (take (a + k) xs)

-- calls that asked for no change, one after another
pub asks-none : (old mid new : MemDisk) → AsksNoChange old mid → AsksNoChange mid new → AsksNoChange old new
asks-none old mid new first second = record {
  room = second.room ∙ first.room;
  cell = second.cell ∙ first.cell;
  changes = second.changes ∙ first.changes;
  synced = second.synced ∙ first.synced;
}

module _ (plant : PlantDefinition) where
  -- a run after its front
  pub run-at : (cs rest : List FiringDefinition) (f : FiringDefinition) (states end : List Local) → cs ≡ f ∷ rest → IsRun plant states cs end → CanFire plant states f × IsRun plant (next plant states f) rest end
  run-at cs rest f states end is run = subst (λ l. IsRun plant states l end) is run

  -- the acknowledged firings of a run are a run, and so is a front of the others after them
  pub acked-run : (acked tail : List FiringDefinition) → IsRunOf plant (acked ++ tail) → IsRun plant (initial_states plant) acked (state_after plant acked)
  acked-run acked tail run = (runs-cut plant acked tail (initial_states plant) (state_after plant (acked ++ tail)) run).0

  pub front-run : (acked tail : List FiringDefinition) (k : ℕ) → IsRunOf plant (acked ++ tail) → IsRun plant (state_after plant acked) (take k tail) (fold plant (state_after plant acked) (take k tail))
  front-run acked tail k run =
      let whole : IsRun plant (state_after plant acked) tail (state_after plant (acked ++ tail)) = (runs-cut plant acked tail (initial_states plant) (state_after plant (acked ++ tail)) run).1 in
      let parts : IsRun plant (state_after plant acked) (take k tail ++ drop k tail) (state_after plant (acked ++ tail)) =
      subst (λ (l : List FiringDefinition). IsRun plant (state_after plant acked) l (state_after plant (acked ++ tail))) (sym (take-append-drop k tail)) whole in
      (runs-cut plant (take k tail) (drop k tail) (state_after plant acked) (state_after plant (acked ++ tail)) parts).0

  -- where they lead
  pub front-leads : (acked tail : List FiringDefinition) (k : ℕ) → fold plant (state_after plant acked) (take k tail) ≡ state_after plant (acked ++ take k tail)
  front-leads acked tail k = sym (fold-append plant acked (take k tail) (initial_states plant))
