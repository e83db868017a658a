-- The parts that are left while the participants of a choice leave one after another, and their jobs.
use Rattle.std.proofs.Common.{◌≡◌, ◌≢◌, ℕ, zero, suc, ◌+◌, ◌==◌, ◌<◌, refl, sym, ◌∙◌, ap, subst, List, [], ◌∷◌, ◌++◌, length, take, get_or, set, arith, Bool, true, false, cond, not, ◌||◌}
use Rattle.std.specs.Prelude.{Option, Some, None, find, is_none, option_map, slice_get}
use Rattle.std.specs.Option.{option_map_or}
use Rattle.std.proofs.lemmas.Bool.{eq-eqb, ne_eqb}
use Rattle.std.proofs.Math.Bool.{or-false, or-true}
use Rattle.std.proofs.lemmas.List.{length-append, take_more}
use Rattle.std.proofs.lemmas.List.Folds.{list_any-append}
use Rattle.std.proofs.lemmas.Option.{none-some, same_Some, slice_get-get_or, slice_get_within}
use Rattle.petri_atom.specs.Local.{Local}
use Rattle.petri_atom.specs.Definition.{AtomDefinition, Fits, offers_number}
use Rattle.plant_model.specs.Firing.{FiringDefinition}
use Rattle.plant_model.specs.Choice.{ChoiceDefinition}
use Rattle.plant_model.specs.Plant.{PlantDefinition}
use Rattle.plant_model.specs.Rules.{fault_of}
use Rattle.plant_model.specs.declared.choice.Move.{Move}
use Rattle.plant_model.proofs.Membership.{entry-in}
use Rattle.plant_model.proofs.OwnAtoms.{no-earlier}
use Rattle.plant_model.proofs.Stepping.{no_move}
use Rattle.step_core.specs.Dispatching.{AllPresentFit}
use Rattle.step_core.specs.Job.{JobDefinition}
use Rattle.step_core.specs.Jobs.{AreJobsOf, IsJobOf}
use Rattle.step_core.specs.Parts.{is_present, shown_in}
use Rattle.step_core.specs.Sure.{IsSure, has_move, left_by, left_from}
use Rattle.step_core.proofs.Present.{participant, sure-shown}

-- ---- what is left, by number

pub length-left : (moves : List Move) (k : ℕ) (parts : List (Option Local)) → length (left_from moves k parts) ≡ length parts
length-left moves k [] = refl
length-left moves k (p ∷ ps) = ap suc (length-left moves (suc k) ps)

left-from-at : (moves : List Move) (k : ℕ) (parts : List (Option Local)) (n : ℕ) → slice_get (left_from moves k parts) n ≡ option_map (λ p. cond (has_move moves (k + n)) None p) (slice_get parts n)
left-from-at moves k [] n = refl
left-from-at moves k (p ∷ ps) zero =
    let e : k ≡ k + 0 = omega arith in
    ap (λ j. Some (cond (has_move moves j) None p)) e
left-from-at moves k (p ∷ ps) (suc n) =
    let e : suc k + n ≡ k + suc n = omega arith in
    left-from-at moves (suc k) ps n ∙ ap (λ j. option_map (λ q. cond (has_move moves j) None q) (slice_get ps n)) e

pub left-at : (moves : List Move) (parts : List (Option Local)) (n : ℕ) → slice_get (left_by parts moves) n ≡ option_map (λ p. cond (has_move moves n) None p) (slice_get parts n)
left-at moves parts n =
    let e : 0 + n ≡ n = omega arith in
    left-from-at moves 0 parts n ∙ ap (λ j. option_map (λ p. cond (has_move moves j) None p) (slice_get parts n)) e

-- an atom without a move keeps its part
pub left-stays : (moves : List Move) (parts : List (Option Local)) (n : ℕ) → has_move moves n ≡ false → slice_get (left_by parts moves) n ≡ slice_get parts n
left-stays moves parts n none = left-at moves parts n ∙ ap (λ b. option_map (λ p. cond b None p) (slice_get parts n)) none ∙ each (slice_get parts n)
  where
    each : (o : Option (Option Local)) → option_map (λ p. p) o ≡ o
    each None = refl
    each (Some p) = refl

-- no part is left where none was
pub left-fits : (plant : PlantDefinition) (moves : List Move) (parts : List (Option Local)) → AllPresentFit plant parts → AllPresentFit plant (left_by parts moves)
left-fits plant moves parts fit n a s its_atom its_part = each (has_move moves n) (slice_get parts n) refl (sym (left-at moves parts n) ∙ its_part)
  where
    each : (b : Bool) (o : Option (Option Local)) → slice_get parts n ≡ o → option_map (λ p. cond b None p) o ≡ Some (Some s) → Fits a s
    each b None there made = absurd (none-some (Some s) made)
    each true (Some p) there made = absurd (none-some s (same_Some None (Some s) made))
    each false (Some p) there made = fit n a s its_atom (there ∙ made)

-- ---- one more leaves

-- a move of an atom below changes nothing
not-below : (moves : List Move) (m : Move) (k : ℕ) (parts : List (Option Local)) → m.atom < k → left_from (moves ++ m ∷ []) k parts ≡ left_from moves k parts
not-below moves m k [] low = refl
not-below moves m k (p ∷ ps) low =
    let other : m.atom ≢ k = λ same. absurd (omega (arith, low, same)) in
    ap (λ b. cond b None p ∷ left_from (moves ++ m ∷ []) (suc k) ps) (list_any-append (λ j. j.atom == k) moves (m ∷ []) ∙ ap (λ b. has_move moves k || (b || false)) (ne_eqb m.atom k other) ∙ or-false (has_move moves k)) ∙
    ap (λ qs. cond (has_move moves k) None p ∷ qs) (not-below moves m (suc k) ps (omega (arith, low)))

one-more-from : (moves : List Move) (m : Move) (k : ℕ) (parts : List (Option Local)) (n : ℕ) → m.atom ≡ k + n → left_from (moves ++ m ∷ []) k parts ≡ set (left_from moves k parts) n None
one-more-from moves m k [] n same = refl
one-more-from moves m k (p ∷ ps) zero same =
    let here : m.atom ≡ k = omega (arith, same) in
    ap (λ b. cond b None p ∷ left_from (moves ++ m ∷ []) (suc k) ps) (list_any-append (λ j. j.atom == k) moves (m ∷ []) ∙ ap (λ b. has_move moves k || (b || false)) (eq-eqb m.atom k here) ∙ or-true (has_move moves k)) ∙
    ap (λ qs. None ∷ qs) (not-below moves m (suc k) ps (omega (arith, here)))
one-more-from moves m k (p ∷ ps) (suc n) same =
    let other : m.atom ≢ k = λ here. absurd (omega (arith, same, here)) in
    ap (λ b. cond b None p ∷ left_from (moves ++ m ∷ []) (suc k) ps) (list_any-append (λ j. j.atom == k) moves (m ∷ []) ∙ ap (λ b. has_move moves k || (b || false)) (ne_eqb m.atom k other) ∙ or-false (has_move moves k)) ∙
    ap (λ qs. cond (has_move moves k) None p ∷ qs) (one-more-from moves m (suc k) ps n (omega (arith, same)))

pub one-more : (moves : List Move) (m : Move) (parts : List (Option Local)) → left_by parts (moves ++ m ∷ []) ≡ set (left_by parts moves) m.atom None
one-more moves m parts = one-more-from moves m 0 parts m.atom (omega arith)

-- none has left before the first
pub none-left : (k : ℕ) (parts : List (Option Local)) → left_from [] k parts ≡ parts
none-left k [] = refl
none-left k (p ∷ ps) = ap (λ qs. p ∷ qs) (none-left (suc k) ps)

-- an atom of which no move is found has none
pub not-found : (moves : List Move) (n : ℕ) → find (λ m. m.atom == n) moves ≡ None → has_move moves n ≡ false
not-found [] n none = refl
not-found (m ∷ ms) n none = each (m.atom == n) none (λ later. not-found ms n later)
  where
    each : (b : Bool) → cond b (Some m) (find (λ k. k.atom == n) ms) ≡ None → (find (λ k. k.atom == n) ms ≡ None → has_move ms n ≡ false) → (b || has_move ms n) ≡ false
    each true found rest = absurd (none-some m (sym found))
    each false found rest = rest found

-- ---- their jobs

each-more : {X Y : Type 0} (P : X → Y → Type 0) (xs : List X) (ys : List Y) (x : X) (y : Y) → length ys ≡ length xs →
    ((i : ℕ) (a : X) (b : Y) → slice_get xs i ≡ Some a → slice_get ys i ≡ Some b → P a b) → P x y →
    (i : ℕ) (a : X) (b : Y) → slice_get (xs ++ x ∷ []) i ≡ Some a → slice_get (ys ++ y ∷ []) i ≡ Some b → P a b
each-more P [] [] x y long each one zero a b ea eb = subst (λ z. P z b) (same_Some x a ea) (subst (P x) (same_Some y b eb) one)
each-more P [] [] x y long each one (suc i) a b ea eb = absurd (none-some a ea)
each-more P [] (z ∷ ys) x y long each one i a b ea eb = absurd (omega (arith, long))
each-more P (w ∷ xs) [] x y long each one i a b ea eb = absurd (omega (arith, long))
each-more P (w ∷ xs) (z ∷ ys) x y long each one zero a b ea eb = each 0 a b ea eb
each-more P (w ∷ xs) (z ∷ ys) x y long each one (suc i) a b ea eb =
    each-more P xs ys x y (omega (arith, long)) (λ j c d ec ed. each (suc j) c d ec ed) one i a b ea eb

pub jobs-more : (plant : PlantDefinition) (parts : List (Option Local)) (c : FiringDefinition) (counts : List ℕ) (moves : List Move) (jobs : List JobDefinition) (m : Move) (job : JobDefinition) →
    AreJobsOf plant parts c counts moves jobs → IsJobOf plant parts c counts m job → AreJobsOf plant parts c counts (moves ++ m ∷ []) (jobs ++ job ∷ [])
jobs-more plant parts c counts moves jobs m job so_far its = record {
  as_many = omega (arith, length-append moves (m ∷ []), length-append jobs (job ∷ []), so_far.as_many);
  each = each-more (IsJobOf plant parts c counts) moves jobs m job so_far.as_many so_far.each its;
}

-- ---- the next participant of a sure choice

-- what is left where the atoms of the first moves of a sure choice have left, and there is one move more
pub record IsLeaving (plant : PlantDefinition) (parts : List (Option Local)) (c : ChoiceDefinition) (moves : List Move) (k : ℕ) (left : List (Option Local)) : Type 0 where
  pub valid : fault_of plant ≡ None
  pub sure : IsSure plant parts c
  pub same : moves ≡ c.moves
  pub more : k < length moves
  pub is : left ≡ left_by parts (take k moves)

module _ {plant : PlantDefinition} {parts : List (Option Local)} {c : ChoiceDefinition} {moves : List Move} {k : ℕ} {left : List (Option Local)} (step : IsLeaving plant parts c moves k left) where
  abbrev m : Move
  m = get_or moves k no_move

  pub move-there : slice_get c.moves k ≡ Some m
  move-there = ap (λ ms. slice_get ms k) (sym step.same) ∙ slice_get-get_or moves k no_move step.more

  -- its atom is there, present, and offers its transition
  its : (a : AtomDefinition) × (s : Local) × (slice_get plant.atoms m.atom ≡ Some a) × (slice_get parts m.atom ≡ Some (Some s)) × (offers_number a s m.transition ≡ true)
  its = participant plant parts c step.sure m (entry-in c.moves k m move-there)

  -- no earlier move is of that atom
  pub first-of-atom : find (λ j. j.atom == m.atom) (take k c.moves) ≡ None
  first-of-atom =
      ap (λ ms. find (λ j. j.atom == m.atom) (take k ms)) (sym step.same) ∙
      no-earlier plant (shown_in parts) c step.valid (sure-shown plant parts c step.sure) moves step.same k no_move step.more m.atom refl

  -- so it has not left yet
  its-part : slice_get left m.atom ≡ Some (Some its.1)
  its-part =
      let before : find (λ j. j.atom == m.atom) (take k moves) ≡ None = ap (λ ms. find (λ j. j.atom == m.atom) (take k ms)) step.same ∙ first-of-atom in
      ap (λ ps. slice_get ps m.atom) step.is ∙ left-stays (take k moves) parts m.atom (not-found (take k moves) m.atom before) ∙ its.3

  pub in-plant : m.atom < length plant.atoms
  in-plant = slice_get_within plant.atoms m.atom its.0 its.2

  pub in-parts : m.atom < length parts
  in-parts = slice_get_within parts m.atom (Some its.1) its.3

  pub there : m.atom < length left
  there = slice_get_within left m.atom (Some its.1) its-part

  pub present : is_present left m.atom ≡ true
  present = ap (λ o. not (option_map_or is_none o false)) its-part

  pub one-left : set left m.atom None ≡ left_by parts (take (k + 1) moves)
  one-left =
      ap (λ ps. set ps m.atom None) step.is ∙
      sym (ap (left_by parts) (take_more moves k no_move step.more) ∙ one-more (take k moves) m parts)

  -- the state that is taken with it is the one that it had, offers the transition, and fits
  module _ (a : AtomDefinition) (s : Local) (known : slice_get plant.atoms m.atom ≡ Some a) (taken : slice_get left m.atom ≡ Some (Some s)) where
    same-atom : its.0 ≡ a
    same-atom = same_Some its.0 a (sym its.2 ∙ known)

    same-state : its.1 ≡ s
    same-state = same_Some its.1 s (same_Some (Some its.1) (Some s) (sym its-part ∙ taken))

    pub was : slice_get parts m.atom ≡ Some (Some s)
    was = its.3 ∙ ap (λ x. Some (Some x)) same-state

    pub offers : offers_number a s m.transition ≡ true
    offers = ap (λ b. offers_number b s m.transition) (sym same-atom) ∙ ap (λ x. offers_number its.0 x m.transition) (sym same-state) ∙ its.4

    pub fits-taken : AllPresentFit plant parts → Fits a s
    fits-taken fit = fit m.atom a s known was

  -- with its job there are as many as moves so far
  pub one-job : (f : FiringDefinition) (counts : List ℕ) (jobs : List JobDefinition) (job : JobDefinition) → AreJobsOf plant parts f counts (take k moves) jobs → IsJobOf plant parts f counts m job → AreJobsOf plant parts f counts (take (k + 1) moves) (jobs ++ job ∷ [])
  one-job f counts jobs job so_far own =
      subst (λ ms. AreJobsOf plant parts f counts ms (jobs ++ job ∷ [])) (sym (take_more moves k no_move step.more)) (jobs-more plant parts f counts (take k moves) jobs m job so_far own)
