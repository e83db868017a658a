-- Changed atoms that are judged again one after the other.
use Rattle.std.proofs.Common.{◌≡◌, ◌⊎◌, inl, inr, ℕ, zero, suc, ◌<◌, ◌==◌, refl, sym, ◌∙◌, ap, subst, List, [], ◌∷◌, length, take, arith, Bool, true, false, cond, ⊎_elim}
use Rattle.std.specs.Prelude.{Some, None, find, slice_get, slice_index_or}
use Rattle.std.specs.List.{list_any}
use Rattle.std.proofs.lemmas.Bool.{cases_eq, eq-eqb, false≢true, ne_eqb, or_cases, or_from, or_left, or_right}
use Rattle.std.proofs.lemmas.Option.{none-some, same_Some, slice_get-get_or, slice_get_within}
use Rattle.petri_atom.specs.Local.{Local, is_in}
use Rattle.petri_atom.specs.Definition.{AtomDefinition, offered_set}
use Rattle.plant_model.specs.declared.choice.Move.{Move}
use Rattle.plant_model.specs.Delivery.{AreApart}
use Rattle.plant_model.proofs.Judging.{some_state}
use Rattle.step_core.specs.EnabledTransitions.{AreOffered, IsFired}
use Rattle.step_core.specs.Told.{IsOfState}

-- ---- what is kept of the atoms that are not judged yet

-- once the first of the changed atoms is judged again, and what is kept of all others stays, that atom is done
pub one-judged : (f : AtomDefinition → Local → ℕ) (atoms : List AtomDefinition) (states : List Local) (k : ℕ) (rest : List ℕ) (old new : List ℕ)
    → ((a : AtomDefinition) (s : Local) → slice_get atoms k ≡ Some a → slice_get states k ≡ Some s → slice_index_or new k 0 ≡ f a s)
    → ((n : ℕ) → ¬ (n ≡ k) → slice_index_or new n 0 ≡ slice_index_or old n 0)
    → ((n : ℕ) (a : AtomDefinition) (s : Local) → is_in (k ∷ rest) n ≡ false → slice_get atoms n ≡ Some a → slice_get states n ≡ Some s → slice_index_or old n 0 ≡ f a s)
    → (n : ℕ) (a : AtomDefinition) (s : Local) → is_in rest n ≡ false → slice_get atoms n ≡ Some a → slice_get states n ≡ Some s → slice_index_or new n 0 ≡ f a s
one-judged f atoms states k rest old new again others exact n a s out known there = ⊎_elim one other (cases_eq n k)
  where
    one : n ≡ k → slice_index_or new n 0 ≡ f a s
    one same =
        ap (λ j. slice_index_or new j 0) same ∙
        again a s (ap (slice_get atoms) (sym same) ∙ known) (ap (slice_get states) (sym same) ∙ there)

    other : ¬ (n ≡ k) → slice_index_or new n 0 ≡ f a s
    other differs = others n differs ∙ exact n a s (or_from (k == n) (is_in rest n) (ne_eqb k n (λ same. differs (sym same))) out) known there

-- ---- the first ones of a list

module _ {X : Type 0} where
  -- what passes among the first ones and one more passes among the first ones, or is that one
  pub any-taken : (f : X → Bool) (xs : List X) (i : ℕ) (x : X) → slice_get xs i ≡ Some x → list_any f (take (suc i) xs) ≡ true → (list_any f (take i xs) ≡ true) ⊎ (f x ≡ true)
  any-taken f [] i x there some = absurd (none-some x there)
  any-taken f (y ∷ ys) zero x there some =
      ⊎_elim (λ is. inr (ap f (sym (same_Some y x there)) ∙ is)) (λ none. absurd (false≢true none)) (or_cases (f y) false some)
  any-taken f (y ∷ ys) (suc i) x there some =
      ⊎_elim
      (λ is. inl (or_left (f y) (list_any f (take i ys)) is))
      (λ more. ⊎_elim (λ before. inl (or_right (f y) (list_any f (take i ys)) before)) (λ its. inr its) (any-taken f ys i x there more))
      (or_cases (f y) (list_any f (take (suc i) ys)) some)

  -- where none is found among the first ones, none of them passes
  pub not-found : (f : X → Bool) (xs : List X) (j i : ℕ) (x : X) → i < j → slice_get xs i ≡ Some x → find f (take j xs) ≡ None → f x ≡ false
  not-found f [] j i x below there none = absurd (none-some x there)
  not-found f (y ∷ ys) zero i x below there none = absurd (omega (arith, below))
  not-found f (y ∷ ys) (suc j) i x below there none = each (λ k. not-found f ys j k x) (f y) refl i below there none
    where
      each : ((k : ℕ) → k < j → slice_get ys k ≡ Some x → find f (take j ys) ≡ None → f x ≡ false)
          → (b : Bool) → f y ≡ b → (k : ℕ) → k < suc j → slice_get (y ∷ ys) k ≡ Some x → cond (f y) (Some y) (find f (take j ys)) ≡ None → f x ≡ false
      each behind true passes k below there none = absurd (none-some y (sym (sym (ap (λ b. cond b (Some y) (find f (take j ys))) passes) ∙ none)))
      each behind false fails zero below there none = ap f (sym (same_Some y x there)) ∙ fails
      each behind false fails (suc k) below there none = behind k (omega (arith, below)) there (sym (ap (λ b. cond b (Some y) (find f (take j ys))) fails) ∙ none)

-- a later move is of another atom
pub later-apart : (moves : List Move) → AreApart moves → (i j : ℕ) (m n : Move) → i < j → slice_get moves i ≡ Some m → slice_get moves j ≡ Some n → ¬ (n.atom ≡ m.atom)
later-apart moves apart i j m n below here there same =
    false≢true (sym (not-found (λ k. k.atom == n.atom) moves j i m below here (apart j n there)) ∙ eq-eqb m.atom n.atom (sym same))

-- what is kept of an atom that fired is right where it stays
pub fired-still : (a : AtomDefinition) (transition : ℕ) (state : Local) (sets can later later_can : ℕ) → later ≡ sets → later_can ≡ can → IsFired a transition state sets can → IsFired a transition state later later_can
fired-still a transition state sets can later later_can same same_can fired =
    subst (λ x. IsFired a transition state x later_can) (sym same) (subst (IsFired a transition state sets) (sym same_can) fired)

-- a set that is that of some state is that of one where the atom is judged again, and where it stays
pub of-some-state : (atoms : List AtomDefinition) (states : List Local) (k : ℕ) (old new : List ℕ) → length states ≡ length atoms
    → ((a : AtomDefinition) (s : Local) → slice_get atoms k ≡ Some a → slice_get states k ≡ Some s → slice_index_or new k 0 ≡ offered_set a s)
    → ((n : ℕ) → ¬ (n ≡ k) → slice_index_or new n 0 ≡ slice_index_or old n 0)
    → ((n : ℕ) (a : AtomDefinition) → slice_get atoms n ≡ Some a → IsOfState a (slice_index_or old n 0))
    → (n : ℕ) (a : AtomDefinition) → slice_get atoms n ≡ Some a → IsOfState a (slice_index_or new n 0)
of-some-state atoms states k old new as_many again others before n a known =
    ⊎_elim
    (λ same.
    let s = slice_index_or states k some_state in
    let known_here = ap (slice_get atoms) (sym same) ∙ known in
    (s, ap (λ j. slice_index_or new j 0) same ∙ again a s known_here (slice_get-get_or states k some_state (omega (arith, as_many, slice_get_within atoms k a known_here)))))
    (λ differs. let was = before n a known in (was.0, others n differs ∙ was.1))
    (cases_eq n k)

-- sets that are those of a global state are each of some state
pub of-states : (atoms : List AtomDefinition) (states : List Local) (sets : List ℕ) → length states ≡ length atoms → AreOffered atoms states sets
    → (n : ℕ) (a : AtomDefinition) → slice_get atoms n ≡ Some a → IsOfState a (slice_index_or sets n 0)
of-states atoms states sets as_many exact n a known =
    (slice_index_or states n some_state, exact n a (slice_index_or states n some_state) known (slice_get-get_or states n some_state (omega (arith, as_many, slice_get_within atoms n a known))))
