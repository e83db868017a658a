-- The first states of the atoms fit them.
use Rattle.std.proofs.Common.{◌≡◌, ℕ, ◌+◌, ◌<◌, ◌≤◌, refl, sym, ◌∙◌, ap, subst, List, [], ◌∷◌, ◌++◌, length, map, get_or, arith, ⊎_elim}
use Rattle.std.specs.Prelude.{Some, slice_get}
use Rattle.std.proofs.lemmas.Bool.{cases_lt}
use Rattle.std.proofs.lemmas.Option.{same_Some}
use Rattle.petri_atom.specs.Atom.{definition_of}
use Rattle.petri_atom.specs.Local.{Local}
use Rattle.petri_atom.specs.Definition.{AtomDefinition, Fits}
use Rattle.petri_atom.specs.declared.atom.Atom.{Atom}
use Rattle.plant_model.proofs.Combinations.{slice_get-left, slice_get-right}
use Rattle.plant_model.proofs.Judging.{atom-there}

-- the states of the first i atoms fit them
abbrev pub FirstFit : List Atom → List Local → ℕ → Type 0
FirstFit atoms states i =
    (n : ℕ) (a : AtomDefinition) (s : Local) → n < i → slice_get (map definition_of atoms) n ≡ Some a → slice_get states n ≡ Some s → Fits a s

-- and so do those of one atom more
pub one-more-fits : (atoms : List Atom) (states : List Local) (i : ℕ) (atom : Atom) (x : Local) → length states ≡ i → i < length atoms → atom ≡ get_or atoms i atom → Fits (definition_of atom) x → FirstFit atoms states i → FirstFit atoms (states ++ x ∷ []) (i + 1)
one-more-fits atoms states i atom x long within here fits before n a s below known state =
    ⊎_elim earlier last (cases_lt n i)
  where
    earlier : n < i → Fits a s
    earlier h =
        before n a s h known (sym (slice_get-left states (x ∷ []) n (omega arith)) ∙ state)

    last : i ≤ n → Fits a s
    last h =
        let same : n ≡ i = omega arith in
        let behind : n ≡ length states + 0 = omega arith in
        let its_state : x ≡ s = same_Some x s (sym (slice_get-right states (x ∷ []) 0) ∙ ap (slice_get (states ++ x ∷ [])) (sym behind) ∙ state) in
        let its_atom : definition_of atom ≡ a = same_Some (definition_of atom) a (sym (atom-there atoms i atom within here) ∙ ap (slice_get (map definition_of atoms)) (sym same) ∙ known) in
        subst (λ b. Fits b s) its_atom (subst (Fits (definition_of atom)) its_state fits)

-- what is made of what is made of each element
pub map-map : {X Y Z : Type 0} (f : Y → Z) (g : X → Y) (xs : List X) → map (λ x. f (g x)) xs ≡ map f (map g xs)
map-map f g [] = refl
map-map f g (x ∷ xs) = ap (λ ys. f (g x) ∷ ys) (map-map f g xs)
