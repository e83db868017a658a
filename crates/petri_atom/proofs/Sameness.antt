use Rattle.std.proofs.Common.{◌≡◌, ℕ, Bool, true, false, eqb, refl, sym, ◌∙◌, ap, List, [], ◌∷◌, map, Some}
use Rattle.std.specs.Prelude.{slice_get, nat_eq}
use Rattle.std.specs.Bool.{Decides}
use Rattle.std.specs.Cmp.Lexicographic.{pointwise}
use Rattle.std.proofs.lemmas.Bool.{false≢true}
use Rattle.std.proofs.lemmas.Bool.Decides.{Decides-eqb, Decides-int_eq, Decides-and, Decides-like}
use Rattle.std.proofs.lemmas.Slice.Eq.{slice_eq-Decides}
use Rattle.petri_atom.specs.Expression.{Tree, number, variable, negation, operation, tree_of, operator_code, is_same_tree}
use Rattle.petri_atom.specs.Definition.{UpdateDefinition, TransitionDefinition}
use Rattle.petri_atom.specs.Update.{update_of}
use Rattle.petri_atom.specs.Transition.{transition_of}
use Rattle.petri_atom.specs.Parts.{port_of}
use Rattle.petri_atom.specs.Same.{is_same_truth, is_same_place, is_same_variable, is_same_port, is_same_update}
use Rattle.petri_atom.specs.SameTransition.{is_same_transition}
use Rattle.petri_atom.specs.declared.expression.Operator.{Operator}
use Rattle.petri_atom.specs.declared.expression.Operator.TheVariants.{Add, Subtract, Multiply, Min, Max, Less, LessOrEqual, Equal, NotEqual, And, Or}
use Rattle.petri_atom.specs.declared.parts.Place.{Place}
use Rattle.petri_atom.specs.declared.parts.Variable.{Variable}
use Rattle.petri_atom.specs.declared.parts.Port.{Port}
use Rattle.petri_atom.specs.declared.transition.Update.{Update}
use Rattle.petri_atom.specs.declared.transition.Transition.{Transition}

-- the operators in the order of their codes
operators : List Operator
operators =
    Add ∷ Subtract ∷ Multiply ∷ Min ∷ Max ∷ Less ∷ LessOrEqual ∷ Equal ∷ NotEqual ∷ And ∷ Or ∷ []

operator_at : (o : Operator) → slice_get operators (operator_code o) ≡ Some o
unfolding operators
operator_at Add = refl
operator_at Subtract = refl
operator_at Multiply = refl
operator_at Min = refl
operator_at Max = refl
operator_at Less = refl
operator_at LessOrEqual = refl
operator_at Equal = refl
operator_at NotEqual = refl
operator_at And = refl
operator_at Or = refl

some_same : {X : Type 0} (x y : X) → Some x ≡ Some y → x ≡ y
some_same x y e = cc

same_operator : (o p : Operator) → Decides (eqb (operator_code o) (operator_code p)) (o ≡ p)
same_operator o p =
    Decides-like _ (λ e. some_same o p (sym (operator_at o) ∙ ap (slice_get operators) e ∙ operator_at p)) (ap operator_code) (Decides-eqb (operator_code o) (operator_code p))

-- the test of two trees tells whether they are the same
pub same_tree : (e f : Tree ℕ) → Decides (is_same_tree e f) (e ≡ f)
same_tree (number m) (number n) = Decides-like _ (ap number) (λ p. cc) (Decides-int_eq m n)
same_tree (variable v) (variable w) = Decides-like _ (ap variable) (λ p. cc) (Decides-eqb v w)
same_tree (negation e) (negation f) = Decides-like _ (ap negation) (λ p. cc) (same_tree e f)
same_tree (operation o a b) (operation p c d) =
    Decides-like _
    (λ same. ap (λ x. operation x a b) same.0.0 ∙ ap (λ x. operation p x b) same.0.1 ∙ ap (operation p c) same.1)
    (λ same. (((cc), (cc)), (cc)))
    (Decides-and _ _ (Decides-and _ _ (same_operator o p) (same_tree a c)) (same_tree b d))
same_tree e f = (λ t. absurd (false≢true t), λ p. cc)

-- the test of two texts or lists of numbers tells whether they are the same
same_numbers : (xs ys : List ℕ) → Decides (pointwise nat_eq xs ys) (xs ≡ ys)
same_numbers xs ys = slice_eq-Decides Decides-eqb xs ys _ refl

same_truth : (a b : Bool) → Decides (is_same_truth a b) (a ≡ b)
same_truth true b = (λ e. sym e, λ e. sym e)
same_truth false true = (λ e. absurd (false≢true e), λ e. absurd (false≢true e))
same_truth false false = (λ e. refl, λ e. refl)

same_place : (a b : Place) → Decides (is_same_place a b) (a ≡ b)
same_place a b =
    Decides-like _ (λ same. ap (λ x. record { name = x; marked = a.marked }) same.0 ∙ ap (λ x. record { name = b.name; marked = x }) same.1)
    (λ e. (ap (λ x. x.name) e, ap (λ x. x.marked) e))
    (Decides-and _ _ (same_numbers a.name b.name) (same_truth a.marked b.marked))

same_variable : (a b : Variable) → Decides (is_same_variable a b) (a ≡ b)
same_variable a b =
    Decides-like _ (λ same. ap (λ x. record { name = x; first = a.first }) same.0 ∙ ap (λ x. record { name = b.name; first = x }) same.1)
    (λ e. (ap (λ x. x.name) e, ap (λ x. x.first) e))
    (Decides-and _ _ (same_numbers a.name b.name) (Decides-int_eq a.first b.first))

same_port : (a b : Port) → Decides (is_same_port a b) (port_of a ≡ port_of b)
same_port a b =
    Decides-like _ (λ same. ap (λ x. record { name = x; exports = a.exports.items }) same.0 ∙ ap (λ x. record { name = b.name; exports = x }) same.1)
    (λ e. (ap (λ x. x.name) e, ap (λ x. x.exports) e))
    (Decides-and _ _ (same_numbers a.name b.name) (same_numbers a.exports.items b.exports.items))

same_update : (a b : Update) → Decides (is_same_update a b) (update_of a ≡ update_of b)
same_update a b =
    Decides-like _ (λ same. ap (λ x. record { variable = x; value = tree_of a.value }) same.0 ∙ ap (λ x. record { variable = b.variable; value = x }) same.1)
    (λ e. (ap (λ x. x.variable) e, ap (λ x. x.value) e))
    (Decides-and _ _ (Decides-eqb a.variable b.variable) (same_tree (tree_of a.value) (tree_of b.value)))

-- what is made of five parts is the same where each part is
pub same_of_five : {A B C D E X : Type 0} (make : A → B → C → D → E → X) {a a' : A} {b b' : B} {c c' : C} {d d' : D} {e e' : E} → a ≡ a' → b ≡ b' → c ≡ c' → d ≡ d' → e ≡ e' → make a b c d e ≡ make a' b' c' d' e'
same_of_five make {a' = a'} {b = b} {b' = b'} {c = c} {c' = c'} {d = d} {d' = d'} {e = e} pa pb pc pd pe =
    ap (λ x. make x b c d e) pa ∙ ap (λ x. make a' x c d e) pb ∙ ap (λ x. make a' b' x d e) pc ∙ ap (λ x. make a' b' c' x e) pd ∙ ap (make a' b' c' d') pe

-- the test of two lists, item by item, tells whether what a function makes of them is the same
pub same_list : {X D : Type 0} (E : X → X → Bool) (f : X → D) → ((x y : X) → Decides (E x y) (f x ≡ f y)) → (xs ys : List X) → Decides (pointwise E xs ys) (map f xs ≡ map f ys)
same_list E f each [] [] = (λ e. refl, λ e. refl)
same_list E f each [] (y ∷ ys) = (λ e. absurd (false≢true e), λ p. cc)
same_list E f each (x ∷ xs) [] = (λ e. absurd (false≢true e), λ p. cc)
same_list E f each (x ∷ xs) (y ∷ ys) =
    Decides-like _ (λ same. ap (λ a. a ∷ map f xs) same.0 ∙ ap (λ rest. f y ∷ rest) same.1)
    (λ e. (head_same _ _ _ _ e, tail_same _ _ _ _ e))
    (Decides-and _ _ (each x y) (same_list E f each xs ys))
  where
    head_same : {D : Type 0} (a b : D) (xs ys : List D) → a ∷ xs ≡ b ∷ ys → a ≡ b
    head_same a b xs ys e = cc

    tail_same : {D : Type 0} (a b : D) (xs ys : List D) → a ∷ xs ≡ b ∷ ys → xs ≡ ys
    tail_same a b xs ys e = cc

abbrev make : ℕ → List ℕ → List ℕ → Tree ℕ → List UpdateDefinition → TransitionDefinition
make port sources targets guard updates = record { port = port; sources = sources; targets = targets; guard = guard; updates = updates }

same_transition : (a b : Transition) → Decides (is_same_transition a b) (transition_of a ≡ transition_of b)
same_transition a b =
    Decides-like _ (λ same. same_of_five make same.0.0.0.0 same.0.0.0.1 same.0.0.1 same.0.1 same.1)
    (λ e. ((((ap (λ x. x.port) e, ap (λ x. x.sources) e), ap (λ x. x.targets) e), ap (λ x. x.guard) e), ap (λ x. x.updates) e))
    (Decides-and _ _
    (Decides-and _ _
    (Decides-and _ _ (Decides-and _ _ (Decides-eqb a.port b.port) (same_numbers a.sources.items b.sources.items))
    (same_numbers a.targets.items b.targets.items))
    (same_tree (tree_of a.guard) (tree_of b.guard)))
    (same_list is_same_update update_of same_update a.updates.items b.updates.items))

-- lists of places, variables, ports and transitions
pub same_places : (xs ys : List Place) → Decides (pointwise is_same_place xs ys) (xs ≡ ys)
same_places xs ys = slice_eq-Decides same_place xs ys _ refl

pub same_variables : (xs ys : List Variable) → Decides (pointwise is_same_variable xs ys) (xs ≡ ys)
same_variables xs ys = slice_eq-Decides same_variable xs ys _ refl

pub same_ports : (xs ys : List Port) → Decides (pointwise is_same_port xs ys) (map port_of xs ≡ map port_of ys)
same_ports xs ys = same_list is_same_port port_of same_port xs ys

pub same_transitions : (xs ys : List Transition) → Decides (pointwise is_same_transition xs ys) (map transition_of xs ≡ map transition_of ys)
same_transitions xs ys = same_list is_same_transition transition_of same_transition xs ys

-- a test of two lists that are equal to two others
pub at_lists : {X : Type 0} (E : X → X → Bool) (r : Bool) (xs ys us vs : List X) → r ≡ pointwise E xs ys → xs ≡ us → ys ≡ vs → r ≡ pointwise E us vs
at_lists E r xs ys us vs answer p q = answer ∙ ap (λ x. pointwise E x ys) p ∙ ap (pointwise E us) q
