-- Straight code: how many temporary cells it takes, what steps leave as it was, and what they make.
use Rattle.std.proofs.Common.{◌≡◌, ℕ, suc, ℤ, pos, ◌+◌, ◌-◌, replicate, get_or, ◌^◌, ◌<◌, ◌≤◌, max, Bool, true, false, cond, not, eqb, refl, sym, ap, ◌∙◌, subst, arith, List, [], ◌∷◌, ◌++◌, length, ⊎_elim}
use Rattle.std.specs.Prelude.{slice_set, if◌then◌else◌, IsTrue}
use Rattle.std.specs.Ordering.{int_eq}
use Rattle.std.proofs.Math.Bool.{not-not}
use Rattle.std.proofs.Math.Nat.{pow-succ'}
use Rattle.std.proofs.Math.Pow.{pow_mono}
use Rattle.std.proofs.lemmas.Bool.{eq-eqb, ne_eqb, cases_lt, and_parts, and_from, ltb-true, lt-ltb}
use Rattle.std.proofs.lemmas.Bool.Decides.{eqb_tells}
use Rattle.std.proofs.lemmas.List.{length-set, get_or-set_same, get_or-set_other, get_or-replicate, get_or_past, get_or-append_right, length-append}
use Rattle.std.proofs.Math.ListN.{get_or-append}
use Rattle.petri_atom.specs.Expression.{Tree, number, variable, negation, operation, operated, value_of, word_count, has_variables_below, truth, is_true}
use Rattle.petri_atom.specs.Local.{value_in}
use Rattle.petri_atom.specs.StraightCode.{temporaries, temporaries_of_two, is_small, first_temporary, row_length, IsCodeOf, IsMadeAfter, IsOperandAfter, AreOperandsAfter, IsBelow, are_within, is_within, made, operand_in, made_in, run_in}
use Rattle.petri_atom.specs.declared.code.Code.{Code}
use Rattle.petri_atom.specs.declared.code.Operand.{Operand}
use Rattle.petri_atom.specs.declared.code.Operand.TheVariants.{Cell, Number}
use Rattle.petri_atom.specs.declared.code.Step.{Step}
use Rattle.petri_atom.specs.declared.expression.Operator.{Operator}
use Rattle.petri_atom.specs.declared.expression.Operator.TheVariants.{Equal, Max}

-- ---- how many cells

-- the number of cells for two operands is at most the sum of two numbers that are at least 1, if it is at most each of theirs
joined : (a b m n : ℕ) → a ≤ m → b ≤ n → 1 ≤ m → 1 ≤ n → (if eqb a b then suc a else max a b) ≤ 1 + m + n
joined a b m n p q one other =
    ⊎_elim
    (λ same. rw same.0 (omega (arith, p, q)))
    (λ unlike. rw unlike.0 (omega (arith, p, q)))
    (eqb_tells a b)

words-some : {V : Type 0} (e : Tree V) → 1 ≤ word_count e
words-some (number n) = omega arith
words-some (variable v) = omega arith
words-some (negation e) = omega arith
words-some (operation op e f) = omega arith

-- an expression takes at most as many temporary cells as it has words
pub temporaries-few : {V : Type 0} (e : Tree V) → temporaries e ≤ word_count e
temporaries-few (number n) = omega arith
temporaries-few (variable v) = omega arith
temporaries-few (negation e) = omega (arith, temporaries-few e, words-some e)
temporaries-few (operation op e f) =
    joined (temporaries e) (temporaries f) (word_count e) (word_count f) (temporaries-few e) (temporaries-few f) (words-some e) (words-some f)

-- so many cells as two operands take are paid by their words
paid : (a b m n : ℕ) → 2 ^ a ≤ m + 1 → 2 ^ b ≤ n + 1 → 2 ^ (if eqb a b then suc a else max a b) ≤ 1 + m + n + 1
paid a b m n p q =
    ⊎_elim
    (λ same. rw same.0 (omega (arith, pow-succ' 2 a, p, subst (λ k. 2 ^ k ≤ n + 1) (sym same.1) q)))
    (λ unlike. rw unlike.0 (⊎_elim
    (λ less. let is : b ≡ max a b = omega (arith, less) in subst (λ k. 2 ^ k ≤ 1 + m + n + 1) is (omega (arith, q)))
    (λ more. let is : a ≡ max a b = omega (arith, more) in subst (λ k. 2 ^ k ≤ 1 + m + n + 1) is (omega (arith, p)))
    (cases_lt a b)))
    (eqb_tells a b)

power-few : {V : Type 0} (e : Tree V) → 2 ^ temporaries e ≤ word_count e + 1
power-few (number n) = omega arith
power-few (variable v) = omega arith
power-few (negation e) = ⊎_elim
    (λ none. let is : 1 ≡ max (temporaries e) 1 = omega (arith, none) in subst (λ k. 2 ^ k ≤ 1 + word_count e + 1) is (omega (arith, words-some e)))
    (λ some. let is : temporaries e ≡ max (temporaries e) 1 = omega (arith, some) in subst (λ k. 2 ^ k ≤ 1 + word_count e + 1) is (omega (arith, power-few e)))
    (cases_lt (temporaries e) 1)
power-few (operation op e f) =
    paid (temporaries e) (temporaries f) (word_count e) (word_count f) (power-few e) (power-few f)

-- one of at most 64 words takes at most six
pub temporaries-six : {V : Type 0} (e : Tree V) → word_count e ≤ 64 → temporaries e ≤ 6
temporaries-six e small = ⊎_elim
    (λ low. omega (arith, low))
    (λ high. absurd (omega (arith, small, power-few e, pow_mono {i = 7} {j = temporaries e} high)))
    (cases_lt (temporaries e) 7)

-- ---- values

-- an expression has the same value where all variables below a bound have, if it has no others
pub value-below : (bound : ℕ) (f g : ℕ → ℤ) → ((k : ℕ) → k < bound → f k ≡ g k) → (e : Tree ℕ) → IsTrue (has_variables_below bound e) → value_of f e ≡ value_of g e
value-below bound f g same (number n) known = refl
value-below bound f g same (variable v) known = same v (ltb-true v bound known)
value-below bound f g same (negation e) known = ap (λ z. truth (not (is_true z))) (value-below bound f g same e known)
value-below bound f g same (operation op a b) known =
    let parts = and_parts (has_variables_below bound a) (has_variables_below bound b) known in
    ap (λ x. operated op x (value_of f b)) (value-below bound f g same a parts.0) ∙
    ap (operated op (value_of g a)) (value-below bound f g same b parts.1)

-- variables below a bound are below a greater one
pub below-more : (m n : ℕ) → m ≤ n → (e : Tree ℕ) → IsTrue (has_variables_below m e) → IsTrue (has_variables_below n e)
below-more m n more (number k) known = refl
below-more m n more (variable v) known = lt-ltb v n (omega (arith, ltb-true v m known, more))
below-more m n more (negation e) known = below-more m n more e known
below-more m n more (operation op a b) known =
    let parts = and_parts (has_variables_below m a) (has_variables_below m b) known in
    and_from (has_variables_below n a) (has_variables_below n b) (below-more m n more a parts.0) (below-more m n more b parts.1)

-- and where all variables have
pub value-same : (f g : ℕ → ℤ) → ((k : ℕ) → f k ≡ g k) → (e : Tree ℕ) → value_of f e ≡ value_of g e
value-same f g same (number n) = refl
value-same f g same (variable v) = same v
value-same f g same (negation e) = ap (λ z. truth (not (is_true z))) (value-same f g same e)
value-same f g same (operation op a b) =
    ap (λ x. operated op x (value_of f b)) (value-same f g same a) ∙ ap (operated op (value_of g a)) (value-same f g same b)

-- ---- steps

length-run_in : (steps : List Step) (row : List ℤ) → length (run_in steps row) ≡ length row
length-run_in [] row = refl
length-run_in (s ∷ ss) row = length-run_in ss (slice_set row s.to (made_in row s)) ∙ length-set row s.to (made_in row s)

-- one step more changes the row that the others leave
pub run_in-snoc : (steps : List Step) (s : Step) (row : List ℤ) → run_in (steps ++ s ∷ []) row ≡ slice_set (run_in steps row) s.to (made_in (run_in steps row) s)
run_in-snoc [] s row = refl
run_in-snoc (t ∷ ts) s row = run_in-snoc ts s (slice_set row t.to (made_in row t))

-- an operand whose cell, if it is one, stands before a number is the same in rows that have the same before it
operand-same : (bound : ℕ) (a b : List ℤ) (o : Operand) → IsBelow bound o → ((k : ℕ) → k < bound → value_in a k ≡ value_in b k) → operand_in a o ≡ operand_in b o
operand-same bound a b (Cell cell) below same = same cell below
operand-same bound a b (Number n) below same = refl

either_same : {X : Type 0} (b : Bool) (x : X) → cond b x x ≡ x
either_same true x = refl
either_same false x = refl

-- the greater of a value and itself is that value
pub max-same : (z : ℤ) → operated Max z z ≡ z
max-same z = either_same _ z

-- an operand that is equal to 0 is a negated one
pub equal-zero : (z : ℤ) → operated Equal z (pos 0) ≡ truth (not (is_true z))
equal-zero z = ap truth (sym (not-not (int_eq z (pos 0))))

-- what a step makes in rows that have the same in all cells is the same
pub made-same : (a b : List ℤ) (s : Step) → ((k : ℕ) → value_in a k ≡ value_in b k) → made_in a s ≡ made_in b s
made-same a b s same =
    ap (λ x. made s.operation x (value_in a s.right) s.number) (same s.left) ∙
    ap (λ x. made s.operation (value_in b s.left) x s.number) (same s.right)

-- ---- cells

-- an operand whose cell, if it is one, stands before a number stands before a greater one
below-as-well : (m n : ℕ) (o : Operand) → m ≤ n → IsBelow m o → IsBelow n o
below-as-well m n (Cell cell) more below = omega (arith, more, below)
below-as-well m n (Number z) more below = tt

-- a step has its cells before a number if each of the three stands there
within-from : (bound : ℕ) (s : Step) → s.left < bound → s.right < bound → s.to < bound → is_within bound s ≡ true
within-from bound s left right to =
    and_from _ _ (and_from _ _ (lt-ltb s.left bound left) (lt-ltb s.right bound right)) (lt-ltb s.to bound to)

-- one step more has its cells there too
pub within-more : (bound : ℕ) (steps : List Step) (s : Step) → are_within bound steps ≡ true → s.left < bound → s.right < bound → s.to < bound → are_within bound (steps ++ s ∷ []) ≡ true
within-more bound [] s within left right to = and_from _ true (within-from bound s left right to) refl
within-more bound (t ∷ ts) s within left right to =
    let parts = and_parts (is_within bound t) (are_within bound ts) within in
    and_from _ _ parts.0 (within-more bound ts s parts.1 left right to)

-- a whole row has the cells of all steps
pub within-whole : (steps : List Step) → are_within 24 steps ≡ true
within-whole [] = refl
within-whole (s ∷ ss) = and_from _ _ (within-from 24 s s.left_here s.right_here s.here) (within-whole ss)

-- ---- expressions

-- two operands, of which the second was judged behind the first, beside it, where `most` cells are taken
module _ (before middle after : List Step) (p q : Operand) (e f : Tree ℕ) (free most : ℕ) (first : IsOperandAfter before middle p e free) (second : IsOperandAfter middle after q f (free + 1)) (own : temporaries e ≤ most) (beside : 1 + temporaries f ≤ most) (known : IsTrue (has_variables_below free f)) where
  first-stays : (row : List ℤ) → free + most < length row → operand_in (run_in after row) p ≡ value_of (value_in (run_in before row)) e
  first-stays row room =
      operand-same (free + 1) (run_in after row) (run_in middle row) p first.cell (second.others row) ∙
      first.value row (omega (arith, room, own))

  second-comes : (row : List ℤ) → free + most < length row → operand_in (run_in after row) q ≡ value_of (value_in (run_in before row)) f
  second-comes row room =
      second.value row (omega (arith, room, beside)) ∙
      value-below free (value_in (run_in middle row)) (value_in (run_in before row)) (first.others row) f known

  others-stay : (row : List ℤ) (k : ℕ) → k < free → value_in (run_in after row) k ≡ value_in (run_in before row) k
  others-stay row k low = second.others row k (omega (arith, low)) ∙ first.others row k low

  both-within : (bound : ℕ) → free + most < bound → IsTrue (are_within bound before) → IsTrue (are_within bound after)
  both-within bound room within =
      second.within bound (omega (arith, room, beside)) (first.within bound (omega (arith, room, own)) within)

  first-below : (bound : ℕ) → free + most < bound → IsBelow bound p
  first-below bound room = below-as-well (free + 1) bound p (omega (arith, room, beside)) first.cell

  second-below : (bound : ℕ) → free + most < bound → IsBelow bound q
  second-below bound room = below-as-well (free + 1 + 1) bound q (omega (arith, room, beside)) second.cell

-- the cells that two operands take are enough for the one that takes more, and for the other one beside it
enough : (m n : ℕ) → m ≤ temporaries_of_two m n
enough m n = ⊎_elim
    (λ same. rw same.0 (omega arith))
    (λ unlike. rw unlike.0 (omega arith))
    (eqb_tells m n)

pub enough-beside : (m n : ℕ) → n ≤ m → 1 + n ≤ temporaries_of_two m n
enough-beside m n fewer = ⊎_elim
    (λ same. rw same.0 (omega (arith, fewer)))
    (λ unlike. rw unlike.0 (omega (arith, fewer, unlike.1)))
    (eqb_tells m n)

enough-other : (m n : ℕ) → n ≤ temporaries_of_two m n
enough-other m n = ⊎_elim
    (λ same. rw same.0 (omega (arith, same.1)))
    (λ unlike. rw unlike.0 (omega arith))
    (eqb_tells m n)

pub enough-less : (m n : ℕ) → m < n → 1 + m ≤ temporaries_of_two m n
enough-less m n fewer = ⊎_elim
    (λ same. rw same.0 (omega (arith, fewer)))
    (λ unlike. rw unlike.0 (omega (arith, fewer)))
    (eqb_tells m n)

-- two operands, the left one of which was judged first
pub left-first : (before middle after : List Step) (p q : Operand) (e f : Tree ℕ) (free : ℕ) → IsOperandAfter before middle p e free → IsOperandAfter middle after q f (free + 1) → temporaries f ≤ temporaries e → IsTrue (has_variables_below free f) → AreOperandsAfter before after p q e f free
left-first before middle after p q e f free first second fewer known =
    let most = temporaries_of_two (temporaries e) (temporaries f) in
    let own = enough (temporaries e) (temporaries f) in
    let beside = enough-beside (temporaries e) (temporaries f) fewer in record {
      left_value = first-stays before middle after p q e f free most first second own beside known;
      right_value = second-comes before middle after p q e f free most first second own beside known;
      others = others-stay before middle after p q e f free most first second own beside known;
      within = both-within before middle after p q e f free most first second own beside known;
      left_cell = first-below before middle after p q e f free most first second own beside known;
      right_cell = second-below before middle after p q e f free most first second own beside known;
    }

-- and the right one
pub right-first : (before middle after : List Step) (p q : Operand) (e f : Tree ℕ) (free : ℕ) → IsOperandAfter before middle q f free → IsOperandAfter middle after p e (free + 1) → temporaries e < temporaries f → IsTrue (has_variables_below free e) → AreOperandsAfter before after p q e f free
right-first before middle after p q e f free first second fewer known =
    let most = temporaries_of_two (temporaries e) (temporaries f) in
    let own = enough-other (temporaries e) (temporaries f) in
    let beside = enough-less (temporaries e) (temporaries f) fewer in record {
      left_value = second-comes before middle after q p f e free most first second own beside known;
      right_value = first-stays before middle after q p f e free most first second own beside known;
      others = others-stay before middle after q p f e free most first second own beside known;
      within = both-within before middle after q p f e free most first second own beside known;
      left_cell = second-below before middle after q p f e free most first second own beside known;
      right_cell = first-below before middle after q p f e free most first second own beside known;
    }

-- the step that makes the value of an expression, for a cell, makes what this cell holds
pub pushed : (before after : List Step) (s : Step) (e : Tree ℕ) (free : ℕ) → IsMadeAfter before after s e free → s.to ≡ free → IsOperandAfter before (after ++ s ∷ []) (Cell free) e free
pushed before after s e free made to = record {
  value = λ row room.
      ap (λ cells. value_in cells free) (run_in-snoc after s row) ∙
      ap (λ at. value_in (slice_set (run_in after row) at (made_in (run_in after row) s)) free) to ∙
      get_or-set_same (run_in after row) free (made_in (run_in after row) s) (pos 0) (omega (arith, room, length-run_in after row)) ∙
      made.value row room;
  others = λ row k low.
      ap (λ cells. value_in cells k) (run_in-snoc after s row) ∙
      get_or-set_other (run_in after row) s.to k (made_in (run_in after row) s) (pos 0) (λ same. omega (arith, same, to, low)) ∙
      made.others row k low;
  within = λ bound room within.
      within-more bound after s (made.within bound room within) (made.left bound room) (made.right bound room) (omega (arith, to, room));
  cell = omega arith;
}

-- the step that makes an operand's negation
pub made-not : (before after : List Step) (s : Step) (o : Operand) (e : Tree ℕ) (free : ℕ) → IsOperandAfter before after o e free → ((row : List ℤ) → made_in row s ≡ operated Equal (operand_in row o) (pos 0)) → ((bound : ℕ) → 0 < bound → IsBelow bound o → Unit {0} → (s.left < bound) × (s.right < bound)) → IsMadeAfter before after s (negation e) free
made-not before after s o e free operand is cells = record {
  value = λ row room.
      is (run_in after row) ∙ equal-zero (operand_in (run_in after row) o) ∙
      ap (λ z. truth (not (is_true z))) (operand.value row (omega (arith, room)));
  others = operand.others;
  within = λ bound room. operand.within bound (omega (arith, room));
  left = λ bound room. (below bound room).0;
  right = λ bound room. (below bound room).1;
}
  where
    below : (bound : ℕ) → free + temporaries (negation e) < bound → (s.left < bound) × (s.right < bound)
    below bound room =
        cells bound (omega (arith, room)) (below-as-well (free + 1) bound o (omega (arith, room)) operand.cell) tt

-- and the one that applies an operator to two
pub made-of-two : (before after : List Step) (s : Step) (op : Operator) (p q : Operand) (e f : Tree ℕ) (free : ℕ) → AreOperandsAfter before after p q e f free → ((row : List ℤ) → made_in row s ≡ operated op (operand_in row p) (operand_in row q)) → ((bound : ℕ) → 0 < bound → IsBelow bound p → IsBelow bound q → (s.left < bound) × (s.right < bound)) → IsMadeAfter before after s (operation op e f) free
made-of-two before after s op p q e f free both is cells = record {
  value = λ row room.
      is (run_in after row) ∙
      ap (λ x. operated op x (operand_in (run_in after row) q)) (both.left_value row room) ∙
      ap (operated op (value_of (value_in (run_in before row)) e)) (both.right_value row room);
  others = both.others;
  within = both.within;
  left = λ bound room. (below bound room).0;
  right = λ bound room. (below bound room).1;
}
  where
    below : (bound : ℕ) → free + temporaries (operation op e f) < bound → (s.left < bound) × (s.right < bound)
    below bound room = cells bound (omega (arith, room)) (both.left_cell bound room) (both.right_cell bound room)

-- ---- code

-- code whose temporary cells begin with a number
module _ (steps : List Step) (last : Step) (temporary : ℕ) where
  -- what it makes of a row
  abbrev pub coded : List ℤ → ℤ
  coded row = if eqb (length steps) 0 then made_in row last else value_in (run_in steps row) temporary

  -- where it is one step
  pub one-step : (row : List ℤ) → length steps ≡ 0 → coded row ≡ made_in row last
  one-step row none =
      ap (λ b. if b then made_in row last else value_in (run_in steps row) temporary) (eq-eqb (length steps) 0 none)

  -- and where it is several
  pub more-steps : (row : List ℤ) → 0 < length steps → coded row ≡ value_in (run_in steps row) temporary
  more-steps row some =
      ap (λ b. if b then made_in row last else value_in (run_in steps row) temporary) (ne_eqb (length steps) 0 (λ none. omega (arith, none, some)))

no_element : {X : Type 0} (xs : List X) → length xs ≡ 0 → [] ≡ xs
no_element [] none = refl
no_element (x ∷ xs) none = absurd (omega (arith, none))

-- so the step that makes the value of an expression is its code, if no other step is added
pub one-code : (steps : List Step) (last : Step) (e : Tree ℕ) (free : ℕ) → IsMadeAfter [] steps last e free → length steps ≡ 0 → (row : List ℤ) → free + temporaries e < length row → coded steps last free row ≡ value_of (value_in row) e
one-code steps last e free made none row room =
    one-step steps last free row none ∙ ap (λ ss. made_in (run_in ss row) last) (no_element steps none) ∙
    made.value row room

-- and else all of them are, with it
pub more-code : (before steps : List Step) (last : Step) (e : Tree ℕ) (free : ℕ) → IsMadeAfter [] before last e free → last.to ≡ free → steps ≡ before ++ last ∷ [] → (row : List ℤ) → free + temporaries e < length row → coded steps last free row ≡ value_of (value_in row) e
more-code before steps last e free made to is row room =
    let all : length steps ≡ length before + 1 = ap length is ∙ length-append before (last ∷ []) in
    more-steps steps last free row (omega (arith, all)) ∙ ap (λ ss. value_in (run_in ss row) free) is ∙
    (pushed [] before last e free made to).value row room

-- ---- rows

-- the temporary cells of the row that an expression fits begin behind its variables
pub first-behind : (e : Tree ℕ) → IsTrue (has_variables_below 16 e) → IsTrue (has_variables_below (first_temporary (is_small e)) e)
first-behind e known = each (is_small e) refl
  where
    each : (small : Bool) → is_small e ≡ small → IsTrue (has_variables_below (first_temporary small) e)
    each true is = (and_parts (has_variables_below 4 e) _ is).0
    each false is = known

-- and there is room for them
pub room-behind : (e : Tree ℕ) → word_count e ≤ 64 → first_temporary (is_small e) + temporaries e < row_length (is_small e)
room-behind e few = each (is_small e) refl
  where
    each : (small : Bool) → is_small e ≡ small → first_temporary small + temporaries e < row_length small
    each true is = ltb-true (4 + temporaries e) 8 (and_parts (has_variables_below 4 e) _ is).1
    each false is = omega (arith, temporaries-six e few)

-- a whole row has no fewer cells
pub row-few : (small : Bool) → row_length small ≤ 24
row-few true = omega arith
row-few false = omega arith

-- several steps leave the value of an expression behind the variables, whatever the temporary cells had
pub left-value : (code : Code) (tree : Tree ℕ) (variables first rest : List ℤ) → IsCodeOf code tree → 0 < length code.steps.items → length first ≡ first_temporary code.is_small → row_length code.is_small ≤ length first + length rest → ((k : ℕ) → k < length first → value_in first k ≡ value_in variables k) → value_in (run_in code.steps.items (first ++ rest)) (length first) ≡ value_of (value_in variables) tree
left-value code tree variables first rest is some behind room same =
    let row = first ++ rest in
    let temporary = first_temporary code.is_small in
    ap (value_in (run_in code.steps.items row)) behind ∙
    sym (more-steps code.steps.items code.last temporary row some) ∙
    is.value row (omega (arith, room, length-append first rest)) ∙
    value-below temporary (value_in row) (value_in variables) (λ k low. get_or-append first rest (pos 0) k (omega (arith, low, behind)) ∙ same k (omega (arith, low, behind))) tree is.variables

-- the row that has the variables' values in their cells
abbrev pub row-with : List ℤ → List ℤ
row-with variables = variables ++ replicate 8 (pos 0)

pub long-with : (variables : List ℤ) → length variables ≡ 16 → length (row-with variables) ≡ 24
long-with variables long = length-append variables (replicate 8 (pos 0)) ∙ ap (λ n. n + 8) long

zeros : (k : ℕ) → get_or (replicate 8 (pos 0)) k (pos 0) ≡ pos 0
zeros k = ⊎_elim
    (λ within. get_or-replicate 8 k (pos 0) (pos 0) within)
    (λ past. get_or_past (replicate 8 (pos 0)) k (pos 0) past)
    (cases_lt k 8)

pub cells-with : (variables : List ℤ) → length variables ≡ 16 → (k : ℕ) → value_in (row-with variables) k ≡ value_in variables k
cells-with variables long k = ⊎_elim
    (λ within. get_or-append variables (replicate 8 (pos 0)) (pos 0) k (omega (arith, within, long)))
    (λ past. get_or-append_right variables (replicate 8 (pos 0)) 16 k (pos 0) long past ∙ zeros (k - 16) ∙ sym (get_or_past variables k (pos 0) (omega (arith, past, long))))
    (cases_lt k 16)
