use Rattle.std.proofs.Common.{◌≡◌, ℕ, zero, suc, ◌+◌, ◌-◌, ◌*◌, ◌%◌, ◌^◌, ◌<◌, ◌≤◌, ℤ, Bool, true, false, not, ◌&&◌, ◌||◌, eqb, ltb, refl, sym, ◌∙◌, ap, arith, List, [], ◌∷◌, ◌++◌, length, map, set, get_or, take, Option, Some, None, ⊎_elim}
use Rattle.std.specs.Prelude.{bit_and, bit_or, slice_get}
use mir.Val.{bits}
use Rattle.std.specs.Int.{Width, bit_not, w128, trailing_zeros}
use Rattle.std.specs.Int.Bits.{and_lt}
use Rattle.std.specs.List.{list_any}
use Rattle.std.specs.Option.{option_map, option_map_or}
use Rattle.std.proofs.Math.Bool.{or-false, or-true, or_assoc, and-true}
use Rattle.std.proofs.lemmas.Bool.{cases_lt, cases_eq, and_parts, and_from, eqb-true, eq-eqb, ne_eqb, lt-ltb, le-ltb, and_right, false≢true}
use Rattle.std.proofs.lemmas.List.Folds.{list_any-append, list_any_more}
use Rattle.std.proofs.Math.Pow.{pow_mono}
use Rattle.std.proofs.lemmas.List.{take_all}
use Rattle.std.proofs.lemmas.Nat.{or_lt, pow_pos}
use Rattle.std.proofs.lemmas.Nat.Bits.{bit_at-pow_same, bit_at-pow_other}
use Rattle.std.proofs.lemmas.Option.{slice_get-map, slice_get_past, slice_get_within}
use Rattle.petri_atom.specs.Expression.{Tree, number, variable, negation, operation, is_true, is_true_number, value_of}
use Rattle.petri_atom.specs.Local.{Local, has, set_below, all_marked, value_in}
use Rattle.petri_atom.specs.Definition.{TransitionDefinition, can_move, offers}
use Rattle.petri_atom.specs.Transition.{transition_of}
use Rattle.petri_atom.specs.Groups.{suits, asks_same, is_movable, can_move_number, AreGroupsOf, is_unguarded, unguarded_set, passes_guard}
use Rattle.petri_atom.specs.declared.groups.Group.{Group}
use Rattle.petri_atom.specs.declared.transition.Transition.{Transition}
use Rattle.petri_atom.proofs.Markings.{all_marked-word, is_blocked-word}
use Rattle.petri_atom.proofs.Members.{lowest-below, there, others}
use Rattle.petri_atom.proofs.Sets.{has-and, has-or, has-not, has-above, has-set, same_set, set_below-lt, has-set_below, set_below-is}

-- ---- one transition

-- a marking suits what a transition asks exactly if it lets it move
pub suits-can_move : (t : Transition) (m : ℕ) → m < 2 ^ 64 → suits m t.source_word t.blocking_word ≡ can_move m (transition_of t)
suits-can_move t m small =
    let sources = ap (λ w. eqb (bit_and m w) w) t.source_bits ∙ all_marked-word m t.sources.items small t.sources_are_places in
    let blocking = ap (λ w. eqb (bit_and m w) 0) t.blocking_bits ∙ is_blocked-word m t.targets.items t.sources.items small t.targets_are_places in
    ap (λ b. b && eqb (bit_and m t.blocking_word) 0) sources ∙
    ap (λ b. all_marked m t.sources.items && b) blocking

-- what is asked of the transition with a number is asked of what was written
pub test_at : (test : TransitionDefinition → Bool) (ts : List Transition) (n : ℕ) (t : Transition) → slice_get ts n ≡ Some t → option_map_or test (slice_get (map transition_of ts) n) false ≡ test (transition_of t)
test_at test ts n t there =
    ap (λ o. option_map_or test o false) (slice_get-map transition_of ts n ∙ ap (option_map transition_of) there)

-- ---- one more number in a set

pub has-one : (n k : ℕ) → has (2 ^ n) k ≡ eqb k n
has-one n k =
    ⊎_elim (λ same. ap (has (2 ^ n)) same ∙ ap (λ x. eqb x 1) (bit_at-pow_same n) ∙ sym (eq-eqb k n same))
    (λ other. ap (λ x. eqb x 1) (bit_at-pow_other n k other) ∙ sym (ne_eqb k n other)) (cases_eq k n)

-- ---- one more transition in the groups

swapped : (a b c : Bool) → ((a || b) || c) ≡ ((a || c) || b)
swapped true b c = refl
swapped false true c = sym (or-true c)
swapped false false c = sym (or-false c)

-- if one element of a list passes a test in one case more, so does the list
list_any-set : {X : Type 0} (test : X → Bool) (xs : List X) (i : ℕ) (y d : X) (more : Bool) → i < length xs → test y ≡ (test (get_or xs i d) || more) → list_any test (set xs i y) ≡ (list_any test xs || more)
list_any-set test [] i y d more within passes = absurd (omega arith)
list_any-set test (x ∷ xs) zero y d more within passes =
    ap (λ b. b || list_any test xs) passes ∙ swapped (test x) more (list_any test xs)
list_any-set test (x ∷ xs) (suc i) y d more within passes =
    ap (λ b. test x || b) (list_any-set test xs i y d more (omega arith) passes) ∙
    sym (or_assoc (test x) (list_any test xs) more)

-- a group that asks what a transition asks suits the same markings
suits-same : (g : Group) (t : Transition) (m : ℕ) → asks_same g t ≡ true → suits m g.sources g.blocking ≡ suits m t.source_word t.blocking_word
suits-same g t m same =
    let parts = and_parts (eqb g.sources t.source_word) (eqb g.blocking t.blocking_word) same in
    ap (λ w. suits m w g.blocking) (eqb-true _ _ parts.0) ∙ ap (λ w. suits m t.source_word w) (eqb-true _ _ parts.1)

-- a marking lets the number of a group, and one more of it, move by one test
and_more : (s s' a b : Bool) → s ≡ s' → (s && (a || b)) ≡ (s && a || s' && b)
and_more true s' a b same = ap (λ x. a || x && b) same
and_more false s' a b same = ap (λ x. x && b) same

-- a transition joins a group that asks what it asks
pub movable-joined : (groups : List Group) (place number : ℕ) (d g : Group) (t : Transition) (m n : ℕ) → place < length groups → number < 128 → asks_same (get_or groups place d) t ≡ true → g.sources ≡ (get_or groups place d).sources → g.blocking ≡ (get_or groups place d).blocking → g.members ≡ bit_or (get_or groups place d).members (1 * 2 ^ number % 2 ^ 128) → is_movable (set groups place g) m n ≡ (is_movable groups m n || suits m t.source_word t.blocking_word && eqb n number)
movable-joined groups place one d g t m n within below same sources blocking more =
    let old = get_or groups place d in
    list_any-set (λ h. suits m h.sources h.blocking && has h.members n) groups place g d _ within
    (ap (λ w. suits m w g.blocking && has g.members n) sources ∙ ap (λ w. suits m old.sources w && has g.members n) blocking ∙ ap (λ w. suits m old.sources old.blocking && has w n) more ∙ ap (λ b. suits m old.sources old.blocking && b) (has-set w128 old.members one n below) ∙ and_more _ _ (has old.members n) (eqb n one) (suits-same old t m same))

-- or else it makes one of its own
pub movable-made : (groups : List Group) (number : ℕ) (g : Group) (t : Transition) (m n : ℕ) → asks_same g t ≡ true → g.members ≡ 2 ^ number → is_movable (groups ++ g ∷ []) m n ≡ (is_movable groups m n || suits m t.source_word t.blocking_word && eqb n number)
movable-made groups one g t m n same alone =
    list_any-append (λ h. suits m h.sources h.blocking && has h.members n) groups (g ∷ []) ∙
    ap (λ b. is_movable groups m n || b) (or-false _ ∙ ap (λ b. b && has g.members n) (suits-same g t m same) ∙ ap (λ b. suits m t.source_word t.blocking_word && b) (ap (λ w. has w n) alone ∙ has-one one n))

-- ---- the groups of all transitions

-- a marking suits what the transition with a number asks
abbrev pub suits_number : List Transition → ℕ → ℕ → Bool
suits_number ts m n =
    option_map_or (λ t. suits m t.source_word t.blocking_word) (slice_get ts n) false

-- the groups of the first transitions, and of one more
pub grouped-more : (ts : List Transition) (i m n : ℕ) (t : Transition) (before : Bool) → slice_get ts i ≡ Some t → before ≡ (ltb n i && suits_number ts m n) → (before || suits m t.source_word t.blocking_word && eqb n i) ≡ (ltb n (i + 1) && suits_number ts m n)
grouped-more ts i m n t before there so_far =
    let here : suits_number ts m i ≡ suits m t.source_word t.blocking_word =
    ap (λ o. option_map_or (λ t. suits m t.source_word t.blocking_word) o false) there in
    ap (λ b. b || suits m t.source_word t.blocking_word && eqb n i) so_far ∙
    ⊎_elim (λ below. ap (λ b. (b && suits_number ts m n) || suits m t.source_word t.blocking_word && eqb n i) (lt-ltb n i below) ∙ ap (λ b. suits_number ts m n || suits m t.source_word t.blocking_word && b) (ne_eqb n i (λ same. absurd (omega arith))) ∙ ap (λ b. suits_number ts m n || b) (and_right _ false refl) ∙ or-false _ ∙ sym (ap (λ b. b && suits_number ts m n) (lt-ltb n (i + 1) (omega arith))))
    (λ past. ap (λ b. (b && suits_number ts m n) || suits m t.source_word t.blocking_word && eqb n i) (le-ltb n i past) ∙ ⊎_elim (λ same. ap (λ b. suits m t.source_word t.blocking_word && b) (eq-eqb n i same) ∙ and-true _ ∙ sym (ap (λ b. b && suits_number ts m n) (lt-ltb n (i + 1) (omega arith)) ∙ ap (suits_number ts m) same ∙ here)) (λ other. ap (λ b. suits m t.source_word t.blocking_word && b) (ne_eqb n i other) ∙ and_right _ false refl ∙ sym (ap (λ b. b && suits_number ts m n) (le-ltb n (i + 1) (omega arith)))) (cases_eq n i))
    (cases_lt n i)

-- so the groups of all are those of the transitions as they were written
pub grouped-all : (groups : List Group) (ts : List Transition) → ((m n : ℕ) → is_movable groups m n ≡ (ltb n (length ts) && suits_number ts m n)) → AreGroupsOf groups (map transition_of ts)
grouped-all groups ts grouped m n small =
    grouped m n ∙ each (slice_get ts n) refl
  where
    each : (o : Option Transition) → slice_get ts n ≡ o → (ltb n (length ts) && suits_number ts m n) ≡ can_move_number (map transition_of ts) m n
    each None none =
        ap (λ o. ltb n (length ts) && option_map_or (λ t. suits m t.source_word t.blocking_word) o false) none ∙ and_right _ false refl ∙
        sym (ap (λ o. option_map_or (can_move m) o false) (slice_get-map transition_of ts n ∙ ap (option_map transition_of) none))
    each (Some t) there =
        ap (λ o. ltb n (length ts) && option_map_or (λ t. suits m t.source_word t.blocking_word) o false) there ∙
        ap (λ b. b && suits m t.source_word t.blocking_word) (lt-ltb n (length ts) (slice_get_within ts n t there)) ∙
        suits-can_move t m small ∙
        sym (test_at (can_move m) ts n t there)

-- ---- the groups that a marking suits

-- of the groups that a marking suits so far, one more has its members too
pub movable-more : (groups : List Group) (i set m : ℕ) (g d : Group) → i < length groups → g ≡ get_or groups i d → suits m g.sources g.blocking ≡ true → ((n : ℕ) → has set n ≡ is_movable (take i groups) m n) → (n : ℕ) → has (bit_or set g.members) n ≡ is_movable (take (i + 1) groups) m n
movable-more groups i set m g d within here suited so_far n =
    has-or set g.members n ∙ ap (λ b. b || has g.members n) (so_far n) ∙
    ap (λ b. is_movable (take i groups) m n || b && has g.members n) (sym suited) ∙
    sym (list_any_more (λ h. suits m h.sources h.blocking && has h.members n) groups i d within ∙ ap (λ h. is_movable (take i groups) m n || suits m h.sources h.blocking && has h.members n) (sym here))

-- one that it does not suit has none
pub movable-passed : (groups : List Group) (i set m : ℕ) (g d : Group) → i < length groups → g ≡ get_or groups i d → suits m g.sources g.blocking ≡ false → ((n : ℕ) → has set n ≡ is_movable (take i groups) m n) → (n : ℕ) → has set n ≡ is_movable (take (i + 1) groups) m n
movable-passed groups i set m g d within here unsuited so_far n =
    so_far n ∙
    sym (list_any_more (λ h. suits m h.sources h.blocking && has h.members n) groups i d within ∙ ap (λ h. is_movable (take i groups) m n || suits m h.sources h.blocking && has h.members n) (sym here) ∙ ap (λ b. is_movable (take i groups) m n || b && has g.members n) unsuited ∙ or-false _)

-- and after the last one these are all
pub movable-all : (groups : List Group) (i set m : ℕ) → length groups ≤ i → set < 2 ^ 128 → ((n : ℕ) → has set n ≡ is_movable (take i groups) m n) → set ≡ set_below 128 (is_movable groups m)
movable-all groups i set m past small so_far =
    set_below-is 128 set (is_movable groups m) small
    (λ k h. so_far k ∙ ap (λ gs. is_movable gs m k) (take_all i groups past))

-- what groups and a marking that are read let move is what the groups and the marking themselves do
pub as_read : (groups lent : List Group) (marking read movable : ℕ) → movable ≡ set_below 128 (is_movable lent read) → lent ≡ groups → read ≡ marking → movable ≡ set_below 128 (is_movable groups marking)
as_read groups lent marking read movable moves same is =
    moves ∙ ap (λ gs. set_below 128 (is_movable gs read)) same ∙ ap (λ m. set_below 128 (is_movable groups m)) is

-- ---- the guards of a set, from its lowest number on

-- a number that passes is added to those that did, one that fails is left out
kept : (done here left passes : Bool) → (here ≡ true → left ≡ true) → (here ≡ true → passes ≡ true) → ((done || here) || (left && not here) && passes) ≡ (done || left && passes)
kept true here left passes inside holds = refl
kept false true left passes inside holds = sym (and_from left passes (inside refl) (holds refl))
kept false false left passes inside holds = ap (λ b. b && passes) (and-true left)

failed : (done here left passes : Bool) → (here ≡ true → passes ≡ false) → (done || (left && not here) && passes) ≡ (done || left && passes)
failed true here left passes fails = refl
failed false true left passes fails =
    and_right (left && false) passes (fails refl) ∙ sym (and_right left passes (fails refl))
failed false false left passes fails = ap (λ b. b && passes) (and-true left)

-- what is left without the lowest number was left with it
pub rest-left : (width : Width) (left : ℕ) → 0 < left → left < 2 ^ bits width → (n : ℕ) → has (bit_and left (left - 1)) n ≡ true → has left n ≡ true
rest-left width left some small n inside =
    (and_parts (has left n) (not (eqb n (trailing_zeros width left))) (sym (others width left some small n) ∙ inside)).0

module _ (width : Width) (passes : ℕ → Bool) (set done left : ℕ) (some : 0 < left) (small : left < 2 ^ bits width) (so_far : (n : ℕ) → (has done n || has left n && passes n) ≡ (has set n && passes n)) where
  abbrev lowest : ℕ
  lowest = trailing_zeros width left

  abbrev rest : ℕ
  rest = bit_and left (left - 1)

  pub passing-more : passes lowest ≡ true → (n : ℕ) → (has (bit_or done (1 * 2 ^ lowest % 2 ^ bits width)) n || has rest n && passes n) ≡ (has set n && passes n)
  passing-more holds n =
      ap (λ b. b || has rest n && passes n) (has-set width done lowest n (lowest-below width left some small)) ∙
      ap (λ b. (has done n || eqb n lowest) || b && passes n) (others width left some small n) ∙
      kept (has done n) (eqb n lowest) (has left n) (passes n) (λ same. ap (has left) (eqb-true n lowest same) ∙ there width left some small) (λ same. ap passes (eqb-true n lowest same) ∙ holds) ∙
      so_far n

  pub passing-fewer : passes lowest ≡ false → (n : ℕ) → (has done n || has rest n && passes n) ≡ (has set n && passes n)
  passing-fewer fails n =
      ap (λ b. has done n || b && passes n) (others width left some small n) ∙
      failed (has done n) (eqb n lowest) (has left n) (passes n) (λ same. ap passes (eqb-true n lowest same) ∙ fails) ∙
      so_far n

  -- what is left is left of the set
  pub rest-within : ((n : ℕ) → has left n ≡ true → has set n ≡ true) → (n : ℕ) → has rest n ≡ true → has set n ≡ true
  rest-within within n inside =
      within n (rest-left width left some small n inside)

-- if none is left, those that did pass are all
pub passing-all : (n : ℕ) (passes : ℕ → Bool) (set done left : ℕ) → left ≡ 0 → done < 2 ^ n → ((k : ℕ) → (has done k || has left k && passes k) ≡ (has set k && passes k)) → done ≡ set_below n (λ k. has set k && passes k)
passing-all n passes set done left none small so_far =
    set_below-is n done (λ k. has set k && passes k) small
    (λ k h. sym (ap (λ b. has done k || b && passes k) (ap (λ w. has w k) none ∙ has-above 0 0 k (pow_pos 0) (omega arith)) ∙ or-false (has done k)) ∙ so_far k)

-- ---- the offered transitions

-- a set of numbers below a bound, if a longer word has no others
pub set_below-within : (n m w : ℕ) (f : ℕ → Bool) → n ≤ m → w < 2 ^ m → ((k : ℕ) → k < n → has w k ≡ f k) → ((k : ℕ) → n ≤ k → k < m → has w k ≡ false) → w ≡ set_below n f
set_below-within n m w f fits small same none =
    same_set m w (set_below n f) small (omega (arith, set_below-lt n f, pow_mono fits))
    (λ k below. ⊎_elim (λ h. same k h ∙ sym (has-set_below n f k h)) (λ past. none k past below ∙ sym (has-above (set_below n f) n k (set_below-lt n f) past)) (cases_lt k n))

-- if a set has the numbers of the transitions that a marking lets move, a transition is in it that is there
pub movable-within : (ts : List TransitionDefinition) (m n : ℕ) → can_move_number ts m n ≡ true → n < length ts
movable-within ts m n movable =
    ⊎_elim (λ h. h) (λ past. absurd (false≢true (sym (ap (λ o. option_map_or (can_move m) o false) (slice_get_past ts n past)) ∙ movable))) (cases_lt n (length ts))

-- a guard that is a number other than 0 is not 0
pub unguarded-true : (guard : Tree ℕ) (at : ℕ → ℤ) → is_true_number guard ≡ true → is_true (value_of at guard) ≡ true
unguarded-true (number n) at plain = plain
unguarded-true (variable v) at plain = absurd (false≢true plain)
unguarded-true (negation e) at plain = absurd (false≢true plain)
unguarded-true (operation op e f) at plain = absurd (false≢true plain)

-- what moves is offered if its guard is left alone, or else if it passes
picked : (moves plain passes : Bool) → (plain ≡ true → passes ≡ true) → (moves && plain || (moves && not plain) && passes) ≡ (moves && passes)
picked false plain passes holds = refl
picked true true passes holds = sym (holds refl)
picked true false passes holds = refl

-- the offered transitions are those that move and whose guard is left alone or passes
pub offered-number : (ts : List TransitionDefinition) (state : Local) (n : ℕ) → (can_move_number ts state.marking n && is_unguarded ts n || (can_move_number ts state.marking n && not (is_unguarded ts n)) && passes_guard ts state n) ≡ option_map_or (offers state) (slice_get ts n) false
offered-number ts state n =
    elim (slice_get ts n) as (λ o. (option_map_or (can_move state.marking) o false && option_map_or (λ t. is_true_number t.guard) o false || (option_map_or (can_move state.marking) o false && not (option_map_or (λ t. is_true_number t.guard) o false)) && option_map_or (λ t. is_true (value_of (value_in state.values) t.guard)) o false) ≡ option_map_or (offers state) o false) [
      | None ↦ refl
      | Some t ↦ picked (can_move state.marking t) (is_true_number t.guard) (is_true (value_of (value_in state.values) t.guard)) (unguarded-true t.guard (value_in state.values))
    ]

-- what the groups of some transitions say of a marking
module _ (groups : List Group) (ts : List TransitionDefinition) (m movable : ℕ) (grouped : AreGroupsOf groups ts) (fits : m < 2 ^ 64) (moves : movable ≡ set_below 128 (is_movable groups m)) where
  has-movable : (n : ℕ) → n < 128 → has movable n ≡ can_move_number ts m n
  has-movable n h =
      ap (λ w. has w n) moves ∙ has-set_below 128 (is_movable groups m) n h ∙ grouped m n fits

  movable-small : movable < 2 ^ 128
  movable-small = rw moves (set_below-lt 128 (is_movable groups m))

  -- who moves is there
  pub movable-there : (other n : ℕ) → has (bit_and movable other) n ≡ true → n < length ts
  movable-there other n inside =
      let here = (and_parts (has movable n) (has other n) (sym (has-and movable other n) ∙ inside)).0 in
      ⊎_elim (λ below. movable-within ts m n (sym (has-movable n below) ∙ here))
      (λ past. absurd (false≢true (sym (has-above movable 128 n movable-small past) ∙ here)))
      (cases_lt n 128)

-- the transitions that move, and whose guard is left alone or passes, are the offered ones
pub offered-is : (groups : List Group) (ts : List TransitionDefinition) (state : Local) (movable unguarded passing : ℕ) → AreGroupsOf groups ts → state.marking < 2 ^ 64 → length ts ≤ 128 → movable ≡ set_below 128 (is_movable groups state.marking) → unguarded ≡ unguarded_set ts → passing ≡ set_below 128 (λ n. has (bit_and movable (bit_not w128 unguarded)) n && passes_guard ts state n) → bit_or (bit_and movable unguarded) passing ≡ set_below (length ts) (λ n. option_map_or (offers state) (slice_get ts n) false)
offered-is groups ts state movable unguarded passing grouped fits few moves plain passed =
    set_below-within (length ts) 128 _ _ few (or_lt 128 _ _ (and_lt 128 movable unguarded movable_small unguarded_small) passing_small) same none
  where
    movable_small : movable < 2 ^ 128
    movable_small = movable-small groups ts state.marking movable grouped fits moves

    unguarded_small : unguarded < 2 ^ 128
    unguarded_small =
        let below : unguarded < 2 ^ length ts = rw plain (set_below-lt (length ts) (is_unguarded ts)) in
        omega (arith, below, pow_mono few)

    passing_small : passing < 2 ^ 128
    passing_small = rw passed (set_below-lt 128 _)

    moved_by : (k : ℕ) → k < 128 → has movable k ≡ can_move_number ts state.marking k
    moved_by k h = has-movable groups ts state.marking movable grouped fits moves k h

    passes : (k : ℕ) → k < 128 → has passing k ≡ ((has movable k && has (bit_not w128 unguarded) k) && passes_guard ts state k)
    passes k h =
        ap (λ w. has w k) passed ∙ has-set_below 128 _ k h ∙
        ap (λ b. b && passes_guard ts state k) (has-and movable (bit_not w128 unguarded) k)

    word : (k : ℕ) → k < 128 → has (bit_or (bit_and movable unguarded) passing) k ≡ (has movable k && has unguarded k || (has movable k && has (bit_not w128 unguarded) k) && passes_guard ts state k)
    word k h =
        has-or _ passing k ∙ ap (λ b. b || has passing k) (has-and movable unguarded k) ∙
        ap (λ b. has movable k && has unguarded k || b) (passes k h)

    same : (k : ℕ) → k < length ts → has (bit_or (bit_and movable unguarded) passing) k ≡ option_map_or (offers state) (slice_get ts k) false
    same k h =
        let below : k < 128 = omega arith in
        let alone : has unguarded k ≡ is_unguarded ts k =
        ap (λ w. has w k) plain ∙ has-set_below (length ts) (is_unguarded ts) k h in
        let others : has (bit_not w128 unguarded) k ≡ not (is_unguarded ts k) =
        has-not w128 unguarded k unguarded_small below ∙ ap not alone in
        word k below ∙
        ap (λ b. b && has unguarded k || (b && has (bit_not w128 unguarded) k) && passes_guard ts state k) (moved_by k below) ∙
        ap (λ b. can_move_number ts state.marking k && b || (can_move_number ts state.marking k && has (bit_not w128 unguarded) k) && passes_guard ts state k) alone ∙
        ap (λ b. can_move_number ts state.marking k && is_unguarded ts k || (can_move_number ts state.marking k && b) && passes_guard ts state k) others ∙
        offered-number ts state k

    none : (k : ℕ) → length ts ≤ k → k < 128 → has (bit_or (bit_and movable unguarded) passing) k ≡ false
    none k past below =
        let gone : has movable k ≡ false =
        moved_by k below ∙ ap (λ o. option_map_or (can_move state.marking) o false) (slice_get_past ts k past) in
        word k below ∙
        ap (λ b. b && has unguarded k || (b && has (bit_not w128 unguarded) k) && passes_guard ts state k) gone
