-- What can move and what is offered after a firing, from what could and was before it.
use Rattle.std.proofs.Common.{◌≡◌, ℕ, ◌<◌, ◌≤◌, ◌^◌, Bool, true, false, not, ◌&&◌, ◌||◌, ◌⊎◌, inl, inr, refl, sym, ◌∙◌, ap, subst, arith, List, length, Option, Some, None, ⊎_elim}
use Rattle.std.specs.Prelude.{bit_and, bit_or, slice_get}
use mir.Val.{bits}
use Rattle.std.specs.Int.{Width, bit_not}
use Rattle.std.specs.Option.{option_map_or}
use Rattle.std.proofs.Math.Pow.{pow_mono}
use Rattle.std.proofs.lemmas.Bool.{cases_lt, and_parts, and_left, both_ways, not-true, false≢true}
use Rattle.std.proofs.lemmas.Nat.{and_le_l, and_le_r, or_lt}
use Rattle.std.proofs.lemmas.Option.{slice_get_cases, slice_get_past, slice_get_within}
use Rattle.petri_atom.specs.Expression.{is_true, is_true_number, value_of}
use Rattle.petri_atom.specs.Local.{Local, Row, has, set_below, value_in}
use Rattle.petri_atom.specs.Definition.{AtomDefinition, TransitionDefinition, can_move, exports_of, fired, fired_by, offered_set, offers, offers_number}
use Rattle.petri_atom.specs.Groups.{AreGroupsOf, can_move_number, is_movable, is_unguarded, passes_guard, unguarded_set}
use Rattle.petri_atom.specs.Behind.{AreBehind, IsBehind, Tells, exports_in, marking_after, movable_set}
use Rattle.petri_atom.specs.declared.behind.Behind.{Behind}
use Rattle.petri_atom.specs.declared.groups.Group.{Group}
use Rattle.petri_atom.proofs.Grouping.{unguarded-true}
use Rattle.petri_atom.proofs.Lists.{both, either}
use Rattle.petri_atom.proofs.Sets.{fits-below, has-and, has-or, has-minus, has-above, has-passing, same_numbers, set_below-lt}
use Rattle.petri_atom.proofs.Telling.{none_of}

-- ---- sets of transitions

-- no transition passes a test that is not there
pub not_there : (test : TransitionDefinition → Bool) (ts : List TransitionDefinition) (k : ℕ) → length ts ≤ k → option_map_or test (slice_get ts k) false ≡ false
not_there test ts k past = ap (λ o. option_map_or test o false) (slice_get_past ts k past)

-- a transition is offered that can move and whose guard passes
offers-both : (ts : List TransitionDefinition) (s : Local) (k : ℕ) → option_map_or (offers s) (slice_get ts k) false ≡ (can_move_number ts s.marking k && passes_guard ts s k)
offers-both ts s k =
    elim (slice_get ts k) as (λ o. option_map_or (offers s) o false ≡ (option_map_or (can_move s.marking) o false && option_map_or (λ t. is_true (value_of (value_in s.values) t.guard)) o false)) [
      | None ↦ refl
      | Some t ↦ refl
    ]

-- so a set of transitions has just those that it is said to have: those that can move, those that are offered, and those whose guard
-- is a number other than 0
pub has-movable : (a : AtomDefinition) (s : Local) (k : ℕ) → has (movable_set a s) k ≡ can_move_number a.transitions s.marking k
has-movable a s k =
    has-passing (length a.transitions) (can_move_number a.transitions s.marking) k (not_there (can_move s.marking) a.transitions k)

pub has-offered : (a : AtomDefinition) (s : Local) (k : ℕ) → has (offered_set a s) k ≡ (can_move_number a.transitions s.marking k && passes_guard a.transitions s k)
has-offered a s k =
    has-passing (length a.transitions) (offers_number a s) k (not_there (offers s) a.transitions k) ∙
    offers-both a.transitions s k

pub has-unguarded : (ts : List TransitionDefinition) (k : ℕ) → has (unguarded_set ts) k ≡ is_unguarded ts k
has-unguarded ts k =
    has-passing (length ts) (is_unguarded ts) k (not_there _ ts k)

-- the groups that a marking suits have those that can move
pub movable-is : (groups : List Group) (a : AtomDefinition) (s : Local) (movable : ℕ) → AreGroupsOf groups a.transitions → length a.transitions ≤ 128 → s.marking < 2 ^ 64 → movable ≡ set_below 128 (is_movable groups s.marking) → movable ≡ movable_set a s
movable-is groups a s movable grouped few fits moves =
    same_numbers _ _
    (λ k. ap (λ w. has w k) moves ∙ has-passing 128 (is_movable groups s.marking) k (λ past. let gone : length a.transitions ≤ k = omega arith in grouped s.marking k fits ∙ not_there (can_move s.marking) a.transitions k gone) ∙ grouped s.marking k fits ∙ sym (has-movable a s k))

-- a guard that is a number other than 0 passes
pub plain-passes : (ts : List TransitionDefinition) (s : Local) (k : ℕ) → is_unguarded ts k ≡ true → passes_guard ts s k ≡ true
plain-passes ts s k plain = each (slice_get ts k) plain
  where
    each : (o : Option TransitionDefinition) → option_map_or (λ t. is_true_number t.guard) o false ≡ true → option_map_or (λ t. is_true (value_of (value_in s.values) t.guard)) o false ≡ true
    each None plain = plain
    each (Some t) plain = unguarded-true t.guard (value_in s.values) plain

-- a transition that is offered is there, and can move
offered-there : (ts : List TransitionDefinition) (s : Local) (n : ℕ) → option_map_or (offers s) (slice_get ts n) false ≡ true → (t : TransitionDefinition) × (slice_get ts n ≡ Some t) × (can_move s.marking t ≡ true)
offered-there ts s n offered = each (slice_get ts n) refl
  where
    each : (o : Option TransitionDefinition) → slice_get ts n ≡ o → (t : TransitionDefinition) × (slice_get ts n ≡ Some t) × (can_move s.marking t ≡ true)
    each None none = absurd (false≢true (sym (ap (λ o. option_map_or (offers s) o false) none) ∙ offered))
    each (Some t) there =
        (t, there, (and_parts _ _ (sym (ap (λ o. option_map_or (offers s) o false) there) ∙ offered)).0)

-- so its number is one of a transition
pub offered-within : (ts : List TransitionDefinition) (s : Local) (n : ℕ) → option_map_or (offers s) (slice_get ts n) false ≡ true → n < length ts
offered-within ts s n offered =
    let there = offered-there ts s n offered in
    slice_get_within ts n there.0 there.1

-- and it has an entry
pub offered-below : (a : AtomDefinition) (entries : List Behind) → AreBehind a.ports a.transitions entries → (s : Local) (n : ℕ) → offers_number a s n ≡ true → n < length entries
offered-below a entries right s n offered =
    subst (λ m. n < m) (sym right.number) (offered-within a.transitions s n offered)

-- ---- transition by transition

-- what could move and is kept, what is made, and what is asked and moves, is what can move
after-move : (keep make ask could can : Bool) → (keep ≡ true → can ≡ could) → (make ≡ true → can ≡ true) → ((keep || make || ask) ≡ false → can ≡ false) → (could && keep || make || ask && can) ≡ can
after-move keep make ask could can kept made stopped = grind arith

-- what was offered or could not move is offered if it can move, unless its guard is to be judged and fails
after-guard : (can could plain again was passes : Bool) → (plain ≡ true → passes ≡ true) → (plain ≡ true → was ≡ true) → (again ≡ false → passes ≡ was) → ((((could && was) && can || can && not could) && not ((can && not plain) && (can && not could || again))) || ((can && not plain) && (can && not could || again)) && passes) ≡ (can && passes)
after-guard can could plain again was passes holds held same = grind arith

-- a number is of a transition, or past all
there_or_past : (ts : List TransitionDefinition) (k : ℕ) → ((t : TransitionDefinition) × (slice_get ts k ≡ Some t)) ⊎ (length ts ≤ k)
there_or_past ts k =
    ⊎_elim (λ there. inl (there.0, there.2)) (λ past. inr past.0) (slice_get_cases ts k).1

-- behind a firing of a transition of an atom whose entries are right
module _ (a : AtomDefinition) (width : Width) (few : length a.transitions ≤ bits width) (entries : List Behind) (right : AreBehind a.ports a.transitions entries) (n : ℕ) (b : Behind) (got : slice_get entries n ≡ Some b) where
  abbrev ts : List TransitionDefinition
  ts = a.transitions

  -- the entry has no transition that is not there
  entry-none : (k : ℕ) → length ts ≤ k → (has b.keep k ≡ false) × (has b.make k ≡ false) × (has b.ask k ≡ false) × (has b.again k ≡ false)
  entry-none k past =
      ⊎_elim (λ there. none_of _ _ _ _ ((right.right n there.0 b there.1 got).within k past))
      (λ gone. let below = slice_get_within entries n b got in absurd (omega (arith, right.number, below, gone)))
      (there_or_past ts n)

  -- so its sets fit the width
  fits : (set : ℕ) → ((k : ℕ) → length ts ≤ k → has set k ≡ false) → set < 2 ^ bits width
  fits set none = fits-below (bits width) set (λ k past. none k (omega (arith, few, past)))

  pub keep-fits : b.keep < 2 ^ bits width
  keep-fits = fits b.keep (λ k past. (entry-none k past).0)

  pub make-fits : b.make < 2 ^ bits width
  make-fits = fits b.make (λ k past. (entry-none k past).1)

  pub ask-fits : b.ask < 2 ^ bits width
  ask-fits = fits b.ask (λ k past. (entry-none k past).2)

  pub again-fits : b.again < 2 ^ bits width
  again-fits = fits b.again (λ k past. (entry-none k past).3)

  -- and those that are asked are there
  pub asked-within : (k : ℕ) → has b.ask k ≡ true → k < length ts
  asked-within k asked =
      ⊎_elim (λ below. below) (λ past. absurd (both_ways _ (entry-none k past).2 asked)) (cases_lt k (length ts))

  -- those of them that can move
  has-asked : (marking asked k : ℕ) → asked ≡ set_below (bits width) (λ j. has b.ask j && can_move_number ts marking j) → has asked k ≡ (has b.ask k && can_move_number ts marking k)
  has-asked marking asked k is =
      ap (λ w. has w k) is ∙
      has-passing (bits width) (λ j. has b.ask j && can_move_number ts marking j) k (λ past. let gone : length ts ≤ k = omega arith in and_left _ _ (entry-none k gone).2)

  -- what can move after any firing
  abbrev pub can_word : ℕ → ℕ → ℕ
  can_word could asked = bit_or (bit_or (bit_and could b.keep) b.make) asked

  has-can : (marking could asked k : ℕ) → asked ≡ set_below (bits width) (λ j. has b.ask j && can_move_number ts marking j) → has (can_word could asked) k ≡ (has could k && has b.keep k || has b.make k || has b.ask k && can_move_number ts marking k)
  has-can marking could asked k is =
      has-or (bit_or (bit_and could b.keep) b.make) asked k ∙
      either (has-or (bit_and could b.keep) b.make k ∙ either (has-and could b.keep k) refl) (has-asked marking asked k is)

  -- is there
  pub can-within : (marking could asked k : ℕ) → asked ≡ set_below (bits width) (λ j. has b.ask j && can_move_number ts marking j) → has (can_word could asked) k ≡ true → k < length ts
  can-within marking could asked k is moves =
      ⊎_elim (λ below. below)
      (λ past. let none = entry-none k past in absurd (both_ways _ (has-can marking could asked k is ∙ gone _ _ _ _ _ none.0 none.1 none.2) moves))
      (cases_lt k (length ts))
    where
      gone : (could keep make ask can : Bool) → keep ≡ false → make ≡ false → ask ≡ false → (could && keep || make || ask && can) ≡ false
      gone could keep make ask can nk nm na = grind arith

  module _ (before after : Local) (row : Row) (offered : offers_number a before n ≡ true) (is : after ≡ fired a n row before) where
    abbrev found : (t : TransitionDefinition) × (slice_get ts n ≡ Some t) × (can_move before.marking t ≡ true)
    found = offered-there ts before n offered

    abbrev t : TransitionDefinition
    t = found.0

    behind : IsBehind ts (length ts) t (exports_in a.ports t.port) b
    behind = right.right n t b found.1 got

    after-is : after ≡ fired_by t (exports_in a.ports t.port) row before
    after-is =
        is ∙ ap (λ o. option_map_or (λ u. fired_by u (exports_of a u.port) row before) o before) found.1

    -- what is there of the other transitions
    module _ (k : ℕ) (u : TransitionDefinition) (there : slice_get ts k ≡ Some u) where
      tells : Tells t (exports_in a.ports t.port) u (has b.keep k) (has b.make k) (has b.ask k) (has b.again k)
      tells = behind.told k u (slice_get_within ts k u there) there

      could-there : can_move_number ts before.marking k ≡ can_move before.marking u
      could-there = ap (λ o. option_map_or (can_move before.marking) o false) there

      can-there : can_move_number ts after.marking k ≡ can_move (marking_after t before.marking) u
      can-there =
          ap (λ o. option_map_or (can_move after.marking) o false) there ∙ ap (λ s. can_move s.marking u) after-is

      kept-there : has b.keep k ≡ true → can_move_number ts after.marking k ≡ can_move_number ts before.marking k
      kept-there keep = can-there ∙ tells.kept keep before.marking found.2 ∙ sym could-there

      guard-there : has b.again k ≡ false → passes_guard ts after k ≡ passes_guard ts before k
      guard-there unread =
          ap (λ o. option_map_or (λ v. is_true (value_of (value_in after.values) v.guard)) o false) there ∙
          ap (λ s. is_true (value_of (value_in s.values) u.guard)) after-is ∙
          ap is_true (tells.unread unread before row) ∙
          sym (ap (λ o. option_map_or (λ v. is_true (value_of (value_in before.values) v.guard)) o false) there)

    -- what can move after the firing
    can-behind : (k : ℕ) → (can_move_number ts before.marking k && has b.keep k || has b.make k || has b.ask k && can_move_number ts after.marking k) ≡ can_move_number ts after.marking k
    can-behind k =
        ⊎_elim (λ here. after-move (has b.keep k) (has b.make k) (has b.ask k) _ _ (kept-there k here.0 here.1) (λ make. can-there k here.0 here.1 ∙ (tells k here.0 here.1).made make before.marking) (λ none. can-there k here.0 here.1 ∙ (tells k here.0 here.1).stopped none before.marking))
        (λ past. let none = entry-none k past in after-move (has b.keep k) (has b.make k) (has b.ask k) _ _ (λ keep. absurd (both_ways _ none.0 keep)) (λ make. absurd (both_ways _ none.1 make)) (λ _. not_there (can_move after.marking) ts k past))
        (there_or_past ts k)

    -- a guard that is not to be judged again passes exactly if it did
    guard-behind : (k : ℕ) → has b.again k ≡ false → passes_guard ts after k ≡ passes_guard ts before k
    guard-behind k unread =
        ⊎_elim (λ here. guard-there k here.0 here.1 unread)
        (λ past. not_there (λ v. is_true (value_of (value_in after.values) v.guard)) ts k past ∙ sym (not_there (λ v. is_true (value_of (value_in before.values) v.guard)) ts k past))
        (there_or_past ts k)

    -- so the set of those that can move
    pub movable-behind : (could asked : ℕ) → could ≡ movable_set a before → asked ≡ set_below (bits width) (λ j. has b.ask j && can_move_number ts after.marking j) → can_word could asked ≡ movable_set a after
    movable-behind could asked moved asks =
        same_numbers _ _
        (λ k. has-can after.marking could asked k asks ∙ ap (λ x. x && has b.keep k || has b.make k || has b.ask k && can_move_number ts after.marking k) (ap (λ w. has w k) moved ∙ has-movable a before k) ∙ can-behind k ∙ sym (has-movable a after k))

    -- which fits a word
    pub movable-small : (s : Local) → movable_set a s < 2 ^ bits width
    movable-small s =
        omega (arith, set_below-lt (length ts) (can_move_number ts s.marking), pow_mono few)

    -- and of those that are offered
    module _ (could can old unguarded again passing : ℕ) (moved : could ≡ movable_set a before) (moves : can ≡ movable_set a after) (was : old ≡ offered_set a before) (plain : unguarded ≡ unguarded_set ts) (unread : again ≡ b.again) where
      abbrev newly : ℕ
      newly = bit_and can (bit_not width could)

      abbrev judged : ℕ
      judged = bit_and (bit_and can (bit_not width unguarded)) (bit_or newly again)

      could-small : could < 2 ^ bits width
      could-small = rw moved (movable-small before)

      can-small : can < 2 ^ bits width
      can-small = rw moves (movable-small after)

      unguarded-small : unguarded < 2 ^ bits width
      unguarded-small =
          let below : unguarded < 2 ^ length ts = rw plain (set_below-lt (length ts) (is_unguarded ts)) in
          omega (arith, below, pow_mono few)

      judged-small : judged < 2 ^ bits width
      judged-small =
          omega (arith, can-small, and_le_l can (bit_not width unguarded), and_le_l (bit_and can (bit_not width unguarded)) (bit_or newly again))

      old-small : bit_or (bit_and old can) newly < 2 ^ bits width
      old-small =
          let first : bit_and old can < 2 ^ bits width = omega (arith, can-small, and_le_r old can) in
          let second : newly < 2 ^ bits width = omega (arith, can-small, and_le_l can (bit_not width could)) in
          or_lt (bits width) (bit_and old can) newly first second

      -- what is so of a number before and after
      could-at : (k : ℕ) → has could k ≡ can_move_number ts before.marking k
      could-at k = ap (λ w. has w k) moved ∙ has-movable a before k

      can-at : (k : ℕ) → has can k ≡ can_move_number ts after.marking k
      can-at k = ap (λ w. has w k) moves ∙ has-movable a after k

      newly-at : (k : ℕ) → has newly k ≡ (can_move_number ts after.marking k && not (can_move_number ts before.marking k))
      newly-at k = has-minus width can could k can-small could-small ∙ both (can-at k) (ap not (could-at k))

      judged-at : (k : ℕ) → has judged k ≡ ((can_move_number ts after.marking k && not (is_unguarded ts k)) && (can_move_number ts after.marking k && not (can_move_number ts before.marking k) || has b.again k))
      judged-at k =
          has-and (bit_and can (bit_not width unguarded)) (bit_or newly again) k ∙
          both (has-minus width can unguarded k can-small unguarded-small ∙ both (can-at k) (ap not (ap (λ w. has w k) plain ∙ has-unguarded ts k))) (has-or newly again k ∙ either (newly-at k) (ap (λ w. has w k) unread))

      old-at : (k : ℕ) → has (bit_or (bit_and old can) newly) k ≡ ((can_move_number ts before.marking k && passes_guard ts before k) && can_move_number ts after.marking k || can_move_number ts after.marking k && not (can_move_number ts before.marking k))
      old-at k =
          has-or (bit_and old can) newly k ∙
          either (has-and old can k ∙ both (ap (λ w. has w k) was ∙ has-offered a before k) (can-at k)) (newly-at k)

      passing-at : passing ≡ set_below (bits width) (λ j. has judged j && passes_guard ts after j) → (k : ℕ) → has passing k ≡ (has judged k && passes_guard ts after k)
      passing-at passes k =
          ap (λ w. has w k) passes ∙
          has-passing (bits width) (λ j. has judged j && passes_guard ts after j) k (λ past. and_left _ _ (has-above judged (bits width) k judged-small past))

      pub offered-behind : passing ≡ set_below (bits width) (λ j. has judged j && passes_guard ts after j) → bit_or (bit_and (bit_or (bit_and old can) newly) (bit_not width judged)) passing ≡ offered_set a after
      offered-behind passes =
          same_numbers _ _
          (λ k. has-or (bit_and (bit_or (bit_and old can) newly) (bit_not width judged)) passing k ∙ either (has-minus width (bit_or (bit_and old can) newly) judged k old-small judged-small ∙ both (old-at k) (ap not (judged-at k))) (passing-at passes k ∙ both (judged-at k) refl) ∙ after-guard (can_move_number ts after.marking k) (can_move_number ts before.marking k) (is_unguarded ts k) (has b.again k) (passes_guard ts before k) (passes_guard ts after k) (plain-passes ts after k) (plain-passes ts before k) (guard-behind k) ∙ sym (has-offered a after k))

    -- behind a quiet firing all is as it was
    quiet-can : b.is_quiet ≡ true → (k : ℕ) → can_move_number ts after.marking k ≡ can_move_number ts before.marking k
    quiet-can quiet k =
        ⊎_elim (λ here. kept-there k here.0 here.1 (and_parts _ _ (behind.quiet quiet k (slice_get_within ts k here.0 here.1))).0)
        (λ past. not_there (can_move after.marking) ts k past ∙ sym (not_there (can_move before.marking) ts k past))
        (there_or_past ts k)

    quiet-guard : b.is_quiet ≡ true → (k : ℕ) → passes_guard ts after k ≡ passes_guard ts before k
    quiet-guard quiet k =
        guard-behind k
        (⊎_elim (λ below. not-true _ (and_parts _ _ (behind.quiet quiet k below)).1) (λ past. (entry-none k past).3) (cases_lt k (length ts)))

    pub quiet-movable : b.is_quiet ≡ true → movable_set a after ≡ movable_set a before
    quiet-movable quiet =
        same_numbers _ _ (λ k. has-movable a after k ∙ quiet-can quiet k ∙ sym (has-movable a before k))

    pub quiet-offered : b.is_quiet ≡ true → offered_set a after ≡ offered_set a before
    quiet-offered quiet =
        same_numbers _ _ (λ k. has-offered a after k ∙ both (quiet-can quiet k) (quiet-guard quiet k) ∙ sym (has-offered a before k))
