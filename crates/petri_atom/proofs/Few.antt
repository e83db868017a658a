-- The sets of an atom with at most 64 transitions, as words of 64 bits.
use Rattle.std.proofs.Common.{◌≡◌, ℕ, ◌+◌, ◌%◌, ◌^◌, ◌<◌, ◌≤◌, Bool, true, ◌&&◌, sym, ◌∙◌, ap, arith, List, length, Some, mod-eq_of_lt, refl}
use Rattle.std.specs.Prelude.{bit_and, bit_or, bit_xor, slice_get}
use Rattle.std.specs.Int.{bit_not, w64}
use Rattle.std.proofs.Math.Pow.{pow_mono}
use Rattle.std.proofs.lemmas.Bool.{and_parts}
use Rattle.std.proofs.lemmas.Nat.{and_le_l}
use Rattle.petri_atom.specs.Behind.{AreBehind, movable_set}
use Rattle.petri_atom.specs.Definition.{AtomDefinition, TransitionDefinition, fired, offered_set, offers_number}
use Rattle.petri_atom.specs.Groups.{can_move_number, is_turned_number, is_unguarded, passes_bare, turned_set, unguarded_set}
use Rattle.petri_atom.specs.Local.{Local, Row, has, set_below}
use Rattle.petri_atom.specs.declared.behind.Behind.{Behind}
use Rattle.petri_atom.proofs.Guards.{unguarded-is}
use Rattle.petri_atom.proofs.Judging.{again-fits, ask-fits, asked-within, can-within, keep-fits, make-fits, movable-behind, offered-behind}
use Rattle.petri_atom.proofs.Lists.{both}
use Rattle.petri_atom.proofs.Sets.{has-and, has-set_below, set_below-is, set_below-lt}

-- a set of the numbers of transitions that are there fits the word
pub set-fits : (ts : List TransitionDefinition) (test : ℕ → Bool) → length ts ≤ 64 → set_below (length ts) test < 2 ^ 64
set-fits ts test few = omega (arith, set_below-lt (length ts) test, pow_mono few)

-- so its lower word is all of it
pub low-same : (ts : List TransitionDefinition) (test : ℕ → Bool) (set low : ℕ) → length ts ≤ 64 → low ≡ set % 2 ^ 64 → set ≡ set_below (length ts) test → low ≡ set_below (length ts) test
low-same ts test set low few is same =
    is ∙ ap (λ x. x % 2 ^ 64) same ∙ mod-eq_of_lt (set-fits ts test few)

-- the numbers from 0 on are all
pub from-zero : (bound set other : ℕ) (f : ℕ → Bool) → set ≡ other → set_below bound (λ k. has set k && f (0 + k)) ≡ set_below bound (λ k. has other k && f k)
from-zero bound set other f same =
    set_below-is bound _ (λ k. has other k && f k) (set_below-lt bound _)
    (λ k below. let zero : 0 + k ≡ k = omega arith in has-set_below bound (λ j. has set j && f (0 + j)) k below ∙ both (ap (λ x. has x k) same) (ap f zero))

-- behind a firing of a transition
module _ (a : AtomDefinition) (few : length a.transitions ≤ 64) (entries : List Behind) (right : AreBehind a.ports a.transitions entries) (n : ℕ) (b : Behind) (got : slice_get entries n ≡ Some b) where
  -- those that are asked
  module _ (ask : ℕ) (ask-is : ask ≡ b.ask % 2 ^ 64) where
    ask-same : ask ≡ b.ask
    ask-same = ask-is ∙ mod-eq_of_lt (ask-fits a w64 few entries right n b got)

    pub asked-there : (k : ℕ) → has ask k ≡ true → k < length a.transitions
    asked-there k inside =
        asked-within a w64 few entries right n b got k (sym (ap (λ x. has x k) ask-same) ∙ inside)

    pub asked-same : (marking asked : ℕ) → asked ≡ set_below 64 (λ k. has ask k && can_move_number a.transitions marking k) → asked ≡ set_below 64 (λ k. has b.ask k && can_move_number a.transitions marking k)
    asked-same marking asked is =
        is ∙ ap (λ x. set_below 64 (λ k. has x k && can_move_number a.transitions marking k)) ask-same

  -- those that can move
  module _ (could keep make asked : ℕ) (keep-is : keep ≡ b.keep % 2 ^ 64) (make-is : make ≡ b.make % 2 ^ 64) where
    abbrev can : ℕ
    can = bit_or (bit_or (bit_and could keep) make) asked

    can-same : can ≡ bit_or (bit_or (bit_and could b.keep) b.make) asked
    can-same =
        ap (λ x. bit_or (bit_or (bit_and could x) make) asked) (keep-is ∙ mod-eq_of_lt (keep-fits a w64 few entries right n b got)) ∙
        ap (λ x. bit_or (bit_or (bit_and could b.keep) x) asked) (make-is ∙ mod-eq_of_lt (make-fits a w64 few entries right n b got))

    -- those of them that are judged are there
    pub judged-there : (marking guarded again : ℕ) → asked ≡ set_below 64 (λ k. has b.ask k && can_move_number a.transitions marking k) → (k : ℕ) → has (bit_and (bit_and can guarded) again) k ≡ true → 0 + k < length a.transitions
    judged-there marking guarded again asks k inside =
        let first = (and_parts _ _ (sym (has-and (bit_and can guarded) again k) ∙ inside)).0 in
        let moves = (and_parts _ _ (sym (has-and can guarded k) ∙ first)).0 in
        let there = can-within a w64 few entries right n b got marking could asked k asks (sym (ap (λ x. has x k) can-same) ∙ moves) in
        omega (arith, there)

    module _ (before after : Local) (row : Row) (offered : offers_number a before n ≡ true) (is : after ≡ fired a n row before) (moved : could ≡ movable_set a before) (asks : asked ≡ set_below 64 (λ k. has b.ask k && can_move_number a.transitions after.marking k)) where
      pub movable-few : can ≡ movable_set a after
      movable-few =
          can-same ∙ movable-behind a w64 few entries right n b got before after row offered is could asked moved asks

      -- and those that are offered
      module _ (old all unguarded every turned again holding : ℕ) (was : old ≡ offered_set a before) (low-is : unguarded ≡ all % 2 ^ 64) (plain : all ≡ unguarded_set a.transitions) (turned-is : turned ≡ every % 2 ^ 64) (turns : every ≡ turned_set a.transitions) (again-is : again ≡ b.again % 2 ^ 64) where
        abbrev newly : ℕ
        newly = bit_and can (bit_not w64 could)

        abbrev judged : ℕ
        judged = bit_and (bit_and can (bit_not w64 unguarded)) (bit_or newly again)

        small : judged < 2 ^ 64
        small =
            let moves : can < 2 ^ 64 = rw movable-few (set-fits a.transitions (can_move_number a.transitions after.marking) few) in
            omega (arith, moves, and_le_l can (bit_not w64 unguarded), and_le_l (bit_and can (bit_not w64 unguarded)) (bit_or newly again))

        pub offered-few : holding ≡ set_below 64 (λ k. has judged k && passes_bare a.transitions after (0 + k)) → bit_or (bit_and (bit_or (bit_and old can) newly) (bit_not w64 judged)) (bit_and judged (bit_xor holding turned)) ≡ offered_set a after
        offered-few holds =
            offered-behind a w64 few entries right n b got before after row offered is could can old unguarded again (bit_and judged (bit_xor holding turned)) moved movable-few was
            (low-same a.transitions (is_unguarded a.transitions) all unguarded few low-is plain)
            (again-is ∙ mod-eq_of_lt (again-fits a w64 few entries right n b got))
            (unguarded-is a.transitions after 64 judged holding turned few small (holds ∙ from-zero 64 judged judged (passes_bare a.transitions after) refl) (low-same a.transitions (is_turned_number a.transitions) every turned few turned-is turns))
