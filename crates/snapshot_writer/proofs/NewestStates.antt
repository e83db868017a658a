-- Which of two states is the newest, before one of them is stored and after it.
use Rattle.std.proofs.Common.{◌≡◌, ◌≢◌, ◌⊎◌, inl, inr, ℕ, zero, suc, ◌-◌, ◌<◌, ◌≤◌, Bool, true, false, if◌then◌else◌, Option, Some, None, IsSomeAnd, refl, sym, ◌∙◌, ap, subst, arith}
use Rattle.std.specs.Option.{option_map_or}
use Rattle.std.proofs.lemmas.Bool.{cases_lt, lt-ltb, le-ltb, true≢false, false≢true}
use Rattle.std.proofs.lemmas.Option.{none-some, same_Some}
use Rattle.record_codec.specs.Saved.{SavedFields}
use Rattle.snapshot_writer.specs.Slots.{is_newer, newest_of, slot_of, IsAbove, IsNotBelow}

-- a newer state is one
newer_is_some : (second first : Option SavedFields) → is_newer second first ≡ true → second ≢ None
newer_is_some None first is = absurd (false≢true is)
newer_is_some (Some saved) first is = λ none. none-some saved (sym none)

-- where the first state is none and the second not newer, the second is none too
none_is_newer : (second first : Option SavedFields) → is_newer second first ≡ false → first ≡ None → second ≡ None
none_is_newer None first is none = refl
none_is_newer (Some saved) None is none = absurd (true≢false is)
none_is_newer (Some saved) (Some other) is none = absurd (none-some other (sym none))

-- whichever is the newest, slot 1 is free where the newest is the first
first_by : (t : Bool) (first second : Option SavedFields) → (t ≡ true → second ≢ None) → ◌≢◌ {A = ℕ} 1 (if t then 1 else 0) ⊎ ((if t then second else first) ≡ None) → (if t then second else first) ≡ first
first_by true first second some (inl ne) = absurd (ne refl)
first_by true first second some (inr none) = absurd (some refl none)
first_by false first second some free = refl

second_by : (t : Bool) (first second : Option SavedFields) → (t ≡ false → first ≡ None → second ≡ None) → ◌≢◌ {A = ℕ} 0 (if t then 1 else 0) ⊎ ((if t then second else first) ≡ None) → (if t then second else first) ≡ second
second_by true first second none free = refl
second_by false first second none (inl ne) = absurd (ne refl)
second_by false first second none (inr is) = is ∙ sym (none refl is)

-- where slot 1 is free the newest is the first, and where slot 0 is it is the second
pub first_is_newest : (first second : Option SavedFields) → ◌≢◌ {A = ℕ} 1 (slot_of first second) ⊎ (newest_of first second ≡ None) → newest_of first second ≡ first
first_is_newest first second free = first_by (is_newer second first) first second (newer_is_some second first) free

pub second_is_newest : (first second : Option SavedFields) → ◌≢◌ {A = ℕ} 0 (slot_of first second) ⊎ (newest_of first second ≡ None) → newest_of first second ≡ second
second_is_newest first second free = second_by (is_newer second first) first second (none_is_newer second first) free

-- the slot that does not hold the newest is free
free_by : (t : Bool) (first second : Option SavedFields) → (t ≡ true → second ≢ None) → (option_map_or (λ (saved : SavedFields). 1 - (if t then 1 else 0)) (if t then second else first) 0 ≢ (if t then 1 else 0)) ⊎ ((if t then second else first) ≡ None)
free_by true first None some = absurd (some refl refl)
free_by true first (Some saved) some = inl (λ same. omega (arith, same))
free_by false None second some = inr refl
free_by false (Some saved) second some = inl (λ same. omega (arith, same))

pub other_is_free : (first second : Option SavedFields) → (option_map_or (λ (saved : SavedFields). 1 - slot_of first second) (newest_of first second) 0 ≢ slot_of first second) ⊎ (newest_of first second ≡ None)
other_is_free first second = free_by (is_newer second first) first second (newer_is_some second first)

other_by : (t : Bool) (o : Option SavedFields) → option_map_or (λ (saved : SavedFields). 1 - (if t then 1 else 0)) o 0 < 2
other_by t None = omega arith
other_by true (Some saved) = omega arith
other_by false (Some saved) = omega arith

pub other_is_slot : (first second : Option SavedFields) → option_map_or (λ (saved : SavedFields). 1 - slot_of first second) (newest_of first second) 0 < 2
other_is_slot first second = other_by (is_newer second first) (newest_of first second)

slot_by : (t : Bool) → (if t then 1 else 0) < 2
slot_by true = omega arith
slot_by false = omega arith

pub slot_is_slot : (first second : Option SavedFields) → slot_of first second < 2
slot_is_slot first second = slot_by (is_newer second first)

-- a state in a slot has no greater count than the newest
abbrev IsReached : SavedFields → Option SavedFields → Type 0
IsReached saved best = IsSomeAnd best (λ (it : SavedFields). saved.count ≤ it.count)

pub first_is_reached : (saved : SavedFields) (first second : Option SavedFields) → first ≡ Some saved → IsReached saved (newest_of first second)
first_is_reached saved None second is = absurd (none-some saved is)
first_is_reached saved (Some a) None is = omega (arith, ap (λ (s : SavedFields). s.count) (same_Some a saved is))
first_is_reached saved (Some a) (Some b) is =
    let count : a.count ≡ saved.count = ap (λ (s : SavedFields). s.count) (same_Some a saved is) in
    elim (cases_lt a.count b.count) [
      | inl less ↦ subst (IsReached saved) (sym (ap (λ (t : Bool). if t then Some b else Some a) (lt-ltb a.count b.count less))) (omega (arith, less, count))
      | inr more ↦ subst (IsReached saved) (sym (ap (λ (t : Bool). if t then Some b else Some a) (le-ltb a.count b.count more))) (omega (arith, count))
    ]

pub second_is_reached : (saved : SavedFields) (first second : Option SavedFields) → second ≡ Some saved → IsReached saved (newest_of first second)
second_is_reached saved first None is = absurd (none-some saved is)
second_is_reached saved None (Some b) is = omega (arith, ap (λ (s : SavedFields). s.count) (same_Some b saved is))
second_is_reached saved (Some a) (Some b) is =
    let count : b.count ≡ saved.count = ap (λ (s : SavedFields). s.count) (same_Some b saved is) in
    elim (cases_lt a.count b.count) [
      | inl less ↦ subst (IsReached saved) (sym (ap (λ (t : Bool). if t then Some b else Some a) (lt-ltb a.count b.count less))) (omega (arith, count))
      | inr more ↦ subst (IsReached saved) (sym (ap (λ (t : Bool). if t then Some b else Some a) (le-ltb a.count b.count more))) (omega (arith, more, count))
    ]

pub either_is_reached : (saved : SavedFields) (slot : ℕ) (held : ℕ → Option SavedFields) → slot < 2 → held slot ≡ Some saved → IsReached saved (newest_of (held 0) (held 1))
either_is_reached saved zero held within is = first_is_reached saved (held 0) (held 1) is
either_is_reached saved (suc zero) held within is = second_is_reached saved (held 0) (held 1) is
either_is_reached saved (suc (suc slot)) held within is = absurd (omega arith)

-- one state alone is the newest
pub alone_in_second : (second : Option SavedFields) → newest_of None second ≡ second
alone_in_second None = refl
alone_in_second (Some saved) = refl

pub alone_in_first : (first : Option SavedFields) → newest_of first None ≡ first
alone_in_first first = refl

-- This state is the newest, in this slot, and the other one has no greater count.
pub record IsIt (saved : SavedFields) (slot : ℕ) (other : Option SavedFields) (first second : Option SavedFields) : Type 0 where
  pub newest_is : newest_of first second ≡ Some saved
  pub slot_is : slot_of first second ≡ slot
  pub above : IsNotBelow saved other

-- with a new state in one slot, the newest is the state in the other slot, or the new one
pub new_in_first : (saved : SavedFields) (second : Option SavedFields) → (newest_of (Some saved) second ≡ second) ⊎ IsIt saved 0 second (Some saved) second
new_in_first saved None = inr (record { newest_is = refl; slot_is = refl; above = tt })
new_in_first saved (Some was) = elim (cases_lt saved.count was.count) [
  | inl less ↦ inl (ap (λ (t : Bool). if t then Some was else Some saved) (lt-ltb saved.count was.count less))
  | inr more ↦ inr (record {
    newest_is = ap (λ (t : Bool). if t then Some was else Some saved) (le-ltb saved.count was.count more);
    slot_is = ap (λ (t : Bool). if t then 1 else 0) (le-ltb saved.count was.count more);
    above = more;
  })
]

pub new_in_second : (saved : SavedFields) (first : Option SavedFields) → (newest_of first (Some saved) ≡ first) ⊎ IsIt saved 1 first first (Some saved)
new_in_second saved None = inr (record { newest_is = refl; slot_is = refl; above = tt })
new_in_second saved (Some was) = elim (cases_lt was.count saved.count) [
  | inl more ↦ inr (record {
    newest_is = ap (λ (t : Bool). if t then Some saved else Some was) (lt-ltb was.count saved.count more);
    slot_is = ap (λ (t : Bool). if t then 1 else 0) (lt-ltb was.count saved.count more);
    above = omega (arith, more);
  })
  | inr less ↦ inl (ap (λ (t : Bool). if t then Some saved else Some was) (le-ltb was.count saved.count less))
]

-- and it is the new one where that has a greater count
pub greater_in_first : (saved : SavedFields) (second : Option SavedFields) → IsAbove saved second → IsIt saved 0 second (Some saved) second
greater_in_first saved None above = record { newest_is = refl; slot_is = refl; above = tt }
greater_in_first saved (Some was) above = record {
  newest_is = ap (λ (t : Bool). if t then Some was else Some saved) (le-ltb saved.count was.count (omega (arith, above)));
  slot_is = ap (λ (t : Bool). if t then 1 else 0) (le-ltb saved.count was.count (omega (arith, above)));
  above = omega (arith, above);
}

pub greater_in_second : (saved : SavedFields) (first : Option SavedFields) → IsAbove saved first → IsIt saved 1 first first (Some saved)
greater_in_second saved None above = record { newest_is = refl; slot_is = refl; above = tt }
greater_in_second saved (Some was) above = record {
  newest_is = ap (λ (t : Bool). if t then Some saved else Some was) (lt-ltb was.count saved.count above);
  slot_is = ap (λ (t : Bool). if t then 1 else 0) (lt-ltb was.count saved.count above);
  above = omega (arith, above);
}
