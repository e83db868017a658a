-- Counts of a few calls, one after the other.
use Rattle.std.proofs.Common.{◌≡◌, ℕ, zero, suc, ◌+◌, ◌≤◌, Bool, true, false, Result, Ok, Err, is_ok, is_err, ⊎_elim, refl, sym, ◌∙◌, ap, arith}
use Rattle.disk_model.specs.DiskState.{DiskState, Counts, CountsTwo, CountsUpTo, counted, counted_times}

-- so many syncs, and then so many more
times_then : (x y z n : ℕ) → z ≡ x + y → counted_times z n ≡ counted_times y (counted_times x n)
times_then zero y z n is = let same : z ≡ y = omega arith in ap (λ (k : ℕ). counted_times k n) same
times_then (suc x) y zero n is = absurd (omega arith)
times_then (suc x) y (suc z) n is = times_then x y z (counted true n) (omega arith)

-- a call of no sync
pub up_to_none : (failed : Bool) (old new : DiskState) → Counts failed false old new → CountsUpTo failed 0 old new
up_to_none failed old new c = record { size = c.size; keeps = c.keeps; failures = c.failures; synced = 0; few = omega arith; syncs = c.syncs }

-- a call of one sync at most
pub up_to_one : (failed synced : Bool) (old new : DiskState) → Counts failed synced old new → CountsUpTo failed 1 old new
up_to_one failed true old new c = record { size = c.size; keeps = c.keeps; failures = c.failures; synced = 1; few = omega arith; syncs = c.syncs }
up_to_one failed false old new c = record { size = c.size; keeps = c.keeps; failures = c.failures; synced = 0; few = omega arith; syncs = c.syncs }

-- a call of two
pub up_to_two : {V E : Type 0} (r : Result V E) (old new : DiskState) → CountsTwo (is_ok r) old new → CountsUpTo (is_err r) 2 old new
up_to_two (Ok v) old new c = record { size = c.size; keeps = c.keeps; failures = c.failures; synced = 2; few = omega arith; syncs = c.ok_syncs refl }
up_to_two (Err e) old new c = ⊎_elim
    (λ none. record { size = c.size; keeps = c.keeps; failures = c.failures; synced = 0; few = omega arith; syncs = none })
    (λ one. record { size = c.size; keeps = c.keeps; failures = c.failures; synced = 1; few = omega arith; syncs = one })
    (c.err_syncs refl)

-- one run after another, of which the first did not fail
pub up_to_then : (failed : Bool) (a b : ℕ) (old mid new : DiskState) → CountsUpTo false a old mid → CountsUpTo failed b mid new → CountsUpTo failed (a + b) old new
up_to_then failed a b old mid new first second = record {
  size = second.size ∙ first.size;
  keeps = second.keeps ∙ first.keeps;
  failures = second.failures ∙ ap (λ (n : ℕ). counted failed n) first.failures;
  synced = first.synced + second.synced;
  few = omega (arith, first.few, second.few);
  syncs = second.syncs ∙ ap (λ (n : ℕ). counted_times second.synced n) first.syncs ∙ sym (times_then first.synced second.synced (first.synced + second.synced) old.syncs refl);
}

-- as many syncs at most are also at most more
pub up_to_more : (failed : Bool) (a b : ℕ) (old new : DiskState) → a ≤ b → CountsUpTo failed a old new → CountsUpTo failed b old new
up_to_more failed a b old new le c = record { size = c.size; keeps = c.keeps; failures = c.failures; synced = c.synced; few = omega (arith, le, c.few); syncs = c.syncs }
