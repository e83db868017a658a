-- A watched device is stopped at the first of its writes and syncs that fails.
use Rattle.std.proofs.Common.{◌≡◌, inl, inr, ℕ, ◌+◌, ◌-◌, ◌^◌, ◌<◌, ◌≤◌, min, Bool, true, true≢false, List, Result, Ok, Err, OnErr, is_err, sym, ◌∙◌, ap, arith}
use Rattle.disk_model.specs.DiskState.{DiskState, IsUnchanged, Moment, counted, is_pending, moment_of}
use Rattle.disk_model.specs.MemDisk.{AsksChange, AsksNoChange, changes_of, state_of}
use Rattle.disk_model.specs.declared.memory.MemDisk.{MemDisk}
use Rattle.disk_model.specs.Moments.{unchanged_from}
use Rattle.crash_explorer.specs.Watching.{Fails, IsStoppedAt, IsWhole}
use Rattle.crash_explorer.specs.declared.watched.Cut.{Cut}

-- what holds at an error holds of a call that failed
pub err-has : {V E : Type 0} (r : Result V E) (P : Type 0) → is_err r ≡ true → OnErr r P → P
err-has (Ok v) P is holds = absurd (true≢false (sym is))
err-has (Err e) P is holds = holds

-- a call that failed has still failed after one that changed nothing
fails-still : (cut : Cut) (old mid new : DiskState) → IsUnchanged mid new → Fails cut old mid → Fails cut old new
fails-still cut old mid new same (inl (is, unchanged)) = inl (is, unchanged_from old mid new unchanged same)
fails-still cut old mid new same (inr (at, bytes, is, inl unchanged)) = inr (at, bytes, is, inl (unchanged_from old mid new unchanged same))
fails-still cut old mid new same (inr (at, bytes, is, inr (other, long, writes))) = inr (
  at,
  bytes,
  is,
  inr (
    other,
    long,
    record {
      seen = ap (λ (m : Moment). m.seen) same.now ∙ writes.seen;
      pending = λ i. ap (λ (m : Moment). is_pending m i) same.now ∙ writes.pending i;
      past = same.past ∙ writes.past;
    },
  ),
)

-- so a device that was stopped is, after a call that only reads
pub stopped-still : (number : ℕ) (cut : Cut) (old new : MemDisk) → IsUnchanged (state_of old) (state_of new) → AsksNoChange old new → IsStoppedAt number cut old → IsStoppedAt number cut new
stopped-still number cut old new same rest was = record {
  asked = rest.changes ∙ was.asked;
  before = was.before;
  unfailed = was.unfailed;
  made = was.made;
  fails = fails-still cut was.before (state_of old) (state_of new) same was.fails;
}

-- a count that is not at its greatest rose by one
one_more : (was moments is number : ℕ) → was ≡ moments → is ≡ counted true was → is ≡ number → number < 2 ^ 64 - 1 → moments + 1 ≡ number
one_more was moments is number same rose asked few =
    let least : is ≡ min (was + 1) (2 ^ 64 - 1) = rose in
    omega (arith, same, least, asked, few)

-- a device of which no call had failed is stopped at the change that fails
pub stopped-first : (number : ℕ) (cut : Cut) (made : Bool) (last : List ℕ) (old new : MemDisk) → IsWhole old → AsksChange made last old new → changes_of new ≡ number → number < 2 ^ 64 - 1
    → Fails cut (state_of old) (state_of new) → IsStoppedAt number cut new
stopped-first number cut made last old new whole asks asked few fails = record {
  asked = asked;
  before = state_of old;
  unfailed = whole.unfailed;
  made = one_more (changes_of old) (moment_of (state_of old)) (changes_of new) number whole.counted asks.changes asked few;
  fails = fails;
}

-- a count never falls
pub never-falls : (least was is : ℕ) → least ≤ was → least < 2 ^ 64 → is ≡ counted true was → least ≤ is
never-falls least was is behind small rose =
    let more : is ≡ min (was + 1) (2 ^ 64 - 1) = rose in
    omega (arith, behind, small, more)

-- after that its count of changes never comes back to what it was
pub never-again : (was is number : ℕ) → number ≤ was → is ≡ counted true was → is ≡ number → number < 2 ^ 64 - 1 → ⊥
never-again was is number least rose asked few =
    let more : is ≡ min (was + 1) (2 ^ 64 - 1) = rose in
    omega (arith, least, more, asked, few)
