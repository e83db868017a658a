-- The first change that fails is the one at which the device was stopped; a later one is another.
use Rattle.std.proofs.Common.{rules, ◌≡◌, None, inl, refl, sym, ◌∙◌, subst}
use Rattle.std.proofs.lemmas.Option.{same_Some}
use Rattle.disk_model.specs.MemDisk.{changes_of}
use Rattle.crash_explorer.specs.Watching.{IsStoppedAt}
use Rattle.crash_explorer.specs.declared.watched.Cut.{Cut}
use Rattle.crash_explorer.specs.declared.watched.Cut.TheVariants.{Sync}
use Rattle.crash_explorer.proofs.FirstFailures.{err-has, never-again, never-falls, stopped-first}
use Rattle.crash_explorer.proofs.watched.WatchedDisk.sync.Goals as goal

pub invariant_of-self-clause-stopped : goal.invariant_of-self-clause-stopped
invariant_of-self-clause-stopped c = λ cut is few same.
    let self = c.args.self.now in
    let made = c.sync-synced in
    let number = c.changes-self.result in
    let none : self.cut ≡ None = search rules in
    let failed = err-has made.result _ (sym c.is_err.ensures.value ∙ c.if-is_err.true) (made.ensures.err refl) in
    subst (λ (x : Cut). ∥ IsStoppedAt number x made.new.self ∥₁) (same_Some Sync cut is)
    ∣ stopped-first number Sync _ _ self.disk made.new.self (self.whole none) made.ensures.rest same few (inl (refl, failed)) ∣₁

pub invariant_of-self-else-is_none-clause-stopped : goal.invariant_of-self-else-is_none-clause-stopped
invariant_of-self-else-is_none-clause-stopped c = λ cut is few same.
    absurd (never-again _ _ c.args.self.now.asked c.args.self.now.since c.sync-synced.ensures.rest.changes same few)

pub invariant_of-self-else-is_err-clause-stopped : goal.invariant_of-self-else-is_err-clause-stopped
invariant_of-self-else-is_err-clause-stopped c = λ cut is few same.
    absurd (never-again _ _ c.args.self.now.asked c.args.self.now.since c.sync-synced.ensures.rest.changes same few)

pub invariant_of-self-else-is_none-clause-since : goal.invariant_of-self-else-is_none-clause-since
invariant_of-self-else-is_none-clause-since c =
    let self = c.args.self.now in
    never-falls self.asked (changes_of self.disk) (changes_of c.sync-synced.new.self) self.since self.counted c.sync-synced.ensures.rest.changes

pub invariant_of-self-else-is_err-clause-since : goal.invariant_of-self-else-is_err-clause-since
invariant_of-self-else-is_err-clause-since c =
    let self = c.args.self.now in
    never-falls self.asked (changes_of self.disk) (changes_of c.sync-synced.new.self) self.since self.counted c.sync-synced.ensures.rest.changes
