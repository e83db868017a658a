use Rattle.std.proofs.Common.{◌<◌, ◌-◌, ◌∙◌, sym, ap, [], ◌∷◌, ◌++◌, arith}
use Rattle.std.proofs.lemmas.Result.{err_from_is_err_and}
use Rattle.atom_lines.specs.Draft.{drafted}
use Rattle.atom_lines.specs.Transitions.{updates_from}
use Rattle.atom_lines.proofs.Making.{one_more_is_made}
use Rattle.atom_lines.proofs.Updates.{one_update_too_many, fault_in_update, fault_after_update, updates_after_update}
use Rattle.atom_lines.proofs.draft.AtomDraft.read_update_list.Goals as goal

pub returns-then-left-eq0-clause-fault : goal.returns-then-left-eq0-clause-fault
returns-then-left-eq0-clause-fault c =
    let seen = c.loop-more.invariant in
    sym seen.so_far ∙ ap (λ more. updates_from (drafted c.args.self.now) c.loop-more.left seen.before more c.loop-more.words) c.loop-more-test.true
    ∙ one_update_too_many (drafted c.args.self.now) c.loop-more.left seen.before c.loop-more.words c.if-left-eq0.true

pub returns-in_err-update-clause-fault : goal.returns-in_err-update-clause-fault
returns-in_err-update-clause-fault c =
    let seen = c.loop-more.invariant in
    let some : 0 < c.loop-more.left = omega arith in
    let p = err_from_is_err_and c.from_residual.result c.from_residual.ensures.1 in
    rw (p.1, p.2) (sym seen.so_far ∙ ap (λ more. updates_from (drafted c.args.self.now) c.loop-more.left seen.before more c.loop-more.words) c.loop-more-test.true
    ∙ fault_in_update (drafted c.args.self.now) c.loop-more.left seen.before c.loop-more.words c.in_err-update.field-0.0 some c.in_err-update.ensures.fault)

pub returns-in_err-more-clause-fault : goal.returns-in_err-more-clause-fault
returns-in_err-more-clause-fault c =
    let seen = c.loop-more.invariant in
    let read = c.in_ok-update.ensures.update in
    let some : 0 < c.loop-more.left = omega arith in
    let p = err_from_is_err_and c.from_residual-in_err-more.result c.from_residual-in_err-more.ensures.1 in
    rw (p.1, p.2) (sym seen.so_far ∙ ap (λ more. updates_from (drafted c.args.self.now) c.loop-more.left seen.before more c.loop-more.words) c.loop-more-test.true
    ∙ fault_after_update (drafted c.args.self.now) c.loop-more.left seen.before c.loop-more.words read.value c.read_update.new.words c.in_err-more.field-0.0 some read.says (sym c.in_err-more.ensures.goes_on))

pub loop-more-preserved : goal.loop-more-preserved
loop-more-preserved c =
    let seen = c.loop-more.invariant in
    let read = c.in_ok-update.ensures.update in
    let some : 0 < c.loop-more.left = omega arith in
    record {
      before = seen.before ++ read.value ∷ [];
      are_made = one_more_is_made seen.before read.value c.loop-more.updates c.with_update-updates.result c.in_ok-update.update seen.are_made read.is_made c.with_update-updates.ensures;
      so_far = ap (updates_from (drafted c.args.self.now) (c.loop-more.left - 1) (seen.before ++ read.value ∷ []) c.in_ok-more.more) c.in_ok-more.ensures.taken
          ∙ sym (updates_after_update (drafted c.args.self.now) c.loop-more.left seen.before c.loop-more.words read.value c.read_update.new.words c.in_ok-more.more some read.says (sym c.in_ok-more.ensures.goes_on))
          ∙ sym (ap (λ more. updates_from (drafted c.args.self.now) c.loop-more.left seen.before more c.loop-more.words) c.loop-more-test.true)
          ∙ seen.so_far;
    }
