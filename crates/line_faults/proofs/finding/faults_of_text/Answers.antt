use Rattle.std.proofs.Common.{◌≡◌, ◌∙◌, ap, sym, ◌+◌, ◌-◌, ◌++◌, ◌∷◌, [], Some, None}
use Rattle.std.proofs.lemmas.List.{with_items_is}
use Rattle.std.specs.Vec.{with_items}
use Rattle.line_faults.specs.Blank.{without_line}
use Rattle.line_faults.specs.Faults.{fault_in, faults_in}
use Rattle.line_faults.proofs.Behind.{no_fault_left, last_fault, one_fault_more, no_more_faults}
use Rattle.line_faults.proofs.finding.faults_of_text.Goals as goal

pub returns-in-None : goal.returns-in-None
returns-in-None c =
    let none : None ≡ fault_in c.loop-round.rest.items = sym c.in-None.is ∙ c.in_ok-fault.ensures ∙ ap fault_in c.deref.ensures.value in
    no_fault_left c.args.most c.loop-round._round c.loop-round.rest.items c.loop-round.faults.items _ c.loop-round-test.true none c.loop-round.invariant

pub returns-then-fault-eq0 : goal.returns-then-fault-eq0
returns-then-fault-eq0 c =
    let found : Some c.in-Some.fault ≡ fault_in c.loop-round.rest.items = sym c.in-Some.is ∙ c.in_ok-fault.ensures ∙ ap fault_in c.deref.ensures.value in
    c.in_ok-push.ensures.items ∙
    last_fault c.args.most c.loop-round._round c.loop-round.rest.items c.in-Some.fault c.loop-round.faults.items _ c.loop-round-test.true found c.if-fault-eq0.true c.loop-round.invariant

pub loop-round-preserved : goal.loop-round-preserved
loop-round-preserved c =
    let found : Some c.in-Some.fault ≡ fault_in c.loop-round.rest.items = sym c.in-Some.is ∙ c.in_ok-fault.ensures ∙ ap fault_in c.deref.ensures.value in
    let items : (with_items c.loop-round.rest c.blank_line.new.text).items ≡ without_line c.in-Some.fault.line c.loop-round.rest.items =
    with_items_is c.loop-round.rest c.blank_line.new.text (c.blank_line.auto.text ∙ c.deref_mut.ensures.len) ∙
    c.blank_line.ensures ∙ ap (without_line c.in-Some.fault.line) c.deref_mut.ensures.value in
    ap (λ found. found ++ faults_in (c.args.most - (c.loop-round._round + 1)) (with_items c.loop-round.rest c.blank_line.new.text).items) c.in_ok-push.ensures.items ∙
    ap (λ text. (c.loop-round.faults.items ++ c.in-Some.fault ∷ []) ++ faults_in (c.args.most - (c.loop-round._round + 1)) text) items ∙
    one_fault_more c.args.most c.loop-round._round c.loop-round.rest.items c.in-Some.fault c.loop-round.faults.items _ c.loop-round-test.true found c.if-fault-eq0.false c.loop-round.invariant

pub returns : goal.returns
returns c = no_more_faults c.args.most c.loop-round._round c.loop-round.rest.items c.loop-round.faults.items _ c.loop-round-test.false c.loop-round.invariant
