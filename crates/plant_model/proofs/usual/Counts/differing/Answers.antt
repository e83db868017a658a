use Rattle.std.proofs.Common.{◌≡◌, ◌<◌, ◌∙◌, ℕ, Bool, false, ap, sym, map, arith}
use Rattle.std.specs.List.{list_any}
use Rattle.std.specs.Option.{option_map_or}
use Rattle.std.proofs.lemmas.List.{length-map}
use Rattle.std.proofs.lemmas.Option.{slice_get_past}
use Rattle.priority_filter.specs.Members.{has_bit}
use Rattle.plant_model.specs.Usual.{has_other, is_other}
use Rattle.plant_model.proofs.Putting.{lent-at}
use Rattle.plant_model.proofs.Reaching.{bit-added, bit-passed, bits-over}
use Rattle.plant_model.proofs.usual.Counts.differing.Goals as goal
use Rattle.plant_model.proofs.usual.Counts.differing.Goals.{then-has_other, else-has_other}

pub loop-number-preserved : goal.loop-number-preserved
loop-number-preserved c k =
    let own = c.args.self.now in
    let ports = c.args.ports.now in
    let n = c.loop-number.number in
    let word = c.loop-number.connectors in
    let all = map (λ list. list.items) ports in
    let test : ℕ → Bool = has_other c.args.most own.atom own.before own.after all in
    let there = lent-at (λ list. list.items) ports n c.index-ports-number.result c.deref.result.now c.loop-number-test.true c.index-ports-number.is c.deref.ensures.value in
    let its : test n ≡ c.has_other.result =
    ap (λ o. option_map_or (list_any (is_other c.args.most own.atom own.before own.after)) o false) there ∙ sym c.has_other.ensures in
    let low : n < 64 = omega (arith, c.loop-number-test.true, c.requires) in
    elim c.if-has_other.branch [
      | then-has_other w ↦ ap (λ x. has_bit x k) w.connectors-is ∙ bit-added word n test c.loop-number.invariant low (its ∙ w.if-has_other.true) k
      | else-has_other w ↦ ap (λ x. has_bit x k) w.connectors-is ∙ bit-passed word n test c.loop-number.invariant (its ∙ w.if-has_other.false) k
    ]

pub returns : goal.returns
returns c =
    let own = c.args.self.now in
    let all = map (λ list. list.items) c.args.ports.now in
    bits-over c.loop-number.connectors c.loop-number.number (has_other c.args.most own.atom own.before own.after all) c.loop-number.invariant
    (λ k past. ap (λ o. option_map_or (list_any (is_other c.args.most own.atom own.before own.after)) o false)
    (slice_get_past all k (omega (arith, past, length-map c.args.ports.now (λ list. list.items), c.loop-number-test.false))))
