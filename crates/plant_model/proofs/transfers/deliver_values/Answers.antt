use Rattle.std.proofs.Common.{◌≡◌, ◌<◌, ◌∙◌, ℕ, ap, sym, map, get_or, length, arith, ⊎_elim}
use Rattle.std.proofs.lemmas.Bool.{cases_eq, eq-eqb, false≢true}
use Rattle.std.specs.Prelude.{Some, slice_get, vec_len}
use Rattle.std.proofs.lemmas.List.{get_or-map, length-map, take_all}
use Rattle.std.proofs.lemmas.Option.{get_or_from_slice_get}
use Rattle.plant_model.specs.BoundExpressions.{delivery_of, given_for, has_all}
use Rattle.plant_model.specs.declared.delivery.Delivery.{Delivery}
use Rattle.plant_model.specs.declared.delivery.MadeValues.{MadeValues}
use Rattle.plant_model.proofs.Pushed.{some-at}
use Rattle.plant_model.proofs.ValueRows.{delivered-more, delivered-same}
use Rattle.plant_model.proofs.transfers.deliver_values.Goals as goal
use Rattle.plant_model.proofs.transfers.deliver_values.Goals.{then-has_all, else-has_all}

-- there are as many leaves as transfers, and those of each stand at its number
module _ (values : MadeValues) where
  as-many : vec_len values.leaves ≡ length values.all.items
  as-many = omega (arith, values.leaves.ok.0, ap length values.same_leaves, length-map values.all.items (λ d. d.leaves))

  leaves-at : (n leaves : ℕ) (t : Delivery) → n < length values.all.items → leaves ≡ get_or values.leaves.items n leaves → t ≡ get_or values.all.items n t → leaves ≡ t.leaves
  leaves-at n leaves t within read is =
      read ∙ ap (λ xs. get_or xs n leaves) values.same_leaves ∙ get_or-map (λ d. d.leaves) values.all.items n t leaves within ∙ ap (λ (d : Delivery). d.leaves) (sym is)

pub loop-number-init : goal.loop-number-init
loop-number-init c = (
  λ place m there first. c.requires.nothing place m there,
  ⊎_elim (λ none. absurd (false≢true (sym c.if-is_empty.false ∙ c.is_empty.ensures ∙ eq-eqb (length c.args.moves.now) 0 none))) (λ some. omega (arith, some)) (cases_eq (length c.args.moves.now) 0),
)

pub loop-number-preserved : goal.loop-number-preserved
loop-number-preserved c =
    let values = c.args.values.now in
    let all = values.all.items in
    let states = c.args.states.now in
    let mask = c.args.mask in
    let n = c.loop-number.number in
    let within : n < length all = omega (arith, c.loop-number-test.true, c.len-number-end.ensures, as-many values) in
    let so_far = c.loop-number.invariant.0 in
    elim c.if-has_all.branch [
      | then-has_all w ↦
          let item = w.index-then-has_all.result.now in
          let its : item ≡ get_or all n item = w.index-then-has_all.ensures in
          let applies = ap (has_all mask) (sym (leaves-at values n c.index.result.now item within c.index.ensures its)) ∙ sym c.has_all.ensures ∙ w.if-has_all.true in (
            delivered-more states all mask n item within its c.args.moves.now c.loop-number.delivered c.if-has_all.delivered so_far applies (λ place m row there first old. ap (λ ds. slice_get ds place) w.delivered-is ∙ w.deliver_one-place.ensures.given place m row there first old),
            omega (arith, w.place-is, w.deliver_one-place.ensures.place),
          )
      | else-has_all w ↦
          let found = some-at all n within in
          let its : found.0 ≡ get_or all n found.0 = sym (get_or_from_slice_get all n found.0 found.0 found.1) in
          let applies_not = ap (has_all mask) (sym (leaves-at values n c.index.result.now found.0 within c.index.ensures its)) ∙ sym c.has_all.ensures ∙ w.if-has_all.false in (
            delivered-same states all mask n found.0 within its c.args.moves.now c.loop-number.delivered c.if-has_all.delivered so_far applies_not w.delivered-is,
            omega (arith, w.place-is, c.loop-number.invariant.1),
          )
    ]

pub returns : goal.returns
returns c place m there first =
    let values = c.args.values.now in
    let all = values.all.items in
    c.loop-number.invariant.0 place m there first ∙
    ap (λ ds. Some (given_for c.args.states.now (map delivery_of ds) c.args.mask m.atom)) (take_all c.loop-number.number all (omega (arith, c.loop-number-test.false, c.len-number-end.ensures, as-many values)))
