use Rattle.std.proofs.Common.{◌≡◌, ◌+◌, ◌-◌, ℕ, replicate, sym, ◌∙◌, ap, arith}
use Rattle.std.proofs.lemmas.List.{get_or-replicate}
use Rattle.plant_model.specs.declared.limits.TheConstants.{MAX_ATOMS}
use Rattle.record_replay.specs.Records.{count_of}
use Rattle.plant_image.specs.Contents.{most_by}
use Rattle.plant_image.proofs.counts.most_firings.Goals as goal

pub loop-place-init : goal.loop-place-init
loop-place-init c = λ atom below.
    let first : count_of (replicate MAX_ATOMS (c.args.base - 1)) atom ≡ c.args.base - 1 = get_or-replicate MAX_ATOMS atom (c.args.base - 1) 0 below in
    let here : c.args.base + 0 ≡ c.args.base = omega arith in
    sym (ap (λ (m : ℕ). most_by atom m (c.args.base + 0) c.args.records.now) first ∙ ap (λ (n : ℕ). most_by atom (c.args.base - 1) n c.args.records.now) here)
