use Rattle.std.proofs.Common.{◌≡◌, ◌≤◌, ◌∙◌, ℕ, refl, ap, sym, length, true, false, arith, bit_or, ⊎_elim}
use Rattle.std.proofs.lemmas.Bool.{cases_Bool, false≢true, or_from, or_parts}
use Rattle.petri_atom.proofs.Sets.{has-or}
use Rattle.priority_filter.specs.Members.{has_bit}
use Rattle.plant_model.specs.System.{plant_of}
use Rattle.plant_model.proofs.BitsLeft.{no-bit}
use Rattle.step_core.proofs.Ranked.{below-rest-there, below-whole-there, rank-at}
use Rattle.step_core.proofs.Restood.{stands, told}
use Rattle.step_core.proofs.standing.stand_one.Goals.{After-with_bit-now, then-rivalry, else-rivalry}
use Rattle.step_core.proofs.standing.stand_one.Goals as goal

-- a connector that some watched interaction is above is told if one of these is a rival now and was none, or the other way round
seen : (c : After-with_bit-now) (j : ℕ) → has_bit c.index-rank.result.now.below_rest j ≡ true → has_bit c.if-rivalry.reached j ≡ false → c.args.rivalry.now.is_watched_new ≡ false
seen c j below out =
    elim c.if-rivalry.branch [
      | then-rivalry w ↦ absurd (false≢true (sym (sym (ap (λ x. has_bit x j) w.reached-is) ∙ out) ∙ below))
      | else-rivalry w ↦ w.if-rivalry.false
    ]

-- only connectors that are there are told
first-within : (c : After-with_bit-now) (j : ℕ) → length (plant_of c.args.system.now).wires ≤ j → has_bit c.if-rivalry.reached j ≡ false
first-within c j past =
    elim c.if-rivalry.branch [
      | then-rivalry w ↦
          ap (λ x. has_bit x j) w.reached-is ∙
          ⊎_elim
          (λ told. absurd (omega (arith, past, below-rest-there c.args.system.now c.args.connector c.index-rank.result.now (rank-at c.args.system.now c.args.connector c.index-rank.result.now c.requires c.index-rank.ensures) j told)))
          (λ no. no)
          (cases_Bool (has_bit c.index-rank.result.now.below_rest j))
      | else-rivalry w ↦ ap (λ x. has_bit x j) w.reached-is ∙ no-bit j
    ]

pub returns-then-now-live-clause-live : goal.returns-then-now-live-clause-live
returns-then-now-live-clause-live c old new rivalry stood =
    let word = c.with_bit-now in
    stands c.args.system.now c.args.connector old new c.args.live.now word.result rivalry.others stood c.args.rivalry.now.has_rival word.ensures.here word.ensures.others rivalry.some

pub returns-else-now-live-clause-live : goal.returns-else-now-live-clause-live
returns-else-now-live-clause-live c old new rivalry stood =
    let word = c.with_bit-now in
    let live = c.args.live.now in
    let same : word.result ≡ live = c.if-now-live.false in
    stands c.args.system.now c.args.connector old new live live rivalry.others stood c.args.rivalry.now.has_rival (ap (λ x. has_bit x c.args.connector) (sym same) ∙ word.ensures.here) (λ k other. refl) rivalry.some

pub returns-then-now-live-clause-within : goal.returns-then-now-live-clause-within
returns-then-now-live-clause-within c j past =
    let rank = c.index-rank.result.now in
    has-or c.if-rivalry.reached rank.below_whole j ∙
    or_from (has_bit c.if-rivalry.reached j) (has_bit rank.below_whole j) (first-within c.before.before j past)
    (⊎_elim
    (λ told. absurd (omega (arith, past, below-whole-there c.args.system.now c.args.connector rank (rank-at c.args.system.now c.args.connector rank c.requires c.index-rank.ensures) j told)))
    (λ no. no)
    (cases_Bool (has_bit rank.below_whole j)))

pub returns-else-now-live-clause-within : goal.returns-else-now-live-clause-within
returns-else-now-live-clause-within c = first-within c.before

pub returns-then-now-live-clause-told : goal.returns-then-now-live-clause-told
returns-then-now-live-clause-told c old new rivalry stood n j its other out =
    let system = c.args.system.now in
    let rank = c.index-rank.result.now in
    let reached = c.if-rivalry.reached in
    let parts : (k : ℕ) → has_bit (bit_or reached rank.below_whole) k ≡ false → (has_bit reached k ≡ false) × (has_bit rank.below_whole k ≡ false) =
    λ k no. or_parts (has_bit reached k) (has_bit rank.below_whole k) (sym (has-or reached rank.below_whole k) ∙ no) in
    told system c.args.connector old new c.args.live.now c.with_bit-now.result rivalry.others stood
    rank (rank-at system c.args.connector rank c.requires c.index-rank.ensures)
    (returns-then-now-live-clause-live c old new rivalry stood)
    (bit_or reached rank.below_whole)
    (λ k below no. absurd (false≢true (sym (parts k no).1 ∙ below)))
    (λ k below no m own watched. rivalry.same (seen c.before.before k below (parts k no).0) m own watched)
    n j its other out

pub returns-else-now-live-clause-told : goal.returns-else-now-live-clause-told
returns-else-now-live-clause-told c old new rivalry stood n j its other out =
    let system = c.args.system.now in
    let rank = c.index-rank.result.now in
    told system c.args.connector old new c.args.live.now c.args.live.now rivalry.others stood
    rank (rank-at system c.args.connector rank c.requires c.index-rank.ensures)
    (returns-else-now-live-clause-live c old new rivalry stood)
    c.if-rivalry.reached
    (λ k below no. refl)
    (λ k below no m own watched. rivalry.same (seen c.before k below no) m own watched)
    n j its other out
