use Rattle.std.proofs.Common.{◌≡◌, ◌<◌, ◌^◌, ◌∙◌, ◌*◌, ℕ, true, ap, sym, arith, length, w64, ⊎_elim}
use Rattle.std.specs.Int.{trailing_zeros}
use Rattle.std.specs.FinSet.{contains}
use Rattle.std.specs.Vec.{vec_len}
use Rattle.std.proofs.lemmas.Bool.{cases_eq, cases_lt, false≢true, or_left, or_right}
use Rattle.std.proofs.lemmas.List.{length-map}
use Rattle.priority_filter.specs.Members.{has_bit}
use Rattle.plant_model.specs.ConnectorRows.{is_of_connector}
use Rattle.plant_model.specs.Interaction.{interaction_of}
use Rattle.plant_model.specs.System.{interactions_in, plant_of}
use Rattle.plant_model.proofs.OfInteractions.{within-limits}
use Rattle.plant_model.proofs.WithoutLowest.{fewer-less}
use Rattle.plant_model.proofs.BitsLeft.{fewer-in, fewer-out, lowest-set, no-bit}
use Rattle.step_core.proofs.ConnectorsOf.{of-connector-within, own-row}
use Rattle.step_core.proofs.sure.interactions_of.Goals as goal

pub index-requires : goal.index-requires
index-requires c =
    let left = c.loop-left.left in
    let some : 0 < left = omega (arith, c.loop-left-test.true) in
    let low = trailing_zeros w64 left in
    let system = c.args.system.now in
    ⊎_elim
    (λ within. within)
    (λ past. absurd (false≢true (
    sym (c.requires low (omega (arith, past, system.in_rows.as_many, system.connector_rows.ok.0))) ∙ c.loop-left.invariant.part low (lowest-set left some (omega arith)))))
    (cases_lt low (vec_len system.connector_rows))

pub loop-left-smaller : goal.loop-left-smaller
loop-left-smaller c = fewer-less w64 c.loop-left.left (omega (arith, c.loop-left-test.true)) (omega arith)

pub loop-left-preserved : goal.loop-left-preserved
loop-left-preserved c =
    let system = c.args.system.now in
    let left = c.loop-left.left in
    let some : 0 < left = omega (arith, c.loop-left-test.true) in
    let small : left < 2 ^ 64 = omega arith in
    let low = trailing_zeros w64 left in
    let row = c.index.result.now in
    let all = c.loop-left.all in
    let before = c.loop-left.invariant in
    let within : low < length system.connector_rows.items =
    ⊎_elim
    (λ within. within)
    (λ past. absurd (false≢true (sym (c.requires low (omega (arith, past, system.in_rows.as_many))) ∙ before.part low (lowest-set left some small))))
    (cases_lt low (length system.connector_rows.items)) in
    let low_number : (n k : ℕ) → is_of_connector (interactions_in system) k n ≡ true → n < 64 * c.div_ceil-words.result =
    λ n k its. omega (arith, of-connector-within (interactions_in system) k n its, length-map system.interactions.items interaction_of, c.div_ceil-words.ensures) in
    record {
      part = λ k inside. before.part k (fewer-in left some small k inside);
      put = λ n k its inside out.
          c.union_words.ensures.within n (low_number n k its) ∙
          ⊎_elim
          (λ same. or_right (contains all n) (contains row.own n) (own-row system low row within c.index.ensures n ∙ ap (λ j. is_of_connector (interactions_in system) j n) (sym same) ∙ its))
          (λ other. or_left (contains all n) (contains row.own n) (before.put n k its inside (fewer-out left some small k other out)))
          (cases_eq k low);
    }

pub returns : goal.returns
returns c n k its inside =
    c.loop-left.invariant.put n k its inside (ap (λ w. has_bit w k) c.loop-left-test.false ∙ no-bit k)

pub union_words-requires : goal.union_words-requires
union_words-requires c =
    let system = c.args.system.now in
    omega (arith, c.div_ceil-words.ensures, length-map system.interactions.items interaction_of, ap length system.listed, (within-limits (plant_of system) system.valid).interactions)
