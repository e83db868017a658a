use Rattle.std.proofs.Common.{◌/◌, ◌%◌, ◌∙◌, ℕ, sym, arith, ⊎_elim}
use Rattle.std.specs.Prelude.{slice_index_or}
use Rattle.std.specs.FinSet.{contains}
use Rattle.std.proofs.lemmas.Bool.{and_from, and_parts, cases_Bool, cases_eq, false≢true, or_cases, or_left, or_right}
use Rattle.petri_atom.proofs.Sets.{has-or}
use Rattle.priority_filter.specs.Members.{has_bit}
use Rattle.priority_filter.proofs.Words.{bit-and}
use Rattle.plant_model.proofs.BitsLeft.{no-bit}
use Rattle.step_core.proofs.Ranked.{below-there, head-inside}
use Rattle.step_core.proofs.SystemConnectors.{interaction-count}
use Rattle.step_core.proofs.standing.over_of.Goals as goal

pub loop-place-init : goal.loop-place-init
loop-place-init c = record {
  some = λ k set. absurd (false≢true (sym (no-bit k) ∙ set));
  all = λ k m below head rival. absurd (omega (arith, below));
}

pub below_heads-over-requires : goal.below_heads-over-requires
below_heads-over-requires c = record {
  heads = λ m here set.
      sym (c.word-in-loop-place.ensures m here) ∙ (and_parts (has_bit c.word.result (m % 64)) (has_bit c.word-in-loop-place.result (m % 64)) (sym (bit-and c.word.result c.word-in-loop-place.result (m % 64)) ∙ set)).1;
}

pub loop-place-preserved : goal.loop-place-preserved
loop-place-preserved c =
    let ranks = c.args.system.now.ranks in
    let before = c.loop-place.invariant in
    let over = c.loop-place.over in
    let rivals = c.word.result in
    let heads = c.word-in-loop-place.result in
    let more = c.below_heads-over.ensures in
    let below : ℕ → ℕ → _ = λ m k. has_bit (slice_index_or ranks.below_head.items m 0) k in
    record {
      some = λ k set. ⊎_elim
          (before.some k)
          (λ told.
          let found = more.some k told in
          let m : ℕ = found.0 in
          let bits = and_parts (has_bit rivals (m % 64)) (has_bit heads (m % 64)) (sym (bit-and rivals heads (m % 64)) ∙ found.2) in
          (m, and_from (contains ranks.heads m) (below m k) (sym (c.word-in-loop-place.ensures m found.1) ∙ bits.1) found.3, sym (c.word.ensures m found.1) ∙ bits.0))
          (or_cases (has_bit over k) (has_bit c.below_heads-over.result k) (sym (has-or over c.below_heads-over.result k) ∙ set));
      all = λ k m low head rival. has-or over c.below_heads-over.result k ∙ ⊎_elim
          (λ here.
          let parts = and_parts (contains ranks.heads m) (below m k) head in
          or_right (has_bit over k) (has_bit c.below_heads-over.result k) (more.all k m here
          (bit-and rivals heads (m % 64) ∙ and_from (has_bit rivals (m % 64)) (has_bit heads (m % 64)) (c.word.ensures m here ∙ rival) (c.word-in-loop-place.ensures m here ∙ parts.0)) parts.1))
          (λ other. or_left (has_bit over k) (has_bit c.below_heads-over.result k) (before.all k m (omega (arith, low, other)) head rival))
          (cases_eq (m / 64) c.loop-place.place);
    }

pub returns : goal.returns
returns c =
    let system = c.args.system.now in
    let told = c.loop-place.invariant in
    record {
      right = λ k n its. (
        told.some k,
        λ head.
            let is_head = (and_parts (contains system.ranks.heads head.0) (has_bit (slice_index_or system.ranks.below_head.items head.0 0) k) head.1).0 in
            told.all k head.0 (omega (arith, head-inside system head.0 is_head, interaction-count system, system.interactions.ok.0, c.len.ensures, c.div_ceil-words.ensures, c.loop-place-test.false)) head.1 head.2,
      );
      within = λ k past. ⊎_elim
          (λ set. let head = told.some k set in absurd (omega (arith, past, below-there system head.0 k head.1)))
          (λ no. no)
          (cases_Bool (has_bit c.loop-place.over k));
    }
