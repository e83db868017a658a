use Rattle.std.proofs.Common.{ℕ, not, ltb, nat_eq, slice_index_or, bit_and, sym, ap, ◌∙◌, arith}
use Rattle.std.proofs.lemmas.Bool.{false≢true, both_ways, le-ltb, ne_eqb}
use Rattle.std.proofs.lemmas.Nat.{and_le_l}
use Rattle.priority_filter.proofs.CommonMembers.{in_both_from_word, none_in_both_at}
use Rattle.priority_filter.proofs.MemberLaws.{held, holds_within}
use Rattle.priority_filter.proofs.interaction_set.InteractionSet.meets_at.Goals as goal

pub returns-then-place-lt-ROW_WORDS : goal.returns-then-place-lt-ROW_WORDS
returns-then-place-lt-ROW_WORDS c =
    let xs = c.self.inside.words in
    let ys = c.other.inside.words in
    let k = c.args.place in
    let both : ℕ = bit_and (slice_index_or xs k 0) (slice_index_or ys k 0) in
    let mine = held xs c.args.self.now c.self.view_is in
    let theirs = held ys c.args.other.now c.other.view_is in (
      λ some.
          let found = in_both_from_word xs ys k (omega (arith, and_le_l (slice_index_or xs k 0) (slice_index_or ys k 0)))
          (λ none. absurd (false≢true (sym (ap (λ w. not (nat_eq w 0)) none) ∙ some))) in
          (found.0, found.1, sym (mine found.0) ∙ found.2, sym (theirs found.0) ∙ found.3),
      λ some. ap not (ne_eqb both 0 (λ none. none_in_both_at xs ys k none some.0 some.1 (mine some.0 ∙ some.2) (theirs some.0 ∙ some.3))),
    )

pub returns-else-place-lt-ROW_WORDS : goal.returns-else-place-lt-ROW_WORDS
returns-else-place-lt-ROW_WORDS c = (
  λ never. absurd (both_ways (ltb c.args.place 16) (le-ltb c.args.place 16 c.if-place-lt-ROW_WORDS.false) never),
  λ some. absurd (omega (arith, holds_within c.self.inside.words some.0 (held c.self.inside.words c.args.self.now c.self.view_is some.0 ∙ some.2), c.self.told, some.1, c.if-place-lt-ROW_WORDS.false)),
)
