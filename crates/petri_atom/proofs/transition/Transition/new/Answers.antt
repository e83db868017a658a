use Rattle.std.proofs.Common.{ℕ, List, ◌∙◌, ap}
use Rattle.std.specs.Prelude.{bit_and}
use Rattle.std.specs.Int.{bit_not, w64}
use Rattle.petri_atom.specs.Local.{is_in, set_below}
use Rattle.petri_atom.proofs.Markings.{blocking-word}
use Rattle.petri_atom.proofs.transition.Transition.new.Goals as goal

-- the set of a list of places
abbrev word : List ℕ → ℕ
word places = set_below 64 (is_in places)

pub invariant_of-result-clause-source_bits : goal.invariant_of-result-clause-source_bits
invariant_of-result-clause-source_bits c = c.word_of-source_word.ensures ∙ ap word c.deref.ensures.value

pub invariant_of-result-clause-target_bits : goal.invariant_of-result-clause-target_bits
invariant_of-result-clause-target_bits c = c.word_of-target_word.ensures ∙ ap word c.deref-2.ensures.value

pub invariant_of-result-clause-blocking_bits : goal.invariant_of-result-clause-blocking_bits
invariant_of-result-clause-blocking_bits c =
    ap (λ w. bit_and w (bit_not w64 c.word_of-source_word.result)) (c.word_of-target_word.ensures ∙ ap word c.deref-2.ensures.value) ∙
    ap (λ w. bit_and (word c.args.targets.items) (bit_not w64 w)) (c.word_of-source_word.ensures ∙ ap word c.deref.ensures.value) ∙
    blocking-word c.args.sources.items c.args.targets.items
