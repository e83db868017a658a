use Rattle.std.proofs.Common.{◌≡◌, ◌∙◌, ◌&&◌, true, List, [], length, ap, sym, subst}
use Rattle.std.specs.Prelude.{nat_le}
use Rattle.std.proofs.lemmas.Bool.{and_from, and_parts, leb-true}
use Rattle.petri_atom.specs.Expression.{Tree, tree_of, has_variables_below, word_count}
use Rattle.petri_atom.specs.StraightCode.{is_codable, IsCodeOf}
use Rattle.plant_model.specs.Numbering.{are_listed, listed, numbered}
use Rattle.plant_model.specs.declared.bound_expressions.AtomVariable.{AtomVariable}
use Rattle.plant_model.proofs.Numbered.{all-listed, numbered-below, numbered-words}
use Rattle.plant_model.proofs.row_code.RowCode.of.Goals as goal

-- what fits the limits has code
codable : (list : List AtomVariable) (tree : Tree AtomVariable) → (nat_le (length list) 16 && nat_le (word_count tree) 64) ≡ true → is_codable (numbered list tree) ≡ true
codable list tree fits =
    let parts = and_parts (nat_le (length list) 16) (nat_le (word_count tree) 64) fits in
    and_from (nat_le (word_count (numbered list tree)) 64) (has_variables_below 16 (numbered list tree))
    (ap (λ n. nat_le n 64) (numbered-words list tree) ∙ parts.1)
    (numbered-below list 16 (leb-true (length list) 16 parts.0) tree)

pub of-requires : goal.of-requires
of-requires c =
    let list = c.list_variables.new.list.items in
    let tree = tree_of c.args.tree.now in
    ap is_codable (c.in_ok-numbered.ensures ∙ ap (λ vs. numbered vs tree) c.deref-2.ensures.value) ∙
    codable list tree
    (ap (λ vs. nat_le (length vs) 16 && nat_le (word_count tree) 64) (sym c.deref.ensures.value) ∙ sym c.fits_code.ensures ∙ c.if-not-fits_code.false)

pub returns-clause-code : goal.returns-clause-code
returns-clause-code c =
    let tree = tree_of c.args.tree.now in (
      ap (λ vs. are_listed vs tree) (c.in_ok-list_variables.ensures ∙ ap (λ vs. listed vs tree) c.new-variables.ensures.items) ∙ all-listed tree [],
      subst (IsCodeOf c.in_ok-code.code) (c.in_ok-numbered.ensures ∙ ap (λ vs. numbered vs tree) c.deref-2.ensures.value) (c.in_ok-code.ensures),
    )
