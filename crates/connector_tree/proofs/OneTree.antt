-- Tokens are those of one tree at most.
use Rattle.std.proofs.Common.{◌≡◌, Bool, true, false, List, [], ◌∷◌, ◌++◌, refl, ap, sym, ◌∙◌, append-nil}
use Rattle.std.proofs.lemmas.Bool.{both_ways}
use Rattle.connector_tree.specs.declared.tree.Port.{Port}
use Rattle.connector_tree.specs.Tree.{Tree, no_child, child, Branch, leaf, bracket}
use Rattle.connector_tree.specs.declared.token.Token.{Token}
use Rattle.connector_tree.specs.declared.token.Token.TheVariants.{Leaf, Open, Close}
use Rattle.connector_tree.specs.Tokens.{tokens_of, branch_tokens}
use Rattle.connector_tree.proofs.Written.{bracket_before, child_before}

-- what may stand after the children of the root or of a bracket: nothing, or the bracket's end
ends : List Token → Bool
ends [] = true
ends (Leaf port trigger ∷ tokens) = false
ends (Open ∷ tokens) = false
ends (Close trigger ∷ tokens) = true

closes : (trigger : Bool) (rest : List Token) → ends (Close trigger ∷ rest) ≡ true
unfolding ends
closes trigger rest = refl

-- a branch doesn't end
goes_on : (branch : Branch) (trigger : Bool) (rest : List Token) → ends (branch_tokens branch trigger ++ rest) ≡ false
unfolding ends
goes_on (leaf atom port) trigger rest = refl
goes_on (bracket tree) trigger rest = refl

-- so nothing but children stands where a child does
not_after : (trigger : Bool) (branch : Branch) (tree : Tree) (later after : List Token) → ends later ≡ true → later ≡ tokens_of (child trigger branch tree) ++ after → ⊥
not_after trigger branch tree later after end same =
    both_ways (ends later) (ap ends (same ∙ child_before trigger branch tree after) ∙ goes_on branch trigger (tokens_of tree ++ after)) end

same_tail : (one other : Token) (tokens others : List Token) → one ∷ tokens ≡ other ∷ others → tokens ≡ others
same_tail one other tokens others same = cc

same_leaf : (port port' : Port) (trigger trigger' : Bool) (rest rest' : List Token) → Leaf port trigger ∷ rest ≡ Leaf port' trigger' ∷ rest' →
    (leaf port.atom port.port ≡ leaf port'.atom port'.port) × (trigger ≡ trigger') × (rest ≡ rest')
same_leaf port port' trigger trigger' rest rest' same =
    let is : port ≡ port' = cc in
    (ap (λ p. leaf p.atom p.port) is, cc, cc)

same_close : (trigger trigger' : Bool) (rest rest' : List Token) → Close trigger ∷ rest ≡ Close trigger' ∷ rest' → (trigger ≡ trigger') × (rest ≡ rest')
same_close trigger trigger' rest rest' same = (cc, cc)

mutual
  same_rows : (one other : Tree) (later later' : List Token) → ends later ≡ true → ends later' ≡ true → tokens_of one ++ later ≡ tokens_of other ++ later' → (one ≡ other) × (later ≡ later')
  same_rows no_child no_child later later' e e' same = (refl, same)
  same_rows no_child (child trigger branch tree) later later' e e' same = absurd (not_after trigger branch tree later later' e same)
  same_rows (child trigger branch tree) no_child later later' e e' same = absurd (not_after trigger branch tree later' later e' (sym same))
  same_rows (child trigger branch tree) (child trigger' branch' tree') later later' e e' same =
      let first = same_branches branch branch' trigger trigger' (tokens_of tree ++ later) (tokens_of tree' ++ later') (sym (child_before trigger branch tree later) ∙ same ∙ child_before trigger' branch' tree' later') in
      let others = same_rows tree tree' later later' e e' first.2 in
      ((λ i. child (first.1 i) (first.0 i) (others.0 i)), others.1)

  same_branches : (one other : Branch) (trigger trigger' : Bool) (rest rest' : List Token) → branch_tokens one trigger ++ rest ≡ branch_tokens other trigger' ++ rest' → (one ≡ other) × (trigger ≡ trigger') × (rest ≡ rest')
  same_branches (leaf atom port) (leaf atom' port') trigger trigger' rest rest' same = same_leaf (record { atom = atom; port = port }) (record { atom = atom'; port = port' }) trigger trigger' rest rest' same
  same_branches (leaf atom port) (bracket tree) trigger trigger' rest rest' same = absurd (cc)
  same_branches (bracket tree) (leaf atom port) trigger trigger' rest rest' same = absurd (cc)
  same_branches (bracket tree) (bracket tree') trigger trigger' rest rest' same =
      let inside = same_tail Open Open (tokens_of tree ++ Close trigger ∷ rest) (tokens_of tree' ++ Close trigger' ∷ rest') (sym (bracket_before tree trigger rest) ∙ same ∙ bracket_before tree' trigger' rest') in
      let row = same_rows tree tree' (Close trigger ∷ rest) (Close trigger' ∷ rest') (closes trigger rest) (closes trigger' rest') inside in
      let ended = same_close trigger trigger' rest rest' row.1 in
      (ap bracket row.0, ended.0, ended.1)

pub one_tree : (one other : Tree) → tokens_of one ≡ tokens_of other → one ≡ other
unfolding ends
one_tree one other same = (same_rows one other [] [] refl refl (append-nil (tokens_of one) ∙ same ∙ sym (append-nil (tokens_of other)))).0
