-- The tokens of a draft, as it grows.
use Rattle.std.proofs.Common.{◌≡◌, ℕ, Bool, Option, Some, List, [], ◌∷◌, ◌++◌, ap, sym, ◌∙◌, append_assoc, append-nil}
use Rattle.std.specs.declared.vec.Vec.{Vec}
use Rattle.std.specs.declared.alloc.Global.{Global}
use Rattle.std.specs.Option.{option_to_list}
use Rattle.std.specs.List.{flat_map}
use Rattle.std.proofs.lemmas.Grind.{flat_map-append}
use Rattle.connector_tree.specs.declared.tree.Child.{Child}
use Rattle.connector_tree.specs.declared.tree.Node.TheVariants as node
use Rattle.connector_tree.specs.declared.token.Token.{Token}
use Rattle.connector_tree.specs.declared.token.Token.TheVariants.{Leaf, Open, Close}
use Rattle.connector_tree.specs.Tokens.{children_tokens}
use Rattle.connector_tree.specs.TreeDrafts.{tokens_before}
use Rattle.connector_tree.proofs.Written.{tokens-leaf, tokens-fusion, children-push}

regroup : (before around inner : List Token) (first last : Token) →
    before ++ (around ++ (first ∷ (inner ++ last ∷ []))) ≡ ((before ++ ((around ++ first ∷ []) ++ [])) ++ inner) ++ last ∷ []
regroup before around inner first last = simp (append_assoc, append-nil)

-- a bracket that ends becomes a child of the bracket around it
pub bracket_ended : (outer : List (Vec Child Global)) (around inner : Vec Child Global) (trigger : Bool) →
    flat_map tokens_before outer ++ children_tokens (around.items ++ record { trigger = trigger; node = node.Fusion inner } ∷ [])
    ≡ (flat_map tokens_before (outer ++ around ∷ []) ++ children_tokens inner.items) ++ Close trigger ∷ []
bracket_ended outer around inner trigger =
    let before = flat_map tokens_before outer in
    ap (λ tokens. before ++ tokens) (children-push around.items (record { trigger = trigger; node = node.Fusion inner }))
    ∙ ap (λ tokens. before ++ (children_tokens around.items ++ tokens)) (tokens-fusion inner trigger)
    ∙ regroup before (children_tokens around.items) (children_tokens inner.items) Open (Close trigger)
    ∙ ap (λ tokens. (tokens ++ children_tokens inner.items) ++ Close trigger ∷ []) (sym (flat_map-append tokens_before outer (around ∷ [])))

-- the same, of what was taken from the brackets around and what was added to the innermost
pub bracket_made : (outer popped : List (Vec Child Global)) (last : Option (Vec Child Global)) (around dest inner taken : Vec Child Global) (trigger : Bool) (made : List Child) →
    outer ≡ popped ++ option_to_list last → last ≡ Some around → taken ≡ inner → dest ≡ around →
    made ≡ dest.items ++ record { trigger = trigger; node = node.Fusion taken } ∷ [] →
    flat_map tokens_before popped ++ children_tokens made ≡ (flat_map tokens_before outer ++ children_tokens inner.items) ++ Close trigger ∷ []
bracket_made outer popped last around dest inner taken trigger made pops is_last takes places makes =
    ap (λ items. flat_map tokens_before popped ++ children_tokens items)
    (makes ∙ ap (λ v. v.items ++ record { trigger = trigger; node = node.Fusion taken } ∷ []) places ∙ ap (λ v. around.items ++ record { trigger = trigger; node = node.Fusion v } ∷ []) takes)
    ∙ bracket_ended popped around inner trigger
    ∙ ap (λ vs. (flat_map tokens_before vs ++ children_tokens inner.items) ++ Close trigger ∷ []) (sym (pops ∙ ap (λ o. popped ++ option_to_list o) is_last))

-- a port becomes a child of the innermost bracket
pub leaf_made : (outer : List (Vec Child Global)) (children made : List Child) (atom port : ℕ) (trigger : Bool) →
    made ≡ children ++ record { trigger = trigger; node = node.Leaf atom port } ∷ [] →
    flat_map tokens_before outer ++ children_tokens made ≡ (flat_map tokens_before outer ++ children_tokens children) ++ Leaf (record { atom = atom; port = port }) trigger ∷ []
leaf_made outer children made atom port trigger makes =
    ap (λ items. flat_map tokens_before outer ++ children_tokens items) makes
    ∙ ap (λ tokens. flat_map tokens_before outer ++ tokens) (children-push children (record { trigger = trigger; node = node.Leaf atom port }) ∙ ap (λ tokens. children_tokens children ++ tokens) (tokens-leaf atom port trigger))
    ∙ sym (append_assoc (flat_map tokens_before outer) (children_tokens children) (Leaf (record { atom = atom; port = port }) trigger ∷ []))
