-- The texts of the tokens of a connector, at a port, at a bracket, and over several children.
use Rattle.std.proofs.Common.{◌≡◌, ℕ, ◌+◌, ◌<◌, Bool, List, [], ◌∷◌, ◌++◌, length, drop, get_or, ap, sym, subst, ◌∙◌, append_assoc, append-nil}
use Rattle.std.specs.Prelude.{Option, Result, Ok, Err, OnOk, flat_map}
use Rattle.std.specs.Io.KnownBytes.{Appends}
use Rattle.std.proofs.KnownBytes.{Appends-trans}
use Rattle.std.specs.declared.vec.Vec.{Vec}
use Rattle.std.specs.declared.alloc.Global.{Global}
use Rattle.std.proofs.lemmas.Grind.{flat_map-append}
use Rattle.std.proofs.lemmas.List.{drop_more}
use Rattle.connector_tree.specs.declared.tree.Child.{Child}
use Rattle.connector_tree.specs.declared.tree.Node.TheVariants as node
use Rattle.connector_tree.specs.declared.token.Token.{Token}
use Rattle.connector_tree.specs.declared.token.Token.TheVariants.{Leaf, Open, Close}
use Rattle.connector_tree.specs.Tokens.{node_tokens, children_tokens}
use Rattle.connector_tree.proofs.Written.{tokens-leaf, tokens-fusion}
use Rattle.text_io.proofs.Leading.{Leads, leads-more, leads-same}

-- a port has one text
pub leaf-text : (say : Token → List ℕ) (atom port : ℕ) (trigger : Bool) → flat_map say (node_tokens (node.Leaf atom port) trigger) ≡ say (Leaf (record { atom = atom; port = port }) trigger)
leaf-text say atom port trigger = ap (flat_map say) (tokens-leaf atom port trigger) ∙ append-nil (say (Leaf (record { atom = atom; port = port }) trigger))

-- a bracket has its begin, its children and its end
pub fusion-text : (say : Token → List ℕ) (children : Vec Child Global) (trigger : Bool) → flat_map say (node_tokens (node.Fusion children) trigger) ≡ say Open ++ flat_map say (children_tokens children.items) ++ say (Close trigger)
fusion-text say children trigger =
    ap (flat_map say) (tokens-fusion children trigger)
    ∙ ap (λ text. say Open ++ text) (flat_map-append say (children_tokens children.items) (Close trigger ∷ []))
    ∙ ap (λ text. say Open ++ (flat_map say (children_tokens children.items) ++ text)) (append-nil (say (Close trigger)))
    ∙ sym (append_assoc (say Open) (flat_map say (children_tokens children.items)) (say (Close trigger)))

-- a child is printed, and its siblings are left
pub leads-child : (say : Token → List ℕ) (children : List Child) (i : ℕ) (child : Child) (start now next : Option (List ℕ)) (all : List ℕ)
    → i < length children → child ≡ get_or children i child → Leads start now (flat_map say (children_tokens (drop i children))) all
    → Appends now next (flat_map say (node_tokens child.node child.trigger)) → Leads start next (flat_map say (children_tokens (drop (i + 1) children))) all
leads-child say children i child start now next all within here l p =
    let later : List Token = children_tokens (drop (i + 1) children) in
    let printed : flat_map say (children_tokens (drop i children)) ≡ flat_map say (node_tokens child.node child.trigger) ++ flat_map say later =
    ap (λ cs. flat_map say (children_tokens cs)) (drop_more children i child within)
    ∙ flat_map-append say (node_tokens (get_or children i child).node (get_or children i child).trigger) later
    ∙ ap (λ c. flat_map say (node_tokens c.node c.trigger) ++ flat_map say later) (sym here) in
    leads-more _ _ _ _ _ _ (leads-same l printed) p

-- a bracket is printed: its begin, its children and its end
pub bracket-printed : {T E : Type 0} (say : Token → List ℕ) (children : Vec Child Global) (trigger : Bool) (result : Result T E) (start begun printed after : Option (List ℕ))
    → Appends start begun (say Open) → Appends begun printed (flat_map say (children_tokens children.items)) → OnOk result (Appends printed after (say (Close trigger)))
    → OnOk result (Appends start after (flat_map say (node_tokens (node.Fusion children) trigger)))
bracket-printed say children trigger (Err fault) start begun printed after begins tells ends = tt
bracket-printed say children trigger (Ok done) start begun printed after begins tells ends =
    subst (Appends start after) (sym (fusion-text say children trigger))
    (Appends-trans start printed after (say Open ++ flat_map say (children_tokens children.items)) (say (Close trigger)) (Appends-trans start begun printed (say Open) (flat_map say (children_tokens children.items)) begins tells) ends)
